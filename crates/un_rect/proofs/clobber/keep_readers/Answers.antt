use Rattle.std.proofs.Common.{List, ◌<◌, ◌∙◌, length, get_or, None, sym, ap, subst}
use Rattle.un_base.specs.declared.ids.VarId.{VarId}
use Rattle.un_prop.specs.Going.{Stepped}
use Rattle.un_prop.specs.declared.act.Act.TheVariants.{Always}
use Rattle.un_prop.specs.declared.act.At.TheVariants.{Const}
use Rattle.un_prop.specs.declared.act.UserOf.{UserOf}
use Rattle.un_rect.specs.Spans.{UserVars}
use Rattle.un_rect.specs.Clobber.{reader_cut}
use Rattle.un_rect.proofs.Loops.{stepped_entry}
use Rattle.un_rect.proofs.clobber.keep_readers.Goals as goal

pub keep_reader-did-requires-clause-of_user : goal.keep_reader-did-requires-clause-of_user
keep_reader-did-requires-clause-of_user c =
    let d : UserOf = record { on = Always; at = Const 0; choice = None; value = 0 } in
    let k = c.loop-u.u-index in
    subst (λ (us : List VarId). UserVars us (get_or c.as_slice-u-items.result.now k d)) (sym (ap (λ r. r.now) c.loop-u.invariant.vars))
    (subst (λ (xs : List UserOf). UserVars c.args.w.now.vars.now (get_or xs k d)) (sym c.as_slice-u-items.ensures)
    (c.requires.of_call.of_behind k d (subst (λ (xs : List UserOf). k < length xs) c.as_slice-u-items.ensures c.loop-u-test.true)))

pub loop-u-preserved : goal.loop-u-preserved
loop-u-preserved c =
    let w = c.args.w.now in
    let inv = c.loop-u.invariant in
    let did = c.keep_reader-did in
    let d : UserOf = record { on = Always; at = Const 0; choice = None; value = 0 } in
    let k = c.loop-u.u-index in
    let f = reader_cut c.args.mask c.args.a.now c.args.c.now in
    let us = c.args.c.now.behind in
    record {
      step = stepped_entry w.vars.now c.loop-u.w.vars.now f us k d w.store.now c.loop-u.w.store.now did.new.w.store.now c.args.before
          c.loop-u.did did.result
          (ap (λ r. r.now) inv.vars) (subst (λ (xs : List UserOf). k < length xs) c.as_slice-u-items.ensures c.loop-u-test.true) inv.step
          (subst (λ (xs : List UserOf). Stepped c.loop-u.w.vars.now (f (get_or xs k d)) c.loop-u.w.store.now did.new.w.store.now
          c.loop-u.did did.result) c.as_slice-u-items.ensures did.ensures.step);
      same_reference = did.ensures.same_reference ∙ inv.same_reference;
      vars = did.ensures.vars ∙ inv.vars;
    }
