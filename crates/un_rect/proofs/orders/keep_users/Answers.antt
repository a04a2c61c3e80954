use Rattle.std.proofs.Common.{List, ◌∙◌, None, get_or, sym, ap, subst}
use Rattle.std.proofs.lemmas.List.{get_or_default}
use Rattle.un_base.specs.declared.ids.VarId.{VarId}
use Rattle.un_prop.specs.declared.act.Act.TheVariants.{Always}
use Rattle.un_prop.specs.declared.act.At.TheVariants.{Const}
use Rattle.un_prop.specs.declared.act.UserOf.{UserOf}
use Rattle.un_rect.specs.Spans.{UserVars}
use Rattle.un_rect.specs.Orders.{user_cut}
use Rattle.un_rect.proofs.Rows.{place_next}
use Rattle.un_rect.proofs.orders.keep_users.Goals as goal

pub keep_both-did-requires-clause-of_u : goal.keep_both-did-requires-clause-of_u
keep_both-did-requires-clause-of_u c =
    let d : UserOf = record { on = Always; at = Const 0; choice = None; value = 0 } in
    let i = c.loop-u.u-index in
    subst (λ (us : List VarId). UserVars us (get_or c.args.users.now i d)) (sym (ap (λ r. r.now) c.loop-u.invariant.vars))
    (c.requires.of_users i d c.loop-u-test.true)

pub loop-u-preserved : goal.loop-u-preserved
loop-u-preserved c =
    let d : UserOf = record { on = Always; at = Const 0; choice = None; value = 0 } in
    let i = c.loop-u.u-index in
    let users = c.args.users.now in
    let u = get_or users i d in
    let inv = c.loop-u.invariant in
    let did = c.keep_both-did in
    let e = ap (λ r. r.now) inv.vars in
    record {
      step = place_next (user_cut c.args.b.now) users u i c.args.w.now.vars.now c.loop-u.w.vars.now c.args.w.now.store.now
          c.loop-u.w.store.now did.new.w.store.now
          c.args.before c.loop-u.did did.result e (get_or_default users i d u c.loop-u-test.true) c.loop-u-test.true inv.step
          did.ensures.step;
      same_reference = did.ensures.same_reference ∙ inv.same_reference;
      vars = did.ensures.vars ∙ inv.vars;
    }
