use Rattle.std.proofs.Common.{◌≡◌, ◌∙◌, true, List, sym, ap, subst}
use Rattle.un_base.specs.declared.ids.VarId.{VarId}
use Rattle.un_prop.specs.Among.{among}
use Rattle.un_prop.specs.Rounds.{HasVars}
use Rattle.un_prop.specs.AmongLaws.{has_among}
use Rattle.un_prop.specs.GoingLaws.{stepped_same}
use Rattle.un_rect.specs.Entries.{each_entry}
use Rattle.un_rect.specs.Operands.{SideVars, other_cut}
use Rattle.un_rect.specs.Sides.{side_of}
use Rattle.un_rect.proofs.Going.{going}
use Rattle.un_rect.proofs.Loops.{stepped_entry}
use Rattle.un_rect.proofs.OperandSteps.{others_free}
use Rattle.un_rect.proofs.operands.keep_others.Goals as goal

pub is_free-requires-clause-vars : goal.is_free-requires-clause-vars
is_free-requires-clause-vars c = c.requires.vars

pub is_free-requires-clause-known : goal.is_free-requires-clause-known
is_free-requires-clause-known c = c.requires.known

pub is_free-requires-clause-live : goal.is_free-requires-clause-live
is_free-requires-clause-live c = c.requires.live (going c.args.before c.if-eq.ensures)

pub returns-then-is_free-clause-step : goal.returns-then-is_free-clause-step
returns-then-is_free-clause-step c =
    let w = c.args.w.now in
    let s = w.store.now in
    let b = side_of c.args.other.now in
    let v = c.args.v in
    stepped_same w.vars.now (each_entry (other_cut b v) b.allowed) s c.args.before
    (λ live. others_free b v s.sets (has_among w.vars.now v s.sets c.requires.lent c.requires.known) live
    (c.is_free.ensures c.if-is_free.true))

pub keep_other-did-requires-clause-lent : goal.keep_other-did-requires-clause-lent
keep_other-did-requires-clause-lent c = subst (λ (us : List VarId). among us c.args.v ≡ true)
    (sym (ap (λ r. r.now) c.loop-r.invariant.vars)) c.requires.lent

pub keep_other-did-requires-clause-vars : goal.keep_other-did-requires-clause-vars
keep_other-did-requires-clause-vars c = subst (λ (us : List VarId). SideVars us (side_of c.args.other.now))
    (sym (ap (λ r. r.now) c.loop-r.invariant.vars)) c.requires.vars

pub keep_other-did-requires-clause-known : goal.keep_other-did-requires-clause-known
keep_other-did-requires-clause-known c = subst (λ (us : List VarId). HasVars us c.loop-r.w.store.now.sets)
    (sym (ap (λ r. r.now) c.loop-r.invariant.vars))
    (λ i d lt. rw c.loop-r.invariant.step.long (c.requires.known i d lt))

pub keep_other-did-requires-clause-live : goal.keep_other-did-requires-clause-live
keep_other-did-requires-clause-live c = c.loop-r.invariant.step.live c.requires.live

pub loop-r-preserved : goal.loop-r-preserved
loop-r-preserved c =
    let w = c.args.w.now in
    let inv = c.loop-r.invariant in
    let did = c.keep_other-did in
    let b = side_of c.args.other.now in
    record {
      step = stepped_entry w.vars.now c.loop-r.w.vars.now (other_cut b c.args.v) b.allowed c.loop-r.r-index 0 w.store.now
          c.loop-r.w.store.now did.new.w.store.now c.args.before
          c.loop-r.did did.result (ap (λ r. r.now) inv.vars) c.loop-r-test.true inv.step did.ensures.step;
      same_reference = did.ensures.same_reference ∙ inv.same_reference;
      vars = did.ensures.vars ∙ inv.vars;
    }
