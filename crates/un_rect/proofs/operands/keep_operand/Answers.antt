use Rattle.std.proofs.Common.{ℕ, List, ap, subst}
use Rattle.un_base.specs.declared.ids.VarId.{VarId}
use Rattle.un_prop.specs.Going.{Stepped}
use Rattle.un_prop.specs.GoingLaws.{stepped_chain}
use Rattle.un_prop.specs.Places.{places_in, choice_steps}
use Rattle.un_prop.specs.declared.act.Act.TheVariants.{Always}
use Rattle.un_rect.specs.Operands.{side_can, fixed_cut}
use Rattle.un_rect.specs.Sides.{side_of}
use Rattle.un_rect.proofs.operands.keep_operand.Goals as goal

pub returns-clause-step : goal.returns-clause-step
returns-clause-step c =
    let w = c.args.w.now in
    let vs = w.vars.now in
    let a = side_of c.args.f.now.one in
    let b = side_of c.args.f.now.other in
    let first = c.keep_choice-first in
    let did = c.keep_fixed in
    let f = λ (n : ℕ). choice_steps Always a.choice (side_can a b) n in
    stepped_chain vs (f (places_in a.regs)) (fixed_cut a b) w.store.now first.new.w.store.now did.new.w.store.now c.args.before
    first.result did.result
    (subst (λ (n : ℕ). Stepped vs (f n) w.store.now first.new.w.store.now c.args.before first.result) c.places-n.ensures first.ensures.step)
    (subst (λ (us : List VarId). Stepped us (fixed_cut a b) first.new.w.store.now did.new.w.store.now first.result did.result)
    (ap (λ r. r.now) first.ensures.vars) did.ensures.step)
