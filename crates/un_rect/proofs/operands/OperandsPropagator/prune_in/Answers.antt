use Rattle.std.proofs.Common.{List, ◌∙◌, ap, subst, refl}
use Rattle.un_base.specs.declared.ids.VarId.{VarId}
use Rattle.un_prop.specs.Last.{last_cut}
use Rattle.un_prop.specs.Going.{Goes, Stepped}
use Rattle.un_prop.specs.GoingLaws.{goes_chain, stepped_chain}
use Rattle.un_prop.specs.PartLaws.{checked}
use Rattle.un_prop.specs.declared.propagator.Pruned.TheVariants.{Same}
use Rattle.un_rect.specs.Operands.{Side, side, operands_holds, side_steps, operands_steps, operands_cut}
use Rattle.un_rect.specs.Sides.{side_of}
use Rattle.un_rect.proofs.operands.OperandsPropagator.prune_in.Goals as goal

pub returns-clause-prune : goal.returns-clause-prune
returns-clause-prune c =
    let p = c.args.self.now in
    let old = c.args.w.now.store.now in
    let one = c.keep_operand-first in
    let two = c.keep_operand-did in
    let mid = one.new.w.store.now in
    let low = two.new.w.store.now in
    let new = c.check_last.new.w.store.now in
    let a = side p.first p.first_regs p.first_set in
    let b = side p.second p.second_regs p.second_set in
    let t = operands_holds a b in
    let v1 = ap (λ r. r.now) one.ensures.vars ∙ c.requires.vars in
    let v2 = ap (λ r. r.now) two.ensures.vars ∙ v1 in
    let e1 = c.first_facing.ensures in
    let e2 = c.second_facing.ensures in
    let step1 = subst (λ (us : List VarId). Stepped us (side_steps a b) old mid Same one.result) c.requires.vars
    (subst (λ (q : Side). Stepped c.args.w.now.vars.now (side_steps a q) old mid Same one.result) e1.other
    (subst (λ (q : Side). Stepped c.args.w.now.vars.now (side_steps q (side_of c.first_facing.result.other)) old mid Same one.result)
    e1.one one.ensures.step)) in
    let step2 = subst (λ (us : List VarId). Stepped us (side_steps b a) mid low one.result two.result) v1
    (subst (λ (q : Side). Stepped one.new.w.vars.now (side_steps b q) mid low one.result two.result) e2.other
    (subst (λ (q : Side). Stepped one.new.w.vars.now (side_steps q (side_of c.second_facing.result.other)) mid low one.result two.result)
    e2.one two.ensures.step)) in
    let last = subst (λ (us : List VarId). Goes us (last_cut p.vars t) low new two.result c.check_last.result) v2
    c.check_last.ensures.goes in
    checked p.vars p.vars (operands_cut p.vars a b) old new c.check_last.result refl c.requires.live
    (goes_chain p.vars (operands_steps a b) (last_cut p.vars t) old low new Same two.result c.check_last.result
    (stepped_chain p.vars (side_steps a b) (side_steps b a) old mid low Same one.result two.result step1 step2) last)
