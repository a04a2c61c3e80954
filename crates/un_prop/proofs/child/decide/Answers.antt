use Rattle.std.proofs.Common.{ℕ, ap, subst, sym, length, nat_le, nat_lt, ◌∙◌}
use Rattle.std.proofs.lemmas.List.{length-set}
use Rattle.un_domains.specs.Sets.{cut_by}
use Rattle.un_prop.specs.Pruning.{Ends}
use Rattle.un_prop.specs.GoingLaws.{cut_ends}
use Rattle.un_domains.specs.Sides.{side_test}
use Rattle.un_domains.specs.declared.side.Side.{Side}
use Rattle.un_prop.specs.declared.propagator.Pruned.{Pruned}
use Rattle.un_prop.proofs.child.decide.Goals as goal

pub returns-in-AtMost : goal.returns-in-AtMost
returns-in-AtMost c =
    let s = c.args.store.now in
    let new = c.keep_le.new.self in
    let q = λ (y : ℕ). nat_le y c.args.x in
    let v = c.args.v.0 in
    let ends = cut_ends q v s new c.requires.there c.requires.live c.keep_le.result c.keep_le.ensures in
    let as_side = subst (λ (d : Side). Ends (cut_by (side_test d c.args.x) v s.sets) s.sets new.sets c.answer.result) (sym c.in-AtMost.is)
    (subst (λ (a : Pruned). Ends (cut_by q v s.sets) s.sets new.sets a) (sym c.answer.ensures) ends) in
    record { ends = as_side; marked = c.keep_le.ensures.marked; long = ap length c.keep_le.ensures.sets ∙ length-set _ _ _ }

pub returns-in-Above : goal.returns-in-Above
returns-in-Above c =
    let s = c.args.store.now in
    let new = c.keep_gt.new.self in
    let q = λ (y : ℕ). nat_lt c.args.x y in
    let v = c.args.v.0 in
    let ends = cut_ends q v s new c.requires.there c.requires.live c.keep_gt.result c.keep_gt.ensures in
    let as_side = subst (λ (d : Side). Ends (cut_by (side_test d c.args.x) v s.sets) s.sets new.sets c.answer-in-Above.result)
    (sym c.in-Above.is)
    (subst (λ (a : Pruned). Ends (cut_by q v s.sets) s.sets new.sets a) (sym c.answer-in-Above.ensures) ends) in
    record { ends = as_side; marked = c.keep_gt.ensures.marked; long = ap length c.keep_gt.ensures.sets ∙ length-set _ _ _ }
