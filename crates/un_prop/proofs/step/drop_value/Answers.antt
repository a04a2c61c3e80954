use Rattle.std.proofs.Common.{ℕ, nat_eq, not, length, refl, ◌∙◌, ap}
use Rattle.std.proofs.lemmas.List.{length-set}
use Rattle.un_domains.specs.Sets.{cut_by}
use Rattle.un_prop.specs.AmongLaws.{in_list}
use Rattle.un_prop.specs.Going.{answer_of}
use Rattle.un_prop.specs.GoingLaws.{cut_ends, cut_untouched, stepped_then}
use Rattle.un_prop.specs.Pruning.{join}
use Rattle.un_prop.proofs.step.drop_value.Goals as goal

pub drop_value-requires-clause-lent : goal.drop_value-requires-clause-lent
drop_value-requires-clause-lent c = in_list c.args.w.now.vars.now c.args.v c.requires.lent

pub returns-clause-step : goal.returns-clause-step
returns-clause-step c =
    let w = c.args.w.now in
    let old = w.store.now in
    let new = c.drop_value.new.self.store.now in
    let q = λ (y : ℕ). not (nat_eq y c.args.x) in
    let v = c.args.v in
    let there = in_list w.vars.now v c.requires.lent in
    stepped_then w.vars.now (cut_by q v.0) old new c.args.before (answer_of c.drop_value.result) c.joined.result c.requires.going
    (c.joined.ensures ∙ ap (join c.args.before) c.answer-did.ensures) (ap length c.drop_value.ensures.cut.sets ∙ length-set _ _ _)
    (λ live. (
      cut_ends q v.0 old new c.requires.there live c.drop_value.result c.drop_value.ensures.cut,
      cut_untouched q v.0 old new c.requires.there live w.vars.now v c.drop_value.result refl there c.drop_value.ensures.cut,
    ))
