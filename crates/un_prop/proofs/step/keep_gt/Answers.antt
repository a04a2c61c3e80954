use Rattle.std.proofs.Common.{ℕ, nat_lt, length, refl, ◌∙◌, ap}
use Rattle.std.proofs.lemmas.List.{length-set}
use Rattle.un_domains.specs.Sets.{cut_by}
use Rattle.un_prop.specs.AmongLaws.{in_list}
use Rattle.un_prop.specs.Going.{answer_of}
use Rattle.un_prop.specs.GoingLaws.{cut_ends, cut_untouched, stepped_then}
use Rattle.un_prop.specs.Pruning.{join}
use Rattle.un_prop.proofs.step.keep_gt.Goals as goal

pub keep_gt-requires-clause-lent : goal.keep_gt-requires-clause-lent
keep_gt-requires-clause-lent c = in_list c.args.w.now.vars.now c.args.v c.requires.lent

pub returns-clause-step : goal.returns-clause-step
returns-clause-step c =
    let w = c.args.w.now in
    let old = w.store.now in
    let new = c.keep_gt.new.self.store.now in
    let q = λ (y : ℕ). nat_lt c.args.x y in
    let v = c.args.v in
    let there = in_list w.vars.now v c.requires.lent in
    stepped_then w.vars.now (cut_by q v.0) old new c.args.before (answer_of c.keep_gt.result) c.joined.result c.requires.going
    (c.joined.ensures ∙ ap (join c.args.before) c.answer-did.ensures) (ap length c.keep_gt.ensures.cut.sets ∙ length-set _ _ _) (λ live. (
      cut_ends q v.0 old new c.requires.there live c.keep_gt.result c.keep_gt.ensures.cut,
      cut_untouched q v.0 old new c.requires.there live w.vars.now v c.keep_gt.result refl there c.keep_gt.ensures.cut,
    ))
