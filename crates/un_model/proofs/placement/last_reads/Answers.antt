use Rattle.std.proofs.Common.{List, ap, ◌∙◌}
use Rattle.un_model.specs.declared.schedule.Read.{Read}
use Rattle.un_model.specs.Schedules.{last_read}
use Rattle.std.proofs.lemmas.List.{take_all}
use Rattle.un_model.proofs.placement.last_reads.Goals as goal

pub returns : goal.returns
returns c =
    let e = take_all c.loop-r.r-index c.args.reads.now c.loop-r-test.false in
    (c.loop-r.invariant.0, λ k h. c.loop-r.invariant.1 k h ∙ ap (λ (rs : List Read). last_read rs k) e)
