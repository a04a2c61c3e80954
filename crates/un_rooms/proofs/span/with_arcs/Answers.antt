use Rattle.std.proofs.Common.{ℕ}
use Rattle.std.proofs.lemmas.List.Elements.{All-more}
use Rattle.un_model.specs.declared.model.Arc.{Arc}
use Rattle.un_rooms.specs.Reach.{IsArcBetween, IsBetween}
use Rattle.un_rooms.proofs.span.with_arcs.Goals as goal

pub loop-arc-preserved : goal.loop-arc-preserved
loop-arc-preserved c =
    let none : Arc = record { from = record { 0 = 0 }; to = record { 0 = 0 }; gap = 0 } in
    let wider : (k : ℕ) → IsBetween c.loop-arc.wider.low c.loop-arc.wider.past k → IsBetween c.with_number-wider.result.low
    c.with_number-wider.result.past k = λ k h. c.with_number-wider.ensures.kept k (c.with_number-one.ensures.kept k h) in (
      All-more (IsArcBetween c.with_number-wider.result.low c.with_number-wider.result.past) c.args.arcs.now c.loop-arc.arc-index none
          c.loop-arc-test.true
          (λ k d lt. let each = c.loop-arc.invariant.0 k d lt in (wider _ each.0, wider _ each.1))
          (c.with_number-wider.ensures.kept _ c.with_number-one.ensures.it, c.with_number-wider.ensures.it),
      λ k h. wider k (c.loop-arc.invariant.1 k h),
    )
