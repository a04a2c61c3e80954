use Rattle.std.proofs.Common.{ℕ, All, take}
use Rattle.un_rooms.specs.Reach.{IsBetween, IsArcBetween}
use Rattle.un_rooms.proofs.span.with_arcs.Given as goal

abbrev pub invariant-loop-arc : goal.invariant-loop-arc
invariant-loop-arc l = All (IsArcBetween l.wider.low l.wider.past) (take l.arc-index l.arcs) × ((k : ℕ) →
    IsBetween l.fn.span.low l.fn.span.past k → IsBetween l.wider.low l.wider.past k)
