use Rattle.std.proofs.Common.{All, take}
use Rattle.un_rooms.specs.Reach.{IsBetween}
use Rattle.un_sites.specs.declared.sites.Spot.{Spot}
use Rattle.un_rooms.proofs.span.span_of.Given as goal

abbrev pub invariant-loop-p : goal.invariant-loop-p
invariant-loop-p l = All (λ (p : Spot). IsBetween l.span.low l.span.past p.op) (take l.p-index l.spots)
