use Rattle.std.proofs.Common.{◌≡◌, ◌++◌, List, drop, map}
use Rattle.std.specs.Prelude.{◌==◌, not, filter}
use Rattle.std.specs.List.{AllZip}
use Rattle.un_model.specs.declared.model.Arc.{Arc}
use Rattle.un_rooms.specs.Calls.{SeesCall}
use Rattle.un_sites.specs.Places.{Place}
use Rattle.un_sites.specs.Rooms.{call_at}
use Rattle.un_sites.specs.Sites.{definer_at}
use Rattle.un_rooms.proofs.call_rows.calls_but.Given as goal

abbrev pub invariant-loop-call : goal.invariant-loop-call
invariant-loop-call l = (arcs : List Arc) (ps qs : List Place) → AllZip (SeesCall arcs ps l.first) qs l.calls → l.made ++ map
    (call_at arcs ps l.t (definer_at l.definer).place)
    (filter (λ (p : Place). not (p.op == (definer_at l.definer).place.op)) (drop l.call-index qs)) ≡ map
    (call_at arcs ps l.t (definer_at l.definer).place) (filter (λ (p : Place). not (p.op == (definer_at l.definer).place.op)) qs)
