use Rattle.std.proofs.Common.{◌≡◌, ◌++◌, drop, map, All}
use Rattle.un_ir.specs.Kinds.{is_call_kind}
use Rattle.un_sites.specs.Postings.{with_kind}
use Rattle.un_rooms.specs.Reach.{IsWithin}
use Rattle.un_sites.specs.Sites.{place_of}
use Rattle.un_sites.specs.declared.sites.Spot.{Spot}
use Rattle.un_rooms.proofs.call_waits.calls_in.Given as goal

abbrev pub invariant-loop-p : goal.invariant-loop-p
invariant-loop-p l = (map place_of l.calls ++ with_kind is_call_kind (map place_of (drop l.p-index l.spots)) ≡
    with_kind is_call_kind (map place_of l.spots)) × All (λ (p : Spot). IsWithin l.fn.reach.low l.fn.reach.count p.op) l.calls
