use Rattle.std.proofs.Common.{◌≡◌, All, length, map, take}
use Rattle.std.specs.List.{AllZip}
use Rattle.un_rooms.specs.Calls.{SeesCall}
use Rattle.un_ir.specs.Kinds.{is_call_kind}
use Rattle.un_sites.specs.Postings.{with_kind}
use Rattle.un_sites.specs.Sites.{place_of}
use Rattle.un_rooms.specs.declared.call_rows.CallSite.{CallSite}
use Rattle.un_rooms.proofs.see_calls.see_calls.Given as goal

abbrev pub invariant-loop-p : goal.invariant-loop-p
invariant-loop-p l = AllZip (SeesCall l.arcs (map place_of l.spots) l.span.first)
    (with_kind is_call_kind (map place_of (take l.p-index l.spots))) l.calls × All (λ (s : CallSite). length s.users ≡ l.span.count) l.calls
