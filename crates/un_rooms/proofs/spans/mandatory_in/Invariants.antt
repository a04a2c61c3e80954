use Rattle.std.proofs.Common.{◌≡◌, ◌++◌, drop, map}
use Rattle.un_ir.specs.Kinds.{is_mandatory}
use Rattle.un_sites.specs.Postings.{with_kind}
use Rattle.un_sites.specs.Sites.{place_of}
use Rattle.un_rooms.proofs.spans.mandatory_in.Given as goal

abbrev pub invariant-loop-p : goal.invariant-loop-p
invariant-loop-p l = map place_of l.found ++ with_kind is_mandatory (map place_of (drop l.p-index l.spots)) ≡
    with_kind is_mandatory (map place_of l.spots)
