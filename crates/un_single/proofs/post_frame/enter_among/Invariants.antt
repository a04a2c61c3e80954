use Rattle.std.proofs.Common.{◌≡◌, drop, map}
use Rattle.un_ir.specs.Extended.{is_enter}
use Rattle.un_sites.specs.Postings.{enter_among, with_kind}
use Rattle.un_sites.specs.Sites.{place_of}
use Rattle.un_single.proofs.post_frame.enter_among.Given as goal

abbrev pub invariant-loop-p : goal.invariant-loop-p
invariant-loop-p l = enter_among (with_kind is_enter (map place_of (drop l.p-index l.spots))) ≡ enter_among
    (with_kind is_enter (map place_of l.spots))
