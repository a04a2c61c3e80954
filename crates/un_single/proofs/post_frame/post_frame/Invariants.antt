use Rattle.std.proofs.Common.{◌≡◌, ◌++◌, drop, map}
use Rattle.un_ir.specs.Extended.{is_enter}
use Rattle.un_sites.specs.Postings.{frame_by, frame_of, with_kind}
use Rattle.un_sites.specs.Sites.{place_of, definers_in}
use Rattle.un_single.proofs.post_frame.post_frame.Given as goal

abbrev pub invariant-loop-p : goal.invariant-loop-p
invariant-loop-p l = l.props ++ map (frame_by l.m (definers_in l.sites) (map place_of l.spots))
    (with_kind is_enter (map place_of (drop l.p-index l.spots))) ≡ l.initial.props ++ frame_of l.m
    (definers_in l.sites) (map place_of l.spots)
