use Rattle.std.proofs.Common.{◌≡◌, ◌++◌, drop, map}
use Rattle.un_sites.specs.Postings.{in_entry}
use Rattle.un_sites.specs.Sites.{place_of}
use Rattle.un_single.proofs.post_frame.entry_spots.Given as goal

abbrev pub invariant-loop-p : goal.invariant-loop-p
invariant-loop-p l = map place_of l.found ++ in_entry (map place_of (drop l.p-index l.spots)) ≡ in_entry (map place_of l.spots)
