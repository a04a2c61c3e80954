-- the ends so far
use Rattle.std.proofs.Common.{map, take}
use Rattle.un_domains.specs.Noted.{AreNoted}
use Rattle.un_domains.specs.Shapes.{set_of}
use Rattle.un_domains.proofs.ends.all_ends.Given as goal

abbrev pub invariant-loop-shape : goal.invariant-loop-shape
invariant-loop-shape l = AreNoted (map (set_of l.words) (take l.shape-index l.shapes)) l.noted.items
