-- the shapes so far
use Rattle.std.proofs.Common.{◌≡◌, take}
use Rattle.un_domains.proofs.store.copy_shapes.Given as goal

abbrev pub invariant-loop-shape : goal.invariant-loop-shape
invariant-loop-shape l = l.same.items ≡ take l.shape-index l.shapes
