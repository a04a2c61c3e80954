use Rattle.std.proofs.Common.{◌≡◌, drop}
use Rattle.std.specs.Prelude.{fold}
use Rattle.un_sites.specs.Saved.{marked_over}
use Rattle.un_rooms.proofs.crowds.mark_on.Given as goal

abbrev pub invariant-loop-e : goal.invariant-loop-e
invariant-loop-e l = fold (marked_over l.keeping) l.marks (drop l.e-index l.edges) ≡ fold (marked_over l.keeping) l.initial.marks l.edges
