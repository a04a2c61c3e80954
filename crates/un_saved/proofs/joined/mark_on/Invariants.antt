use Rattle.std.proofs.Common.{◌≡◌, drop}
use Rattle.std.specs.Prelude.{fold}
use Rattle.un_saved.specs.Joined.{marked_by}
use Rattle.un_saved.proofs.joined.mark_on.Given as goal

abbrev pub invariant-loop-e : goal.invariant-loop-e
invariant-loop-e l = fold marked_by l.m (drop l.e-index l.links) ≡ fold marked_by l.initial.m l.links
