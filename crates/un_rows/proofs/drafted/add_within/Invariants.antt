-- those that are added, and those of the rest
use Rattle.std.proofs.Common.{◌≡◌, ◌++◌, drop}
use Rattle.un_rows.specs.Drafts.{within}
use Rattle.un_rows.proofs.drafted.add_within.Given as goal

abbrev pub invariant-loop-arc : goal.invariant-loop-arc
invariant-loop-arc l = l.arcs ++ within l.count (drop l.arc-index l.more) ≡ l.initial.arcs ++ within l.count l.more
