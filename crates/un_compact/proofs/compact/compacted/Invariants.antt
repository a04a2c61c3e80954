use Rattle.std.proofs.Common.{◌≡◌, take}
use Rattle.un_model.specs.Pairs.{places_from}
use Rattle.un_compact.specs.Retimed.{moved_by}
use Rattle.un_compact.proofs.compact.compacted.Given as goal

abbrev pub invariant-loop-vars : goal.invariant-loop-vars
invariant-loop-vars l = l.new ≡ places_from (moved_by l.old (take l.vars-index l.m.blocks)) 0 l.old
