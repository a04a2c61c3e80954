use Rattle.std.proofs.Common.{◌≡◌, ◌≤◌, take}
use Rattle.un_bound.specs.Plain.{needed}
use Rattle.un_bound.proofs.plain.needed.Given as goal

abbrev pub invariant-loop-op : goal.invariant-loop-op
invariant-loop-op l = record {
  value : l.sum ≡ needed l.resource (take l.op-index l.ops);
  few : l.sum ≤ l.op-index;
}
