-- the numbers so far with those that are left are the whole, and no more trees wait than nodes were read
use Rattle.std.proofs.Common.{◌≡◌, ◌≤◌, drop}
use Rattle.un_tree.specs.Parts.{part_numbers, told}
use Rattle.un_tree.specs.Reading.{told_behind}
use Rattle.un_tree.proofs.parts.parts_in.Given as goal

abbrev pub invariant-loop-node : goal.invariant-loop-node
invariant-loop-node l = record {
  whole : told_behind l.reading (drop l.node-index l.nodes) ≡ told (part_numbers l.blocks l.nodes);
  few : l.reading.trees ≤ l.node-index;
}
