-- the blocks that are left decide; b is a block
use Rattle.std.proofs.Common.{◌≡◌, ◌<◌, ◌-◌, length}
use Rattle.un_ir.specs.Source.{enter}
use Rattle.un_source.specs.States.{state_of}
use Rattle.un_source.proofs.blocks.run_blocks.Given as goal

abbrev pub invariant-loop-i : goal.invariant-loop-i
invariant-loop-i l = record {
  place : l.b < length l.blocks;
  run : enter l.blocks l.n 0 (state_of l.replies l.initial.s) ≡ enter l.blocks (l.n - l.i) l.b (state_of l.replies l.s);
}
