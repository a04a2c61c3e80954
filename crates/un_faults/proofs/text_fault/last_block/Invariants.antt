-- the last block line so far
use Rattle.std.proofs.Common.{◌≡◌, ◌<◌, drop, length, IfSome}
use Rattle.std.specs.List.{fold, enumerate_from}
use Rattle.un_faults.specs.TextFaults.{later_block, last_block}
use Rattle.un_faults.proofs.text_fault.last_block.Given as goal

abbrev pub invariant-loop-i : goal.invariant-loop-i
invariant-loop-i l = record {
  place : last_block l.lines ≡ fold later_block l.last (enumerate_from l.i (drop l.i l.lines));
  bound : IfSome l.last (λ k. k < length l.lines);
}
