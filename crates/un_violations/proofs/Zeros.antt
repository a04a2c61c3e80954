-- The items that the check puts where a list has none.
use Rattle.std.proofs.Common.{false, None}
use Rattle.un_model.specs.declared.schedule.Issue.{Issue}
use Rattle.un_model.specs.declared.schedule.LiveRange.{LiveRange}

abbrev pub zero_issue : Issue
zero_issue = record {
  block = record { 0 = 0 };
  op = record { 0 = 0 };
  instr = None;
  active = false;
  frame = false;
  zero = false;
  cycle =
      0;
  end = 0;
}

abbrev pub zero_range : LiveRange
zero_range = record { block = record { 0 = 0 }; op = record { 0 = 0 }; instr = None; active = false; reg = 0; from = 0; last = 0 }
