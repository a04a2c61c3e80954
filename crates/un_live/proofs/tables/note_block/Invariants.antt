-- the operations that are left are to be noted
use Rattle.std.proofs.Common.{◌≡◌, drop}
use Rattle.un_live.specs.Tables.{noted_ops}
use Rattle.un_live.proofs.tables.note_block.Given as goal

abbrev pub invariant-loop-o : goal.invariant-loop-o
invariant-loop-o l = noted_ops l.table (drop l.o-index l.o-items) ≡ noted_ops l.initial.table l.o-items
