-- the names that are left are to be noted
use Rattle.std.proofs.Common.{◌≡◌, drop}
use Rattle.un_live.specs.Tables.{noted_all}
use Rattle.un_live.proofs.tables.note_all.Given as goal

abbrev pub invariant-loop-name : goal.invariant-loop-name
invariant-loop-name l = noted_all l.table (drop l.name-index l.names) l.meeting ≡ noted_all l.initial.table l.names l.meeting
