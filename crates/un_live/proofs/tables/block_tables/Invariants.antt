-- the tables of the blocks so far, and those of the blocks that are left
use Rattle.std.proofs.Common.{◌≡◌, ◌++◌, map, drop}
use Rattle.un_live.specs.Tables.{table_of}
use Rattle.un_live.proofs.tables.block_tables.Given as goal

abbrev pub invariant-loop-block : goal.invariant-loop-block
invariant-loop-block l = l.tables ++ map (table_of l.names) (drop l.block-index l.blocks) ≡ map (table_of l.names) l.blocks
