use Rattle.std.proofs.Common.{◌≡◌, drop}
use Rattle.un_press.specs.Searches.{is_there, read_in_blocks}
use Rattle.un_press.proofs.carrier.read_in_blocks.Given as goal

abbrev pub invariant-loop-k : goal.invariant-loop-k
invariant-loop-k l =
    read_in_blocks (is_there l.m l.values l.sought.value l.sought.by) l.values l.t (drop l.k l.m.ext.blocks) (drop l.k l.m.blocks) ≡
    read_in_blocks (is_there l.m l.values l.sought.value l.sought.by) l.values l.t l.m.ext.blocks l.m.blocks
