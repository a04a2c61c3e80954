use Rattle.std.proofs.Common.{◌≡◌, drop}
use Rattle.un_press.specs.Searches.{is_there, read_in}
use Rattle.un_press.proofs.carrier.read_in.Given as goal

abbrev pub invariant-loop-k : goal.invariant-loop-k
invariant-loop-k l =
    read_in (is_there l.m l.values l.sought.value l.sought.by) l.values l.t l.end (drop l.k l.block.ops) (drop l.k l.vars.ops) ≡
    read_in (is_there l.m l.values l.sought.value l.sought.by) l.values l.t l.end l.block.ops l.vars.ops
