use Rattle.std.proofs.Common.{◌≡◌, drop}
use Rattle.un_model.specs.Pairs.{any_from}
use Rattle.un_symm.specs.Interchangeable.{is_home_in_block}
use Rattle.un_symm.proofs.homes.is_home_in.Given as goal

abbrev pub invariant-loop-k : goal.invariant-loop-k
invariant-loop-k l =
    any_from (is_home_in_block l.m.ext.table l.r.0) l.k (drop l.k l.m.ext.blocks)
    ≡ any_from (is_home_in_block l.m.ext.table l.r.0) 0 l.m.ext.blocks
