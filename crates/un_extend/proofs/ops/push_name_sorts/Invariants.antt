use Rattle.std.proofs.Common.{◌≡◌, ◌++◌, map, drop}
use Rattle.un_ir.specs.ExtendOf.{sort_of_name}
use Rattle.un_extend.proofs.ops.push_name_sorts.Given as goal

abbrev pub invariant-loop-name : goal.invariant-loop-name
invariant-loop-name l =
    l.sorts ++ map (sort_of_name l.names) (drop l.name-index l.live_in) ≡ l.initial.sorts ++ map (sort_of_name l.names) l.live_in
