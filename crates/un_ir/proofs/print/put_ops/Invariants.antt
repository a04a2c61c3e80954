use Rattle.std.proofs.Common.{◌≡◌, ◌++◌, drop, map}
use Rattle.std.specs.List.{flat_map}
use Rattle.un_ir.specs.Text.{op_line, ended}
use Rattle.un_ir.proofs.print.put_ops.Given as goal

-- the text so far with what is left is the whole
abbrev pub invariant-loop-o : goal.invariant-loop-o
invariant-loop-o l =
    l.out.items ++ flat_map ended (map (op_line l.names) (drop l.o-index l.ops))
    ≡ l.initial.out.items ++ flat_map ended (map (op_line l.names) l.ops)
