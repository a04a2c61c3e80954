use Rattle.std.proofs.Common.{◌≡◌, ◌++◌, drop, codes, map}
use Rattle.std.specs.List.{flat_map}
use Rattle.un_ir.specs.Text.{name_text}
use Rattle.un_ir.proofs.print.put_more_names.Given as goal

-- the text so far with what is left is the whole
abbrev pub invariant-loop-name : goal.invariant-loop-name
invariant-loop-name l =
    l.out.items ++ flat_map (λ x. codes ", " ++ x) (map (name_text l.names) (drop l.name-index l.list))
    ≡ l.initial.out.items ++ flat_map (λ x. codes ", " ++ x) (map (name_text l.names) l.list)
