use Rattle.std.proofs.Common.{◌≡◌, ◌++◌, codes, drop}
use Rattle.std.specs.List.{flat_map}
use Rattle.un_ir.specs.Text.{name_text}
use Rattle.un_ir.proofs.print.put_params.Given as goal

-- the text so far with what is left is the whole
abbrev pub invariant-loop-param : goal.invariant-loop-param
invariant-loop-param l =
    l.out.items ++ flat_map (λ p. codes " " ++ name_text l.names p) (drop l.param-index l.params)
    ≡ l.initial.out.items ++ flat_map (λ p. codes " " ++ name_text l.names p) l.params
