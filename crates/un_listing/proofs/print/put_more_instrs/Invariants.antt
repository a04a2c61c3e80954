use Rattle.std.proofs.Common.{◌≡◌, ◌++◌, drop, codes}
use Rattle.std.specs.List.{flat_map}
use Rattle.un_listing.specs.Listing.{instr_text}
use Rattle.un_listing.proofs.print.put_more_instrs.Given as goal

-- the text so far with what is left is the whole
abbrev pub invariant-loop-instr : goal.invariant-loop-instr
invariant-loop-instr l =
    l.out.items ++ flat_map (λ i. codes "; " ++ instr_text i) (drop l.instr-index l.instrs)
    ≡ l.initial.out.items ++ flat_map (λ i. codes "; " ++ instr_text i) l.instrs
