use Rattle.std.proofs.Common.{◌≡◌, ◌++◌, drop, codes}
use Rattle.std.specs.List.{flat_map}
use Rattle.un_listing.specs.Listing.{reg_text}
use Rattle.un_listing.proofs.pieces.put_more_regs.Given as goal

-- the text so far with what is left is the whole
abbrev pub invariant-loop-reg : goal.invariant-loop-reg
invariant-loop-reg l =
    l.out.items ++ flat_map (λ r. codes "," ++ reg_text r) (drop l.reg-index l.regs)
    ≡ l.initial.out.items ++ flat_map (λ r. codes "," ++ reg_text r) l.regs
