use Rattle.std.proofs.Common.{◌≡◌, List, refl, subst, sym, ◌∙◌}
use Rattle.un_packet.specs.declared.code.CodeBlock.{CodeBlock}
use Rattle.un_packet.specs.CodeRules.{KeepsRules}
use Rattle.un_packet.proofs.Kept.{kept_with_frame}
use Rattle.tests_front.specs.Framed.{framed}
use Rattle.tests_front.proofs.framed.framed_code.Goals as goal

-- the blocks are those of which the rules are known
pub invariant_of-result : goal.invariant_of-result
invariant_of-result c =
    let same : c.push.new.self ≡ framed = c.in_ok-push.ensures.ok
    ∙ rw (c.new-blocks.ensures, c.label-label.ensures, c.in_ok-packets.ensures) refl in
    record { rules = ∣ subst (λ (bs : List CodeBlock). KeepsRules 1024 bs) (sym same) kept_with_frame ∣₁ }
