-- Code is told by its size of a frame and its blocks.
use Rattle.std.proofs.Common.{◌≡◌, ℕ, List, ap, subst}
use Rattle.std.specs.Coded.{coded_list}
use Rattle.std.proofs.Math.Logic.{∥∥₁_prop}
use base.Stored.{Coded-set}
use Rattle.un_packet.specs.contracts.code.CodeBlock as block_row
use Rattle.un_packet.specs.declared.code.CodeBlock.{CodeBlock}
use Rattle.un_packet.specs.declared.code.Code.{Code}
use Rattle.un_packet.specs.CodeRules.{KeepsRules}

pub blocks_set : (bs bs' : List CodeBlock) (p q : bs ≡ bs') → p ≡ q
blocks_set = Coded-set (coded_list block_row.the_row.coded)

abbrev pub Keeps : ℕ → List CodeBlock → Type 0
Keeps frame bs = ∥ KeepsRules frame bs ∥₁

abbrev pub made : (frame : ℕ) (bs : List CodeBlock) → Keeps frame bs → Code
made frame bs rules = record { frame = frame; blocks = bs; rules = rules }

-- code is told by its parts, since its rules are kept in one way
pub same_code : (frame frame' : ℕ) (bs bs' : List CodeBlock) → frame ≡ frame' → bs ≡ bs' → (rules : Keeps frame bs)
    (rules' : Keeps frame' bs') → made frame bs rules ≡ made frame' bs' rules'
same_code frame frame' bs bs' e f rules =
    subst (λ (n : ℕ). (k : Keeps n bs') → made frame bs rules ≡ made n bs' k) e
    (subst (λ (x : List CodeBlock). (k : Keeps frame x) → made frame bs rules ≡ made frame x k) f
    (λ k. ap (made frame bs) (∥∥₁_prop rules k)))

pub one_code : (a b : Code) → a.frame ≡ b.frame → a.blocks ≡ b.blocks → a ≡ b
one_code a b e f = same_code a.frame b.frame a.blocks b.blocks e f a.rules b.rules
