-- Parts that break one rule of code each.
use Rattle.std.proofs.Common.{ℕ, zero, suc, pos, negsuc, ◌≡◌, ◌+◌, ◌<◌, true, List, [], ◌∷◌, None, IsSomeAnd, slice_get, get_or, refl, ap}
use Rattle.std.proofs.Common.{arith, lit<}
use Rattle.std.specs.Prelude.{codes, slice_index}
use Rattle.std.proofs.lemmas.Int.{ints}
use Rattle.un_isa.specs.declared.op.Op.TheVariants.{Imm, Mov, Add, CmpGti, Mpyi, Load, Store, Call, Jump, Jumpr, Reload, R2P, Enter, Leave, Nop, JumpIfNew}
use Rattle.un_isa.specs.declared.instr.Instr.{Instr}
use Rattle.un_isa.specs.declared.reg.TheConstants.{FRAME}
use Rattle.un_packet.specs.declared.code.Packet.{Packet}
use Rattle.un_packet.specs.declared.code.CodeBlock.{CodeBlock}
use Rattle.un_packet.specs.CodeRules.{KeepsRules, IsGoodCodeBlock, IsGoodPacket, IsGoodInstr, leaves}
use Rattle.un_packet.proofs.Assembly.{r, named, i, packet, block}

abbrev moved : ℕ → Instr
moved n = i Mov (r n) (7 ∷ []) (pos 0) None

abbrev back : Instr
back = i Jumpr None (31 ∷ []) (pos 0) None

abbrev idle : Packet
idle = packet (i Nop None [] (pos 0) None ∷ [])

abbrev returning : Packet
returning = packet (back ∷ [])

-- a block that returns
abbrev under : List ℕ → CodeBlock
under label = block label (returning ∷ [])

-- ---- code

half_words : KeepsRules 4 (under (codes "e") ∷ []) → ⊥
half_words h = let k = h.whole in omega (arith, k)

large_frame : KeepsRules (FRAME + 8) (under (codes "e") ∷ []) → ⊥
large_frame h = let k = h.small in omega (arith, k)

no_blocks : KeepsRules 0 [] → ⊥
no_blocks h = let k = h.some in omega (arith, k)

label_of_a_digit : KeepsRules 0 (under (codes "2") ∷ []) → ⊥
label_of_a_digit h = let k = h.named 0 (under []) (lit< tt) in cc k

one_label_twice : KeepsRules 0 (under (codes "e") ∷ under (codes "e") ∷ []) → ⊥
one_label_twice h = h.distinct_labels 0 1 (under []) (lit< tt) (lit< tt) refl

falls_through : KeepsRules 0 (block (codes "e") (idle ∷ []) ∷ []) → ⊥
falls_through h = let (k, last, leaving) = h.last 0 refl in by k last leaving
  where
    by : (k : ℕ) → k + 1 ≡ 1 → IsSomeAnd (slice_get (idle ∷ []) k) (λ p. leaves p ≡ true) → ⊥
    by zero e l = cc l
    by (suc k) e l = absurd l

-- ---- blocks

goes_on_after_a_return : IsGoodCodeBlock 0 [] (block (codes "e") (returning ∷ returning ∷ [])) → ⊥
goes_on_after_a_return h = let k = h.transfers_last 0 (lit< tt) in cc k

no_such_label : IsGoodCodeBlock 0 (codes "e" ∷ []) (block (codes "e") (packet (i Jump None [] (pos 0) (named (codes "f")) ∷ []) ∷ [])) → ⊥
no_such_label h =
    let (k, below, is) = h.targets 0 idle (lit< tt) 0 back (lit< tt) in
    by k below is
  where
    by : (k : ℕ) → k < 1 → get_or (codes "e" ∷ []) k (codes "f") ≡ codes "f" → ⊥
    by zero below is = let e = ap (λ label. slice_index label 0) is in omega (arith, e)
    by (suc k) below is = omega arith

-- ---- packets

empty : IsGoodPacket 0 (packet []) → ⊥
empty h = let k = h.some in omega (arith, k)

five : IsGoodPacket 0 (packet (moved 0 ∷ moved 1 ∷ moved 2 ∷ moved 3 ∷ moved 4 ∷ [])) → ⊥
five h = let k = h.counts.instructions in omega (arith, k)

abbrev loaded : ℕ → Instr
loaded n = i Load (r n) (7 ∷ []) (pos 0) None

abbrev stored : Instr
stored = i Store None (7 ∷ 8 ∷ []) (pos 0) None

three_words : IsGoodPacket 0 (packet (loaded 0 ∷ loaded 1 ∷ loaded 2 ∷ [])) → ⊥
three_words h = let k = h.counts.mem in omega (arith, k)

two_stores : IsGoodPacket 0 (packet (stored ∷ stored ∷ [])) → ⊥
two_stores h = let k = h.counts.store in omega (arith, k)

abbrev multiplied : ℕ → Instr
multiplied n = i Mpyi (r n) (7 ∷ 8 ∷ []) (pos 0) None

three_products : IsGoodPacket 0 (packet (multiplied 0 ∷ multiplied 1 ∷ multiplied 2 ∷ [])) → ⊥
three_products h = let k = h.counts.xc in omega (arith, k)

two_transfers : IsGoodPacket 0 (packet (back ∷ back ∷ [])) → ⊥
two_transfers h = let k = h.counts.control in omega (arith, k)

nop_and_more : IsGoodPacket 0 (packet (i Nop None [] (pos 0) None ∷ moved 0 ∷ [])) → ⊥
nop_and_more h = let k = h.idle in omega (arith, k)

two_writers : IsGoodPacket 0 (packet (moved 0 ∷ moved 0 ∷ [])) → ⊥
two_writers h = h.one_writer 0 1 0 (lit< tt) (lit< tt) refl

call_and_link : IsGoodPacket 0 (packet (i Call None [] (pos 0) (named (codes "h")) ∷ moved 31 ∷ [])) → ⊥
call_and_link h = h.one_writer 6 11 0 (lit< tt) (lit< tt) refl

abbrev tested : Instr
tested = i JumpIfNew None (32 ∷ []) (pos 0) (named (codes "t"))

no_compare : IsGoodPacket 0 (packet (tested ∷ [])) → ⊥
no_compare h = let k = h.fresh 0 tested (lit< tt) in cc k

another_predicate : IsGoodPacket 0 (packet (i CmpGti (r 33) (0 ∷ []) (pos 0) None ∷ tested ∷ [])) → ⊥
another_predicate h = let k = h.fresh 1 tested (lit< tt) in cc k

moved_predicate : IsGoodPacket 0 (packet (i R2P (r 32) (0 ∷ []) (pos 0) None ∷ tested ∷ [])) → ⊥
moved_predicate h = let k = h.fresh 1 tested (lit< tt) in cc k

-- ---- instructions, in code with a frame of 8 bytes

predicate_is_read : IsGoodInstr 8 (i Mov (r 0) (32 ∷ []) (pos 0) None) → ⊥
predicate_is_read h = let k = h.reads in cc k

arguments_in_other_registers : IsGoodInstr 8 (i Call None (1 ∷ []) (pos 0) (named (codes "h"))) → ⊥
arguments_in_other_registers h = let k = h.reads.0 in cc k

seven_arguments : IsGoodInstr 8 (i Call None (0 ∷ 1 ∷ 2 ∷ 3 ∷ 4 ∷ 5 ∷ 6 ∷ []) (pos 0) (named (codes "h"))) → ⊥
seven_arguments h = let k = h.reads.1 in omega (arith, k)

predicate_is_written : IsGoodInstr 8 (i Mov (r 32) (0 ∷ []) (pos 0) None) → ⊥
predicate_is_written h = let k = h.writes in cc k

call_with_a_result : IsGoodInstr 8 (i Call (r 0) [] (pos 0) (named (codes "h"))) → ⊥
call_with_a_result h = let k = h.writes in cc k

stack_is_written : IsGoodInstr 8 (i Mov (r 29) (0 ∷ []) (pos 0) None) → ⊥
stack_is_written h = h.stack refl

stack_is_a_base : IsGoodInstr 8 (i Load (r 0) (29 ∷ []) (pos 0) None) → ⊥
stack_is_a_base h = h.base refl

wide_literal : IsGoodInstr 8 (i Imm (r 0) [] (pos 32768) None) → ⊥
wide_literal h = let k = h.literal.1 in omega (arith, ints, k)

half_word : IsGoodInstr 8 (i Reload (r 0) [] (pos 2) None) → ⊥
half_word h = let k = h.literal.2 in cc k

another_frame : IsGoodInstr 8 (i Enter None [] (negsuc 15) None) → ⊥
another_frame h = let k = h.literal.1 in cc k

no_frame : IsGoodInstr 0 (i Leave None [] (pos 0) None) → ⊥
no_frame h = let k = h.literal.0 in omega (arith, k)

no_label : IsGoodInstr 8 (i Jump None [] (pos 0) None) → ⊥
no_label h = h.label

label_of_digits : IsGoodInstr 8 (i Jump None [] (pos 0) (named (codes "2"))) → ⊥
label_of_digits h = let k = h.label in cc k

label_of_a_sum : IsGoodInstr 8 (i Add (r 0) (0 ∷ 1 ∷ []) (pos 0) (named (codes "h"))) → ⊥
label_of_a_sum h = let k = h.label in cc k
