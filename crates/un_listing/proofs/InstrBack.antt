-- An instruction of code is what the words of its text spell.
use Rattle.std.proofs.Common.{◌≡◌, ◌≢◌, ℕ, ℤ, pos, negsuc, suc, zero, ◌+◌, ◌<◌, ◌≤◌, Bool, true, false, nat_lt, List, [], ◌∷◌, map, length}
use Rattle.std.proofs.Common.{take, codes, Option, Some, None, if◌then◌else◌, option_map, refl, ap, ◌∙◌, arith, unsigned_abs}
use Rattle.std.proofs.Common.{lt-ltb, ne_eqb}
use Rattle.std.proofs.lemmas.Bool.Decides.{nat_tests}
use Rattle.un_base.specs.Names.{is_name}
use Rattle.un_isa.specs.declared.op.Op.{Op}
use Rattle.un_isa.specs.declared.op.Op.TheVariants.{Imm, Mov, Add, Sub, And, Or, Xor, Addi, Andi, Ori, Mux, CmpEq, CmpGt, CmpGtu, CmpEqi}
use Rattle.un_isa.specs.declared.op.Op.TheVariants.{CmpGti, Mpyi, Asl, Asr, Lsr, Load, Store, Call, Jump, JumpIf, JumpIfNot, Jumpr, Spill}
use Rattle.un_isa.specs.declared.op.Op.TheVariants.{Reload, P2R, R2P, Enter, Leave, Nop, JumpIfNew, JumpIfNotNew}
use Rattle.un_isa.specs.declared.reg.TheConstants.{FRAME, FIRST_SLOT, REGISTERS}
use Rattle.un_isa.specs.declared.reg.Space.{Space}
use Rattle.un_isa.specs.declared.reg.Space.TheVariants.{R, P, M}
use Rattle.un_isa.specs.declared.reg.Reg.{Reg}
use Rattle.un_isa.specs.declared.instr.Instr.{Instr}
use Rattle.un_isa.specs.Registers.{space_of}
use Rattle.un_packet.specs.CodeRules.{IsGoodInstr, minus}
use Rattle.un_listing.specs.declared.form.Form.{Form}
use Rattle.un_listing.specs.declared.form.Form.TheVariants.{Computed, WithLiteral}
use Rattle.un_listing.specs.declared.word.Word.{Word}
use Rattle.un_listing.specs.declared.word.Word.TheVariants.{Named, Literal}
use Rattle.un_isa.specs.Facts.{printed_name}
use Rattle.un_listing.specs.Forms.{form_of}
use Rattle.un_listing.specs.Listing.{reg_text, instr_text}
use Rattle.un_listing.specs.ListingWords.{reg_of, words_of}
use Rattle.un_listing.specs.Recognized.{computed_ops, literal_ops, literal_of_words, reg_in, op_with, is_stack, op_of, instr_with, instr_of}
use Rattle.std.specs.Str.{bytes_eq}
use Rattle.std.specs.List.{filter_map, range_with_len}
use Rattle.std.proofs.lemmas.Int.{ints}
use Rattle.un_isa.specs.declared.facts.Range.{Range}
use Rattle.un_isa.specs.declared.facts.Range.TheVariants.{Signed16, Signed10, Unsigned5, Offset, FrameOffset}
use Rattle.un_isa.specs.Operands.{InRange}
use Rattle.un_listing.specs.Listing.{text_in}
use Rattle.un_packet.specs.CodeRules.{number, HasItsBase, IsSomeName}
use Rattle.un_listing.proofs.WordTexts.{reg_back, fresh_back, stale_back}
use Rattle.un_listing.proofs.InstrWords.{reg_word, AreRegs, literal_words, copied_words, computed_words, with_literal_words, loaded_words}
use Rattle.un_listing.proofs.InstrWords.{stored_words, moved_words, called_words, jumped_words, jumped_if_words, jumped_if_not_words}
use Rattle.un_listing.proofs.InstrWords.{jumped_if_new_words, jumped_if_not_new_words, returned_words, stack_says}

-- ---- registers by their spaces

pub general : (n : ℕ) → space_of n ≡ R → n < 32
general n e = by (nat_lt n 32) (nat_lt n FIRST_SLOT) refl e
  where
    by : (u v : Bool) → nat_lt n 32 ≡ u → (if u then R else if v then P else M) ≡ R → n < 32
    by true v h k = grind (arith, nat_tests)
    by false true h k = absurd (cc k)
    by false false h k = absurd (cc k)

pub predicate : (n : ℕ) → space_of n ≡ P → (32 ≤ n) × (n < REGISTERS)
predicate n e = by (nat_lt n 32) (nat_lt n FIRST_SLOT) refl refl e
  where
    by : (u v : Bool) → nat_lt n 32 ≡ u → nat_lt n FIRST_SLOT ≡ v → (if u then R else if v then P else M) ≡ P → (32 ≤ n) × (n < REGISTERS)
    by true v h g k = absurd (cc k)
    by false true h g k = (grind (arith, nat_tests), grind (arith, nat_tests))
    by false false h g k = absurd (cc k)

abbrev Spaces : List Reg → List Space → Type 0
Spaces regs spaces = map (λ (r : Reg). space_of r.0) regs ≡ spaces

-- ---- the operation of the words

-- an operation that is printed by a mnemonic, which no other of these operations has
record IsMnemonic (op : Op) (form : Form) (ops : List Op) : Type 0 where
  printed : form_of op ≡ form
  name : is_name (printed_name op) ≡ true
  reg : reg_of (printed_name op) ≡ None
  other : bytes_eq (printed_name op) (codes "memw") ≡ false
  found : op_with ops (printed_name op) ≡ Some op

two_back : (op : Op) → IsMnemonic op Computed computed_ops → (d a b : Reg) → d.0 < REGISTERS → a.0 < REGISTERS → b.0 < REGISTERS
    → instr_of (reg_word d ∷ Named (printed_name op) ∷ reg_word a ∷ reg_word b ∷ [])
    ≡ Some (record { op = op; dst = Some d; srcs = a ∷ b ∷ []; imm = pos 0; label = None })
two_back op m d a b hd ha hb =
    let rd = (reg_back d hd).reg in
    let ra = (reg_back a ha).reg in
    let rb = (reg_back b hb).reg in
    let ws : List Word = reg_word d ∷ Named (printed_name op) ∷ reg_word a ∷ reg_word b ∷ [] in
    let found : op_of ws ≡ Some op = rw (rd, m.reg, m.other) m.found in
    ap (option_map (λ op. instr_with op ws)) found ∙ rw (m.printed, rd, ra, rb) refl

three_back : (op : Op) → IsMnemonic op Computed computed_ops → (d a b e : Reg) → d.0 < REGISTERS → a.0 < REGISTERS → b.0 < REGISTERS
    → e.0 < REGISTERS
    → instr_of (reg_word d ∷ Named (printed_name op) ∷ reg_word a ∷ reg_word b ∷ reg_word e ∷ [])
    ≡ Some (record { op = op; dst = Some d; srcs = a ∷ b ∷ e ∷ []; imm = pos 0; label = None })
three_back op m d a b e hd ha hb he =
    let rd = (reg_back d hd).reg in
    let ra = (reg_back a ha).reg in
    let rb = (reg_back b hb).reg in
    let re = (reg_back e he).reg in
    let ws : List Word = reg_word d ∷ Named (printed_name op) ∷ reg_word a ∷ reg_word b ∷ reg_word e ∷ [] in
    let found : op_of ws ≡ Some op = rw (rd, m.reg, m.other) m.found in
    ap (option_map (λ op. instr_with op ws)) found ∙ rw (m.printed, rd, ra, rb, re) refl

with_literal_back : (op : Op) → IsMnemonic op WithLiteral literal_ops → (d a : Reg) (z : ℤ) → d.0 < REGISTERS → a.0 < REGISTERS
    → is_stack d ≡ false
    → instr_of (reg_word d ∷ Named (printed_name op) ∷ reg_word a ∷ Literal z ∷ [])
    ≡ Some (record { op = op; dst = Some d; srcs = a ∷ []; imm = z; label = None })
with_literal_back op m d a z hd ha other =
    let rd = (reg_back d hd).reg in
    let ra = (reg_back a ha).reg in
    let ws : List Word = reg_word d ∷ Named (printed_name op) ∷ reg_word a ∷ Literal z ∷ [] in
    let found : op_of ws ≡ Some op = rw (rd, m.reg, m.other, other) m.found in
    ap (option_map (λ op. instr_with op ws)) found ∙ rw (m.printed, rd, ra) refl

-- ---- literals

pub small_literal : (range : Range) (z : ℤ) → InRange range z → unsigned_abs z ≤ 65535
small_literal Signed16 (pos n) h = let k = h.1 in omega (arith, ints)
small_literal Signed16 (negsuc n) h = let k = h.0 in omega (arith, ints)
small_literal Signed10 (pos n) h = let k = h.1 in omega (arith, ints)
small_literal Signed10 (negsuc n) h = let k = h.0 in omega (arith, ints)
small_literal Unsigned5 (pos n) h = let k = h.1 in omega (arith, ints)
small_literal Unsigned5 (negsuc n) h = let k = h.0 in omega (arith, ints)
small_literal Offset (pos n) h = let k = h.1 in omega (arith, ints)
small_literal Offset (negsuc n) h = let k = h.0 in omega (arith, ints)
small_literal FrameOffset (pos n) h = let k = h.1 in omega (arith, ints)
small_literal FrameOffset (negsuc n) h = let k = h.0 in omega (arith, ints)

-- ---- operations by their forms

-- the instruction is read back from its text
abbrev pub IsBack : Instr → Type 0
IsBack i = instr_of (words_of (instr_text i)) ≡ Some i

abbrev instr : Op → Option Reg → List Reg → ℤ → Option (List ℕ) → Instr
instr op dst srcs imm label = record { op = op; dst = dst; srcs = srcs; imm = imm; label = label }

pub below : (n : ℕ) (s : Space) → s ≢ M → space_of n ≡ s → n < REGISTERS
below n R h e = let k = general n e in omega arith
below n P h e = (predicate n e).1
below n M h e = absurd (h refl)

in_space : Space → Option Reg → Type 0
in_space s dst = option_map (λ (r : Reg). space_of r.0) dst ≡ Some s

two_op : (op : Op) (s : Space) → IsMnemonic op Computed computed_ops → s ≢ M
    → (dst : Option Reg) (srcs : List Reg) (imm : ℤ) (label : Option (List ℕ))
    → option_map (λ (r : Reg). space_of r.0) dst ≡ Some s → Spaces srcs (R ∷ R ∷ []) → imm ≡ pos 0 → label ≡ None
    → IsBack (instr op dst srcs imm label)
two_op op s m h None srcs imm label w r l n = absurd (cc w)
two_op op s m h (Some d) [] imm label w r l n = absurd (cc r)
two_op op s m h (Some d) (a ∷ []) imm label w r l n = absurd (cc r)
two_op op s m h (Some d) (a ∷ b ∷ c ∷ more) imm label w r l n = absurd (cc r)
two_op op s m h (Some d) (a ∷ b ∷ []) imm label w r l n =
    let hd : d.0 < REGISTERS = below d.0 s h (cc) in
    let ha : a.0 < REGISTERS = below a.0 R (λ e. cc e) (cc) in
    let hb : b.0 < REGISTERS = below b.0 R (λ e. cc e) (cc) in
    rw (l, n) (ap (λ f. instr_of (words_of (text_in f (instr op (Some d) (a ∷ b ∷ []) (pos 0) None)))) m.printed
    ∙ ap instr_of (computed_words d (printed_name op) (a ∷ b ∷ []) hd m.name (ha, (hb, tt)))
    ∙ two_back op m d a b hd ha hb)

with_literal_op : (op : Op) (s : Space) (range : Range) → IsMnemonic op WithLiteral literal_ops → s ≢ M
    → (dst : Option Reg) (srcs : List Reg) (imm : ℤ) (label : Option (List ℕ))
    → option_map (λ (r : Reg). space_of r.0) dst ≡ Some s → dst ≢ Some (record { 0 = 29 }) → Spaces srcs (R ∷ []) → InRange range imm
    → label ≡ None → IsBack (instr op dst srcs imm label)
with_literal_op op s range m h None srcs imm label w o r l n = absurd (cc w)
with_literal_op op s range m h (Some d) [] imm label w o r l n = absurd (cc r)
with_literal_op op s range m h (Some d) (a ∷ b ∷ more) imm label w o r l n = absurd (cc r)
with_literal_op op s range m h (Some d) (a ∷ []) imm label w o r l n =
    let hd : d.0 < REGISTERS = below d.0 s h (cc) in
    let ha : a.0 < REGISTERS = below a.0 R (λ e. cc e) (cc) in
    let other : is_stack d ≡ false = ne_eqb d.0 29 (λ e. o (ap (λ (k : ℕ). let reg : Reg = record { 0 = k } in Some reg) e)) in
    rw n (ap (λ f. instr_of (words_of (text_in f (instr op (Some d) (a ∷ []) imm None)))) m.printed
    ∙ ap instr_of (with_literal_words d a (printed_name op) imm hd ha m.name (small_literal range imm l))
    ∙ with_literal_back op m d a imm hd ha other)

mux_op : (dst : Option Reg) (srcs : List Reg) (imm : ℤ) (label : Option (List ℕ))
    → option_map (λ (r : Reg). space_of r.0) dst ≡ Some R → Spaces srcs (P ∷ R ∷ R ∷ []) → imm ≡ pos 0 → label ≡ None
    → IsBack (instr Mux dst srcs imm label)
mux_op None srcs imm label w r l n = absurd (cc w)
mux_op (Some d) [] imm label w r l n = absurd (cc r)
mux_op (Some d) (a ∷ []) imm label w r l n = absurd (cc r)
mux_op (Some d) (a ∷ b ∷ []) imm label w r l n = absurd (cc r)
mux_op (Some d) (a ∷ b ∷ e ∷ c ∷ more) imm label w r l n = absurd (cc r)
mux_op (Some d) (a ∷ b ∷ e ∷ []) imm label w r l n =
    let hd : d.0 < REGISTERS = below d.0 R (λ e. cc e) (cc) in
    let ha : a.0 < REGISTERS = below a.0 P (λ e. cc e) (cc) in
    let hb : b.0 < REGISTERS = below b.0 R (λ e. cc e) (cc) in
    let he : e.0 < REGISTERS = below e.0 R (λ e. cc e) (cc) in
    let m : IsMnemonic Mux Computed computed_ops = record { printed = refl; name = refl; reg = refl; other = refl; found = refl } in
    rw (l, n) (ap instr_of (computed_words d (codes "mux") (a ∷ b ∷ e ∷ []) hd refl (ha, (hb, (he, tt))))
    ∙ three_back Mux m d a b e hd ha hb he)

imm_op : (dst : Option Reg) (srcs : List Reg) (imm : ℤ) (label : Option (List ℕ))
    → option_map (λ (r : Reg). space_of r.0) dst ≡ Some R → Spaces srcs [] → InRange Signed16 imm → label ≡ None
    → IsBack (instr Imm dst srcs imm label)
imm_op None srcs imm label w r l n = absurd (cc w)
imm_op (Some d) (a ∷ more) imm label w r l n = absurd (cc r)
imm_op (Some d) [] imm label w r l n =
    let hd : d.0 < REGISTERS = below d.0 R (λ e. cc e) (cc) in
    rw n (ap instr_of (literal_words d imm hd (small_literal Signed16 imm l)) ∙ rw ((reg_back d hd).reg) refl)

-- ---- copies

is_general_of : (n : ℕ) → space_of n ≡ R → nat_lt n 32 ≡ true
is_general_of n e = lt-ltb _ _ (general n e)

not_general_of : (n : ℕ) → space_of n ≡ P → nat_lt n 32 ≡ false
not_general_of n e = let k = (predicate n e).0 in grind (arith, nat_tests)

mov_op : (dst : Option Reg) (srcs : List Reg) (imm : ℤ) (label : Option (List ℕ))
    → option_map (λ (r : Reg). space_of r.0) dst ≡ Some R → Spaces srcs (R ∷ []) → imm ≡ pos 0 → label ≡ None
    → IsBack (instr Mov dst srcs imm label)
mov_op None srcs imm label w r l n = absurd (cc w)
mov_op (Some d) [] imm label w r l n = absurd (cc r)
mov_op (Some d) (a ∷ b ∷ more) imm label w r l n = absurd (cc r)
mov_op (Some d) (a ∷ []) imm label w r l n =
    let sd : space_of d.0 ≡ R = cc in
    let sa : space_of a.0 ≡ R = cc in
    let hd : d.0 < REGISTERS = below d.0 R (λ e. cc e) sd in
    let ha : a.0 < REGISTERS = below a.0 R (λ e. cc e) sa in
    let ws : List Word = reg_word d ∷ reg_word a ∷ [] in
    let found : op_of ws ≡ Some Mov = rw ((reg_back d hd).reg, (reg_back a ha).reg, is_general_of d.0 sd, is_general_of a.0 sa) refl in
    rw (l, n) (ap instr_of (copied_words d a hd ha) ∙ ap (option_map (λ op. instr_with op ws)) found
    ∙ rw ((reg_back d hd).reg, (reg_back a ha).reg) refl)

p2r_op : (dst : Option Reg) (srcs : List Reg) (imm : ℤ) (label : Option (List ℕ))
    → option_map (λ (r : Reg). space_of r.0) dst ≡ Some R → Spaces srcs (P ∷ []) → imm ≡ pos 0 → label ≡ None
    → IsBack (instr P2R dst srcs imm label)
p2r_op None srcs imm label w r l n = absurd (cc w)
p2r_op (Some d) [] imm label w r l n = absurd (cc r)
p2r_op (Some d) (a ∷ b ∷ more) imm label w r l n = absurd (cc r)
p2r_op (Some d) (a ∷ []) imm label w r l n =
    let sd : space_of d.0 ≡ R = cc in
    let sa : space_of a.0 ≡ P = cc in
    let hd : d.0 < REGISTERS = below d.0 R (λ e. cc e) sd in
    let ha : a.0 < REGISTERS = below a.0 P (λ e. cc e) sa in
    let ws : List Word = reg_word d ∷ reg_word a ∷ [] in
    let found : op_of ws ≡ Some P2R = rw ((reg_back d hd).reg, (reg_back a ha).reg, is_general_of d.0 sd, not_general_of a.0 sa) refl in
    rw (l, n) (ap instr_of (copied_words d a hd ha) ∙ ap (option_map (λ op. instr_with op ws)) found
    ∙ rw ((reg_back d hd).reg, (reg_back a ha).reg) refl)

r2p_op : (dst : Option Reg) (srcs : List Reg) (imm : ℤ) (label : Option (List ℕ))
    → option_map (λ (r : Reg). space_of r.0) dst ≡ Some P → Spaces srcs (R ∷ []) → imm ≡ pos 0 → label ≡ None
    → IsBack (instr R2P dst srcs imm label)
r2p_op None srcs imm label w r l n = absurd (cc w)
r2p_op (Some d) [] imm label w r l n = absurd (cc r)
r2p_op (Some d) (a ∷ b ∷ more) imm label w r l n = absurd (cc r)
r2p_op (Some d) (a ∷ []) imm label w r l n =
    let sd : space_of d.0 ≡ P = cc in
    let sa : space_of a.0 ≡ R = cc in
    let hd : d.0 < REGISTERS = below d.0 P (λ e. cc e) sd in
    let ha : a.0 < REGISTERS = below a.0 R (λ e. cc e) sa in
    let ws : List Word = reg_word d ∷ reg_word a ∷ [] in
    let found : op_of ws ≡ Some R2P = rw ((reg_back d hd).reg, (reg_back a ha).reg, not_general_of d.0 sd) refl in
    rw (l, n) (ap instr_of (copied_words d a hd ha) ∙ ap (option_map (λ op. instr_with op ws)) found
    ∙ rw ((reg_back d hd).reg, (reg_back a ha).reg) refl)

-- ---- loads and stores

not_stack : (a : Reg) → a.0 ≢ 29 → is_stack a ≡ false
not_stack a h = ne_eqb a.0 29 h

load_op : (dst : Option Reg) (srcs : List Reg) (imm : ℤ) (label : Option (List ℕ))
    → option_map (λ (r : Reg). space_of r.0) dst ≡ Some R → HasItsBase Load srcs → Spaces srcs (R ∷ []) → InRange Offset imm → label ≡ None
    → IsBack (instr Load dst srcs imm label)
load_op None srcs imm label w o r l n = absurd (cc w)
load_op (Some d) [] imm label w o r l n = absurd (cc r)
load_op (Some d) (a ∷ b ∷ more) imm label w o r l n = absurd (cc r)
load_op (Some d) (a ∷ []) imm label w o r l n =
    let hd : d.0 < REGISTERS = below d.0 R (λ e. cc e) (cc) in
    let ha : a.0 < REGISTERS = below a.0 R (λ e. cc e) (cc) in
    rw n (ap instr_of (loaded_words d (reg_text a) (reg_word a) imm hd (reg_back a ha).says (small_literal Offset imm l))
    ∙ rw ((reg_back d hd).reg, (reg_back a ha).reg, not_stack a o) (rw (reg_back a ha).reg refl))

reload_op : (dst : Option Reg) (srcs : List Reg) (imm : ℤ) (label : Option (List ℕ))
    → option_map (λ (r : Reg). space_of r.0) dst ≡ Some R → Spaces srcs [] → InRange FrameOffset imm → label ≡ None
    → IsBack (instr Reload dst srcs imm label)
reload_op None srcs imm label w r l n = absurd (cc w)
reload_op (Some d) (a ∷ more) imm label w r l n = absurd (cc r)
reload_op (Some d) [] imm label w r l n =
    let hd : d.0 < REGISTERS = below d.0 R (λ e. cc e) (cc) in
    rw n (ap instr_of (loaded_words d (codes "r29") (Named (codes "r29")) imm hd stack_says (small_literal FrameOffset imm l))
    ∙ rw ((reg_back d hd).reg) refl)

store_op : (dst : Option Reg) (srcs : List Reg) (imm : ℤ) (label : Option (List ℕ))
    → option_map (λ (r : Reg). space_of r.0) dst ≡ None → HasItsBase Store srcs → Spaces srcs (R ∷ R ∷ []) → InRange Offset imm
    → label ≡ None → IsBack (instr Store dst srcs imm label)
store_op (Some d) srcs imm label w o r l n = absurd (cc w)
store_op None [] imm label w o r l n = absurd (cc r)
store_op None (a ∷ []) imm label w o r l n = absurd (cc r)
store_op None (a ∷ b ∷ c ∷ more) imm label w o r l n = absurd (cc r)
store_op None (a ∷ b ∷ []) imm label w o r l n =
    let ha : a.0 < REGISTERS = below a.0 R (λ e. cc e) (cc) in
    let hb : b.0 < REGISTERS = below b.0 R (λ e. cc e) (cc) in
    rw n (ap instr_of (stored_words (reg_text a) (reg_word a) b imm (reg_back a ha).says hb (small_literal Offset imm l))
    ∙ rw ((reg_back a ha).reg, not_stack a o) (rw ((reg_back a ha).reg, (reg_back b hb).reg) refl))

spill_op : (dst : Option Reg) (srcs : List Reg) (imm : ℤ) (label : Option (List ℕ))
    → option_map (λ (r : Reg). space_of r.0) dst ≡ None → Spaces srcs (R ∷ []) → InRange FrameOffset imm → label ≡ None
    → IsBack (instr Spill dst srcs imm label)
spill_op (Some d) srcs imm label w r l n = absurd (cc w)
spill_op None [] imm label w r l n = absurd (cc r)
spill_op None (a ∷ b ∷ more) imm label w r l n = absurd (cc r)
spill_op None (a ∷ []) imm label w r l n =
    let ha : a.0 < REGISTERS = below a.0 R (λ e. cc e) (cc) in
    rw n (ap instr_of (stored_words (codes "r29") (Named (codes "r29")) a imm stack_says ha (small_literal FrameOffset imm l))
    ∙ rw ((reg_back a ha).reg) refl)

-- ---- the stack pointer

enter_op : (frame : ℕ) (dst : Option Reg) (srcs : List Reg) (imm : ℤ) (label : Option (List ℕ)) → frame ≤ FRAME
    → option_map (λ (r : Reg). space_of r.0) dst ≡ None → Spaces srcs [] → (0 < frame) × (imm ≡ minus frame) → label ≡ None
    → IsBack (instr Enter dst srcs imm label)
enter_op frame (Some d) srcs imm label small w r l n = absurd (cc w)
enter_op frame None (a ∷ more) imm label small w r l n = absurd (cc r)
enter_op zero None [] imm label small w r l n = let k = l.0 in absurd (omega arith)
enter_op (suc k) None [] imm label small w r l n = rw (l.1, n) (ap instr_of (moved_words (negsuc k) (omega arith)))

leave_op : (frame : ℕ) (dst : Option Reg) (srcs : List Reg) (imm : ℤ) (label : Option (List ℕ)) → frame ≤ FRAME
    → option_map (λ (r : Reg). space_of r.0) dst ≡ None → Spaces srcs [] → (0 < frame) × (imm ≡ pos frame) → label ≡ None
    → IsBack (instr Leave dst srcs imm label)
leave_op frame (Some d) srcs imm label small w r l n = absurd (cc w)
leave_op frame None (a ∷ more) imm label small w r l n = absurd (cc r)
leave_op frame None [] imm label small w r l n = rw (l.1, n) (ap instr_of (moved_words (pos frame) (omega arith)))

-- ---- calls and jumps

regs_back : (n : ℕ) (srcs : List Reg) → length srcs ≤ n → AreRegs srcs → filter_map reg_in (take n (map reg_word srcs)) ≡ srcs
regs_back zero [] h regs = refl
regs_back zero (r ∷ rs) h regs = absurd (omega arith)
regs_back (suc n) [] h regs = refl
regs_back (suc n) (r ∷ rs) h regs = rw ((reg_back r regs.0).reg, regs_back n rs (omega arith) regs.1) refl

no_literal : (srcs : List Reg) → literal_of_words (map reg_word srcs) ≡ pos 0
no_literal [] = refl
no_literal (r ∷ rs) = no_literal rs

pub counted : (k : ℕ) (srcs : List Reg) → map number srcs ≡ range_with_len k (length srcs) → k + length srcs ≤ REGISTERS → AreRegs srcs
counted k [] e h = tt
counted k (r ∷ rs) e h =
    let first : r.0 ≡ k = cc e in
    let rest : map number rs ≡ range_with_len (k + 1) (length rs) = cc e in
    (omega arith, counted (k + 1) rs rest (omega arith))

call_op : (dst : Option Reg) (srcs : List Reg) (imm : ℤ) (label : Option (List ℕ))
    → dst ≡ None → (map number srcs ≡ range_with_len 0 (length srcs)) × (length srcs ≤ 6) → imm ≡ pos 0 → IsSomeName label
    → IsBack (instr Call dst srcs imm label)
call_op dst srcs imm None w r l n = absurd n
call_op dst srcs imm (Some label) w r l n =
    let few = r.1 in
    let regs = counted 0 srcs r.0 (omega arith) in
    rw (w, l) (ap instr_of (called_words label srcs n regs) ∙ rw (regs_back 6 srcs few regs, no_literal srcs) refl)

jump_op : (dst : Option Reg) (srcs : List Reg) (imm : ℤ) (label : Option (List ℕ))
    → option_map (λ (r : Reg). space_of r.0) dst ≡ None → Spaces srcs [] → imm ≡ pos 0 → IsSomeName label
    → IsBack (instr Jump dst srcs imm label)
jump_op (Some d) srcs imm label w r l n = absurd (cc w)
jump_op None (a ∷ more) imm label w r l n = absurd (cc r)
jump_op None [] imm None w r l n = absurd n
jump_op None [] imm (Some label) w r l n = rw l (ap instr_of (jumped_words label n))

jump_if_op : (dst : Option Reg) (srcs : List Reg) (imm : ℤ) (label : Option (List ℕ))
    → option_map (λ (r : Reg). space_of r.0) dst ≡ None → Spaces srcs (P ∷ []) → imm ≡ pos 0 → IsSomeName label
    → IsBack (instr JumpIf dst srcs imm label)
jump_if_op (Some d) srcs imm label w r l n = absurd (cc w)
jump_if_op None [] imm label w r l n = absurd (cc r)
jump_if_op None (a ∷ b ∷ more) imm label w r l n = absurd (cc r)
jump_if_op None (a ∷ []) imm None w r l n = absurd n
jump_if_op None (a ∷ []) imm (Some label) w r l n =
    let ha : a.0 < REGISTERS = below a.0 P (λ e. cc e) (cc) in
    rw l (ap instr_of (jumped_if_words a label ha n) ∙ rw (stale_back a ha, (reg_back a ha).reg) refl)

jump_if_not_op : (dst : Option Reg) (srcs : List Reg) (imm : ℤ) (label : Option (List ℕ))
    → option_map (λ (r : Reg). space_of r.0) dst ≡ None → Spaces srcs (P ∷ []) → imm ≡ pos 0 → IsSomeName label
    → IsBack (instr JumpIfNot dst srcs imm label)
jump_if_not_op (Some d) srcs imm label w r l n = absurd (cc w)
jump_if_not_op None [] imm label w r l n = absurd (cc r)
jump_if_not_op None (a ∷ b ∷ more) imm label w r l n = absurd (cc r)
jump_if_not_op None (a ∷ []) imm None w r l n = absurd n
jump_if_not_op None (a ∷ []) imm (Some label) w r l n =
    let ha : a.0 < REGISTERS = below a.0 P (λ e. cc e) (cc) in
    rw l (ap instr_of (jumped_if_not_words a label ha n))

jump_if_new_op : (dst : Option Reg) (srcs : List Reg) (imm : ℤ) (label : Option (List ℕ))
    → option_map (λ (r : Reg). space_of r.0) dst ≡ None → Spaces srcs (P ∷ []) → imm ≡ pos 0 → IsSomeName label
    → IsBack (instr JumpIfNew dst srcs imm label)
jump_if_new_op (Some d) srcs imm label w r l n = absurd (cc w)
jump_if_new_op None [] imm label w r l n = absurd (cc r)
jump_if_new_op None (a ∷ b ∷ more) imm label w r l n = absurd (cc r)
jump_if_new_op None (a ∷ []) imm None w r l n = absurd n
jump_if_new_op None (a ∷ []) imm (Some label) w r l n =
    let ha : a.0 < REGISTERS = below a.0 P (λ e. cc e) (cc) in
    let f = (fresh_back a ha).fresh in
    rw l (ap instr_of (jumped_if_new_words a label ha n) ∙ rw (f, f) refl)

jump_if_not_new_op : (dst : Option Reg) (srcs : List Reg) (imm : ℤ) (label : Option (List ℕ))
    → option_map (λ (r : Reg). space_of r.0) dst ≡ None → Spaces srcs (P ∷ []) → imm ≡ pos 0 → IsSomeName label
    → IsBack (instr JumpIfNotNew dst srcs imm label)
jump_if_not_new_op (Some d) srcs imm label w r l n = absurd (cc w)
jump_if_not_new_op None [] imm label w r l n = absurd (cc r)
jump_if_not_new_op None (a ∷ b ∷ more) imm label w r l n = absurd (cc r)
jump_if_not_new_op None (a ∷ []) imm None w r l n = absurd n
jump_if_not_new_op None (a ∷ []) imm (Some label) w r l n =
    let ha : a.0 < REGISTERS = below a.0 P (λ e. cc e) (cc) in
    rw l (ap instr_of (jumped_if_not_new_words a label ha n))

jumpr_op : (dst : Option Reg) (srcs : List Reg) (imm : ℤ) (label : Option (List ℕ))
    → option_map (λ (r : Reg). space_of r.0) dst ≡ None → Spaces srcs (R ∷ []) → imm ≡ pos 0 → label ≡ None
    → IsBack (instr Jumpr dst srcs imm label)
jumpr_op (Some d) srcs imm label w r l n = absurd (cc w)
jumpr_op None [] imm label w r l n = absurd (cc r)
jumpr_op None (a ∷ b ∷ more) imm label w r l n = absurd (cc r)
jumpr_op None (a ∷ []) imm label w r l n =
    let ha : a.0 < REGISTERS = below a.0 R (λ e. cc e) (cc) in
    rw (l, n) (ap instr_of (returned_words a ha) ∙ rw ((reg_back a ha).reg) refl)

nop_op : (dst : Option Reg) (srcs : List Reg) (imm : ℤ) (label : Option (List ℕ))
    → option_map (λ (r : Reg). space_of r.0) dst ≡ None → Spaces srcs [] → imm ≡ pos 0 → label ≡ None
    → IsBack (instr Nop dst srcs imm label)
nop_op (Some d) srcs imm label w r l n = absurd (cc w)
nop_op None (a ∷ more) imm label w r l n = absurd (cc r)
nop_op None [] imm label w r l n = rw (l, n) refl

-- ---- every operation

pub instr_back : (frame : ℕ) → frame ≤ FRAME → (op : Op) (dst : Option Reg) (srcs : List Reg) (imm : ℤ) (label : Option (List ℕ))
    → IsGoodInstr frame (instr op dst srcs imm label) → IsBack (instr op dst srcs imm label)
instr_back frame small Imm dst srcs imm label g = imm_op dst srcs imm label g.writes g.reads g.literal g.label
instr_back frame small Mov dst srcs imm label g = mov_op dst srcs imm label g.writes g.reads g.literal g.label
instr_back frame small P2R dst srcs imm label g = p2r_op dst srcs imm label g.writes g.reads g.literal g.label
instr_back frame small R2P dst srcs imm label g = r2p_op dst srcs imm label g.writes g.reads g.literal g.label
instr_back frame small Mux dst srcs imm label g = mux_op dst srcs imm label g.writes g.reads g.literal g.label
instr_back frame small Load dst srcs imm label g = load_op dst srcs imm label g.writes g.base g.reads g.literal g.label
instr_back frame small Store dst srcs imm label g = store_op dst srcs imm label g.writes g.base g.reads g.literal g.label
instr_back frame small Spill dst srcs imm label g = spill_op dst srcs imm label g.writes g.reads g.literal g.label
instr_back frame small Reload dst srcs imm label g = reload_op dst srcs imm label g.writes g.reads g.literal g.label
instr_back frame small Enter dst srcs imm label g = enter_op frame dst srcs imm label small g.writes g.reads g.literal g.label
instr_back frame small Leave dst srcs imm label g = leave_op frame dst srcs imm label small g.writes g.reads g.literal g.label
instr_back frame small Call dst srcs imm label g = call_op dst srcs imm label g.writes g.reads g.literal g.label
instr_back frame small Jump dst srcs imm label g = jump_op dst srcs imm label g.writes g.reads g.literal g.label
instr_back frame small JumpIf dst srcs imm label g = jump_if_op dst srcs imm label g.writes g.reads g.literal g.label
instr_back frame small JumpIfNot dst srcs imm label g = jump_if_not_op dst srcs imm label g.writes g.reads g.literal g.label
instr_back frame small JumpIfNew dst srcs imm label g = jump_if_new_op dst srcs imm label g.writes g.reads g.literal g.label
instr_back frame small JumpIfNotNew dst srcs imm label g = jump_if_not_new_op dst srcs imm label g.writes g.reads g.literal g.label
instr_back frame small Jumpr dst srcs imm label g = jumpr_op dst srcs imm label g.writes g.reads g.literal g.label
instr_back frame small Nop dst srcs imm label g = nop_op dst srcs imm label g.writes g.reads g.literal g.label
instr_back frame small Add dst srcs imm label g =
    two_op Add R (record { printed = refl; name = refl; reg = refl; other = refl; found = refl })
    (λ e. cc e) dst srcs imm label g.writes g.reads g.literal g.label
instr_back frame small Sub dst srcs imm label g =
    two_op Sub R (record { printed = refl; name = refl; reg = refl; other = refl; found = refl })
    (λ e. cc e) dst srcs imm label g.writes g.reads g.literal g.label
instr_back frame small And dst srcs imm label g =
    two_op And R (record { printed = refl; name = refl; reg = refl; other = refl; found = refl })
    (λ e. cc e) dst srcs imm label g.writes g.reads g.literal g.label
instr_back frame small Or dst srcs imm label g =
    two_op Or R (record { printed = refl; name = refl; reg = refl; other = refl; found = refl })
    (λ e. cc e) dst srcs imm label g.writes g.reads g.literal g.label
instr_back frame small Xor dst srcs imm label g =
    two_op Xor R (record { printed = refl; name = refl; reg = refl; other = refl; found = refl })
    (λ e. cc e) dst srcs imm label g.writes g.reads g.literal g.label
instr_back frame small Mpyi dst srcs imm label g =
    two_op Mpyi R (record { printed = refl; name = refl; reg = refl; other = refl; found = refl })
    (λ e. cc e) dst srcs imm label g.writes g.reads g.literal g.label
instr_back frame small CmpEq dst srcs imm label g =
    two_op CmpEq P (record { printed = refl; name = refl; reg = refl; other = refl; found = refl })
    (λ e. cc e) dst srcs imm label g.writes g.reads g.literal g.label
instr_back frame small CmpGt dst srcs imm label g =
    two_op CmpGt P (record { printed = refl; name = refl; reg = refl; other = refl; found = refl })
    (λ e. cc e) dst srcs imm label g.writes g.reads g.literal g.label
instr_back frame small CmpGtu dst srcs imm label g =
    two_op CmpGtu P (record { printed = refl; name = refl; reg = refl; other = refl; found = refl })
    (λ e. cc e) dst srcs imm label g.writes g.reads g.literal g.label
instr_back frame small Addi dst srcs imm label g =
    with_literal_op Addi R Signed16 (record { printed = refl; name = refl; reg = refl; other = refl; found = refl })
    (λ e. cc e) dst srcs imm label g.writes g.stack g.reads g.literal g.label
instr_back frame small Andi dst srcs imm label g =
    with_literal_op Andi R Signed10 (record { printed = refl; name = refl; reg = refl; other = refl; found = refl })
    (λ e. cc e) dst srcs imm label g.writes g.stack g.reads g.literal g.label
instr_back frame small Ori dst srcs imm label g =
    with_literal_op Ori R Signed10 (record { printed = refl; name = refl; reg = refl; other = refl; found = refl })
    (λ e. cc e) dst srcs imm label g.writes g.stack g.reads g.literal g.label
instr_back frame small CmpEqi dst srcs imm label g =
    with_literal_op CmpEqi P Signed10 (record { printed = refl; name = refl; reg = refl; other = refl; found = refl })
    (λ e. cc e) dst srcs imm label g.writes g.stack g.reads g.literal g.label
instr_back frame small CmpGti dst srcs imm label g =
    with_literal_op CmpGti P Signed10 (record { printed = refl; name = refl; reg = refl; other = refl; found = refl })
    (λ e. cc e) dst srcs imm label g.writes g.stack g.reads g.literal g.label
instr_back frame small Asl dst srcs imm label g =
    with_literal_op Asl R Unsigned5 (record { printed = refl; name = refl; reg = refl; other = refl; found = refl })
    (λ e. cc e) dst srcs imm label g.writes g.stack g.reads g.literal g.label
instr_back frame small Asr dst srcs imm label g =
    with_literal_op Asr R Unsigned5 (record { printed = refl; name = refl; reg = refl; other = refl; found = refl })
    (λ e. cc e) dst srcs imm label g.writes g.stack g.reads g.literal g.label
instr_back frame small Lsr dst srcs imm label g =
    with_literal_op Lsr R Unsigned5 (record { printed = refl; name = refl; reg = refl; other = refl; found = refl })
    (λ e. cc e) dst srcs imm label g.writes g.stack g.reads g.literal g.label
