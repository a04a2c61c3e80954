-- No semicolon and no line feed stands in an instruction's text.
use Rattle.std.proofs.Common.{◌≡◌, ℕ, ℤ, suc, zero, ◌<◌, ◌≤◌, ◌==◌, ◌||◌, not, Bool, true, false, List, [], ◌∷◌, ◌++◌, map, codes}
use Rattle.std.proofs.Common.{slice_get, Option, Some, None, IfSome, option_map, lit≤, refl, arith, unsigned_abs}
use Rattle.std.specs.List.{list_all, flat_map}
use Rattle.std.specs.Fmt.{signed_decimal}
use Rattle.std.proofs.lemmas.List.Folds.{list_all-append}
use Rattle.std.proofs.lemmas.Bool.{and_parts}
use Rattle.un_base.specs.Names.{is_name}
use Rattle.un_isa.specs.declared.op.Op.{Op}
use Rattle.un_isa.specs.declared.op.Op.TheVariants.{Imm, Add, Call, Enter, Leave}
use Rattle.un_isa.specs.declared.does.Does.{Does}
use Rattle.un_isa.specs.declared.does.Does.TheVariants.{Calls, Jumps}
use Rattle.un_isa.specs.declared.reg.TheConstants.{FRAME, REGISTERS}
use Rattle.un_isa.specs.declared.reg.Space.{Space}
use Rattle.un_isa.specs.declared.reg.Space.TheVariants.{R, P, M}
use Rattle.un_isa.specs.declared.reg.Reg.{Reg}
use Rattle.un_isa.specs.declared.facts.Range.{Range}
use Rattle.un_isa.specs.declared.instr.Instr.{Instr}
use Rattle.un_isa.specs.Registers.{space_of}
use Rattle.un_isa.specs.Facts.{does_of, operand_spaces, result_space, literal_range}
use Rattle.un_isa.specs.Operands.{IsLiteralOf}
use Rattle.un_packet.specs.CodeRules.{IsGoodInstr, ReadsItsSpaces, WritesItsSpace, HasItsNumber, HasLabelOf}
use Rattle.un_listing.specs.declared.form.Form.{Form}
use Rattle.un_listing.specs.declared.form.Form.TheVariants.{Literal, Copied, Computed, WithLiteral, Loaded, Stored, Reloaded, Spilled}
use Rattle.un_listing.specs.declared.form.Form.TheVariants.{StackMoved, Called, Jumped, JumpedIf, JumpedIfNot, JumpedIfNew, JumpedIfNotNew}
use Rattle.un_listing.specs.declared.form.Form.TheVariants.{Returned, Idle}
use Rattle.un_listing.specs.declared.word.Word.{Word}
use Rattle.un_isa.specs.Facts.{printed_name}
use Rattle.un_listing.specs.Forms.{form_of}
use Rattle.un_listing.specs.Listing.{joined, reg_text, some_reg_text, operand_text, operands_text, literal_text, result_text, word_text}
use Rattle.un_listing.specs.Listing.{label_text, text_in, instr_text}
use Rattle.un_listing.specs.ListingWords.{is_between}
use Rattle.un_listing.proofs.WordTexts.{Says, reg_back, name_says, literal_says, all_weaker, other_byte}
use Rattle.un_listing.proofs.InstrWords.{AreRegs}
use Rattle.un_listing.proofs.InstrBack.{below, counted, small_literal}

-- neither a semicolon nor a line feed
abbrev pub is_clean : ℕ → Bool
is_clean b = not (b == 59 || b == 10)

abbrev pub IsClean : List ℕ → Type 0
IsClean text = list_all is_clean text ≡ true

pub clean_append : (a b : List ℕ) → IsClean a → IsClean b → IsClean (a ++ b)
clean_append a b ha hb = rw (list_all-append is_clean a b, ha, hb) refl

inner_clean : (b : ℕ) → not (is_between b) ≡ true → is_clean b ≡ true
inner_clean b h = rw (other_byte (λ b. not (is_between b)) b 59 h refl, other_byte (λ b. not (is_between b)) b 10 h refl) refl

pub says_clean : (text : List ℕ) (w : Word) → Says text w → IsClean text
says_clean text w says = all_weaker (λ b. not (is_between b)) is_clean inner_clean text says.inner

reg_clean : (r : Reg) → r.0 < REGISTERS → IsClean (reg_text r)
reg_clean r h = says_clean (reg_text r) _ (reg_back r h).says

-- ---- what the parts of an instruction may be

-- registers of the processor, a small number, and a name
record IsTame (i : Instr) : Type 0 where
  result : IfSome i.dst (λ r. r.0 < REGISTERS)
  operands : AreRegs i.srcs
  literal : unsigned_abs i.imm ≤ 65535
  label : IfSome i.label (λ l. is_name l ≡ true)

abbrev is_home : Space → Bool
is_home R = true
is_home P = true
is_home M = false

home : (n : ℕ) (s : Space) → is_home s ≡ true → space_of n ≡ s → n < REGISTERS
home n s h e = below n s (λ m. by s m h) e
  where
    by : (s : Space) → s ≡ M → is_home s ≡ true → ⊥
    by R m k = cc m
    by P m k = cc m
    by M m k = cc k

are_home : (spaces : List Space) (srcs : List Reg) → list_all is_home spaces ≡ true → map (λ (r : Reg). space_of r.0) srcs ≡ spaces
    → AreRegs srcs
are_home spaces [] h e = tt
are_home [] (r ∷ rs) h e = absurd (cc e)
are_home (s ∷ ss) (r ∷ rs) h e =
    let k = and_parts (is_home s) (list_all is_home ss) h in
    (home r.0 s k.0 (cc e), are_home ss rs k.1 (cc e))

reads_regs : (op : Op) (srcs : List Reg) → ReadsItsSpaces op srcs → AreRegs srcs
reads_regs Call srcs r = let few = r.1 in counted 0 srcs r.0 (omega arith)
reads_regs op srcs r = are_home (operand_spaces op) srcs refl r

result_home : (dst : Option Reg) (space : Option Space) → IfSome space (λ s. is_home s ≡ true)
    → option_map (λ (r : Reg). space_of r.0) dst ≡ space → IfSome dst (λ r. r.0 < REGISTERS)
result_home None space h e = tt
result_home (Some r) None h e = absurd (cc e)
result_home (Some r) (Some s) h e = home r.0 s h (cc e)

-- no result stands in a slot
abbrev may_be_home : Option Space → Bool
may_be_home None = true
may_be_home (Some s) = is_home s

home_by : (space : Option Space) → may_be_home space ≡ true → IfSome space (λ s. is_home s ≡ true)
home_by None h = tt
home_by (Some s) h = h

writes_reg : (op : Op) (dst : Option Reg) → WritesItsSpace op dst → IfSome dst (λ r. r.0 < REGISTERS)
writes_reg Call None w = tt
writes_reg Call (Some r) w = absurd (cc w)
writes_reg op dst w = result_home dst (result_space op) (by op) w
  where
    by : (op : Op) → IfSome (result_space op) (λ s. is_home s ≡ true)
    by Imm = refl
    by op = home_by (result_space op) refl

of_literal : (range : Option Range) (n : ℤ) → IsLiteralOf range n → unsigned_abs n ≤ 65535
of_literal None n e = rw e (lit≤ tt)
of_literal (Some range) n h = small_literal range n h

label_named : (does : Does) (label : Option (List ℕ)) → HasLabelOf does label → IfSome label (λ l. is_name l ≡ true)
label_named does None h = tt
label_named Calls (Some l) h = h
label_named (Jumps when) (Some l) h = h
label_named _ (Some l) h = absurd (cc h)

number_small : (frame : ℕ) → frame ≤ FRAME → (op : Op) (n : ℤ) → HasItsNumber frame op n → unsigned_abs n ≤ 65535
number_small zero small Enter n h = let k = h.0 in absurd (omega arith)
number_small (suc k) small Enter n h = rw h.1 (omega arith)
number_small frame small Leave n h = rw h.1 (omega arith)
number_small frame small op n h = of_literal (literal_range op) n h

tame : (frame : ℕ) → frame ≤ FRAME → (i : Instr) → IsGoodInstr frame i → IsTame i
tame frame small i g = record {
  result = writes_reg i.op i.dst g.writes;
  operands = reads_regs i.op i.srcs g.reads;
  literal = number_small frame small i.op i.imm g.literal;
  label = label_named (does_of i.op) i.label g.label;
}

-- ---- texts

some_reg_clean : (dst : Option Reg) → IfSome dst (λ r. r.0 < REGISTERS) → IsClean (some_reg_text dst)
some_reg_clean None h = refl
some_reg_clean (Some r) h = reg_clean r h

operand_clean : (srcs : List Reg) → AreRegs srcs → (k : ℕ) → IsClean (some_reg_text (slice_get srcs k))
operand_clean [] regs k = refl
operand_clean (r ∷ rs) regs zero = reg_clean r regs.0
operand_clean (r ∷ rs) regs (suc k) = operand_clean rs regs.1 k

more_clean : (rs : List Reg) → AreRegs rs → IsClean (flat_map (λ (r : Reg). codes "," ++ reg_text r) rs)
more_clean [] regs = refl
more_clean (r ∷ rs) regs = clean_append (codes "," ++ reg_text r) (flat_map (λ (r : Reg). codes "," ++ reg_text r) rs) (reg_clean r regs.0)
    (more_clean rs regs.1)

joined_clean : (rs : List Reg) → AreRegs rs → IsClean (joined (codes ",") reg_text rs)
joined_clean [] regs = refl
joined_clean (r ∷ rs) regs = clean_append (reg_text r) (flat_map (λ (r : Reg). codes "," ++ reg_text r) rs) (reg_clean r regs.0)
    (more_clean rs regs.1)

operands_clean : (rs : List Reg) → AreRegs rs → IsClean (codes "(" ++ joined (codes ",") reg_text rs ++ codes ")")
operands_clean rs regs = clean_append (joined (codes ",") reg_text rs) (codes ")") (joined_clean rs regs) refl

label_clean : (label : Option (List ℕ)) → IfSome label (λ l. is_name l ≡ true) → IsClean (label_text label)
label_clean None h = refl
label_clean (Some label) h = says_clean label _ (name_says label h)

printed_clean : (op : Op) → IsClean (printed_name op)
printed_clean Add = refl
printed_clean _ = refl

module _ (i : Instr) (t : IsTame i) where
  literal_clean : IsClean (literal_text i)
  literal_clean = says_clean (codes "#" ++ signed_decimal i.imm) _ (literal_says i.imm t.literal)

  result_clean : IsClean (result_text i)
  result_clean = clean_append (some_reg_text i.dst) (codes " = ") (some_reg_clean i.dst t.result) refl

  operand_at : (k : ℕ) → IsClean (operand_text i k)
  operand_at k = operand_clean i.srcs t.operands k

  word_clean : (base : List ℕ) → IsClean base → IsClean (word_text base i)
  word_clean base h =
      clean_append (base ++ codes "+" ++ literal_text i) (codes ")")
      (clean_append (base ++ codes "+") (literal_text i) (clean_append base (codes "+") h refl) literal_clean) refl

  branch_clean : IsClean (operand_text i 0 ++ codes ") jump " ++ label_text i.label)
  branch_clean = clean_append (operand_text i 0 ++ codes ") jump ") (label_text i.label)
      (clean_append (operand_text i 0) (codes ") jump ") (operand_at 0) refl) (label_clean i.label t.label)

  new_branch_clean : IsClean (operand_text i 0 ++ codes ".new) jump " ++ label_text i.label)
  new_branch_clean = clean_append (operand_text i 0 ++ codes ".new) jump ") (label_text i.label)
      (clean_append (operand_text i 0) (codes ".new) jump ") (operand_at 0) refl) (label_clean i.label t.label)

  text_clean : (form : Form) → IsClean (text_in form i)
  text_clean Literal = clean_append (result_text i) (literal_text i) result_clean literal_clean
  text_clean Copied = clean_append (result_text i) (operand_text i 0) result_clean (operand_at 0)
  text_clean Computed = clean_append (result_text i ++ printed_name i.op) (operands_text i)
      (clean_append (result_text i) (printed_name i.op) result_clean (printed_clean i.op)) (operands_clean i.srcs t.operands)
  text_clean WithLiteral =
      clean_append (result_text i ++ printed_name i.op ++ codes "(" ++ operand_text i 0 ++ codes "," ++ literal_text i) (codes ")")
      (clean_append (result_text i ++ printed_name i.op ++ codes "(" ++ operand_text i 0 ++ codes ",") (literal_text i)
      (clean_append (result_text i ++ printed_name i.op ++ codes "(" ++ operand_text i 0) (codes ",")
      (clean_append (result_text i ++ printed_name i.op ++ codes "(") (operand_text i 0)
      (clean_append (result_text i ++ printed_name i.op) (codes "(")
      (clean_append (result_text i) (printed_name i.op) result_clean (printed_clean i.op)) refl)
      (operand_at 0)) refl) literal_clean) refl
  text_clean Loaded = clean_append (result_text i) (word_text (operand_text i 0) i) result_clean
      (word_clean (operand_text i 0) (operand_at 0))
  text_clean Stored =
      clean_append (word_text (operand_text i 0) i ++ codes " = ") (operand_text i 1)
      (clean_append (word_text (operand_text i 0) i) (codes " = ") (word_clean (operand_text i 0) (operand_at 0)) refl) (operand_at 1)
  text_clean Reloaded = clean_append (result_text i) (word_text (codes "r29") i) result_clean (word_clean (codes "r29") refl)
  text_clean Spilled =
      clean_append (word_text (codes "r29") i ++ codes " = ") (operand_text i 0)
      (clean_append (word_text (codes "r29") i) (codes " = ") (word_clean (codes "r29") refl) refl) (operand_at 0)
  text_clean StackMoved = clean_append (literal_text i) (codes ")") literal_clean refl
  text_clean Called = clean_append (label_text i.label) (operands_text i) (label_clean i.label t.label) (operands_clean i.srcs t.operands)
  text_clean Jumped = label_clean i.label t.label
  text_clean JumpedIf = branch_clean
  text_clean JumpedIfNot = branch_clean
  text_clean JumpedIfNew = new_branch_clean
  text_clean JumpedIfNotNew = new_branch_clean
  text_clean Returned = operand_at 0
  text_clean Idle = refl

pub instr_clean : (frame : ℕ) → frame ≤ FRAME → (i : Instr) → IsGoodInstr frame i → IsClean (instr_text i)
instr_clean frame small i g = text_clean i (tame frame small i g) (form_of i.op)
