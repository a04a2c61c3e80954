-- The words of an instruction's text.
use Rattle.std.proofs.Common.{◌≡◌, ℕ, ℤ, ◌<◌, ◌≤◌, true, List, [], ◌∷◌, ◌++◌, map, codes, refl, sym, ap, ◌∙◌, append_assoc, append-nil}
use Rattle.std.proofs.Common.{unsigned_abs}
use Rattle.std.specs.List.{flat_map}
use Rattle.std.specs.Fmt.{signed_decimal}
use Rattle.un_base.specs.Names.{is_name}
use Rattle.un_isa.specs.declared.reg.Reg.{Reg}
use Rattle.un_isa.specs.declared.reg.TheConstants.{REGISTERS}
use Rattle.un_listing.specs.declared.word.Word.{Word}
use Rattle.un_listing.specs.declared.word.Word.TheVariants.{Named, Literal, Negated, NegatedFresh}
use Rattle.un_listing.specs.Listing.{joined, reg_text}
use Rattle.un_listing.specs.ListingWords.{words_of}
use Rattle.un_listing.proofs.WordTexts.{Says, stops, first_word, reg_back, name_says, negated_says, fresh_back, negated_fresh_says}
use Rattle.un_listing.proofs.WordTexts.{literal_says}

abbrev pub reg_word : Reg → Word
reg_word r = Named (reg_text r)

-- every register of the list is one of the processor
abbrev pub AreRegs : List Reg → Type 0
AreRegs [] = Unit {0}
AreRegs (r ∷ rs) = (r.0 < REGISTERS) × AreRegs rs

reg_then : (r : Reg) → r.0 < REGISTERS → (rest : List ℕ) → stops rest ≡ true → words_of (reg_text r ++ rest) ≡ reg_word r ∷ words_of rest
reg_then r h rest stop = first_word (reg_text r) (reg_word r) (reg_back r h).says rest stop

more_stop : (rs : List Reg) (rest : List ℕ) → stops rest ≡ true → stops (flat_map (λ (r : Reg). codes "," ++ reg_text r) rs ++ rest) ≡ true
more_stop [] rest stop = stop
more_stop (r ∷ rs) rest stop = refl

more_words : (rs : List Reg) (rest : List ℕ) → AreRegs rs → stops rest ≡ true
    → words_of (flat_map (λ (r : Reg). codes "," ++ reg_text r) rs ++ rest) ≡ map reg_word rs ++ words_of rest
more_words [] rest regs stop = refl
more_words (r ∷ rs) rest regs stop =
    ap words_of (append_assoc (codes "," ++ reg_text r) (flat_map (λ (r : Reg). codes "," ++ reg_text r) rs) rest)
    ∙ reg_then r regs.0 (flat_map (λ (r : Reg). codes "," ++ reg_text r) rs ++ rest) (more_stop rs rest stop)
    ∙ ap (λ (ws : List Word). reg_word r ∷ ws) (more_words rs rest regs.1 stop)

operand_words : (rs : List Reg) (rest : List ℕ) → AreRegs rs → stops rest ≡ true
    → words_of (joined (codes ",") reg_text rs ++ rest) ≡ map reg_word rs ++ words_of rest
operand_words [] rest regs stop = refl
operand_words (r ∷ rs) rest regs stop =
    ap words_of (append_assoc (reg_text r) (flat_map (λ (r : Reg). codes "," ++ reg_text r) rs) rest)
    ∙ reg_then r regs.0 (flat_map (λ (r : Reg). codes "," ++ reg_text r) rs ++ rest) (more_stop rs rest stop)
    ∙ ap (λ (ws : List Word). reg_word r ∷ ws) (more_words rs rest regs.1 stop)

-- ---- pieces

only_word : (text : List ℕ) (w : Word) → Says text w → words_of text ≡ w ∷ []
only_word text w says = sym (ap words_of (append-nil text)) ∙ first_word text w says [] refl

reg_end : (r : Reg) → r.0 < REGISTERS → words_of (reg_text r) ≡ reg_word r ∷ []
reg_end r h = only_word (reg_text r) (reg_word r) (reg_back r h).says

literal_then : (z : ℤ) → unsigned_abs z ≤ 65535 → (rest : List ℕ) → stops rest ≡ true
    → words_of ((codes "#" ++ signed_decimal z) ++ rest) ≡ Literal z ∷ words_of rest
literal_then z h rest stop = first_word (codes "#" ++ signed_decimal z) (Literal z) (literal_says z h) rest stop

literal_end : (z : ℤ) → unsigned_abs z ≤ 65535 → words_of (codes "#" ++ signed_decimal z) ≡ Literal z ∷ []
literal_end z h = only_word (codes "#" ++ signed_decimal z) (Literal z) (literal_says z h)

and_then : (w : Word) (x y : List Word) → x ≡ y → w ∷ x ≡ w ∷ y
and_then w x y e = ap (λ (ws : List Word). w ∷ ws) e

-- ---- forms

pub literal_words : (d : Reg) (z : ℤ) → d.0 < REGISTERS → unsigned_abs z ≤ 65535
    → words_of (reg_text d ++ codes " = " ++ (codes "#" ++ signed_decimal z)) ≡ reg_word d ∷ Literal z ∷ []
literal_words d z hd hz =
    ap words_of (append_assoc (reg_text d) (codes " = ") (codes "#" ++ signed_decimal z))
    ∙ reg_then d hd (codes " = " ++ (codes "#" ++ signed_decimal z)) refl
    ∙ and_then (reg_word d) _ _ (literal_end z hz)

pub copied_words : (d a : Reg) → d.0 < REGISTERS → a.0 < REGISTERS
    → words_of (reg_text d ++ codes " = " ++ reg_text a) ≡ reg_word d ∷ reg_word a ∷ []
copied_words d a hd ha =
    ap words_of (append_assoc (reg_text d) (codes " = ") (reg_text a))
    ∙ reg_then d hd (codes " = " ++ reg_text a) refl
    ∙ and_then (reg_word d) _ _ (reg_end a ha)

pub computed_words : (d : Reg) (m : List ℕ) (srcs : List Reg) → d.0 < REGISTERS → is_name m ≡ true → AreRegs srcs
    → words_of (reg_text d ++ codes " = " ++ m ++ (codes "(" ++ joined (codes ",") reg_text srcs ++ codes ")"))
    ≡ reg_word d ∷ Named m ∷ map reg_word srcs
computed_words d m srcs hd hm hs =
    ap words_of (append_assoc (reg_text d ++ codes " = ") m tail ∙ append_assoc (reg_text d) (codes " = ") (m ++ tail))
    ∙ reg_then d hd (codes " = " ++ (m ++ tail)) refl
    ∙ and_then (reg_word d) _ _ (first_word m (Named m) (name_says m hm) tail refl
    ∙ and_then (Named m) _ _ (operand_words srcs (codes ")") hs refl ∙ append-nil (map reg_word srcs)))
  where
    tail : List ℕ
    tail = codes "(" ++ joined (codes ",") reg_text srcs ++ codes ")"

pub with_literal_words : (d a : Reg) (m : List ℕ) (z : ℤ) → d.0 < REGISTERS → a.0 < REGISTERS → is_name m ≡ true → unsigned_abs z ≤ 65535
    → words_of (reg_text d ++ codes " = " ++ m ++ codes "(" ++ reg_text a ++ codes "," ++ (codes "#" ++ signed_decimal z) ++ codes ")")
    ≡ reg_word d ∷ Named m ∷ reg_word a ∷ Literal z ∷ []
with_literal_words d a m z hd ha hm hz = simp append_assoc (
    reg_then d hd _ refl
    ∙ and_then (reg_word d) _ _ (first_word m (Named m) (name_says m hm) _ refl
    ∙ and_then (Named m) _ _ (reg_then a ha _ refl
    ∙ and_then (reg_word a) _ _ (literal_then z hz (codes ")") refl))))

regroup : (a b c d e : List ℕ) → (((a ++ b) ++ c) ++ d) ++ e ≡ a ++ (b ++ (c ++ (d ++ e)))
regroup a b c d e = simp append_assoc

-- the word of memory at a base
word_words : (base : List ℕ) (w : Word) (z : ℤ) → Says base w → unsigned_abs z ≤ 65535 → (rest : List ℕ) → stops rest ≡ true
    → words_of ((codes "memw(" ++ base ++ codes "+" ++ (codes "#" ++ signed_decimal z) ++ codes ")") ++ rest)
    ≡ Named (codes "memw") ∷ w ∷ Literal z ∷ words_of rest
word_words base w z says hz rest stop =
    and_then (Named (codes "memw")) _ _ (ap words_of (regroup base (codes "+") (codes "#" ++ signed_decimal z) (codes ")") rest)
    ∙ first_word base w says (codes "+" ++ ((codes "#" ++ signed_decimal z) ++ (codes ")" ++ rest))) refl
    ∙ and_then w _ _ (literal_then z hz (codes ")" ++ rest) refl))

word_end : (base : List ℕ) (w : Word) (z : ℤ) → Says base w → unsigned_abs z ≤ 65535
    → words_of (codes "memw(" ++ base ++ codes "+" ++ (codes "#" ++ signed_decimal z) ++ codes ")")
    ≡ Named (codes "memw") ∷ w ∷ Literal z ∷ []
word_end base w z says hz =
    sym (ap words_of (append-nil (codes "memw(" ++ base ++ codes "+" ++ (codes "#" ++ signed_decimal z) ++ codes ")")))
    ∙ word_words base w z says hz [] refl

pub stack_says : Says (codes "r29") (Named (codes "r29"))
stack_says = name_says (codes "r29") refl

pub loaded_words : (d : Reg) (base : List ℕ) (w : Word) (z : ℤ) → d.0 < REGISTERS → Says base w → unsigned_abs z ≤ 65535
    → words_of (reg_text d ++ codes " = " ++ (codes "memw(" ++ base ++ codes "+" ++ (codes "#" ++ signed_decimal z) ++ codes ")"))
    ≡ reg_word d ∷ Named (codes "memw") ∷ w ∷ Literal z ∷ []
loaded_words d base w z hd says hz =
    ap words_of (append_assoc (reg_text d) (codes " = ") text)
    ∙ reg_then d hd (codes " = " ++ text) refl
    ∙ and_then (reg_word d) _ _ (word_end base w z says hz)
  where
    text : List ℕ
    text = codes "memw(" ++ base ++ codes "+" ++ (codes "#" ++ signed_decimal z) ++ codes ")"

pub stored_words : (base : List ℕ) (w : Word) (b : Reg) (z : ℤ) → Says base w → b.0 < REGISTERS → unsigned_abs z ≤ 65535
    → words_of ((codes "memw(" ++ base ++ codes "+" ++ (codes "#" ++ signed_decimal z) ++ codes ")") ++ codes " = " ++ reg_text b)
    ≡ Named (codes "memw") ∷ w ∷ Literal z ∷ reg_word b ∷ []
stored_words base w b z says hb hz =
    ap words_of (append_assoc (codes "memw(" ++ base ++ codes "+" ++ (codes "#" ++ signed_decimal z) ++ codes ")") (codes " = ")
    (reg_text b))
    ∙ word_words base w z says hz (codes " = " ++ reg_text b) refl
    ∙ ap (λ (ws : List Word). Named (codes "memw") ∷ w ∷ Literal z ∷ ws) (reg_end b hb)

pub moved_words : (z : ℤ) → unsigned_abs z ≤ 65535
    → words_of (codes "r29 = add(r29," ++ (codes "#" ++ signed_decimal z) ++ codes ")")
    ≡ Named (codes "r29") ∷ Named (codes "add") ∷ Named (codes "r29") ∷ Literal z ∷ []
moved_words z hz = ap (λ (ws : List Word). Named (codes "r29") ∷ Named (codes "add") ∷ Named (codes "r29") ∷ ws)
    (literal_then z hz (codes ")") refl)

pub called_words : (label : List ℕ) (srcs : List Reg) → is_name label ≡ true → AreRegs srcs
    → words_of (codes "call " ++ label ++ (codes "(" ++ joined (codes ",") reg_text srcs ++ codes ")"))
    ≡ Named (codes "call") ∷ Named label ∷ map reg_word srcs
called_words label srcs hl hs =
    and_then (Named (codes "call")) _ _ (first_word label (Named label) (name_says label hl)
    (codes "(" ++ joined (codes ",") reg_text srcs ++ codes ")") refl
    ∙ and_then (Named label) _ _ (operand_words srcs (codes ")") hs refl ∙ append-nil (map reg_word srcs)))

label_end : (label : List ℕ) → is_name label ≡ true → words_of label ≡ Named label ∷ []
label_end label hl = only_word label (Named label) (name_says label hl)

pub jumped_words : (label : List ℕ) → is_name label ≡ true → words_of (codes "jump " ++ label) ≡ Named (codes "jump") ∷ Named label ∷ []
jumped_words label hl = and_then (Named (codes "jump")) _ _ (label_end label hl)

-- the predicate's word ends behind `.new`
behind_new : (text label : List ℕ) → (text ++ codes ".new) jump ") ++ label ≡ (text ++ codes ".new") ++ (codes ") jump " ++ label)
behind_new text label =
    append_assoc text (codes ".new) jump ") label ∙ sym (append_assoc text (codes ".new") (codes ") jump " ++ label))

pub jumped_if_words : (p : Reg) (label : List ℕ) → p.0 < REGISTERS → is_name label ≡ true
    → words_of (codes "if (" ++ reg_text p ++ codes ") jump " ++ label)
    ≡ Named (codes "if") ∷ reg_word p ∷ Named (codes "jump") ∷ Named label ∷ []
jumped_if_words p label hp hl =
    and_then (Named (codes "if")) _ _ (ap words_of (append_assoc (reg_text p) (codes ") jump ") label)
    ∙ reg_then p hp (codes ") jump " ++ label) refl
    ∙ and_then (reg_word p) _ _ (and_then (Named (codes "jump")) _ _ (label_end label hl)))

pub jumped_if_not_words : (p : Reg) (label : List ℕ) → p.0 < REGISTERS → is_name label ≡ true
    → words_of (codes "if (!" ++ reg_text p ++ codes ") jump " ++ label)
    ≡ Named (codes "if") ∷ Negated p ∷ Named (codes "jump") ∷ Named label ∷ []
jumped_if_not_words p label hp hl =
    and_then (Named (codes "if")) _ _ (ap words_of (append_assoc (33 ∷ reg_text p) (codes ") jump ") label)
    ∙ first_word (33 ∷ reg_text p) (Negated p) (negated_says (reg_text p) p (reg_back p hp)) (codes ") jump " ++ label) refl
    ∙ and_then (Negated p) _ _ (and_then (Named (codes "jump")) _ _ (label_end label hl)))

pub jumped_if_new_words : (p : Reg) (label : List ℕ) → p.0 < REGISTERS → is_name label ≡ true
    → words_of (codes "if (" ++ reg_text p ++ codes ".new) jump " ++ label)
    ≡ Named (codes "if") ∷ Named (reg_text p ++ codes ".new") ∷ Named (codes "jump") ∷ Named label ∷ []
jumped_if_new_words p label hp hl =
    and_then (Named (codes "if")) _ _ (ap words_of (behind_new (reg_text p) label)
    ∙ first_word (reg_text p ++ codes ".new") (Named (reg_text p ++ codes ".new")) (fresh_back p hp).says (codes ") jump " ++ label) refl
    ∙ and_then (Named (reg_text p ++ codes ".new")) _ _ (and_then (Named (codes "jump")) _ _ (label_end label hl)))

pub jumped_if_not_new_words : (p : Reg) (label : List ℕ) → p.0 < REGISTERS → is_name label ≡ true
    → words_of (codes "if (!" ++ reg_text p ++ codes ".new) jump " ++ label)
    ≡ Named (codes "if") ∷ NegatedFresh p ∷ Named (codes "jump") ∷ Named label ∷ []
jumped_if_not_new_words p label hp hl =
    and_then (Named (codes "if")) _ _ (ap words_of (behind_new (33 ∷ reg_text p) label)
    ∙ first_word (33 ∷ (reg_text p ++ codes ".new")) (NegatedFresh p) (negated_fresh_says p hp) (codes ") jump " ++ label) refl
    ∙ and_then (NegatedFresh p) _ _ (and_then (Named (codes "jump")) _ _ (label_end label hl)))

pub returned_words : (a : Reg) → a.0 < REGISTERS → words_of (codes "jumpr " ++ reg_text a) ≡ Named (codes "jumpr") ∷ reg_word a ∷ []
returned_words a ha = and_then (Named (codes "jumpr")) _ _ (reg_end a ha)

pub idle_words : words_of (codes "nop") ≡ Named (codes "nop") ∷ []
idle_words = refl
