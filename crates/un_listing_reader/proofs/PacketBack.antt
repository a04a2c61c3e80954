-- A packet of code is read back from its line.
use Rattle.std.proofs.Common.{◌≡◌, ℕ, ◌<◌, ◌≤◌, ◌==◌, ◌&&◌, ◌||◌, not, cond, Bool, true, false, List, [], ◌∷◌, ◌++◌, map, filter, length}
use Rattle.std.proofs.Common.{codes, Option, Some, All, refl, ap, ◌∙◌, append_assoc, append-nil, arith}
use Rattle.std.specs.List.{slice_split, onto_first, list_all, flat_map}
use Rattle.std.specs.Option.{option_and_then}
use Rattle.std.proofs.lemmas.List.{map-append}
use Rattle.std.proofs.lemmas.List.Elements.{All-head, All-tail, filter-append}
use Rattle.std.proofs.lemmas.List.Splits.{length-slice_split}
use Rattle.std.proofs.lemmas.List.Folds.{list_all-append}
use Rattle.un_isa.specs.declared.reg.TheConstants.{FRAME}
use Rattle.un_isa.specs.declared.instr.Instr.{Instr}
use Rattle.un_packet.specs.declared.code.Packet.{Packet}
use Rattle.un_packet.specs.CodeRules.{IsGoodInstr}
use Rattle.un_listing.specs.Listing.{joined, instr_text}
use Rattle.un_listing.specs.ListingWords.{word_of, is_between, is_some_text, words_of}
use Rattle.un_listing.specs.Recognized.{instr_of}
use Rattle.un_listing_reader.specs.PacketWords.{is_semicolon, parts_of, put_before, instrs_in, IsPacketLine}
use Rattle.un_listing.proofs.WordTexts.{all_weaker}
use Rattle.un_listing.proofs.InstrBack.{IsBack, instr_back}
use Rattle.un_listing_reader.proofs.CleanTexts.{is_clean, instr_clean}

-- ---- words before a byte that is in none

onto_append : {X : Type 0} (c : X) (parts more : List (List X)) → 0 < length parts
    → onto_first c (parts ++ more) ≡ onto_first c parts ++ more
onto_append c [] more some = absurd (omega arith)
onto_append c (p ∷ ps) more some = refl

split_append : (p : ℕ → Bool) (text : List ℕ) (b : ℕ) (rest : List ℕ) → p b ≡ true
    → slice_split p (text ++ b ∷ rest) ≡ slice_split p text ++ slice_split p rest
split_append p [] b rest h = rw h refl
split_append p (c ∷ cs) b rest h = by (p c) (split_append p cs b rest h)
  where
    by : (v : Bool) → slice_split p (cs ++ b ∷ rest) ≡ slice_split p cs ++ slice_split p rest
        → cond v ([] ∷ slice_split p (cs ++ b ∷ rest)) (onto_first c (slice_split p (cs ++ b ∷ rest)))
        ≡ cond v ([] ∷ slice_split p cs) (onto_first c (slice_split p cs)) ++ slice_split p rest
    by true e = ap (λ (ps : List (List ℕ)). [] ∷ ps) e
    by false e = ap (onto_first c) e ∙ onto_append c (slice_split p cs) (slice_split p rest) (omega (arith, length-slice_split p cs))

words_between : (text : List ℕ) (b : ℕ) (rest : List ℕ) → is_between b ≡ true → words_of (text ++ b ∷ rest) ≡ words_of text ++ words_of rest
words_between text b rest h =
    ap (λ (ps : List (List ℕ)). map word_of (filter is_some_text ps)) (split_append is_between text b rest h)
    ∙ ap (map word_of) (filter-append is_some_text (slice_split is_between text) (slice_split is_between rest))
    ∙ map-append word_of (filter is_some_text (slice_split is_between text)) (filter is_some_text (slice_split is_between rest))

line_end : (text : List ℕ) → words_of (text ++ codes " }\n") ≡ words_of text
line_end text = words_between text 32 (codes "}\n") refl ∙ append-nil (words_of text)

-- ---- parts

abbrev HasNoSemicolon : List ℕ → Type 0
HasNoSemicolon text = list_all (λ b. not (is_semicolon b)) text ≡ true

clean_byte : (b : ℕ) → is_clean b ≡ true → not (is_semicolon b) ≡ true
clean_byte b h = by (b == 59) (b == 10) h
  where
    by : (u v : Bool) → not (u || v) ≡ true → not u ≡ true
    by true v k = absurd (cc k)
    by false v k = refl

outside : (b : ℕ) (v : Bool) → (not (is_semicolon b) && v) ≡ true → (is_semicolon b ≡ false) × (v ≡ true)
outside b v h = by (is_semicolon b) refl v h
  where
    by : (u : Bool) → is_semicolon b ≡ u → (v : Bool) → (not u && v) ≡ true → (is_semicolon b ≡ false) × (v ≡ true)
    by false e v k = (e, k)
    by true e v k = absurd (cc k)

one_part : (text : List ℕ) → HasNoSemicolon text → parts_of text ≡ text ∷ []
one_part [] h = refl
one_part (b ∷ bs) h = let k = outside b (list_all (λ b. not (is_semicolon b)) bs) h in rw (k.0, one_part bs k.1) refl

part_here : (text rest : List ℕ) → HasNoSemicolon text → parts_of (text ++ 59 ∷ rest) ≡ text ∷ parts_of rest
part_here [] rest h = refl
part_here (b ∷ bs) rest h = let k = outside b (list_all (λ b. not (is_semicolon b)) bs) h in rw (k.0, part_here bs rest k.1) refl

-- ---- instructions in a line

-- each is read back from its text, which has no semicolon
abbrev AreBack : List Instr → Type 0
AreBack [] = Unit {0}
AreBack (i ∷ is) = IsBack i × HasNoSemicolon (instr_text i) × AreBack is

abbrev more_text : List Instr → List ℕ
more_text is = flat_map (λ (i : Instr). codes "; " ++ instr_text i) is

parts_back : (text : List ℕ) (i : Instr) (is : List Instr) → HasNoSemicolon text → instr_of (words_of text) ≡ Some i → AreBack is
    → instrs_in (parts_of (text ++ (more_text is ++ codes " }\n"))) ≡ Some (i ∷ is)
parts_back text i [] clean read back =
    let whole : HasNoSemicolon (text ++ codes " }\n") = rw (list_all-append (λ b. not (is_semicolon b)) text (codes " }\n"), clean) refl in
    ap instrs_in (one_part (text ++ codes " }\n") whole) ∙ rw (line_end text, read) refl
parts_back text i (j ∷ js) clean read back =
    let rest : List ℕ = (32 ∷ instr_text j) ++ (more_text js ++ codes " }\n") in
    let later = parts_back (32 ∷ instr_text j) j js back.1 back.0 back.2 in
    ap (λ (t : List ℕ). instrs_in (parts_of (text ++ 59 ∷ 32 ∷ t))) (append_assoc (instr_text j) (more_text js) (codes " }\n"))
    ∙ ap instrs_in (part_here text rest clean)
    ∙ ap (λ (o : Option Instr). option_and_then (λ i. put_before i (instrs_in (parts_of rest))) o) read
    ∙ ap (put_before i) later

regroup : (a b c d : List ℕ) → ((a ++ b) ++ c) ++ d ≡ a ++ (b ++ (c ++ d))
regroup a b c d = simp append_assoc

are_back : (frame : ℕ) → frame ≤ FRAME → (is : List Instr) → All (IsGoodInstr frame) is → AreBack is
are_back frame small [] good = tt
are_back frame small (i ∷ is) good =
    let g = All-head (IsGoodInstr frame) i is good in (
      instr_back frame small i.op i.dst i.srcs i.imm i.label g,
      all_weaker is_clean (λ b. not (is_semicolon b)) clean_byte (instr_text i) (instr_clean frame small i g),
      are_back frame small is (All-tail (IsGoodInstr frame) i is good),
    )

line_back : (is : List Instr) → 0 < length is → AreBack is
    → instrs_in (parts_of (codes "{ " ++ joined (codes "; ") instr_text is ++ codes " }" ++ codes "\n")) ≡ Some is
line_back [] some back = absurd (omega arith)
line_back (i ∷ is) some back =
    ap (λ (t : List ℕ). instrs_in (parts_of (123 ∷ 32 ∷ t))) (regroup (instr_text i) (more_text is) (codes " }") (codes "\n"))
    ∙ parts_back (123 ∷ 32 ∷ instr_text i) i is back.1 back.0 back.2

-- the instructions of a packet's line
pub packet_back : (frame : ℕ) → frame ≤ FRAME → (line : List ℕ) (p : Packet) → IsPacketLine frame line p
    → instrs_in (parts_of line) ≡ Some p.instrs
packet_back frame small line p h =
    ap (λ (t : List ℕ). instrs_in (parts_of t)) h.text
    ∙ line_back p.instrs h.rules.some (are_back frame small p.instrs h.rules.instrs)
