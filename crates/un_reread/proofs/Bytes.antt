-- Lines without a line end, a comment or a byte that no text may have, and how they are cut from a text.
use Rattle.std.proofs.Common.{◌≡◌, ◌≢◌, ℕ, zero, suc, ◌+◌, ◌-◌, ◌<◌, ◌≤◌, ◌==◌, Bool, true, false, ◌&&◌, not, nat_lt, nat_le, List}
use Rattle.std.proofs.Common.{[], ◌∷◌, ◌++◌, map, length, take, refl, ap, ◌∙◌, arith, All, flat_map, append_assoc, get_or, length-append}
use Rattle.std.proofs.Common.{ne_eqb, one-add, lt-ltb}
use Rattle.std.specs.List.{list_all}
use Rattle.std.proofs.lemmas.Bool.{and_parts, leb-true, not-true, or_right}
use Rattle.std.proofs.lemmas.Bool.Decides.{nat_tests}
use Rattle.std.proofs.lemmas.List.Elements.{All-cons, All-nil, All-head, All-tail}
use Rattle.std.proofs.lemmas.List.Folds.{list_all-append}
use Rattle.std.proofs.lemmas.List.{get_or_push}
use Rattle.std.proofs.Math.Seq.{take-append_seam}
use Rattle.un_base.specs.Lines.{pieces_of, HasNoFeed}
use Rattle.un_base.proofs.LineLaws.{pieces_of-line}
use Rattle.un_ir.specs.Text.{ended}
use Rattle.un_faults.specs.LineFaults.{is_plain_byte}
use Rattle.un_words.specs.Pieces.{ends_with, without_end, without_comment, lines_in}

-- a byte from a space to a tilde, but no semicolon
abbrev pub is_clean_byte : ℕ → Bool
is_clean_byte b = nat_le 32 b && (nat_le b 126 && not (b == 59))

-- so the line has no line feed, no carriage return, no comment and no bad byte
abbrev pub IsClean : List ℕ → Type 0
IsClean line = list_all is_clean_byte line ≡ true

record Clean (b : ℕ) : Type 0 where
  low : 32 ≤ b
  high : b ≤ 126
  other : (b == 59) ≡ false

clean_byte : (b : ℕ) → is_clean_byte b ≡ true → Clean b
clean_byte b h =
    let low = and_parts (nat_le 32 b) (nat_le b 126 && not (b == 59)) h in
    let high = and_parts (nat_le b 126) (not (b == 59)) low.1 in
    record { low = leb-true 32 b low.0; high = leb-true b 126 high.0; other = not-true (b == 59) high.1 }

pub clean_head : (b : ℕ) (bs : List ℕ) → IsClean (b ∷ bs) → is_clean_byte b ≡ true
clean_head b bs h = (and_parts (is_clean_byte b) (list_all is_clean_byte bs) h).0

pub clean_tail : (b : ℕ) (bs : List ℕ) → IsClean (b ∷ bs) → IsClean bs
clean_tail b bs h = (and_parts (is_clean_byte b) (list_all is_clean_byte bs) h).1

-- lines that are clean, one behind the other
pub clean_append : (xs ys : List ℕ) → IsClean xs → IsClean ys → IsClean (xs ++ ys)
clean_append xs ys h k = list_all-append is_clean_byte xs ys ∙ rw (h, k) refl

-- a clean line has no bad byte
pub clean_plain : (line : List ℕ) → IsClean line → list_all is_plain_byte line ≡ true
clean_plain [] h = refl
clean_plain (b ∷ bs) h =
    let c = clean_byte b (clean_head b bs h) in
    let low : nat_le 32 b ≡ true = grind (arith, nat_tests, c.low) in
    let high : nat_le b 126 ≡ true = grind (arith, nat_tests, c.high) in
    let rest = clean_plain bs (clean_tail b bs h) in
    rw (low, high, rest, or_right (b == 9) true refl) refl

no_feed : (line : List ℕ) → IsClean line → HasNoFeed line
no_feed [] h = All-nil (λ b. b ≢ 10)
no_feed (b ∷ bs) h =
    let c = clean_byte b (clean_head b bs h) in
    All-cons (λ n. n ≢ 10) b bs (λ e. omega (arith, c.low)) (no_feed bs (clean_tail b bs h))

-- ---- the comment

no_comment : (line : List ℕ) → IsClean line → without_comment line ≡ line
no_comment [] h = refl
no_comment (b ∷ bs) h =
    let c = clean_byte b (clean_head b bs h) in
    let rest = no_comment bs (clean_tail b bs h) in
    rw (c.other, one-add) (ap (λ (xs : List ℕ). b ∷ xs) rest)

-- ---- the line end

clean_at : (line : List ℕ) → IsClean line → (i : ℕ) → i < length line → is_clean_byte (get_or line i 0) ≡ true
clean_at [] h i below = absurd (omega arith)
clean_at (b ∷ bs) h zero below = clean_head b bs h
clean_at (b ∷ bs) h (suc i) below = clean_at bs (clean_tail b bs h) i (omega arith)

and_no : (a b : Bool) → b ≡ false → (a && b) ≡ false
and_no true b h = h
and_no false b h = refl

-- no carriage return stands at the end
no_return : (line : List ℕ) → IsClean line → ends_with 13 line ≡ false
no_return [] h = refl
no_return (b ∷ bs) h =
    let c = clean_byte (get_or (b ∷ bs) (length (b ∷ bs) - 1) 0) (clean_at (b ∷ bs) h (length (b ∷ bs) - 1) (omega arith)) in
    and_no _ _ (ne_eqb (get_or (b ∷ bs) (length (b ∷ bs) - 1) 0) 13 (λ e. omega (arith, c.low)))

cut_by : (bs line : List ℕ) → ends_with 10 bs ≡ true → take (length bs - 1) bs ≡ line → ends_with 13 line ≡ false → without_end bs ≡ line
cut_by bs line e t r = rw (e, t, r) refl

end_cut : (line : List ℕ) → IsClean line → without_end (ended line) ≡ line
end_cut line h =
    let long : length (line ++ 10 ∷ []) ≡ length line + 1 = length-append line (10 ∷ []) in
    let less : length (line ++ 10 ∷ []) - 1 ≡ length line = omega (arith, long) in
    let some : nat_lt 0 (length (line ++ 10 ∷ [])) ≡ true = lt-ltb _ _ (omega (arith, long)) in
    let last : get_or (line ++ 10 ∷ []) (length (line ++ 10 ∷ []) - 1) 0 ≡ 10 = rw less (get_or_push line 10 0 (length line) refl) in
    let ends : ends_with 10 (line ++ 10 ∷ []) ≡ true = rw (some, last) refl in
    let front : take (length (line ++ 10 ∷ []) - 1) (line ++ 10 ∷ []) ≡ line = rw less (take-append_seam line (10 ∷ [])) in
    cut_by (line ++ 10 ∷ []) line ends front (no_return line h)

-- ---- lines

abbrev cut : List ℕ → List ℕ
cut piece = without_comment (without_end piece)

-- what is read of clean lines that are written one by one
pub lines_read : (lines : List (List ℕ)) → All IsClean lines → lines_in (flat_map ended lines) ≡ lines
lines_read [] h = refl
lines_read (line ∷ lines) h =
    let clean : IsClean line = All-head IsClean line lines h in
    let rest = lines_read lines (All-tail IsClean line lines h) in
    let whole : (line ++ 10 ∷ []) ++ flat_map ended lines ≡ line ++ 10 ∷ flat_map ended lines =
    append_assoc line (10 ∷ []) (flat_map ended lines) in
    let pieces : pieces_of (flat_map ended (line ∷ lines)) ≡ (line ++ 10 ∷ []) ∷ pieces_of (flat_map ended lines) =
    ap pieces_of whole ∙ pieces_of-line line (flat_map ended lines) (no_feed line clean) in
    let first : cut (ended line) ≡ line = ap without_comment (end_cut line clean) ∙ no_comment line clean in
    ap (map cut) pieces ∙ ap (λ (l : List ℕ). l ∷ lines_in (flat_map ended lines)) first ∙ ap (λ (ls : List (List ℕ)). line ∷ ls) rest

-- ---- short lines

-- a clean line of so many bytes at most
pub record IsNeat (most : ℕ) (line : List ℕ) : Type 0 where
  pub clean : IsClean line
  pub short : length line ≤ most

pub neat_append : (a b : ℕ) (xs ys : List ℕ) → IsNeat a xs → IsNeat b ys → IsNeat (a + b) (xs ++ ys)
neat_append a b xs ys h k =
    record { clean = clean_append xs ys h.clean k.clean; short = omega (arith, length-append xs ys, h.short, k.short) }

pub neat_more : (a b : ℕ) (xs : List ℕ) → a ≤ b → IsNeat a xs → IsNeat b xs
neat_more a b xs less h = record { clean = h.clean; short = omega (arith, h.short) }
