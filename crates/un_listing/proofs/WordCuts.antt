-- The first word of a text, cut off.
use Rattle.std.proofs.Common.{◌≡◌, ⊎_elim, ℕ, Bool, true, false, not, cond, suc, ◌+◌, ◌<◌, ◌≤◌, List, [], ◌∷◌, ◌++◌, map, filter, refl}
use Rattle.std.proofs.Common.{length, take, drop, arith}
use Rattle.std.specs.List.{slice_split, position_or_len, onto_first}
use Rattle.std.proofs.lemmas.List.{take_all}
use Rattle.std.proofs.Math.ListN.{drop_of_length-le}
use Rattle.std.proofs.lemmas.List.Splits.{slice_split_first}
use Rattle.std.proofs.lemmas.Bool.{cases_lt}
use Rattle.un_listing.specs.ListingWords.{word_of, is_between, is_some_text, spelled, words_of}

-- where no byte passes, the text is one part
pub whole_part : (p : ℕ → Bool) (text : List ℕ) → length text ≤ position_or_len p text → slice_split p text ≡ text ∷ []
whole_part p [] past = refl
whole_part p (b ∷ bs) past = by (p b) refl past (λ h. whole_part p bs h)
  where
    by : (v : Bool) → p b ≡ v → suc (length bs) ≤ cond (not v) (1 + position_or_len p bs) 0
        → (length bs ≤ position_or_len p bs → slice_split p bs ≡ bs ∷ [])
        → cond v ([] ∷ slice_split p bs) (onto_first b (slice_split p bs)) ≡ (b ∷ bs) ∷ []
    by true e h more = absurd (omega arith)
    by false e h more = rw (more (omega arith)) refl

words_first : (part : List ℕ) (parts : List (List ℕ))
    → map word_of (filter is_some_text (part ∷ parts)) ≡ spelled part ++ map word_of (filter is_some_text parts)
words_first [] parts = refl
words_first (b ∷ bs) parts = refl

pub first_word_cut : (text : List ℕ) (n : ℕ) → n ≡ position_or_len is_between text
    → words_of text ≡ spelled (take n text) ++ words_of (drop (n + 1) text)
first_word_cut text n e = ⊎_elim here past (cases_lt n (length text))
  where
    here : n < length text → words_of text ≡ spelled (take n text) ++ words_of (drop (n + 1) text)
    here h =
        let parts = slice_split_first is_between text 0 (omega arith) in rw (e, parts)
        (words_first (take (position_or_len is_between text) text)
        (slice_split is_between (drop (position_or_len is_between text + 1) text)))

    past : length text ≤ n → words_of text ≡ spelled (take n text) ++ words_of (drop (n + 1) text)
    past h =
        let parts = whole_part is_between text (omega arith) in
        let all : take n text ≡ text = take_all n text h in
        let none : drop (n + 1) text ≡ [] = drop_of_length-le text (omega arith) in
        rw (parts, all, none) (words_first text [])
