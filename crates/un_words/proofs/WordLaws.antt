-- The first word of a line.
use Rattle.std.proofs.Common.{◌≡◌, ℕ, Bool, true, false, not, zero, suc, ◌||◌, ◌<◌, List, [], ◌∷◌, refl, sym, ap, ◌∙◌, length, take, drop}
use Rattle.std.proofs.Common.{get_or, arith, subst}
use Rattle.std.specs.List.{onto_first, prefix_len}
use Rattle.un_words.specs.Words.{is_blank, is_mark, is_inner, words_of}

-- a blank begins no word
pub blank_word : (b : ℕ) (bs : List ℕ) → is_blank b ≡ true → words_of (b ∷ bs) ≡ words_of bs
blank_word b bs blank = rw blank refl

-- a comma or an equals sign is a word
pub mark_word : (text : List ℕ) → 0 < length text → is_blank (get_or text 0 0) ≡ false → is_mark (get_or text 0 0) ≡ true
    → words_of text ≡ take 1 text ∷ words_of (drop 1 text)
mark_word [] some plain mark = absurd (omega arith)
mark_word (b ∷ bs) some plain mark = rw (plain, mark) refl

inner_plain : (b : ℕ) → is_inner b ≡ true → (is_blank b ≡ false) × (is_mark b ≡ false)
inner_plain b inner = by (is_blank b) (is_mark b) inner
  where
    by : (v w : Bool) → not (v || w) ≡ true → (v ≡ false) × (w ≡ false)
    by true w e = absurd (cc e)
    by false true e = absurd (cc e)
    by false false e = (refl, refl)

-- a longer word goes on to the first byte that is no part of one
pub inner_word : (text : List ℕ) → 0 < length text → is_inner (get_or text 0 0) ≡ true
    → words_of text ≡ take (prefix_len is_inner text) text ∷ words_of (drop (prefix_len is_inner text) text)
inner_word [] some inner = absurd (omega arith)
inner_word (b ∷ []) some inner =
    let plain = inner_plain b inner in rw (plain.0, plain.1) refl
inner_word (b ∷ c ∷ more) some inner = by (λ e. inner_word (c ∷ more) (omega arith) e) (is_inner c) refl
  where
    n : ℕ
    n = prefix_len is_inner (c ∷ more)

    plain : (is_blank b ≡ false) × (is_mark b ≡ false)
    plain = inner_plain b inner

    by : (is_inner c ≡ true → words_of (c ∷ more) ≡ take n (c ∷ more) ∷ words_of (drop n (c ∷ more)))
        → (v : Bool) → is_inner c ≡ v → words_of (b ∷ c ∷ more)
        ≡ take (prefix_len is_inner (b ∷ c ∷ more)) (b ∷ c ∷ more) ∷ words_of (drop (prefix_len is_inner (b ∷ c ∷ more)) (b ∷ c ∷ more))
    by later true e =
        let rest = later e in
        let here : words_of (b ∷ c ∷ more) ≡ onto_first b (words_of (c ∷ more)) = rw (plain.0, plain.1, e) refl in
        let k : prefix_len is_inner (b ∷ c ∷ more) ≡ suc n = rw inner (omega arith) in
        subst (λ (k : ℕ). words_of (b ∷ c ∷ more) ≡ take k (b ∷ c ∷ more) ∷ words_of (drop k (b ∷ c ∷ more))) (sym k)
        (here ∙ ap (onto_first b) rest)
    by later false e =
        let none : n ≡ 0 = rw e refl in
        let here : words_of (b ∷ c ∷ more) ≡ (b ∷ []) ∷ words_of (c ∷ more) = rw (plain.0, plain.1, e) refl in
        let k : prefix_len is_inner (b ∷ c ∷ more) ≡ suc zero = rw inner (omega (arith, none)) in
        subst (λ (k : ℕ). words_of (b ∷ c ∷ more) ≡ take k (b ∷ c ∷ more) ∷ words_of (drop k (b ∷ c ∷ more))) (sym k) here

-- the blanks before a word count for nothing
pub words_of-drop : (line : List ℕ) → words_of (drop (prefix_len is_blank line) line) ≡ words_of line
words_of-drop [] = refl
words_of-drop (b ∷ bs) = by (words_of-drop bs) (is_blank b) refl
  where
    by : words_of (drop (prefix_len is_blank bs) bs) ≡ words_of bs → (v : Bool) → is_blank b ≡ v
        → words_of (drop (prefix_len is_blank (b ∷ bs)) (b ∷ bs)) ≡ words_of (b ∷ bs)
    by rest true e =
        let k : prefix_len is_blank (b ∷ bs) ≡ suc (prefix_len is_blank bs) = rw e (omega arith) in
        rw k (rest ∙ sym (blank_word b bs e))
    by rest false e = let k : prefix_len is_blank (b ∷ bs) ≡ zero = rw e refl in rw k refl

-- and behind them no blank stands
pub is_blank-drop : (line : List ℕ) → 0 < length (drop (prefix_len is_blank line) line)
    → is_blank (get_or (drop (prefix_len is_blank line) line) 0 0) ≡ false
is_blank-drop [] some = absurd (omega arith)
is_blank-drop (b ∷ bs) some = by (is_blank-drop bs) (is_blank b) refl some
  where
    by : (0 < length (drop (prefix_len is_blank bs) bs) → is_blank (get_or (drop (prefix_len is_blank bs) bs) 0 0) ≡ false) → (v : Bool)
        → is_blank b ≡ v
        → 0 < length (drop (prefix_len is_blank (b ∷ bs)) (b ∷ bs))
        → is_blank (get_or (drop (prefix_len is_blank (b ∷ bs)) (b ∷ bs)) 0 0) ≡ false
    by rest true e some =
        let k : prefix_len is_blank (b ∷ bs) ≡ suc (prefix_len is_blank bs) = rw e (omega arith) in
        let more : 0 < length (drop (prefix_len is_blank bs) bs) = rw k at some in
        rw k (rest more)
    by rest false e some = let k : prefix_len is_blank (b ∷ bs) ≡ zero = rw e refl in rw k e
