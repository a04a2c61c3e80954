-- The first line of a text.
use Rattle.std.proofs.Common.{◌≡◌, ℕ, Bool, true, false, not, cond, suc, ◌==◌, ◌+◌, ◌<◌, min, List, [], ◌∷◌, if◌then◌else◌, refl, sym}
use Rattle.std.proofs.Common.{length, take, drop, arith, subst, get_or, drop-cons}
use Rattle.std.specs.List.{onto_first, position_or_len}
use Rattle.un_base.specs.Lines.{is_line_feed, pieces_of}

-- the first line ends behind the first line feed, or with the text
pub first_piece : (text : List ℕ) (n : ℕ) → 0 < length text → n ≡ min (position_or_len is_line_feed text + 1) (length text)
    → pieces_of text ≡ take n text ∷ pieces_of (drop n text)
first_piece [] n some e = absurd (omega arith)
first_piece (b ∷ []) n some e = by (b == 10) e
  where
    by : (v : Bool) → n ≡ min (cond (not v) (1 + 0) 0 + 1) 1
        → (if v then (b ∷ []) ∷ [] else onto_first b []) ≡ take n (b ∷ []) ∷ pieces_of (drop n (b ∷ []))
    by true f = let one : n ≡ 1 = omega (arith, f) in rw one refl
    by false f = let one : n ≡ 1 = omega (arith, f) in rw one refl
first_piece (b ∷ c ∷ more) n some e = by (first_piece (c ∷ more) (min (i + 1) (length (c ∷ more))) (omega arith) refl) (b == 10) e
  where
    i : ℕ
    i = position_or_len is_line_feed (c ∷ more)

    m : ℕ
    m = min (i + 1) (length (c ∷ more))

    by : pieces_of (c ∷ more) ≡ take m (c ∷ more) ∷ pieces_of (drop m (c ∷ more))
        → (v : Bool) → n ≡ min (cond (not v) (1 + i) 0 + 1) (suc (length (c ∷ more)))
        → (if v then (b ∷ []) ∷ pieces_of (c ∷ more) else onto_first b (pieces_of (c ∷ more)))
        ≡ take n (b ∷ c ∷ more) ∷ pieces_of (drop n (b ∷ c ∷ more))
    by rest true f = let one : n ≡ 1 = omega (arith, f) in rw one refl
    by rest false f =
        let next : n ≡ suc m = omega (arith, f) in
        subst (λ (k : ℕ). onto_first b (pieces_of (c ∷ more)) ≡ take k (b ∷ c ∷ more) ∷ pieces_of (drop k (b ∷ c ∷ more))) (sym next)
        (rw rest refl)

-- a line feed stands here
pub feed_here : (text : List ℕ) (i : ℕ) → i < length text → get_or text i 0 ≡ 10 → position_or_len is_line_feed (drop i text) ≡ 0
feed_here text i below feed = rw (drop-cons text i 0 below, feed) refl
