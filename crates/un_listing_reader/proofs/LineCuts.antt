-- A line between a text and its line feed.
use Rattle.std.proofs.Common.{◌≡◌, ◌≢◌, ℕ, ◌+◌, ◌-◌, true, false, Bor, List, [], ◌∷◌, ◌++◌, Option, Some, None, MatchOption, IfSome, IfNone}
use Rattle.std.proofs.Common.{length, take, drop, refl, sym, ap, ◌∙◌, true≢false}
use Rattle.std.specs.Str.{bytes_eq}
use Rattle.std.proofs.lemmas.List.{take-append-drop}
use Rattle.std.proofs.lemmas.Slice.Eq.{bytes_eq-Decides}
use Rattle.std.proofs.Math.Seq.{take-append_seam, drop-append_seam}

pub begins : (line start : List ℕ) → bytes_eq (take (length start) line) start ≡ true → line ≡ start ++ drop (length start) line
begins line start h =
    sym (take-append-drop (length start) line)
    ∙ ap (λ (t : List ℕ). t ++ drop (length start) line) ((bytes_eq-Decides (take (length start) line) start).0 h)

pub not_begins : (line start : List ℕ) → bytes_eq (take (length start) line) start ≡ false → (rest : List ℕ) → line ≢ start ++ rest
not_begins line start h rest e =
    let same : take (length start) line ≡ start = ap (take (length start)) e ∙ take-append_seam start rest in
    true≢false (sym ((bytes_eq-Decides (take (length start) line) start).1 same) ∙ h)

pub ends : (y : List ℕ) → bytes_eq (drop (length y - 1) y) (10 ∷ []) ≡ true → y ≡ take (length y - 1) y ++ 10 ∷ []
ends y h =
    sym (take-append-drop (length y - 1) y)
    ∙ ap (λ (t : List ℕ). take (length y - 1) y ++ t) ((bytes_eq-Decides (drop (length y - 1) y) (10 ∷ [])).0 h)

pub none_within : {P : Type 0} (answer : Option (Bor (List ℕ))) → P → IfNone answer P
none_within None p = p
none_within (Some x) p = tt

pub some_within : (answer : Option (Bor (List ℕ))) (line start y : List ℕ) → line ≡ start ++ y
    → MatchOption answer (bytes_eq (drop (length y - 1) y) (10 ∷ []) ≡ false)
    (λ x. (bytes_eq (drop (length y - 1) y) (10 ∷ []) ≡ true) × (x.now ≡ take (length y - 1) y) × (length x.now + 1 ≡ length y))
    → IfSome answer (λ rest. line ≡ start ++ (rest.now ++ 10 ∷ []))
some_within None line start y e h = tt
some_within (Some x) line start y e h =
    e ∙ ap (λ (t : List ℕ). start ++ t) (ends y h.0) ∙ ap (λ (t : List ℕ). start ++ (t ++ 10 ∷ [])) (sym h.1)

-- the same text before the line feed
pub same_within : (start a b : List ℕ) → start ++ (a ++ 10 ∷ []) ≡ start ++ (b ++ 10 ∷ []) → a ≡ b
same_within start a b e =
    let tails : a ++ 10 ∷ [] ≡ b ++ 10 ∷ [] = sym (drop-append_seam start (a ++ 10 ∷ [])) ∙ ap (drop (length start)) e
    ∙ drop-append_seam start (b ++ 10 ∷ []) in
    fronts a b tails
  where
    fronts : (a b : List ℕ) → a ++ 10 ∷ [] ≡ b ++ 10 ∷ [] → a ≡ b
    fronts [] [] e = refl
    fronts [] (y ∷ []) e = absurd (cc e)
    fronts [] (y ∷ z ∷ zs) e = absurd (cc e)
    fronts (x ∷ []) [] e = absurd (cc e)
    fronts (x ∷ z ∷ zs) [] e = absurd (cc e)
    fronts (x ∷ xs) (y ∷ ys) e =
        let head : x ≡ y = cc e in
        let rest : xs ++ 10 ∷ [] ≡ ys ++ 10 ∷ [] = cc e in
        let tail = fronts xs ys rest in
        cc
