-- Texts written in parts.
use Rattle.std.proofs.Common.{ℕ, zero, suc, ◌≡◌, ◌+◌, ◌<◌, List, [], ◌∷◌, ◌++◌, length, get_or, map, take, drop, refl, sym, ap, ◌∙◌, arith}
use Rattle.std.proofs.Common.{subst, append_assoc, add-one}
use Rattle.std.specs.List.{concat}
use Rattle.std.specs.Borrow.{Bor}
use Rattle.std.specs.declared.option.Option.{Option}
use Rattle.std.specs.Io.KnownBytes.{Appends}
use Rattle.std.proofs.KnownBytes.{Appends-trans}
use Rattle.un_outside.specs.Causes.{AppendsPrefix}

-- what the parts are
abbrev pub texts_of : List (Bor (List ℕ)) → List (List ℕ)
texts_of parts = map (λ (p : Bor (List ℕ)). p.now) parts

append_none : (xs : List ℕ) → xs ++ [] ≡ xs
append_none [] = refl
append_none (x ∷ xs) = ap (λ (ys : List ℕ). x ∷ ys) (append_none xs)

-- one part more
pub concat_more : (parts : List (Bor (List ℕ))) (i : ℕ) (d : Bor (List ℕ)) → i < length parts
    → concat (take (suc i) (texts_of parts)) ≡ concat (take i (texts_of parts)) ++ (get_or parts i d).now
concat_more [] i d h = absurd (omega arith)
concat_more (p ∷ ps) zero d h = append_none p.now
concat_more (p ∷ ps) (suc i) d h =
    ap (λ (xs : List ℕ). p.now ++ xs) (concat_more ps i d (omega arith))
    ∙ sym (append_assoc p.now (concat (take i (texts_of ps))) (get_or ps i d).now)

-- the parts before one, that one, and the parts after it
pub concat_at : (parts : List (Bor (List ℕ))) (i : ℕ) (d : Bor (List ℕ)) → i < length parts
    → concat (texts_of parts) ≡ concat (take i (texts_of parts)) ++ ((get_or parts i d).now ++ concat (drop (suc i) (texts_of parts)))
concat_at [] i d h = absurd (omega arith)
concat_at (p ∷ ps) zero d h = refl
concat_at (p ∷ ps) (suc i) d h =
    ap (λ (xs : List ℕ). p.now ++ xs) (concat_at ps i d (omega arith)) ∙ sym (append_assoc p.now (concat (take i (texts_of ps))) _)

-- a prefix of one part after all the parts before it is a prefix of all
pub prefix_of_parts : (a b c : Option (List ℕ)) (parts : List (Bor (List ℕ))) (i : ℕ) (d : Bor (List ℕ)) → i < length parts
    → Appends a b (concat (take i (texts_of parts))) → AppendsPrefix b c (get_or parts i d).now
    → AppendsPrefix a c (concat (texts_of parts))
prefix_of_parts a b c parts i d h p q =
    let before = concat (take i (texts_of parts)) in
    let rest = concat (drop (suc i) (texts_of parts)) in
    let whole : (before ++ q.0) ++ (q.1 ++ rest) ≡ concat (texts_of parts) =
    append_assoc before q.0 (q.1 ++ rest) ∙ (ap (λ (xs : List ℕ). before ++ xs) (sym (append_assoc q.0 q.1 rest))
    ∙ (ap (λ (xs : List ℕ). before ++ (xs ++ rest)) q.2 ∙ sym (concat_at parts i d h))) in
    (before ++ q.0, q.1 ++ rest, whole, Appends-trans a b c before q.0 p q.3)

-- the parts so far and one more
pub front_of_parts : (a b c : Option (List ℕ)) (parts : List (Bor (List ℕ))) (i : ℕ) (d : Bor (List ℕ)) → i < length parts
    → Appends a b (concat (take i (texts_of parts))) → Appends b c (get_or parts i d).now
    → Appends a c (concat (take (i + 1) (texts_of parts)))
front_of_parts a b c parts i d h p q =
    rw add-one (subst (Appends a c) (sym (concat_more parts i d h)) (Appends-trans a b c _ _ p q))
