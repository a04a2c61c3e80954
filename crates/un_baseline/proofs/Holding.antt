-- What values are from some place on.
use Rattle.std.proofs.Common.{◌≡◌, ℕ, zero, suc, ◌+◌, ◌<◌, Bool, true, false, List, [], ◌∷◌, ◌++◌, length, get_or, map, refl, sym, ap, ◌∙◌}
use Rattle.std.proofs.Common.{arith}
use Rattle.std.specs.Prelude.{◌==◌, ◌&&◌, if◌then◌else◌, slice_get}
use Rattle.std.specs.List.{range_with_len, list_all}
use Rattle.std.proofs.lemmas.List.{get_or_append_left, get_or-append-add, length-append}
use Rattle.un_base.specs.declared.ids.VarId.{VarId}
use Rattle.un_model.specs.Cost.{value_of}
use Rattle.un_model.specs.Schedules.{value_by}
use Rattle.un_model.specs.Variables.{var_at, var_if, count_if}
use Rattle.un_baseline.specs.Plans.{value_if}

-- the values from place `first` on begin with these
pub record Holds (values : List ℕ) (first : ℕ) (part : List ℕ) : Type 0 where
  pub at : (i : ℕ) → i < length part → get_or values (first + i) 0 ≡ get_or part i 0

pub holds_whole : (xs : List ℕ) → Holds xs 0 xs
holds_whole xs = record { at = λ i lt. let e : 0 + i ≡ i = omega arith in ap (λ (n : ℕ). get_or xs n 0) e }

pub holds_left : (values : List ℕ) (first : ℕ) (xs ys : List ℕ) → Holds values first (xs ++ ys) → Holds values first xs
holds_left values first xs ys h = record {
  at = λ i lt. h.at i (let e = length-append xs ys in omega arith) ∙ get_or_append_left xs ys 0 i lt;
}

pub holds_right : (values : List ℕ) (first next : ℕ) (xs ys : List ℕ) → next ≡ first + length xs → Holds values first (xs ++ ys)
    → Holds values next ys
holds_right values first next xs ys e h = record {
  at = λ i lt.
      let place : next + i ≡ first + (length xs + i) = omega arith in
      ap (λ (n : ℕ). get_or values n 0) place ∙ h.at (length xs + i) (let l = length-append xs ys in omega arith)
      ∙ get_or-append-add xs ys i 0;
}

pub holds_first : (values : List ℕ) (first x : ℕ) (xs : List ℕ) → Holds values first (x ∷ xs) → get_or values first 0 ≡ x
holds_first values first x xs h = let e : first + 0 ≡ first = omega arith in ap (λ (n : ℕ). get_or values n 0) (sym e)
    ∙ h.at 0 (omega arith)

pub holds_rest : (values : List ℕ) (first next x : ℕ) (xs : List ℕ) → next ≡ first + 1 → Holds values first (x ∷ xs) → Holds values next xs
holds_rest values first next x xs e h = holds_right values first next (x ∷ []) xs e h

-- ---- one variable that may be missing

pub value_there : (values : List ℕ) (first : ℕ) (b : Bool) (n : ℕ) (more : List ℕ) → Holds values first (value_if b n ++ more)
    → value_by values (var_if b first) ≡ (if b then n else 0)
value_there values first true n more h = holds_first values first n more h
value_there values first false n more h = refl

pub value_behind : (values : List ℕ) (first next : ℕ) (b : Bool) (n : ℕ) (more : List ℕ) → next ≡ first + count_if b
    → Holds values first (value_if b n ++ more) → Holds values next more
value_behind values first next true n more e h = holds_rest values first next n more e h
value_behind values first next false n more e h = holds_right values first next [] more e h

-- ---- choices

pub choice_there : (values : List ℕ) (first n : ℕ) (choices : List ℕ) (j : ℕ) → n ≡ length choices → Holds values first choices
    → value_by values (slice_get (map var_at (range_with_len first n)) j) ≡ get_or choices j 0
choice_there values first zero [] j e h = refl
choice_there values first zero (c ∷ cs) j e h = absurd (omega arith)
choice_there values first (suc n) [] j e h = absurd (omega arith)
choice_there values first (suc n) (c ∷ cs) zero e h = holds_first values first c cs h
choice_there values first (suc n) (c ∷ cs) (suc j) e h = choice_there values (first + 1) n cs j (omega arith) (holds_rest values first
    (first + 1) c cs refl h)

pub zeros_there : (values : List ℕ) (first n : ℕ) (choices : List ℕ) → n ≡ length choices → Holds values first choices
    → list_all (λ (v : VarId). value_of values v == 0) (map var_at (range_with_len first n)) ≡ list_all (λ (c : ℕ). c == 0) choices
zeros_there values first zero [] e h = refl
zeros_there values first zero (c ∷ cs) e h = absurd (omega arith)
zeros_there values first (suc n) [] e h = absurd (omega arith)
zeros_there values first (suc n) (c ∷ cs) e h =
    ap (λ (x : ℕ). (x == 0) && list_all (λ (v : VarId). value_of values v == 0) (map var_at (range_with_len (first + 1) n)))
    (holds_first values first c cs h)
    ∙ ap (λ (b : Bool). (c == 0) && b) (zeros_there values (first + 1) n cs (omega arith) (holds_rest values first (first + 1) c cs refl h))
