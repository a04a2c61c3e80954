-- Marks of variables, one by one.
use Rattle.std.proofs.Common.{◌≡◌, ◌≢◌, ℕ, ◌+◌, ◌<◌, ◌≤◌, Bool, true, false, eqb, List, [], Some, None, length, get_or, set, take}
use Rattle.std.proofs.Common.{◌⊎◌, inl, inr, refl, sym, ap, ◌∙◌, arith}
use Rattle.std.specs.Prelude.{◌||◌}
use Rattle.std.proofs.lemmas.Bool.Decides.{eqb_tells}
use Rattle.std.proofs.lemmas.List.{get_or-set_other, get_or-set_same, length-set}
use Rattle.std.proofs.lemmas.List.Folds.{list_any_more}
use Rattle.un_model.specs.declared.model.OpVars.{OpVars}
use Rattle.un_model.specs.declared.model.BlockVars.{BlockVars}
use Rattle.un_base.specs.declared.ids.VarId.{VarId}
use Rattle.un_violations.specs.Loose.{is_number, is_cycle, is_time_in, is_time}
use Rattle.un_violations.specs.Marks.{AreMarked}

or_true : (b : Bool) → (b || true) ≡ true
or_true true = refl
or_true false = refl

or_false : (b : Bool) → (b || false) ≡ b
or_false true = refl
or_false false = refl

or_more : (a b c : Bool) → ((a || b) || c) ≡ (a || (b || c))
or_more true b c = refl
or_more false b c = refl

pub marks_same : (p q : ℕ → Bool) (marks : List Bool) (n : ℕ) → ((k : ℕ) → p k ≡ q k) → AreMarked p marks n → AreMarked q marks n
marks_same p q marks n same h = record { long = h.long; each = λ k lt. h.each k lt ∙ same k }

pub mark_one : (p : ℕ → Bool) (marks : List Bool) (n v : ℕ) → v < n → AreMarked p marks n
    → AreMarked (λ k. p k || eqb k v) (set marks v true) n
mark_one p marks n v inside h = record { long = length-set marks v true ∙ h.long; each = λ k lt. by k lt (eqb_tells k v) }
  where
    by : (k : ℕ) → k < n → ((eqb k v ≡ true) × (k ≡ v)) ⊎ ((eqb k v ≡ false) × (k ≢ v)) → get_or (set marks v true) k false ≡ (p k || eqb k v)
    by k lt (inl (e, same)) =
        ap (λ j. get_or (set marks v true) j false) same ∙ get_or-set_same marks v true false (omega (arith, h.long, inside))
        ∙ sym (ap (λ b. p k || b) e ∙ or_true (p k))
    by k lt (inr (e, other)) = get_or-set_other marks v k true false other ∙ h.each k lt ∙ sym (ap (λ b. p k || b) e ∙ or_false (p k))

-- a variable past the end is not there
pub mark_none : (p : ℕ → Bool) (marks : List Bool) (n v : ℕ) → n ≤ v → AreMarked p marks n → AreMarked (λ k. p k || eqb k v) marks n
mark_none p marks n v past h = record { long = h.long; each = λ k lt. h.each k lt ∙ by k lt (eqb_tells k v) }
  where
    by : (k : ℕ) → k < n → ((eqb k v ≡ true) × (k ≡ v)) ⊎ ((eqb k v ≡ false) × (k ≢ v)) → p k ≡ (p k || eqb k v)
    by k lt (inl (e, same)) = absurd (omega (arith, same, past, lt))
    by k lt (inr (e, other)) = sym (ap (λ b. p k || b) e ∙ or_false (p k))

-- ---- operations

pub no_ops : (p : ℕ → Bool) (marks : List Bool) (n : ℕ) → AreMarked p marks n → AreMarked (λ k. p k || is_cycle [] k) marks n
no_ops p marks n h = marks_same p (λ k. p k || false) marks n (λ k. sym (or_false (p k))) h

more : (ops : List OpVars) (i k : ℕ) (op : OpVars) → i < length ops → op ≡ get_or ops i op
    → is_cycle (take (i + 1) ops) k ≡ (is_cycle (take i ops) k || is_number k op.cycle)
more ops i k op lt is =
    list_any_more (λ (o : OpVars). is_number k o.cycle) ops i op lt ∙
    ap (λ (o : OpVars). is_cycle (take i ops) k || is_number k o.cycle) (sym is)

pub skip_op : (p : ℕ → Bool) (ops : List OpVars) (i n : ℕ) (op : OpVars) (marks : List Bool) → i < length ops → op ≡ get_or ops i op
    → op.cycle ≡ None → AreMarked (λ k. p k || is_cycle (take i ops) k) marks n
    → AreMarked (λ k. p k || is_cycle (take (i + 1) ops) k) marks n
skip_op p ops i n op marks lt is none h = marks_same (λ k. p k || is_cycle (take i ops) k) (λ k. p k || is_cycle (take (i + 1) ops) k)
    marks n (λ k. ap (λ b. p k || b) (sym (more ops i k op lt is ∙ ap (λ c. is_cycle (take i ops) k || is_number k c) none
    ∙ or_false (is_cycle (take i ops) k)))) h

pub mark_op : (p : ℕ → Bool) (ops : List OpVars) (i n : ℕ) (op : OpVars) (v : VarId) (marks : List Bool) → i < length ops
    → op ≡ get_or ops i op → op.cycle ≡ Some v → AreMarked (λ k. (p k || is_cycle (take i ops) k) || eqb k v.0) marks n
    → AreMarked (λ k. p k || is_cycle (take (i + 1) ops) k) marks n
mark_op p ops i n op v marks lt is some h = marks_same (λ k. (p k || is_cycle (take i ops) k) || eqb k v.0)
    (λ k. p k || is_cycle (take (i + 1) ops) k) marks n (λ k. or_more (p k) (is_cycle (take i ops) k) (eqb k v.0)
    ∙ ap (λ b. p k || b) (sym (more ops i k op lt is ∙ ap (λ c. is_cycle (take i ops) k || is_number k c) some))) h

-- ---- blocks

pub mark_more : (p : ℕ → Bool) (vars : BlockVars) (marks : List Bool) (n : ℕ)
    → AreMarked (λ k. (p k || is_cycle vars.ops k) || eqb k vars.end.0) marks n → AreMarked (λ k. p k || is_time_in vars k) marks n
mark_more p vars marks n h = marks_same (λ k. (p k || is_cycle vars.ops k) || eqb k vars.end.0) (λ k. p k || is_time_in vars k) marks n
    (λ k. or_more (p k) (is_cycle vars.ops k) (eqb k vars.end.0)) h

pub block_more : (blocks : List BlockVars) (i n : ℕ) (vars : BlockVars) (marks : List Bool) → i < length blocks
    → vars ≡ get_or blocks i vars → AreMarked (λ k. is_time (take i blocks) k || is_time_in vars k) marks n
    → AreMarked (is_time (take (i + 1) blocks)) marks n
block_more blocks i n vars marks lt is h = marks_same (λ k. is_time (take i blocks) k || is_time_in vars k)
    (is_time (take (i + 1) blocks)) marks n (λ k. sym (list_any_more (λ (v : BlockVars). is_time_in v k) blocks i vars lt
    ∙ ap (λ (v : BlockVars). is_time (take i blocks) k || is_time_in v k) (sym is))) h
