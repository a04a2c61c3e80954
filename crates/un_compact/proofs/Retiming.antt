-- The code's writes, one by one: values of which some are moved.
use Rattle.std.proofs.Common.{◌≡◌, ◌≢◌, ℕ, suc, ◌+◌, ◌<◌, ◌≤◌, Bool, true, false, eqb, List, [], ◌∷◌, Some, None, length, get_or, set, take}
use Rattle.std.proofs.Common.{◌⊎◌, inl, inr, refl, sym, ap, ◌∙◌, arith}
use Rattle.std.specs.Prelude.{◌||◌, if◌then◌else◌}
use Rattle.std.specs.List.Sorted.{IsPermutation}
use Rattle.std.proofs.lemmas.Bool.Decides.{eqb_tells}
use Rattle.std.proofs.lemmas.Grind.{same_number_lists}
use Rattle.std.proofs.lemmas.List.{get_or-set_other, get_or-set_same, length-set, take_all}
use Rattle.std.proofs.lemmas.List.Folds.{list_any_more}
use Rattle.std.proofs.lemmas.List.Sorted.{list_any-IsPermutation}
use Rattle.std.proofs.lemmas.List.Sums.{fold_more}
use Rattle.un_base.specs.declared.ids.VarId.{VarId}
use Rattle.un_model.specs.declared.model.OpVars.{OpVars}
use Rattle.un_model.specs.declared.model.BlockVars.{BlockVars}
use Rattle.un_model.specs.declared.model.Model.{Model}
use Rattle.un_model.specs.declared.model.Solution.{Solution}
use Rattle.un_model.specs.Pairs.{places_from}
use Rattle.un_violations.specs.Loose.{is_number, is_cycle, is_time_in}
use Rattle.un_compact.specs.Squeezes.{times_of, is_in, is_used, squeezed}
use Rattle.un_compact.specs.Retimed.{AreMoved, moved_in, moved_by, compacted}
use Rattle.un_compact.proofs.Squeezing.{squeezed_same}
use Rattle.un_compact.proofs.Times.{value_moved}

or_true : (b : Bool) → (b || true) ≡ true
or_true true = refl
or_true false = refl

or_false : (b : Bool) → (b || false) ≡ b
or_false true = refl
or_false false = refl

or_more : (a b c : Bool) → ((a || b) || c) ≡ (a || (b || c))
or_more true b c = refl
or_more false b c = refl

-- the same values by another test and another way to move
pub same_moves : (p q : ℕ → Bool) (f g : ℕ → ℕ) (old before new : List ℕ) → ((k : ℕ) → p k ≡ q k) → ((c : ℕ) → f c ≡ g c)
    → AreMoved p f old before new → AreMoved q g old before new
same_moves p q f g old before new same moved h = record {
  long = h.long;
  each = λ k lt. h.each k lt ∙ ap (λ (b : Bool). if b then f (get_or old k 0) else get_or before k 0) (same k)
      ∙ ap (λ (n : ℕ). if q k then n else get_or before k 0) (moved (get_or old k 0));
}

pub none_moved : (f : ℕ → ℕ) (old before : List ℕ) → AreMoved (λ k. false) f old before before
none_moved f old before = record { long = refl; each = λ k lt. refl }

module _ (f : ℕ → ℕ) (old before : List ℕ) where
  pub move_one : (p : ℕ → Bool) (v : ℕ) (new : List ℕ) → v < length new → AreMoved p f old before new
      → AreMoved (λ k. p k || eqb k v) f old before (set new v (f (get_or old v 0)))
  move_one p v new inside h = record {
    long = length-set new v (f (get_or old v 0)) ∙ h.long;
    each = λ k lt. by k lt (eqb_tells k v);
  }
    where
      by : (k : ℕ) → k < length before → ((eqb k v ≡ true) × (k ≡ v)) ⊎ ((eqb k v ≡ false) × (k ≢ v))
          → get_or (set new v (f (get_or old v 0))) k 0 ≡ (if (p k || eqb k v) then f (get_or old k 0) else get_or before k 0)
      by k lt (inl (e, same)) =
          ap (λ j. get_or (set new v (f (get_or old v 0))) j 0) same ∙ get_or-set_same new v (f (get_or old v 0)) 0 inside
          ∙ ap (λ j. f (get_or old j 0)) (sym same)
          ∙ sym (ap (λ (b : Bool). if (p k || b) then f (get_or old k 0) else get_or before k 0) e
          ∙ ap (λ (b : Bool). if b then f (get_or old k 0) else get_or before k 0) (or_true (p k)))
      by k lt (inr (e, other)) =
          get_or-set_other new v k (f (get_or old v 0)) 0 other ∙ h.each k lt
          ∙ sym (ap (λ (b : Bool). if (p k || b) then f (get_or old k 0) else get_or before k 0) e
          ∙ ap (λ (b : Bool). if b then f (get_or old k 0) else get_or before k 0) (or_false (p k)))

  -- a variable past the end is not there
  pub move_none : (p : ℕ → Bool) (v : ℕ) (new : List ℕ) → length new ≤ v → AreMoved p f old before new
      → AreMoved (λ k. p k || eqb k v) f old before new
  move_none p v new past h = record { long = h.long; each = λ k lt. h.each k lt ∙ by k lt (eqb_tells k v) }
    where
      by : (k : ℕ) → k < length before → ((eqb k v ≡ true) × (k ≡ v)) ⊎ ((eqb k v ≡ false) × (k ≢ v))
          → (if p k then f (get_or old k 0) else get_or before k 0) ≡ (if (p k || eqb k v) then f (get_or old k 0) else get_or before k 0)
      by k lt (inl (e, same)) = let l = h.long in absurd (omega (arith, same, past, lt, l))
      by k lt (inr (e, other)) = sym (ap (λ (b : Bool). if (p k || b) then f (get_or old k 0) else get_or before k 0) e
          ∙ ap (λ (b : Bool). if b then f (get_or old k 0) else get_or before k 0) (or_false (p k)))

  -- ---- operations

  more : (ops : List OpVars) (i k : ℕ) (op : OpVars) → i < length ops → op ≡ get_or ops i op
      → is_cycle (take (i + 1) ops) k ≡ (is_cycle (take i ops) k || is_number k op.cycle)
  more ops i k op lt is =
      list_any_more (λ (o : OpVars). is_number k o.cycle) ops i op lt ∙
      ap (λ (o : OpVars). is_cycle (take i ops) k || is_number k o.cycle) (sym is)

  pub no_ops : (p : ℕ → Bool) (new : List ℕ) → AreMoved p f old before new → AreMoved (λ k. p k || is_cycle [] k) f old before new
  no_ops p new h = same_moves p (λ k. p k || false) f f old before new (λ k. sym (or_false (p k))) (λ c. refl) h

  pub skip_op : (p : ℕ → Bool) (ops : List OpVars) (i : ℕ) (op : OpVars) (new : List ℕ) → i < length ops → op ≡ get_or ops i op
      → op.cycle ≡ None → AreMoved (λ k. p k || is_cycle (take i ops) k) f old before new
      → AreMoved (λ k. p k || is_cycle (take (i + 1) ops) k) f old before new
  skip_op p ops i op new lt is none h = same_moves (λ k. p k || is_cycle (take i ops) k) (λ k. p k || is_cycle (take (i + 1) ops) k)
      f f old before new (λ k. ap (λ b. p k || b) (sym (more ops i k op lt is ∙ ap (λ c. is_cycle (take i ops) k || is_number k c) none
      ∙ or_false (is_cycle (take i ops) k)))) (λ c. refl) h

  pub move_op : (p : ℕ → Bool) (ops : List OpVars) (i : ℕ) (op : OpVars) (v : VarId) (new : List ℕ) → i < length ops
      → op ≡ get_or ops i op → op.cycle ≡ Some v → AreMoved (λ k. (p k || is_cycle (take i ops) k) || eqb k v.0) f old before new
      → AreMoved (λ k. p k || is_cycle (take (i + 1) ops) k) f old before new
  move_op p ops i op v new lt is some h = same_moves (λ k. (p k || is_cycle (take i ops) k) || eqb k v.0)
      (λ k. p k || is_cycle (take (i + 1) ops) k) f f old before new (λ k. or_more (p k) (is_cycle (take i ops) k) (eqb k v.0)
      ∙ ap (λ b. p k || b) (sym (more ops i k op lt is ∙ ap (λ c. is_cycle (take i ops) k || is_number k c) some))) (λ c. refl) h

-- ---- blocks

-- what is in use among the cycles of a block, in whatever order
pub same_use : (old : List ℕ) (vars : BlockVars) (times : List ℕ) → IsPermutation (times_of old vars) times → (c : ℕ)
    → is_in times c ≡ is_used old vars c
same_use old vars times h c = sym (list_any-IsPermutation (λ (t : ℕ). eqb t c) (times_of old vars) times h)

pub block_moved : (old before new : List ℕ) (vars : BlockVars) (times : List ℕ) → IsPermutation (times_of old vars) times
    → AreMoved (is_time_in vars) (squeezed (is_in times)) old before new
    → AreMoved (is_time_in vars) (squeezed (is_used old vars)) old before new
block_moved old before new vars times h k =
    same_moves (is_time_in vars) (is_time_in vars) (squeezed (is_in times)) (squeezed (is_used old vars))
    old before new (λ n. refl) (λ c. squeezed_same (is_in times) (is_used old vars) (same_use old vars times h) c) k

length-places : {A B : Type 0} (f : ℕ → A → B) (i : ℕ) (xs : List A) → length (places_from f i xs) ≡ length xs
length-places f i [] = refl
length-places f i (x ∷ xs) = ap suc (length-places f (i + 1) xs)

pub none_yet : (old : List ℕ) (i : ℕ) → old ≡ places_from (moved_by old []) i old
none_yet old i = by i old
  where
    by : (i : ℕ) (xs : List ℕ) → xs ≡ places_from (moved_by old []) i xs
    by i [] = refl
    by i (x ∷ xs) = ap (λ ys. x ∷ ys) (by (i + 1) xs)

pub block_more : (old prev next : List ℕ) (blocks : List BlockVars) (i : ℕ) (vars : BlockVars) → i < length blocks
    → vars ≡ get_or blocks i vars
    → prev ≡ places_from (moved_by old (take i blocks)) 0 old → AreMoved (is_time_in vars) (squeezed (is_used old vars)) old prev next
    → next ≡ places_from (moved_by old (take (i + 1) blocks)) 0 old
block_more old prev next blocks i vars lt is so_far h =
    same_number_lists next (places_from (moved_by old (take (i + 1) blocks)) 0 old)
    (long ∙ sym (length-places (moved_by old (take (i + 1) blocks)) 0 old))
    (λ k less. let below : k < length prev = (let l = h.long in omega (arith, l, less)) in
    h.each k below
    ∙ ap (λ (n : ℕ). if is_time_in vars k then squeezed (is_used old vars) (get_or old k 0) else n) (was k)
    ∙ ap (λ (v : BlockVars). moved_in old k (get_or old k 0) (moved_by old (take i blocks) k (get_or old k 0)) v) is
    ∙ sym (fold_more (moved_in old k (get_or old k 0)) (get_or old k 0) blocks i vars lt)
    ∙ sym (value_moved old (take (i + 1) blocks) k))
  where
    long : length next ≡ length old
    long = h.long ∙ ap length so_far ∙ length-places (moved_by old (take i blocks)) 0 old

    was : (k : ℕ) → get_or prev k 0 ≡ moved_by old (take i blocks) k (get_or old k 0)
    was k = ap (λ (xs : List ℕ). get_or xs k 0) so_far ∙ value_moved old (take i blocks) k

pub all_done : (m : Model) (s : Solution) (old new : List ℕ) (i : ℕ) → new ≡ places_from (moved_by old (take i m.blocks)) 0 old
    → length m.blocks ≤ i → old ≡ s.values → (let made : Solution = record { values = new } in made ≡ compacted m s)
unfolding compacted
all_done m s old new i h le e =
    ap (λ (xs : List ℕ). let made : Solution = record { values = xs } in made)
    (h ∙ ap (λ (bs : List BlockVars). places_from (moved_by old bs) 0 old) (take_all i m.blocks le)
    ∙ ap (λ (xs : List ℕ). places_from (moved_by xs m.blocks) 0 xs) e)
