-- Values of which some are lowered by one: how they are made, and what their sum and their cost are.
use Rattle.std.proofs.Common.{◌≡◌, ◌≢◌, ℕ, zero, suc, ◌+◌, ◌-◌, ◌≤◌, ◌<◌, Bool}
use Rattle.std.proofs.Common.{true, false, cond, eqb, ltb, List, [], ◌∷◌, Some, None}
use Rattle.std.proofs.Common.{length, get_or, set, take, All, sum, ◌⊎◌, inl, inr, refl, sym, ap, ◌∙◌, subst, arith}
use Rattle.std.specs.Prelude.{◌&&◌, ◌||◌}
use Rattle.std.specs.List.{list_any}
use Rattle.std.proofs.lemmas.Bool.{ltb-true, ltb-false, lt-ltb, le-ltb}
use Rattle.std.proofs.lemmas.Bool.Decides.{eqb_tells}
use Rattle.std.proofs.lemmas.List.{get_or-set_other, get_or-set_same, length-set}
use Rattle.std.proofs.lemmas.List.Folds.{list_any_more}
use Rattle.std.proofs.lemmas.List.Sums.{sum_by-cons}
use Rattle.std.proofs.lemmas.Grind.{same_number_lists}
use Rattle.std.proofs.lemmas.Nat.{mul-le}
use Rattle.un_ir.specs.declared.extended.ExtBlock.{ExtBlock}
use Rattle.un_base.specs.declared.ids.VarId.{VarId}
use Rattle.un_model.specs.declared.model.OpVars.{OpVars}
use Rattle.un_model.specs.declared.model.BlockVars.{BlockVars}
use Rattle.un_model.specs.Cost.{value_of, block_cost, blocks_cost}
use Rattle.un_model.specs.Pairs.{places_from}
use Rattle.un_merges.specs.Merges.{is_number, lowered}
use Rattle.un_merges.specs.Lowered.{IsLowered, AreLowered}

-- ---- a function at each place of a list

pub length-places : {A B : Type 0} (f : ℕ → A → B) (i : ℕ) (xs : List A) → length (places_from f i xs) ≡ length xs
length-places f i [] = refl
length-places f i (x ∷ xs) = ap suc (length-places f (i + 1) xs)

pub get-places : (f : ℕ → ℕ → ℕ) (i k : ℕ) (xs : List ℕ) → k < length xs → get_or (places_from f i xs) k 0 ≡ f (i + k) (get_or xs k 0)
get-places f i k [] h = absurd (omega arith)
get-places f i zero (x ∷ xs) h = let e : i ≡ i + 0 = omega arith in ap (λ n. f n x) e
get-places f i (suc k) (x ∷ xs) h =
    let e : (i + 1) + k ≡ i + suc k = omega arith in
    get-places f (i + 1) k xs (omega arith) ∙ ap (λ n. f n (get_or xs k 0)) e

-- a list is what a function gives at each place of another
pub places_same : (f : ℕ → ℕ → ℕ) (xs ys : List ℕ) → length ys ≡ length xs
    → ((k : ℕ) → k < length xs → get_or ys k 0 ≡ f k (get_or xs k 0)) → ys ≡ places_from f 0 xs
places_same f xs ys long each = same_number_lists ys (places_from f 0 xs) (long ∙ sym (length-places f 0 xs))
    (λ k h. let lt : k < length xs = omega (arith, long) in
    let e : 0 + k ≡ k = omega arith in
    each k lt ∙ sym (get-places f 0 k xs lt ∙ ap (λ n. f n (get_or xs k 0)) e))

-- ---- a number that may be lowered

cond_le : (b : Bool) (x : ℕ) → cond b (x - 1) x ≤ x
cond_le true x = omega arith
cond_le false x = omega arith

pub lower_le : (p : ℕ → Bool) (t k x : ℕ) → lowered p t k x ≤ x
lower_le p t k x = cond_le (p k && ltb t x) x

below_at : (p : ℕ → Bool) (t i k : ℕ) (xs : List ℕ) → get_or (places_from (lowered p t) i xs) k 0 ≤ get_or xs k 0
below_at p t i k [] = omega arith
below_at p t i zero (x ∷ xs) = lower_le p t i x
below_at p t i (suc k) (x ∷ xs) = below_at p t (i + 1) k xs

pub lowered_below : (p : ℕ → Bool) (t : ℕ) (xs : List ℕ) (k : ℕ) → get_or (places_from (lowered p t) 0 xs) k 0 ≤ get_or xs k 0
lowered_below p t xs k = below_at p t 0 k xs

pub sum_lowered : (p : ℕ → Bool) (t i : ℕ) (xs : List ℕ) → sum (places_from (lowered p t) i xs) ≤ sum xs
sum_lowered p t i [] = omega arith
sum_lowered p t i (x ∷ xs) =
    let a : sum (x ∷ xs) ≡ x + sum xs = sum_by-cons (λ n. n) x xs in
    let ys = places_from (lowered p t) (i + 1) xs in
    let b : sum (lowered p t i x ∷ ys) ≡ lowered p t i x + sum ys = sum_by-cons (λ n. n) (lowered p t i x) ys in
    let c : lowered p t i x + sum ys ≤ x + sum xs = omega (arith, lower_le p t i x, sum_lowered p t (i + 1) xs) in
    subst (λ (n : ℕ). n ≤ sum (x ∷ xs)) (sym b) (subst (λ (n : ℕ). lowered p t i x + sum ys ≤ n) (sym a) c)

hit : (b : Bool) (x : ℕ) → cond ((b || true) && true) (x - 1) x ≡ x - 1
hit true x = refl
hit false x = refl

miss : (b c : Bool) (x : ℕ) → cond ((b || false) && c) (x - 1) x ≡ cond (b && c) (x - 1) x
miss true c x = refl
miss false c x = refl

low : (b : Bool) (x : ℕ) → cond (b && false) (x - 1) x ≡ x
low true x = refl
low false x = refl

pub lowers : (p : ℕ → Bool) (t k x : ℕ) → p k ≡ true → t < x → lowered p t k x ≡ x - 1
lowers p t k x e h = ap (λ b. cond (b && ltb t x) (x - 1) x) e ∙ ap (λ b. cond b (x - 1) x) (lt-ltb t x h)

pub sum_falls : (p : ℕ → Bool) (t i k : ℕ) (xs : List ℕ) → k < length xs → p (i + k) ≡ true → t < get_or xs k 0
    → sum (places_from (lowered p t) i xs) < sum xs
sum_falls p t i k [] h e up = absurd (omega arith)
sum_falls p t i zero (x ∷ xs) h e up =
    let at : i + 0 ≡ i = omega arith in
    let e2 : p i ≡ true = subst (λ (n : ℕ). p n ≡ true) at e in
    let a : sum (x ∷ xs) ≡ x + sum xs = sum_by-cons (λ n. n) x xs in
    let ys = places_from (lowered p t) (i + 1) xs in
    let b : sum (lowered p t i x ∷ ys) ≡ lowered p t i x + sum ys = sum_by-cons (λ n. n) (lowered p t i x) ys in
    let c : lowered p t i x + sum ys < x + sum xs = omega (arith, lowers p t i x e2 up, sum_lowered p t (i + 1) xs, up) in
    subst (λ (n : ℕ). n < sum (x ∷ xs)) (sym b) (subst (λ (n : ℕ). lowered p t i x + sum ys < n) (sym a) c)
sum_falls p t i (suc k) (x ∷ xs) h e up =
    let at : i + suc k ≡ (i + 1) + k = omega arith in
    let e2 : p ((i + 1) + k) ≡ true = subst (λ (n : ℕ). p n ≡ true) at e in
    let a : sum (x ∷ xs) ≡ x + sum xs = sum_by-cons (λ n. n) x xs in
    let ys = places_from (lowered p t) (i + 1) xs in
    let b : sum (lowered p t i x ∷ ys) ≡ lowered p t i x + sum ys = sum_by-cons (λ n. n) (lowered p t i x) ys in
    let less = sum_falls p t (i + 1) k xs (omega arith) e2 up in
    let c : lowered p t i x + sum ys < x + sum xs = omega (arith, lower_le p t i x, less) in
    subst (λ (n : ℕ). n < sum (x ∷ xs)) (sym b) (subst (λ (n : ℕ). lowered p t i x + sum ys < n) (sym a) c)

-- ---- lowered one by one

pub lowered_none : (p : ℕ → Bool) (t : ℕ) (xs : List ℕ) → ((k : ℕ) → p k ≡ false) → IsLowered p t xs xs
lowered_none p t xs none = record {
  long = refl;
  each = λ k h. sym (ap (λ b. cond (b && ltb t (get_or xs k 0)) (get_or xs k 0 - 1) (get_or xs k 0)) (none k));
}

pub same_test : (p q : ℕ → Bool) (t : ℕ) (old new : List ℕ) → ((k : ℕ) → p k ≡ q k) → IsLowered p t old new → IsLowered q t old new
same_test p q t old new same h = record {
  long = h.long;
  each = λ k lt. h.each k lt ∙ ap (λ b. cond (b && ltb t (get_or old k 0)) (get_or old k 0 - 1) (get_or old k 0)) (same k);
}

lower_other : (p : ℕ → Bool) (v t k x : ℕ) → eqb k v ≡ false → lowered (λ n. p n || eqb n v) t k x ≡ lowered p t k x
lower_other p v t k x e = ap (λ b. cond ((p k || b) && ltb t x) (x - 1) x) e ∙ miss (p k) (ltb t x) x

lower_low : (p : ℕ → Bool) (t k x : ℕ) → x ≤ t → lowered p t k x ≡ x
lower_low p t k x h = ap (λ b. cond (p k && b) (x - 1) x) (le-ltb t x h) ∙ low (p k) x

lower_hit : (p : ℕ → Bool) (v t k x : ℕ) → eqb k v ≡ true → t < x → lowered (λ n. p n || eqb n v) t k x ≡ x - 1
lower_hit p v t k x e h =
    ap (λ b. cond ((p k || b) && ltb t x) (x - 1) x) e ∙ ap (λ b. cond ((p k || true) && b) (x - 1) x) (lt-ltb t x h) ∙ hit (p k) x

lower_up : (p : ℕ → Bool) (v t : ℕ) (old new : List ℕ) → IsLowered p t old new → v < length old → t < get_or old v 0
    → IsLowered (λ k. p k || eqb k v) t old (set new v (get_or old v 0 - 1))
lower_up p v t old new h inside up = record {
  long = length-set new v (get_or old v 0 - 1) ∙ h.long;
  each = λ k lt. by k lt (eqb_tells k v);
}
  where
    by : (k : ℕ) → k < length old → ((eqb k v ≡ true) × (k ≡ v)) ⊎ ((eqb k v ≡ false) × (k ≢ v))
        → get_or (set new v (get_or old v 0 - 1)) k 0 ≡ lowered (λ n. p n || eqb n v) t k (get_or old k 0)
    by k lt (inl (e, same)) =
        let old_same : get_or old v 0 ≡ get_or old k 0 = ap (λ n. get_or old n 0) (sym same) in
        let up2 : t < get_or old k 0 = omega (arith, old_same, up) in
        let read : get_or (set new v (get_or old v 0 - 1)) v 0 ≡ get_or old v 0 - 1 =
        get_or-set_same new v (get_or old v 0 - 1) 0 (omega (arith, h.long, inside)) in
        ap (λ n. get_or (set new v (get_or old v 0 - 1)) n 0) same ∙ read ∙ ap (λ n. n - 1) old_same ∙
        sym (lower_hit p v t k (get_or old k 0) e up2)
    by k lt (inr (e, other)) =
        get_or-set_other new v k (get_or old v 0 - 1) 0 other ∙ h.each k lt ∙ sym (lower_other p v t k (get_or old k 0) e)

lower_same : (p : ℕ → Bool) (v t : ℕ) (old new : List ℕ) → IsLowered p t old new → get_or old v 0 ≤ t
    → IsLowered (λ k. p k || eqb k v) t old new
lower_same p v t old new h few = record { long = h.long; each = λ k lt. h.each k lt ∙ by k (eqb_tells k v) }
  where
    by : (k : ℕ) → ((eqb k v ≡ true) × (k ≡ v)) ⊎ ((eqb k v ≡ false) × (k ≢ v))
        → lowered p t k (get_or old k 0) ≡ lowered (λ n. p n || eqb n v) t k (get_or old k 0)
    by k (inl (e, same)) =
        let old_same : get_or old v 0 ≡ get_or old k 0 = ap (λ n. get_or old n 0) (sym same) in
        let few2 : get_or old k 0 ≤ t = omega (arith, old_same, few) in
        lower_low p t k (get_or old k 0) few2 ∙ sym (lower_low (λ n. p n || eqb n v) t k (get_or old k 0) few2)
    by k (inr (e, other)) = sym (lower_other p v t k (get_or old k 0) e)

pub inside : (xs : List ℕ) (k : ℕ) → 0 < get_or xs k 0 → k < length xs
inside [] k h = absurd (omega arith)
inside (x ∷ xs) zero h = omega arith
inside (x ∷ xs) (suc k) h = omega (arith, inside xs k h)

pub lower_step : (p : ℕ → Bool) (v t : ℕ) (old new next : List ℕ) → IsLowered p t old new
    → (t < get_or old v 0 → next ≡ set new v (get_or old v 0 - 1)) → (get_or old v 0 ≤ t → next ≡ new)
    → IsLowered (λ k. p k || eqb k v) t old next
lower_step p v t old new next h up same = by (ltb t (get_or old v 0)) refl
  where
    by : (b : Bool) → ltb t (get_or old v 0) ≡ b → IsLowered (λ k. p k || eqb k v) t old next
    by true e =
        let lt = ltb-true t (get_or old v 0) e in
        let in_old = inside old v (omega (arith, lt)) in
        subst (λ (ys : List ℕ). IsLowered (λ k. p k || eqb k v) t old ys) (sym (up lt)) (lower_up p v t old new h in_old lt)
    by false e =
        let few = ltb-false t (get_or old v 0) e in
        subst (λ (ys : List ℕ). IsLowered (λ k. p k || eqb k v) t old ys) (sym (same few)) (lower_same p v t old new h few)

-- ---- the cycles of operations

more : (ops : List OpVars) (i k : ℕ) (op : OpVars) → i < length ops → op ≡ get_or ops i op
    → list_any (λ (o : OpVars). is_number k o.cycle) (take (i + 1) ops)
    ≡ (list_any (λ (o : OpVars). is_number k o.cycle) (take i ops) || is_number k op.cycle)
more ops i k op lt is =
    list_any_more (λ (o : OpVars). is_number k o.cycle) ops i op lt ∙
    ap (λ (o : OpVars). list_any (λ (o : OpVars). is_number k o.cycle) (take i ops) || is_number k o.cycle) (sym is)

pub none_lowered : (ops : List OpVars) (t : ℕ) (xs : List ℕ) → AreLowered (take 0 ops) t xs xs
unfolding AreLowered
none_lowered ops t xs = lowered_none (λ k. list_any (λ (o : OpVars). is_number k o.cycle) (take 0 ops)) t xs (λ k. refl)

or_false : (b : Bool) → b ≡ (b || false)
or_false true = refl
or_false false = refl

pub skip_op : (ops : List OpVars) (i t : ℕ) (op : OpVars) (old new : List ℕ) → i < length ops → op ≡ get_or ops i op → op.cycle ≡ None
    → AreLowered (take i ops) t old new → AreLowered (take (i + 1) ops) t old new
unfolding AreLowered
skip_op ops i t op old new lt is none h = same_test
    (λ k. list_any (λ (o : OpVars). is_number k o.cycle) (take i ops))
    (λ k. list_any (λ (o : OpVars). is_number k o.cycle) (take (i + 1) ops))
    t old new
    (λ k. or_false (list_any (λ (o : OpVars). is_number k o.cycle) (take i ops)) ∙
    ap (λ c. list_any (λ (o : OpVars). is_number k o.cycle) (take i ops) || is_number k c) (sym none) ∙ sym (more ops i k op lt is)) h

pub lower_op : (ops : List OpVars) (i t : ℕ) (op : OpVars) (v : VarId) (old new next : List ℕ) → i < length ops → op ≡ get_or ops i op
    → op.cycle ≡ Some v → (t < get_or old v.0 0 → next ≡ set new v.0 (get_or old v.0 0 - 1)) → (get_or old v.0 0 ≤ t → next ≡ new)
    → AreLowered (take i ops) t old new → AreLowered (take (i + 1) ops) t old next
unfolding AreLowered
lower_op ops i t op v old new next lt is some up same h = same_test
    (λ k. list_any (λ (o : OpVars). is_number k o.cycle) (take i ops) || eqb k v.0)
    (λ k. list_any (λ (o : OpVars). is_number k o.cycle) (take (i + 1) ops)) t old next
    (λ k. ap (λ c. list_any (λ (o : OpVars). is_number k o.cycle) (take i ops) || is_number k c) (sym some) ∙ sym (more ops i k op lt is))
    (lower_step (λ k. list_any (λ (o : OpVars). is_number k o.cycle) (take i ops)) v.0 t old new next h up same)

pub lowered_long : (ops : List OpVars) (t : ℕ) (old new : List ℕ) → AreLowered ops t old new → length new ≡ length old
unfolding AreLowered
lowered_long ops t old new h = h.long

-- ---- cost

abbrev pub EndNoLater : List ℕ → List ℕ → List BlockVars → Type 0
EndNoLater new old vars = All (λ (v : BlockVars). value_of new v.end ≤ value_of old v.end) vars

pub cost_no_more : (new old : List ℕ) (blocks : List ExtBlock) (vars : List BlockVars) → EndNoLater new old vars
    → blocks_cost new blocks vars ≤ blocks_cost old blocks vars
cost_no_more new old [] vars h = omega arith
cost_no_more new old (block ∷ blocks) [] h = omega arith
cost_no_more new old (block ∷ blocks) (v ∷ vars) h =
    let first : value_of new v.end ≤ value_of old v.end = h 0 v (omega arith) in
    let one : block_cost new block v ≤ block_cost old block v =
    mul-le block.freq (value_of new v.end - 1) block.freq (value_of old v.end - 1) (omega arith) (omega (arith, first)) in
    omega (arith, one, cost_no_more new old blocks vars (λ k d lt. h (suc k) d (omega arith)))

pub ends_below : (new old : List ℕ) → ((k : ℕ) → get_or new k 0 ≤ get_or old k 0) → (vars : List BlockVars) → EndNoLater new old vars
ends_below new old h vars = λ k d lt. h (get_or vars k d).end.0
