-- Calls of a temporary that has some register left outside the mask: the first that takes registers takes all of the mask.
use Rattle.std.proofs.Common.{ℕ, zero, suc, ◌≡◌, ◌<◌, ◌⊎◌, Bool, true, false, not, ◌&&◌, ◌||◌, List, [], ◌∷◌, length, filter, nat_eq}
use Rattle.std.proofs.Common.{cond, None, Some, option_and_then, All, refl, sym, ap, ◌∙◌, subst, arith, inl, inr}
use Rattle.std.specs.declared.option.Option.{Option}
use Rattle.std.specs.List.{list_any, AllByRecursion}
use Rattle.std.proofs.lemmas.Bool.Decides.{nat_tests}
use Rattle.std.proofs.lemmas.List.{get_or-set_same, length-set}
use Rattle.std.proofs.lemmas.List.Elements.{recursion_from_All}
use Rattle.un_base.specs.declared.ids.VarId.{VarId}
use Rattle.un_domains.specs.Sets.{Sets, set_at, has, kept, cut_by, NoneEmpty}
use Rattle.un_domains.specs.SetLaws.{has-filter}
use Rattle.un_domains.specs.CutLaws.{kept_full}
use Rattle.un_domains.specs.OrderLaws.{and_true}
use Rattle.un_isa.specs.Tables.{in_mask}
use Rattle.un_prop.specs.Rounds.{HasVars}
use Rattle.un_prop.specs.AmongLaws.{has_among}
use Rattle.un_prop.specs.LastLaws.{cut_all, cut_same}
use Rattle.un_prop.specs.Looks.{sure}
use Rattle.un_prop.specs.LookLaws.{both}
use Rattle.un_prop.specs.Places.{each_place}
use Rattle.un_prop.specs.SomewhereLaws.{any_find}
use Rattle.un_prop.specs.declared.act.Temp.{Temp}
use Rattle.un_rect.specs.Entries.{entry_cut, each_entry}
use Rattle.un_rect.specs.Spans.{TempVars}
use Rattle.un_rect.specs.Clobber.{CallVars, may_survive, lasts, hit_test, call_steps}
use Rattle.un_rect.specs.declared.clobber.ClobberCall.{ClobberCall}
use Rattle.un_rect.proofs.Refusals.{no_left, no_right, passes_unmet, refuses_met}
use Rattle.un_rect.proofs.Spared.{steps_idle}
use Rattle.un_rect.proofs.Survivors.{each_idle, entry_idle, survivor_steps}

-- Cuts of which each changes nothing or leads to the same sets, which no further one changes

turn : (f : Sets → Option Sets) (s t : Sets) (o : Option Sets) → (f s ≡ Some s) ⊎ (f s ≡ Some t) → f t ≡ Some t
    → (o ≡ Some s) ⊎ (o ≡ Some t)
    → (option_and_then f o ≡ Some s) ⊎ (option_and_then f o ≡ Some t)
turn f s t o (inl g) still (inl e) = inl (ap (option_and_then f) e ∙ g)
turn f s t o (inr g) still (inl e) = inr (ap (option_and_then f) e ∙ g)
turn f s t o (inl g) still (inr e) = inr (ap (option_and_then f) e ∙ still)
turn f s t o (inr g) still (inr e) = inr (ap (option_and_then f) e ∙ still)

turned : (f : ℕ → Sets → Option Sets) (s t : Sets) → ((i : ℕ) → (f i s ≡ Some s) ⊎ (f i s ≡ Some t)) → ((i : ℕ) → f i t ≡ Some t)
    → (n : ℕ) → (each_place f n s ≡ Some s) ⊎ (each_place f n s ≡ Some t)
turned f s t h still zero = inl refl
turned f s t h still (suc n) = turn (f n) s t (each_place f n s) (h n) (still n) (turned f s t h still n)

meet : (f : Sets → Option Sets) (s t : Sets) (o : Option Sets) → f s ≡ Some t → f t ≡ Some t → (o ≡ Some s) ⊎ (o ≡ Some t)
    → option_and_then f o ≡ Some t
meet f s t o e still (inl g) = ap (option_and_then f) g ∙ e
meet f s t o e still (inr g) = ap (option_and_then f) g ∙ still

last_or_before : (i n : ℕ) → i < suc n → (i ≡ n) ⊎ (i < n)
last_or_before i n lt = grind (arith, lt)

met : (f : ℕ → Sets → Option Sets) (s t : Sets) → ((i : ℕ) → (f i s ≡ Some s) ⊎ (f i s ≡ Some t)) → ((i : ℕ) → f i t ≡ Some t)
    → (i n : ℕ) → i < n → f i s ≡ Some t → each_place f n s ≡ Some t
met f s t h still i zero lt e = absurd (omega (arith, lt))
met f s t h still i (suc n) lt e = elim (last_or_before i n lt) [
  | inl is ↦ meet (f n) s t (each_place f n s) (subst (λ (j : ℕ). f j s ≡ Some t) is e) (still n) (turned f s t h still n)
  | inr less ↦ ap (option_and_then (f n)) (met f s t h still i n less e) ∙ still n
]

-- Sets without the values of a test

filled : (xs : List ℕ) (y : ℕ) → has xs y ≡ true → 0 < length xs
filled [] y h = absurd (cc h)
filled (x ∷ xs) y h = omega arith

none_left : (q : ℕ → Bool) (xs : List ℕ) → list_any q (filter (λ y. not (q y)) xs) ≡ false
none_left q xs = by (list_any q (filter (λ y. not (q y)) xs)) refl
  where
    no : (b : Bool) → not b ≡ true → b ≡ true → true ≡ false
    no true h e = sym h
    no false h e = sym e

    by : (b : Bool) → list_any q (filter (λ y. not (q y)) xs) ≡ b → b ≡ false
    by false e = refl
    by true e =
        let r = any_find q (filter (λ y. not (q y)) xs) e in
        no (q r.0) (and_true (not (q r.0)) (has xs r.0) (sym (has-filter (λ y. not (q y)) r.0 xs) ∙ r.1)).0 r.2

left_false : (b c : Bool) → (b || c) ≡ false → b ≡ false
left_false false c e = refl
left_false true c e = e

right_false : (b c : Bool) → (b || c) ≡ false → c ≡ false
right_false false c e = e
right_false true c e = absurd (cc e)

module _ (vs : List VarId) (mask : ℕ) (a : Temp) (ha : TempVars vs a) (s : Sets) (k : HasVars vs s) (full : NoneEmpty s)
    (alive : may_survive mask a s ≡ true) where
  within : a.reg.0 < length s
  within = has_among vs a.reg s ha.of_reg k

  -- a call that it does not live across for sure takes nothing
  quiet : (c : ClobberCall) → CallVars vs c → (sure a.on s && lasts a c s) ≡ false → call_steps mask a c s ≡ Some s
  quiet c hc e = survivor_steps vs mask a c ha hc s k full alive ∙ cut_all (hit_test mask a c s) a.reg.0 s within full
      (λ y there. passes_unmet (in_mask mask y && (sure a.on s && lasts a c s)) (no_right (in_mask mask y) (sure a.on s && lasts a c s) e))

  -- one that it does takes all registers of the mask
  takes : (c : ClobberCall) → CallVars vs c → (sure a.on s && lasts a c s) ≡ true
      → call_steps mask a c s ≡ cut_by (λ y. not (in_mask mask y)) a.reg.0 s
  takes c hc e = survivor_steps vs mask a c ha hc s k full alive ∙ cut_same (hit_test mask a c s) (λ y. not (in_mask mask y)) a.reg.0 s
      (λ y there. refuses_met (in_mask mask y) (sure a.on s && lasts a c s) e)

  abbrev left : Sets
  left = kept (λ y. not (in_mask mask y)) s a.reg.0

  some : 0 < length (filter (λ y. not (in_mask mask y)) (set_at s a.reg.0))
  some =
      let r = any_find (λ y. not (in_mask mask y)) (set_at s a.reg.0) alive in
      filled (filter (λ y. not (in_mask mask y)) (set_at s a.reg.0)) r.0
      (has-filter (λ y. not (in_mask mask y)) r.0 (set_at s a.reg.0) ∙ both (not (in_mask mask r.0)) (has (set_at s a.reg.0) r.0) r.2 r.1)

  cut_left : cut_by (λ y. not (in_mask mask y)) a.reg.0 s ≡ Some left
  cut_left =
      let no : nat_eq (length (filter (λ y. not (in_mask mask y)) (set_at s a.reg.0))) 0 ≡ false = grind (arith, nat_tests, some) in
      ap (λ (b : Bool). cond b None (Some left)) no

  -- no further call takes any
  still : (c : ClobberCall) → CallVars vs c → call_steps mask a c left ≡ Some left
  still c hc =
      let long = length-set s a.reg.0 (filter (λ y. not (in_mask mask y)) (set_at s a.reg.0)) in
      steps_idle vs mask a ha left (λ i d lt. (let old = k i d lt in omega (arith, old, long)))
      (kept_full (λ y. not (in_mask mask y)) s a.reg.0 within full some)
      (subst (λ (xs : List ℕ). list_any (in_mask mask) xs ≡ false)
      (sym (get_or-set_same s a.reg.0 (filter (λ y. not (in_mask mask y)) (set_at s a.reg.0)) [] within))
      (none_left (in_mask mask) (set_at s a.reg.0))) c hc

  one : (c : ClobberCall) → CallVars vs c → (call_steps mask a c s ≡ Some s) ⊎ (call_steps mask a c s ≡ Some left)
  one c hc = by (sure a.on s && lasts a c s) refl
    where
      by : (b : Bool) → (sure a.on s && lasts a c s) ≡ b → (call_steps mask a c s ≡ Some s) ⊎ (call_steps mask a c s ≡ Some left)
      by false e = inl (quiet c hc e)
      by true e = inr (takes c hc e ∙ cut_left)

  each_one : (xs : List ClobberCall) → AllByRecursion (CallVars vs) xs → (i : ℕ)
      → (entry_cut (call_steps mask a) xs i s ≡ Some s) ⊎ (entry_cut (call_steps mask a) xs i s ≡ Some left)
  each_one [] all i = inl refl
  each_one (c ∷ xs) all zero = one c all.0
  each_one (c ∷ xs) all (suc i) = each_one xs all.1 i

  abbrev Found : List ClobberCall → Type 0
  Found xs = (i : ℕ) × (i < length xs) × (entry_cut (call_steps mask a) xs i s ≡ Some left)

  first_or : (c : ClobberCall) (xs : List ClobberCall) (b : Bool) → lasts a c s ≡ b → CallVars vs c → sure a.on s ≡ true
      → (b || list_any (λ d. lasts a d s) xs) ≡ true → (list_any (λ d. lasts a d s) xs ≡ true → Found xs) → Found (c ∷ xs)
  first_or c xs true e hc on any rest = (0, omega arith, takes c hc (both (sure a.on s) (lasts a c s) on e) ∙ cut_left)
  first_or c xs false e hc on any rest = let r = rest any in (suc r.0, (let lt = r.1 in omega (arith, lt)), r.2)

  found : (xs : List ClobberCall) → AllByRecursion (CallVars vs) xs → sure a.on s ≡ true → list_any (λ d. lasts a d s) xs ≡ true → Found xs
  found [] all on any = absurd (cc any)
  found (c ∷ xs) all on any = first_or c xs (lasts a c s) refl all.0 on any (found xs all.1 on)

  pub taken : (calls : List ClobberCall) → All (CallVars vs) calls → sure a.on s ≡ true → list_any (λ d. lasts a d s) calls ≡ true
      → each_entry (call_steps mask a) calls s ≡ cut_by (λ y. not (in_mask mask y)) a.reg.0 s
  taken calls h on any =
      let all = recursion_from_All (CallVars vs) calls h in
      let r = found calls all on any in
      met (entry_cut (call_steps mask a) calls) s left (each_one calls all) (entry_idle (CallVars vs) (call_steps mask a) left still calls all)
      r.0 (length calls) r.1 r.2
      ∙ sym cut_left

  -- it is not active for sure
  pub unsure_idle : (calls : List ClobberCall) → All (CallVars vs) calls → sure a.on s ≡ false
      → each_entry (call_steps mask a) calls s ≡ Some s
  unsure_idle calls h off = each_idle (entry_cut (call_steps mask a) calls) s (length calls) (entry_idle (CallVars vs) (call_steps mask a) s
      (λ c hc. quiet c hc (no_left (sure a.on s) (lasts a c s) off)) calls (recursion_from_All (CallVars vs) calls h))

  brief : (xs : List ClobberCall) → AllByRecursion (CallVars vs) xs → list_any (λ d. lasts a d s) xs ≡ false → (i : ℕ)
      → entry_cut (call_steps mask a) xs i s ≡ Some s
  brief [] all none i = refl
  brief (c ∷ xs) all none zero = quiet c all.0
      (no_right (sure a.on s) (lasts a c s) (left_false (lasts a c s) (list_any (λ d. lasts a d s) xs) none))
  brief (c ∷ xs) all none (suc i) = brief xs all.1 (right_false (lasts a c s) (list_any (λ d. lasts a d s) xs) none) i

  -- or it lives across no call for sure
  pub brief_idle : (calls : List ClobberCall) → All (CallVars vs) calls → list_any (λ d. lasts a d s) calls ≡ false
      → each_entry (call_steps mask a) calls s ≡ Some s
  brief_idle calls h none = each_idle (entry_cut (call_steps mask a) calls) s (length calls)
      (brief calls (recursion_from_All (CallVars vs) calls h) none)
