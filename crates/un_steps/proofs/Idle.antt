-- The other variables of an operation that is not active are 0, and so is its number.
use Rattle.std.proofs.Common.{ℕ, zero, suc, ◌≡◌, length, ◌<◌, ◌+◌, Bool, true, false, ◌&&◌, not, List, [], ◌∷◌, ◌++◌, map, ◌⊎◌, inl, inr, ⊎_elim, refl, sym, ap}
use Rattle.std.proofs.Common.{◌∙◌, subst, arith}
use Rattle.std.specs.Prelude.{Some, slice_get, slice_index, ◌==◌}
use Rattle.std.specs.List.{list_all, range_with_len}
use Rattle.std.specs.Option.{option_to_list}
use Rattle.std.proofs.lemmas.Bool.{eqb-true}
use Rattle.un_base.specs.declared.ids.VarId.{VarId}
use Rattle.un_ir.specs.declared.extended.Ext.{Ext}
use Rattle.un_ir.specs.Kinds.{is_optional}
use Rattle.un_domains.specs.Sets.{Sets, set_at, has, IsIn}
use Rattle.un_model.specs.declared.model.Options.{Options}
use Rattle.un_model.specs.Cost.{value_of}
use Rattle.un_model.specs.Schedules.{value_by}
use Rattle.un_model.specs.Solutions.{IsIdleAtZero, IsZeroRange}
use Rattle.un_model.specs.Variables.{model_of, var_if, var_at, has_cycle, count_if, cycle_place, choice_place, chosen_operands}
use Rattle.un_lists.proofs.Lists.{Member, each_member, each_all, member_at, any_of, member_map_of, place_of}
use Rattle.un_model.proofs.Placed.{Placed, vars_of, issue_at, Spot}
use Rattle.un_model.proofs.PlacedSchedules.{all, spots, spot_range, the_ranges, range_get, each_issue, split_member}
use Rattle.un_model.proofs.Readings.{Solved, numbered}
use Rattle.un_steps.specs.Words.{IsVar, other_vars, result_vars, number_of}
use Rattle.un_steps.specs.Rules.{IsIdle, lacks_zero}
use Rattle.un_steps.proofs.Boxes.{has_member}
use Rattle.un_steps.proofs.Choosing.{off_idle, register_var, register_in, register_there}
use Rattle.un_steps.proofs.Grounds.{own, idle_is_zero}
use Rattle.un_steps.proofs.OutsideSpace.{result_of}
use Rattle.un_steps.proofs.Placing.{operation_of}

all_zero : (x : List ℕ) (ws : List VarId) (w : VarId) → list_all (λ (v : VarId). value_of x v == 0) ws ≡ true → Member w ws
    → slice_index x w.0 ≡ 0
all_zero x [] w h m = elim m [ ]
all_zero x (u ∷ us) w h (inl e) = ap (λ (v : VarId). slice_index x v.0) (sym e) ∙ eqb-true _ 0 (left (value_of x u == 0) _ h)
  where
    left : (a b : Bool) → (a && b) ≡ true → a ≡ true
    left true b h = refl
    left false b h = absurd (cc h)
all_zero x (u ∷ us) w h (inr m) = all_zero x us w (right (value_of x u == 0) _ h) m
  where
    right : (a b : Bool) → (a && b) ≡ true → b ≡ true
    right true b h = h
    right false b h = absurd (cc h)

-- the numbers of variables that follow one another
numbers : (n a k : ℕ) (c : VarId) → slice_get (map var_at (range_with_len a n)) k ≡ Some c → (k < n) × (c.0 ≡ a + k)
numbers zero a k c h = absurd (cc h)
numbers (suc n) a zero c h =
    let same : var_at a ≡ c = cc h in
    let z : c.0 ≡ a = ap (λ (v : VarId). v.0) (sym same) in (omega arith, omega (arith, z))
numbers (suc n) a (suc k) c h = let r = numbers n (a + 1) k c h in let lt = r.0 in let is = r.1 in (omega (arith, lt), omega (arith, is))

two : (a b : Bool) → (a && b) ≡ true → (a ≡ true) × (b ≡ true)
two true b h = (refl, h)
two false b h = absurd (cc h)

not_true : (b : Bool) → not b ≡ true → b ≡ false
not_true true h = absurd (cc h)
not_true false h = refl

module _ (e : Ext) (o : Options) (x : List ℕ) (h : Solved e o x) (s : Sets) (inside : IsIn x s) where
  -- ---- the other variables

  -- one of them is the cycle, a choice, or the register of a result
  data Other (q : Placed) (w : ℕ) : Type 0 where
    Cycle : has_cycle q.op.kind ≡ true → w ≡ q.first + cycle_place q.op → Other q w
    Choice : (c : VarId) → Member c (let v = vars_of q in v.choices) → c.0 ≡ w → Other q w
    Result : (u : Spot) → Member u (spots e o x) → u.definer ≡ q → w ≡ register_var u → Other q w

  other : (q : Placed) (w : ℕ) → Member q (all e o x) → Member w (other_vars (model_of e o) (operation_of q)) → Other q w
  other q w m mem =
      let v = vars_of q in
      let results = result_vars (model_of e o) (operation_of q) in
      ⊎_elim (λ (k : Member w (map number_of (option_to_list v.cycle))). cycle (has_cycle q.op.kind) refl k)
      (λ (k : Member w (map number_of v.choices ++ results)). ⊎_elim
      (λ (c : Member w (map number_of v.choices)). let r = member_map_of number_of v.choices w c in Choice r.0 r.1 r.2)
      (λ (c : Member w results). let r = result_of e o x h s inside q w m c in Result r.0 r.1 r.2 r.3)
      (split_member (map number_of v.choices) results w k))
      (split_member (map number_of (option_to_list v.cycle)) (map number_of v.choices ++ results) w mem)
    where
      cycle : (b : Bool) → has_cycle q.op.kind ≡ b → Member w (map number_of (option_to_list (let v = vars_of q in v.cycle))) → Other q w
      cycle b f k = at b f (subst (λ (b : Bool). Member w (map number_of (option_to_list (var_if b (q.first + cycle_place q.op))))) f k)
        where
          at : (b : Bool) → has_cycle q.op.kind ≡ b → Member w (map number_of (option_to_list (var_if b (q.first + cycle_place q.op))))
              → Other q w
          at false f k = elim k [ ]
          at true f (inl same) = Cycle f (sym same)
          at true f (inr none) = elim none [ ]

  -- each is left its value
  other_left : (q : Placed) (w : ℕ) → Member q (all e o x) → Other q w → has (set_at s w) (slice_index x w) ≡ true
  other_left q w m (Cycle timed at) =
      let c = ap count_if timed in
      subst (λ v. has (set_at s v) (slice_index x v) ≡ true) (sym at) (own e o x h s inside q m (cycle_place q.op) (omega (arith, c)))
  other_left q w m (Choice c mem at) =
      let v = vars_of q in
      let k = place_of v.choices c mem in
      let n = numbers (length (chosen_operands q.op)) (q.first + choice_place q.op) k.0 c k.2 in
      let lt = n.0 in
      let is = n.1 in
      let here : q.first + (choice_place q.op + k.0) ≡ w = omega (arith, is, at) in
      subst (λ v. has (set_at s v) (slice_index x v) ≡ true) here (own e o x h s inside q m (choice_place q.op + k.0) (omega (arith, lt)))
  other_left q w m (Result u mu d at) = subst (λ v. has (set_at s v) (slice_index x v) ≡ true) (sym at) (register_there e o x h s inside u mu)

  -- where the operation is not active it is 0
  other_zero : (q : Placed) (w : ℕ) → Member q (all e o x) → (issue_at x q).active ≡ false → Other q w → slice_index x w ≡ 0
  other_zero q w m off other =
      let sch = h.schedule in
      let zeros = sch.zeros in
      by other (each_member (λ p. IsIdleAtZero (issue_at x p)) (all e o x) q (each_issue e o x IsIdleAtZero zeros.0) m)
    where
      zero_of : ((issue_at x q).active ≡ true) ⊎ ((issue_at x q).zero ≡ true) → (issue_at x q).zero ≡ true
      zero_of (inl a) = absurd (cc (sym off ∙ a))
      zero_of (inr z) = z

      of_range : (u : Spot) → u.definer ≡ q → IsZeroRange (spot_range e o x u) → register_in x u ≡ 0
      of_range u d (inl a) = absurd (cc (sym off ∙ (ap (λ (p : Placed). (issue_at x p).active) (sym d) ∙ a)))
      of_range u d (inr z) = z

      by : Other q w → ((issue_at x q).active ≡ true) ⊎ ((issue_at x q).zero ≡ true) → slice_index x w ≡ 0
      by (Cycle timed at) z =
          let v = vars_of q in
          let parts = two (value_by x v.cycle == 0) (list_all (λ (v : VarId). value_of x v == 0) v.choices) (zero_of z) in
          let value : value_by x v.cycle ≡ slice_index x (q.first + cycle_place q.op) =
          ap (λ (b : Bool). value_by x (var_if b (q.first + cycle_place q.op))) timed in
          ap (slice_index x) at ∙ sym value ∙ eqb-true (value_by x v.cycle) 0 parts.0
      by (Choice c mem at) z =
          let v = vars_of q in
          let parts = two (value_by x v.cycle == 0) (list_all (λ (v : VarId). value_of x v == 0) v.choices) (zero_of z) in
          ap (slice_index x) (sym at) ∙ all_zero x v.choices c parts.1 mem
      by (Result u mu d at) z =
          let sch = h.schedule in
          let zeros = sch.zeros in
          let ranges = the_ranges e o x in
          ap (slice_index x) at ∙ of_range u d (each_member IsZeroRange ranges (spot_range e o x u) (each_all IsZeroRange ranges zeros.1)
          (member_at ranges u.temp.0 (spot_range e o x u) (range_get e o x (numbered e o x h) u mu)))

  -- ---- the rule

  pub idle : (q : Placed) (v y : ℕ) → Member q (all e o x) → IsIdle (model_of e o) s (operation_of q) v y → slice_index x v ≡ y → ⊥
  idle q v y m (inl (off, mem, positive)) is = by (issue_at x q).active refl
    where
      by : (b : Bool) → (issue_at x q).active ≡ b → ⊥
      by true act = off_idle e o x h s inside q m off act
      by false idle =
          let z = other_zero q v m idle (other q v m (has_member (other_vars (model_of e o) (operation_of q)) v mem)) in
          omega (arith, z, is, positive)
  idle q v y m (inr (var, nought, lacks)) is = by (issue_at x q).active refl
    where
      off : (b : Bool) → is_optional q.op.kind ≡ b → IsVar (var_if b q.first) v → (is_optional q.op.kind ≡ true) × (slice_index x q.first ≡ 0)
      off false f k = absurd k
      off true f k = (f, ap (slice_index x) k ∙ is ∙ nought)

      by : (b : Bool) → (issue_at x q).active ≡ b → ⊥
      by true act = let f = off (is_optional q.op.kind) refl var in idle_is_zero e o x h s inside q f.0 f.1 act
      by false idle =
          let r = any_of (lacks_zero s) (other_vars (model_of e o) (operation_of q)) lacks in
          let w = other q r.0 m r.1 in
          let z = other_zero q r.0 m idle w in
          let left : has (set_at s r.0) 0 ≡ true = subst (λ (n : ℕ). has (set_at s r.0) n ≡ true) z (other_left q r.0 m w) in
          cc (sym (not_true (has (set_at s r.0) 0) r.2) ∙ left)
