-- The variables of inactive operations are 0 exactly where the constraints of zeros are met.
use Rattle.std.proofs.Common.{ℕ, ◌≡◌, ◌↔◌, ◌+◌, Bool, true, false, cond, List, [], ◌∷◌, ◌++◌, length, map, ◌⊎◌, inl, inr, refl, sym, ap}
use Rattle.std.proofs.Common.{◌∙◌, subst, arith}
use Rattle.std.specs.Prelude.{Some, slice_get, slice_index, not, ◌||◌, ◌&&◌, nat_eq, nat_le, is_some}
use Rattle.std.specs.List.{range_with_len, list_all, AllZip}
use Rattle.std.proofs.lemmas.Bool.Decides.{nat_tests}
use Rattle.un_base.specs.declared.ids.TempId.{TempId}
use Rattle.un_base.specs.declared.ids.VarId.{VarId}
use Rattle.un_ir.specs.declared.function.Term.TheVariants.{Fall, Jump, Branch, Ret}
use Rattle.un_ir.specs.declared.extended.ExtKind.{ExtKind}
use Rattle.un_ir.specs.declared.extended.ExtKind.TheVariants.{In, Out, Body, End, Copy, Enter, Leave}
use Rattle.un_ir.specs.declared.extended.Operand.{Operand}
use Rattle.un_ir.specs.declared.extended.Ext.{Ext}
use Rattle.un_ir.specs.Extended.{wants_of, result_count, IsGoodOperand}
use Rattle.un_model.specs.declared.model.Options.{Options}
use Rattle.un_model.specs.Cost.{value_of}
use Rattle.un_model.specs.Instructions.{instruction_of}
use Rattle.un_ir.specs.Kinds.{is_delimiter, is_optional, has_choices}
use Rattle.un_model.specs.Schedules.{schedule_of, value_by}
use Rattle.un_model.specs.Solutions.{KeepsZeros, IsIdleAtZero, IsZeroRange}
use Rattle.un_model.specs.Variables.{model_of, var_at, var_if, has_cycle, cycle_place, choice_place}
use Rattle.un_model.specs.Variables.{chosen_operands}
use Rattle.un_lists.proofs.Lists.{Each, Member, length_get, each_member, each_of}
use Rattle.un_model.proofs.Placed.{Placed, vars_of, issue_at, spot}
use Rattle.un_model.proofs.PlacedSchedules.{all, spot_range}
use Rattle.un_prop.specs.Acts.{is_active}
use Rattle.un_prop.specs.declared.act.Act.TheVariants.{Always}
use Rattle.un_prop.specs.declared.act.At.TheVariants.{Const, Var}
use Rattle.un_alt.specs.Zeros.{all_zero}
use Rattle.un_kinds.specs.Constraints.{Constraint, AllMet, Zeros, Before}
use Rattle.un_sites.specs.Places.{act_by, definers_of, registers_at}
use Rattle.un_sites.specs.Postings.{over_places, zeros_of, zeros_by}
use Rattle.un_post.proofs.Meeting.{Met}
use Rattle.un_post.proofs.Placing.{place_of}
use Rattle.un_post.proofs.Facts.{Given, falls, good_op, acts}
use Rattle.un_post.proofs.Tests.{iff_then, iff_back, both, met_one, eq_iff, and_iff}
use Rattle.un_post.proofs.Whole.{issues_each, ranges_each, spots_each, registers_each, posted_each}

-- ---- variables that are 0

all_each_zero : (vs : List VarId) (x : List ℕ) → Each (λ (v : VarId). slice_index x v.0 ≡ 0) vs ↔ (all_zero vs x ≡ true)
all_each_zero [] x = (λ h. refl, λ h. tt)
all_each_zero (v ∷ vs) x = iff_then (both (eq_iff (slice_index x v.0) 0) (all_each_zero vs x))
    (and_iff (nat_eq (slice_index x v.0) 0) (all_zero vs x))

all_zero_parts : (vs us : List VarId) (x : List ℕ) → all_zero (vs ++ us) x ≡
    (list_all (λ (v : VarId). nat_eq (value_of x v) 0) vs && all_zero us x)
all_zero_parts [] us x = refl
all_zero_parts (v ∷ vs) us x = ap (λ (b : Bool). nat_eq (slice_index x v.0) 0 && b) (all_zero_parts vs us x)
    ∙ and_assoc (nat_eq (slice_index x v.0) 0) (list_all (λ (v : VarId). nat_eq (value_of x v) 0) vs) (all_zero us x)
  where
    and_assoc : (a b c : Bool) → (a && (b && c)) ≡ ((a && b) && c)
    and_assoc true b c = refl
    and_assoc false b c = refl

-- an operation is active, or it and its results are 0
idle_iff : (b z r : Bool) (S Z : ℕ → TempId → Type 0) → ((k : ℕ) (y : TempId) → S k y → Z k y) ↔ (r ≡ true)
    → (((b ≡ true) ⊎ (z ≡ true)) × ((k : ℕ) (y : TempId) → S k y → (b ≡ true) ⊎ Z k y)) ↔ ((b || (z && r)) ≡ true)
idle_iff true z r S Z each = (λ h. refl, λ h. (inl refl, λ k y s. inl refl))
idle_iff false z r S Z each = (
  λ h. (and_iff z r).0 (right (z ≡ true) h.0, each.0 (λ k y s. right (Z k y) (h.1 k y s))),
  λ h. let a = (and_iff z r).1 h in (inr a.0, λ k y s. inr (each.1 a.1 k y s)),
)
  where
    right : (A : Type 0) → (false ≡ true) ⊎ A → A
    right A (inl e) = absurd (cc e)
    right A (inr a) = a

no_operands : (names : _) (blocks : _) (before : List TempId) (xs : List Operand) → AllZip (IsGoodOperand names blocks before) xs []
    → xs ≡ []
no_operands names blocks before [] h = refl
no_operands names blocks before (y ∷ ys) h = absurd h

module _ (e : Ext) (o : Options) (x : List ℕ) (given : Given e o x) where
  abbrev pub IdleAtZero : Placed → Type 0
  IdleAtZero q = IsIdleAtZero (issue_at x q) × ((k : ℕ) (y : TempId) → slice_get q.op.results k ≡ Some y
      → IsZeroRange (spot_range e o x (spot q k y)))

  abbrev others : Placed → List VarId
  others q = let v = vars_of q in v.choices ++ registers_at (definers_of (model_of e o)) q.op.results

  -- what is posted, were it of this kind
  abbrev posted_by : Placed → ExtKind → List Constraint
  posted_by q c = zeros_by c (var_if (is_optional c) q.first) (var_if (has_cycle c) (q.first + cycle_place q.op)) (others q)

  pub zeros_at : (q : Placed) → Member q (all e o x) → IdleAtZero q ↔ Met x (zeros_of (definers_of (model_of e o)) (place_of q))
  zeros_at q m = by q.op.kind refl
    where
      -- an optional operation
      optional : is_optional q.op.kind ≡ true → has_cycle q.op.kind ≡ true → falls q.op.kind ≡ false
          → posted_by q q.op.kind ≡ Zeros (var_at q.first) (var_at (q.first + cycle_place q.op) ∷ others q) ∷ []
          → IdleAtZero q ↔ Met x (posted_by q q.op.kind)
      optional opt timed goes posted =
          let v = vars_of q in
          let regs = registers_at (definers_of (model_of e o)) q.op.results in
          let cycle = slice_index x (q.first + cycle_place q.op) in
          let tests = λ (u : VarId). nat_eq (value_of x u) 0 in
          let active : not (nat_eq (slice_index x q.first) 0) ≡ (issue_at x q).active =
          sym (ap (λ (t : Bool). is_active (act_by (var_if t q.first)) x) opt) ∙ acts e o x given q m goes in
          let zero_is : (issue_at x q).zero ≡ (nat_eq cycle 0 && list_all tests v.choices) =
          ap (λ (t : Bool). nat_eq (value_by x (var_if t (q.first + cycle_place q.op))) 0 && list_all tests v.choices) timed in
          let parts : (nat_eq cycle 0 && all_zero (v.choices ++ regs) x) ≡ ((issue_at x q).zero && all_zero regs x) =
          ap (λ (b : Bool). nat_eq cycle 0 && b) (all_zero_parts v.choices regs x)
          ∙ and_assoc (nat_eq cycle 0) (list_all tests v.choices) (all_zero regs x)
          ∙ sym (ap (λ (b : Bool). b && all_zero regs x) zero_is) in
          let one = met_one x (Zeros (var_at q.first) (var_at (q.first + cycle_place q.op) ∷ others q))
          ((issue_at x q).active || ((issue_at x q).zero && all_zero regs x))
          (ap (λ (b : Bool). b || (nat_eq cycle 0 && all_zero (v.choices ++ regs) x)) active
          ∙ ap (λ (b : Bool). (issue_at x q).active || b) parts) in
          let each = iff_then (iff_back (registers_each e o x given (λ (u : VarId). slice_index x u.0 ≡ 0) q m)) (all_each_zero regs x) in
          let whole = iff_then (idle_iff (issue_at x q).active (issue_at x q).zero (all_zero regs x)
          (λ k y. slice_get q.op.results k ≡ Some y) (λ k y. (spot_range e o x (spot q k y)).reg ≡ 0) each) one in (
            λ h. subst (Met x) (sym posted) (whole.0 h),
            λ h. whole.1 (subst (Met x) posted h),
          )
        where
          and_assoc : (a b c : Bool) → (a && (b && c)) ≡ ((a && b) && c)
          and_assoc true b c = refl
          and_assoc false b c = refl

      -- one that is always active
      always : (issue_at x q).active ≡ true → posted_by q q.op.kind ≡ [] → IdleAtZero q ↔ Met x (posted_by q q.op.kind)
      always act posted = (λ h. subst (Met x) (sym posted) tt, λ h. (inl act, λ k y at. inl act))

      active_by : (kind : ExtKind) → q.op.kind ≡ kind → (let v = vars_of q in
          (is_delimiter kind || is_some (instruction_of kind (value_by x v.instr))) ≡ true) → (issue_at x q).active ≡ true
      active_by kind k a = let v = vars_of q in ap (λ (c : ExtKind). is_delimiter c || is_some (instruction_of c (value_by x v.instr))) k
          ∙ a

      -- one that falls through
      never : q.op.kind ≡ End Fall → IdleAtZero q ↔ Met x (posted_by q q.op.kind)
      never h =
          let v = vars_of q in
          let g = good_op e o x given q m in
          let keeps = g.keeps in
          let cycle = slice_index x (q.first + cycle_place q.op) in
          let tests = λ (u : VarId). nat_eq (value_of x u) 0 in
          let none : q.op.operands ≡ [] = no_operands e.names e.blocks g.before q.op.operands
          (subst (λ (c : ExtKind). AllZip (IsGoodOperand e.names e.blocks g.before) q.op.operands
          (wants_of e.table e.names e.blocks q.owner c q.op)) h keeps.operands) in
          let no_choices : chosen_operands q.op ≡ [] = ap (λ (c : ExtKind). cond (has_choices c) q.op.operands []) h ∙ none in
          let zero_is : (issue_at x q).zero ≡ (nat_eq cycle 0 && true) =
          ap (λ (c : ExtKind). nat_eq (value_by x (var_if (has_cycle c) (q.first + cycle_place q.op))) 0 && list_all tests v.choices) h
          ∙ ap (λ (ops : List Operand). nat_eq cycle 0 && list_all tests
          (map var_at (range_with_len (q.first + choice_place q.op) (length ops)))) no_choices in
          let idle : (issue_at x q).active ≡ false = ap (λ (c : ExtKind). is_delimiter c || is_some (instruction_of c (value_by x v.instr)))
          h in
          let count : length q.op.results ≡ 0 = keeps.results ∙ ap (result_count e.table q.owner) h in
          let posted : posted_by q q.op.kind ≡ Before (Var (var_at (q.first + cycle_place q.op))) Always (Const 0) Always 0 ∷ [] =
          ap (λ (c : ExtKind). posted_by q c) h in
          let one = met_one x (Before (Var (var_at (q.first + cycle_place q.op))) Always (Const 0) Always 0) (nat_eq cycle 0)
          (at_zero cycle) in (
            λ k. subst (Met x) (sym posted) (one.0 (first (nat_eq cycle 0) (sym zero_is ∙ right (issue_at x q).active idle k.0))),
            λ k. let z = one.1 (subst (Met x) posted k) in
                (inr (zero_is ∙ ap (λ (b : Bool). b && true) z), λ j y at. let lt = length_get q.op.results j y at in absurd (omega arith)),
          )
        where
          at_zero : (n : ℕ) → nat_le (n + 0) 0 ≡ nat_eq n 0
          at_zero n = grind (arith, nat_tests)

          first : (b : Bool) → (b && true) ≡ true → b ≡ true
          first true e = refl
          first false e = absurd (cc e)

          right : {A : Type 0} (b : Bool) → b ≡ false → (b ≡ true) ⊎ A → A
          right b f (inl t) = let z : false ≡ true = sym f ∙ t in absurd (cc z)
          right b f (inr a) = a

      by : (kind : ExtKind) → q.op.kind ≡ kind → IdleAtZero q ↔ Met x (posted_by q q.op.kind)
      by In h = always (active_by In h refl) (ap (λ (c : ExtKind). posted_by q c) h)
      by Out h = always (active_by Out h refl) (ap (λ (c : ExtKind). posted_by q c) h)
      by (Body so) h = always (active_by (Body so) h refl) (ap (λ (c : ExtKind). posted_by q c) h)
      by (End Fall) h = never h
      by (End (Jump to)) h = always (active_by (End (Jump to)) h refl) (ap (λ (c : ExtKind). posted_by q c) h)
      by (End (Branch pred true to)) h = always (active_by (End (Branch pred true to)) h refl) (ap (λ (c : ExtKind). posted_by q c) h)
      by (End (Branch pred false to)) h = always (active_by (End (Branch pred false to)) h refl) (ap (λ (c : ExtKind). posted_by q c) h)
      by (End (Ret value)) h = always (active_by (End (Ret value)) h refl) (ap (λ (c : ExtKind). posted_by q c) h)
      by (Copy node) h = optional (ap is_optional h) (ap has_cycle h) (ap falls h) (ap (λ (c : ExtKind). posted_by q c) h)
      by Enter h = optional (ap is_optional h) (ap has_cycle h) (ap falls h) (ap (λ (c : ExtKind). posted_by q c) h)
      by Leave h = optional (ap is_optional h) (ap has_cycle h) (ap falls h) (ap (λ (c : ExtKind). posted_by q c) h)

  pub zeros : KeepsZeros (schedule_of (model_of e o) x) ↔ AllMet (over_places (zeros_of (definers_of (model_of e o))) (model_of e o)) x
  zeros = iff_then
      (both (issues_each e o x given IsIdleAtZero) (iff_then (ranges_each e o x given IsZeroRange)
      (spots_each e o x given (λ s. IsZeroRange (spot_range e o x s)))))
      (iff_then (
        λ h. each_of _ (all e o x) (λ q m. (zeros_at q m).0 (each_member _ (all e o x) q h.0 m, each_member _ (all e o x) q h.1 m)),
        λ h. (
          each_of _ (all e o x) (λ q m. ((zeros_at q m).1 (each_member _ (all e o x) q h m)).0),
          each_of _ (all e o x) (λ q m. ((zeros_at q m).1 (each_member _ (all e o x) q h m)).1),
        ),
      ) (iff_back (posted_each e o x given (zeros_of (definers_of (model_of e o))))))
