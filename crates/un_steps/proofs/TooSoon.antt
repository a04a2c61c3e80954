-- The two operations of an arc issue its gap apart.
use Rattle.std.proofs.Common.{ℕ, suc, ◌≡◌, ◌+◌, ◌<◌, ◌≤◌, List, [], ◌∷◌, inl, inr, refl, sym, ap, ◌∙◌, subst, arith}
use Rattle.std.proofs.Common.{Contains}
use Rattle.std.specs.Prelude.{Some, IsSomeAnd, slice_get, slice_index}
use Rattle.un_ir.specs.declared.extended.Ext.{Ext}
use Rattle.un_ir.specs.declared.extended.ExtKind.{ExtKind}
use Rattle.un_ir.specs.declared.extended.ExtKind.TheVariants.{In, Out, Body, End, Copy, Enter, Leave}
use Rattle.un_domains.specs.Sets.{Sets, IsIn}
use Rattle.un_model.specs.declared.model.Arc.{Arc}
use Rattle.un_model.specs.declared.model.Options.{Options}
use Rattle.un_model.specs.declared.schedule.Issue.{Issue}
use Rattle.un_model.specs.Schedules.{cycle_by}
use Rattle.un_model.specs.Pairs.{joined}
use Rattle.un_model.specs.Variables.{model_of, arcs_of as model_arcs}
use Rattle.un_model.proofs.ArcsKept.{arcs_kept}
use Rattle.un_lists.proofs.Lists.{Member, member_at}
use Rattle.un_model.proofs.Placed.{Placed, vars_of, issue_at, end_of}
use Rattle.un_model.proofs.PlacedSchedules.{all, split_member}
use Rattle.un_model.proofs.Readings.{Solved}
use Rattle.un_steps.specs.Allowed.{MayGoAtArc, arcs_of}
use Rattle.un_steps.specs.Rules.{IsTooSoon}
use Rattle.un_steps.specs.Words.{Operation, operation_at, IsVar, time_by, time_of, cycles}
use Rattle.un_steps.proofs.Boxes.{some_of, at_least, at_most, contains_at}
use Rattle.un_steps.proofs.Grounds.{cycle_left}
use Rattle.un_steps.proofs.OutsideBlock.{var_value}
use Rattle.un_steps.proofs.Placing.{operation_of, found_issue}

-- what stands in joined lists stands in one of them
joined_get : {A : Type 0} (xss : List (List A)) (n : ℕ) (y : A) → slice_get (joined xss) n ≡ Some y
    → (k : ℕ) × (xs : List A) × (slice_get xss k ≡ Some xs) × (Contains xs y)
joined_get xss n y at = joined_in xss y (member_at (joined xss) n y at)
  where
    joined_in : {A : Type 0} (xss : List (List A)) (y : A) → Member y (joined xss) → (k : ℕ) × (xs : List A) × (slice_get xss k ≡ Some xs)
        × (Contains xs y)
    joined_in [] y m = elim m [ ]
    joined_in (xs ∷ xss) y m = elim (split_member xs (joined xss) y m) [
      | inl here ↦ (0, xs, refl, contains_at xs y here)
      | inr later ↦ (let r = joined_in xss y later in (suc r.0, r.1, r.2, r.3))
    ]

-- the value of the variable of its time is an operation's cycle
time_is : (x : List ℕ) (q : Placed) (v y : ℕ) → IsVar (time_of (operation_of q)) v → slice_index x v ≡ y → (issue_at x q).cycle ≡ y
time_is x q v y var is = let w = vars_of q in by q.op.kind var
  where
    by : (c : ExtKind) → (let w = vars_of q in IsVar (time_by c q.close w.cycle) v) → cycle_by x (end_of x q) c (vars_of q) ≡ y
    by In k = absurd k
    by Out k = ap (slice_index x) k ∙ is
    by (Body so) k = let w = vars_of q in var_value x w.cycle v y k is
    by (End term) k = let w = vars_of q in var_value x w.cycle v y k is
    by (Copy node) k = let w = vars_of q in var_value x w.cycle v y k is
    by Enter k = let w = vars_of q in var_value x w.cycle v y k is
    by Leave k = let w = vars_of q in var_value x w.cycle v y k is

module _ (e : Ext) (o : Options) (x : List ℕ) (h : Solved e o x) (s : Sets) (inside : IsIn x s) where
  apart : (p q : Placed) (gap v y : ℕ) → Member p (all e o x) → Member q (all e o x) → (issue_at x p).cycle + gap ≤ (issue_at x q).cycle
      → IsTooSoon s (operation_of p) (operation_of q) gap v y → slice_index x v ≡ y → ⊥
  apart p q gap v y mp mq kept (inl (var, early)) is =
      let a = at_least (cycles s (operation_of p)) (issue_at x p).cycle (λ (c : ℕ). y < c + gap) (cycle_left e o x h s inside p mp) early in
      let c = time_is x q v y var is in
      let le = a.1 in let bad = a.2 in
      omega (arith, kept, c, le, bad)
  apart p q gap v y mp mq kept (inr (var, late)) is =
      let a = at_most (cycles s (operation_of q)) (issue_at x q).cycle (λ (c : ℕ). c < y + gap) (cycle_left e o x h s inside q mq) late in
      let c = time_is x p v y var is in
      let le = a.1 in let bad = a.2 in
      omega (arith, kept, c, le, bad)

  pub too_soon : (n v y : ℕ) → IsSomeAnd (slice_get (arcs_of (model_of e o)) n) (MayGoAtArc (model_of e o) s v y) → slice_index x v ≡ y → ⊥
  too_soon n v y goes is =
      let model = model_of e o in
      let a = some_of (slice_get (arcs_of model) n) (MayGoAtArc model s v y) goes in
      let arc : Arc = a.0 in
      let j = joined_get (model_arcs e) n arc a.1 in
      let k = arcs_kept model (record { values = x }) refl h.extended h.fit h.options h.schedule j.0 j.1 arc j.2 j.3 in
      let from = some_of (operation_at model arc.from.0) _ a.2 in
      let to = some_of (operation_at model arc.to.0) _ from.2 in
      let p = found_issue e o x arc.from.0 from.0 from.1 in
      let q = found_issue e o x arc.to.0 to.0 to.1 in
      let early : k.earlier ≡ issue_at x p.0 = cc (sym k.from_at ∙ p.3) in
      let late : k.later ≡ issue_at x q.0 = cc (sym k.to_at ∙ q.3) in
      let kept : (issue_at x p.0).cycle + arc.gap ≤ (issue_at x q.0).cycle =
      subst (λ (i : Issue). i.cycle + arc.gap ≤ (issue_at x q.0).cycle) early
      (subst (λ (i : Issue). k.earlier.cycle + arc.gap ≤ i.cycle) late k.kept) in
      let goes_there = subst (λ (t : Operation). IsTooSoon s from.0 t arc.gap v y) (sym q.2) to.2 in
      apart p.0 q.0 arc.gap v y p.1 q.1 kept (subst (λ (t : Operation). IsTooSoon s t (operation_of q.0) arc.gap v y) (sym p.2) goes_there) is
