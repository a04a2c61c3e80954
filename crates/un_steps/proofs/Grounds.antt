-- What a solution says of a box in which it lies: the values of each operation's variables are left, what is sure is active, and what an
-- operation that is active chooses is there for it.
use Rattle.std.proofs.Common.{ℕ, zero, suc, ◌≡◌, ◌+◌, ◌<◌, ◌≤◌, Bool, true, false, ◌||◌, ◌&&◌, List, [], ◌∷◌, ◌++◌, length, map, inl, inr}
use Rattle.std.proofs.Common.{refl, sym, ap, ◌∙◌, subst, arith}
use Rattle.std.specs.Prelude.{Option, Some, None, IfSome, slice_get, slice_index, is_some, ◌==◌, if◌then◌else◌}
use Rattle.std.specs.List.{AllZip}
use Rattle.std.specs.Option.{option_to_list}
use Rattle.std.proofs.lemmas.Bool.Decides.{nat_tests}
use Rattle.std.proofs.lemmas.List.{length-append}
use Rattle.un_isa.specs.declared.op.Op.{Op}
use Rattle.un_ir.specs.declared.function.Term.TheVariants.{Fall, Jump, Branch, Ret}
use Rattle.un_ir.specs.declared.extended.ExtKind.{ExtKind}
use Rattle.un_ir.specs.declared.extended.ExtKind.TheVariants.{In, Out, Body, End, Copy, Enter, Leave}
use Rattle.un_ir.specs.declared.extended.Ext.{Ext}
use Rattle.un_ir.specs.Kinds.{is_delimiter, is_optional}
use Rattle.un_domains.specs.declared.domain.Domain.{Domain}
use Rattle.un_domains.specs.declared.domain.Domain.TheVariants.{Range}
use Rattle.un_domains.specs.Sets.{Sets, set_at, has, IsIn}
use Rattle.un_model.specs.declared.model.Options.{Options}
use Rattle.un_model.specs.Instructions.{instruction_of, copy_of}
use Rattle.un_model.specs.Schedules.{value_by, cycle_by}
use Rattle.un_model.specs.Solutions.{InDomain, IsPlaced, IsPlacedAs, IsIdleAtZero}
use Rattle.un_model.specs.Variables.{var_if, has_cycle, count_if, cycle_place, var_count}
use Rattle.un_model.specs.Variables.{blocks_count, blocks_domains, domains_of, own_horizon, instr_domain, cycle_domain, copy_domain}
use Rattle.un_model.specs.Variables.{carries_truth, choice_domain, chosen_operands, result_domain, op_domains}
use Rattle.un_model.specs.Pairs.{places_from}
use Rattle.un_lists.proofs.Lists.{Member, each_member}
use Rattle.un_model.proofs.Numbering.{length-blocks_domains}
use Rattle.un_model.proofs.OpDomains.{in_entry, instr_sits}
use Rattle.un_model.proofs.Placed.{Placed, vars_of, issue_at, end_of}
use Rattle.un_model.proofs.PlacedSchedules.{all, each_issue}
use Rattle.un_model.proofs.Readings.{Solved, placed_domains}
use Rattle.un_steps.specs.Words.{cycles, cycles_by, time_by, IsSure, IsNeverZero, instrs, instrs_by}
use Rattle.un_steps.proofs.Boxes.{has_positive}
use Rattle.un_steps.proofs.Placing.{operation_of, AreAmong, all_among}

zip_length : {A B : Type 0} (R : A → B → Type 0) (xs : List A) (ys : List B) → AllZip R xs ys → length xs ≡ length ys
zip_length R [] [] h = refl
zip_length R [] (y ∷ ys) h = absurd h
zip_length R (x ∷ xs) [] h = absurd h
zip_length R (x ∷ xs) (y ∷ ys) h = ap suc (zip_length R xs ys h.1)

pub not_zero : (xs : List ℕ) (y : ℕ) → has xs 0 ≡ false → has xs y ≡ true → 0 < y
not_zero xs zero h k = absurd (cc (sym h ∙ k))
not_zero xs (suc y) h k = omega arith

copy_acts : (n : ℕ) → 0 < n → n ≤ 5 → is_some (copy_of n) ≡ true
copy_acts zero lt le = absurd (omega arith)
copy_acts (suc zero) lt le = refl
copy_acts (suc (suc zero)) lt le = refl
copy_acts (suc (suc (suc zero))) lt le = refl
copy_acts (suc (suc (suc (suc zero)))) lt le = refl
copy_acts (suc (suc (suc (suc (suc zero))))) lt le = refl
copy_acts (suc (suc (suc (suc (suc (suc n)))))) lt le = absurd (omega arith)

frame_acts : (op : Op) (n : ℕ) → 0 < n → is_some (if n == 0 then None else Some op) ≡ true
frame_acts op n lt = let t : (n == 0) ≡ false = grind (arith, nat_tests, lt) in ap (λ (b : Bool). is_some (if b then None else Some op)) t

-- an optional operation with the number 0 issues nothing
idle_number : (k : ExtKind) → is_optional k ≡ true → is_some (instruction_of k 0) ≡ false
idle_number (Copy node) h = refl
idle_number Enter h = refl
idle_number Leave h = refl
idle_number In h = absurd (cc h)
idle_number Out h = absurd (cc h)
idle_number (Body so) h = absurd (cc h)
idle_number (End term) h = absurd (cc h)

optional_inner : (k : ExtKind) → is_optional k ≡ true → is_delimiter k ≡ false
optional_inner (Copy node) h = refl
optional_inner Enter h = refl
optional_inner Leave h = refl
optional_inner In h = absurd (cc h)
optional_inner Out h = absurd (cc h)
optional_inner (Body so) h = absurd (cc h)
optional_inner (End term) h = absurd (cc h)

positive_by : (n : ℕ) → (n ≡ 0 → ⊥) → 0 < n
positive_by zero h = absurd (h refl)
positive_by (suc n) h = omega arith

and_left : (a b : Bool) → (a && b) ≡ true → a ≡ true
and_left true b h = refl
and_left false b h = absurd (cc h)

module _ (e : Ext) (o : Options) (x : List ℕ) (h : Solved e o x) (s : Sets) (inside : IsIn x s) where
  -- ---- variables

  long : length s ≡ blocks_count e.blocks + 1
  long =
      let k = h.schedule in
      let a = zip_length InDomain x (domains_of own_horizon e o) k.in_domains in
      let b = length-append (blocks_domains e o own_horizon true e.blocks) (Range 0 1 ∷ []) in
      let c = length-blocks_domains e o true e.blocks in
      let d = inside.long in
      omega (arith, a, b, c, d)

  pub there : (v : ℕ) → v ≤ blocks_count e.blocks → has (set_at s v) (slice_index x v) ≡ true
  there v le = let l = long in inside.each v (omega (arith, l, le))

  among : (q : Placed) → Member q (all e o x) → AreAmong (blocks_count e.blocks) q
  among q m = each_member (AreAmong (blocks_count e.blocks)) (all e o x) q (all_among e.blocks) m

  -- the values of its variables are left
  pub own : (q : Placed) → Member q (all e o x) → (j : ℕ) → j < var_count q.op
      → has (set_at s (q.first + j)) (slice_index x (q.first + j)) ≡ true
  own q m j lt = let a = among q m in let b = a.own in there (q.first + j) (omega (arith, b, lt))

  pub close_left : (q : Placed) → Member q (all e o x) → has (set_at s q.close.0) (end_of x q) ≡ true
  close_left q m = let a = among q m in let b = a.close in there q.close.0 (omega (arith, b))

  -- ---- activity

  pub instr_left : (q : Placed) → Member q (all e o x) → is_optional q.op.kind ≡ true → has (set_at s q.first) (slice_index x q.first) ≡ true
  instr_left q m opt =
      let c = ap count_if opt in
      let z : q.first + 0 ≡ q.first = omega arith in
      subst (λ v. has (set_at s v) (slice_index x v) ≡ true) z (own q m 0 (omega (arith, c)))

  instr_bound : (q : Placed) → Member q (all e o x) → is_optional q.op.kind ≡ true → slice_index x q.first ≤ 5
  instr_bound q m opt = by q.op.kind refl opt
    where
      truth : Bool
      truth = carries_truth e q.owner q.op q.op.results

      few : (b : Bool) (v : ℕ) → InDomain v (copy_domain b) → v ≤ 5
      few false v d = let hi = d.1 in omega (arith, hi)
      few true v d = let hi = d.1 in omega (arith, hi)

      sits : (d : Domain) → instr_domain truth q.op.kind ≡ Some d → InDomain (slice_index x q.first) d
      sits d k = instr_sits e o x (in_entry e o x q) q d (placed_domains e o x h q m) k

      by : (kind : ExtKind) → q.op.kind ≡ kind → is_optional kind ≡ true → slice_index x q.first ≤ 5
      by (Copy node) k t = few truth (slice_index x q.first) (sits (copy_domain truth) (ap (instr_domain truth) k))
      by Enter k t = let d = sits (Range 0 1) (ap (instr_domain truth) k) in let hi = d.1 in omega (arith, hi)
      by Leave k t = let d = sits (Range 0 1) (ap (instr_domain truth) k) in let hi = d.1 in omega (arith, hi)
      by In k t = absurd (cc t)
      by Out k t = absurd (cc t)
      by (Body so) k t = absurd (cc t)
      by (End term) k t = absurd (cc t)

  -- a terminator that falls through is in no solution: it would issue nothing in a cycle that is not 0
  no_fall : (q : Placed) → Member q (all e o x) → q.op.kind ≡ End Fall → ⊥
  no_fall q m k =
      let truth = carries_truth e q.owner q.op q.op.results in
      let rest = map choice_domain (chosen_operands q.op) in
      let regs_d = places_from (result_domain e o (in_entry e o x q) q.owner q.op) 0 q.op.results in
      let d = placed_domains e o x h q m in
      let horizon = own_horizon q.owner in
      let first : slice_get (op_domains e o (in_entry e o x q) q.owner horizon q.op) 0 ≡ cycle_domain horizon (End Fall) =
      ap (λ (c : ExtKind). slice_get (option_to_list (instr_domain truth c) ++ option_to_list (cycle_domain horizon c) ++ rest ++ regs_d) 0)
      k in
      let range = d.all 0 _ first in
      let lo = range.0 in
      let sch = h.schedule in
      let zeros = sch.zeros in
      let idle = each_member (λ p. IsIdleAtZero (issue_at x p)) (all e o x) q (each_issue e o x IsIdleAtZero zeros.0) m in
      let v = vars_of q in
      let off : (issue_at x q).active ≡ false = ap (λ (c : ExtKind). is_delimiter c || is_some (instruction_of c (value_by x v.instr))) k in
      elim idle [
        | inl a ↦ cc (sym off ∙ a)
        | inr z ↦ at_zero lo (ap (λ (c : ExtKind). value_by x (var_if (has_cycle c) (q.first + count_if (is_optional c))) == 0) k)
            (and_left _ _ z)
      ]
    where
      at_zero : 1 ≤ slice_index x (q.first + 0) → ((let v = vars_of q in value_by x v.cycle) == 0) ≡ (slice_index x (q.first + 0) == 0)
          → ((let v = vars_of q in value_by x v.cycle) == 0) ≡ true → ⊥
      at_zero lo same z = let t = sym same ∙ z in grind (arith, nat_tests, lo, t)

  -- what is sure is active
  pub sure_active : (q : Placed) → Member q (all e o x) → IsSure s (operation_of q) → (issue_at x q).active ≡ true
  sure_active q m sure = active_by q.op.kind ∙ by q.op.kind refl sure
    where
      active : ExtKind → Bool
      active c = is_delimiter c || is_some (instruction_of c (value_by x (var_if (is_optional c) q.first)))

      active_by : (c : ExtKind) → active c ≡ active c
      active_by c = refl

      positive : is_optional q.op.kind ≡ true → has (set_at s q.first) 0 ≡ false → 0 < slice_index x q.first
      positive opt lacks = not_zero (set_at s q.first) (slice_index x q.first) lacks (instr_left q m opt)

      by : (c : ExtKind) → q.op.kind ≡ c → IsNeverZero s (var_if (is_optional c) q.first) → active c ≡ true
      by In k n = refl
      by Out k n = refl
      by (Body so) k n = refl
      by (End Fall) k n = absurd (no_fall q m k)
      by (End (Jump to)) k n = refl
      by (End (Branch pred true to)) k n = refl
      by (End (Branch pred false to)) k n = refl
      by (End (Ret value)) k n = refl
      by (Copy node) k n = let opt = ap is_optional k in copy_acts (slice_index x q.first) (positive opt n) (instr_bound q m opt)
      by Enter k n = let opt = ap is_optional k in frame_acts _ (slice_index x q.first) (positive opt n)
      by Leave k n = let opt = ap is_optional k in frame_acts _ (slice_index x q.first) (positive opt n)

  -- ---- cycles

  -- its cycle is left
  pub cycle_left : (q : Placed) → Member q (all e o x) → has (cycles s (operation_of q)) (issue_at x q).cycle ≡ true
  cycle_left q m = by q.op.kind refl
    where
      n : ℕ
      n = q.first + cycle_place q.op

      left : ExtKind → Type 0
      left c = (let v = vars_of q in has (cycles_by s (time_by c q.close (var_if (has_cycle c) (q.first + cycle_place q.op))))
          (cycle_by x (end_of x q) c (record { instr = v.instr; cycle = var_if (has_cycle c) (q.first + cycle_place q.op); choices = v.choices }))
          ≡ true)

      timed : (c : ExtKind) → q.op.kind ≡ c → has_cycle c ≡ true
          → has (set_at s (q.first + cycle_place q.op)) (slice_index x (q.first + cycle_place q.op)) ≡ true
      timed c k t = let u = ap count_if (ap has_cycle k ∙ t) in own q m (cycle_place q.op) (omega (arith, u))

      by : (c : ExtKind) → q.op.kind ≡ c → left q.op.kind
      by In k = subst left (sym k) refl
      by Out k = subst left (sym k) (close_left q m)
      by (Body so) k = subst left (sym k) (timed (Body so) k refl)
      by (End term) k = subst left (sym k) (timed (End term) k refl)
      by (Copy node) k = subst left (sym k) (timed (Copy node) k refl)
      by Enter k = subst left (sym k) (timed Enter k refl)
      by Leave k = subst left (sym k) (timed Leave k refl)

  -- an operation between the start and the end of its block issues within it
  pub within : (q : Placed) → Member q (all e o x) → (issue_at x q).active ≡ true → is_delimiter q.op.kind ≡ false
      → (0 < (issue_at x q).cycle) × ((issue_at x q).cycle < end_of x q)
  within q m act inner =
      let sch = h.schedule in
      let lats = sch.latencies in
      let placed = each_member (λ p. IsPlaced (issue_at x p)) (all e o x) q (each_issue e o x IsPlaced lats.0) m in
      by (issue_at x q).instr placed (sym (ap (λ (b : Bool). b || is_some (issue_at x q).instr) inner) ∙ act)
    where
      by : (i : Option Op) → IfSome i (IsPlacedAs (issue_at x q).cycle (end_of x q)) → is_some i ≡ true
          → (0 < (issue_at x q).cycle) × ((issue_at x q).cycle < end_of x q)
      by None p t = absurd (cc t)
      by (Some op) p t = p.0

  -- ---- instructions

  -- an optional operation of number 0 is not active
  pub idle_is_zero : (q : Placed) → is_optional q.op.kind ≡ true → slice_index x q.first ≡ 0 → (issue_at x q).active ≡ true → ⊥
  idle_is_zero q k z act =
      let none = idle_number q.op.kind k in
      let inner = optional_inner q.op.kind k in
      let v : (let w = vars_of q in value_by x w.instr) ≡ 0 = ap (λ (b : Bool). value_by x (var_if b q.first)) k ∙ z in
      let off : (issue_at x q).active ≡ false =
      ap (λ (n : ℕ). is_delimiter q.op.kind || is_some (instruction_of q.op.kind n)) v
      ∙ ap (λ (b : Bool). b || is_some (instruction_of q.op.kind 0)) inner ∙ none in
      cc (sym off ∙ act)

  -- the number of its instruction is left
  pub number_left : (q : Placed) → Member q (all e o x) → (issue_at x q).active ≡ true
      → has (instrs s (operation_of q)) (let v = vars_of q in value_by x v.instr) ≡ true
  number_left q m act = by (is_optional q.op.kind) refl
    where
      left : Bool → Type 0
      left b = has (instrs_by s (var_if b q.first)) (value_by x (var_if b q.first)) ≡ true

      by : (b : Bool) → is_optional q.op.kind ≡ b → left (is_optional q.op.kind)
      by false k = subst left (sym k) refl
      by true k = subst left (sym k) (has_positive (set_at s q.first) (slice_index x q.first) (instr_left q m k) (positive_by _ (λ z. idle_is_zero q k z act)))
