-- A copy that accesses the frame has one.
use Rattle.std.proofs.Common.{ℕ, ◌≡◌, Bool, true, false, ◌||◌, List, [], ◌∷◌, ◌⊎◌, inl, inr, refl, sym, ap, ◌∙◌, subst, arith}
use Rattle.std.specs.Prelude.{slice_index}
use Rattle.std.specs.List.{list_any}
use Rattle.un_base.specs.declared.ids.VarId.{VarId}
use Rattle.un_ir.specs.declared.extended.Ext.{Ext}
use Rattle.un_ir.specs.declared.extended.ExtKind.{ExtKind}
use Rattle.un_ir.specs.declared.extended.ExtKind.TheVariants.{In, Out, Body, End, Copy, Enter, Leave}
use Rattle.un_ir.specs.Extended.{is_copy}
use Rattle.un_ir.specs.Kinds.{is_optional}
use Rattle.un_domains.specs.Sets.{Sets, set_at, has, IsIn}
use Rattle.un_model.specs.declared.model.Options.{Options}
use Rattle.un_model.specs.declared.schedule.Issue.{Issue}
use Rattle.un_model.specs.Instructions.{instruction_of}
use Rattle.un_model.specs.Schedules.{value_by, issues_of}
use Rattle.un_model.specs.Solutions.{is_frame_access, starts_in_slot}
use Rattle.un_model.specs.Variables.{model_of, var_if, blocks_count}
use Rattle.un_lists.proofs.Lists.{Member, member_at}
use Rattle.un_model.proofs.Placed.{Placed, vars_of, issue_at}
use Rattle.un_model.proofs.PlacedSchedules.{all, issue_here, the_ranges}
use Rattle.un_model.proofs.Readings.{Solved}
use Rattle.un_steps.specs.Rules.{IsNoFrame, IsAccess, AreAccesses}
use Rattle.un_steps.proofs.Boxes.{some_of, any_member}
use Rattle.un_steps.proofs.Choosing.{has_one}
use Rattle.un_steps.proofs.Grounds.{instr_left, there}
use Rattle.un_steps.proofs.OutsideSpace.{instr_is}
use Rattle.un_steps.proofs.Placing.{operation_of}

or_first : (a b : Bool) → a ≡ true → (a || b) ≡ true
or_first true b e = refl
or_first false b e = absurd (cc e)

accesses : (c : ExtKind) (n : ℕ) → is_copy c ≡ true → IsAccess n → is_frame_access (instruction_of c n) ≡ true
accesses (Copy node) n h (inl e) = ap (λ (n : ℕ). is_frame_access (instruction_of (Copy node) n)) e
accesses (Copy node) n h (inr e) = ap (λ (n : ℕ). is_frame_access (instruction_of (Copy node) n)) e
accesses In n h a = absurd (cc h)
accesses Out n h a = absurd (cc h)
accesses (Body so) n h a = absurd (cc h)
accesses (End term) n h a = absurd (cc h)
accesses Enter n h a = absurd (cc h)
accesses Leave n h a = absurd (cc h)

module _ (e : Ext) (o : Options) (x : List ℕ) (h : Solved e o x) (s : Sets) (inside : IsIn x s) where
  -- the number of a copy that accesses the frame goes with the flag
  has_frame : (q : Placed) → Member q (all e o x) → is_copy q.op.kind ≡ true → (let v = vars_of q in IsAccess (value_by x v.instr))
      → slice_index x (blocks_count e.blocks) ≡ 1
  has_frame q m copy access =
      let v = vars_of q in
      let sch = h.schedule in
      let frame = sch.frame in
      let is = issues_of (model_of e o) x in
      let here = member_at is q.number (issue_at x q) (issue_here e o x q m) in
      frame.used (or_first (list_any (λ (i : Issue). is_frame_access i.instr) is) (list_any starts_in_slot (the_ranges e o x))
      (any_member (λ (i : Issue). is_frame_access i.instr) is (issue_at x q) here (accesses q.op.kind (value_by x v.instr) copy access)))

  pub no_frame : (q : Placed) (v y : ℕ) → Member q (all e o x) → IsNoFrame (model_of e o) s (operation_of q) v y → slice_index x v ≡ y → ⊥
  no_frame q v y m (copy, goes) is =
      let vars = vars_of q in
      let i = some_of vars.instr _ goes in
      let var = instr_is q i.0 i.1 in
      by i.0 var.0 var.1 i.2
    where
      flag_left : has (set_at s (blocks_count e.blocks)) (slice_index x (blocks_count e.blocks)) ≡ true
      flag_left = there e o x h s inside (blocks_count e.blocks) (omega arith)

      number : is_optional q.op.kind ≡ true → (let w = vars_of q in value_by x w.instr) ≡ slice_index x q.first
      number opt = ap (λ (b : Bool). value_by x (var_if b q.first)) opt

      by : (i : VarId) → is_optional q.op.kind ≡ true → i.0 ≡ q.first
          → ((set_at s (blocks_count e.blocks) ≡ 0 ∷ []) × (i.0 ≡ v) × IsAccess y) ⊎ ((blocks_count e.blocks ≡ v) × (y ≡ 0) ×
          AreAccesses (set_at s i.0)) → ⊥
      by i opt at (inl (none, var, access)) =
          let zero_flag : slice_index x (blocks_count e.blocks) ≡ 0 = has_one 0 (slice_index x (blocks_count e.blocks))
          (sym (ap (λ (xs : List ℕ). has xs (slice_index x (blocks_count e.blocks))) none) ∙ flag_left) in
          let value : slice_index x q.first ≡ y = ap (slice_index x) (sym at ∙ var) ∙ is in
          let one = has_frame q m copy (subst IsAccess (sym (number opt ∙ value)) access) in
          omega (arith, zero_flag, one)
      by i opt at (inr (var, z, all_access)) =
          let left = instr_left e o x h s inside q m opt in
          let access : IsAccess (slice_index x q.first) = all_access.1 (slice_index x q.first)
          (subst (λ (k : ℕ). has (set_at s k) (slice_index x q.first) ≡ true) (sym at) left) in
          let one = has_frame q m copy (subst IsAccess (sym (number opt)) access) in
          let flag : slice_index x (blocks_count e.blocks) ≡ y = ap (slice_index x) var ∙ is in
          omega (arith, flag, z, one)
