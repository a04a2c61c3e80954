-- What spills in the entry does so after Enter, which issues in cycle 1 at the earliest.
use Rattle.std.proofs.Common.{ℕ, suc, ◌≡◌, ◌<◌, ◌≤◌, ◌+◌, Bool, true, false, List, [], ◌∷◌, ◌++◌, inl, inr, refl, sym, ap, ◌∙◌, subst}
use Rattle.std.proofs.Common.{arith}
use Rattle.std.specs.Prelude.{All, Option, Some, None, IfSome, slice_get, ◌||◌, ◌==◌, cond, count_by, is_some, if◌then◌else◌}
use Rattle.std.specs.List.{list_any}
use Rattle.std.proofs.lemmas.List.Sums.{sum_by-cons}
use Rattle.un_isa.specs.declared.op.Op.{Op}
use Rattle.un_isa.specs.declared.op.Op.TheVariants.{Spill, Enter as EnterOp}
use Rattle.un_ir.specs.Extended.{is_enter}
use Rattle.un_ir.specs.Kinds.{is_delimiter, is_frame_op}
use Rattle.un_ir.specs.declared.extended.ExtKind.{ExtKind}
use Rattle.un_ir.specs.declared.extended.ExtKind.TheVariants.{In, Out, Body, End, Copy, Enter, Leave}
use Rattle.un_ir.specs.declared.extended.ExtOp.{ExtOp}
use Rattle.un_ir.specs.declared.extended.ExtBlock.{ExtBlock}
use Rattle.un_ir.specs.declared.extended.Ext.{Ext}
use Rattle.un_model.specs.declared.model.Options.{Options}
use Rattle.un_model.specs.declared.schedule.Issue.{Issue}
use Rattle.un_model.specs.declared.schedule.Schedule.{Schedule}
use Rattle.un_model.specs.Cost.{value_of}
use Rattle.un_model.specs.Instructions.{instruction_of}
use Rattle.un_model.specs.Schedules.{issues_of, schedule_of, value_by}
use Rattle.un_model.specs.Solutions.{HasFrame, IsPlacedAs, Precedes, frame_distance, is_frame_access, starts_in_slot}
use Rattle.un_model.specs.Variables.{model_of, var_at, ops_count}
use Rattle.un_lists.proofs.Lists.{Member, each_member, each_all, member_at, member_append_left, member_append_right}
use Rattle.un_model.proofs.Operations.{placed_get}
use Rattle.un_model.proofs.Placed.{Placed, region_placed, parted, vars_of, end_of, issue_at}
use Rattle.un_model.proofs.PlacedSchedules.{all, issue_here}
use Rattle.un_model.proofs.Readings.{Solved, placed_good}
use Rattle.un_press.proofs.Descent.{cycle_at}
use Rattle.un_press.proofs.Spilling.{SpilledBy, placed_issue}

-- ---- lists

-- what is counted is somewhere
counted_at : (p : ExtOp → Bool) (xs : List ExtOp) → count_by p xs ≡ 1 → (k : ℕ) × (x : ExtOp) × (slice_get xs k ≡ Some x) × (p x ≡ true)
counted_at p [] h = absurd (omega (arith, h))
counted_at p (x ∷ xs) h = by (p x) refl (counted_at p xs)
  where
    by : (b : Bool) → p x ≡ b → (count_by p xs ≡ 1 → (k : ℕ) × (y : ExtOp) × (slice_get xs k ≡ Some y) × (p y ≡ true))
        → (k : ℕ) × (y : ExtOp) × (slice_get (x ∷ xs) k ≡ Some y) × (p y ≡ true)
    by true e rest = (0, x, refl, e)
    by false e rest =
        let cons = sum_by-cons (λ y. cond (p y) 1 0) x xs in
        let one : Bool → ℕ = λ b. cond b 1 0 in
        let none : one (p x) ≡ 0 = ap one e in
        let r = rest (omega (arith, h, cons, none)) in
        (suc r.0, r.1, r.2, r.3)

any_true : {X : Type 0} (t : X → Bool) (xs : List X) (x : X) → Member x xs → t x ≡ true → list_any t xs ≡ true
any_true t [] x m q = elim m [ ]
any_true t (y ∷ ys) x (inl e) q = ap (λ (b : Bool). b || list_any t ys) (ap t e ∙ q)
any_true t (y ∷ ys) x (inr m) q = either (t y) (list_any t ys) (any_true t ys x m q)
  where
    either : (a b : Bool) → b ≡ true → (a || b) ≡ true
    either true b e = refl
    either false b e = e

-- ---- Enter

enter_is : (kind : ExtKind) → is_enter kind ≡ true → kind ≡ Enter
enter_is Enter h = refl
enter_is In h = absurd (cc h)
enter_is Out h = absurd (cc h)
enter_is (Body so) h = absurd (cc h)
enter_is (End term) h = absurd (cc h)
enter_is (Copy node) h = absurd (cc h)
enter_is Leave h = absurd (cc h)

goes : (b : Bool) → is_some (if b then None else Some EnterOp) ≡ true → (if b then None else Some EnterOp) ≡ Some EnterOp
goes true h = absurd (cc h)
goes false h = refl

-- an active Enter issues it
enters : (n : ℕ) → is_some (instruction_of Enter n) ≡ true → instruction_of Enter n ≡ Some EnterOp
enters n = goes (n == 0)

waits : (a b : Issue) → Precedes frame_distance a b → a.block.0 ≡ b.block.0 → a.instr ≡ Some EnterOp → b.instr ≡ Some Spill
    → a.cycle + 1 ≤ b.cycle
unfolding Precedes
waits a b h block p q =
    let k = h block in
    subst (λ (j : Option Op). IfSome (frame_distance (Some EnterOp) j) (λ (n : ℕ). a.cycle + n ≤ b.cycle)) q
    (subst (λ (i : Option Op). IfSome (frame_distance i b.instr) (λ (n : ℕ). a.cycle + n ≤ b.cycle)) p k)

module _ (e : Ext) (o : Options) (values : List ℕ) (h : Solved e o values) where
  abbrev issues : List Issue
  issues = issues_of (model_of e o) values

  abbrev the_schedule : Schedule
  the_schedule = schedule_of (model_of e o) values

  -- the entry's Enter
  enter_of : (p : Placed) → Member p (all e o values) → p.block ≡ 0 → (q : Placed) × (Member q (all e o values)) × (q.block ≡ 0)
      × (q.op.kind ≡ Enter)
  enter_of p m zero_block =
      let g = placed_good e o values h p m in
      let here : slice_get e.blocks 0 ≡ Some p.owner = ap (slice_get e.blocks) (sym zero_block) ∙ g.here in
      let ext = h.extended in
      let frames = ext.frames in
      let k = counted_at (λ (op : ExtOp). is_enter op.kind) p.owner.ops (frames.enters 0 p.owner here) in
      let part = parted 0 0 0 0 e.blocks p.owner here in
      let r = part.0 in
      let block = part.1 in
      let owner = r.owner in
      let close = var_at (r.first + ops_count owner.ops) in
      let at : slice_get owner.ops k.0 ≡ Some k.1 = ap (λ (b : ExtBlock). slice_get b.ops k.0) part.2 ∙ k.2 in
      let q = placed_get r.block owner close r.number r.first k.0 owner.ops k.1 at in
      let split = part.3 in
      let mq : Member q.0 (region_placed r) = member_at (region_placed r) k.0 q.0 q.1 in (
        q.0,
        subst (λ ps. Member q.0 ps) (sym split.is)
            (member_append_right split.before (region_placed r ++ split.after) q.0
            (member_append_left (region_placed r) split.after q.0 mq)),
        q.4 ∙ block ∙ omega arith,
        ap (λ (op : ExtOp). op.kind) q.2 ∙ enter_is k.1.kind k.3,
      )

  -- a block that spills uses the frame
  flag_set : (p : Placed) → Member p (all e o values) → (issue_at values p).instr ≡ Some Spill
      → value_of values (model_of e o).flag ≡ 1
  flag_set p m is =
      let schedule = h.schedule in
      let frame = schedule.frame in
      let some = any_true (λ (i : Issue). is_frame_access i.instr) issues (issue_at values p)
      (member_at issues p.number (issue_at values p) (issue_here e o values p m)) (ap is_frame_access is) in
      frame.used (ap (λ (b : Bool). b || list_any starts_in_slot the_schedule.ranges) some)

  entered : (p q : Placed) → Member p (all e o values) → Member q (all e o values) → p.block ≡ q.block → q.op.kind ≡ Enter
      → (issue_at values p).instr ≡ Some Spill → 1 < cycle_at e o values h p
  entered p q mp mq block kind is =
      let schedule = h.schedule in
      let frame = schedule.frame in
      let flag = flag_set p mp is in
      let iq = member_at issues q.number (issue_at values q) (issue_here e o values q mq) in
      let ip = member_at issues p.number (issue_at values p) (issue_here e o values p mp) in
      let active = each_member (HasFrame true) issues (issue_at values q) (each_all (HasFrame true) issues (frame.with_frame flag)) iq
      (ap is_frame_op kind) in
      let v = vars_of q in
      let n = value_by values v.instr in
      let some : is_some (instruction_of Enter n) ≡ true =
      sym (ap (λ (z : ExtKind). is_delimiter z || is_some (instruction_of z n)) kind) ∙ active in
      let enter : (issue_at values q).instr ≡ Some EnterOp = ap (λ (z : ExtKind). instruction_of z n) kind ∙ enters n some in
      let each = each_all (λ (i : Issue). All (Precedes frame_distance i) issues) issues (frame.ordered flag) in
      let mine = each_member (λ (i : Issue). All (Precedes frame_distance i) issues) issues (issue_at values q) each
      iq in
      let pair = each_member (Precedes frame_distance (issue_at values q)) issues (issue_at values p)
      (each_all (Precedes frame_distance (issue_at values q)) issues mine) ip in
      let late = waits (issue_at values q) (issue_at values p) pair (sym block) enter is in
      let placed = subst (λ (j : Option Op). IfSome j (IsPlacedAs (cycle_at e o values h q) (end_of values q))) enter
      (placed_issue e o values h q mq) in
      let within = placed.0 in
      let first = within.0 in
      omega (arith, late, first)

  -- what spills in the entry issues in cycle 2 at the earliest
  pub entry_late : (c p : Placed) → SpilledBy e o values h c p → c.block ≡ 0 → 1 < cycle_at e o values h p
  entry_late c p s zero_block =
      let at : p.block ≡ 0 = s.block ∙ zero_block in
      let q = enter_of p s.member at in
      entered p q.0 s.member q.1 (at ∙ sym q.2) q.3 s.instr
