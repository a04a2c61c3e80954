-- How many Spills and Reloads the cycles of a block have room for.
use Rattle.std.proofs.Common.{ℕ, zero, suc, ◌≡◌, ◌<◌, ◌≤◌, ◌+◌, ◌-◌, ◌⊎◌, Bool, true}
use Rattle.std.proofs.Common.{false, cond, List, [], ◌∷◌, inl, inr, refl, sym, ap, ◌∙◌, subst}
use Rattle.std.proofs.Common.{arith, eq-eqb, All}
use Rattle.std.specs.Prelude.{Option, Some, None, IfSome, IsSomeAnd, unwrap_or, nat_eq, nat_lt}
use Rattle.std.specs.Prelude.{nat_le, ◌&&◌, ◌||◌, ◌==◌, is_some, slice_get, sum_by, count_by}
use Rattle.std.specs.Prelude.{if◌then◌else◌}
use Rattle.std.specs.List.{list_any}
use Rattle.std.proofs.lemmas.Bool.{eqb-true}
use Rattle.std.proofs.lemmas.List.Sums.{sum_by-cons}
use Rattle.un_isa.specs.Facts.{class_of}
use Rattle.un_isa.specs.Fit.{IsFit, AreFitNeeds}
use Rattle.un_isa.specs.Hexagon.{needs_by as least_needs}
use Rattle.un_isa.specs.Tables.{number_of, latency_of}
use Rattle.un_isa.specs.declared.op.Op.{Op}
use Rattle.un_isa.specs.declared.op.Op.TheVariants.{Spill, Reload, Enter as EnterOp}
use Rattle.un_isa.specs.declared.packet_counts.Resource.{Resource}
use Rattle.un_isa.specs.declared.packet_counts.Resource.TheVariants.{Memory, Stores}
use Rattle.un_isa.specs.PacketCounts.{places_of as room_of}
use Rattle.un_isa.specs.declared.table.Needs.{Needs}
use Rattle.un_isa.specs.declared.table.Table.{Table}
use Rattle.un_ir.specs.Extended.{is_enter}
use Rattle.un_ir.specs.Kinds.{is_delimiter, is_frame_op}
use Rattle.un_ir.specs.declared.extended.ExtKind.{ExtKind}
use Rattle.un_ir.specs.declared.extended.ExtKind.TheVariants.{In, Out, Body, End, Copy, Enter, Leave}
use Rattle.un_ir.specs.declared.extended.Ext.{Ext}
use Rattle.un_model.specs.declared.model.Options.{Options}
use Rattle.un_model.specs.declared.schedule.Issue.{Issue}
use Rattle.un_model.specs.Instructions.{instruction_of, no_needs}
use Rattle.un_model.specs.Schedules.{schedule_of, issues_of, value_by}
use Rattle.un_model.specs.Solutions.{IsSchedule, IsPlaced, IsPlacedAs, Precedes, HasFrame, is_frame_access, frame_distance, latency_gap}
use Rattle.un_model.specs.Solutions.{share_of, issues_at}
use Rattle.un_model.specs.Variables.{model_of}
use Rattle.un_lists.proofs.Lists.{Each, Member, each_member, each_of, each_all, each_more, member_at}
use Rattle.un_model.proofs.Placed.{Placed, vars_of, issue_at}
use Rattle.un_model.proofs.PlacedSchedules.{issue_here}
use Rattle.un_press.specs.Accesses.{is_spill, is_reload, spills_by, reloads_after, Spills, Reloads}
use Rattle.un_post.proofs.Facts.{Given}
use Rattle.un_post.proofs.OneEnter.{one_enter}
use Rattle.un_post.proofs.Packets.{no_room}
use Rattle.un_post.proofs.Tests.{and_iff, le_iff, lt_iff}

-- ---- counts

one_less : (b c : Bool) → (b ≡ true → c ≡ true) → cond b 1 0 ≤ cond c 1 0
one_less false c h = omega arith
one_less true c h = subst (λ (b : Bool). 1 ≤ cond b 1 0) (sym (h refl)) (omega arith)

count_less : {X : Type 0} (p q : X → Bool) (xs : List X) → Each (λ x. p x ≡ true → q x ≡ true) xs → count_by p xs ≤ count_by q xs
count_less p q [] h = omega arith
count_less p q (x ∷ xs) h =
    let a = sum_by-cons (λ y. cond (p y) 1 0) x xs in
    let b = sum_by-cons (λ y. cond (q y) 1 0) x xs in
    let here = one_less (p x) (q x) h.0 in
    let rest = count_less p q xs h.1 in
    omega (arith, a, b, here, rest)

one_two : (a b c : Bool) → (a ≡ true → (b ≡ true) ⊎ (c ≡ true)) → cond a 1 0 ≤ cond b 1 0 + cond c 1 0
one_two false b c h = omega arith
one_two true b c h = elim (h refl) [
  | inl e ↦ subst (λ (b : Bool). 1 ≤ cond b 1 0 + cond c 1 0) (sym e) (omega arith)
  | inr e ↦ subst (λ (c : Bool). 1 ≤ cond b 1 0 + cond c 1 0) (sym e) (omega arith)
]

count_two : {X : Type 0} (p q r : X → Bool) (xs : List X) → ((x : X) → p x ≡ true → (q x ≡ true) ⊎ (r x ≡ true))
    → count_by p xs ≤ count_by q xs + count_by r xs
count_two p q r [] h = omega arith
count_two p q r (x ∷ xs) h =
    let a = sum_by-cons (λ y. cond (p y) 1 0) x xs in
    let b = sum_by-cons (λ y. cond (q y) 1 0) x xs in
    let c = sum_by-cons (λ y. cond (r y) 1 0) x xs in
    let here = one_two (p x) (q x) (r x) (h x) in
    let rest = count_two p q r xs h in
    omega (arith, a, b, c, here, rest)

one_sum : (b : Bool) (n : ℕ) → (b ≡ true → 1 ≤ n) → cond b 1 0 ≤ n
one_sum false n h = omega arith
one_sum true n h = h refl

count_sum : {X : Type 0} (p : X → Bool) (f : X → ℕ) (xs : List X) → ((x : X) → p x ≡ true → 1 ≤ f x) → count_by p xs ≤ sum_by f xs
count_sum p f [] h = omega arith
count_sum p f (x ∷ xs) h =
    let a = sum_by-cons (λ y. cond (p y) 1 0) x xs in
    let b = sum_by-cons f x xs in
    let here = one_sum (p x) (f x) (h x) in
    let rest = count_sum p f xs h in
    omega (arith, a, b, here, rest)

count_none : {X : Type 0} (p : X → Bool) (xs : List X) → ((x : X) → p x ≡ true → ⊥) → count_by p xs ≤ 0
count_none p [] h = omega arith
count_none p (x ∷ xs) h =
    let a = sum_by-cons (λ y. cond (p y) 1 0) x xs in
    let here = one_sum (p x) 0 (λ e. absurd (h x e)) in
    let rest = count_none p xs h in
    omega (arith, a, here, rest)

-- ---- cycles

abbrev times : ℕ → ℕ → ℕ
times zero room = 0
times (suc n) room = times n room + room

times_one : (n : ℕ) → times n 1 ≡ n
times_one zero = refl
times_one (suc n) = let rest = times_one n in omega (arith, rest)

times_two : (n : ℕ) → times n 2 ≡ n + n
times_two zero = refl
times_two (suc n) = let rest = times_two n in omega (arith, rest)

-- of so much in each cycle there is so much in several
module _ (xs : List Issue) (p : Issue → Bool) (room : ℕ) (one : (c : ℕ) → count_by (λ i. p i && (i.cycle == c)) xs ≤ room) where
  abbrev within : ℕ → ℕ → Issue → Bool
  within lo n i = p i && (nat_lt lo i.cycle && nat_le i.cycle (lo + n))

  split : (lo n : ℕ) (i : Issue) → within lo (suc n) i ≡ true → (within lo n i ≡ true) ⊎ ((p i && (i.cycle == lo + suc n)) ≡ true)
  split lo n i h =
      let a = (and_iff (p i) (nat_lt lo i.cycle && nat_le i.cycle (lo + suc n))).1 h in
      let b = (and_iff (nat_lt lo i.cycle) (nat_le i.cycle (lo + suc n))).1 a.1 in
      by (i.cycle == lo + suc n) refl a.0 b.0 ((le_iff i.cycle (lo + suc n)).1 b.1)
    where
      by : (t : Bool) → (i.cycle == lo + suc n) ≡ t → p i ≡ true → nat_lt lo i.cycle ≡ true → i.cycle ≤ lo + suc n
          → (within lo n i ≡ true) ⊎ ((p i && (i.cycle == lo + suc n)) ≡ true)
      by true e a b le = inr ((and_iff (p i) (i.cycle == lo + suc n)).0 (a, e))
      by false e a b le = inl ((and_iff (p i) (nat_lt lo i.cycle && nat_le i.cycle (lo + n))).0 (
        a,
        (and_iff (nat_lt lo i.cycle) (nat_le i.cycle (lo + n))).0 (
          b,
          (le_iff i.cycle (lo + n)).0 (
              let ne : i.cycle ≡ lo + suc n → ⊥ = λ s. (let z : true ≡ false = sym (eq-eqb i.cycle (lo + suc n) s) ∙ e in cc z) in
              omega (arith, le, ne)),
        ),
      ))

  empty : (lo : ℕ) (i : Issue) → within lo 0 i ≡ true → ⊥
  empty lo i h =
      let a = (and_iff (p i) (nat_lt lo i.cycle && nat_le i.cycle (lo + 0))).1 h in
      let b = (and_iff (nat_lt lo i.cycle) (nat_le i.cycle (lo + 0))).1 a.1 in
      let lt = (lt_iff lo i.cycle).1 b.0 in
      let le = (le_iff i.cycle (lo + 0)).1 b.1 in
      absurd (omega (arith, lt, le))

  pub in_cycles : (lo n : ℕ) → count_by (λ i. p i && (nat_lt lo i.cycle && nat_le i.cycle (lo + n))) xs ≤ times n room
  in_cycles lo zero = count_none (within lo 0) xs (empty lo)
  in_cycles lo (suc n) =
      let two = count_two (within lo (suc n)) (within lo n) (λ i. p i && (i.cycle == lo + suc n)) xs (split lo n) in
      let rest = in_cycles lo n in
      let here = one (lo + suc n) in
      omega (arith, two, rest, here)

-- ---- what a Spill and a Reload take

spill_is : (i : Option Op) → is_spill i ≡ true → i ≡ Some Spill
spill_is None h = absurd (cc h)
spill_is (Some Spill) h = refl
spill_is (Some op) h = absurd (cc h)

reload_is : (i : Option Op) → is_reload i ≡ true → i ≡ Some Reload
reload_is None h = absurd (cc h)
reload_is (Some Reload) h = refl
reload_is (Some op) h = absurd (cc h)

module _ (t : Table) (fit : IsFit t) where
  takes_store : 1 ≤ share_of t Stores (Some Spill)
  takes_store = need (slice_get t.uses (number_of Spill)) (fit.needs Spill)
    where
      need : (u : Option Needs) → IsSomeAnd u (AreFitNeeds (least_needs (class_of Spill))) → 1 ≤ (unwrap_or u no_needs).store
      need None h = absurd h
      need (Some u) h = let c = h.store in let lo = c.0 in omega (arith, lo)

  takes_memory : 1 ≤ share_of t Memory (Some Reload)
  takes_memory = need (slice_get t.uses (number_of Reload)) (fit.needs Reload)
    where
      need : (u : Option Needs) → IsSomeAnd u (AreFitNeeds (least_needs (class_of Reload))) → 1 ≤ (unwrap_or u no_needs).mem
      need None h = absurd h
      need (Some u) h = let c = h.mem in let lo = c.0 in omega (arith, lo)

or_right : (a b : Bool) → b ≡ true → (a || b) ≡ true
or_right true b h = refl
or_right false b h = h

any_one : {X : Type 0} (p : X → Bool) (xs : List X) (x : X) → Member x xs → p x ≡ true → list_any p xs ≡ true
any_one p [] x m h = elim m [ ]
any_one p (y ∷ ys) x (inl e) h = let is : p y ≡ true = ap p e ∙ h in ap (λ (b : Bool). b || list_any p ys) is
any_one p (y ∷ ys) x (inr m) h = or_right (p y) (list_any p ys) (any_one p ys x m h)

or_left : (a b : Bool) → a ≡ true → (a || b) ≡ true
or_left true b h = refl
or_left false b h = absurd (cc h)

precedes : (i j : Issue) → Precedes frame_distance i j → i.block.0 ≡ j.block.0
    → IfSome (frame_distance i.instr j.instr) (λ (n : ℕ). i.cycle + n ≤ j.cycle)
unfolding Precedes
precedes i j h = h

-- a Spill comes after an Enter
after_enter_one : (a b : Option Op) (c d : ℕ) → a ≡ Some EnterOp → b ≡ Some Spill
    → IfSome (frame_distance a b) (λ (n : ℕ). c + n ≤ d) → c + 1 ≤ d
after_enter_one a b c d f g h = subst (λ (z : Option Op). IfSome (frame_distance (Some EnterOp) z) (λ (n : ℕ). c + n ≤ d)) g
    (subst (λ (z : Option Op). IfSome (frame_distance z b) (λ (n : ℕ). c + n ≤ d)) f h)

pub frame_on : (op : Op) (b : Bool) → is_some (if b then None else Some op) ≡ true → (if b then None else Some op) ≡ Some op
frame_on op true h = absurd (cc h)
frame_on op false h = refl

module _ (e : Ext) (o : Options) (x : List ℕ) (given : Given e o x)
    (schedule : IsSchedule (latency_gap e.table) (model_of e o).domains (model_of e o) x (schedule_of (model_of e o) x)) where
  abbrev issues : List Issue
  issues = issues_of (model_of e o) x

  -- ---- one cycle

  module _ (b c : ℕ) (resource : Resource) (is : Option Op → Bool)
      (takes : (i : Option Op) → is i ≡ true → 1 ≤ share_of e.table resource i) where
    pub one_cycle : count_by (λ i. ((i.block.0 == b) && is i.instr) && (i.cycle == c)) issues ≤ room_of resource
    one_cycle =
        let le = (no_room e.table issues b c).1 (schedule.packets b c) resource in
        let sum = count_sum (λ (i : Issue). ((i.block.0 == b) && is i.instr) && (i.cycle == c))
        (λ (i : Issue). if issues_at b c i then share_of e.table resource i.instr else 0) issues some in
        omega (arith, le, sum)
      where
        some : (i : Issue) → (((i.block.0 == b) && is i.instr) && (i.cycle == c)) ≡ true
            → 1 ≤ (if issues_at b c i then share_of e.table resource i.instr else 0)
        some i h =
            let a = (and_iff ((i.block.0 == b) && is i.instr) (i.cycle == c)).1 h in
            let d = (and_iff (i.block.0 == b) (is i.instr)).1 a.0 in
            let here : issues_at b c i ≡ true = (and_iff (i.block.0 == b) (i.cycle == c)).0 (d.0, a.1) in
            let same = ap (λ (t : Bool). if t then share_of e.table resource i.instr else 0) here in
            let one = takes i.instr d.1 in
            omega (arith, same, one)

  -- ---- Enter and Leave

  -- they issue, in their order
  pub record Framed : Type 0 where
    pub active : Each (HasFrame true) issues
    pub ordered : Each (λ (a : Issue). Each (Precedes frame_distance a) issues) issues

  -- where a Spill or a Reload does
  pub framed : (i : Issue) → Member i issues → is_frame_access i.instr ≡ true → Framed
  framed i m access =
      let frame = schedule.frame in
      let used = or_left _ _ (any_one (λ (i : Issue). is_frame_access i.instr) issues i m access) in
      let flag = frame.used used in
      record {
        active = each_all (HasFrame true) issues (frame.with_frame flag);
        ordered = each_more (λ (a : Issue). All (Precedes frame_distance a) issues)
            (λ (a : Issue). Each (Precedes frame_distance a) issues) issues
            (λ a h. each_all (Precedes frame_distance a) issues h)
            (each_all (λ (a : Issue). All (Precedes frame_distance a) issues) issues (frame.ordered flag));
      }

  -- one is so far behind another
  pub distant : Framed → (i j : Issue) → Member i issues → Member j issues → i.block.0 ≡ j.block.0
      → IfSome (frame_distance i.instr j.instr) (λ (n : ℕ). i.cycle + n ≤ j.cycle)
  distant f i j mi mj same = precedes i j (each_member (Precedes frame_distance i) issues j
      (each_member (λ (a : Issue). Each (Precedes frame_distance a) issues) issues i f.ordered mi) mj) same

  -- what issues an instruction is within its block
  pub placed_as : (i : Issue) (op : Op) → Member i issues → i.instr ≡ Some op → IsPlacedAs i.cycle i.end op
  placed_as i op m is =
      let latencies = schedule.latencies in
      subst (λ (z : Option Op). IfSome z (IsPlacedAs i.cycle i.end)) is
      (each_member IsPlaced issues i (each_all IsPlaced issues latencies.0) m)

  abbrev pub enter : Placed
  enter = let one = one_enter e o x given in one.enter

  abbrev pub enter_issue : Issue
  enter_issue = issue_at x enter

  enter_member : Member enter_issue issues
  enter_member = let one = one_enter e o x given in member_at issues enter.number enter_issue (issue_here e o x enter one.member)

  enter_frames : (kind : ExtKind) → is_enter kind ≡ true → is_frame_op kind ≡ true
  enter_frames Enter h = refl
  enter_frames In h = absurd (cc h)
  enter_frames Out h = absurd (cc h)
  enter_frames (Body so) h = absurd (cc h)
  enter_frames (End term) h = absurd (cc h)
  enter_frames (Copy node) h = absurd (cc h)
  enter_frames Leave h = absurd (cc h)

  enter_instr : (kind : ExtKind) (n : ℕ) → is_enter kind ≡ true → (is_delimiter kind || is_some (instruction_of kind n)) ≡ true
      → instruction_of kind n ≡ Some EnterOp
  enter_instr Enter n h a = frame_on EnterOp (nat_eq n 0) a
  enter_instr In n h a = absurd (cc h)
  enter_instr Out n h a = absurd (cc h)
  enter_instr (Body so) n h a = absurd (cc h)
  enter_instr (End term) n h a = absurd (cc h)
  enter_instr (Copy node) n h a = absurd (cc h)
  enter_instr Leave n h a = absurd (cc h)

  pub entered : Framed → enter_issue.instr ≡ Some EnterOp
  entered f =
      let one = one_enter e o x given in
      let v = vars_of enter in
      let on : enter_issue.active ≡ true = each_member (HasFrame true) issues enter_issue f.active enter_member
      (enter_frames enter.op.kind one.is) in
      enter_instr enter.op.kind (value_by x v.instr) one.is on

  -- a Spill of the entry issues after it, and so after cycle 1
  pub record Late (i : Issue) : Type 0 where
    pub is : enter_issue.instr ≡ Some EnterOp
    pub some : 0 < enter_issue.cycle
    pub after : enter_issue.cycle + 1 ≤ i.cycle

  pub late : (i : Issue) → Member i issues → i.block.0 ≡ 0 → i.instr ≡ Some Spill → Late i
  late i m block instr =
      let f = framed i m (ap is_frame_access instr) in
      let is = entered f in
      let there = placed_as enter_issue EnterOp enter_member is in
      let one = one_enter e o x given in
      let after = distant f enter_issue i enter_member m (one.block ∙ sym block) in
      record {
        is = is;
        some = there.0.0;
        after = after_enter_one enter_issue.instr i.instr enter_issue.cycle i.cycle is instr after;
      }

  -- ---- Spills

  three_of : (a b c : Bool) → (a && b && c) ≡ true → (a ≡ true) × (b ≡ true) × (c ≡ true)
  three_of true true c h = (refl, refl, h)
  three_of true false c h = absurd (cc h)
  three_of false b c h = absurd (cc h)

  -- those of the entry by a cycle have room from cycle 2 on, one in each
  pub spills_fit : (t n : ℕ) → Spills (model_of e o) (record { values = x }) 0 t n → n ≤ t - 1
  spills_fit t n h =
      let p = λ (i : Issue). (i.block.0 == 0) && is_spill i.instr in
      let less = count_less (spills_by 0 t) (λ (i : Issue). p i && (nat_lt 1 i.cycle && nat_le i.cycle (1 + (t - 1)))) issues
      (each_of (λ (i : Issue). spills_by 0 t i ≡ true → (p i && (nat_lt 1 i.cycle && nat_le i.cycle (1 + (t - 1)))) ≡ true) issues step) in
      let room = in_cycles issues p 1 (λ c. one_cycle 0 c Stores is_spill (λ i s. subst (λ (z : Option Op). 1 ≤ share_of e.table Stores z)
      (sym (spill_is i s)) (takes_store e.table given.fit))) 1 (t - 1) in
      let is = times_one (t - 1) in
      omega (arith, h, less, room, is)
    where
      step : (i : Issue) → Member i issues → spills_by 0 t i ≡ true
          → (((i.block.0 == 0) && is_spill i.instr) && (nat_lt 1 i.cycle && nat_le i.cycle (1 + (t - 1)))) ≡ true
      step i m k =
          let a = three_of (i.block.0 == 0) (is_spill i.instr) (nat_lt 0 i.cycle && nat_le i.cycle t) k in
          let b = (and_iff (nat_lt 0 i.cycle) (nat_le i.cycle t)).1 a.2 in
          let le = (le_iff i.cycle t).1 b.1 in
          let behind = late i m (eqb-true i.block.0 0 a.0) (spill_is i.instr a.1) in
          let some = behind.some in
          let after = behind.after in
          let lt : 1 < i.cycle = omega (arith, some, after) in
          (and_iff ((i.block.0 == 0) && is_spill i.instr) (nat_lt 1 i.cycle && nat_le i.cycle (1 + (t - 1)))).0 (
            (and_iff (i.block.0 == 0) (is_spill i.instr)).0 (a.0, a.1),
            (and_iff (nat_lt 1 i.cycle) (nat_le i.cycle (1 + (t - 1)))).0 (
              (lt_iff 1 i.cycle).0 lt,
              (le_iff i.cycle (1 + (t - 1))).0 (omega (arith, le, lt)),
            ),
          )

  -- ---- Reloads

  -- those of a block after a cycle have room till what they give is ready by the end, two in each
  pub reloads_fit : (b t end n : ℕ) → Each (λ (i : Issue). i.block.0 ≡ b → i.end ≡ end) issues
      → Reloads (model_of e o) (record { values = x }) b t n
      → n ≤ (end - latency_of e.table Reload - t) + (end - latency_of e.table Reload - t)
  reloads_fit b t end n ends h =
      let l = latency_of e.table Reload in
      let p = λ (i : Issue). (i.block.0 == b) && is_reload i.instr in
      let inner = λ (i : Issue). p i && (nat_lt t i.cycle && nat_le i.cycle (t + (end - l - t))) in
      let less = count_less (reloads_after e.table b t) inner issues
      (each_of (λ (i : Issue). reloads_after e.table b t i ≡ true → inner i ≡ true) issues step) in
      let room = in_cycles issues p 2 (λ c. one_cycle b c Memory is_reload (λ i s. subst (λ (z : Option Op). 1 ≤ share_of e.table Memory z)
      (sym (reload_is i s)) (takes_memory e.table given.fit))) t (end - l - t) in
      let is = times_two (end - l - t) in
      omega (arith, h, less, room, is)
    where
      step : (i : Issue) → Member i issues → reloads_after e.table b t i ≡ true
          → (((i.block.0 == b) && is_reload i.instr)
          && (nat_lt t i.cycle && nat_le i.cycle (t + (end - latency_of e.table Reload - t)))) ≡ true
      step i m k =
          let l = latency_of e.table Reload in
          let a = three_of (i.block.0 == b) (is_reload i.instr) (nat_lt t i.cycle && nat_le (i.cycle + l) i.end) k in
          let c = (and_iff (nat_lt t i.cycle) (nat_le (i.cycle + l) i.end)).1 a.2 in
          let lt = (lt_iff t i.cycle).1 c.0 in
          let le = (le_iff (i.cycle + l) i.end).1 c.1 in
          let own = each_member (λ (i : Issue). i.block.0 ≡ b → i.end ≡ end) issues i ends m (eqb-true i.block.0 b a.0) in
          (and_iff ((i.block.0 == b) && is_reload i.instr) (nat_lt t i.cycle && nat_le i.cycle (t + (end - l - t)))).0 (
            (and_iff (i.block.0 == b) (is_reload i.instr)).0 (a.0, a.1),
            (and_iff (nat_lt t i.cycle) (nat_le i.cycle (t + (end - l - t)))).0 (
              c.0,
              (le_iff i.cycle (t + (end - l - t))).0 (omega (arith, le, lt, own)),
            ),
          )
