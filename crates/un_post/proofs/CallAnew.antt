-- What an operation behind a call reads in a register that the call clobbers, and that is not the call's own result, is defined after
-- the call.
use Rattle.std.proofs.Common.{ℕ, zero, suc, ◌≡◌, ◌+◌, ◌<◌, ◌≤◌, Bool, true, false, List, [], ◌∷◌, inl, inr, refl, sym, ap, ◌∙◌, subst}
use Rattle.std.proofs.Common.{arith, eq-eqb}
use Rattle.std.specs.Prelude.{Option, Some, None, IfSome, not, ◌&&◌, ◌||◌, ◌==◌, nat_eq, nat_le, nat_lt, is_some, slice_get, if◌then◌else◌}
use Rattle.std.specs.List.{list_any}
use Rattle.std.proofs.lemmas.Bool.Decides.{nat_tests}
use Rattle.std.proofs.lemmas.Bool.{cases_lt, or_parts}
use Rattle.un_base.specs.declared.ids.TempId.{TempId}
use Rattle.un_isa.specs.Does.{is_compare}
use Rattle.un_isa.specs.Fit.{IsFit}
use Rattle.un_isa.specs.Tables.{in_mask}
use Rattle.un_isa.specs.declared.op.Op.{Op}
use Rattle.un_isa.specs.declared.op.Op.TheVariants.{Jump as JumpOp, JumpIf, JumpIfNot, Jumpr, Enter as EnterOp, Leave as LeaveOp}
use Rattle.un_isa.specs.declared.reg.Reg.{Reg}
use Rattle.un_isa.specs.declared.reg.Space.{Space}
use Rattle.un_isa.specs.declared.reg.Space.TheVariants.{R, P, M}
use Rattle.un_isa.specs.declared.reg.TheConstants.{REGISTERS}
use Rattle.un_isa.specs.declared.table.Table.{Table}
use Rattle.un_isa.proofs.DoesLaws.{call_is}
use Rattle.un_ir.specs.declared.function.SrcOp.{SrcOp}
use Rattle.un_ir.specs.declared.function.Term.TheVariants.{Fall, Jump, Branch, Ret}
use Rattle.un_ir.specs.declared.extended.ExtKind.{ExtKind}
use Rattle.un_ir.specs.declared.extended.ExtKind.TheVariants.{In, Out, Body, End, Copy, Enter, Leave}
use Rattle.un_ir.specs.declared.extended.Operand.{Operand}
use Rattle.un_ir.specs.declared.extended.Ext.{Ext}
use Rattle.un_ir.specs.Extended.{Want, wants_of, temp}
use Rattle.un_ir.specs.Linear.{first_of}
use Rattle.un_model.specs.declared.model.Options.{Options}
use Rattle.un_model.specs.declared.schedule.Issue.{Issue}
use Rattle.un_model.specs.declared.schedule.LiveRange.{LiveRange}
use Rattle.un_ir.specs.Kinds.{is_mandatory, is_delimiter, is_call_kind}
use Rattle.un_model.proofs.Gaps.{gap_least, gap_whole, gap_of_copy, no_compare, latency_some}
use Rattle.un_model.specs.Instructions.{instruction_of, frame_instr, latency_by, space_read, is_predicate_space}
use Rattle.un_model.specs.Schedules.{schedule_of, issues_of, value_by}
use Rattle.un_model.specs.Solutions.{IsSchedule, latency_gap, least_wait, InDomain, InSpace, HasHome, SparesRange, IsSpared}
use Rattle.un_model.specs.Variables.{model_of, register_domain, source_domain, carried}
use Rattle.un_lists.proofs.Lists.{Member, each_member, member_map}
use Rattle.un_model.proofs.OpDomains.{in_entry, register_sits}
use Rattle.un_model.proofs.Placed.{Placed, Region, region_placed, vars_of, issue_at, Spot, all_count, at_number}
use Rattle.un_model.proofs.PlacedSchedules.{all, spots, spot_range, range_at, range_here}
use Rattle.un_model.proofs.Readings.{Solved, Reading, reading, fit_kinds, numbered as solved_numbered}
use Rattle.un_model.proofs.TempKinds.{carried_at, carried_is}
use Rattle.un_sites.specs.CallBefores.{is_clobbered_home, reads_clobbered, is_home, reads_reply, reads_anew}
use Rattle.un_sites.specs.CallBefores.{is_comparison, compares, reads_compared}
use Rattle.un_post.proofs.Blocks.{blocks, in_all, region_places, stands_in}
use Rattle.un_post.proofs.Facts.{Given, falls, in_domains, definer_is, reader_goes, Reading as Asking, reading as asked_of}
use Rattle.un_post.proofs.Memory.{contains_member}
use Rattle.un_post.proofs.Placing.{place_of}
use Rattle.un_model.proofs.Regions.{of_region}
use Rattle.un_post.proofs.SpaceSets.{predicate}
use Rattle.un_post.proofs.Spared.{call_instr, is_spared, range_spared}
use Rattle.un_post.proofs.Tests.{and_iff, le_iff, lt_iff}
use Rattle.un_post.proofs.Whole.{issues_each, ranges_each}

-- ---- lists

any_at : {X : Type 0} (p : X → Bool) (xs : List X) (k : ℕ) (y : X) → slice_get xs k ≡ Some y → p y ≡ true → list_any p xs ≡ true
any_at p [] k y e t = absurd (cc e)
any_at p (x ∷ xs) zero y e t = let same : x ≡ y = cc e in ap (λ (b : Bool). b || list_any p xs) (ap p same ∙ t)
any_at p (x ∷ xs) (suc k) y e t = by (p x) (any_at p xs k y e t)
  where
    by : (b : Bool) → list_any p xs ≡ true → (b || list_any p xs) ≡ true
    by true h = refl
    by false h = h

-- where none passes, no element does
none_at : {X : Type 0} (p : X → Bool) (xs : List X) (y : X) → Member y xs → list_any p xs ≡ false → p y ≡ false
none_at p [] y m h = elim m [ ]
none_at p (x ∷ xs) y (inl e) h = ap p (sym e) ∙ (or_parts (p x) (list_any p xs) h).0
none_at p (x ∷ xs) y (inr m) h = none_at p xs y m (or_parts (p x) (list_any p xs) h).1

left_false : (a b : Bool) → b ≡ true → (a && b) ≡ false → a ≡ false
left_false false b t h = refl
left_false true b t h = absurd (cc (sym t ∙ h))

-- ---- registers that calls clobber

predicate_is : (s : Option Space) → is_predicate_space s ≡ true → s ≡ Some P
predicate_is (Some P) h = refl
predicate_is None h = absurd (cc h)
predicate_is (Some R) h = absurd (cc h)
predicate_is (Some M) h = absurd (cc h)

-- a register is one that calls clobber and, where it is that of their results, a home
record Clobbered (t : Table) (reg : ℕ) (home : Option Reg) : Type 0 where
  mask : in_mask t.clobbered reg ≡ true
  reply : reg ≡ t.result → is_home t.result home ≡ true

module _ (t : Table) (fit : IsFit t) where
  -- no predicate register is saved
  not_saved : (r : ℕ) → 32 ≤ r → r < REGISTERS → not (in_mask t.saved r) ≡ true
  not_saved r lo hi = by (in_mask t.saved r) refl
    where
      by : (b : Bool) → in_mask t.saved r ≡ b → not b ≡ true
      by false e = refl
      by true e =
          let two = (and_iff (nat_le 6 r) (nat_lt r 29)).1 (fit.saved r hi e) in
          let most = (lt_iff r 29).1 two.1 in absurd (omega arith)

  predicates_clobbered : (r : ℕ) → 32 ≤ r → r < REGISTERS → in_mask t.clobbered r ≡ true
  predicates_clobbered r lo hi =
      let a : nat_lt r 16 ≡ false = grind (arith, nat_tests, lo) in
      let b : nat_eq r 28 ≡ false = grind (arith, nat_tests, lo) in
      let c : nat_eq r 31 ≡ false = grind (arith, nat_tests, lo) in
      let d : nat_le 32 r ≡ true = (le_iff 32 r).0 lo in
      let s = not_saved r lo hi in
      fit.clobbered r hi ∙ rw (a, b, c, d, s) refl

  at_home : (reg : ℕ) (home : Option Reg) → is_clobbered_home t.clobbered home ≡ true → IfSome home (λ (r : Reg). reg ≡ r.0)
      → Clobbered t reg home
  at_home reg None h s = absurd (cc h)
  at_home reg (Some r) h s = record {
    mask = subst (λ n. in_mask t.clobbered n ≡ true) (sym s) h;
    reply = λ same. eq-eqb r.0 t.result (sym s ∙ same);
  }

  clobbered : (kind : ExtKind) (j : ℕ) (operand : Operand) (reg : ℕ) → reads_clobbered t.clobbered kind j operand ≡ true
      → InSpace reg (space_read (instruction_of kind 0) j) → IfSome operand.home (λ (r : Reg). reg ≡ r.0) → Clobbered t reg operand.home
  clobbered kind j operand reg h space home = by (is_predicate_space (space_read (instruction_of kind 0) j)) refl h
    where
      by : (b : Bool) → is_predicate_space (space_read (instruction_of kind 0) j) ≡ b
          → (b || is_clobbered_home t.clobbered operand.home) ≡ true → Clobbered t reg operand.home
      by true e k =
          let s = subst (InSpace reg) (predicate_is (space_read (instruction_of kind 0) j) e) space in
          let range = (predicate reg).0 s in
          let lo = range.0 in
          let hi = range.1 in
          let z = fit.result in
          record { mask = predicates_clobbered reg lo (omega arith); reply = λ same. absurd (omega arith) }
      by false e k = at_home reg operand.home k home

-- ---- mandatory operations

own_instruction : (k : ExtKind) (n : ℕ) → is_mandatory k ≡ true → instruction_of k n ≡ instruction_of k 0
own_instruction In n h = refl
own_instruction Out n h = refl
own_instruction (Body o) n h = refl
own_instruction (End term) n h = refl
own_instruction (Copy node) n h = absurd (cc h)
own_instruction Enter n h = absurd (cc h)
own_instruction Leave n h = absurd (cc h)

always_active : (k : ExtKind) (n : ℕ) → is_mandatory k ≡ true → falls k ≡ false → (is_delimiter k || is_some (instruction_of k n)) ≡ true
always_active In n h f = refl
always_active Out n h f = refl
always_active (Body o) n h f = refl
always_active (End Fall) n h f = absurd (cc f)
always_active (End (Jump to)) n h f = refl
always_active (End (Branch pred true to)) n h f = refl
always_active (End (Branch pred false to)) n h f = refl
always_active (End (Ret value)) n h f = refl
always_active (Copy node) n h f = absurd (cc h)
always_active Enter n h f = absurd (cc h)
always_active Leave n h f = absurd (cc h)

-- ---- what is waited for

frame_waits : (t : Table) (op : Op) (n : ℕ) → is_compare op ≡ false → (user : Option Op)
    → latency_gap t (frame_instr op n) user ≡ latency_by t (frame_instr op n)
frame_waits t op n h user = by (n == 0)
  where
    by : (b : Bool) → latency_gap t (if b then None else Some op) user ≡ latency_by t (if b then None else Some op)
    by true = refl
    by false = gap_whole t (Some op) user (no_compare t (Some op) user h)

-- what is no comparison is waited for as long as its latency says
waits_whole : (t : Table) (kind : ExtKind) (n : ℕ) → is_comparison kind ≡ false → (user : Option Op)
    → latency_gap t (instruction_of kind n) user ≡ latency_by t (instruction_of kind n)
waits_whole t In n h user = refl
waits_whole t Out n h user = refl
waits_whole t (Body o) n h user = gap_whole t (Some o.op) user (no_compare t (Some o.op) user h)
waits_whole t (End Fall) n h user = refl
waits_whole t (End (Jump to)) n h user = gap_whole t (Some JumpOp) user (no_compare t (Some JumpOp) user refl)
waits_whole t (End (Branch pred true to)) n h user = gap_whole t (Some JumpIf) user (no_compare t (Some JumpIf) user refl)
waits_whole t (End (Branch pred false to)) n h user = gap_whole t (Some JumpIfNot) user (no_compare t (Some JumpIfNot) user refl)
waits_whole t (End (Ret value)) n h user = gap_whole t (Some Jumpr) user (no_compare t (Some Jumpr) user refl)
waits_whole t (Copy node) n h user = gap_of_copy t n user
waits_whole t Enter n h user = frame_waits t EnterOp n refl user
waits_whole t Leave n h user = frame_waits t LeaveOp n refl user

-- ---- calls

call_carries : (k : ExtKind) (s : Spot) → is_call_kind k ≡ true → carried_at k s ≡ s.temp
call_carries (Body o) s h = refl
call_carries In s h = absurd (cc h)
call_carries Out s h = absurd (cc h)
call_carries (End term) s h = absurd (cc h)
call_carries (Copy node) s h = absurd (cc h)
call_carries Enter s h = absurd (cc h)
call_carries Leave s h = absurd (cc h)

module _ (e : Ext) (o : Options) (x : List ℕ) (given : Given e o x)
    (schedule : IsSchedule (latency_gap e.table) (model_of e o).domains (model_of e o) x (schedule_of (model_of e o) x)) where
  abbrev solved : Solved e o x
  solved = record { extended = given.extended; fit = given.fit; options = given.options; schedule = schedule }

  -- what a call gives is in the register of results
  module _ (s : Spot) (m : Member s (spots e o x)) where
    abbrev maker : Placed
    maker = s.definer

    abbrev reg : ℕ
    reg = (spot_range e o x s).reg

    sits : InDomain reg (register_domain e o (in_entry e o x maker) maker.owner maker.op.kind s.place s.temp (carried maker.op s.temp))
    sits =
        let d = definer_is e o x given s m in
        register_sits e o x (in_entry e o x maker) maker s.place s.temp (in_domains e o x given maker d.0) d.1

    result_register : is_call_kind maker.op.kind ≡ true → reg ≡ (e.table).result
    result_register call = by maker.op.kind refl call
      where
        by : (kind : ExtKind) → maker.op.kind ≡ kind → is_call_kind kind ≡ true → reg ≡ (e.table).result
        by (Body so) k c =
            let here = subst (λ (k : ExtKind). InDomain reg (register_domain e o (in_entry e o x maker) maker.owner k s.place s.temp
            (carried maker.op s.temp))) k sits in
            let own = subst (λ (op : Op). InDomain reg (source_domain e o (in_entry e o x maker) maker.owner op s.temp))
            (call_is so.op c) here in
            let is = contains_member ((e.table).result ∷ []) reg own in
            elim is [ inl same ↦ sym same | inr none ↦ elim none [ ] ]
        by In k c = absurd (cc c)
        by Out k c = absurd (cc c)
        by (End term) k c = absurd (cc c)
        by (Copy node) k c = absurd (cc c)
        by Enter k c = absurd (cc c)
        by Leave k c = absurd (cc c)

  -- what an operand reads, where it is defined after a call: it waits for that, and for a cycle where no comparison of its block gives it
  pub record Rewritten (r : Region) (c q : Placed) (operand : Operand) : Type 0 where
    pub spot : Spot
    pub member : Member spot (spots e o x)
    pub block : spot.definer.block ≡ q.block
    pub active : (spot_range e o x spot).active ≡ true
    pub home : HasHome operand.home (spot_range e o x spot)
    pub late : (issue_at x c).cycle + 1 ≤ (issue_at x spot.definer).cycle
    pub early : (issue_at x spot.definer).cycle + least_wait e.table (instruction_of q.op.kind 0) ≤ (issue_at x q).cycle
    pub plain : ((j : ℕ) → reads_compared (region_places r) j operand ≡ false) → (issue_at x spot.definer).cycle + 1 ≤ (issue_at x q).cycle

  module _ (r : Region) (mr : Member r (blocks e o x)) (c q : Placed) (mc : Member c (region_placed r)) (mq : Member q (region_placed r))
      (call : is_call_kind c.op.kind ≡ true) (behind : (issue_at x c).cycle + 1 ≤ (issue_at x q).cycle)
      (mandatory : is_mandatory q.op.kind ≡ true) (j : ℕ) (operand : Operand) (at : slice_get q.op.operands j ≡ Some operand)
      (anew : reads_anew e.table (place_of c) q.op.kind j operand ≡ true) where
    q_in : Member q (all e o x)
    q_in = in_all e o x r q mr mq

    two : (reads_clobbered (e.table).clobbered q.op.kind j operand ≡ true)
        × (not (reads_reply (e.table).result (place_of c) operand) ≡ true)
    two = (and_iff (reads_clobbered (e.table).clobbered q.op.kind j operand) (not (reads_reply (e.table).result (place_of c) operand))).1
        anew

    module _ (asked : Asking e o x given q j operand) (want : Want)
        (wants : slice_get (wants_of e.table e.names e.blocks q.owner q.op.kind q.op) j ≡ Some want)
        (rd : Reading e o x solved q j operand want) where
      abbrev s : Spot
      s = rd.spot

      abbrev h : LiveRange
      h = spot_range e o x s

      range : range_at e o x s.temp.0 ≡ h
      range = range_here e o x (solved_numbered e o x solved) s rd.member

      active : h.active ≡ true
      active = subst (λ (v : LiveRange). v.active ≡ true) range rd.active

      home : HasHome operand.home h
      home =
          let fits = asked.fits in
          let same : Some asked.want ≡ Some want = sym asked.wants ∙ wants in
          let one : asked.want ≡ want = cc same in
          let is : operand.home ≡ want.home = fits.home ∙ ap (λ (w : Want). w.home) one in
          subst (λ (r : Option Reg). HasHome r h) (sym is) (subst (λ (v : LiveRange). HasHome want.home v) range rd.home)

      space : InSpace h.reg (space_read (instruction_of q.op.kind 0) j)
      space =
          let v = vars_of q in
          subst (λ (i : Option Op). InSpace h.reg (space_read i j)) (own_instruction q.op.kind (value_by x v.instr) mandatory)
          (subst (λ (v : LiveRange). InSpace v.reg (space_read (issue_at x q).instr j)) range rd.space)

      there : Clobbered e.table h.reg operand.home
      there = clobbered e.table given.fit q.op.kind j operand h.reg two.0 space home

      -- the call's own result would be read where the call gives it
      own : s.definer ≡ c → ⊥
      own is =
          let kind : is_call_kind s.definer.op.kind ≡ true = ap (λ (p : Placed). is_call_kind p.op.kind) is ∙ call in
          let value : s.temp ≡ temp (first_of operand.alts) =
          sym (call_carries s.definer.op.kind s kind)
          ∙ sym (carried_is e o x (solved_numbered e o x solved) (fit_kinds e o x solved) s rd.member) ∙ rd.value in
          let place = (definer_is e o x given s rd.member).1 in
          let listed : slice_get c.op.results s.place ≡ Some s.temp =
          sym (ap (λ (p : Placed). slice_get p.op.results s.place) is) ∙ place in
          let some = any_at (λ (y : TempId). y.0 == first_of operand.alts) c.op.results s.place s.temp listed
          (eq-eqb s.temp.0 (first_of operand.alts) (ap (λ (t : TempId). t.0) value)) in
          let at_home = there.reply (result_register s rd.member kind) in
          let reply : reads_reply (e.table).result (place_of c) operand ≡ true =
          (and_iff (list_any (λ (y : TempId). y.0 == first_of operand.alts) c.op.results)
          (is_home (e.table).result operand.home)).0 (some, at_home) in
          let no : true ≡ false = sym two.1 ∙ ap not reply in
          cc no

      other : c.number ≡ s.definer.number → ⊥
      other same =
          let d = definer_is e o x given s rd.member in
          let c_in = in_all e o x r c mr mc in
          let a = at_number 0 (all e o x) s.definer c.number (all_count 0 0 0 e.blocks) d.0 (sym same ∙ omega arith) in
          let b = at_number 0 (all e o x) c c.number (all_count 0 0 0 e.blocks) c_in (omega arith) in
          let one : Some s.definer ≡ Some c = sym a ∙ b in
          own (cc one)

      spared : SparesRange (e.table).clobbered (issue_at x c) h
      spared =
          let registers = schedule.registers in
          let mask = (e.table).clobbered in
          let issues = issues_of (model_of e o) x in
          let each = (ranges_each e o x given (IsSpared mask issues)).0 registers.1 in
          let mine = (is_spared mask issues h).1 (each_member _ (spots e o x) s each rd.member) in
          each_member _ (all e o x) c ((issues_each e o x given (λ (i : Issue). SparesRange mask i h)).0 mine) (in_all e o x r c mr mc)

      apart : (h.from ≤ (issue_at x c).cycle) × ((issue_at x c).cycle ≤ h.last) → ⊥
      apart =
          let v = vars_of c in
          let block : c.block ≡ s.definer.block = of_region r c mc ∙ sym (of_region r q mq) ∙ sym rd.block in
          range_spared (e.table).clobbered (issue_at x c) h spared (call_instr c.op.kind (value_by x v.instr) call) block other active
          there.mask

      late : (issue_at x c).cycle + 1 ≤ (issue_at x s.definer).cycle
      late =
          let last : (issue_at x q).cycle ≤ h.last + 1 = subst (λ (v : LiveRange). (issue_at x q).cycle ≤ v.last + 1) range rd.last in
          elim (cases_lt (issue_at x c).cycle h.from) [ inl lt ↦ omega arith | inr le ↦ absurd (apart (le, omega (arith, last, behind))) ]

      early : (issue_at x s.definer).cycle + least_wait e.table (instruction_of q.op.kind 0) ≤ (issue_at x q).cycle
      early =
          let ready : h.from + latency_gap e.table h.instr (issue_at x q).instr ≤ (issue_at x q).cycle =
          subst (λ (v : LiveRange). v.from + latency_gap e.table v.instr (issue_at x q).instr ≤ (issue_at x q).cycle) range rd.ready in
          let least = gap_least e.table given.fit h.instr (issue_at x q).instr in
          let v = vars_of q in
          let own : least_wait e.table (issue_at x q).instr ≡ least_wait e.table (instruction_of q.op.kind 0) =
          ap (least_wait e.table) (own_instruction q.op.kind (value_by x v.instr) mandatory) in
          omega (arith, ready, least, own)

      here : Member s.definer (region_placed r)
      here = stands_in e o x r s.definer mr (definer_is e o x given s rd.member).0 (rd.block ∙ of_region r q mq)

      -- what a comparison gives is what the operand reads
      given_by : (so : SrcOp) → s.definer.op.kind ≡ Body so → list_any (λ (y : TempId). y.0 == first_of operand.alts) s.definer.op.results
          ≡ true
      given_by so k =
          let value : s.temp ≡ temp (first_of operand.alts) =
          sym (ap (λ (kind : ExtKind). carried_at kind s) k)
          ∙ sym (carried_is e o x (solved_numbered e o x solved) (fit_kinds e o x solved) s rd.member) ∙ rd.value in
          any_at (λ (y : TempId). y.0 == first_of operand.alts) s.definer.op.results s.place s.temp
          (definer_is e o x given s rd.member).1 (eq-eqb s.temp.0 (first_of operand.alts) (ap (λ (t : TempId). t.0) value))

      -- so what gives it is no comparison, where none of the block gives it
      no_comparison : reads_compared (region_places r) 0 operand ≡ false → is_comparison s.definer.op.kind ≡ false
      no_comparison none = by s.definer.op.kind refl
        where
          no : compares operand (place_of s.definer) ≡ false
          no = none_at (compares operand) (region_places r) (place_of s.definer) (member_map place_of (region_placed r) s.definer here) none

          by : (kind : ExtKind) → s.definer.op.kind ≡ kind → is_comparison s.definer.op.kind ≡ false
          by (Body so) k = left_false (is_comparison s.definer.op.kind)
              (list_any (λ (y : TempId). y.0 == first_of operand.alts) s.definer.op.results) (given_by so k) no
          by In k = ap is_comparison k
          by Out k = ap is_comparison k
          by (End term) k = ap is_comparison k
          by (Copy node) k = ap is_comparison k
          by Enter k = ap is_comparison k
          by Leave k = ap is_comparison k

      plain : ((j : ℕ) → reads_compared (region_places r) j operand ≡ false) → (issue_at x s.definer).cycle + 1 ≤ (issue_at x q).cycle
      plain none =
          let ready : h.from + latency_gap e.table h.instr (issue_at x q).instr ≤ (issue_at x q).cycle =
          subst (λ (v : LiveRange). v.from + latency_gap e.table v.instr (issue_at x q).instr ≤ (issue_at x q).cycle) range rd.ready in
          let v = vars_of s.definer in
          let whole = waits_whole e.table s.definer.op.kind (value_by x v.instr) (no_comparison (none 0)) (issue_at x q).instr in
          let some = latency_some e.table given.fit h.instr in
          omega (arith, ready, whole, some)

      found : Rewritten r c q operand
      found = record {
        spot = s;
        member = rd.member;
        block = rd.block;
        active = active;
        home = home;
        late = late;
        early = early;
        plain = plain;
      }

    pub rewritten : Rewritten r c q operand
    rewritten =
        let asked = asked_of e o x given q j operand q_in at in
        let v = vars_of q in
        let act = always_active q.op.kind (value_by x v.instr) mandatory (reader_goes e o x given q j operand asked) in
        let read = reading e o x solved q j operand q_in act at in
        found asked read.0 read.1 read.2
