-- A solution keeps the arcs: what is before a call and behind it, whatever the cycles, is so in its cycles. So each solution meets
-- what is posted of calls.
use Rattle.std.proofs.Common.{ℕ, zero, suc, ◌≡◌, ◌+◌, ◌<◌, ◌≤◌, ◌⊎◌, Bool, true, false, List, [], ◌∷◌, length, fold, inl, inr, refl, sym}
use Rattle.std.proofs.Common.{ap, ◌∙◌, subst, arith, Contains, eq-eqb}
use Rattle.std.specs.Prelude.{Option, Some, None, IfSome, not, ◌&&◌, ◌||◌, ◌==◌, nat_eq, nat_lt, slice_get, slice_index}
use Rattle.std.specs.Prelude.{sum_by, if◌then◌else◌}
use Rattle.std.proofs.lemmas.Bool.Decides.{nat_tests}
use Rattle.un_isa.specs.Fit.{IsFit}
use Rattle.un_isa.specs.declared.op.Op.{Op}
use Rattle.un_isa.specs.declared.op.Op.TheVariants.{Call, Load, Store}
use Rattle.un_isa.specs.declared.table.Table.{Table}
use Rattle.un_isa.specs.Does.{is_transfer}
use Rattle.un_ir.specs.declared.function.Term.{Term}
use Rattle.un_ir.specs.declared.function.Term.TheVariants.{Fall, Jump, Branch, Ret}
use Rattle.un_ir.specs.Linear.{is_in, is_out}
use Rattle.un_ir.specs.declared.extended.ExtKind.{ExtKind}
use Rattle.un_ir.specs.declared.extended.ExtKind.TheVariants.{In, Out, Body, End, Copy, Enter, Leave}
use Rattle.un_ir.specs.declared.extended.ExtBlock.{ExtBlock}
use Rattle.un_ir.specs.declared.extended.ExtOp.{ExtOp}
use Rattle.un_ir.specs.declared.extended.Ext.{Ext}
use Rattle.un_domains.specs.Sets.{has}
use Rattle.un_model.specs.declared.model.Arc.{Arc}
use Rattle.un_model.specs.declared.model.Options.{Options}
use Rattle.un_model.specs.declared.model.TempVars.{TempVars}
use Rattle.un_base.specs.declared.ids.VarId.{VarId}
use Rattle.un_model.specs.declared.model.OpVars.{OpVars}
use Rattle.un_model.specs.declared.schedule.Issue.{Issue}
use Rattle.un_isa.specs.declared.packet_counts.Resource.TheVariants.{Control}
use Rattle.un_isa.specs.PacketCounts.{places_of}
use Rattle.un_model.specs.ArcLaws.{arc_told}
use Rattle.un_model.specs.Arcs.{reads_from, own_instr, NeedsGap, block_arcs, blocks_arcs}
use Rattle.un_model.specs.Arcs.NeedsGap.{ByData, ByMemory}
use Rattle.un_model.proofs.Gaps.{gap_whole, no_compare, latency_some}
use Rattle.un_model.specs.Instructions.{instruction_of, transfer_of}
use Rattle.un_model.specs.Schedules.{schedule_of, issues_of, value_by, cycle_by}
use Rattle.un_model.specs.Solutions.{IsSchedule, IsPlaced, IsPlacedAs, latency_gap, after_write, memory_distance}
use Rattle.un_model.specs.Variables.{model_of, arcs_of, blocks_temps, block_count, ops_count, var_at}
use Rattle.un_model.proofs.ArcsKept.{KeepsArc, arcs_kept}
use Rattle.un_lists.proofs.Lists.{Member, each_member, any_of, member_map_of, index_get, place_of as position_of}
use Rattle.un_model.proofs.Operations.{placed_is}
use Rattle.un_model.proofs.Placed.{Placed, Region, region_placed, vars_of, issue_at}
use Rattle.un_model.proofs.PlacedSchedules.{all, issue_here, each_issue}
use Rattle.un_kinds.specs.Constraints.{AllMet}
use Rattle.un_ir.specs.Kinds.{is_call_kind, is_source, ends_block}
use Rattle.un_sites.specs.Crossings.{has_follower, is_after}
use Rattle.un_sites.specs.Places.{Place}
use Rattle.un_sites.specs.Rooms.{led_by, reached, waits_by, waiting, is_before, arcs_or, clobbers_of}
use Rattle.un_post.proofs.Blocks.{blocks, region_places, in_all, past, region_close}
use Rattle.un_post.proofs.CallEnds.{transfer_last, end_after}
use Rattle.un_post.proofs.Facts.{Given}
use Rattle.un_post.proofs.Placing.{place_of}
use Rattle.un_post.proofs.Packets.{no_room, share, sum_part, whole_taken}
use Rattle.un_model.proofs.Regions.{regions, out_is}
use Rattle.un_post.proofs.Spared.{Ordered, spared, call_instr}
use Rattle.un_post.proofs.Tests.{and_iff}

member_contains : {X : Type 0} (xs : List X) (x : X) → Member x xs → Contains xs x
member_contains xs x m = let r = position_of xs x m in (r.0, r.1, index_get xs r.0 x x r.2)

-- ---- what is reached

-- what holds of the numbers that are reached, and is handed on by arcs, holds of all that they lead to
leads : (P : ℕ → Type 0) (arcs : List Arc) (from : List ℕ) → ((a : Arc) → Member a arcs → P a.from.0 → P a.to.0)
    → ((n : ℕ) → has from n ≡ true → P n) → (n : ℕ) → has (fold led_by from arcs) n ≡ true → P n
leads P [] from step start n h = start n h
leads P (a ∷ arcs) from step start n h =
    leads P arcs (led_by from a) (λ b m. step b (inr m)) (λ k there. by (has from a.from.0) refl k there) n h
  where
    by : (t : Bool) → has from a.from.0 ≡ t → (k : ℕ) → has (if has from a.from.0 then a.to.0 ∷ from else from) k ≡ true → P k
    by false e k there = start k (subst (λ (t : Bool). has (if t then a.to.0 ∷ from else from) k ≡ true) e there)
    by true e k there = last (nat_eq k a.to.0) refl (subst (λ (t : Bool). has (if t then a.to.0 ∷ from else from) k ≡ true) e there)
      where
        last : (t : Bool) → nat_eq k a.to.0 ≡ t → (nat_eq k a.to.0 || has from k) ≡ true → P k
        last true same there = let is : a.to.0 ≡ k = grind (arith, nat_tests, same) in subst P is (step a (inl refl) (start a.from.0 e))
        last false same there = start k (subst (λ (t : Bool). (t || has from k) ≡ true) same there)

-- what is known of what is reached, and is by a gap known of what waits, is known of all that waits
waits : (P Q : ℕ → Type 0) (near : List ℕ) (arcs : List Arc) (from : List ℕ)
    → ((a : Arc) → Member a arcs → Q a.from.0 → Q a.to.0) → ((a : Arc) → Member a arcs → 0 < a.gap → P a.from.0 → Q a.to.0)
    → ((n : ℕ) → has near n ≡ true → P n) → ((n : ℕ) → has from n ≡ true → Q n)
    → (n : ℕ) → has (fold (waits_by near) from arcs) n ≡ true → Q n
waits P Q near [] from on begin reached start n h = start n h
waits P Q near (a ∷ arcs) from on begin reached start n h =
    waits P Q near arcs (waits_by near from a) (λ b m. on b (inr m)) (λ b m. begin b (inr m)) reached
    (λ k there. by (has from a.from.0 || (nat_lt 0 a.gap && has near a.from.0)) refl k there) n h
  where
    led : (has from a.from.0 || (nat_lt 0 a.gap && has near a.from.0)) ≡ true → Q a.to.0
    led e = two (has from a.from.0) refl e
      where
        two : (t : Bool) → has from a.from.0 ≡ t → (t || (nat_lt 0 a.gap && has near a.from.0)) ≡ true → Q a.to.0
        two true same e = on a (inl refl) (start a.from.0 same)
        two false same e =
            let both = (and_iff (nat_lt 0 a.gap) (has near a.from.0)).1 e in
            begin a (inl refl) (let t = both.0 in grind (arith, nat_tests, t)) (reached a.from.0 both.1)

    by : (t : Bool) → (has from a.from.0 || (nat_lt 0 a.gap && has near a.from.0)) ≡ t → (k : ℕ)
        → has (if has from a.from.0 || (nat_lt 0 a.gap && has near a.from.0) then a.to.0 ∷ from else from) k ≡ true → Q k
    by false e k there = start k (subst (λ (t : Bool). has (if t then a.to.0 ∷ from else from) k ≡ true) e there)
    by true e k there = last (nat_eq k a.to.0) refl (subst (λ (t : Bool). has (if t then a.to.0 ∷ from else from) k ≡ true) e there)
      where
        last : (t : Bool) → nat_eq k a.to.0 ≡ t → (nat_eq k a.to.0 || has from k) ≡ true → Q k
        last true same there = let is : a.to.0 ≡ k = grind (arith, nat_tests, same) in subst Q is (led e)
        last false same there = start k (subst (λ (t : Bool). (t || has from k) ≡ true) same there)

-- ---- the arcs of a block

pub arcs_here : (t : Table) (temps : List TempVars) (b n first k : ℕ) (blocks : List ExtBlock) (r : Region)
    → Member r (regions b n first blocks) → r.block ≡ b + k
    → (let owner = r.owner in slice_get (blocks_arcs t temps n blocks) k ≡ Some (block_arcs t temps r.number owner.ops))
arcs_here t temps b n first k [] r m e = elim m [ ]
arcs_here t temps b n first zero (c ∷ cs) r (inl h) e = ap (λ (r : Region). let owner = r.owner in
    Some (block_arcs t temps r.number owner.ops)) h
arcs_here t temps b n first (suc k) (c ∷ cs) r (inl h) e = let s : b ≡ r.block = ap (λ (r : Region). r.block) h in absurd (omega arith)
arcs_here t temps b n first zero (c ∷ cs) r (inr m) e =
    let le = each_member (λ (r : Region). b + 1 ≤ r.block) _ r (past (b + 1) (n + length c.ops) (first + block_count c) cs) m in
    absurd (omega arith)
arcs_here t temps b n first (suc k) (c ∷ cs) r (inr m) e = arcs_here t temps (b + 1) (n + length c.ops) (first + block_count c) k cs r m
    (omega arith)

write_gap : (i : Option Op) (g : ℕ) → after_write i ≡ Some g → 1 ≤ g
write_gap None g h = absurd (cc h)
write_gap (Some Load) g h = let e : 1 ≡ g = cc h in omega arith
write_gap (Some Store) g h = let e : 1 ≡ g = cc h in omega arith
write_gap (Some Call) g h = let e : 1 ≡ g = cc h in omega arith
write_gap (Some op) g h = absurd (cc h)

some_gap : (a b : ℕ) → Some a ≡ Some b → a ≡ b
some_gap a b h = cc h

-- no user of what a call gives, nor a later access to memory, issues in its cycle
call_gap : (t : Table) → IsFit t → (reads : Bool) (from to : ExtOp) (gap : ℕ) → own_instr from ≡ Some Call → NeedsGap t reads from to gap
    → 1 ≤ gap
call_gap t fit true from to gap call (ByData h) =
    let to_instr = own_instr to in
    let whole = gap_whole t (Some Call) to_instr (no_compare t (Some Call) to_instr refl) in
    let lo = latency_some t fit (Some Call) in
    let same = ap (λ (i : Option Op). latency_gap t i to_instr) call in
    let e = some_gap (latency_gap t (own_instr from) (own_instr to)) gap h in
    omega arith
call_gap t fit false from to gap call (ByData h) = absurd (cc h)
call_gap t fit reads from to gap call (ByMemory h) =
    write_gap (own_instr to) gap (ap (λ (i : Option Op). memory_distance i (own_instr to)) (sym call) ∙ h)

pub start_cycle : (kind : ExtKind) (values : List ℕ) (end : ℕ) (vars : OpVars) → is_in kind ≡ true → cycle_by values end kind vars ≡ 0
start_cycle In values end vars h = refl
start_cycle Out values end vars h = absurd (cc h)
start_cycle (Body so) values end vars h = absurd (cc h)
start_cycle (End term) values end vars h = absurd (cc h)
start_cycle (Copy node) values end vars h = absurd (cc h)
start_cycle Enter values end vars h = absurd (cc h)
start_cycle Leave values end vars h = absurd (cc h)

module _ (e : Ext) (o : Options) (x : List ℕ) (given : Given e o x)
    (schedule : IsSchedule (latency_gap e.table) (model_of e o).domains (model_of e o) x (schedule_of (model_of e o) x)) where
  abbrev temps : List TempVars
  temps = blocks_temps 0 0 e.blocks

  module _ (r : Region) (mr : Member r (blocks e o x)) where
    abbrev arcs : List Arc
    arcs = arcs_or (slice_get (arcs_of e) r.block)

    at : (let owner = r.owner in slice_get (arcs_of e) r.block ≡ Some (block_arcs e.table temps r.number owner.ops))
    at = arcs_here e.table temps 0 0 0 r.block e.blocks r mr (omega arith)

    arcs_are : (let owner = r.owner in arcs ≡ block_arcs e.table temps r.number owner.ops)
    arcs_are = ap arcs_or at

    pub kept : (a : Arc) → Member a arcs → KeepsArc (issues_of (model_of e o) x) a
    kept a m =
        let owner = r.owner in
        arcs_kept (model_of e o) (record { values = x }) refl given.extended given.fit given.options schedule r.block
        (block_arcs e.table temps r.number owner.ops) a at
        (member_contains _ a (subst (Member a) arcs_are m))

    -- the cycle of an operation by its number
    cycle_at : (q : Placed) → Member q (region_placed r) → (i : Issue) → slice_get (issues_of (model_of e o) x) q.number ≡ Some i
        → (issue_at x q).cycle ≡ i.cycle
    cycle_at q m i h =
        let same : Some (issue_at x q) ≡ Some i = sym (issue_here e o x q (in_all e o x r q mr m)) ∙ h in
        ap (λ (j : Option Issue). cycle_or j) same
      where
        cycle_or : Option Issue → ℕ
        cycle_or None = 0
        cycle_or (Some i) = i.cycle

    -- an arc from a call has a gap
    leaves_gap : (c : Placed) (a : Arc) → Member c (region_placed r) → is_call_kind c.op.kind ≡ true → Member a arcs → a.from.0 ≡ c.number
        → 1 ≤ a.gap
    leaves_gap c a mc call ma same =
        let owner = r.owner in
        let is = arc_told e.table temps r.number owner.ops a (member_contains _ a (subst (Member a) arcs_are ma)) in
        let k = position_of (region_placed r) c mc in
        let p = placed_is r.block owner (var_at (r.first + ops_count owner.ops)) r.number r.first k.0 owner.ops c k.2 in
        let n1 = is.numbers.0 in
        let n2 = p.1 in
        let place : is.earlier ≡ k.0 = omega arith in
        let one : Some is.from ≡ Some c.op = sym is.from_at ∙ ap (slice_get owner.ops) place ∙ p.0 in
        let from : is.from ≡ c.op = cc one in
        let instr : own_instr is.from ≡ Some Call = ap own_instr from ∙ call_instr c.op.kind 0 call in
        let gap = is.gap in
        call_gap e.table given.fit (reads_from temps a.from.0 is.to) is.from is.to a.gap instr gap.asked

    -- what operation n is issues no earlier than some cycles after operation d
    abbrev Behind : Placed → ℕ → ℕ → Type 0
    Behind d gap n = (i : Issue) → slice_get (issues_of (model_of e o) x) n ≡ Some i → (issue_at x d).cycle + gap ≤ i.cycle

    -- an operation that another one reaches does not issue before it
    reached_behind : (d : Placed) → Member d (region_placed r) → (n : ℕ) → has (reached arcs d.number) n ≡ true → Behind d 0 n
    reached_behind d md n h =
        leads (Behind d 0) arcs (d.number ∷ []) (λ a ma hp i hi.
        let k = kept a ma in
        let gap = k.kept in
        let from = hp k.earlier k.from_at in
        let same : Some k.later ≡ Some i = sym k.to_at ∙ hi in
        let is : k.later ≡ i = cc same in
        let cycle : k.later.cycle ≡ i.cycle = ap (λ (i : Issue). i.cycle) is in
        omega arith)
        (λ n there i hi.
        let num : d.number ≡ n = first_of d.number n there in
        let c = cycle_at d md i (ap (slice_get (issues_of (model_of e o) x)) num ∙ hi) in
        omega arith)
        n h
      where
        first_of : (a n : ℕ) → (nat_eq n a || false) ≡ true → a ≡ n
        first_of a n h = by (nat_eq n a) refl h
          where
            by : (t : Bool) → nat_eq n a ≡ t → (t || false) ≡ true → a ≡ n
            by true e h = grind (arith, nat_tests, e)
            by false e h = absurd (cc h)

    not_before : (d c : Placed) → Member d (region_placed r) → Member c (region_placed r) → has (reached arcs d.number) c.number ≡ true
        → (issue_at x d).cycle ≤ (issue_at x c).cycle
    not_before d c md mc h =
        let le = reached_behind d md c.number h (issue_at x c) (issue_here e o x c (in_all e o x r c mr mc)) in
        omega (arith, le)

    -- one that waits for it issues after it
    waits_behind : (c q : Placed) → Member c (region_placed r) → Member q (region_placed r) → has (waiting arcs c.number) q.number ≡ true
        → (issue_at x c).cycle + 1 ≤ (issue_at x q).cycle
    waits_behind c q mc mq h =
        waits (Behind c 0) (Behind c 1) (reached arcs c.number) arcs [] (λ a ma hp i hi. over a ma 1 1 (omega arith) hp i hi)
        (λ a ma some hp i hi. over a ma 0 1 (omega (arith, some)) hp i hi) (λ n near. reached_behind c mc n near) (λ n none. absurd (cc none))
        q.number h (issue_at x q) (issue_here e o x q (in_all e o x r q mr mq))
      where
        over : (a : Arc) → Member a arcs → (g m : ℕ) → m ≤ g + a.gap → Behind c g a.from.0 → Behind c m a.to.0
        over a ma g m le hp i hi =
            let k = kept a ma in
            let gap = k.kept in
            let from = hp k.earlier k.from_at in
            let same : Some k.later ≡ Some i = sym k.to_at ∙ hi in
            let is : k.later ≡ i = cc same in
            let cycle : k.later.cycle ≡ i.cycle = ap (λ (i : Issue). i.cycle) is in
            omega (arith, le, gap, from, cycle)

    -- another one that a call reaches issues after it
    later : (c q : Placed) → Member c (region_placed r) → Member q (region_placed r) → is_call_kind c.op.kind ≡ true
        → (q.number ≡ c.number → ⊥) → has (reached arcs c.number) q.number ≡ true → (issue_at x c).cycle + 1 ≤ (issue_at x q).cycle
    later c q mc mq call other h =
        let P = λ (n : ℕ). (i : Issue) → slice_get (issues_of (model_of e o) x) n ≡ Some i
        → ((n ≡ c.number) × ((issue_at x c).cycle ≤ i.cycle)) ⊎ ((issue_at x c).cycle + 1 ≤ i.cycle) in
        let found = leads P arcs (c.number ∷ []) (λ a ma hp i hi.
        let k = kept a ma in
        let gap = k.kept in
        let same : Some k.later ≡ Some i = sym k.to_at ∙ hi in
        let is : k.later ≡ i = cc same in
        let cycle : k.later.cycle ≡ i.cycle = ap (λ (i : Issue). i.cycle) is in
        elim (hp k.earlier k.from_at) [
          | inl own ↦ inr (let one = leaves_gap c a mc call ma own.0 in let le = own.1 in omega arith)
          | inr far ↦ inr (omega arith)
        ])
        (λ n there i hi.
        let num : c.number ≡ n = first_of c.number n there in
        let k = cycle_at c mc i (ap (slice_get (issues_of (model_of e o) x)) num ∙ hi) in
        inl (sym num, omega arith))
        q.number h (issue_at x q) (issue_here e o x q (in_all e o x r q mr mq)) in
        elim found [ inl own ↦ absurd (other own.0) | inr far ↦ far ]
      where
        first_of : (a n : ℕ) → (nat_eq n a || false) ≡ true → a ≡ n
        first_of a n h = by (nat_eq n a) refl h
          where
            by : (t : Bool) → nat_eq n a ≡ t → (t || false) ≡ true → a ≡ n
            by true e h = grind (arith, nat_tests, e)
            by false e h = absurd (cc h)

    -- its operations stand in their places, and its packets have room
    placed : (q : Placed) → Member q (region_placed r) → IsPlaced (issue_at x q)
    placed q mq = let latencies = schedule.latencies in
        each_member (λ q. IsPlaced (issue_at x q)) (all e o x) q (each_issue e o x IsPlaced latencies.0) (in_all e o x r q mr mq)

    room : (c : ℕ) → sum_by (share e o x given Control r.block c) (region_placed r) ≤ places_of Control
    room c =
        let packets = schedule.packets in
        let fits = (no_room e.table (issues_of (model_of e o) x) r.block c).1 (packets r.block c) Control in
        let whole = whole_taken e o x given Control r.block c in
        let part = sum_part (share e o x given Control r.block c) region_placed (blocks e o x) r mr in
        omega arith

    -- a transfer takes the last cycle
    last_cycle : (q : Placed) → Member q (region_placed r) → (op : Op) → (issue_at x q).instr ≡ Some op → is_transfer op ≡ true
        → (issue_at x q).cycle + 1 ≡ (issue_at x q).end
    last_cycle q mq op instr transfer = transfer_last e o x given r placed room q mq op instr transfer

    -- what has issued by an operation's cycle, whatever the cycles are
    pub issued_by : (d c : Placed) → Member d (region_placed r) → Member c (region_placed r)
        → is_before arcs (place_of d) (place_of c) ≡ true → (issue_at x d).cycle ≤ (issue_at x c).cycle
    issued_by d c md mc h = by (is_in d.op.kind) refl h
      where
        by : (t : Bool) → is_in d.op.kind ≡ t → (t || has (reached arcs d.number) c.number) ≡ true
            → (issue_at x d).cycle ≤ (issue_at x c).cycle
        by true k h = let z = start_cycle d.op.kind x (issue_at x d).end (vars_of d) k in omega (arith, z)
        by false k h = not_before d c md mc h

    -- an operation of the source issues before its block's end
    source_inside : (c : Placed) → Member c (region_placed r) → is_source c.op.kind ≡ true → (issue_at x c).cycle < (issue_at x c).end
    source_inside c mc source = by c.op.kind refl source
      where
        by : (kind : ExtKind) → c.op.kind ≡ kind → is_source kind ≡ true → (issue_at x c).cycle < (issue_at x c).end
        by (Body so) k h =
            let v = vars_of c in
            let latencies = schedule.latencies in
            let placed = each_member (λ q. IsPlaced (issue_at x q)) (all e o x) c (each_issue e o x IsPlaced latencies.0)
            (in_all e o x r c mr mc) in
            let instr : (issue_at x c).instr ≡ Some so.op = ap (λ (k : ExtKind). instruction_of k (value_by x v.instr)) k in
            let there = subst (λ (i : Option Op). IfSome i (IsPlacedAs (issue_at x c).cycle (issue_at x c).end)) instr placed in
            there.0.1
        by In k h = absurd (cc h)
        by Out k h = absurd (cc h)
        by (End term) k h = absurd (cc h)
        by (Copy node) k h = absurd (cc h)
        by Enter k h = absurd (cc h)
        by Leave k h = absurd (cc h)

    -- what issues after it, whatever the cycles are
    pub issued_after : (c q : Placed) → Member c (region_placed r) → Member q (region_placed r) → is_source c.op.kind ≡ true
        → is_after arcs (region_places r) (place_of c) (place_of q) ≡ true → (issue_at x c).cycle + 1 ≤ (issue_at x q).cycle
    issued_after c q mc mq source h = by (has_follower arcs (region_places r) (place_of c)) refl h
      where
        same_end : (p : Placed) → Member p (region_placed r) → (issue_at x p).end ≡ (issue_at x q).end
        same_end p mp = ap (λ (v : VarId). slice_index x v.0) (sym (region_close r p mp) ∙ region_close r q mq)

        at_end : q.op.kind ≡ Out → (issue_at x c).cycle + 1 ≤ (issue_at x q).cycle
        at_end k =
            let v = vars_of q in
            let z : (issue_at x q).cycle ≡ (issue_at x q).end = ap (λ (k : ExtKind). cycle_by x (issue_at x q).end k v) k in
            let lt = source_inside c mc source in
            let same = same_end c mc in
            omega (arith, z, lt, same)

        -- a transfer takes the last cycle, and what waits for c issues before the end
        transfer : (term : Term) (op : Op) → q.op.kind ≡ End term → transfer_of term ≡ Some op → is_transfer op ≡ true
            → has_follower arcs (region_places r) (place_of c) ≡ true → (issue_at x c).cycle + 1 ≤ (issue_at x q).cycle
        transfer term op k t is some =
            let v = vars_of q in
            let instr : (issue_at x q).instr ≡ Some op = ap (λ (k : ExtKind). instruction_of k (value_by x v.instr)) k ∙ t in
            let f = any_of (λ (p : Place). is_source p.it.kind && has (waiting arcs c.number) p.op) (region_places r) some in
            let p = member_map_of place_of (region_placed r) f.0 f.1 in
            let told : (is_source p.0.op.kind && has (waiting arcs c.number) p.0.number) ≡ true =
            ap (λ (p : Place). is_source p.it.kind && has (waiting arcs c.number) p.op) p.2 ∙ f.2 in
            let both = (and_iff (is_source p.0.op.kind) (has (waiting arcs c.number) p.0.number)).1 told in
            let later = waits_behind c p.0 mc p.1 both.1 in
            let before = source_inside p.0 p.1 both.0 in
            let same = same_end p.0 p.1 in
            let last = last_cycle q mq op instr is in
            omega (arith, later, before, same, last)

        ends : (kind : ExtKind) → q.op.kind ≡ kind → ends_block kind ≡ true → has_follower arcs (region_places r) (place_of c) ≡ true
            → (issue_at x c).cycle + 1 ≤ (issue_at x q).cycle
        ends Out k h some = at_end k
        ends (End Fall) k h some = absurd (cc h)
        ends (End (Jump to)) k h some = transfer (Jump to) _ k refl refl some
        ends (End (Branch pred true to)) k h some = transfer (Branch pred true to) _ k refl refl some
        ends (End (Branch pred false to)) k h some = transfer (Branch pred false to) _ k refl refl some
        ends (End (Ret value)) k h some = transfer (Ret value) _ k refl refl some
        ends In k h some = absurd (cc h)
        ends (Body so) k h some = absurd (cc h)
        ends (Copy node) k h some = absurd (cc h)
        ends Enter k h some = absurd (cc h)
        ends Leave k h some = absurd (cc h)

        by : (t : Bool) → has_follower arcs (region_places r) (place_of c) ≡ t
            → ((if t then ends_block q.op.kind else is_out q.op.kind) || has (waiting arcs c.number) q.number) ≡ true
            → (issue_at x c).cycle + 1 ≤ (issue_at x q).cycle
        by true some h = with_end (ends_block q.op.kind) refl h
          where
            with_end : (t : Bool) → ends_block q.op.kind ≡ t → (t || has (waiting arcs c.number) q.number) ≡ true
                → (issue_at x c).cycle + 1 ≤ (issue_at x q).cycle
            with_end true k h = ends q.op.kind refl k some
            with_end false k h = waits_behind c q mc mq h
        by false none h = with_out (is_out q.op.kind) refl h
          where
            with_out : (t : Bool) → is_out q.op.kind ≡ t → (t || has (waiting arcs c.number) q.number) ≡ true
                → (issue_at x c).cycle + 1 ≤ (issue_at x q).cycle
            with_out true k h = at_end (out_is q.op.kind k)
            with_out false k h = waits_behind c q mc mq h

    pub ordered : Ordered x r arcs
    ordered = record {
      before = λ d c md mc call h. first d c md mc (is_in d.op.kind) refl h;
      behind = λ c q mc mq call h. second c q mc mq call (ends_block q.op.kind) refl h;
    }
      where
        first : (d c : Placed) → Member d (region_placed r) → Member c (region_placed r) → (t : Bool) → is_in d.op.kind ≡ t
            → (is_in d.op.kind || has (reached arcs d.number) c.number) ≡ true → (issue_at x d).cycle ≤ (issue_at x c).cycle
        first d c md mc true k h =
            let z = start_cycle d.op.kind x (issue_at x d).end (vars_of d) k in omega arith
        first d c md mc false k h = not_before d c md mc (subst (λ (t : Bool). (t || has (reached arcs d.number) c.number) ≡ true) k h)

        second : (c q : Placed) → Member c (region_placed r) → Member q (region_placed r) → is_call_kind c.op.kind ≡ true → (t : Bool)
            → ends_block q.op.kind ≡ t
            → (ends_block q.op.kind || (not (q.number == c.number) && has (reached arcs c.number) q.number)) ≡ true
            → (issue_at x c).cycle + 1 ≤ (issue_at x q).cycle
        second c q mc mq call true k h = end_after e o x given r placed room c q mc mq call k
        second c q mc mq call false k h =
            let two = (and_iff (not (q.number == c.number)) (has (reached arcs c.number) q.number)).1
            (subst (λ (t : Bool). (t || (not (q.number == c.number) && has (reached arcs c.number) q.number)) ≡ true) k h) in
            later c q mc mq call (λ same. (let t : not (q.number == c.number) ≡ false = ap not (eq-eqb q.number c.number same) in
            let z : true ≡ false = sym two.0 ∙ t in cc z)) two.1

  -- each solution meets what is posted of calls
  pub calls_met : AllMet (clobbers_of (model_of e o)) x
  calls_met = let registers = schedule.registers in (spared e o x given (λ r m. ordered r m)).0 registers.1
