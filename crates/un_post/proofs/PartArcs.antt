-- The part of a block keeps each arc of the block: the later operation issues at least the arc's gap after the earlier one. And where the
-- arcs are met, its Loads, Stores and Calls keep their order.
use Rattle.std.proofs.Common.{ℕ, zero, suc, ◌≡◌, ◌+◌, ◌<◌, ◌≤◌, Bool, true, false, List, [], ◌∷◌, refl, sym, ap, ◌∙◌}
use Rattle.std.proofs.Common.{subst, arith, eq-eqb}
use Rattle.std.specs.Prelude.{Option, Some, None, IfSome, slice_get, ◌==◌, ◌||◌, is_some}
use Rattle.std.specs.List.{AllZip}
use Rattle.std.specs.Option.{option_map, option_map_or}
use Rattle.std.proofs.lemmas.Bool.{eqb-true}
use Rattle.un_base.specs.declared.ids.TempId.{TempId}
use Rattle.un_isa.specs.declared.op.Op.{Op}
use Rattle.un_ir.specs.declared.function.Term.TheVariants.{Fall, Jump, Branch, Ret}
use Rattle.un_ir.specs.declared.extended.ExtKind.{ExtKind}
use Rattle.un_ir.specs.declared.extended.ExtKind.TheVariants.{In, Out, Body, End, Copy, Enter, Leave}
use Rattle.un_ir.specs.declared.extended.NodeCopy.{NodeCopy}
use Rattle.un_ir.specs.declared.extended.Operand.{Operand}
use Rattle.un_ir.specs.declared.extended.ExtOp.{ExtOp}
use Rattle.un_ir.specs.declared.extended.Ext.{Ext}
use Rattle.un_ir.specs.Extended.{IsGoodOperand, temp, wants_of, first_read, carried}
use Rattle.un_ir.specs.Kinds.{is_mandatory, is_delimiter}
use Rattle.un_ir.specs.Linear.{first_of}
use Rattle.un_model.specs.declared.model.Arc.{Arc}
use Rattle.un_model.specs.declared.model.Options.{Options}
use Rattle.un_model.specs.declared.model.TempVars.{TempVars}
use Rattle.un_model.specs.declared.schedule.Read.{Read}
use Rattle.un_model.specs.declared.schedule.Schedule.{Schedule}
use Rattle.un_model.specs.ArcLaws.{arc_told}
use Rattle.un_model.specs.Arcs.{own_instr, value_read, defines, reads_from, data_gap, memory_gap, NeedsGap}
use Rattle.un_model.specs.Arcs.NeedsGap.{ByData, ByMemory}
use Rattle.un_model.specs.Instructions.{instruction_of, latency_by}
use Rattle.un_model.specs.Schedules.{schedule_of, value_by, read_of}
use Rattle.un_model.specs.Solutions.{KeepsChoices, KeepsLatencies, KeepsMemory, IsLive, LeavesGap, Precedes, memory_distance, latency_gap}
use Rattle.un_model.specs.Variables.{model_of, var_at, ops_count, arcs_of}
use Rattle.un_lists.proofs.Lists.{Pairwise, Member, each_of, each_member, each_map, any_of, member_at, place_of as position_of}
use Rattle.un_lists.proofs.Lists.{pairwise_map, pairwise_of_map, pairwise_all, slice_get-map}
use Rattle.un_model.proofs.Gaps.{gap_copy, gap_within}
use Rattle.un_model.proofs.Operations.{placed_get}
use Rattle.un_model.proofs.Placed.{Placed, Region, region_placed, vars_of, issue_at, Spot, temp_vars, temps_are, at_number, all_count}
use Rattle.un_model.proofs.PlacedSchedules.{all, spots, spot_range, one_spot, spot_temp}
use Rattle.un_model.proofs.Regions.{of_region}
use Rattle.un_model.proofs.RegionEnds.{all_regions}
use Rattle.un_model.proofs.TempKinds.{carried_at, spot_carried}
use Rattle.un_kinds.specs.Constraints.{meets}
use Rattle.un_sites.specs.Befores.{arc_before, befores_in}
use Rattle.un_sites.specs.Rooms.{arcs_or}
use Rattle.un_post.specs.Parts.{block_schedule}
use Rattle.un_post.proofs.CallOrder.{arcs_here}
use Rattle.un_post.proofs.Choices.{carried_is}
use Rattle.un_post.proofs.Facts.{Given, Reading, falls, good_op, all_member, numbered, definer_is, reading, read_range, reader_goes}
use Rattle.un_post.proofs.Meeting.{Met}
use Rattle.un_post.proofs.Memory.{member_contains, places, temps, region_arcs, Kept, one, in_block}
use Rattle.un_post.proofs.NoSharing.{all_pairwise}
use Rattle.un_post.proofs.PartItems.{here, own_in, own_of, own_issues, own_ranges, reads_here, read_here}
use Rattle.un_post.proofs.Placing.{place_here}

-- ---- operations that every solution issues

own_instruction : (k : ExtKind) (n : ℕ) → is_mandatory k ≡ true → instruction_of k n ≡ instruction_of k 0
own_instruction In n h = refl
own_instruction Out n h = refl
own_instruction (Body so) n h = refl
own_instruction (End term) n h = refl
own_instruction (Copy node) n h = absurd (cc h)
own_instruction Enter n h = absurd (cc h)
own_instruction Leave n h = absurd (cc h)

mandatory_active : (k : ExtKind) (n : ℕ) → is_mandatory k ≡ true → falls k ≡ false → (is_delimiter k || is_some (instruction_of k n)) ≡ true
mandatory_active In n h f = refl
mandatory_active Out n h f = refl
mandatory_active (Body so) n h f = refl
mandatory_active (End Fall) n h f = absurd (cc f)
mandatory_active (End (Jump to)) n h f = refl
mandatory_active (End (Branch pred true to)) n h f = refl
mandatory_active (End (Branch pred false to)) n h f = refl
mandatory_active (End (Ret value)) n h f = refl
mandatory_active (Copy node) n h f = absurd (cc h)
mandatory_active Enter n h f = absurd (cc h)
mandatory_active Leave n h f = absurd (cc h)

own_value : (a : Operand) → temp (first_of a.alts) ≡ value_read a
own_value a = by a.alts refl
  where
    by : (alts : List TempId) → a.alts ≡ alts → temp (first_of a.alts) ≡ value_read a
    by [] e = rw e refl
    by (y ∷ ys) e = rw e refl

-- each two of a list, by their places
pairwise_get : {X : Type 0} (R : X → X → Type 0) (xs : List X) (i j : ℕ) (x y : X) → Pairwise R xs → i < j → slice_get xs i ≡ Some x
    → slice_get xs j ≡ Some y → R x y
pairwise_get R [] i j x y h lt at bt = absurd (cc at)
pairwise_get R (z ∷ zs) i zero x y h lt at bt = absurd (omega (arith, lt))
pairwise_get R (z ∷ zs) zero (suc j) x y h lt at bt =
    let same : z ≡ x = cc at in subst (λ w. R w y) same (each_member (R z) zs y h.0 (member_at zs j y bt))
pairwise_get R (z ∷ zs) (suc i) (suc j) x y h lt at bt = pairwise_get R zs i j x y h.1 (omega (arith, lt)) at bt

module _ (e : Ext) (o : Options) (x : List ℕ) (given : Given e o x) (r : Region)
    (at : slice_get (all_regions e o x given.extended) r.block ≡ Some r) where
  abbrev part : Schedule
  part = block_schedule r.block (schedule_of (model_of e o) x)

  abbrev qs : List Placed
  qs = region_placed r

  own : (q : Placed) → Member q qs → Member q (all e o x)
  own q m = own_in e o x given r at q m

  own_is : (p : Placed) → is_mandatory p.op.kind ≡ true → (issue_at x p).instr ≡ own_instr p.op
  own_is p m = own_instruction p.op.kind (value_by x (vars_of p).instr) m

  module _ (chosen : KeepsChoices part) (latencies : KeepsLatencies (latency_gap e.table) part) (memory : KeepsMemory part) where
    -- ---- memory

    order : Pairwise (Kept e o x given) qs
    order = pairwise_of_map (Precedes memory_distance) (issue_at x) qs
        (subst (Pairwise (Precedes memory_distance)) (own_issues e o x given r at) (pairwise_all (Precedes memory_distance) part.issues memory))

    by_memory : (p q : Placed) (g : ℕ) → p.block ≡ q.block → is_mandatory p.op.kind ≡ true → is_mandatory q.op.kind ≡ true
        → memory_gap p.op q.op ≡ Some g → Kept e o x given p q → (issue_at x p).cycle + g ≤ (issue_at x q).cycle
    unfolding Precedes
    by_memory p q g same a b gap kept =
        let f : memory_distance (issue_at x p).instr (issue_at x q).instr ≡ Some g =
        ap (λ (i : Option Op). memory_distance i (issue_at x q).instr) (own_is p a)
        ∙ ap (λ (j : Option Op). memory_distance (own_instr p.op) j) (own_is q b) ∙ gap in
        subst (λ (d : Option ℕ). IfSome d (λ (n : ℕ). (issue_at x p).cycle + n ≤ (issue_at x q).cycle)) f (kept same)

    -- ---- data

    -- the cycle from which an operation may read what a result's definer gives
    abbrev ready_for : Placed → Spot → ℕ
    ready_for q s = (issue_at x s.definer).cycle + latency_gap e.table (issue_at x s.definer).instr (issue_at x q).instr

    -- an operation reads values no earlier than it may after their definers, whatever carries them
    abbrev Waits : Placed → Type 0
    Waits q = (j : ℕ) (a : Operand) (s : Spot) → Member q qs → (issue_at x q).active ≡ true → slice_get q.op.operands j ≡ Some a
        → Member s (spots e o x) → s.temp ≡ temp (first_of a.alts) → ready_for q s ≤ (issue_at x q).cycle

    -- of what an operand chooses: it is active, and ready
    module _ (q : Placed) (j : ℕ) (a : Operand) (m : Member q qs) (there : slice_get q.op.operands j ≡ Some a)
        (act : (issue_at x q).active ≡ true) (d : Reading e o x given q j a) where
      abbrev read : Read
      read = read_of x (issue_at x q) (vars_of q) j a

      live : (spot_range e o x d.spot).active ≡ true
      live = subst IsLive (read_range e o x given q j a d) (subst IsLive (read_here e o x given r at q j a m there)
          ((reads_here e o x given r at (λ (v : Read). IsLive (slice_get (own_ranges e o x given r at) v.temp.0))).0 chosen q j a m there act))

      ready : ready_for q d.spot ≤ (issue_at x q).cycle
      ready = subst (LeavesGap (latency_gap e.table) read) (read_range e o x given q j a d)
          (subst (LeavesGap (latency_gap e.table) read) (read_here e o x given r at q j a m there)
          ((reads_here e o x given r at (λ (v : Read). LeavesGap (latency_gap e.table) v
          (slice_get (own_ranges e o x given r at) v.temp.0))).0 latencies.1 q j a m there act)) live

    wait_step : (q : Placed) → ((p : Placed) → p.number < q.number → Waits p) → Waits q
    wait_step q below j a s m act there ms is = given_so (reading e o x given q j a (own q m) there)
      where
        given_so : Reading e o x given q j a → ready_for q s ≤ (issue_at x q).cycle
        given_so d = by d.spot.definer.op.kind refl
          where
            now : ready_for q d.spot ≤ (issue_at x q).cycle
            now = ready q j a m there act d

            on : (issue_at x d.spot.definer).active ≡ true
            on = live q j a m there act d

            value : spot_carried d.spot ≡ s.temp
            value =
                let f = d.fits in
                sym (carried_is e o x given d.spot d.member)
                ∙ all_member (λ (y : TempId). carried e.blocks y ≡ temp (first_of a.alts)) a.alts d.spot.temp f.one_value
                (member_at a.alts (value_by x (slice_get (vars_of q).choices j)) d.spot.temp d.at)
                ∙ sym is

            -- the value itself is read
            itself : spot_carried d.spot ≡ d.spot.temp → ready_for q s ≤ (issue_at x q).cycle
            itself c =
                let same = one_spot e o x (numbered e o x given) d.spot s d.member ms (ap (λ (t : TempId). t.0) (sym c ∙ value)) in
                subst (λ (z : Spot). ready_for q z ≤ (issue_at x q).cycle) same now

            in_block_too : Member d.spot.definer qs
            in_block_too = own_of e o x given r at d.spot.definer (definer_is e o x given d.spot d.member).0
                (eq-eqb d.spot.definer.block r.block (d.block ∙ of_region r q m))

            -- a copy is read, which waits itself
            copied : (node : NodeCopy) (xs : List Operand) → d.spot.definer.op.kind ≡ Copy node → d.spot.definer.op.operands ≡ xs
                → ready_for q s ≤ (issue_at x q).cycle
            copied node [] k f =
                let p = d.spot.definer in
                let g = good_op e o x given p (own p in_block_too) in
                let keeps = g.keeps in
                let zip = subst (λ (z : ExtKind). AllZip (IsGoodOperand e.names e.blocks g.before) []
                (wants_of e.table e.names e.blocks p.owner z p.op)) k
                (subst (λ (xs : List Operand). AllZip (IsGoodOperand e.names e.blocks g.before) xs
                (wants_of e.table e.names e.blocks p.owner p.op.kind p.op)) f keeps.operands) in
                absurd zip
            copied node (y ∷ ys) k f =
                let p = d.spot.definer in
                let first : spot_carried d.spot ≡ temp (first_of y.alts) = ap (λ (z : ExtKind). carried_at z d.spot) k ∙ ap first_read f in
                let before = below p d.earlier 0 y s in_block_too on (ap (λ (xs : List Operand). slice_get xs 0) f) ms (sym value ∙ first) in
                -- it waits for what it copies as long as any reader
                let n = value_by x (vars_of p).instr in
                let waits : latency_gap e.table (issue_at x s.definer).instr (issue_at x p).instr
                ≡ latency_by e.table (issue_at x s.definer).instr =
                ap (λ (z : ExtKind). latency_gap e.table (issue_at x s.definer).instr (instruction_of z n)) k
                ∙ gap_copy e.table (issue_at x s.definer).instr n in
                let within = gap_within e.table (issue_at x s.definer).instr (issue_at x q).instr in
                let ready = now in
                omega (arith, before, ready, waits, within)

            by : (k : ExtKind) → d.spot.definer.op.kind ≡ k → ready_for q s ≤ (issue_at x q).cycle
            by (Copy node) f = copied node d.spot.definer.op.operands f refl
            by In f = itself (ap (λ (z : ExtKind). carried_at z d.spot) f)
            by Out f = itself (ap (λ (z : ExtKind). carried_at z d.spot) f)
            by (Body so) f = itself (ap (λ (z : ExtKind). carried_at z d.spot) f)
            by (End term) f = itself (ap (λ (z : ExtKind). carried_at z d.spot) f)
            by Enter f = itself (ap (λ (z : ExtKind). carried_at z d.spot) f)
            by Leave f = itself (ap (λ (z : ExtKind). carried_at z d.spot) f)

    waits : (n : ℕ) (q : Placed) → q.number < n → Waits q
    waits zero q lt = absurd (omega (arith, lt))
    waits (suc n) q lt = wait_step q (λ p less. waits n p (omega (arith, less, lt)))

    -- the result that a temporary is
    defined_by : (p : Placed) (v : TempId) → Member p qs → defines (temps e o x given) p.number v ≡ true
        → (s : Spot) × (Member s (spots e o x)) × (s.temp ≡ v) × (s.definer ≡ p)
    defined_by p v m d = by (slice_get (spots e o x) v.0) refl
      where
        by : (w : Option Spot) → slice_get (spots e o x) v.0 ≡ w → (s : Spot) × (Member s (spots e o x)) × (s.temp ≡ v) × (s.definer ≡ p)
        by w f =
            let found : slice_get (temps e o x given) v.0 ≡ option_map temp_vars w =
            ap (λ (ts : List TempVars). slice_get ts v.0) (temps_are 0 0 0 e.blocks) ∙ slice_get-map temp_vars (spots e o x) v.0
            ∙ ap (option_map temp_vars) f in
            let told : option_map_or (λ (t : TempVars). t.op.0 == p.number) (option_map temp_vars w) false ≡ true =
            sym (ap (λ (t : Option TempVars). option_map_or (λ (t : TempVars). t.op.0 == p.number) t false) found) ∙ d in
            go w f told
          where
            go : (w : Option Spot) → slice_get (spots e o x) v.0 ≡ w
                → option_map_or (λ (t : TempVars). t.op.0 == p.number) (option_map temp_vars w) false ≡ true
                → (s : Spot) × (Member s (spots e o x)) × (s.temp ≡ v) × (s.definer ≡ p)
            go None f t = absurd (cc t)
            go (Some s) f t =
                let ms = member_at (spots e o x) v.0 s f in
                let n : s.definer.number ≡ p.number = eqb-true _ _ t in
                let a = at_number 0 (all e o x) s.definer p.number (all_count 0 0 0 e.blocks) (definer_is e o x given s ms).0
                (n ∙ omega arith) in
                let b = at_number 0 (all e o x) p p.number (all_count 0 0 0 e.blocks) (own p m) (omega arith) in
                let same : Some s.definer ≡ Some p = sym a ∙ b in
                (s, ms, spot_temp e o x (numbered e o x given) v.0 s f, cc same)

    by_data : (p q : Placed) → Member p qs → Member q qs → is_mandatory p.op.kind ≡ true → is_mandatory q.op.kind ≡ true
        → reads_from (temps e o x given) p.number q.op ≡ true
        → (issue_at x p).cycle + latency_gap e.table (own_instr p.op) (own_instr q.op) ≤ (issue_at x q).cycle
    by_data p q mp mq a b reads =
        let found = any_of (λ (y : Operand). defines (temps e o x given) p.number (value_read y)) q.op.operands reads in
        let y = found.0 in
        let there = position_of q.op.operands y found.1 in
        let s = defined_by p (value_read y) mp found.2 in
        let rd = reading e o x given q there.0 y (own q mq) there.2 in
        let act : (issue_at x q).active ≡ true = mandatory_active q.op.kind (value_by x (vars_of q).instr) b
        (reader_goes e o x given q there.0 y rd) in
        let w = waits (suc q.number) q (omega arith) there.0 y s.0 mq act there.2 s.1 (s.2 ∙ sym (own_value y)) in
        let to : Option Op = (issue_at x q).instr in
        let here_too : (issue_at x p).cycle + latency_gap e.table (issue_at x p).instr to ≤ (issue_at x q).cycle = subst
        (λ (z : Placed). (issue_at x z).cycle + latency_gap e.table (issue_at x z).instr to ≤ (issue_at x q).cycle) s.3 w in
        subst (λ (i : Option Op). (issue_at x p).cycle + latency_gap e.table (own_instr p.op) i ≤ (issue_at x q).cycle) (own_is q b)
        (subst (λ (i : Option Op). (issue_at x p).cycle + latency_gap e.table i to ≤ (issue_at x q).cycle) (own_is p a) here_too)

    -- ---- arcs

    need_kept : (p q : Placed) (g : ℕ) → Member p qs → Member q qs → is_mandatory p.op.kind ≡ true → is_mandatory q.op.kind ≡ true
        → Kept e o x given p q → NeedsGap e.table (reads_from (temps e o x given) p.number q.op) p.op q.op g
        → (issue_at x p).cycle + g ≤ (issue_at x q).cycle
    need_kept p q g mp mq a b kept (ByMemory gap) =
        by_memory p q g (of_region r p mp ∙ sym (of_region r q mq)) a b gap kept
    need_kept p q g mp mq a b kept (ByData gap) = by (reads_from (temps e o x given) p.number q.op) refl
      where
        by : (t : Bool) → reads_from (temps e o x given) p.number q.op ≡ t → (issue_at x p).cycle + g ≤ (issue_at x q).cycle
        by true f =
            let is : data_gap e.table true p.op q.op ≡ Some g = sym (ap (λ (t : Bool). data_gap e.table t p.op q.op) f) ∙ gap in
            let k : latency_gap e.table (own_instr p.op) (own_instr q.op) ≡ g = cc is in
            let w = by_data p q mp mq a b f in
            omega (arith, k, w)
        by false f =
            let is : data_gap e.table false p.op q.op ≡ Some g = sym (ap (λ (t : Bool). data_gap e.table t p.op q.op) f) ∙ gap in
            absurd (cc is)

    arc_met : (a : Arc) → Member a (region_arcs e o x given r) → meets (arc_before (places e o x given) a) x ≡ true
    arc_met a ma =
        let owner = r.owner in
        let is = arc_told e.table (temps e o x given) r.number owner.ops a (member_contains (region_arcs e o x given r) a ma) in
        let close = var_at (r.first + ops_count owner.ops) in
        let p = placed_get r.block owner close r.number r.first is.earlier owner.ops is.from is.from_at in
        let q = placed_get r.block owner close r.number r.first is.later owner.ops is.to is.to_at in
        let mp = member_at qs is.earlier p.0 p.1 in
        let mq = member_at qs is.later q.0 q.1 in
        let from : a.from.0 ≡ p.0.number = is.numbers.0 ∙ sym p.3 in
        let to : a.to.0 ≡ q.0.number = is.numbers.1 ∙ sym q.3 in
        let largest = is.gap in
        let need : NeedsGap e.table (reads_from (temps e o x given) p.0.number q.0.op) p.0.op q.0.op a.gap =
        subst (λ (n : ℕ). NeedsGap e.table (reads_from (temps e o x given) n q.0.op) p.0.op q.0.op a.gap) from
        (subst (λ (t : ExtOp). NeedsGap e.table (reads_from (temps e o x given) a.from.0 t) p.0.op t a.gap) (sym q.2)
        (subst (λ (f : ExtOp). NeedsGap e.table (reads_from (temps e o x given) a.from.0 is.to) f is.to a.gap) (sym p.2) largest.asked)) in
        let mandatory_p : is_mandatory p.0.op.kind ≡ true = ap (λ (z : ExtOp). is_mandatory z.kind) p.2 ∙ is.mandatory.0 in
        let mandatory_q : is_mandatory q.0.op.kind ≡ true = ap (λ (z : ExtOp). is_mandatory z.kind) q.2 ∙ is.mandatory.1 in
        let kept = pairwise_get (Kept e o x given) qs is.earlier is.later p.0 q.0 order is.order p.1 q.1 in
        let all_places = places e o x given in
        (one e o x given a p.0 q.0 (ap (slice_get all_places) from ∙ place_here e o x p.0 (own p.0 mp))
        (ap (slice_get all_places) to ∙ place_here e o x q.0 (own q.0 mq))).0
        (need_kept p.0 q.0 a.gap mp mq mandatory_p mandatory_q kept need)

  arcs_are : arcs_or (slice_get (arcs_of e) r.block) ≡ region_arcs e o x given r
  arcs_are = ap arcs_or (arcs_here e.table (temps e o x given) 0 0 0 r.block e.blocks r (here e o x given r at) (omega arith))

  -- the part meets what is posted of the block's arcs
  pub arcs_met : KeepsChoices part → KeepsLatencies (latency_gap e.table) part → KeepsMemory part
      → Met x (befores_in (places e o x given) (arcs_or (slice_get (arcs_of e) r.block)))
  arcs_met chosen latencies memory =
      let arcs = region_arcs e o x given r in
      subst (λ (listed : List Arc). Met x (befores_in (places e o x given) listed)) (sym arcs_are)
      (each_map _ (arc_before (places e o x given)) arcs
      (each_of (λ a. meets (arc_before (places e o x given) a) x ≡ true) arcs (arc_met chosen latencies memory)))

  -- and where it is met, memory keeps its order
  pub met_memory : Met x (befores_in (places e o x given) (arcs_or (slice_get (arcs_of e) r.block))) → KeepsMemory part
  met_memory h =
      let R = Precedes memory_distance in
      all_pairwise R part.issues (subst (Pairwise R) (sym (own_issues e o x given r at)) (pairwise_map R (issue_at x) qs
      (in_block e o x given r (here e o x given r at)
      (subst (λ (listed : List Arc). Met x (befores_in (places e o x given) listed)) arcs_are h))))
