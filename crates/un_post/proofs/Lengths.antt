-- Each solution meets what is posted of the lengths of blocks.
use Rattle.std.proofs.Common.{ℕ, suc, ◌≡◌, ◌+◌, ◌<◌, ◌≤◌, Bool, true, false, List, [], ◌∷◌, ◌++◌, length, map, refl, sym}
use Rattle.std.proofs.Common.{ap, ◌∙◌, subst, arith, eq-eqb}
use Rattle.std.specs.Prelude.{Some, ◌&&◌, ◌==◌, nat_eq, nat_lt, slice_get, slice_index, sum_by}
use Rattle.std.specs.Prelude.{if◌then◌else◌}
use Rattle.std.proofs.lemmas.Bool.Decides.{nat_tests}
use Rattle.std.proofs.lemmas.List.Sums.{sum_by-cons, sum_by-append}
use Rattle.un_base.specs.declared.ids.VarId.{VarId}
use Rattle.un_isa.specs.declared.packet_counts.Resource.{Resource}
use Rattle.un_isa.specs.declared.packet_counts.Resource.TheVariants.{Instructions, Memory, Stores, MultiplyOrControl, Control}
use Rattle.un_isa.specs.PacketCounts.{places_of as room_of, share_of as need_of}
use Rattle.un_isa.specs.declared.table.Table.{Table}
use Rattle.un_ir.specs.declared.function.Term.TheVariants.{Fall, Jump, Branch, Ret}
use Rattle.un_ir.specs.declared.extended.ExtKind.{ExtKind}
use Rattle.un_ir.specs.declared.extended.ExtKind.TheVariants.{In, Out, Body, End, Copy, Enter, Leave}
use Rattle.un_ir.specs.declared.extended.Ext.{Ext}
use Rattle.un_ir.specs.Kinds.{is_optional, is_source}
use Rattle.un_ir.specs.Linear.{is_out}
use Rattle.un_model.specs.declared.model.Arc.{Arc}
use Rattle.un_model.specs.declared.model.Model.{Model}
use Rattle.un_model.specs.declared.model.Options.{Options}
use Rattle.un_model.specs.Instructions.{instruction_of, needs_by}
use Rattle.un_model.specs.Schedules.{issues_of, schedule_of, value_by}
use Rattle.un_model.specs.Solutions.{IsSchedule, latency_gap, share_of}
use Rattle.un_model.specs.Variables.{model_of, arcs_of, var_at, var_if, has_cycle, cycle_place, ops_count}
use Rattle.un_lists.proofs.Lists.{Each, Member, each_of, each_member, each_more, each_map, each_join, member_map_of, member_of_filter}
use Rattle.un_lists.proofs.Lists.{member_append_left, place_of as position_of}
use Rattle.un_model.proofs.Placed.{Placed, Region, region_placed, vars_of, issue_at}
use Rattle.un_model.proofs.PlacedSchedules.{all}
use Rattle.un_prop.specs.Acts.{at_value}
use Rattle.un_prop.specs.declared.act.Act.TheVariants.{Always}
use Rattle.un_prop.specs.declared.act.At.TheVariants.{Var}
use Rattle.un_length.specs.declared.block.Precedence.{Precedence}
use Rattle.un_length.specs.declared.block.Task.{Task}
use Rattle.un_length.specs.Places.{at_place}
use Rattle.un_length.specs.Blocks.{cycle_of, taken_by, taken, FitsBlock}
use Rattle.un_length.specs.BlockLaws.{fits_holds}
use Rattle.un_kinds.specs.Constraints.{Constraint, AllMet, Before, meets}
use Rattle.un_sites.specs.Befores.{arc_before, befores_in, known_befores, length_in, lengths_of}
use Rattle.un_sites.specs.CallBefores.{call_befores_by}
use Rattle.un_sites.specs.Lengths.{is_task, is_asking, tail_of, end_head, asked_head, asked_tail, var_in, task_of, tasks_in, task_place}
use Rattle.un_sites.specs.Lengths.{precedence_by, precedences_by}
use Rattle.un_sites.specs.Lengths.{length_by}
use Rattle.un_sites.specs.Places.{Place, act_by, time_by, places_of, definers_of}
use Rattle.un_sites.specs.Postings.{issue_by, issues_in, with_kind}
use Rattle.un_sites.specs.Pressures.{block_room, registers_among}
use Rattle.un_sites.specs.Rooms.{arcs_or}
use Rattle.un_sites.specs.Saved.{crowded_of, edges_between, owed_by}
use Rattle.un_sites.specs.declared.edges.Accesses.{Accesses}
use Rattle.un_post.proofs.Blocks.{blocks, region_places, region_vars, region_close, places_in, regions_met, in_all}
use Rattle.un_post.proofs.CallBefores.{block_met}
use Rattle.un_post.proofs.CallOrder.{kept}
use Rattle.un_post.proofs.Crossed.{registers, asking_source, heads, tails}
use Rattle.un_model.proofs.RegionEnds.{region_end}
use Rattle.un_post.proofs.Facts.{Given, times}
use Rattle.un_post.proofs.Filled.{heads_filled, tails_filled, end_behind}
use Rattle.un_post.proofs.Latencies.{latencies}
use Rattle.un_root.proofs.Eaches.{all_each}
use Rattle.un_post.proofs.Meeting.{Met, joined_each}
use Rattle.un_post.proofs.Memory.{kept_met}
use Rattle.un_post.proofs.Packets.{share, no_room, whole_taken, sum_part}
use Rattle.un_post.proofs.Placing.{place_of}
use Rattle.un_model.proofs.Regions.{Ended, of_region, front_of, last_of, region_parts, front_stays, out_is}
use Rattle.un_post.proofs.Tests.{and_iff, eq_iff, le_iff}
use Rattle.un_post.proofs.Whole.{posted_each}

-- ---- by kinds

-- it issues its tail before the end
ended_by : (kind : ExtKind) (end : VarId) (u v : ℕ) (x : List ℕ) → is_task kind ≡ true
    → Met x (issue_by kind (act_by (var_if (is_optional kind) u)) end (var_if (has_cycle kind) v))
    → slice_index x (var_in (time_by end kind (var_if (has_cycle kind) v))).0 + tail_of kind ≤ slice_index x end.0
ended_by Out end u v x t h = omega arith
ended_by (Body so) end u v x t h = (le_iff (slice_index x v + 1) (slice_index x end.0)).1 ((and_iff _ _).1 h.0).1
ended_by (End Fall) end u v x t h = absurd (cc t)
ended_by (End (Jump to)) end u v x t h = let e = (eq_iff (slice_index x end.0) (slice_index x v + 1)).1 h.0 in omega (arith, e)
ended_by (End (Branch pred sense to)) end u v x t h = let e = (eq_iff (slice_index x end.0) (slice_index x v + 1)).1 h.0 in omega (arith, e)
ended_by (End (Ret value)) end u v x t h = let e = (eq_iff (slice_index x end.0) (slice_index x v + 1)).1 h.0 in omega (arith, e)
ended_by In end u v x t h = absurd (cc t)
ended_by (Copy node) end u v x t h = absurd (cc t)
ended_by Enter end u v x t h = absurd (cc t)
ended_by Leave end u v x t h = absurd (cc t)

-- the value of its variable is its time
pub timed_by : (kind : ExtKind) (end : VarId) (v : ℕ) (x : List ℕ) → is_task kind ≡ true
    → slice_index x (var_in (time_by end kind (var_if (has_cycle kind) v))).0 ≡ at_value (time_by end kind (var_if (has_cycle kind) v)) x
timed_by Out end v x t = refl
timed_by (Body so) end v x t = refl
timed_by (End Fall) end v x t = absurd (cc t)
timed_by (End (Jump to)) end v x t = refl
timed_by (End (Branch pred sense to)) end v x t = refl
timed_by (End (Ret value)) end v x t = refl
timed_by In end v x t = absurd (cc t)
timed_by (Copy node) end v x t = absurd (cc t)
timed_by Enter end v x t = absurd (cc t)
timed_by Leave end v x t = absurd (cc t)

-- it takes what its instruction takes
pub needs_as : (t : Table) (r : Resource) (kind : ExtKind) (n : ℕ) → is_task kind ≡ true → is_out kind ≡ false
    → need_of r (needs_by t (instruction_of kind 0)) ≡ share_of t r (instruction_of kind n)
needs_as t r Out n k f = absurd (cc f)
needs_as t r (Body so) n k f = refl
needs_as t r (End Fall) n k f = absurd (cc k)
needs_as t r (End (Jump to)) n k f = refl
needs_as t r (End (Branch pred true to)) n k f = refl
needs_as t r (End (Branch pred false to)) n k f = refl
needs_as t r (End (Ret value)) n k f = refl
needs_as t r In n k f = absurd (cc k)
needs_as t r (Copy node) n k f = absurd (cc k)
needs_as t r Enter n k f = absurd (cc k)
needs_as t r Leave n k f = absurd (cc k)

-- a packet has room for a block's end
end_fits : (t : Table) (r : Resource) → need_of r (needs_by t (instruction_of Out 0)) ≤ room_of r
end_fits t Instructions = omega arith
end_fits t Memory = omega arith
end_fits t Stores = omega arith
end_fits t MultiplyOrControl = omega arith
end_fits t Control = omega arith

tail_one : (kind : ExtKind) → is_out kind ≡ false → tail_of kind ≡ 1
tail_one Out h = absurd (cc h)
tail_one In h = refl
tail_one (Body so) h = refl
tail_one (End term) h = refl
tail_one (Copy node) h = refl
tail_one Enter h = refl
tail_one Leave h = refl

source_tail_one : (kind : ExtKind) → is_source kind ≡ true → tail_of kind ≡ 1
source_tail_one (Body so) h = refl
source_tail_one In h = absurd (cc h)
source_tail_one Out h = absurd (cc h)
source_tail_one (End term) h = absurd (cc h)
source_tail_one (Copy node) h = absurd (cc h)
source_tail_one Enter h = absurd (cc h)
source_tail_one Leave h = absurd (cc h)

out_task : (kind : ExtKind) → kind ≡ Out → is_task kind ≡ true
out_task kind e = ap is_task e

-- ---- precedences

-- the operation at a variable's place has the variable's value
value_at_place : (x : List ℕ) (ops : List Task) (v : VarId) → task_place ops v < length ops
    → at_place (cycle_of x) ops (task_place ops v) ≡ slice_index x v.0
value_at_place x [] v lt = absurd (omega (arith, lt))
value_at_place x (t ∷ ts) v lt = by (λ le. value_at_place x ts v le) (t.at.0 == v.0) refl lt
  where
    by : (task_place ts v < length ts → at_place (cycle_of x) ts (task_place ts v) ≡ slice_index x v.0) → (b : Bool)
        → (t.at.0 == v.0) ≡ b → (if b then 0 else suc (task_place ts v)) < length (t ∷ ts)
        → at_place (cycle_of x) (t ∷ ts) (if b then 0 else suc (task_place ts v)) ≡ slice_index x v.0
    by rest true e lt = let same : t.at.0 ≡ v.0 = grind (arith, nat_tests, e) in ap (slice_index x) same
    by rest false e lt = rest (omega (arith, lt))

abbrev Ordered : List ℕ → List Task → Precedence → Type 0
Ordered x ops a = at_place (cycle_of x) ops a.from + a.gap ≤ at_place (cycle_of x) ops a.to

ordered_by : (x : List ℕ) (ops : List Task) (c : Constraint) → meets c x ≡ true → Each (Ordered x ops) (precedence_by ops c)
ordered_by x ops (Before (Var a) Always (Var b) Always gap) h =
    by (nat_lt (task_place ops a) (length ops)) (nat_lt (task_place ops b) (length ops)) refl refl
  where
    by : (s t : Bool) → nat_lt (task_place ops a) (length ops) ≡ s → nat_lt (task_place ops b) (length ops) ≡ t
        → Each (Ordered x ops)
        (if s && t then record { from = task_place ops a; to = task_place ops b; gap = gap } ∷ [] else [])
    by true true e f =
        let va = value_at_place x ops a (grind (arith, nat_tests, e)) in
        let vb = value_at_place x ops b (grind (arith, nat_tests, f)) in
        let le = (le_iff (slice_index x a.0 + gap) (slice_index x b.0)).1 h in
        (omega (arith, va, vb, le), tt)
    by true false e f = tt
    by false t e f = tt
ordered_by x ops _ h = tt

ordered_each : (x : List ℕ) (ops : List Task) (cs : List Constraint) → Met x cs → Each (Ordered x ops) (precedences_by ops cs)
ordered_each x ops cs met =
    joined_each (Ordered x ops) (precedence_by ops) cs
    (each_more (λ (c : Constraint). meets c x ≡ true) (λ (c : Constraint). Each (Ordered x ops) (precedence_by ops c)) cs
    (λ c h. ordered_by x ops c h) met)

module _ (e : Ext) (o : Options) (x : List ℕ) (given : Given e o x)
    (schedule : IsSchedule (latency_gap e.table) (model_of e o).domains (model_of e o) x (schedule_of (model_of e o) x)) where
  module _ (r : Region) (mr : Member r (blocks e o x)) where
    abbrev arcs : List Arc
    arcs = arcs_or (slice_get (arcs_of e) r.block)

    -- ---- the operations of a block

    abbrev owed : Accesses
    owed = owed_by (crowded_of (model_of e o)) (edges_between e.blocks) r.block r.owner (region_places r)

    abbrev room : ℕ
    room = length (registers e o x given schedule r mr)

    abbrev made : Place → Task
    made = task_of e.table room (r.block == 0) owed arcs (region_places r)

    abbrev task : Placed → Task
    task q = made (place_of q)

    abbrev tasks : List Placed → List Task
    tasks qs = map made (with_kind is_task (map place_of qs))

    -- ---- single operations

    cycle_is : (q : Placed) → is_task q.op.kind ≡ true → cycle_of x (task q) ≡ (issue_at x q).cycle
    cycle_is q t = timed_by q.op.kind q.close (q.first + cycle_place q.op) x t ∙ times e o x given q

    issues_each : Each (λ q. Met x (issues_in (place_of q))) (all e o x)
    issues_each = (posted_each e o x given issues_in).0 ((latencies e o x given schedule.choices).0 schedule.latencies).0

    ended_one : (q : Placed) → Member q (all e o x) → is_task q.op.kind ≡ true
        → cycle_of x (task q) + tail_of q.op.kind ≤ slice_index x q.close.0
    ended_one q m t = ended_by q.op.kind q.close q.first (q.first + cycle_place q.op) x t
        (each_member (λ q. Met x (issues_in (place_of q))) (all e o x) q issues_each m)

    -- ---- room

    one_taken : (r : Resource) (b c : ℕ) (q : Placed) → q.block ≡ b → is_task q.op.kind ≡ true → is_out q.op.kind ≡ false
        → taken_by r c x (task q) ≡ share e o x given r b c q
    one_taken r b c q block t out =
        let i = issue_at x q in
        let here : (q.block == b) ≡ true = eq-eqb q.block b block in
        ap (λ n. if nat_eq n c then need_of r (needs_by e.table (instruction_of q.op.kind 0)) else 0) (cycle_is q t)
        ∙ ap (λ n. if nat_eq i.cycle c then n else 0) (needs_as e.table r q.op.kind (value_by x (vars_of q).instr) t out)
        ∙ ap (λ s. if s && nat_eq i.cycle c then share_of e.table r i.instr else 0) (sym here)

    -- what an operation takes as a task
    abbrev part : Resource → ℕ → Placed → ℕ
    part r c q = if is_task q.op.kind then taken_by r c x (task q) else 0

    taken_cons : (r : Resource) (c : ℕ) (q : Placed) (qs : List Placed)
        → taken r (tasks (q ∷ qs)) x c ≡ part r c q + taken r (tasks qs) x c
    taken_cons r c q qs = by (is_task q.op.kind) refl
      where
        by : (b : Bool) → is_task q.op.kind ≡ b → taken r (tasks (q ∷ qs)) x c ≡ part r c q + taken r (tasks qs) x c
        by true k =
            ap (λ (b : Bool). taken r (map made
            (if b then place_of q ∷ with_kind is_task (map place_of qs) else with_kind is_task (map place_of qs))) x c) k
            ∙ sum_by-cons (taken_by r c x) (task q) (tasks qs)
            ∙ ap (λ (b : Bool). (if b then taken_by r c x (task q) else 0) + taken r (tasks qs) x c) (sym k)
        by false k =
            let z : taken r (tasks qs) x c ≡ 0 + taken r (tasks qs) x c = omega arith in
            ap (λ (b : Bool). taken r (map made
            (if b then place_of q ∷ with_kind is_task (map place_of qs) else with_kind is_task (map place_of qs))) x c) k
            ∙ z ∙ ap (λ (b : Bool). (if b then taken_by r c x (task q) else 0) + taken r (tasks qs) x c) (sym k)

    taken_last : (r : Resource) (c : ℕ) (qs : List Placed) (l : Placed)
        → taken r (tasks (qs ++ l ∷ [])) x c ≡ taken r (tasks qs) x c + part r c l
    taken_last r c [] l = let a = taken_cons r c l [] in omega (arith, a)
    taken_last r c (q ∷ qs) l =
        let a = taken_cons r c q (qs ++ l ∷ []) in
        let b = taken_cons r c q qs in
        let m = taken_last r c qs l in
        omega (arith, a, b, m)

    -- operations but a block's end take no more than the packets have for them
    part_less : (r : Resource) (b c : ℕ) (q : Placed) → q.block ≡ b → is_out q.op.kind ≡ false
        → part r c q ≤ share e o x given r b c q
    part_less r b c q block out = by (is_task q.op.kind) refl
      where
        by : (t : Bool) → is_task q.op.kind ≡ t → (if t then taken_by r c x (task q) else 0) ≤ share e o x given r b c q
        by true t = let same = one_taken r b c q block t out in omega (arith, same)
        by false t = omega arith

    taken_less : (r : Resource) (b c : ℕ) (qs : List Placed) → Each (λ (q : Placed). q.block ≡ b) qs
        → Each (λ (q : Placed). is_out q.op.kind ≡ false) qs → taken r (tasks qs) x c ≤ sum_by (share e o x given r b c) qs
    taken_less r b c [] h k = omega arith
    taken_less r b c (q ∷ qs) h k =
        let a = taken_cons r c q qs in
        let s = sum_by-cons (share e o x given r b c) q qs in
        let here = part_less r b c q h.0 k.0 in
        let rest = taken_less r b c qs h.1 k.1 in
        omega (arith, a, s, here, rest)

    -- an operation that is not in a cycle takes nothing there
    part_none : (r : Resource) (c : ℕ) (q : Placed) → (is_task q.op.kind ≡ true → cycle_of x (task q) ≡ c → ⊥) → part r c q ≡ 0
    part_none r c q h = by (is_task q.op.kind) refl
      where
        by : (t : Bool) → is_task q.op.kind ≡ t → (if t then taken_by r c x (task q) else 0) ≡ 0
        by true t = off (nat_eq (cycle_of x (task q)) c) refl
          where
            off : (s : Bool) → nat_eq (cycle_of x (task q)) c ≡ s
                → (if s then need_of r (needs_by e.table (instruction_of q.op.kind 0)) else 0) ≡ 0
            off true s = absurd (h t (grind (arith, nat_tests, s)))
            off false s = refl
        by false t = refl

    taken_none : (r : Resource) (c : ℕ) (qs : List Placed)
        → Each (λ (q : Placed). is_task q.op.kind ≡ true → cycle_of x (task q) ≡ c → ⊥) qs → taken r (tasks qs) x c ≡ 0
    taken_none r c [] h = refl
    taken_none r c (q ∷ qs) h =
        let a = taken_cons r c q qs in
        let here = part_none r c q h.0 in
        let rest = taken_none r c qs h.1 in
        omega (arith, a, here, rest)

    -- ---- room in a block

    abbrev close : VarId
    close = let owner = r.owner in var_at (r.first + ops_count owner.ops)

    -- what its operations take in a cycle
    shares_fit : (resource : Resource) (c : ℕ) → sum_by (share e o x given resource r.block c) (region_placed r) ≤ room_of resource
    shares_fit resource c =
        let le = (no_room e.table (issues_of (model_of e o) x) r.block c).1 (schedule.packets r.block c) resource in
        let whole = whole_taken e o x given resource r.block c in
        let one = sum_part (share e o x given resource r.block c) region_placed (blocks e o x) r mr in
        omega (arith, le, whole, one)

    room_in : (resource : Resource) (c : ℕ) → taken resource (tasks (region_placed r)) x c ≤ room_of resource
    room_in resource c = subst (λ qs. taken resource (tasks qs) x c ≤ room_of resource) (sym (region_parts r en))
        (by (nat_eq (slice_index x close.0) c) refl)
      where
        k : (n : ℕ) × (n < length (blocks e o x)) × (slice_get (blocks e o x) n ≡ Some r)
        k = position_of (blocks e o x) r mr

        en : Ended r
        en = region_end e o x given.extended k.0 r k.2

        front : List Placed
        front = front_of r en

        last : Placed
        last = last_of r en

        stays : Each (λ (q : Placed). is_out q.op.kind ≡ false) front
        stays = front_stays r.block r.owner _ r.number r.first en.front en.inner

        in_region : (q : Placed) → Member q front → Member q (region_placed r)
        in_region q m = subst (Member q) (sym (region_parts r en)) (member_append_left front (last ∷ []) q m)

        last_task : is_task last.op.kind ≡ true
        last_task = out_task last.op.kind en.is_end

        last_part : part resource c last ≡ taken_by resource c x (task last)
        last_part = ap (λ (t : Bool). if t then taken_by resource c x (task last) else 0) last_task

        last_at : cycle_of x (task last) ≡ slice_index x close.0
        last_at = let v = vars_of last in ap (λ (kind : ExtKind). slice_index x (var_in (time_by close kind v.cycle)).0) en.is_end

        last_fits : part resource c last ≤ room_of resource
        last_fits = at (nat_eq (cycle_of x (task last)) c) refl
          where
            one : need_of resource (needs_by e.table (instruction_of last.op.kind 0)) ≤ room_of resource
            one = subst (λ (kind : ExtKind). need_of resource (needs_by e.table (instruction_of kind 0)) ≤ room_of resource) (sym en.is_end)
                (end_fits e.table resource)

            at : (t : Bool) → nat_eq (cycle_of x (task last)) c ≡ t → part resource c last ≤ room_of resource
            at true t =
                let own : taken_by resource c x (task last) ≡ need_of resource (needs_by e.table (instruction_of last.op.kind 0)) =
                ap (λ (b : Bool). if b then need_of resource (needs_by e.table (instruction_of last.op.kind 0)) else 0) t in
                let le = one in
                let same = last_part in
                omega (arith, own, le, same)
            at false t =
                let own : taken_by resource c x (task last) ≡ 0 =
                ap (λ (b : Bool). if b then need_of resource (needs_by e.table (instruction_of last.op.kind 0)) else 0) t in
                let same = last_part in
                omega (arith, own, same)

        -- in the cycle of the end there is nothing else
        none_at_end : slice_index x close.0 ≡ c → Each (λ (q : Placed). is_task q.op.kind ≡ true → cycle_of x (task q) ≡ c → ⊥) front
        none_at_end is = each_of _ front (λ q m t at.
            let mq = in_region q m in
            let le = ended_one q (in_all e o x r q mr mq) t in
            let one = tail_one q.op.kind (each_member (λ (q : Placed). is_out q.op.kind ≡ false) front q stays m) in
            let own : slice_index x close.0 ≡ slice_index x q.close.0 = ap (λ (v : VarId). slice_index x v.0) (region_close r q mq) in
            absurd (omega (arith, le, one, own, is, at)))

        by : (t : Bool) → nat_eq (slice_index x close.0) c ≡ t → taken resource (tasks (front ++ last ∷ [])) x c ≤ room_of resource
        by true e1 =
            let split = taken_last resource c front last in
            let none = taken_none resource c front (none_at_end (grind (arith, nat_tests, e1))) in
            let le = last_fits in
            omega (arith, split, none, le)
        by false e1 =
            let split = taken_last resource c front last in
            let none = part_none resource c last (λ t at. absurd (unequal (nat_eq (slice_index x close.0) c)
            (grind (arith, nat_tests, last_at, at)) e1)) in
            let less = taken_less resource r.block c front
            (each_of (λ (q : Placed). q.block ≡ r.block) front (λ q m. of_region r q (in_region q m))) stays in
            let sums = sum_by-append (share e o x given resource r.block c) front (last ∷ []) in
            let le = subst (λ qs. sum_by (share e o x given resource r.block c) qs ≤ room_of resource) (region_parts r en)
            (shares_fit resource c) in
            omega (arith, split, none, less, sums, le)
          where
            unequal : (b : Bool) → b ≡ true → b ≡ false → ⊥
            unequal b h k = let z : true ≡ false = sym h ∙ k in cc z

    -- ---- order

    abbrev m : Model
    m = model_of e o

    order_met : Met x (known_befores m r.block (region_places r))
    order_met = each_join (λ (c : Constraint). meets c x ≡ true) (befores_in (places_of m) arcs)
        (call_befores_by e.table arcs (region_places r))
        (each_map (λ (c : Constraint). meets c x ≡ true) (arc_before (places_of m)) arcs
        (each_of (λ (a : Arc). meets (arc_before (places_of m) a) x ≡ true) arcs
        (λ a ma. kept_met e o x given a (kept e o x given schedule r mr a ma))))
        (subst (λ (ps : List Place). Met x (call_befores_by e.table arcs ps)) (places_in r) (block_met e o x given schedule r mr))

    -- ---- its length

    abbrev ops : List Task
    ops = tasks_in e.table room (r.block == 0) owed arcs (region_places r)

    abbrev IsEnded : Task → Type 0
    IsEnded t = cycle_of x t + t.tail ≤ slice_index x close.0

    abbrev IsBegun : Task → Type 0
    IsBegun t = t.head ≤ cycle_of x t

    -- the end is in the cycle of its variable
    end_at : (q : Placed) → Member q (region_placed r) → is_out q.op.kind ≡ true → cycle_of x (task q) ≡ slice_index x close.0
    end_at q m out =
        let v = vars_of q in
        ap (λ (kind : ExtKind). slice_index x (var_in (time_by q.close kind v.cycle)).0) (out_is q.op.kind out)
        ∙ ap (λ (v : VarId). slice_index x v.0) (sym (region_close r q m))

    -- the end issues behind all, and what asks for Spills behind them and what has issued by its cycle
    begun_task : (q : Placed) → Member q (region_placed r) → is_task q.op.kind ≡ true → IsBegun (task q)
    begun_task q m t = by (is_out q.op.kind) (is_asking room (region_places r) (place_of q)) refl refl
      where
        by : (b c : Bool) → is_out q.op.kind ≡ b → is_asking room (region_places r) (place_of q) ≡ c
            → (if b then end_head e.table room (r.block == 0) owed arcs (region_places r)
            else (if c then asked_head e.table room (r.block == 0) arcs (region_places r) (place_of q) else 0)) ≤ cycle_of x (task q)
        by true c out k =
            let filled = end_behind e o x given schedule r mr q m in
            let at = end_at q m out in
            omega (arith, filled, at)
        by false true out k =
            let source = asking_source room (region_places r) (place_of q) k in
            let le = heads e o x given schedule r mr q m source in
            let filled = heads_filled e o x given schedule r mr q m source in
            let same = cycle_is q t in
            omega (arith, le, filled, same)
        by false false out k = omega arith

    -- and before its Reloads and what issues after it
    ended_task : (q : Placed) → Member q (region_placed r) → is_task q.op.kind ≡ true → IsEnded (task q)
    ended_task q m t = by (is_asking room (region_places r) (place_of q)) refl
      where
        own : cycle_of x (task q) + tail_of q.op.kind ≤ slice_index x close.0
        own = subst (λ (v : VarId). cycle_of x (task q) + tail_of q.op.kind ≤ slice_index x v.0) (sym (region_close r q m))
            (ended_one q (in_all e o x r q mr m) t)

        by : (b : Bool) → is_asking room (region_places r) (place_of q) ≡ b
            → cycle_of x (task q) + (if b then asked_tail e.table room arcs (region_places r) (place_of q) else tail_of q.op.kind)
            ≤ slice_index x close.0
        by true k =
            let same = cycle_is q t in
            let source = asking_source room (region_places r) (place_of q) k in
            let one = source_tail_one q.op.kind source in
            let end : slice_index x close.0 ≡ (issue_at x q).end = ap (λ (v : VarId). slice_index x v.0) (region_close r q m) in
            let inside = own in
            let le = tails e o x given schedule r mr q m source (omega (arith, same, one, end, inside)) in
            let filled = tails_filled e o x given schedule r mr q m source in
            omega (arith, le, filled, same, end)
        by false k = own

    each_task : (P : Task → Type 0) → ((q : Placed) → Member q (region_placed r) → is_task q.op.kind ≡ true → P (task q)) → Each P ops
    each_task P h =
        let found = with_kind is_task (region_places r) in
        each_map P made found (each_of (λ (p : Place). P (made p)) found (λ p mp.
        let f = member_of_filter (λ (p : Place). is_task p.it.kind) (region_places r) p mp in
        let q = member_map_of place_of (region_placed r) p f.0 in
        let t : is_task q.0.op.kind ≡ true = ap (λ (p : Place). is_task p.it.kind) q.2 ∙ f.1 in
        subst (λ (p : Place). P (made p)) q.2 (h q.0 q.1 t)))

    fits : FitsBlock ops (precedences_by ops (known_befores m r.block (region_places r))) close x
    fits = record {
      ordered = all_each (Ordered x ops) (precedences_by ops (known_befores m r.block (region_places r)))
          (ordered_each x ops (known_befores m r.block (region_places r)) order_met);
      begun = all_each IsBegun ops (each_task IsBegun begun_task);
      ended = all_each IsEnded ops (each_task IsEnded ended_task);
      room = room_in;
    }

    length_met : Met x (length_in (model_of e o) r.block r.number r.owner (region_vars r))
    length_met = let owner = r.owner in
        subst (λ (ps : List Place). Met x (length_by e.table
        (length (registers_among (block_room m.domains (definers_of m) ps))) (r.block == 0)
        (owed_by (crowded_of m) (edges_between e.blocks) r.block owner ps) arcs (known_befores m r.block ps) close owner.horizon ps ∷ []))
        (sym (places_in r))
        (fits_holds ops (precedences_by ops (known_befores m r.block (region_places r))) close x fits, tt)

  pub lengths_met : AllMet (lengths_of (model_of e o)) x
  lengths_met = (regions_met e o x (length_in (model_of e o))).1 (each_of _ (blocks e o x) (λ r m. length_met r m))
