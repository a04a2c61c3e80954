-- The operations of a block that its length speaks of have room in each cycle beside others of the block that issue before its end.
use Rattle.std.proofs.Common.{ℕ, ◌≡◌, ◌+◌, ◌<◌, ◌≤◌, Bool, true, false, List, [], ◌∷◌, length, map, filter, inl, inr, refl, sym, ap, ◌∙◌}
use Rattle.std.proofs.Common.{subst, arith, eq-eqb}
use Rattle.std.specs.Prelude.{◌&&◌, ◌==◌, nat_eq, slice_get, slice_index, sum_by, if◌then◌else◌}
use Rattle.std.proofs.lemmas.Bool.Decides.{nat_tests}
use Rattle.std.proofs.lemmas.List.Sums.{sum_by-cons}
use Rattle.un_base.specs.declared.ids.VarId.{VarId}
use Rattle.un_isa.specs.PacketCounts.{places_of as room_of, share_of as need_of}
use Rattle.un_isa.specs.declared.packet_counts.Resource.{Resource}
use Rattle.un_ir.specs.declared.extended.ExtKind.{ExtKind}
use Rattle.un_ir.specs.declared.extended.Ext.{Ext}
use Rattle.un_ir.specs.Linear.{is_out}
use Rattle.un_model.specs.declared.model.Model.{Model}
use Rattle.un_model.specs.declared.model.Options.{Options}
use Rattle.un_model.specs.Instructions.{instruction_of, needs_by}
use Rattle.un_model.specs.Schedules.{issues_of, schedule_of, value_by}
use Rattle.un_model.specs.Solutions.{IsSchedule, latency_gap, share_of}
use Rattle.un_model.specs.Variables.{model_of, arcs_of, var_at, cycle_place, ops_count}
use Rattle.un_lists.proofs.Lists.{Each, Member, each_of, each_member}
use Rattle.un_model.proofs.Placed.{Placed, Region, region_placed, vars_of, issue_at}
use Rattle.un_press.proofs.Counting.{Differ, sum_beside}
use Rattle.un_length.specs.declared.block.Precedence.{Precedence}
use Rattle.un_length.specs.declared.block.Task.{Task}
use Rattle.un_length.specs.Blocks.{cycle_of, taken_by, taken, FitsBlock}
use Rattle.un_length.specs.BlockLaws.{holds_fits}
use Rattle.un_sites.specs.Befores.{known_befores, length_in}
use Rattle.un_sites.specs.Lengths.{is_task, var_in, task_of, length_by}
use Rattle.un_sites.specs.Places.{Place, time_by, definers_of}
use Rattle.un_sites.specs.Postings.{with_kind}
use Rattle.un_sites.specs.Pressures.{block_room, registers_among}
use Rattle.un_sites.specs.Rooms.{arcs_or}
use Rattle.un_sites.specs.Saved.{crowded_of, edges_between, owed_by}
use Rattle.un_post.proofs.Blocks.{blocks, region_places, region_vars, region_close, places_in, regions_met}
use Rattle.un_post.proofs.Facts.{Given, times}
use Rattle.un_post.proofs.Lengths.{lengths_met, needs_as, timed_by}
use Rattle.un_post.proofs.Meeting.{Met}
use Rattle.un_post.proofs.Packets.{share, no_room, whole_taken, sum_part}
use Rattle.un_post.proofs.Placing.{place_of}
use Rattle.un_model.proofs.Regions.{of_region, out_is}
use Rattle.un_rows.specs.Rows.{own_ops, own_arcs}

-- numbers that are not one
is_not : (a b : ℕ) → (a ≡ b → ⊥) → nat_eq a b ≡ false
is_not a b ne = by (nat_eq a b) refl
  where
    by : (t : Bool) → nat_eq a b ≡ t → t ≡ false
    by true e = absurd (ne (grind (arith, nat_tests, e)))
    by false e = refl

module _ (e : Ext) (o : Options) (x : List ℕ) (given : Given e o x)
    (schedule : IsSchedule (latency_gap e.table) (model_of e o).domains (model_of e o) x (schedule_of (model_of e o) x)) where
  abbrev m : Model
  m = model_of e o

  module _ (r : Region) (mr : Member r (blocks e o x)) where
    -- ---- the operations of a block in its length

    abbrev pub ops : List Task
    ops = own_ops m r.block r.owner (region_places r)

    abbrev pub arcs : List Precedence
    arcs = own_arcs m r.block ops (region_places r)

    abbrev pub close : VarId
    close = let owner = r.owner in var_at (r.first + ops_count owner.ops)

    posted : Met x (length_in m r.block r.number r.owner (region_vars r))
    posted = each_member (λ (s : Region). Met x (length_in m s.block s.number s.owner (region_vars s))) (blocks e o x) r
        ((regions_met e o x (length_in m)).0 (lengths_met e o x given schedule)) mr

    -- they keep it
    pub fits : FitsBlock ops arcs close x
    fits = let owner = r.owner in
        holds_fits ops arcs close x (subst (λ (ps : List Place). Met x (length_by e.table
        (length (registers_among (block_room m.domains (definers_of m) ps))) (r.block == 0)
        (owed_by (crowded_of m) (edges_between e.blocks) r.block owner ps) (arcs_or (slice_get (arcs_of e) r.block))
        (known_befores m r.block ps) close owner.horizon ps ∷ [])) (places_in r) posted).0

    abbrev pub made : Place → Task
    made = task_of e.table (length (registers_among (block_room m.domains (definers_of m) (region_places r)))) (r.block == 0)
        (owed_by (crowded_of m) (edges_between e.blocks) r.block r.owner (region_places r)) (arcs_or (slice_get (arcs_of e) r.block))
        (region_places r)

    abbrev pub task : Placed → Task
    task q = made (place_of q)

    abbrev tasks : List Placed → List Task
    tasks qs = map made (with_kind is_task (map place_of qs))

    pub cycle_is : (q : Placed) → is_task q.op.kind ≡ true → cycle_of x (task q) ≡ (issue_at x q).cycle
    cycle_is q t = timed_by q.op.kind q.close (q.first + cycle_place q.op) x t ∙ times e o x given q

    end_at : (q : Placed) → Member q (region_placed r) → is_out q.op.kind ≡ true → cycle_of x (task q) ≡ slice_index x close.0
    end_at q mq out =
        let v = vars_of q in
        ap (λ (kind : ExtKind). slice_index x (var_in (time_by q.close kind v.cycle)).0) (out_is q.op.kind out)
        ∙ ap (λ (v : VarId). slice_index x v.0) (sym (region_close r q mq))

    -- ---- what they take

    abbrev taken_here : Resource → ℕ → Placed → ℕ
    taken_here s c q = share e o x given s r.block c q

    one_taken : (s : Resource) (c : ℕ) (q : Placed) → q.block ≡ r.block → is_task q.op.kind ≡ true → is_out q.op.kind ≡ false
        → taken_by s c x (task q) ≡ taken_here s c q
    one_taken s c q block t out =
        let i = issue_at x q in
        let here : (q.block == r.block) ≡ true = eq-eqb q.block r.block block in
        ap (λ n. if nat_eq n c then need_of s (needs_by e.table (instruction_of q.op.kind 0)) else 0) (cycle_is q t)
        ∙ ap (λ n. if nat_eq i.cycle c then n else 0) (needs_as e.table s q.op.kind (value_by x (vars_of q).instr) t out)
        ∙ ap (λ b. if b && nat_eq i.cycle c then share_of e.table s i.instr else 0) (sym here)

    module _ (s : Resource) (c : ℕ) (before : slice_index x close.0 ≡ c → ⊥) where
      -- none takes more as one of the length's operations
      one_less : (q : Placed) → Member q (region_placed r) → is_task q.op.kind ≡ true → taken_by s c x (task q) ≤ taken_here s c q
      one_less q mq t = by (is_out q.op.kind) refl
        where
          by : (b : Bool) → is_out q.op.kind ≡ b → taken_by s c x (task q) ≤ taken_here s c q
          by true out =
              let at = end_at q mq out in
              let off = is_not (cycle_of x (task q)) c (λ same. before (sym at ∙ same)) in
              let none : taken_by s c x (task q) ≡ 0 =
              ap (λ (b : Bool). if b then need_of s (needs_by e.table (instruction_of q.op.kind 0)) else 0) off in
              omega (arith, none)
          by false out = let same = one_taken s c q (of_region r q mq) t out in omega (arith, same)

      all_less : (qs : List Placed) → ((q : Placed) → Member q qs → Member q (region_placed r))
          → taken s (tasks qs) x c ≤ sum_by (taken_here s c) (filter (λ (q : Placed). is_task q.op.kind) qs)
      all_less [] sub = omega arith
      all_less (q ∷ qs) sub = by (is_task q.op.kind) refl (all_less qs (λ p mp. sub p (inr mp)))
        where
          by : (b : Bool) → is_task q.op.kind ≡ b
              → taken s (tasks qs) x c ≤ sum_by (taken_here s c) (filter (λ (p : Placed). is_task p.op.kind) qs)
              → taken s (map made (if b then place_of q ∷ with_kind is_task (map place_of qs) else with_kind is_task (map place_of qs))) x c
              ≤ sum_by (taken_here s c) (if b then q ∷ filter (λ (p : Placed). is_task p.op.kind) qs
              else filter (λ (p : Placed). is_task p.op.kind) qs)
          by true t rest =
              let a = sum_by-cons (taken_by s c x) (task q) (tasks qs) in
              let b = sum_by-cons (taken_here s c) q (filter (λ (p : Placed). is_task p.op.kind) qs) in
              let here = one_less q (sub q (inl refl)) t in
              omega (arith, a, b, here, rest)
          by false t rest = rest

    -- ---- others of the block

    -- what a block's operations take in a cycle
    shares_fit : (s : Resource) (c : ℕ) → sum_by (taken_here s c) (region_placed r) ≤ room_of s
    shares_fit s c =
        let le = (no_room e.table (issues_of m x) r.block c).1 (schedule.packets r.block c) s in
        let whole = whole_taken e o x given s r.block c in
        let one = sum_part (share e o x given s r.block c) region_placed (blocks e o x) r mr in
        omega (arith, le, whole, one)

    -- an operation of the block that its length does not speak of, before its end
    pub record IsBeside (p : Placed) : Type 0 where
      pub member : Member p (region_placed r)
      pub other : is_task p.op.kind ≡ false
      pub before : (issue_at x p).cycle < slice_index x close.0

    none_later : (s : Resource) (c : ℕ) (ps : List Placed) → slice_index x close.0 ≡ c → Each IsBeside ps → sum_by (taken_here s c) ps ≡ 0
    none_later s c [] is each = refl
    none_later s c (p ∷ ps) is each =
        let i = issue_at x p in
        let b = each.0 in
        let lt = b.before in
        let cons = sum_by-cons (taken_here s c) p ps in
        let rest = none_later s c ps is each.1 in
        let off = is_not i.cycle c (λ same. omega (arith, lt, is, same)) in
        let zero_here : taken_here s c p ≡ (if (p.block == r.block) && false then share_of e.table s i.instr else 0) =
        ap (λ (t : Bool). if (p.block == r.block) && t then share_of e.table s i.instr else 0) off in
        let none = both_false (p.block == r.block) (share_of e.table s i.instr) in
        omega (arith, cons, rest, zero_here, none)
      where
        both_false : (b : Bool) (n : ℕ) → (if b && false then n else 0) ≡ 0
        both_false true n = refl
        both_false false n = refl

    pub room_beside : (ps : List Placed) → Differ ps → Each IsBeside ps → (s : Resource) (c : ℕ)
        → taken s ops x c + sum_by (taken_here s c) ps ≤ room_of s
    room_beside ps differ each s c = by (nat_eq (slice_index x close.0) c) refl
      where
        by : (b : Bool) → nat_eq (slice_index x close.0) c ≡ b → taken s ops x c + sum_by (taken_here s c) ps ≤ room_of s
        by true is =
            let fit = fits in
            let le = fit.room s c in
            let none = none_later s c ps (grind (arith, nat_tests, is)) each in
            omega (arith, le, none)
        by false is =
            let ne : slice_index x close.0 ≡ c → ⊥ = λ same.
            (let t : nat_eq (slice_index x close.0) c ≡ true = grind (arith, nat_tests, same) in
            let z : true ≡ false = sym t ∙ is in cc z) in
            let less = all_less s c ne (region_placed r) (λ q mq. mq) in
            let beside = sum_beside (taken_here s c) (λ (q : Placed). is_task q.op.kind) (region_placed r) ps differ
            (each_of (λ (p : Placed). Member p (region_placed r) × (is_task p.op.kind ≡ false)) ps (λ p mp.
            let b = each_member IsBeside ps p each mp in (b.member, b.other))) in
            let all = shares_fit s c in
            omega (arith, less, beside, all)
