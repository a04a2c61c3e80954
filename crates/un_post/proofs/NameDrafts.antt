-- What a block issues for the names that cross its calls where it hands its saved values over where it takes them, and hands names on: for
-- each call the draft that it owes.
use Rattle.std.proofs.Common.{ℕ, zero, suc, ◌≡◌, ◌+◌, ◌-◌, ◌<◌, ◌≤◌, Bool, true, false, List, [], ◌∷◌, ◌++◌, length, map, filter, inl}
use Rattle.std.proofs.Common.{refl, sym, ap, ◌∙◌, subst, arith, eq-eqb}
use Rattle.std.specs.Prelude.{Option, Some, None, IfSome, ◌&&◌, ◌||◌, ◌==◌, not, nat_lt, replicate, slice_get, slice_index, if◌then◌else◌}
use Rattle.std.specs.List.{AllByRecursion, list_any}
use Rattle.std.proofs.lemmas.Bool.{eqb-true}
use Rattle.std.proofs.lemmas.Bool.Decides.{nat_tests}
use Rattle.un_base.specs.declared.ids.NameId.{NameId}
use Rattle.un_base.specs.declared.ids.TempId.{TempId}
use Rattle.un_isa.specs.Registers.{callee_saved, saved_registers}
use Rattle.un_isa.specs.Tables.{latency_of}
use Rattle.un_domains.specs.Sets.{has}
use Rattle.un_isa.specs.declared.op.Op.{Op}
use Rattle.un_isa.specs.declared.op.Op.TheVariants.{Reload}
use Rattle.un_isa.specs.declared.reg.TheConstants.{REGISTERS}
use Rattle.un_isa.specs.declared.table.Table.{Table}
use Rattle.un_ir.specs.Extended.{IsGoodOperand, Want, anywhere, name_kind, temp, wants_of, wants_of_out}
use Rattle.un_ir.specs.Kinds.{is_call_kind, is_delimiter}
use Rattle.un_ir.specs.Linear.{ending_of, is_in}
use Rattle.un_ir.specs.declared.function.Kind.{Kind}
use Rattle.un_ir.specs.declared.function.Kind.TheVariants.{General}
use Rattle.un_ir.specs.declared.function.Term.{Term}
use Rattle.un_ir.specs.declared.function.Term.TheVariants.{Fall, Jump, Branch, Ret}
use Rattle.un_ir.specs.declared.extended.Ext.{Ext}
use Rattle.un_ir.specs.declared.extended.ExtBlock.{ExtBlock}
use Rattle.un_ir.specs.declared.extended.ExtKind.{ExtKind}
use Rattle.un_ir.specs.declared.extended.ExtKind.TheVariants.{In, Out, Body, End, Copy, Enter, Leave}
use Rattle.un_ir.specs.declared.extended.ExtOp.{ExtOp}
use Rattle.un_ir.specs.declared.extended.Operand.{Operand}
use Rattle.un_isa.specs.declared.reg.Reg.{Reg}
use Rattle.un_model.specs.Congruences.{live_in_temps, term_of}
use Rattle.un_model.specs.Instructions.{instruction_of, space_read}
use Rattle.un_model.specs.Schedules.{schedule_of, value_by}
use Rattle.un_model.specs.Solutions.{InSpace, IsSchedule, latency_gap}
use Rattle.un_model.specs.Variables.{model_of, arcs_of, ops_count, var_at}
use Rattle.un_model.specs.declared.model.Arc.{Arc}
use Rattle.un_model.specs.declared.model.Options.{Options}
use Rattle.un_lists.proofs.Lists.{Each, Member, each_of, each_more, each_member, each_join, each_map, member_at, member_map, member_filter}
use Rattle.un_lists.proofs.Lists.{member_map_of, member_of_filter, none_any}
use Rattle.un_model.proofs.Operations.{placed_get}
use Rattle.un_model.proofs.Placed.{Placed, Region, region_placed, vars_of, issue_at, Spot}
use Rattle.un_model.proofs.PlacedSchedules.{all, member_joined}
use Rattle.un_model.proofs.Readings.{placed_good, zip_get}
use Rattle.un_press.proofs.Reloading.{Wanted}
use Rattle.un_press.proofs.Spilling.{Several, one_placed}
use Rattle.un_length.specs.declared.block.Task.{Task}
use Rattle.un_sites.specs.Crossings.{crossing, is_ahead, is_crossing, is_loose}
use Rattle.un_sites.specs.Places.{Place}
use Rattle.un_sites.specs.Rooms.{arcs_or, is_before, is_behind, reached, temps_in}
use Rattle.un_sites.specs.Shares.{has_leave}
use Rattle.un_post.proofs.BlockTemps.{region_spots}
use Rattle.un_post.proofs.Blocks.{blocks, in_all, region_owner, region_places, stands_in}
use Rattle.un_post.proofs.Congruences.{same_term}
use Rattle.un_post.proofs.Crossed.{Keeping, across, by_definer, call_keeping, carried, crossing_spots, values_differ, values_many, wanted}
use Rattle.un_post.proofs.Facts.{Given}
use Rattle.un_post.proofs.Placing.{place_of}
use Rattle.un_model.proofs.Regions.{of_region}
use Rattle.un_post.proofs.Tests.{and_iff}
use Rattle.un_saved.specs.Names.{IsName}
use Rattle.un_saved.specs.Saved.{keeps_places, saved_in}
use Rattle.un_saved.specs.Standing.{in_slots}
use Rattle.un_saved.specs.declared.boundary.Boundary.TheVariants.{StartOf}
use Rattle.un_saved.proofs.CallOwes.{ReloadsBehind, names_owe}
use Rattle.un_saved.proofs.CallReloads.{call_crowds}
use Rattle.un_model.proofs.RegionEnds.{region_good}
use Rattle.un_saved.proofs.OnePlace.{drop_get, in_is, live_in_is}
use Rattle.un_rows.specs.Drafts.{owed, behind_call, call_draft, call_drafts, crossed_draft, drafts_by, is_crowded}
use Rattle.un_rows.specs.Kept.{IsKeptBy}
use Rattle.un_rows.specs.Roles.{hands_on}
use Rattle.un_rows.specs.Rows.{basis_of, crossed_by, is_among}
use Rattle.un_rows.specs.declared.draft.Draft.{Draft}
use Rattle.un_rows.specs.declared.draft.Owed.{Owed}
use Rattle.un_rows.specs.declared.known.Crossed.{Crossed}
use Rattle.un_rows.specs.declared.role.Role.TheVariants.{Middle}
use Rattle.un_post.proofs.DraftCalls.{copy_other, firsts, each_first, differ_first, behind_own, beside_of, same_issue}
use Rattle.un_post.proofs.Drafted.{solved, cycles, Issues, AllIssue, all_cycles, IsMet}
use Rattle.un_post.proofs.SavedDrafts.{CallOf, call_of, calls, call_cycle, end_is}
use Rattle.un_post.proofs.RoomBeside.{ops}

-- ---- what a block's end reads

-- it asks for no home where the block hands on
homeless : {A : Type 0} (f : A → Kind) (xs : List A) → Each (λ (w : Want). w.home ≡ None) (map (λ (a : A). anywhere (f a)) xs)
homeless f [] = tt
homeless f (y ∷ ys) = (refl, homeless f ys)

handed_homeless : (t : Table) (names : List Kind) (live_out : List NameId) → Each (λ (w : Want). w.home ≡ None)
    (map (λ (name : NameId). anywhere (name_kind names name)) live_out ++ map (λ (r : ℕ). anywhere General) (saved_registers t))
handed_homeless t names live_out = each_join (λ (w : Want). w.home ≡ None)
    (map (λ (name : NameId). anywhere (name_kind names name)) live_out) (map (λ (r : ℕ). anywhere General) (saved_registers t))
    (homeless (name_kind names) live_out) (homeless (λ (r : ℕ). General) (saved_registers t))

out_homeless : (t : Table) (names : List Kind) (live_out : List NameId) (term : Term) → hands_on term ≡ true
    → Each (λ (w : Want). w.home ≡ None) (wants_of_out t names live_out term)
out_homeless t names live_out (Ret value) h = absurd (cc h)
out_homeless t names live_out Fall h = handed_homeless t names live_out
out_homeless t names live_out (Jump to) h = handed_homeless t names live_out
out_homeless t names live_out (Branch pred sense to) h = handed_homeless t names live_out

and_none : (a b : Bool) → b ≡ false → (a && b) ≡ false
and_none true b h = h
and_none false b h = refl

module _ (e : Ext) (o : Options) (x : List ℕ) (given : Given e o x)
    (schedule : IsSchedule (latency_gap e.table) (model_of e o).domains (model_of e o) x (schedule_of (model_of e o) x))
    (r : Region) (mr : Member r (blocks e o x)) where
  abbrev own : List Task
  own = ops e o x given schedule r mr

  abbrev arcs : List Arc
  arcs = arcs_or (slice_get (arcs_of e) r.block)

  abbrev saved : List TempId
  saved = saved_in r.owner

  -- what an operand is to be
  wanted_at : (q : Placed) (j : ℕ) (y : Operand) → Member q (all e o x) → slice_get q.op.operands j ≡ Some y
      → (want : Want) × (slice_get (wants_of e.table e.names e.blocks q.owner q.op.kind q.op) j ≡ Some want) × (y.home ≡ want.home)
  wanted_at q j y m at =
      let g = placed_good e o x (solved e o x given schedule r mr) q m in
      let keeps = g.keeps in
      let z = zip_get (IsGoodOperand e.names e.blocks g.before) q.op.operands (wants_of e.table e.names e.blocks q.owner q.op.kind q.op) j y
      keeps.operands at in
      let ok = z.2 in
      (z.0, z.1, ok.home)

  module _ (hands : (let b : ExtBlock = r.owner in hands_on (term_of b.ops) ≡ true)) (c : Placed) (mc : Member c (region_placed r))
      (call : is_call_kind c.op.kind ≡ true) where
    abbrev keep : Keeping e o x given schedule r c
    keep = call_keeping e o x given schedule r mr c mc call

    -- the values that are there in the call's cycle, and are read in registers behind it
    abbrev vs : List TempId
    vs = across e o x given schedule r mr c mc keep true

    abbrev IsWanted : TempId → Type 0
    IsWanted v = Wanted e o x (solved e o x given schedule r mr) c v

    -- ---- each is read by an operation before the block's end

    -- the block's end needs no register
    no_end : (v : TempId) (w : IsWanted v) → (let y = w.crossing in let q = y.reader in q.user.op.kind ≡ Out) → ⊥
    no_end v w k =
        let y = w.crossing in
        let q = y.reader in
        let got = wanted_at q.user q.place q.operand q.member q.at in
        let block : q.user.block ≡ r.block = y.block ∙ of_region r c mc in
        let owner = region_owner r q.user (stands_in e o x r q.user mr q.member block) in
        let own_block : ExtBlock = q.user.owner in
        let first : ExtBlock = r.owner in
        let on : hands_on (let ending = ending_of own_block.ops in ending.term) ≡ true =
        subst (λ (b : ExtBlock). hands_on (let ending = ending_of b.ops in ending.term) ≡ true) (sym owner)
        (sym (ap hands_on (same_term first.ops)) ∙ hands) in
        let wants = subst (λ (kind : ExtKind). slice_get (wants_of e.table e.names e.blocks q.user.owner kind q.user.op) q.place
        ≡ Some got.0) k got.1 in
        let all_wants = wants_of_out e.table e.names own_block.live_out (let ending = ending_of own_block.ops in ending.term) in
        let none = each_member (λ (w : Want). w.home ≡ None) all_wants got.0 (out_homeless e.table e.names own_block.live_out _ on)
        (member_at all_wants q.place got.0 wants) in
        let vars = vars_of q.user in
        let instr : (issue_at x q.user).instr ≡ None = ap (λ (kind : ExtKind). instruction_of kind (value_by x vars.instr)) k in
        let lt = w.needs REGISTERS (subst (λ (i : Option Op). InSpace REGISTERS (space_read i q.place)) (sym instr) tt)
        (subst (λ (home : Option Reg). IfSome home (λ (z : Reg). REGISTERS ≡ z.0)) (sym (got.2 ∙ none)) tt) in
        omega (arith, lt)

    inner : (v : TempId) (w : IsWanted v) → (let y = w.crossing in let q = y.reader in is_delimiter q.user.op.kind ≡ false)
    inner v w = let y = w.crossing in let q = y.reader in by q.user.op.kind refl
      where
        by : (kind : ExtKind) → (let y = w.crossing in let q = y.reader in q.user.op.kind ≡ kind) → is_delimiter kind ≡ false
        by In k =
            let y = w.crossing in
            let q = y.reader in
            let got = wanted_at q.user q.place q.operand q.member q.at in
            let none = subst (λ (kind : ExtKind). slice_get (wants_of e.table e.names e.blocks q.user.owner kind q.user.op) q.place
            ≡ Some got.0) k got.1 in
            absurd (cc none)
        by Out k = absurd (no_end v w k)
        by (Body so) k = refl
        by (End term) k = refl
        by (Copy node) k = refl
        by Enter k = refl
        by Leave k = refl

    names : Each (IsName e o x (solved e o x given schedule r mr) c) vs
    names = each_of (IsName e o x (solved e o x given schedule r mr) c) vs (λ v m.
        let w = each_member IsWanted vs v (wanted e o x given schedule r mr c mc keep) m in
        record { wanted = w; inner = inner v w })

    -- ---- none is a saved value, where none of those that cross is

    abbrev behind : List Place
    behind = filter (is_behind arcs (place_of c)) (region_places r)

    abbrev loose : List Place
    loose = filter (is_loose arcs (place_of c)) (region_places r)

    abbrev ahead : List Place
    ahead = filter (is_ahead arcs (place_of c)) (region_places r)

    abbrev crossed : List TempId
    crossed = crossing true arcs (region_places r) (place_of c)

    -- what a value that crosses comes to crosses too
    crosses_on : (v : TempId) → Member v vs → is_crossing true behind loose v ≡ true
    crosses_on v m =
        let on = carried e o x given schedule r mr c mc keep true in
        let s = member_map_of (λ (u : Spot). temp (on.last u.temp.0)) (crossing_spots e o x given schedule r mr c mc keep true) v m in
        let f = member_of_filter (λ (u : Spot). is_crossing true behind loose u.temp)
        (filter (by_definer (λ (q : Placed). is_ahead arcs (place_of c) (place_of q))) (region_spots r)) s.0 s.1 in
        subst (λ (u : TempId). is_crossing true behind loose u ≡ true) s.2 (on.closed (s.0).temp.0 f.1)

    module _ (k : ℕ) (at : slice_get (blocks e o x) k ≡ Some r) where
      -- a saved value is given by the block's start
      record First (v : TempId) : Type 0 where
        place : Placed
        member : Member place (region_placed r)
        kind : place.op.kind ≡ In
        gives : Member v place.op.results

      first_gives : (v : TempId) (j : ℕ) → slice_get saved j ≡ Some v → First v
      first_gives v j live =
          let b : ExtBlock = r.owner in
          let g = region_good e o x given.extended k r at in
          let parts = g.parts in
          let p = parts.0 in
          let h = parts.1 in
          let start = p.start in
          let kind = in_is start.kind h.start in
          let here : slice_get b.ops 0 ≡ Some start = ap (λ (ops : List ExtOp). slice_get ops 0) h.whole in
          let got = placed_get r.block b (var_at (r.first + ops_count b.ops)) r.number r.first 0 b.ops start here in
          let results : live_in_temps b.ops ≡ start.results = live_in_is b.ops _ start h.whole kind in
          let i = length b.live_in + j in
          let there : slice_get start.results i ≡ Some v = ap (λ (ts : List TempId). slice_get ts i) (sym results)
          ∙ sym (drop_get (length b.live_in) j (live_in_temps b.ops)) ∙ live in
          record {
            place = got.0;
            member = member_at (region_placed r) 0 got.0 got.1;
            kind = ap (λ (op : ExtOp). op.kind) got.2 ∙ kind;
            gives = subst (λ (op : ExtOp). Member v op.results) (sym got.2) (member_at start.results i v there);
          }

      -- which is before the call
      first_ahead : (v : TempId) (f : First v) → (let q = f.place in is_ahead arcs (place_of c) (place_of q) ≡ true)
      first_ahead v f =
          let q = f.place in
          (and_iff (not (q.number == c.number)) (is_before arcs (place_of q) (place_of c))).0 (
            other (q.number == c.number) refl,
            ap (λ (kind : ExtKind). is_in kind || has (reached arcs q.number) c.number) f.kind,
          )
        where
          other : (b : Bool) → (let q = f.place in (q.number == c.number) ≡ b) → not b ≡ true
          other false is = refl
          other true is =
              let q = f.place in
              let one = one_placed e o x (solved e o x given schedule r mr) q c (in_all e o x r q mr f.member) (in_all e o x r c mr mc)
              (eqb-true q.number c.number is) in
              let z : false ≡ true = sym (ap is_call_kind f.kind) ∙ ap (λ (p : Placed). is_call_kind p.op.kind) one ∙ call in
              absurd (cc z)

      not_saved : list_any (is_among saved) crossed ≡ false → (v : TempId) → Member v vs → (j : ℕ) → slice_get saved j ≡ Some v → ⊥
      not_saved none v m j live =
          let f = first_gives v j live in
          let q = f.place in
          let early : Member (place_of q) ahead = member_filter (is_ahead arcs (place_of c)) (region_places r) (place_of q)
          (member_map place_of (region_placed r) q f.member) (first_ahead v f) in
          let there : Member v (temps_in ahead) = member_joined (map (λ (p : Place). p.it.results) ahead) q.op.results v
          (member_map (λ (p : Place). p.it.results) ahead (place_of q) early) f.gives in
          let mine : Member v crossed = member_filter (is_crossing true behind loose) (temps_in ahead) v there (crosses_on v m) in
          let off = each_member (λ (t : TempId). is_among saved t ≡ false) crossed v (none_any (is_among saved) crossed none) mine in
          let no = each_member (λ (u : TempId). (u.0 == v.0) ≡ false) saved v (none_any (λ (u : TempId). u.0 == v.0) saved off)
          (member_at saved j v live) in
          let same : (v.0 == v.0) ≡ true = eq-eqb v.0 v.0 refl in
          let z : true ≡ false = sym same ∙ no in
          cc z

      -- ---- its draft

      module _ (keeps : keeps_places r.owner ≡ true) where
        abbrev count : ℕ
        count = in_slots (schedule_of (model_of e o) x) e.blocks (StartOf k) (length (saved_registers e.table))

        abbrev Reloaded : Placed → Type 0
        Reloaded = ReloadsBehind e o x (solved e o x given schedule r mr) k r at keeps c mc call

        abbrev reload : Owed
        reload = owed Reload 1 (latency_of e.table Reload + 1)

        -- those that it owes
        reloads : (n : ℕ) → list_any (is_among saved) crossed ≡ false → n + (length (callee_saved e.table) + count)
            ≤ length crossed + length (saved_registers e.table) → Several e o x (solved e o x given schedule r mr) Reloaded n
        reloads n none few =
            let many : length vs ≡ length crossed = values_many e o x given schedule r mr c mc keep true in
            names_owe e o x (solved e o x given schedule r mr) k r at keeps c mc call vs names
            (values_differ e o x given schedule r mr c mc keep true)
            (each_of (λ (v : TempId). (j : ℕ) → slice_get saved j ≡ Some v → ⊥) vs (not_saved none)) n (omega (arith, few, many))

        here : (p : Placed) → Reloaded p → p.block ≡ r.block
        here p s = s.block ∙ of_region r c mc

        reload_issues : (p : Placed) → Reloaded p → Issues e o x given schedule r mr reload p
        reload_issues p s =
            let block = here p s in
            let is = end_is e o x given schedule r mr p (stands_in e o x r p mr s.member block) in
            let first = s.first in
            let last = s.last in
            record {
              beside = beside_of e o x given schedule r mr p s.member block (copy_other p.op.kind s.copy) (omega (arith, last, is));
              instr = s.instr;
              some = omega (arith, first);
              head = omega (arith, first);
              tail = omega (arith, last, is);
            }

        -- what issues after the call keeps the precedences from its place
        behind_kept : (cs : List ℕ) (place i : ℕ) (us : List Owed) (ps : List Placed) → slice_index cs place ≡ (issue_at x c).cycle
            → AllIssue e o x given schedule r mr us ps
            → ((j : ℕ) → slice_index cs (i + j) ≡ slice_index (cycles e o x given schedule r mr ps) j)
            → Each (λ (p : Placed). (issue_at x c).cycle < (issue_at x p).cycle) ps → AllByRecursion (IsKeptBy cs) (behind_call place i us)
        behind_kept cs place i [] ps is h there after = tt
        behind_kept cs place i (u ∷ us) [] is h there after = absurd h
        behind_kept cs place i (u ∷ us) (p ∷ ps) is h there after =
            let zero_on : i ≡ i + 0 = omega arith in
            let own_cycle : slice_index cs i ≡ (issue_at x p).cycle = ap (slice_index cs) zero_on ∙ there 0 in
            let lt = after.0 in (
              omega (arith, is, own_cycle, lt),
              behind_kept cs place (i + 1) us ps is h.1 (λ j.
                  let next : i + 1 + j ≡ i + suc j = omega arith in ap (slice_index cs) next ∙ there (suc j)) after.1,
            )

        -- the call as a draft sees it
        abbrev this : Crossed
        this = crossed_by arcs r.owner own (region_places r) (place_of c)

        abbrev this_call : CallOf e o x given schedule r mr this
        this_call = record { place = c; member = mc; call = call; is = refl }

        several_met : (n : ℕ) → Several e o x (solved e o x given schedule r mr) Reloaded n
            → IsMet e o x given schedule r mr (call_draft e.table (length own) this.place n)
        several_met n s =
            let ps = firsts n s.listed in
            let each = each_first Reloaded n s.listed s.each in
            let issue = same_issue e o x given schedule r mr reload n s.listed s.many
            (each_more Reloaded (Issues e o x given schedule r mr reload) s.listed reload_issues s.each) in
            record {
              listed = ps;
              differ = differ_first n s.listed s.differ;
              issue = issue;
              here = each_more Reloaded (λ (p : Placed). p.block ≡ r.block) ps here each;
              front = tt;
              back = behind_kept (all_cycles e o x given schedule r mr ps) this.place (length own) (replicate n reload) ps
                  (call_cycle e o x given schedule r mr ps this this_call) issue (behind_own e o x given schedule r mr ps)
                  (each_more Reloaded (λ (p : Placed). (issue_at x c).cycle < (issue_at x p).cycle) ps (λ p h. h.first) each);
            }

        abbrev room : ℕ
        room = count + length (callee_saved e.table) - length (saved_registers e.table)

        none_met : (n : ℕ) → n ≡ 0 → IsMet e o x given schedule r mr (call_draft e.table (length own) this.place n)
        none_met zero z = record { listed = []; differ = tt; issue = tt; here = tt; front = tt; back = tt }
        none_met (suc n) z = absurd (omega (arith, z))

        crossed_met : IsMet e o x given schedule r mr
            (crossed_draft e.table (basis_of (model_of e o)) count (length own) this)
        crossed_met = by (list_any (is_among saved) crossed) refl
          where
            some : (n : ℕ) → list_any (is_among saved) crossed ≡ false → length crossed - room ≡ n
                → IsMet e o x given schedule r mr (call_draft e.table (length own) this.place n)
            some zero none is = none_met zero refl
            some (suc n) none is =
                let le = call_crowds e o x (solved e o x given schedule r mr) k r at keeps c mc call in
                several_met (suc n) (reloads (suc n) none (omega (arith, le, is)))

            by : (b : Bool) → list_any (is_among saved) crossed ≡ b
                → IsMet e o x given schedule r mr (call_draft e.table (length own) this.place (length (if b then [] else crossed) - room))
            by true is = none_met (0 - room) (omega arith)
            by false is = some (length crossed - room) is refl

  -- ---- the block

  module _ (hands : (let b : ExtBlock = r.owner in hands_on (term_of b.ops) ≡ true)) (k : ℕ) (at : slice_get (blocks e o x) k ≡ Some r)
      (keeps : keeps_places r.owner ≡ true) where
    abbrev taken : ℕ
    taken = in_slots (schedule_of (model_of e o) x) e.blocks (StartOf k) (length (saved_registers e.table))

    abbrev the_calls : List Crossed
    the_calls = calls e o x given schedule r mr

    abbrev pub middle_drafts : List Draft
    middle_drafts = call_drafts e.table (basis_of (model_of e o)) taken (length own) the_calls

    not_crowded : (ds : List Crossed) → ((d : Crossed) → Member d ds → CallOf e o x given schedule r mr d)
        → is_crowded (basis_of (model_of e o)) taken ds ≡ false
    not_crowded [] call = refl
    not_crowded (d ∷ ds) call =
        let f = call d (inl refl) in
        let le = call_crowds e o x (solved e o x given schedule r mr) k r at keeps f.place f.member f.call in
        and_none (nat_lt 0 (length (d ∷ ds))) (nat_lt (taken + length (callee_saved e.table)) (length (saved_registers e.table)))
        (few (taken + length (callee_saved e.table)) (length (saved_registers e.table)) (omega (arith, le)))
      where
        few : (a b : ℕ) → b ≤ a → nat_lt a b ≡ false
        few a b le = grind (arith, nat_tests, le)

    pub middle_is : drafts_by e.table (basis_of (model_of e o)) taken Middle (has_leave (region_places r)) (length own) the_calls
        ≡ Some middle_drafts
    middle_is = ap (λ (b : Bool). if b then None else Some middle_drafts) (not_crowded the_calls (call_of e o x given schedule r mr))

    pub middle_met : Each (IsMet e o x given schedule r mr) middle_drafts
    middle_met =
        let draft = crossed_draft e.table (basis_of (model_of e o)) taken (length own) in
        each_map (IsMet e o x given schedule r mr) draft the_calls
        (each_of (λ (d : Crossed). IsMet e o x given schedule r mr (draft d)) the_calls (λ d md.
        let f = call_of e o x given schedule r mr d md in
        subst (λ (d : Crossed). IsMet e o x given schedule r mr (draft d)) f.is
        (crossed_met hands f.place f.member f.call k at keeps)))
