-- A draft that operations of a block issue, beside those that its length speaks of: the block ends no sooner than the least end with it.
use Rattle.std.proofs.Common.{ℕ, ◌≡◌, ◌+◌, ◌≤◌, Bool, true, false, List, [], ◌∷◌, ◌++◌, length, map, min, All, refl, sym, ap, ◌∙◌}
use Rattle.std.proofs.Common.{subst, arith, eq-eqb}
use Rattle.std.specs.Prelude.{Option, Some, ◌&&◌, ◌||◌, ◌==◌, nat_eq, slice_get, slice_index, sum_by, IfSome, if◌then◌else◌}
use Rattle.std.specs.List.{AllByRecursion}
use Rattle.std.specs.Option.{option_map}
use Rattle.std.proofs.lemmas.List.Sums.{sum_by-cons}
use Rattle.un_isa.specs.PacketCounts.{share_of as need_of}
use Rattle.un_isa.specs.declared.op.Op.{Op}
use Rattle.un_isa.specs.declared.packet_counts.Resource.{Resource}
use Rattle.un_ir.specs.declared.function.Term.TheVariants.{Fall, Jump, Branch, Ret}
use Rattle.un_ir.specs.declared.extended.ExtKind.{ExtKind}
use Rattle.un_ir.specs.declared.extended.ExtKind.TheVariants.{In, Out, Body, End, Copy, Enter, Leave}
use Rattle.un_ir.specs.Kinds.{is_call_kind, is_source}
use Rattle.un_ir.specs.declared.extended.Ext.{Ext}
use Rattle.un_model.specs.declared.model.Arc.{Arc}
use Rattle.un_model.specs.declared.model.Options.{Options}
use Rattle.un_model.specs.Instructions.{instruction_of, needs_by}
use Rattle.un_model.specs.Schedules.{schedule_of, value_by}
use Rattle.un_model.specs.Solutions.{IsSchedule, IsPlacedAs, latency_gap, share_of}
use Rattle.un_model.specs.Variables.{model_of, arcs_of}
use Rattle.un_lists.proofs.Lists.{Each, Member, each_of, each_map, member_map_of, member_of_filter}
use Rattle.un_model.proofs.Placed.{Placed, Region, region_placed, vars_of, end_of, issue_at}
use Rattle.un_model.proofs.Readings.{Solved}
use Rattle.un_press.proofs.Counting.{Differ}
use Rattle.un_press.proofs.Spilling.{placed_issue}
use Rattle.un_length.specs.Blocks.{cycle_of}
use Rattle.un_length.specs.declared.block.Task.{Task}
use Rattle.un_least.specs.LeastLaws.{least_is_no_later}
use Rattle.un_sites.specs.Befores.{known_befores}
use Rattle.un_sites.specs.Lengths.{is_task, is_full, asked_tail, tail_of}
use Rattle.un_sites.specs.Places.{Place, definers_of}
use Rattle.un_sites.specs.Postings.{with_kind}
use Rattle.un_sites.specs.Pressures.{block_room, registers_among}
use Rattle.un_sites.specs.Rooms.{arcs_or}
use Rattle.un_rooms.proofs.TaskPlaces.{all_lead}
use Rattle.un_post.proofs.Blocks.{blocks, in_all, region_places, region_vars}
use Rattle.un_post.proofs.Facts.{Given}
use Rattle.un_post.proofs.Filling.{greatest_is}
use Rattle.un_root.proofs.Eaches.{all_each}
use Rattle.un_post.proofs.Packets.{share}
use Rattle.un_post.proofs.Placing.{place_of}
use Rattle.un_saved.specs.declared.boundary.Marks.{Marks}
use Rattle.un_rows.specs.Drafts.{drafts_of}
use Rattle.un_rows.specs.Rows.{draft_end, ends_of, least_by_count, known_at}
use Rattle.un_rows.specs.declared.draft.Draft.{Draft}
use Rattle.un_rows.specs.declared.draft.Owed.{Owed}
use Rattle.un_rows.specs.declared.known.Basis.{Basis}
use Rattle.un_rows.specs.declared.known.Known.{Known}
use Rattle.un_rows.specs.Kept.{AreKept, owed_taken, IsKeptBy}
use Rattle.un_rows.proofs.Fitting.{drafted_no_later}
use Rattle.un_post.proofs.RoomBeside.{ops, arcs, close, fits, cycle_is, made, task, IsBeside, room_beside}

module _ (e : Ext) (o : Options) (x : List ℕ) (given : Given e o x)
    (schedule : IsSchedule (latency_gap e.table) (model_of e o).domains (model_of e o) x (schedule_of (model_of e o) x))
    (r : Region) (mr : Member r (blocks e o x)) where
  abbrev pub solved : Solved e o x
  solved = record { extended = given.extended; fit = given.fit; options = given.options; schedule = schedule }

  abbrev pub cycle : Placed → ℕ
  cycle p = (issue_at x p).cycle

  abbrev pub cycles : List Placed → List ℕ
  cycles ps = map cycle ps

  abbrev pub end : ℕ
  end = let v = close e o x given schedule r mr in slice_index x v.0

  abbrev own : List Task
  own = ops e o x given schedule r mr

  -- ---- what a draft owes, and the operations that issue it

  pub record Issues (u : Owed) (p : Placed) : Type 0 where
    pub beside : IsBeside e o x given schedule r mr p
    pub instr : (issue_at x p).instr ≡ Some u.op
    pub some : 1 ≤ cycle p
    pub head : u.head ≤ cycle p
    pub tail : cycle p + u.tail ≤ end

  abbrev pub AllIssue : List Owed → List Placed → Type 0
  AllIssue [] [] = Unit {0}
  AllIssue [] (p ∷ ps) = ⊥
  AllIssue (u ∷ us) [] = ⊥
  AllIssue (u ∷ us) (p ∷ ps) = Issues u p × AllIssue us ps

  kept_all : (us : List Owed) (ps : List Placed) → AllIssue us ps → AreKept end us (cycles ps)
  kept_all [] [] h = tt
  kept_all [] (p ∷ ps) h = absurd h
  kept_all (u ∷ us) [] h = absurd h
  kept_all (u ∷ us) (p ∷ ps) h = let i = h.0 in (i.some, i.head, i.tail, kept_all us ps h.1)

  beside_all : (us : List Owed) (ps : List Placed) → AllIssue us ps → Each (IsBeside e o x given schedule r mr) ps
  beside_all [] [] h = tt
  beside_all [] (p ∷ ps) h = absurd h
  beside_all (u ∷ us) [] h = absurd h
  beside_all (u ∷ us) (p ∷ ps) h = ((let i = h.0 in i.beside), beside_all us ps h.1)

  module _ (s : Resource) (c : ℕ) where
    abbrev taken_here : Placed → ℕ
    taken_here p = share e o x given s r.block c p

    -- they take what is owed
    taken_all : (us : List Owed) (ps : List Placed) → AllIssue us ps → Each (λ (p : Placed). p.block ≡ r.block) ps
        → owed_taken e.table s us (cycles ps) c ≡ sum_by taken_here ps
    taken_all [] [] h here = refl
    taken_all [] (p ∷ ps) h here = absurd h
    taken_all (u ∷ us) [] h here = absurd h
    taken_all (u ∷ us) (p ∷ ps) h here =
        let i = h.0 in
        let block : (p.block == r.block) ≡ true = eq-eqb p.block r.block here.0 in
        let one : (if nat_eq (cycle p) c then need_of s (needs_by e.table (Some u.op)) else 0) ≡ taken_here p =
        ap (λ (j : Option Op). if nat_eq (cycle p) c then share_of e.table s j else 0) (sym i.instr)
        ∙ ap (λ (b : Bool). if b && nat_eq (cycle p) c then share_of e.table s (issue_at x p).instr else 0) (sym block) in
        let cons = sum_by-cons taken_here p ps in
        let rest = taken_all us ps h.1 here.1 in
        omega (arith, one, cons, rest)

  -- ---- a draft

  -- the cycles of the length's operations, then those of a draft's
  abbrev pub all_cycles : List Placed → List ℕ
  all_cycles ps = map (cycle_of x) own ++ cycles ps

  pub record IsMet (d : Draft) : Type 0 where
    pub listed : List Placed
    pub differ : Differ listed
    pub issue : AllIssue d.owed listed
    pub here : Each (λ (p : Placed). p.block ≡ r.block) listed
    pub front : AllByRecursion (IsKeptBy (all_cycles listed)) d.front
    pub back : AllByRecursion (IsKeptBy (all_cycles listed)) d.back

  abbrev room : ℕ
  room = length (registers_among (block_room (model_of e o).domains (definers_of (model_of e o)) (region_places r)))

  abbrev known_arcs : List Arc
  known_arcs = arcs_or (slice_get (arcs_of e) r.block)

  abbrev instr_by : Placed → ExtKind → Option Op
  instr_by q kind = let v = vars_of q in instruction_of kind (value_by x v.instr)

  -- each of the length's operations but the end issues past the block's start
  issued_one : (q : Placed) → Member q (region_placed r) → is_task q.op.kind ≡ true
      → (let u = task e o x given schedule r mr q in min u.tail 1 ≤ cycle_of x u)
  issued_one q mq t = by q.op.kind refl t
    where
      active : (op : Op) → (issue_at x q).instr ≡ Some op → (let u = task e o x given schedule r mr q in min u.tail 1 ≤ cycle_of x u)
      active op instr =
          let u = task e o x given schedule r mr q in
          let placed = subst (λ (i : Option Op). IfSome i (IsPlacedAs (cycle q) (end_of x q))) instr
          (placed_issue e o x solved q (in_all e o x r q mr mq)) in
          let within = placed.0 in
          let some = within.0 in
          let same = cycle_is e o x given schedule r mr q t in
          omega (arith, some, same)

      by : (kind : ExtKind) → q.op.kind ≡ kind → is_task kind ≡ true
          → (let u = task e o x given schedule r mr q in min u.tail 1 ≤ cycle_of x u)
      by Out k t =
          let u = task e o x given schedule r mr q in
          let none : u.tail ≡ 0 =
          ap (λ (kind : ExtKind). if is_call_kind kind || (is_source kind && is_full room (region_places r))
          then asked_tail e.table room known_arcs (region_places r) (place_of q) else tail_of kind) k in
          omega (arith, none)
      by (Body so) k t = active so.op (ap (instr_by q) k)
      by (End (Jump to)) k t = active _ (ap (instr_by q) k)
      by (End (Branch pred true to)) k t = active _ (ap (instr_by q) k)
      by (End (Branch pred false to)) k t = active _ (ap (instr_by q) k)
      by (End (Ret value)) k t = active _ (ap (instr_by q) k)
      by (End Fall) k t = absurd (cc t)
      by In k t = absurd (cc t)
      by (Copy node) k t = absurd (cc t)
      by Enter k t = absurd (cc t)
      by Leave k t = absurd (cc t)

  abbrev IsIssued : Task → Type 0
  IsIssued u = min u.tail 1 ≤ cycle_of x u

  issued_all : All IsIssued own
  issued_all =
      let found = with_kind is_task (region_places r) in
      let make = made e o x given schedule r mr in
      all_each IsIssued own (each_map IsIssued make found (each_of (λ (p : Place). IsIssued (make p)) found (λ p mp.
      let f = member_of_filter (λ (p : Place). is_task p.it.kind) (region_places r) p mp in
      let q = member_map_of place_of (region_placed r) p f.0 in
      let t : is_task q.0.op.kind ≡ true = ap (λ (p : Place). is_task p.it.kind) q.2 ∙ f.1 in
      subst (λ (p : Place). IsIssued (make p)) q.2 (issued_one q.0 q.1 t))))

  module _ (marks : Marks) where
    abbrev pub known : Known
    known = known_at (model_of e o) marks r.block r.owner (region_vars r) (region_places r)

    own_met : (let k = known in k.own ≤ end)
    own_met = least_is_no_later own (arcs e o x given schedule r mr) (close e o x given schedule r mr)
        (let owner = r.owner in owner.horizon) x (fits e o x given schedule r mr) issued_all 0 (omega arith)

    pub draft_met : (d : Draft) → IsMet d → draft_end e.table known d ≤ end
    draft_met d h =
        drafted_no_later e.table own (arcs e o x given schedule r mr) d x (close e o x given schedule r mr) (cycles h.listed)
        (fits e o x given schedule r mr) (all_lead own (known_befores (model_of e o) r.block (region_places r))) issued_all
        (kept_all d.owed h.listed h.issue) h.front h.back
        (λ s c.
        let beside = room_beside e o x given schedule r mr h.listed h.differ (beside_all d.owed h.listed h.issue) s c in
        let same = taken_all s c d.owed h.listed h.issue h.here in
        omega (arith, beside, same))
        (let owner = r.owner in owner.horizon) (let k = known in k.own) own_met

    pub ends_met : (ds : List Draft) → Each IsMet ds → ends_of e.table known ds ≤ end
    ends_met ds each = greatest_is (λ (n : ℕ). n ≤ end) (let k = known in k.own) (map (draft_end e.table known) ds) own_met
        (each_map (λ (n : ℕ). n ≤ end) (draft_end e.table known) ds (each_less ds each))
      where
        each_less : (ds : List Draft) → Each IsMet ds → Each (λ (d : Draft). draft_end e.table known d ≤ end) ds
        each_less [] h = tt
        each_less (d ∷ ds) h = (draft_met d h.0, each_less ds h.1)

    pub record Least (found : Option ℕ) : Type 0 where
      pub least : ℕ
      pub is : found ≡ Some least
      pub no_later : least ≤ end

    pub least_met : (basis : Basis) (s : ℕ) (ds : List Draft) → drafts_of e.table basis s known ≡ Some ds → Each IsMet ds
        → Least (least_by_count e.table basis s known)
    least_met basis s ds is each = record {
      least = ends_of e.table known ds;
      is = ap (option_map (ends_of e.table known)) is;
      no_later = ends_met ds each;
    }
