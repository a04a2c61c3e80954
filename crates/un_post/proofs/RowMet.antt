-- Each solution meets the row of its own number of saved values in slots: so some row holds below a limit that it costs less than. A
-- function of one block has no rows.
use Rattle.std.proofs.Common.{ℕ, suc, ◌≡◌, ◌+◌, ◌<◌, ◌≤◌, Bool, true, false, cond, List, [], ◌∷◌, length, map, filter, inl, inr}
use Rattle.std.proofs.Common.{refl, sym, ap, ◌∙◌, subst, arith}
use Rattle.std.specs.Prelude.{Option, Some, ◌&&◌, ◌==◌, nat_lt, slice_get, count_by, if◌then◌else◌}
use Rattle.std.specs.List.{range_with_len}
use Rattle.std.specs.Option.{option_map, option_to_list}
use Rattle.std.proofs.lemmas.Bool.{eqb-true}
use Rattle.std.proofs.lemmas.List.FromFn.{length-range_with_len}
use Rattle.un_isa.specs.Fit.{IsFit}
use Rattle.un_isa.specs.Registers.{saved_registers}
use Rattle.un_ir.specs.Extended.{IsExtended}
use Rattle.un_ir.specs.declared.extended.Ext.{Ext}
use Rattle.un_ir.specs.declared.extended.ExtBlock.{ExtBlock}
use Rattle.un_model.specs.declared.model.Model.{Model}
use Rattle.un_model.specs.declared.model.Options.{Options}
use Rattle.un_model.specs.declared.model.Solution.{Solution}
use Rattle.un_model.specs.Congruences.{term_of}
use Rattle.un_model.specs.Cost.{cost_of, value_of}
use Rattle.un_model.specs.Options.{AreOptions}
use Rattle.un_model.specs.Pairs.{joined}
use Rattle.un_model.specs.Schedules.{schedule_of}
use Rattle.un_model.specs.Solutions.{IsSchedule, IsSolution, latency_gap}
use Rattle.un_model.specs.Variables.{IsModel, model_of}
use Rattle.un_lists.proofs.Lists.{Each, Member, member_at, member_map, place_of as position_of}
use Rattle.un_model.proofs.Placed.{Region}
use Rattle.un_model.proofs.PlacedSchedules.{get_range, member_joined}
use Rattle.un_length.specs.declared.block.Task.{Task}
use Rattle.un_counted.specs.Counted.{counted_holds}
use Rattle.un_counted.specs.declared.counted.LeastEnd.{LeastEnd}
use Rattle.un_sites.specs.Places.{Place, block_places}
use Rattle.un_sites.specs.Shares.{has_leave}
use Rattle.un_post.proofs.Blocks.{blocks, places_in, region_places, region_vars}
use Rattle.un_post.proofs.Facts.{Given}
use Rattle.un_root.proofs.Eaches.{all_each}
use Rattle.un_post.proofs.Memory.{member_contains}
use Rattle.un_model.proofs.Regions.{over_regions, region_is}
use Rattle.un_post.proofs.Tests.{and_iff}
use Rattle.un_saved.specs.Joined.{is_at, joined_in}
use Rattle.un_saved.specs.Reads.{reads_saved}
use Rattle.un_saved.specs.Saved.{hands_own, keeps_places}
use Rattle.un_saved.specs.Standing.{in_slots, is_slot, place_at}
use Rattle.un_saved.specs.declared.boundary.Boundary.TheVariants.{StartOf, EndOf}
use Rattle.un_saved.specs.declared.boundary.Marks.{Marks}
use Rattle.un_saved.proofs.EntrySpills.{count_filter}
use Rattle.un_saved.proofs.Marking.{joined_known}
use Rattle.un_saved.proofs.OnePlace.{one_count}
use Rattle.un_rows.specs.Drafts.{drafts_by, entry_draft, return_draft}
use Rattle.un_rows.specs.Roles.{entry_role, hands_on, joined_role, role_of}
use Rattle.un_rows.specs.Rows.{all_there, basis_of, end_at, end_by_count, known_at, known_in, knowns_of, least_by_count, row_by, rows_by}
use Rattle.un_rows.specs.Rows.{rows_of}
use Rattle.un_rows.specs.declared.draft.Draft.{Draft}
use Rattle.un_rows.specs.declared.known.Basis.{Basis}
use Rattle.un_rows.specs.declared.known.Crossed.{Crossed}
use Rattle.un_rows.specs.declared.known.Known.{Known}
use Rattle.un_rows.specs.declared.role.Role.{Role}
use Rattle.un_rows.specs.declared.role.Role.TheVariants.{Entry, Middle, Return, Other}
use Rattle.un_rows.proofs.Meeting.{rows_hold}
use Rattle.un_post.proofs.Drafted.{solved, IsMet, Least, known, least_met}
use Rattle.un_post.proofs.NameDrafts.{middle_drafts, middle_is, middle_met}
use Rattle.un_post.proofs.SavedDrafts.{calls, entry_met, return_met}
use Rattle.un_post.proofs.RoomBeside.{ops}

-- ---- numbers

filter_less : {A : Type 0} (p : A → Bool) (xs : List A) → length (filter p xs) ≤ length xs
filter_less p [] = omega arith
filter_less {A} p (x ∷ xs) = by (p x) (filter_less p xs)
  where
    by : (b : Bool) → length (filter p xs) ≤ length xs → length (cond b (x ∷ filter p xs) (filter p xs)) ≤ suc (length xs)
    by true le = omega (arith, le)
    by false le = omega (arith, le)

-- as many as pass are among the numbers up to that of all
count_among : (p : ℕ → Bool) (n : ℕ) → Member (count_by p (range_with_len 0 n)) (range_with_len 0 (n + 1))
count_among p n =
    let c = count_by p (range_with_len 0 n) in
    let is = count_filter p (range_with_len 0 n) in
    let less = filter_less p (range_with_len 0 n) in
    let long = length-range_with_len 0 n in
    let same : 0 + c ≡ c = omega arith in
    member_at (range_with_len 0 (n + 1)) c c (get_range 0 (n + 1) c (omega (arith, is, less, long)) ∙ ap (λ (k : ℕ). Some k) same)

module _ (e : Ext) (o : Options) (x : List ℕ) (given : Given e o x)
    (schedule : IsSchedule (latency_gap e.table) (model_of e o).domains (model_of e o) x (schedule_of (model_of e o) x)) where
  abbrev m : Model
  m = model_of e o

  abbrev marks : Marks
  marks = joined_in e.blocks

  abbrev basis : Basis
  basis = basis_of m

  -- how many saved values have slots
  abbrev count : ℕ
  count = in_slots (schedule_of m x) e.blocks (EndOf 0) (length (saved_registers e.table))

  -- ---- a block

  module _ (r : Region) (mr : Member r (blocks e o x)) where
    abbrev own : List Task
    own = ops e o x given schedule r mr

    abbrev the_calls : List Crossed
    the_calls = calls e o x given schedule r mr

    -- it hands values on
    abbrev on : Bool
    on = let b : ExtBlock = r.owner in hands_on (term_of b.ops)

    -- what its role says of it
    abbrev Told : Role → Type 0
    Told Entry = (r.block ≡ 0) × (hands_own r.owner ≡ true)
    Told Middle = (is_at marks (StartOf r.block) ≡ true) × (on ≡ true)
        × (keeps_places r.owner ≡ true)
    Told Return = (is_at marks (StartOf r.block) ≡ true) × (reads_saved r.owner ≡ true)
    Told Other = Unit {0}

    told : Told (role_of marks r.block r.owner)
    told = by (r.block == 0) refl
      where
        entry : (b : Bool) → r.block ≡ 0 → (on && hands_own r.owner) ≡ b → Told (if b then Entry else Other)
        entry true first is = (first, ((and_iff on (hands_own r.owner)).1 is).1)
        entry false first is = tt

        returns : (b : Bool) → is_at marks (StartOf r.block) ≡ true → reads_saved r.owner ≡ b → Told (if b then Return else Other)
        returns true at is = (at, is)
        returns false at is = tt

        middle : (b : Bool) → is_at marks (StartOf r.block) ≡ true → (on && keeps_places r.owner) ≡ b
            → Told (if b then Middle else (if reads_saved r.owner then Return else Other))
        middle true at is = let two = (and_iff on (keeps_places r.owner)).1 is in (at, two.0, two.1)
        middle false at is = returns (reads_saved r.owner) at refl

        starts : (b : Bool) → is_at marks (StartOf r.block) ≡ b → Told (if b then joined_role r.owner else Other)
        starts true at = middle (on && keeps_places r.owner) at refl
        starts false at = tt

        by : (b : Bool) → (r.block == 0) ≡ b
            → Told (if b then entry_role r.owner else (if is_at marks (StartOf r.block) then joined_role r.owner else Other))
        by true is = entry (on && hands_own r.owner) (eqb-true r.block 0 is) refl
        by false is = starts (is_at marks (StartOf r.block)) refl

    at_block : slice_get (blocks e o x) r.block ≡ Some r
    at_block =
        let k = position_of (blocks e o x) r mr in
        let is = (region_is 0 0 0 e.blocks k.0 r k.2).1 in
        let same : k.0 ≡ r.block = omega (arith, is) in
        subst (λ (n : ℕ). slice_get (blocks e o x) n ≡ Some r) same k.2

    -- as many of the saved values have slots at its start, where that is joined to the end of the entry
    same_count : is_at marks (StartOf r.block) ≡ true
        → count ≡ in_slots (schedule_of m x) e.blocks (StartOf r.block) (length (saved_registers e.table))
    same_count at = one_count e o x (solved e o x given schedule r mr) (StartOf r.block) (joined_known e.blocks (StartOf r.block) at)

    abbrev Owes : ℕ → List Draft → Type 0
    Owes s ds = (drafts_by e.table basis s (role_of marks r.block r.owner) (has_leave (region_places r)) (length own) the_calls ≡ Some ds)
        × Each (IsMet e o x given schedule r mr) ds

    abbrev drafts : ℕ → Role → Option (List Draft)
    drafts s role = drafts_by e.table basis s role (has_leave (region_places r)) (length own) the_calls

    owes : (role : Role) → role_of marks r.block r.owner ≡ role → Told role → (ds : List Draft) × Owes count ds
    owes Entry is t = (
      entry_draft (length own) the_calls count ∷ [],
      (
        ap (drafts count) is,
        (entry_met e o x given schedule r mr t.0 (subst (λ (n : ℕ). slice_get (blocks e o x) n ≡ Some r) t.0 at_block) t.1, tt),
      ),
    )
    owes Middle is t =
        let s = in_slots (schedule_of m x) e.blocks (StartOf r.block) (length (saved_registers e.table)) in
        subst (λ (n : ℕ). (ds : List Draft) × Owes n ds) (sym (same_count t.0)) (
          middle_drafts e o x given schedule r mr t.1 r.block at_block t.2,
          (
            ap (drafts s) is ∙ middle_is e o x given schedule r mr t.1 r.block at_block t.2,
            middle_met e o x given schedule r mr t.1 r.block at_block t.2,
          ),
        )
    owes Return is t =
        let s = in_slots (schedule_of m x) e.blocks (StartOf r.block) (length (saved_registers e.table)) in
        subst (λ (n : ℕ). (ds : List Draft) × Owes n ds) (sym (same_count t.0)) (
          return_draft e.table (has_leave (region_places r)) (length own) the_calls s ∷ [],
          (ap (drafts s) is, (return_met e o x given schedule r mr r.block at_block t.1, tt)),
        )
    owes Other is t = ([], (ap (drafts count) is, tt))

    -- its end is no less than the least end of the row of its solution
    block_least : Least e o x given schedule r mr marks (least_by_count e.table basis count (known e o x given schedule r mr marks))
    block_least =
        let found = owes (role_of marks r.block r.owner) refl told in
        least_met e o x given schedule r mr marks basis count found.0 found.1.0 found.1.1

  -- ---- rows

  -- a known block with a least end that is no later than its end
  record KnownMet (k : Known) : Type 0 where
    least : ℕ
    is : least_by_count e.table basis count k ≡ Some least
    no_later : least ≤ value_of x k.end

  abbrev known_here : Region → Known
  known_here r = known_at m marks r.block r.owner (region_vars r) (block_places r.block r.number r.owner (region_vars r))

  known_met : (r : Region) → Member r (blocks e o x) → KnownMet (known_here r)
  known_met r mr =
      let l = block_least r mr in
      subst (λ (ps : List Place). KnownMet (known_at m marks r.block r.owner (region_vars r) ps)) (sym (places_in r))
      (record { least = l.least; is = l.is; no_later = l.no_later })

  abbrev IsReached : LeastEnd → Type 0
  IsReached end = end.least ≤ value_of x end.end

  record Row (ks : List Known) : Type 0 where
    row : List LeastEnd
    is : all_there (map (end_by_count e.table basis count) ks) ≡ Some row
    met : Each IsReached row

  row_there : (rs : List Region) → ((r : Region) → Member r rs → KnownMet (known_here r))
      → Row (joined (map (λ (r : Region). known_here r ∷ []) rs))
  row_there [] h = record { row = []; is = refl; met = tt }
  row_there (r ∷ rs) h =
      let first = h r (inl refl) in
      let rest = row_there rs (λ s ms. h s (inr ms)) in
      let ks : List Known = joined (map (λ (r : Region). known_here r ∷ []) rs) in
      let end = end_at (known_here r) first.least in
      record {
        row = end ∷ rest.row;
        is = ap (λ (found : Option ℕ). all_there (option_map (end_at (known_here r)) found ∷ map (end_by_count e.table basis count) ks))
            first.is ∙ ap (option_map (λ (ends : List LeastEnd). end ∷ ends)) rest.is;
        met = (first.no_later, rest.met);
      }

  the_row : Row (knowns_of m)
  the_row = subst Row (sym (over_regions (known_in m marks) 0 0 0 e.blocks)) (row_there (blocks e o x) known_met)

  row_member : nat_lt 1 (length e.blocks) ≡ true → (let r = the_row in Member r.row (rows_of m))
  row_member several =
      let r = the_row in
      let rows = λ (s : ℕ). option_to_list (row_by e.table basis (knowns_of m) s) in
      let numbers = range_with_len 0 (length (saved_registers e.table) + 1) in
      let here : Member r.row (rows count) = subst (λ (found : Option (List LeastEnd)). Member r.row (option_to_list found)) (sym r.is)
      (inl refl) in
      let there : Member r.row (rows_by e.table basis (knowns_of m)) = member_joined (map rows numbers) (rows count) r.row
      (member_map rows numbers count (count_among (λ (j : ℕ). is_slot (place_at (schedule_of m x) e.blocks (EndOf 0) j))
      (length (saved_registers e.table)))) here in
      subst (λ (b : Bool). Member r.row (if b then rows_by e.table basis (knowns_of m) else [])) (sym several) there

  -- So the rows hold.
  pub counted_met : (limit : ℕ) → nat_lt 1 (length e.blocks) ≡ true → cost_of (model_of e o) (record { values = x }) < limit
      → counted_holds (rows_of (model_of e o)) limit x ≡ true
  counted_met limit several less =
      let r = the_row in
      rows_hold m (record { values = x }) limit refl r.row (member_contains (rows_of m) r.row (row_member several))
      (all_each IsReached r.row r.met) less

-- The same of a model: each solution below a limit meets some row.
pub row_met : (m : Model) (s : Solution) (limit : ℕ) → IsModel m → IsExtended m.ext → IsFit m.ext.table → AreOptions m.options
    → nat_lt 1 (length m.ext.blocks) ≡ true → IsSolution m s → cost_of m s < limit → counted_holds (rows_of m) limit s.values ≡ true
row_met m s limit own extended fit options several solution less =
    let e : Ext = m.ext in
    let schedule : IsSchedule (latency_gap e.table) (model_of m.ext m.options).domains (model_of m.ext m.options) s.values
    (schedule_of (model_of m.ext m.options) s.values) =
    subst (λ (n : Model). IsSchedule (latency_gap e.table) n.domains n s.values (schedule_of n s.values)) own solution in
    subst (λ (n : Model). counted_holds (rows_of n) limit s.values ≡ true) (sym own)
    (counted_met m.ext m.options s.values
    (record { extended = extended; fit = fit; options = options; domains = schedule.in_domains }) schedule limit several
    (subst (λ (n : Model). cost_of n s < limit) own less))
