-- What a block takes and hands over of the saved values: the results of its first operation, and what its last one reads.
use Rattle.std.proofs.Common.{ℕ, zero, suc, ◌≡◌, ◌+◌, true, List, [], ◌∷◌, length, map, refl, sym}
use Rattle.std.proofs.Common.{ap, ◌∙◌, subst, arith}
use Rattle.std.specs.Prelude.{Option, Some, None, slice_get}
use Rattle.std.specs.Option.{option_map}
use Rattle.un_base.specs.declared.ids.TempId.{TempId}
use Rattle.un_ir.specs.declared.extended.ExtKind.{ExtKind}
use Rattle.un_ir.specs.declared.extended.ExtKind.TheVariants.{In, Out, Body, End, Copy, Enter, Leave}
use Rattle.un_ir.specs.declared.extended.Operand.{Operand}
use Rattle.un_ir.specs.declared.extended.ExtOp.{ExtOp}
use Rattle.un_ir.specs.declared.extended.ExtBlock.{ExtBlock}
use Rattle.un_ir.specs.declared.extended.Ext.{Ext}
use Rattle.un_ir.specs.Extended.{temp, is_copy, result_count}
use Rattle.un_ir.specs.Kinds.{is_mandatory}
use Rattle.un_ir.specs.Linear.{first_of}
use Rattle.un_model.specs.declared.model.Options.{Options}
use Rattle.un_model.specs.declared.schedule.LiveRange.{LiveRange}
use Rattle.un_model.specs.declared.schedule.Read.{Read}
use Rattle.un_model.specs.Congruences.{live_in_temps, live_out_reads, register_of, register_read}
use Rattle.un_model.specs.Pairs.{places_from}
use Rattle.un_model.specs.Schedules.{reads_of, read_of}
use Rattle.un_model.specs.Variables.{model_of, var_at, ops_count}
use Rattle.un_lists.proofs.Lists.{Member, member_at, member_map}
use Rattle.un_lists.proofs.Lists.{length_get}
use Rattle.un_model.proofs.Operations.{placed_get}
use Rattle.un_model.proofs.Placed.{Placed, Region, region_placed, vars_of, issue_at, Spot, spot, spots_of}
use Rattle.un_model.proofs.PlacedSchedules.{all, spots, the_ranges, range_get, range_here, one_spot, definer_in, member_joined, member_places}
use Rattle.un_model.proofs.Readings.{Solved, numbered, fit_kinds, placed_good, reading}
use Rattle.un_model.proofs.TempKinds.{spot_carried, carried_is}
use Rattle.un_press.proofs.Crossings.{reg_of, is_active}
use Rattle.un_press.proofs.Premises.{reads_active}
use Rattle.un_press.proofs.Spilling.{result_at}
use Rattle.un_saved.specs.Saved.{saved_in, end_operands}
use Rattle.un_model.proofs.Regions.{region_is}
use Rattle.un_model.proofs.RegionEnds.{all_regions, region_end, region_good, region_member, the_end, last_member, end_reads, end_read}
use Rattle.un_saved.proofs.OnePlace.{drop_get, end_is, in_is, live_in_is}

-- ---- lists

places_none : {A B : Type 0} (f : ℕ → A → B) (i : ℕ) (xs : List A) (j : ℕ) → slice_get xs j ≡ None → slice_get (places_from f i xs) j ≡ None
places_none f i [] j h = refl
places_none f i (x ∷ xs) zero h = absurd (cc h)
places_none f i (x ∷ xs) (suc j) h = places_none f (i + 1) xs j h

one_of : {A : Type 0} (xs : List A) (i j : ℕ) (x y : A) → length xs ≡ 1 → slice_get xs i ≡ Some x → slice_get xs j ≡ Some y → x ≡ y
one_of [] i j x y one a b = absurd (cc a)
one_of (z ∷ zs) zero zero x y one a b = let both : Some x ≡ Some y = sym a ∙ b in cc both
one_of (z ∷ zs) (suc i) j x y one a b = let lt = length_get zs i x a in absurd (omega (arith, one, lt))
one_of (z ∷ zs) zero (suc j) x y one a b = let lt = length_get zs j y b in absurd (omega (arith, one, lt))

module _ (e : Ext) (o : Options) (values : List ℕ) (solved : Solved e o values) where
  abbrev ranges : List LiveRange
  ranges = the_ranges e o values

  pub register_is : (s : Spot) → Member s (spots e o values) → register_of ranges s.temp ≡ Some (reg_of e o values solved s)
  register_is s m = ap (option_map (λ (w : LiveRange). w.reg)) (range_get e o values (numbered e o values solved) s m)

  -- two copies that are one give one temporary
  pub one_result : (s u : Spot) → Member s (spots e o values) → Member u (spots e o values) → is_copy s.definer.op.kind ≡ true
      → s.definer ≡ u.definer → s.temp ≡ u.temp
  one_result s u ms mu copy same =
      let g = placed_good e o values solved s.definer (definer_in e o values (numbered e o values solved) s ms) in
      let keeps = g.keeps in
      one_of s.definer.op.results s.place u.place s.temp u.temp (keeps.results ∙ count s.definer.op.kind copy)
      (result_at e o values solved s ms)
      (ap (λ (p : Placed). slice_get p.op.results u.place) same ∙ result_at e o values solved u mu)
    where
      count : (kind : ExtKind) → is_copy kind ≡ true → result_count e.table s.definer.owner kind ≡ 1
      count (Copy node) t = refl
      count In t = absurd (cc t)
      count Out t = absurd (cc t)
      count (Body so) t = absurd (cc t)
      count (End term) t = absurd (cc t)
      count Enter t = absurd (cc t)
      count Leave t = absurd (cc t)

  module _ (k : ℕ) (r : Region) (at : slice_get (all_regions e o values solved.extended) k ≡ Some r) where
    abbrev pub last : Placed
    last = the_end e o values solved.extended k r at

    pub all_last : Member last (all e o values)
    all_last = last_member e o values solved.extended k r at

    pub block_is : slice_get e.blocks k ≡ Some r.owner
    block_is = (region_is 0 0 0 e.blocks k r at).0

    pub number_is : r.block ≡ k
    number_is = let is = (region_is 0 0 0 e.blocks k r at).1 in omega (arith, is)

    -- ---- what the block takes

    record First : Type 0 where
      first : Placed
      member : Member first (all e o values)
      kind : first.op.kind ≡ In
      results : (let own : ExtBlock = r.owner in live_in_temps own.ops) ≡ first.op.results

    begins : First
    begins =
        let own : ExtBlock = r.owner in
        let g = region_good e o values solved.extended k r at in
        let parts = g.parts in
        let p = parts.0 in
        let h = parts.1 in
        let start = p.start in
        let kind = in_is start.kind h.start in
        let here : slice_get own.ops 0 ≡ Some start = ap (λ (ops : List ExtOp). slice_get ops 0) h.whole in
        let got = placed_get r.block own (var_at (r.first + ops_count own.ops)) r.number r.first 0 own.ops start here in
        record {
          first = got.0;
          member = region_member e o values solved.extended k r got.0 at (member_at (region_placed r) 0 got.0 got.1);
          kind = ap (λ (op : ExtOp). op.kind) got.2 ∙ kind;
          results = live_in_is own.ops _ start h.whole kind ∙ sym (ap (λ (op : ExtOp). op.results) got.2);
        }

    -- a saved value that the block takes is a result of its start
    pub record Starts (j : ℕ) (v : TempId) : Type 0 where
      pub spot : Spot
      pub member : Member spot (spots e o values)
      pub is : spot.temp ≡ v
      pub kind : spot.definer.op.kind ≡ In
      pub place : spot.place ≡ (let own : ExtBlock = r.owner in length own.live_in + j)

    pub starts : (j : ℕ) (v : TempId) → slice_get (saved_in r.owner) j ≡ Some v → Starts j v
    starts j v live =
        let own : ExtBlock = r.owner in
        let f = begins in
        let i = length own.live_in + j in
        let here : slice_get f.first.op.results i ≡ Some v = ap (λ (ts : List TempId). slice_get ts i) (sym f.results)
        ∙ sym (drop_get (length own.live_in) j (live_in_temps own.ops)) ∙ live in
        record {
          spot = spot f.first i v;
          member = member_joined (map spots_of (all e o values)) (spots_of f.first) (spot f.first i v)
              (member_map spots_of (all e o values) f.first f.member) (member_places (spot f.first) f.first.op.results 0 i i v (omega arith) here);
          is = refl;
          kind = f.kind;
          place = refl;
        }

    -- different saved values are different temporaries
    pub saved_apart : (i j : ℕ) (v : TempId) → slice_get (saved_in r.owner) i ≡ Some v → slice_get (saved_in r.owner) j ≡ Some v → i ≡ j
    saved_apart i j v a b =
        let s = starts i v a in
        let u = starts j v b in
        let one = one_spot e o values (numbered e o values solved) s.spot u.spot s.member u.member
        (ap (λ (t : TempId). t.0) (s.is ∙ sym u.is)) in
        let place = ap (λ (x : Spot). x.place) one in
        let here = s.place in
        let there = u.place in
        omega (arith, place, here, there)

    -- ---- what it hands over

    -- what the block's end reads at a place is in a register
    pub record Handed (i reg : ℕ) : Type 0 where
      pub operand : Operand
      pub at_end : (let q = last in slice_get q.op.operands i ≡ Some operand)
      pub spot : Spot
      pub member : Member spot (spots e o values)
      pub block : spot.definer.block ≡ r.block
      pub active : is_active e o values solved spot ≡ true
      pub register : reg_of e o values solved spot ≡ reg
      pub value : spot_carried spot ≡ temp (first_of operand.alts)

    pub handed : (i reg : ℕ) → register_read ranges (slice_get (live_out_reads k (reads_of (model_of e o) values)) i) ≡ Some reg → Handed i reg
    handed i reg is = by (let q = last in slice_get q.op.operands i) refl
      where
        by : (y : Option Operand) → (let q = last in slice_get q.op.operands i ≡ y) → Handed i reg
        by None h =
            let q = last in
            let none : slice_get (live_out_reads k (reads_of (model_of e o) values)) i ≡ None =
            ap (λ (rs : List Read). slice_get rs i) (end_reads e o values solved.extended k r at)
            ∙ places_none (read_of values (issue_at values q) (vars_of q)) 0 q.op.operands i h in
            let z : None ≡ Some reg = sym (ap (register_read ranges) none) ∙ is in
            absurd (cc z)
        by (Some y) h =
            let en = region_end e o values solved.extended k r at in
            let active = reads_active e o values solved last i y all_last (ap is_mandatory en.is_end) h in
            let read = reading e o values solved last i y all_last active h in
            let d = read.2 in
            let s = d.spot in
            let range = range_here e o values (numbered e o values solved) s d.member in
            let both : Some (reg_of e o values solved s) ≡ Some reg =
            sym (register_is s d.member) ∙ ap (register_of ranges) d.is
            ∙ sym (ap (register_read ranges) (end_read e o values solved.extended k r at i y h)) ∙ is in
            record {
              operand = y;
              at_end = h;
              spot = s;
              member = d.member;
              block = d.block;
              active = subst (λ (w : LiveRange). w.active ≡ true) range d.active;
              register = cc both;
              value = sym (carried_is e o values (numbered e o values solved) (fit_kinds e o values solved) s d.member) ∙ d.value;
            }

    -- what its end reads are these operands
    pub end_reads_out : (let own : ExtBlock = r.owner in end_operands own.ops) ≡ (let q = last in q.op.operands)
    end_reads_out = let en = region_end e o values solved.extended k r at in ap end_operands en.whole ∙ end_is en.front en.out en.inner en.is_end
