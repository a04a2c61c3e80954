-- The saved values stand in one place each at all boundaries that are joined to the end of the entry: an edge keeps the place, since what a
-- block hands over is congruent with what the next one takes, and a block that hands its saved values over where it takes them has no other
-- temporary for them.
use Rattle.std.proofs.Common.{ℕ, zero, suc, ◌≡◌, ◌<◌, ◌≤◌, ◌+◌, ◌-◌, Bool, true, false, List, [], ◌∷◌, ◌++◌, length, refl, sym, ap, ◌∙◌}
use Rattle.std.proofs.Common.{subst, arith, drop}
use Rattle.std.specs.Prelude.{Option, Some, slice_get, slice_index, ◌&&◌, ◌==◌, if◌then◌else◌, option_and_then, count_by, unwrap_or}
use Rattle.std.specs.List.{range_with_len}
use Rattle.std.specs.Option.{option_map}
use Rattle.std.proofs.lemmas.Bool.{eqb-true}
use Rattle.std.proofs.lemmas.List.{length-drop}
use Rattle.std.proofs.lemmas.List.Sums.{sum_by-cons}
use Rattle.std.proofs.lemmas.Option.{slice_get_past}
use Rattle.un_base.specs.declared.ids.NameId.{NameId}
use Rattle.un_base.specs.declared.ids.TempId.{TempId}
use Rattle.un_isa.specs.Registers.{saved_registers}
use Rattle.un_ir.specs.declared.extended.ExtKind.{ExtKind}
use Rattle.un_ir.specs.declared.extended.ExtKind.TheVariants.{In, Out, Body, End, Copy, Enter, Leave}
use Rattle.un_ir.specs.declared.extended.Operand.{Operand}
use Rattle.un_ir.specs.declared.extended.ExtOp.{ExtOp}
use Rattle.un_ir.specs.declared.extended.ExtBlock.{ExtBlock}
use Rattle.un_ir.specs.declared.extended.Ext.{Ext}
use Rattle.un_ir.specs.Extended.{IsGoodExtBlock, temp, result_count}
use Rattle.un_ir.specs.Kinds.{has_choices}
use Rattle.un_ir.specs.Linear.{first_of, is_in, is_out, place_by, place_over}
use Rattle.un_model.specs.declared.model.Options.{Options}
use Rattle.un_model.specs.declared.schedule.Schedule.{Schedule}
use Rattle.un_model.specs.Congruences.{live_in_temps, live_out_reads, register_of, register_read, results_of_start, HandsOver, HandsOn}
use Rattle.un_model.specs.Schedules.{schedule_of, reads_of, value_by, choice_of}
use Rattle.un_model.specs.Variables.{model_of, var_at, choice_place, chosen_operands}
use Rattle.un_lists.proofs.Lists.{Each, Member, each_member, member_at, get_below, length_get, slice_get-map}
use Rattle.un_model.proofs.OpDomains.{in_entry, choice_sits}
use Rattle.un_model.proofs.Placed.{Placed, vars_of}
use Rattle.un_model.proofs.PlacedSchedules.{all, the_ranges, get_range}
use Rattle.un_model.proofs.Readings.{Solved, good, placed_domains, all_member}
use Rattle.un_saved.specs.Saved.{saved_in, saved_out, end_operands, reads_alone, read_alone}
use Rattle.un_saved.specs.Standing.{place_at, taken_at, handed_at, Leads, Keeps, IsJoined, entry, on, back, through}
use Rattle.un_saved.specs.declared.boundary.Boundary.{Boundary}
use Rattle.un_saved.specs.declared.boundary.Boundary.TheVariants.{StartOf, EndOf}
use Rattle.un_saved.specs.Standing.{within, is_slot, in_slots}
use Rattle.un_model.proofs.Regions.{region_is, region_of}
use Rattle.un_model.proofs.RegionEnds.{region_end, the_end, last_member, end_read}

-- ---- lists

pub and_both : (b c : Bool) → (b && c) ≡ true → (b ≡ true) × (c ≡ true)
and_both true true h = (refl, refl)
and_both true false h = absurd (cc h)
and_both false c h = absurd (cc h)

pub drop_get : {A : Type 0} (n j : ℕ) (xs : List A) → slice_get (drop n xs) j ≡ slice_get xs (n + j)
drop_get zero j xs = let z : j ≡ 0 + j = omega arith in ap (slice_get xs) z
drop_get (suc n) j [] = refl
drop_get (suc n) j (x ∷ xs) = let z : suc (n + j) ≡ suc n + j = omega arith in drop_get n j xs ∙ ap (slice_get (x ∷ xs)) z

-- what a block's end reads is what its last operation reads
pub end_is : (front : List ExtOp) (out : ExtOp) → Each (λ (op : ExtOp). is_out op.kind ≡ false) front → out.kind ≡ Out
    → end_operands (front ++ out ∷ []) ≡ out.operands
end_is [] out h k = ap (λ (b : Bool). if b then out.operands else []) (ap is_out k)
end_is (op ∷ ops) out h k =
    ap (λ (b : Bool). if b then op.operands else end_operands (ops ++ out ∷ [])) h.0 ∙ end_is ops out h.1 k

only : (t : TempId) (alts : List TempId) → (length alts == 1 && first_of alts == t.0) ≡ true → alts ≡ t ∷ []
only t [] h = absurd (cc h)
only t (y ∷ []) h = let same = eqb-true y.0 t.0 h in ap (λ (n : ℕ). temp n ∷ []) same
only t (y ∷ z ∷ zs) h =
    let two = and_both (length (y ∷ z ∷ zs) == 1) (y.0 == t.0) h in
    let one = eqb-true (length (y ∷ z ∷ zs)) 1 two.0 in
    absurd (omega (arith, one))

-- what is read alone is read at its place, by an operand that has no other alternative
pub alone_at : (ts : List TempId) (xs : List Operand) (j : ℕ) (t : TempId) → read_alone ts xs ≡ true → slice_get ts j ≡ Some t
    → (x : Operand) × (slice_get xs j ≡ Some x) × (x.alts ≡ t ∷ [])
alone_at [] xs j t h at = absurd (cc at)
alone_at (u ∷ us) [] j t h at = absurd (cc h)
alone_at (u ∷ us) (x ∷ xs) zero t h at =
    let two = and_both (reads_alone u x) (read_alone us xs) h in
    let same : u ≡ t = cc at in
    (x, refl, subst (λ (v : TempId). x.alts ≡ v ∷ []) same (only u x.alts two.0))
alone_at (u ∷ us) (x ∷ xs) (suc j) t h at = alone_at us xs j t (and_both (reads_alone u x) (read_alone us xs) h).1 at

-- the values at a block's start are the results of its first operation
pub in_is : (k : ExtKind) → is_in k ≡ true → k ≡ In
in_is In h = refl
in_is Out h = absurd (cc h)
in_is (Body so) h = absurd (cc h)
in_is (End term) h = absurd (cc h)
in_is (Copy node) h = absurd (cc h)
in_is Enter h = absurd (cc h)
in_is Leave h = absurd (cc h)

pub live_in_is : (ops rest : List ExtOp) (start : ExtOp) → ops ≡ start ∷ rest → start.kind ≡ In → live_in_temps ops ≡ start.results
live_in_is ops rest start whole k = ap live_in_temps whole ∙ ap (λ (c : ExtKind). results_of_start c start.results (live_in_temps rest)) k

only_one : (v : TempId) (n : ℕ) → n < 1 → unwrap_or (slice_get (v ∷ []) n) (temp 0) ≡ v
only_one v zero lt = refl
only_one v (suc n) lt = absurd (omega (arith, lt))

member_contains_at : {X : Type 0} (P : X → Type 0) (xs : List X) (k : ℕ) (x : X) → Each P xs → slice_get xs k ≡ Some x → P x
member_contains_at P xs k x h at = each_member P xs x h (member_at xs k x at)

module _ (e : Ext) (o : Options) (values : List ℕ) (solved : Solved e o values) where
  abbrev pub the_schedule : Schedule
  the_schedule = schedule_of (model_of e o) values

  -- how many saved values there are
  abbrev pub saved_number : ℕ
  saved_number = length (saved_registers e.table)

  good_block : (k : ℕ) (b : ExtBlock) → slice_get e.blocks k ≡ Some b → IsGoodExtBlock e.table e.names e.blocks b
  good_block k b at =
      let g = good e o values solved in
      all_member (IsGoodExtBlock e.table e.names e.blocks) e.blocks b g.each (member_at e.blocks k b at)

  -- a block takes each of them
  pub saved_count : (k : ℕ) (b : ExtBlock) → slice_get e.blocks k ≡ Some b → length (saved_in b) ≡ saved_number
  saved_count k b at =
      let g = good_block k b at in
      let parts = g.parts in
      let p = parts.0 in
      let h = parts.1 in
      let start = p.start in
      let kind = in_is start.kind h.start in
      let here : slice_get b.ops 0 ≡ Some start = ap (λ (ops : List ExtOp). slice_get ops 0) h.whole in
      let first = g.ops 0 start here in
      let results : live_in_temps b.ops ≡ start.results = live_in_is b.ops _ start h.whole kind in
      let count : length start.results ≡ length b.live_in + saved_number = first.results ∙ ap (result_count e.table b) kind in
      let is = ap length results in
      let drops = length-drop (length b.live_in) (live_in_temps b.ops) in
      omega (arith, count, is, drops)

  pub saved_at : (k : ℕ) (b : ExtBlock) → slice_get e.blocks k ≡ Some b → (j : ℕ) → j < saved_number
      → (v : TempId) × (slice_get (saved_in b) j ≡ Some v)
  saved_at k b at j lt = get_below (saved_in b) j (let count = saved_count k b at in omega (arith, lt, count))

  -- the register of a saved value that a block takes
  start_is : (k : ℕ) (b : ExtBlock) → slice_get e.blocks k ≡ Some b → (j : ℕ) (v : TempId) → slice_get (saved_in b) j ≡ Some v
      → place_at the_schedule e.blocks (StartOf k) j ≡ register_of (the_ranges e o values) v
  start_is k b at j v here =
      ap (λ (c : Option ExtBlock). taken_at the_schedule c j) at
      ∙ ap (λ (u : Option TempId). option_and_then (register_of (the_ranges e o values)) u) here

  end_is_handed : (k : ℕ) (a : ExtBlock) → slice_get e.blocks k ≡ Some a → (j : ℕ)
      → place_at the_schedule e.blocks (EndOf k) j ≡ register_read (the_ranges e o values)
      (slice_get (live_out_reads k (reads_of (model_of e o) values)) (length a.live_out + j))
  end_is_handed k a at j = ap (λ (c : Option ExtBlock). handed_at the_schedule k c j) at

  -- ---- over an edge

  place_is : (a b : ExtBlock) (j : ℕ) → place_over a b (length b.live_in + j) ≡ length a.live_out + j
  place_is a b j =
      let i = length b.live_in + j in
      let rest : length a.live_out + (i - length b.live_in) ≡ length a.live_out + j = omega arith in
      ap (λ (n : Option NameId). place_by a b i n) (slice_get_past b.live_in i (omega arith)) ∙ rest

  pub over_edge : (k l : ℕ) → Leads e.blocks k l → (j : ℕ) → j < saved_number
      → place_at the_schedule e.blocks (EndOf k) j ≡ place_at the_schedule e.blocks (StartOf l) j
  unfolding HandsOn HandsOver
  over_edge k l leads j lt =
      let a = leads.block in
      let found = get_below e.blocks l leads.there in
      let b = found.0 in
      let v = saved_at l b found.1 j lt in
      let live = sym (drop_get (length b.live_in) j (live_in_temps b.ops)) ∙ v.1 in
      let s = solved.schedule in
      let congruent = s.congruences k a leads.from l b leads.to found.1 (length b.live_in + j) v.0 live in
      end_is_handed k a leads.from j
      ∙ ap (λ (i : ℕ). register_read (the_ranges e o values) (slice_get (live_out_reads k (reads_of (model_of e o) values)) i))
      (sym (place_is a b j))
      ∙ congruent ∙ sym (start_is l b found.1 j v.0 v.1)

  -- ---- through a block

  -- an operand with one alternative chooses that
  pub chosen : (q : Placed) (i : ℕ) (y : Operand) (v : TempId) → Member q (all e o values) → slice_get q.op.operands i ≡ Some y
      → y.alts ≡ v ∷ [] → q.op.kind ≡ Out → choice_of values (vars_of q) i y ≡ v
  chosen q i y v m at alone out =
      let own : chosen_operands q.op ≡ q.op.operands = ap (λ (k : ExtKind). if has_choices k then q.op.operands else []) out in
      let n = length_get q.op.operands i y at in
      let long : length (chosen_operands q.op) ≡ length q.op.operands = ap length own in
      let first = q.first + choice_place q.op in
      let get : slice_get (vars_of q).choices i ≡ Some (var_at (first + i)) =
      slice_get-map var_at (range_with_len first (length (chosen_operands q.op))) i
      ∙ ap (option_map var_at) (get_range first (length (chosen_operands q.op)) i (omega (arith, n, long))) in
      let d = choice_sits e o values (in_entry e o values q) q i y (placed_domains e o values solved q m)
      (ap (λ (xs : List Operand). slice_get xs i) own ∙ at) in
      let value : value_by values (slice_get (vars_of q).choices i) ≡ slice_index values (first + i) = ap (value_by values) get in
      let one : length y.alts ≡ 1 = ap length alone in
      let most = d.1 in
      let lt : value_by values (slice_get (vars_of q).choices i) < 1 = omega (arith, most, one, value) in
      ap (λ (ts : List TempId). unwrap_or (slice_get ts (value_by values (slice_get (vars_of q).choices i))) (temp 0)) alone
      ∙ only_one v (value_by values (slice_get (vars_of q).choices i)) lt

  pub through_block : (k : ℕ) → Keeps e.blocks k → (j : ℕ) → j < saved_number
      → place_at the_schedule e.blocks (StartOf k) j ≡ place_at the_schedule e.blocks (EndOf k) j
  through_block k keeping j lt =
      let b = keeping.block in
      let v = saved_at k b keeping.at j lt in
      let got = alone_at (saved_in b) (saved_out b) j v.0 keeping.keeps v.1 in
      let region = region_of 0 0 0 e.blocks k b keeping.at in
      let r = region.0 in
      let rt = region.1 in
      let both : Some r.owner ≡ Some b = sym (region_is 0 0 0 e.blocks k r rt).0 ∙ keeping.at in
      let same : r.owner ≡ b = cc both in
      let en = region_end e o values solved.extended k r rt in
      let q = the_end e o values solved.extended k r rt in
      let i = length b.live_out + j in
      let reads : end_operands b.ops ≡ q.op.operands =
      ap (λ (c : ExtBlock). end_operands c.ops) (sym same) ∙ ap end_operands en.whole ∙ end_is en.front en.out en.inner en.is_end in
      let at_end : slice_get q.op.operands i ≡ Some got.0 = ap (λ (ys : List Operand). slice_get ys i) (sym reads)
      ∙ sym (drop_get (length b.live_out) j (end_operands b.ops)) ∙ got.1 in
      start_is k b keeping.at j v.0 v.1
      ∙ ap (register_of (the_ranges e o values))
      (sym (chosen q i got.0 v.0 (last_member e o values solved.extended k r rt) at_end got.2 en.is_end))
      ∙ sym (ap (register_read (the_ranges e o values)) (end_read e o values solved.extended k r rt i got.0 at_end))
      ∙ sym (end_is_handed k b keeping.at j)

  -- ---- over the function

  -- Each saved value has one register at all boundaries that are joined to the end of the entry.
  pub one_place : (c : Boundary) → IsJoined e.blocks c → (j : ℕ) → j < saved_number
      → place_at the_schedule e.blocks (EndOf 0) j ≡ place_at the_schedule e.blocks c j
  one_place c entry j lt = refl
  one_place c (on k l leads before) j lt = one_place (EndOf k) before j lt ∙ over_edge k l leads j lt
  one_place c (back k l leads before) j lt = one_place (StartOf l) before j lt ∙ sym (over_edge k l leads j lt)
  one_place c (through k keeps before) j lt = one_place (StartOf k) before j lt ∙ through_block k keeps j lt
  one_place c (within k keeps before) j lt = one_place (EndOf k) before j lt ∙ sym (through_block k keeps j lt)

-- numbers from one on that pass tests which are alike below another are as many
count_alike : (p q : ℕ → Bool) (a n : ℕ) → ((j : ℕ) → a ≤ j → j < a + n → p j ≡ q j)
    → count_by p (range_with_len a n) ≡ count_by q (range_with_len a n)
count_alike p q a zero h = refl
count_alike p q a (suc n) h =
    let rest = count_alike p q (a + 1) n (λ j le lt. h j (omega (arith, le)) (omega (arith, lt))) in
    let one : (let number : Bool → ℕ = λ b. if b then 1 else 0 in number (p a) ≡ number (q a)) =
    (let number : Bool → ℕ = λ b. if b then 1 else 0 in ap number (h a (omega arith) (omega arith))) in
    let left = counted p (range_with_len (a + 1) n) in
    let right = counted q (range_with_len (a + 1) n) in
    omega (arith, rest, one, left, right)
  where
    counted : (t : ℕ → Bool) (xs : List ℕ) → count_by t (a ∷ xs) ≡ (if t a then 1 else 0) + count_by t xs
    counted t xs = sum_by-cons (λ (x : ℕ). if t x then 1 else 0) a xs

module _ (e : Ext) (o : Options) (values : List ℕ) (solved : Solved e o values) where
  -- So as many of them have slots at each.
  pub one_count : (c : Boundary) → IsJoined e.blocks c
      → in_slots (schedule_of (model_of e o) values) e.blocks (EndOf 0) (length (saved_registers e.table))
      ≡ in_slots (schedule_of (model_of e o) values) e.blocks c (length (saved_registers e.table))
  one_count c joined =
      let t = schedule_of (model_of e o) values in
      count_alike (λ (j : ℕ). is_slot (place_at t e.blocks (EndOf 0) j)) (λ (j : ℕ). is_slot (place_at t e.blocks c j)) 0
      (length (saved_registers e.table)) (λ j le lt. ap is_slot (one_place e o values solved c joined j (omega (arith, lt))))
