-- Over an edge the values that a block hands over stand where the next block takes them.
use Rattle.std.proofs.Common.{ℕ, zero, suc, ◌≡◌, ◌≢◌, ◌<◌, ◌≤◌, ◌+◌, ◌-◌, ◌^◌, Bool, true, false, cond, not, List, [], ◌∷◌, ◌++◌, length}
use Rattle.std.proofs.Common.{map, drop, replicate, get_or, inl, inr, ⊎_elim, refl, sym, ap, ◌∙◌, subst, arith, Contains}
use Rattle.std.specs.Prelude.{Option, Some, None, slice_get, slice_index, unwrap_or, ◌==◌}
use Rattle.std.specs.List.{AllZip, position_or_len}
use Rattle.std.specs.Option.{option_map}
use Rattle.std.proofs.lemmas.Bool.{cases_eq, eq-eqb}
use Rattle.std.proofs.lemmas.List.{length-append}
use Rattle.un_base.specs.declared.ids.NameId.{NameId}
use Rattle.un_base.specs.declared.ids.TempId.{TempId}
use Rattle.un_isa.specs.Registers.{saved_registers}
use Rattle.un_isa.specs.declared.reg.TheConstants.{FIRST_SLOT}
use Rattle.un_ir.specs.Live.{targets_of}
use Rattle.un_ir.specs.declared.function.Kind.{Kind}
use Rattle.un_ir.specs.declared.function.Kind.TheVariants.{General, Pred}
use Rattle.un_ir.specs.declared.function.Term.{Term}
use Rattle.un_ir.specs.declared.function.Term.TheVariants.{Fall, Jump, Branch, Ret}
use Rattle.un_ir.specs.declared.extended.ExtKind.TheVariants.{Out}
use Rattle.un_ir.specs.declared.extended.Operand.{Operand}
use Rattle.un_ir.specs.declared.extended.ExtBlock.{ExtBlock}
use Rattle.un_ir.specs.declared.extended.Ext.{Ext}
use Rattle.un_ir.specs.Extended.{Want, anywhere, wants_of, wants_of_out, name_kind, is_return, returns, IsGoodOperand}
use Rattle.un_ir.specs.Linear.{World, ending_of, taken_by, place_over, place_by, in_temps, out_operands}
use Rattle.un_model.specs.declared.model.Options.{Options}
use Rattle.un_packet.specs.Step.{PacketState}
use Rattle.un_ir.specs.declared.extended.ExtKind.{ExtKind}
use Rattle.un_lists.proofs.Lists.{Member, each_member, each_all, each_more, member_map, member_at, get_below, length_get}
use Rattle.un_model.proofs.Operations.{contains_member}
use Rattle.un_model.proofs.Placed.{Spot, spot, spots_of, vars_of}
use Rattle.un_model.proofs.PlacedSchedules.{all, spots, range_at, the_ranges, range_get, range_here, member_joined, member_places}
use Rattle.un_model.proofs.TempKinds.{kind_at}
use Rattle.un_model.proofs.Readings.{Solved, numbered, fit_kinds, placed_good}
use Rattle.un_emit.proofs.BlockJobs.{InRegion}
use Rattle.un_emit.proofs.BlockValues.{of_all}
use Rattle.un_ir.specs.Linear.{value_of}
use Rattle.un_model.specs.declared.schedule.LiveRange.{LiveRange}
use Rattle.un_model.specs.Congruences.{HandsOn, HandsOver, live_in_temps, register_of, register_read, term_of}
use Rattle.un_model.specs.Schedules.{choice_of}
use Rattle.un_simulation.specs.Simulation.{as_held, held_at}
use Rattle.un_emit.proofs.BlockEdges.{starts, live_in_is}
use Rattle.un_emit.proofs.InOps.{in_op, start_count, start_kind}
use Rattle.un_emit.proofs.BlockStarts.{parts, AtStart, scene}
use Rattle.un_emit.proofs.Places.{words, placing}
use Rattle.un_emit.proofs.Stack.{bytes, stack_goes, stack_later}
use Rattle.un_emit.proofs.EdgeReads.{same_term, end_read}
use Rattle.un_emit.proofs.Effects.{run_jobs, run_done, is_effect}
use Rattle.un_emit.proofs.Timed.{Job}
use Rattle.un_emit.proofs.Cycles.{At}
use Rattle.un_emit.proofs.BlockTimed.{block_timed}
use Rattle.un_emit.proofs.BlockEnds.{out_op, owner_of, hands, handed, val, the_end}

-- ---- what is taken at each place

pub index_left : (xs ys : List ℕ) (j : ℕ) → j < length xs → slice_index (xs ++ ys) j ≡ slice_index xs j
index_left [] ys j lt = absurd (omega arith)
index_left (x ∷ xs) ys zero lt = refl
index_left (x ∷ xs) ys (suc j) lt = index_left xs ys j (omega arith)

pub index_right : (xs ys : List ℕ) (j k : ℕ) → j ≡ length xs + k → slice_index (xs ++ ys) j ≡ slice_index ys k
index_right [] ys j k e = ap (slice_index ys) (omega arith)
index_right (x ∷ xs) ys zero k e = absurd (omega arith)
index_right (x ∷ xs) ys (suc j) k e = index_right xs ys j k (omega arith)

pub index_drop : (n : ℕ) (xs : List ℕ) (k : ℕ) → slice_index (drop n xs) k ≡ slice_index xs (n + k)
index_drop zero xs k = ap (slice_index xs) (omega arith)
index_drop (suc n) [] k = refl
index_drop (suc n) (x ∷ xs) k = index_drop n xs k ∙ ap (slice_index (x ∷ xs)) e
  where
    e : suc (n + k) ≡ suc n + k
    e = omega arith

pub index_of_map : {A : Type 0} (f : A → ℕ) (xs : List A) (j : ℕ) (x : A) → slice_get xs j ≡ Some x → slice_index (map f xs) j ≡ f x
index_of_map f [] j x q = absurd (cc q)
index_of_map f (y ∷ ys) zero x q = let z : y ≡ x = cc q in ap f z
index_of_map f (y ∷ ys) (suc j) x q = index_of_map f ys j x q

pub length-mapped : {A B : Type 0} (f : A → B) (xs : List A) → length (map f xs) ≡ length xs
length-mapped f [] = refl
length-mapped f (x ∷ xs) = ap suc (length-mapped f xs)

pub none_past : {A : Type 0} (xs : List A) (j : ℕ) → slice_get xs j ≡ None → length xs ≤ j
none_past [] j q = omega arith
none_past (x ∷ xs) zero q = absurd (cc q)
none_past (x ∷ xs) (suc j) q = let z = none_past xs j q in omega arith

-- what block b takes at place j is what block a hands over at the place that belongs to it
pub taken_at : (a b : ExtBlock) (handed : List ℕ) (j : ℕ) → slice_index (taken_by a handed b) j ≡ slice_index handed (place_over a b j)
taken_at a b handed j = go (slice_get b.live_in j) refl
  where
    f : NameId → ℕ
    f name = slice_index handed (position_or_len (λ (n : NameId). n.0 == name.0) a.live_out)

    go : (x : Option NameId) → slice_get b.live_in j ≡ x → slice_index (taken_by a handed b) j ≡ slice_index handed (place_by a b j x)
    go (Some name) q =
        let lt = length_get b.live_in j name q in
        let l = length-mapped f b.live_in in
        index_left (map f b.live_in) (drop (length a.live_out) handed) j (omega (arith, lt, l)) ∙ index_of_map f b.live_in j name q
    go None q =
        let le = none_past b.live_in j q in
        let l = length-mapped f b.live_in in
        index_right (map f b.live_in) (drop (length a.live_out) handed) j (j - length b.live_in) (omega (arith, le, l))
        ∙ index_drop (length a.live_out) handed (j - length b.live_in)

-- ---- kinds at each place

-- the wants of a block's end that does not return
abbrev pub goes_wants : Ext → ExtBlock → List Want
goes_wants e a = map (λ (name : NameId). anywhere (name_kind e.names name)) a.live_out ++
    map (λ (r : ℕ). anywhere General) (saved_registers e.table)

pub not_returning : (e : Ext) (a : ExtBlock) (term : Term) → is_return term ≡ false
    → wants_of_out e.table e.names a.live_out term ≡ goes_wants e a
not_returning e a Fall q = refl
not_returning e a (Jump to) q = refl
not_returning e a (Branch pred sense to) q = refl
not_returning e a (Ret value) q = absurd (cc q)

pub get_left : {A : Type 0} (xs ys : List A) (j : ℕ) (x : A) → slice_get xs j ≡ Some x → slice_get (xs ++ ys) j ≡ Some x
get_left [] ys j x q = absurd (cc q)
get_left (y ∷ xs) ys zero x q = q
get_left (y ∷ xs) ys (suc j) x q = get_left xs ys j x q

pub get_right : {A : Type 0} (xs ys : List A) (j k : ℕ) → j ≡ length xs + k → slice_get (xs ++ ys) j ≡ slice_get ys k
get_right [] ys j k e = ap (slice_get ys) (omega arith)
get_right (x ∷ xs) ys zero k e = absurd (omega arith)
get_right (x ∷ xs) ys (suc j) k e = get_right xs ys j k (omega arith)

pub get_map : {A B : Type 0} (f : A → B) (xs : List A) (j : ℕ) (x : A) → slice_get xs j ≡ Some x → slice_get (map f xs) j ≡ Some (f x)
get_map f [] j x q = absurd (cc q)
get_map f (y ∷ ys) zero x q = let z : y ≡ x = cc q in ap (λ w. Some (f w)) z
get_map f (y ∷ ys) (suc j) x q = get_map f ys j x q

pub get_repeat : {A : Type 0} (n k : ℕ) (x : A) → k < n → slice_get (replicate n x) k ≡ Some x
get_repeat zero k x lt = absurd (omega arith)
get_repeat (suc n) zero x lt = refl
get_repeat (suc n) (suc k) x lt = get_repeat n k x (omega arith)

-- the place of a name that is there
pub named_at : (names : List NameId) (name : NameId) → Member name names → (x : NameId)
    × (slice_get names (position_or_len (λ (n : NameId). n.0 == name.0) names) ≡ Some x) × (x.0 ≡ name.0)
named_at [] name m = elim m [ ]
named_at (y ∷ ys) name m = go (named_at ys name) (y.0 == name.0) refl m
  where
    is_same : (a b : ℕ) → (a == b) ≡ true → a ≡ b
    is_same a b q = ⊎_elim (λ (e : a ≡ b). e) (λ (n : a ≢ b). absurd (grind (arith, q))) (cases_eq a b)

    go : (Member name ys → (x : NameId) × (slice_get ys (position_or_len (λ (n : NameId). n.0 == name.0) ys) ≡ Some x) × (x.0 ≡ name.0))
        → (b : Bool) → (y.0 == name.0) ≡ b → Member name (y ∷ ys)
        → (x : NameId) × (slice_get (y ∷ ys) (position_or_len (λ (n : NameId). n.0 == name.0) (y ∷ ys)) ≡ Some x) × (x.0 ≡ name.0)
    go more true q m = (
      y,
      ap (λ (b : Bool). slice_get (y ∷ ys) (cond (not b) (1 + position_or_len (λ (n : NameId). n.0 == name.0) ys) 0))
          q,
      is_same y.0 name.0 q,
    )
    go more false q (inl e) = let z : true ≡ false = sym (eq-eqb y.0 name.0 (ap (λ (n : NameId). n.0) e)) ∙ q in absurd (cc z)
    go more false q (inr m) =
        let r = more m in
        let n = position_or_len (λ (n : NameId). n.0 == name.0) ys in
        let z : 1 + n ≡ suc n = omega arith in
        (r.0, ap (λ (b : Bool). slice_get (y ∷ ys) (cond (not b) (1 + n) 0)) q ∙ ap (slice_get (y ∷ ys)) z ∙ r.1, r.2)

-- ---- the edge

module _ (e : Ext) (o : Options) (values : List ℕ) (h : Solved e o values) (k : ℕ) (block : ExtBlock)
    (r : InRegion (all e o values) k block) (at : slice_get e.blocks k ≡ Some block)
    (c : ℕ) (next : ExtBlock) (rc : InRegion (all e o values) c next) (atc : slice_get e.blocks c ≡ Some next)
    (edge : (let x = ending_of block.ops in Contains (targets_of k x.term) c)) where
  goes_on : returns block ≡ false
  goes_on = go (let x = ending_of block.ops in x.term) edge
    where
      go : (t : Term) → Contains (targets_of k t) c → is_return t ≡ false
      go Fall m = refl
      go (Jump to) m = refl
      go (Branch pred sense to) m = refl
      go (Ret value) m = let lt = m.1 in absurd (omega arith)

  pub not_entry : c ≢ 0
  not_entry =
      let x = h.extended in
      let g = x.good in
      let l = g.leads k block at in
      let z = each_member (λ (c : ℕ). (0 < c) × (c < length e.blocks)) (let x = ending_of block.ops in targets_of k x.term) c
      (each_all (λ (c : ℕ). (0 < c) × (c < length e.blocks)) (let x = ending_of block.ops in targets_of k x.term) l)
      (contains_member (let x = ending_of block.ops in targets_of k x.term) c edge) in
      λ q. let lt = z.0 in omega arith

  -- the operand that hands over what the next block takes at place j, with what is wanted there
  pub record Taken (j : ℕ) (x : TempId) : Type 0 where
    pub operand : Operand
    pub get : (let p = out_op e o values h k block r at in let q = p.placed in
        slice_get q.op.operands (place_over block next j) ≡ Some operand)
    pub kind : (want : Want) → slice_get (goes_wants e block) (place_over block next j) ≡ Some want
        → kind_at e o values (numbered e o values h) (fit_kinds e o values h) x.0 ≡ want.kind

  zip_length : {A B : Type 0} (R : A → B → Type 0) (xs : List A) (ys : List B) → AllZip R xs ys → length xs ≡ length ys
  zip_length R [] [] z = refl
  zip_length R [] (y ∷ ys) z = absurd z
  zip_length R (x ∷ xs) [] z = absurd z
  zip_length R (x ∷ xs) (y ∷ ys) z = ap suc (zip_length R xs ys z.1)

  out_wants : (let p = out_op e o values h k block r at in let q = p.placed in wants_of e.table e.names e.blocks q.owner q.op.kind q.op) ≡
      goes_wants e block
  out_wants =
      let out = out_op e o values h k block r at in
      let p = out.placed in
      ap (λ (y : ExtKind). wants_of e.table e.names e.blocks p.owner y p.op) out.kind
      ∙ ap (λ (b : ExtBlock). wants_of e.table e.names e.blocks b Out p.op) (owner_of e o values h k block r at p out.member)
      ∙ not_returning e block (let x = ending_of block.ops in x.term) goes_on

  out_count : (let p = out_op e o values h k block r at in let q = p.placed in length q.op.operands) ≡ length block.live_out + length
      (saved_registers e.table)
  out_count =
      let out = out_op e o values h k block r at in
      let p = out.placed in
      let g = placed_good e o values h p (of_all e o values h k block r p out.member).0 in
      let f = g.keeps in
      zip_length (IsGoodOperand e.names e.blocks g.before) p.op.operands (wants_of e.table e.names e.blocks p.owner p.op.kind p.op)
      f.operands ∙ ap length out_wants
      ∙ length-append (map (λ (name : NameId). anywhere (name_kind e.names name)) block.live_out)
      (map (λ (r : ℕ). anywhere General) (saved_registers e.table))
      ∙ ap (λ n. n + length (map (λ (r : ℕ). anywhere General) (saved_registers e.table)))
      (length-mapped (λ (name : NameId). anywhere (name_kind e.names name)) block.live_out)
      ∙ ap (λ n. length block.live_out + n) (length-mapped (λ (r : ℕ). anywhere General) (saved_registers e.table))

  pub taken : (j : ℕ) (x : TempId) → slice_get (in_temps next.ops) j ≡ Some x → Taken j x
  taken j x q = go (slice_get next.live_in j) refl
    where
      lt : j < length next.live_in + length (saved_registers e.table)
      lt = let z = length_get (in_temps next.ops) j x q in let y = start_count e o values h c next rc atc in omega (arith, z, y)

      go : (n : Option NameId) → slice_get next.live_in j ≡ n → Taken j x
      go (Some name) s =
          let y = h.extended in
          let g = y.good in
          let all = g.hands_over k c block next at atc edge in
          let mem = each_member (Contains block.live_out) next.live_in name (each_all (Contains block.live_out) next.live_in all)
          (member_at next.live_in j name s) in
          let f = named_at block.live_out name (contains_member block.live_out name mem) in
          let i = position_or_len (λ (n : NameId). n.0 == name.0) block.live_out in
          let small = length_get block.live_out i f.0 f.1 in
          let cnt = out_count in
          let op = get_below (let p = out_op e o values h k block r at in let q = p.placed in q.op.operands) i (omega (arith, small, cnt))
          in
          let place : place_over block next j ≡ i = ap (place_by block next j) s in
          record {
            operand = op.0;
            get = ap (slice_get (let p = out_op e o values h k block r at in let q = p.placed in q.op.operands)) place ∙ op.1;
            kind = λ want w.
                let got : slice_get (goes_wants e block) i ≡ Some (anywhere (name_kind e.names f.0)) =
                get_left (map (λ (name : NameId). anywhere (name_kind e.names name)) block.live_out)
                (map (λ (r : ℕ). anywhere General) (saved_registers e.table)) i (anywhere (name_kind e.names f.0))
                (get_map (λ (name : NameId). anywhere (name_kind e.names name)) block.live_out i f.0 f.1) in
                let same : Some want ≡ Some (anywhere (name_kind e.names f.0)) = sym w ∙ ap (slice_get (goes_wants e block)) place ∙ got in
                let same' : want ≡ anywhere (name_kind e.names f.0) = cc same in
                start_kind e o values h c next rc atc j x q ∙ ap (λ (z : Option Kind). unwrap_or z General)
                (get_left (map (name_kind e.names) next.live_in) (replicate (length (in_temps next.ops) - length next.live_in) General)
                j (name_kind e.names name) (get_map (name_kind e.names) next.live_in j name s))
                ∙ ap (λ n. unwrap_or (slice_get e.names n) General) (sym f.2) ∙ ap (λ (w : Want). w.kind) (sym same');
          }
      go None s =
          let le = none_past next.live_in j s in
          let i = length block.live_out + (j - length next.live_in) in
          let cnt = out_count in
          let l = lt in
          let op = get_below (let p = out_op e o values h k block r at in let q = p.placed in q.op.operands) i (omega (arith, cnt, l, le))
          in
          let place : place_over block next j ≡ i = ap (place_by block next j) s in
          let sv = get_below (saved_registers e.table) (j - length next.live_in) (omega (arith, l, le)) in
          record {
            operand = op.0;
            get = ap (slice_get (let p = out_op e o values h k block r at in let q = p.placed in q.op.operands)) place ∙ op.1;
            kind = λ want w.
                let len = length-mapped (λ (name : NameId). anywhere (name_kind e.names name)) block.live_out in
                let got : slice_get (goes_wants e block) i ≡ Some (anywhere General) =
                get_right (map (λ (name : NameId). anywhere (name_kind e.names name)) block.live_out)
                (map (λ (r : ℕ). anywhere General) (saved_registers e.table)) i (j - length next.live_in) (omega (arith, len))
                ∙ get_map (λ (r : ℕ). anywhere General) (saved_registers e.table) (j - length next.live_in) sv.0 sv.1 in
                let same : Some want ≡ Some (anywhere General) = sym w ∙ ap (slice_get (goes_wants e block)) place ∙ got in
                let same' : want ≡ anywhere General = cc same in
                let ln = length-mapped (name_kind e.names) next.live_in in
                let sc = start_count e o values h c next rc atc in
                start_kind e o values h c next rc atc j x q ∙ ap (λ (z : Option Kind). unwrap_or z General)
                (get_right (map (name_kind e.names) next.live_in) (replicate (length (in_temps next.ops) - length next.live_in) General)
                j (j - length next.live_in) (omega (arith, ln, le))
                ∙ get_repeat (length (in_temps next.ops) - length next.live_in) (j - length next.live_in) General
                (omega (arith, sc, l, le)))
                ∙ ap (λ (w : Want). w.kind) (sym same');
          }

  -- where the next block takes a value its register is that of what is handed over
  same_register : (j : ℕ) (x : TempId) (op : Operand) → slice_get (in_temps next.ops) j ≡ Some x
      → (let p = out_op e o values h k block r at in let q = p.placed in slice_get q.op.operands (place_over block next j) ≡ Some op)
      → register_of (the_ranges e o values) (let p = out_op e o values h k block r at in
      choice_of values (vars_of p.placed) (place_over block next j) op) ≡ register_of (the_ranges e o values) x
  unfolding HandsOn HandsOver
  same_register j x op q got =
      let s = h.schedule in
      let ps = parts e o values h c next rc atc in
      let live : slice_get (live_in_temps next.ops) j ≡ Some x = ap (λ xs. slice_get xs j)
      (live_in_is next.ops ps.0 ps.1 ∙ sym (starts next.ops ps.0 ps.1)) ∙ q in
      let edge' : Contains (targets_of k (term_of block.ops)) c =
      subst (λ (t : Term). Contains (targets_of k t) c) (sym (same_term block.ops)) edge in
      let f = s.congruences k block at c next edge' atc j x live in
      let rd = end_read e o values h k block r at (place_over block next j) op got in
      sym (ap (register_read (the_ranges e o values)) rd) ∙ f

  known_register : (v : Spot) → Member v (spots e o values) → register_of (the_ranges e o values) v.temp ≡ Some
      (range_at e o values v.temp.0).reg
  known_register v m =
      ap (option_map (λ (h : LiveRange). h.reg)) (range_get e o values (numbered e o values h) v m)
      ∙ sym (ap (λ (h : LiveRange). Some h.reg) (range_here e o values (numbered e o values h) v m))

  start_spot : (j : ℕ) (x : TempId) → slice_get (in_temps next.ops) j ≡ Some x → (v : Spot) × (Member v (spots e o values)) × (v.temp ≡ x)
  start_spot j x q =
      let i = in_op e o values h c next rc atc in
      let p = i.placed in
      let m = (of_all e o values h c next rc p i.member).0 in
      let got : slice_get p.op.results j ≡ Some x = ap (λ xs. slice_get xs j) (sym i.results) ∙ q in (
        spot p j x,
        member_joined (map spots_of (all e o values)) (spots_of p) (spot p j x) (member_map spots_of (all e o values) p m)
            (member_places (spot p) p.op.results 0 j j x (omega arith) got),
        refl,
      )

  module _ (base : ℕ) (taken_in : List ℕ) (w : World) (s : PacketState) (a : AtStart e o values h k block r at base taken_in w s)
      (u : PacketState) (le : 1 ≤ the_end e o values h k block r at)
      (au : At (scene e o values h k block r at base taken_in w s) (the_end e o values h k block r at - 1) u) where
    abbrev over : List ℕ
    over = handed e o values h k block r at base taken_in w s a

    -- what the next block takes at place j
    pub record Arrives (j : ℕ) (x : TempId) : Type 0 where
      pub held : held_at u (range_at e o values x.0).reg ≡ as_held (kind_at e o values (numbered e o values h) (fit_kinds e o values h) x.0)
          (range_at e o values x.0).reg (slice_index (taken_by block over next) j)
      pub ready : (range_at e o values x.0).reg < FIRST_SLOT → get_or u.ready (range_at e o values x.0).reg 0 ≤ u.cycle + 1
      pub truth : kind_at e o values (numbered e o values h) (fit_kinds e o values h) x.0 ≡ Pred
          → slice_index (taken_by block over next) j < 2

    arrives : (j : ℕ) (x : TempId) → slice_get (in_temps next.ops) j ≡ Some x → Arrives j x
    arrives j x q =
        let t = taken j x q in
        let i = place_over block next j in
        let g = hands e o values h k block r at base taken_in w s a i t.operand u le au t.get in
        let rd = g.reading_is in
        let v = rd.spot in
        let ss = start_spot j x q in
        let regs : Some (range_at e o values v.temp.0).reg ≡ Some (range_at e o values x.0).reg =
        sym (known_register v rd.member) ∙ ap (register_of (the_ranges e o values)) rd.is ∙ same_register j x t.operand q t.get
        ∙ sym (ap (register_of (the_ranges e o values)) ss.2) ∙ known_register ss.0 ss.1
        ∙ ap (λ (y : TempId). Some (range_at e o values y.0).reg) ss.2 in
        let reg : (range_at e o values v.temp.0).reg ≡ (range_at e o values x.0).reg = cc regs in
        let kd = t.kind g.want (ap (λ ws. slice_get ws i) (sym (wants_here)) ∙ g.wanted) in
        let val = taken_at block next over j in
        record {
          held = subst (λ n. held_at u n ≡ as_held (kind_at e o values (numbered e o values h) (fit_kinds e o values h) x.0) n
              (slice_index (taken_by block over next) j)) reg
              (g.held ∙ ap (λ (y : Kind). as_held y (range_at e o values v.temp.0).reg (slice_index over i)) (sym kd)
              ∙ ap (as_held (kind_at e o values (numbered e o values h) (fit_kinds e o values h) x.0)
              (range_at e o values v.temp.0).reg) (sym val));
          ready = λ lt. subst (λ n. get_or u.ready n 0 ≤ u.cycle + 1) reg (g.ready (subst (λ n. n < FIRST_SLOT) (sym reg) lt));
          truth = λ y. subst (λ n. n < 2) (sym val) (g.truth (sym kd ∙ y));
        }
      where
        wants_here : wants_of e.table e.names e.blocks block Out (let p = out_op e o values h k block r at in let q = p.placed in q.op) ≡
            goes_wants e block
        wants_here = not_returning e block (let x = ending_of block.ops in x.term) goes_on

    length_drop : (n : ℕ) (xs : List ℕ) → length (drop n xs) ≡ length xs - n
    length_drop zero xs = omega arith
    length_drop (suc n) [] = omega arith
    length_drop (suc n) (x ∷ xs) = let z = length_drop n xs in omega (arith, z)

    world_done : (let x = scene e o values h k block r at base taken_in w s in
        record { memory = u.memory; calls = u.calls; replies = u.replies } ≡ run_jobs x.val x.jobs w)
    world_done =
        let t = block_timed e o values h (words e o values h) (placing e o values h) k block r at in
        let x = scene e o values h k block r at base taken_in w s in
        au.world ∙ run_done x.val (the_end e o values h k block r at - 1 + 1) x.jobs w
        (each_more (λ (j : Job). j.cycle < the_end e o values h k block r at)
        (λ (j : Job). is_effect j.instr.op ≡ true → j.cycle < the_end e o values h k block r at - 1 + 1) x.jobs (λ j lt q. omega arith)
        t.soon)

    -- the next block starts where this one ends
    pub arrive : base + bytes e o values h k block r at < 2 ^ 32 →
        AtStart e o values h c next rc atc base (taken_by block over next)
        (let x = scene e o values h k block r at base taken_in w s in run_jobs x.val x.jobs w) u
    arrive room =
        let hd = au.holds in
        let tm = au.time in
        record {
          regs_long = hd.long;
          ready_long = tm.long;
          frame_long = hd.frame;
          frame_start = hd.start;
          world = world_done;
          taken_long =
              let l1 = length-mapped (λ (name : NameId). slice_index over (position_or_len (λ (n : NameId). n.0 == name.0) block.live_out))
              next.live_in in
              let l2 = length_drop (length block.live_out) over in
              let l3 = length-mapped (value_of (val e o values h k block r at base taken_in w s a)) (out_operands block.ops) in
              let out = out_op e o values h k block r at in
              let l4 : length (out_operands block.ops) ≡ length block.live_out + length (saved_registers e.table) = ap length out.operands
              ∙ out_count in
              let l5 = start_count e o values h c next rc atc in
              length-append (map (λ (name : NameId). slice_index over (position_or_len (λ (n : NameId). n.0 == name.0) block.live_out))
              next.live_in) (drop (length block.live_out) over) ∙ omega (arith, l1, l2, l3, l4, l5);
          places = λ j x q. let z = arrives j x q in z.held;
          ready = λ j x q. let z = arrives j x q in z.ready;
          truths = λ j x q. let z = arrives j x q in z.truth;
          stack = hd.stack_is ∙ stack_goes e o values h k block r at base room goes_on
              ∙ sym (stack_later e o values h c next rc atc base room not_entry);
          stack_ready = let z = tm.stack in let y = tm.cycle in omega (arith, z, y);
        }
