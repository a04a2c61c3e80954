-- What a block hands over stands in the same register where the next block takes it exactly where the constraints of edges are met.
use Rattle.std.proofs.Common.{ℕ, zero, suc, ◌≡◌, ◌↔◌, ◌+◌, ◌<◌, ◌≤◌, Bool, true, false, cond, not, List, [], ◌∷◌, ◌++◌, length, map, inl}
use Rattle.std.proofs.Common.{inr, refl, sym, ap, ◌∙◌, subst, arith, Contains}
use Rattle.std.proofs.lemmas.List.{length-map}
use Rattle.std.specs.Prelude.{Option, Some, None, slice_get, slice_index, slice_index_or, nat_eq, ◌==◌}
use Rattle.std.specs.List.{AllZip, position_or_len}
use Rattle.std.specs.Option.{option_map}
use Rattle.std.proofs.lemmas.Bool.Decides.{nat_tests}
use Rattle.un_base.specs.declared.ids.NameId.{NameId}
use Rattle.un_base.specs.declared.ids.TempId.{TempId}
use Rattle.un_base.specs.declared.ids.VarId.{VarId}
use Rattle.un_isa.specs.Registers.{saved_registers}
use Rattle.un_ir.specs.Live.{targets_of}
use Rattle.un_ir.specs.declared.function.Term.{Term}
use Rattle.un_ir.specs.declared.function.Term.TheVariants.{Fall, Jump, Branch, Ret}
use Rattle.un_ir.specs.declared.extended.ExtKind.{ExtKind}
use Rattle.un_ir.specs.declared.extended.ExtKind.TheVariants.{In, Out, Body, End, Copy, Enter, Leave}
use Rattle.un_ir.specs.declared.extended.Operand.{Operand}
use Rattle.un_ir.specs.declared.extended.ExtOp.{ExtOp}
use Rattle.un_ir.specs.declared.extended.ExtBlock.{ExtBlock}
use Rattle.un_ir.specs.declared.extended.Ext.{Ext}
use Rattle.un_ir.specs.Linear.{ending_of, ending_or, is_in}
use Rattle.un_ir.specs.Extended.{wants_of, wants_of_out, result_count, IsGoodOperand}
use Rattle.un_model.specs.declared.model.Options.{Options}
use Rattle.un_model.specs.declared.schedule.LiveRange.{LiveRange}
use Rattle.un_ir.specs.Linear.{place_over, place_by}
use Rattle.un_model.specs.Congruences.{term_of, term_or, live_in_temps, results_of_start, live_out_reads, register_of}
use Rattle.un_model.specs.Congruences.{register_read, IsCongruent, HandsOver, HandsOn, KeepsCongruences}
use Rattle.un_model.specs.Pairs.{places_from, joined, over_blocks}
use Rattle.un_model.specs.Schedules.{reads_of, schedule_of}
use Rattle.un_ir.specs.Kinds.{has_choices}
use Rattle.un_model.specs.Variables.{model_of, var_at, choice_place, block_vars, blocks_vars, ops_count}
use Rattle.un_lists.proofs.Lists.{Each, Member, each_append, each_join, each_of, each_member, member_at, place_of as position_of, get_below}
use Rattle.un_lists.proofs.Lists.{length_get, map-append}
use Rattle.un_model.proofs.Operations.{contains_member, placed_get}
use Rattle.un_model.proofs.Placed.{vars_of, Spot, spot, Region, region_placed}
use Rattle.un_model.proofs.PlacedSchedules.{spots, spot_range, the_ranges, range_get}
use Rattle.un_alt.specs.Registers.{chosen_value, some_passes}
use Rattle.un_kinds.specs.Constraints.{Constraint, AllMet, Same}
use Rattle.un_sites.specs.Places.{Place, Definer, definers_of, definer_or, definers_at, block_places}
use Rattle.un_sites.specs.Postings.{edges_of, over_edge, congruence, same_by, registers_of, last_place}
use Rattle.un_model.proofs.RegionEnds.{all_regions, region_member, region_good, region_end, last_member, the_end, end_read}
use Rattle.un_post.proofs.Facts.{Given, Reading, good, good_op, all_member, numbered, definer_is, choice_var, reading, read_range}
use Rattle.un_post.proofs.Facts.{read_register}
use Rattle.un_root.proofs.Eaches.{each_places}
use Rattle.un_post.proofs.Meeting.{each_joined, joined_each, places_each, Met, met_all, all_met}
use Rattle.un_post.proofs.Placing.{place_of, definer_here, placed_places}
use Rattle.un_model.proofs.Regions.{region_is, region_of, over_regions, last_of, front_of, region_parts}
use Rattle.un_post.proofs.Tests.{iff_then, eq_iff, met_one}
use Rattle.un_post.proofs.Whole.{spot_in}

-- ---- several lists

last_append : (ps : List Place) (p : Place) → last_place (ps ++ p ∷ []) ≡ p
last_append [] p = refl
last_append (q ∷ []) p = refl
last_append (q ∷ r ∷ ps) p = last_append (r ∷ ps) p

each_flat : {A : Type 0} (Q : A → Type 0) (xss : List (List A)) → Each (λ xs. Each Q xs) xss → Each Q (joined xss)
each_flat Q [] h = tt
each_flat Q (xs ∷ xss) h = each_join Q xs (joined xss) h.0 (each_flat Q xss h.1)

flat_each : {A : Type 0} (Q : A → Type 0) (xss : List (List A)) → Each Q (joined xss) → Each (λ xs. Each Q xs) xss
flat_each Q [] h = tt
flat_each Q (xs ∷ xss) h = let r = each_append Q xs (joined xss) h in (r.0, flat_each Q xss r.1)

-- ---- places over an edge

pub same_term : (ops : List ExtOp) → term_of ops ≡ (let x = ending_of ops in x.term)
same_term [] = refl
same_term (op ∷ ops) = go op.kind (same_term ops)
  where
    go : (k : ExtKind) → term_of ops ≡ (let x = ending_of ops in x.term)
        → term_or k (term_of ops) ≡ (let x = ending_or k op.operands (ending_of ops) in x.term)
    go (End term) q = refl
    go In q = q
    go Out q = q
    go (Body so) q = q
    go (Copy node) q = q
    go Enter q = q
    go Leave q = q

zip_length : {A B : Type 0} (Q : A → B → Type 0) (xs : List A) (ys : List B) → AllZip Q xs ys → length xs ≡ length ys
zip_length Q [] [] h = refl
zip_length Q [] (y ∷ ys) h = absurd h
zip_length Q (x ∷ xs) [] h = absurd h
zip_length Q (x ∷ xs) (y ∷ ys) h = ap suc (zip_length Q xs ys h.1)

none_past : {A : Type 0} (xs : List A) (j : ℕ) → slice_get xs j ≡ None → length xs ≤ j
none_past [] j h = omega arith
none_past (x ∷ xs) zero h = absurd (cc h)
none_past (x ∷ xs) (suc j) h = let k = none_past xs j h in omega arith

first_or : (n count : ℕ) (b : Bool) → (b ≡ false → n < count) → cond (not b) (1 + n) 0 < suc count
first_or n count true h = omega arith
first_or n count false h = let k = h refl in omega arith

named_below : (names : List NameId) (name : NameId) → Member name names
    → position_or_len (λ (n : NameId). n.0 == name.0) names < length names
named_below [] name m = elim m [ ]
named_below (n ∷ names) name (inl e) =
    let same : n.0 ≡ name.0 = ap (λ (x : NameId). x.0) e in
    let t : (n.0 == name.0) ≡ true = grind (arith, nat_tests, same) in
    first_or (position_or_len (λ (n : NameId). n.0 == name.0) names) (length names) (n.0 == name.0)
    (λ f. let z : true ≡ false = sym t ∙ f in absurd (cc z))
named_below (n ∷ names) name (inr m) =
    first_or (position_or_len (λ (n : NameId). n.0 == name.0) names) (length names) (n.0 == name.0) (λ f. named_below names name m)

pub member_contains : {A : Type 0} (xs : List A) (x : A) → Member x xs → Contains xs x
member_contains xs x m = let r = position_of xs x m in (r.0, r.1, or_get xs r.0 x r.2)
  where
    or_get : {A : Type 0} (xs : List A) (k : ℕ) (x : A) → slice_get xs k ≡ Some x → slice_index_or xs k x ≡ x
    or_get [] k x e = absurd (cc e)
    or_get (y ∷ ys) zero x e = let same : y ≡ x = cc e in same
    or_get (y ∷ ys) (suc k) x e = or_get ys k x e

mapped : {A B C : Type 0} (f : A → C) (g : B → C) (xs : List A) (ys : List B) → length (map f xs ++ map g ys) ≡ length xs + length ys
mapped f g [] ys = let k = length-map ys g in omega (arith, k)
mapped f g (x ∷ xs) ys = let k = mapped f g xs ys in omega (arith, k)

-- what a block that leads on hands over: its names and the saved values
handed : (e : Ext) (k l : ℕ) (live : List NameId) (term : Term) → Member l (targets_of k term)
    → length (wants_of_out e.table e.names live term) ≡ length live + length (saved_registers e.table)
handed e k l live (Ret value) m = elim m [ ]
handed e k l live Fall m = mapped _ _ live (saved_registers e.table)
handed e k l live (Jump to) m = mapped _ _ live (saved_registers e.table)
handed e k l live (Branch pred sense to) m = mapped _ _ live (saved_registers e.table)

some_iff : (a b : ℕ) → (let s : Option ℕ = Some a in s ≡ Some b) ↔ (nat_eq a b ≡ true)
some_iff a b = iff_then (λ h. cc h, λ h. ap (λ (n : ℕ). Some n) h) (eq_iff a b)

pub in_is : (k : ExtKind) → is_in k ≡ true → k ≡ In
in_is In h = refl
in_is Out h = absurd (cc h)
in_is (Body so) h = absurd (cc h)
in_is (End term) h = absurd (cc h)
in_is (Copy node) h = absurd (cc h)
in_is Enter h = absurd (cc h)
in_is Leave h = absurd (cc h)

-- the values at a block's start are the results of its first operation
pub live_in_is : (ops rest : List ExtOp) (start : ExtOp) → ops ≡ start ∷ rest → start.kind ≡ In → live_in_temps ops ≡ start.results
live_in_is ops rest start whole k = ap live_in_temps whole ∙ ap (λ (c : ExtKind). results_of_start c start.results (live_in_temps rest)) k

module _ (e : Ext) (o : Options) (x : List ℕ) (given : Given e o x) where
  -- ---- what a block takes

  -- the result that block l takes at place j
  pub record Taken (b : ExtBlock) (j : ℕ) (y : TempId) : Type 0 where
    pub spot : Spot
    pub member : Member spot (spots e o x)
    pub is : spot.temp ≡ y
    pub below : j < length b.live_in + length (saved_registers e.table)

  taken : (l : ℕ) (b : ExtBlock) (j : ℕ) (y : TempId) → slice_get e.blocks l ≡ Some b → slice_get (live_in_temps b.ops) j ≡ Some y
      → Taken b j y
  taken l b j y at live =
      let found = region_of 0 0 0 e.blocks l b at in
      let r = found.0 in
      let same : r.owner ≡ b = cc (sym (region_is 0 0 0 e.blocks l r found.1).0 ∙ at) in
      by r found.1 same
    where
      by : (r : Region) → slice_get (all_regions e o x given.extended) l ≡ Some r → r.owner ≡ b → Taken b j y
      by r rt same =
          let own : ExtBlock = r.owner in
          let g = region_good e o x given.extended l r rt in
          let parts = g.parts in
          let p = parts.0 in
          let h = parts.1 in
          let start = p.start in
          let kind = in_is start.kind h.start in
          let first : slice_get own.ops 0 ≡ Some start = ap (λ (ops : List ExtOp). slice_get ops 0) h.whole in
          let good_start = g.ops 0 start first in
          let count : length start.results ≡ length own.live_in + length (saved_registers e.table) = good_start.results
          ∙ ap (result_count e.table own) kind in
          let results : live_in_temps own.ops ≡ start.results = live_in_is own.ops _ start h.whole kind in
          let here : slice_get start.results j ≡ Some y = ap (λ (xs : List TempId). slice_get xs j)
          (sym results ∙ ap (λ (c : ExtBlock). live_in_temps c.ops) same) ∙ live in
          let got = placed_get r.block own (var_at (r.first + ops_count own.ops)) r.number r.first 0 own.ops start first in
          let q = got.0 in
          let m = region_member e o x given.extended l r q rt (member_at (region_placed r) 0 q got.1) in
          let at_q : slice_get q.op.results j ≡ Some y = ap (λ (op : ExtOp). slice_get op.results j) got.2 ∙ here in
          let lt = length_get start.results j y here in
          let names : length own.live_in ≡ length b.live_in = ap (λ (c : ExtBlock). length c.live_in) same in
          record { spot = spot q j y; member = spot_in e o x given q j y m at_q; is = refl; below = omega arith }

  -- ---- one edge

  module _ (k : ℕ) (r : Region) (at : slice_get (all_regions e o x given.extended) k ≡ Some r) where
    -- the place of what is handed over
    place_below : (l : ℕ) (b : ExtBlock) (j : ℕ) (y : TempId) → Member l (targets_of k (let a = r.owner in term_of a.ops))
        → slice_get e.blocks l ≡ Some b → Taken b j y
        → (let q = the_end e o x given.extended k r at in place_over r.owner b j < length q.op.operands)
    place_below l b j y m atb t =
        let q = the_end e o x given.extended k r at in
        let a : ExtBlock = r.owner in
        let en = region_end e o x given.extended k r at in
        let g = good_op e o x given q (last_member e o x given.extended k r at) in
        let keeps = g.keeps in
        let ending = ending_of a.ops in
        let edge : Member l (targets_of k ending.term) = subst (λ (t : Term). Member l (targets_of k t)) (same_term a.ops) m in
        let count : length q.op.operands ≡ length a.live_out + length (saved_registers e.table) =
        zip_length (IsGoodOperand e.names e.blocks g.before) q.op.operands (wants_of e.table e.names e.blocks q.owner q.op.kind q.op)
        keeps.operands
        ∙ ap (λ (c : ExtKind). length (wants_of e.table e.names e.blocks a c q.op)) en.is_end ∙ handed e k l a.live_out ending.term edge in
        let below = t.below in
        let lt = by (slice_get b.live_in j) refl below (over edge) in
        omega arith
      where
        -- the names that block b takes are live at the end
        over : (let own : ExtBlock = r.owner in let ending = ending_of own.ops in Member l (targets_of k ending.term)) → (name : NameId)
            → Member name b.live_in
            → (let own : ExtBlock = r.owner in Member name own.live_out)
        over edge name n =
            let own : ExtBlock = r.owner in
            let ending = ending_of own.ops in
            let g = good e o x given in
            let all_over = g.hands_over k l own b (region_is 0 0 0 e.blocks k r at).0 atb
            (member_contains (targets_of k ending.term) l edge) in
            contains_member own.live_out name (all_member (Contains own.live_out) b.live_in name all_over n)

        by : (name : Option NameId) → slice_get b.live_in j ≡ name → j < length b.live_in + length (saved_registers e.table)
            → ((name : NameId) → Member name b.live_in → (let own : ExtBlock = r.owner in Member name own.live_out))
            → place_by r.owner b j (slice_get b.live_in j) < (let own : ExtBlock = r.owner in
            length own.live_out + length (saved_registers e.table))
        by None h below f =
            let own : ExtBlock = r.owner in
            let past = none_past b.live_in j h in
            subst (λ (n : Option NameId). place_by own b j n < length own.live_out + length (saved_registers e.table)) (sym h) (omega arith)
        by (Some name) h below f =
            let own : ExtBlock = r.owner in
            let lt = named_below own.live_out name (f name (member_at b.live_in j name h)) in
            subst (λ (n : Option NameId). place_by own b j n < length own.live_out + length (saved_registers e.table)) (sym h) (omega arith)

    agree : (l : ℕ) (b : ExtBlock) (j : ℕ) (y : TempId) → Member l (targets_of k (let a = r.owner in term_of a.ops))
        → slice_get e.blocks l ≡ Some b → slice_get (live_in_temps b.ops) j ≡ Some y
        → IsCongruent (schedule_of (model_of e o) x) k r.owner b j y ↔ Met x
        (congruence (definers_of (model_of e o)) (place_of (the_end e o x given.extended k r at)) r.owner b j y)
    agree l b j y m atb live =
        let t = taken l b j y atb live in
        let q = the_end e o x given.extended k r at in
        let i = place_over r.owner b j in
        let got = get_below q.op.operands i (place_below l b j y m atb t) in
        by t got.0 got.1 (reading e o x given q i got.0 (last_member e o x given.extended k r at) got.1)
      where
        by : (t : Taken b j y) (operand : Operand) (here : let q = the_end e o x given.extended k r at in
            slice_get q.op.operands (place_over r.owner b j) ≡ Some operand)
            → Reading e o x given (the_end e o x given.extended k r at) (place_over r.owner b j) operand
            → IsCongruent (schedule_of (model_of e o) x) k r.owner b j y ↔ Met x
            (congruence (definers_of (model_of e o)) (place_of (the_end e o x given.extended k r at)) r.owner b j y)
        by t operand here rd =
            let q = the_end e o x given.extended k r at in
            let i = place_over r.owner b j in
            let ds = definers_of (model_of e o) in
            let v = var_at (q.first + choice_place q.op + i) in
            let regs = registers_of (definers_at ds operand.alts) in
            let en = region_end e o x given.extended k r at in
            let from = (spot_range e o x rd.spot).reg in
            let into = (spot_range e o x t.spot).reg in
            let choice = choice_var e o x given q i operand here (ap has_choices en.is_end) in
            let to = definer_or (slice_get ds y.0) in
            let target : slice_index x to.reg.0 ≡ into =
            ap (λ (d : Option Definer). let w = definer_or d in slice_index x w.reg.0)
            (ap (λ (z : TempId). slice_get ds z.0) (sym t.is) ∙ definer_here e o x (numbered e o x given) t.spot t.member
            (definer_is e o x given t.spot t.member).0) in
            let chosen : chosen_value (Some v) regs x ≡ Some from = ap (λ (c : Option VarId). chosen_value c regs x) (sym choice)
            ∙ read_register e o x given q i operand rd in
            let one = met_one x (Same v regs to.reg) (nat_eq from into)
            (ap (some_passes (λ n. nat_eq n (slice_index x to.reg.0))) chosen ∙ ap (nat_eq from) target) in
            let posted : congruence ds (place_of q) r.owner b j y ≡ Same v regs to.reg ∷ [] =
            ap (λ (u : Option Operand). same_by ds y u (slice_get (vars_of q).choices i)) here ∙ ap (same_by ds y (Some operand)) choice in
            let ranges = the_ranges e o x in
            let left : register_read ranges (slice_get (live_out_reads k (reads_of (model_of e o) x)) i) ≡ Some from =
            ap (register_read ranges) (end_read e o x given.extended k r at i operand here)
            ∙ ap (option_map (λ (h : LiveRange). h.reg)) (read_range e o x given q i operand rd) in
            let right : register_of ranges y ≡ Some into =
            ap (register_of ranges) (sym t.is) ∙ ap (option_map (λ (h : LiveRange). h.reg))
            (range_get e o x (numbered e o x given) t.spot t.member) in
            let whole = iff_then (some_iff from into) one in (
              λ h. subst (Met x) (sym posted) (whole.0 (sym left ∙ h ∙ right)),
              λ h. left ∙ whole.1 (subst (Met x) posted h) ∙ sym right,
            )

  -- ---- all edges

  abbrev pub edges_at : Region → List Constraint
  edges_at r = edges_of e.blocks (definers_of (model_of e o)) r.block r.number r.owner (block_vars r.first r.owner)

  abbrev out_of : Region → Place
  out_of r = last_place (block_places r.block r.number r.owner (block_vars r.first r.owner))

  module _ (k : ℕ) (r : Region) (at : slice_get (all_regions e o x given.extended) k ≡ Some r) where
    out_is : out_of r ≡ place_of (the_end e o x given.extended k r at)
    out_is =
        let own : ExtBlock = r.owner in
        let en = region_end e o x given.extended k r at in
        ap last_place (placed_places r.block own (var_at (r.first + ops_count own.ops)) r.number r.first own.ops
        ∙ ap (map place_of) (region_parts r en) ∙ map-append place_of (front_of r en) (last_of r en ∷ []))
        ∙ last_append (map place_of (front_of r en)) (place_of (last_of r en))

    pub number_is : r.block ≡ k
    number_is = let h = (region_is 0 0 0 e.blocks k r at).1 in omega arith

    pub edge_iff : HandsOn e.blocks (schedule_of (model_of e o) x) k r.owner ↔ Met x (edges_at r)
    unfolding HandsOn HandsOver
    edge_iff = (
      λ h. joined_each _ (λ (l : ℕ). over_edge ds (out_of r) r.owner (slice_get e.blocks l)) (targets_of r.block term)
          (each_of _ (targets_of r.block term) (λ l m. onto l (slice_get e.blocks l) refl
          (λ b atb j y live. (agree k r at l b j y (moved l m) atb live).0
          (h l b (member_contains (targets_of k term) l (moved l m)) atb j y live)))),
      λ h l b c atb j y live.
          let m = contains_member (targets_of k term) l c in
          let back : Member l (targets_of r.block term) = subst (λ (n : ℕ). Member l (targets_of n term)) (sym number_is) m in
          let here = each_member _ (targets_of r.block term) l (each_joined _
          (λ (l : ℕ). over_edge ds (out_of r) r.owner (slice_get e.blocks l)) (targets_of r.block term) h) back in
          let listed = subst (λ (n : Option ExtBlock). Met x (over_edge ds (out_of r) r.owner n)) atb here in
          let one = places_each (Met x) (congruence ds (out_of r) r.owner b) (live_in_temps b.ops)
          (flat_each _ (places_from (congruence ds (out_of r) r.owner b) 0 (live_in_temps b.ops)) listed) j y live in
          (agree k r at l b j y m atb live).1 (subst (λ (p : Place). Met x (congruence ds p r.owner b j y)) out_is one),
    )
      where
        ds : List Definer
        ds = definers_of (model_of e o)

        term : Term
        term = let a : ExtBlock = r.owner in term_of a.ops

        moved : (l : ℕ) → Member l (targets_of r.block (let a : ExtBlock = r.owner in term_of a.ops))
            → Member l (targets_of k (let a : ExtBlock = r.owner in term_of a.ops))
        moved l m = subst (λ (n : ℕ). Member l (targets_of n (let a : ExtBlock = r.owner in term_of a.ops))) number_is m

        onto : (l : ℕ) (n : Option ExtBlock) → slice_get e.blocks l ≡ n
            → ((b : ExtBlock) → slice_get e.blocks l ≡ Some b → (j : ℕ) (y : TempId) → slice_get (live_in_temps b.ops) j ≡ Some y
            → Met x (congruence (definers_of (model_of e o)) (place_of (the_end e o x given.extended k r at)) r.owner b j y))
            → Met x (over_edge (definers_of (model_of e o)) (out_of r) r.owner (slice_get e.blocks l))
        onto l None q f = subst (λ (n : Option ExtBlock). Met x (over_edge (definers_of (model_of e o)) (out_of r) r.owner n)) (sym q) tt
        onto l (Some b) q f =
            let ds = definers_of (model_of e o) in
            subst (λ (n : Option ExtBlock). Met x (over_edge ds (out_of r) r.owner n)) (sym q)
            (each_flat _ (places_from (congruence ds (out_of r) r.owner b) 0 (live_in_temps b.ops))
            (each_places (Met x) (congruence ds (out_of r) r.owner b) (live_in_temps b.ops) (λ j y live.
            subst (λ (p : Place). Met x (congruence ds p r.owner b j y)) (sym out_is) (f b q j y live))))

  pub congruences : KeepsCongruences e.blocks (schedule_of (model_of e o) x)
      ↔ AllMet (over_blocks (edges_of e.blocks (definers_of (model_of e o))) 0 0 e.blocks (blocks_vars 0 e.blocks)) x
  congruences = (
    λ h. all_met x _ (subst (Met x) (sym listed) (joined_each _ edges_at regs (each_of _ regs (λ r m.
        let i = position_of regs r m in (edge_iff i.0 r i.2).0 (h i.0 r.owner (region_is 0 0 0 e.blocks i.0 r i.2).0))))),
    λ h k a at.
        let found = region_of 0 0 0 e.blocks k a at in
        let same : found.0.owner ≡ a = cc (sym (region_is 0 0 0 e.blocks k found.0 found.1).0 ∙ at) in
        let met = each_joined _ edges_at regs (subst (Met x) listed (met_all x _ h)) in
        subst (HandsOn e.blocks (schedule_of (model_of e o) x) k) same
        ((edge_iff k found.0 found.1).1 (each_member _ regs found.0 met (member_at regs k found.0 found.1))),
  )
    where
      regs : List Region
      regs = all_regions e o x given.extended

      listed : over_blocks (edges_of e.blocks (definers_of (model_of e o))) 0 0 e.blocks (blocks_vars 0 e.blocks) ≡ joined
          (map edges_at (all_regions e o x given.extended))
      listed = over_regions (edges_of e.blocks (definers_of (model_of e o))) 0 0 0 e.blocks
