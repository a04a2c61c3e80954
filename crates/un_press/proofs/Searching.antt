-- What the search for a carrier finds is one, and it finds one where a value crosses a cycle.
use Rattle.std.proofs.Common.{ℕ, zero, suc, ◌≡◌, ◌<◌, ◌≤◌, ◌+◌, ◌-◌, Bool, true, false, List, [], ◌∷◌, ◌++◌, length, inl, inr, refl, sym}
use Rattle.std.proofs.Common.{ap, ◌∙◌, subst, arith, eq-eqb, Contains}
use Rattle.std.specs.Prelude.{◌↔◌, Option, Some, None, is_some, slice_get, unwrap_or, ◌&&◌, ◌==◌, nat_le, nat_lt, IsSomeAnd, if◌then◌else◌}
use Rattle.std.specs.List.{find, AllZip}
use Rattle.std.specs.Option.{option_map}
use Rattle.std.proofs.lemmas.Bool.{eqb-true}
use Rattle.std.proofs.lemmas.Bool.Decides.{nat_tests}
use Rattle.un_base.specs.declared.ids.TempId.{TempId}
use Rattle.un_base.specs.declared.ids.VarId.{VarId}
use Rattle.un_isa.specs.Fit.{IsFit}
use Rattle.un_ir.specs.Extended.{IsExtended, IsGoodOperand, wants_of, temp, first_read}
use Rattle.un_ir.specs.Linear.{first_of}
use Rattle.un_ir.specs.declared.extended.ExtKind.{ExtKind}
use Rattle.un_ir.specs.declared.extended.ExtKind.TheVariants.{In, Out, Body, End, Copy, Enter, Leave}
use Rattle.un_ir.specs.declared.extended.NodeCopy.{NodeCopy}
use Rattle.un_ir.specs.declared.extended.Operand.{Operand}
use Rattle.un_ir.specs.declared.extended.ExtOp.{ExtOp}
use Rattle.un_ir.specs.declared.extended.ExtBlock.{ExtBlock}
use Rattle.un_ir.specs.declared.extended.Ext.{Ext}
use Rattle.un_model.specs.declared.model.Model.{Model}
use Rattle.un_model.specs.declared.model.Options.{Options}
use Rattle.un_model.specs.declared.model.OpVars.{OpVars}
use Rattle.un_model.specs.declared.model.Solution.{Solution}
use Rattle.un_model.specs.declared.model.TempVars.{TempVars}
use Rattle.un_model.specs.declared.schedule.LiveRange.{LiveRange}
use Rattle.un_model.specs.declared.schedule.Read.{Read}
use Rattle.un_model.specs.Cost.{value_of}
use Rattle.un_model.specs.Options.{AreOptions}
use Rattle.un_model.specs.Pairs.{places_from}
use Rattle.un_model.specs.Schedules.{choice_of, cycle_of, read_of, schedule_of, reads_of}
use Rattle.un_model.specs.Solutions.{IsSchedule, IsSolution, Occupies, latency_gap}
use Rattle.un_model.specs.Variables.{IsModel, model_of, carried_by, first_alternative, blocks_temps, op_vars, ops_vars, var_count, var_at}
use Rattle.un_model.specs.Variables.{ops_count, block_count, block_vars, blocks_vars}
use Rattle.un_lists.proofs.Lists.{Member, member_at, index_get, found, none_found, each_member, place_of, slice_get-map, length_get}
use Rattle.un_model.proofs.Operations.{placed_is, contains_member}
use Rattle.un_model.proofs.Placed.{Placed, placed, block_placed, blocks_placed, vars_of, end_of, issue_at, reads_at, reads_are, Counts}
use Rattle.un_model.proofs.Placed.{all_count}
use Rattle.un_model.proofs.Placed.{Spot, temp_vars, temps_are}
use Rattle.un_model.proofs.PlacedSchedules.{all, spots, definer_in, range_here, range_get, spot_range, spot_here, spot_temp}
use Rattle.un_model.proofs.PlacedSchedules.{active_spot, the_ranges, has_read}
use Rattle.un_model.proofs.PlacedSchedules.{joined_member, places_member, split_member, member_places}
use Rattle.un_model.proofs.Readings.{Solved, numbered, fit_kinds, placed_good, reading}
use Rattle.un_model.proofs.TempKinds.{carried_at, spot_carried, carried_is}
use Rattle.un_press.specs.Carriers.{value_at, range_of, Crosses, Carries}
use Rattle.un_press.specs.Searches.{by_cycle, defined_by, is_defined, place_cycle, block_cycle, cycle_in, is_there, there_by, read_by}
use Rattle.un_press.specs.Searches.{read_in, read_in_blocks, or_later}
use Rattle.un_press.proofs.Descent.{cycle_at, Reader, held}

-- ---- tests

both : (a b : Bool) → (a && b) ≡ true → (a ≡ true) × (b ≡ true)
both true b h = (refl, h)
both false b h = absurd (cc h)

join : (a b : Bool) → a ≡ true → b ≡ true → (a && b) ≡ true
join true true p q = refl
join false b p q = absurd (cc p)
join true false p q = absurd (cc q)

-- ---- the search, operation by operation

or_assoc : (a b c : Option TempId) → or_later a (or_later b c) ≡ or_later (or_later a b) c
or_assoc None b c = refl
or_assoc (Some y) b c = refl

module _ (test : TempId → Bool) (values : List ℕ) (t : ℕ) where
  abbrev found_at : Placed → Option TempId
  found_at p = read_by test values t (end_of values p) p.op (vars_of p)

  abbrev firsts : List Placed → Option TempId
  firsts [] = None
  firsts (p ∷ ps) = or_later (found_at p) (firsts ps)

  firsts-append : (ps qs : List Placed) → firsts (ps ++ qs) ≡ or_later (firsts ps) (firsts qs)
  firsts-append [] qs = refl
  firsts-append (p ∷ ps) qs = ap (or_later (found_at p)) (firsts-append ps qs) ∙ or_assoc (found_at p) (firsts ps) (firsts qs)

  in_block : (b : ℕ) (owner : ExtBlock) (close : VarId) (n first : ℕ) (ops : List ExtOp)
      → read_in test values t (value_of values close) ops (ops_vars first ops) ≡ firsts (placed b owner close n first ops)
  in_block b owner close n first [] = refl
  in_block b owner close n first (op ∷ ops) =
      ap (or_later (read_by test values t (value_of values close) op (op_vars first op)))
      (in_block b owner close (n + 1) (first + var_count op) ops)

  in_blocks : (b n first : ℕ) (blocks : List ExtBlock)
      → read_in_blocks test values t blocks (blocks_vars first blocks) ≡ firsts (blocks_placed b n first blocks)
  in_blocks b n first [] = refl
  in_blocks b n first (block ∷ blocks) =
      let here = block_placed b n first block in
      let rest = blocks_placed (b + 1) (n + length block.ops) (first + block_count block) blocks in
      ap (λ r. or_later r (read_in_blocks test values t blocks (blocks_vars (first + block_count block) blocks)))
      (in_block b block (var_at (first + ops_count block.ops)) n first block.ops)
      ∙ ap (or_later (firsts here)) (in_blocks (b + 1) (n + length block.ops) (first + block_count block) blocks)
      ∙ sym (firsts-append here rest)

  firsts_some : (ps : List Placed) (y : TempId) → firsts ps ≡ Some y → (p : Placed) × (Member p ps) × (found_at p ≡ Some y)
  firsts_some [] y h = absurd (cc h)
  firsts_some (p ∷ ps) y h = by (found_at p) refl h (firsts_some ps y)
    where
      by : (r : Option TempId) → found_at p ≡ r → or_later r (firsts ps) ≡ Some y
          → (firsts ps ≡ Some y → (q : Placed) × (Member q ps) × (found_at q ≡ Some y))
          → (q : Placed) × (Member q (p ∷ ps)) × (found_at q ≡ Some y)
      by None f g rest = let r = rest g in (r.0, inr r.1, r.2)
      by (Some z) f g rest = (p, inl refl, f ∙ g)

  firsts_none : (ps : List Placed) → firsts ps ≡ None → (p : Placed) → Member p ps → found_at p ≡ None
  firsts_none [] h p m = elim m [ ]
  firsts_none (q ∷ ps) h p m = by (found_at q) refl h m (firsts_none ps)
    where
      by : (r : Option TempId) → found_at q ≡ r → or_later r (firsts ps) ≡ None → Member p (q ∷ ps)
          → (firsts ps ≡ None → (p : Placed) → Member p ps → found_at p ≡ None) → found_at p ≡ None
      by None f g (inl same) rest = sym (ap found_at same) ∙ f
      by None f g (inr m) rest = rest g p m
      by (Some z) f g m rest = absurd (cc g)

chosen_if : (a b : Bool) (r : Option TempId) (y : TempId) → (if a && b then r else None) ≡ Some y → (a ≡ true) × (b ≡ true) × (r ≡ Some y)
chosen_if true true r y h = (refl, refl, h)
chosen_if true false r y h = absurd (cc h)
chosen_if false b r y h = absurd (cc h)

none_if : (a b : Bool) (r : Option TempId) → (if a && b then r else None) ≡ None → a ≡ true → b ≡ true → r ≡ None
none_if true true r h p q = h
none_if true false r h p q = absurd (cc q)
none_if false b r h p q = absurd (cc p)

-- ---- the cycle of an operation, found by its number

vars_at : (b : ℕ) (owner : ExtBlock) (close : VarId) (n first k : ℕ) (ops : List ExtOp) (p : Placed)
    → slice_get (placed b owner close n first ops) k ≡ Some p → slice_get (ops_vars first ops) k ≡ Some (vars_of p)
vars_at b owner close n first k [] p h = absurd (cc h)
vars_at b owner close n first zero (op ∷ ops) p h = ap (option_map vars_of) h
vars_at b owner close n first (suc k) (op ∷ ops) p h = vars_at b owner close (n + 1) (first + var_count op) k ops p h

low : (n : ℕ) (ps : List Placed) (p : Placed) → Counts n ps → Member p ps → n ≤ p.number
low n [] p h m = elim m [ ]
low n (q ∷ qs) p h (inl same) = let a = h.0 in let b : q.number ≡ p.number = ap (λ (r : Placed). r.number) same in omega (arith, a, b)
low n (q ∷ qs) p h (inr m) = let le = low (n + 1) qs p h.1 m in omega (arith, le)

cycle_is : (values : List ℕ) (b n first : ℕ) (blocks : List ExtBlock) (p : Placed) → Member p (blocks_placed b n first blocks)
    → cycle_in values (p.number - n) blocks (blocks_vars first blocks) ≡ (issue_at values p).cycle
cycle_is values b n first [] p m = elim m [ ]
cycle_is values b n first (block ∷ blocks) p m = elim (split_member (block_placed b n first block)
    (blocks_placed (b + 1) (n + length block.ops) (first + block_count block) blocks) p m) [
      | inl here ↦ (
          let close = var_at (first + ops_count block.ops) in
          let r = place_of (block_placed b n first block) p here in
          let k = r.0 in
          let is = placed_is b block close n first k block.ops p r.2 in
          let at = is.1 in
          let left : p.number - n ≡ k = omega (arith, at) in
          let within = length_get block.ops k p.op is.0 in
          let test : nat_lt (p.number - n) (length block.ops) ≡ true = grind (arith, nat_tests, left, within) in
          let vars = vars_at b block close n first k block.ops p r.2 in
          ap (λ (c : Bool). if c then block_cycle values block (block_vars first block) (p.number - n)
          else cycle_in values (p.number - n - length block.ops) blocks (blocks_vars (first + block_count block) blocks)) test
          ∙ ap (λ (j : ℕ). place_cycle values (value_of values close) (slice_get block.ops j) (slice_get (ops_vars first block.ops) j)) left
          ∙ ap (λ (op : Option ExtOp). place_cycle values (value_of values close) op (slice_get (ops_vars first block.ops) k)) is.0
          ∙ ap (λ (v : Option OpVars). place_cycle values (value_of values close) (Some p.op) v) vars
          ∙ ap (λ (c : VarId). cycle_of values (value_of values c) p.op (vars_of p)) (sym is.4))
      | inr later ↦ (
          let rest = blocks_placed (b + 1) (n + length block.ops) (first + block_count block) blocks in
          let past = low (n + length block.ops) rest p (all_count (b + 1) (n + length block.ops)
          (first + block_count block) blocks) later in
          let test : nat_lt (p.number - n) (length block.ops) ≡ false = grind (arith, nat_tests, past) in
          let left : p.number - n - length block.ops ≡ p.number - (n + length block.ops) = omega (arith, past) in
          let more = cycle_is values (b + 1) (n + length block.ops) (first + block_count block) blocks p later in
          ap (λ (c : Bool). if c then block_cycle values block (block_vars first block) (p.number - n)
          else cycle_in values (p.number - n - length block.ops) blocks (blocks_vars (first + block_count block) blocks)) test
          ∙ ap (λ (j : ℕ). cycle_in values j blocks (blocks_vars (first + block_count block) blocks)) left
          ∙ more)
    ]

head : (alts : List TempId) (x : TempId) → 0 < length alts → unwrap_or (slice_get alts 0) x ≡ temp (first_of alts)
head [] x lt = absurd (omega (arith, lt))
head (y ∷ ys) x lt = refl

module _ (e : Ext) (o : Options) (values : List ℕ) (h : Solved e o values) where
  abbrev m : Model
  m = model_of e o

  abbrev s : Solution
  s = record { values = values }

  -- ---- temporaries

  temp_get : (u : Spot) → Member u (spots e o values) → slice_get (blocks_temps 0 0 e.blocks) u.temp.0 ≡ Some (temp_vars u)
  temp_get u mu =
      ap (λ (xs : List TempVars). slice_get xs u.temp.0) (temps_are 0 0 0 e.blocks)
      ∙ slice_get-map temp_vars (spots e o values) u.temp.0 ∙ ap (option_map temp_vars) (spot_here e o values (numbered e o values h) u mu)

  -- the value that the model says it carries
  value_is : (u : Spot) → Member u (spots e o values) → (temp_vars u).value ≡ spot_carried u
  value_is u mu = by u.definer.op.kind refl
    where
      copied : (node : NodeCopy) (xs : List Operand) → u.definer.op.kind ≡ Copy node → u.definer.op.operands ≡ xs
          → first_alternative u.definer.op.operands u.temp ≡ first_read u.definer.op.operands
      copied node xs k f =
          let p = u.definer in
          let g = placed_good e o values h p (definer_in e o values (numbered e o values h) u mu) in
          let keeps = g.keeps in
          let zip = subst (λ (z : ExtKind). AllZip (IsGoodOperand e.names e.blocks g.before) xs
          (wants_of e.table e.names e.blocks p.owner z p.op)) k
          (subst (λ (ys : List Operand). AllZip (IsGoodOperand e.names e.blocks g.before) ys
          (wants_of e.table e.names e.blocks p.owner p.op.kind p.op)) f keeps.operands) in
          ap (λ (ys : List Operand). first_alternative ys u.temp) f ∙ first xs zip ∙ sym (ap first_read f)
        where
          first : (ys : List Operand) → AllZip (IsGoodOperand e.names e.blocks
              (let g = placed_good e o values h u.definer (definer_in e o values (numbered e o values h) u mu) in g.before)) ys
              (let p = u.definer in wants_of e.table e.names e.blocks p.owner (Copy node) p.op)
              → first_alternative ys u.temp ≡ first_read ys
          first [] zip = absurd zip
          first (y ∷ ys) zip = let good = zip.0 in head y.alts u.temp good.chooses

      by : (kind : ExtKind) → u.definer.op.kind ≡ kind → carried_by u.definer.op.kind u.definer.op.operands u.temp ≡ carried_at
          u.definer.op.kind u
      by (Copy node) k =
          ap (λ (z : ExtKind). carried_by z u.definer.op.operands u.temp) k ∙ copied node u.definer.op.operands k refl
          ∙ sym (ap (λ (z : ExtKind). carried_at z u) k)
      by In k = ap (λ (z : ExtKind). carried_by z u.definer.op.operands u.temp) k ∙ sym (ap (λ (z : ExtKind). carried_at z u) k)
      by Out k = ap (λ (z : ExtKind). carried_by z u.definer.op.operands u.temp) k ∙ sym (ap (λ (z : ExtKind). carried_at z u) k)
      by (Body so) k = ap (λ (z : ExtKind). carried_by z u.definer.op.operands u.temp) k ∙ sym (ap (λ (z : ExtKind). carried_at z u) k)
      by (End term) k = ap (λ (z : ExtKind). carried_by z u.definer.op.operands u.temp) k ∙ sym (ap (λ (z : ExtKind). carried_at z u) k)
      by Enter k = ap (λ (z : ExtKind). carried_by z u.definer.op.operands u.temp) k ∙ sym (ap (λ (z : ExtKind). carried_at z u) k)
      by Leave k = ap (λ (z : ExtKind). carried_by z u.definer.op.operands u.temp) k ∙ sym (ap (λ (z : ExtKind). carried_at z u) k)

  value_here : (u : Spot) → Member u (spots e o values) → value_at m u.temp ≡ Some (spot_carried u)
  value_here u mu = ap (option_map (λ (v : TempVars). v.value)) (temp_get u mu) ∙ ap (λ (v : TempId). Some v) (value_is u mu)

  definer_cycle : (u : Spot) → Member u (spots e o values) → cycle_in values u.definer.number e.blocks (blocks_vars 0 e.blocks) ≡
      cycle_at e o values h u.definer
  definer_cycle u mu =
      let z : u.definer.number - 0 ≡ u.definer.number = omega arith in
      ap (λ (n : ℕ). cycle_in values n e.blocks (blocks_vars 0 e.blocks)) (sym z)
      ∙ cycle_is values 0 0 0 e.blocks u.definer (definer_in e o values (numbered e o values h) u mu)

  module _ (x : TempId) (by : Option ℕ) where
    abbrev test_by : TempId → Bool
    test_by y = is_there m values x by y

    -- a result passes where it carries the value and is defined by the cycle
    test_is : (u : Spot) → Member u (spots e o values)
        → test_by u.temp ≡ ((spot_carried u).0 == x.0) && by_cycle by (cycle_at e o values h u.definer)
    test_is u mu =
        ap (there_by m values x by) (temp_get u mu)
        ∙ ap (λ (v : TempId). (v.0 == x.0) && by_cycle by (cycle_in values u.definer.number e.blocks (blocks_vars 0 e.blocks)))
        (value_is u mu)
        ∙ ap (λ (n : ℕ). ((spot_carried u).0 == x.0) && by_cycle by n) (definer_cycle u mu)

  module _ (x : TempId) (t : ℕ) where
    abbrev test : TempId → Bool
    test y = is_there m values x (Some t) y

    -- ---- what is found is a carrier

    carries : (p : Placed) (j : ℕ) (operand : Operand) → Member p (all e o values) → (issue_at values p).active ≡ true
        → t < cycle_at e o values h p → slice_get p.op.operands j ≡ Some operand → test (choice_of values (vars_of p) j operand) ≡ true
        → Carries m s x t (choice_of values (vars_of p) j operand)
    carries p j operand mp act after at passes =
        let read = reading e o values h p j operand mp act at in
        let d = read.2 in
        let u = d.spot in
        let two = both ((spot_carried u).0 == x.0) (nat_le (cycle_at e o values h u.definer) t)
        (sym (test_is x (Some t) u d.member) ∙ ap test d.is ∙ passes) in
        let number : (spot_carried u).0 ≡ x.0 = eqb-true (spot_carried u).0 x.0 two.0 in
        let value : spot_carried u ≡ x = ap temp number in
        let from : cycle_at e o values h u.definer ≤ t = le_of (cycle_at e o values h u.definer) t two.1 in
        let range = range_here e o values (numbered e o values h) u d.member in
        let active = subst (λ (r : LiveRange). r.active ≡ true) range d.active in
        let last : cycle_at e o values h p ≤ (spot_range e o values u).last + 1 =
        subst (λ (r : LiveRange). cycle_at e o values h p ≤ r.last + 1) range d.last in
        let here : Carries m s x t u.temp = record {
          value = value_here u d.member ∙ ap (λ (v : TempId). Some v) value;
          there = subst (λ (r : Option LiveRange). IsSomeAnd r (λ (r : LiveRange). (r.active ≡ true) × Occupies r t))
              (sym (range_get e o values (numbered e o values h) u d.member)) (active, (from, omega (arith, after, last)));
        } in
        subst (λ (y : TempId). Carries m s x t y) d.is here
      where
        le_of : (a b : ℕ) → nat_le a b ≡ true → a ≤ b
        le_of a b h = grind (arith, nat_tests, h)

    lt_of : (a b : ℕ) → nat_lt a b ≡ true → a < b
    lt_of a b h = grind (arith, nat_tests, h)

    chosen_carries : (p : Placed) (y : TempId) → Member p (all e o values) → (issue_at values p).active ≡ true
        → t < cycle_at e o values h p → Member y (places_from (choice_of values (vars_of p)) 0 p.op.operands) → test y ≡ true
        → Carries m s x t y
    chosen_carries p y mp act after listed passes =
        let q = places_member (choice_of values (vars_of p)) 0 p.op.operands y listed in
        let place : 0 + q.0 ≡ q.0 = omega arith in
        at_place q.0 q.1 q.2 (ap (λ (j : ℕ). choice_of values (vars_of p) j q.1) (sym place) ∙ q.3)
      where
        at_place : (j : ℕ) (operand : Operand) → slice_get p.op.operands j ≡ Some operand → choice_of values (vars_of p) j operand ≡ y
            → Carries m s x t y
        at_place j operand at is = subst (λ (z : TempId). Carries m s x t z) is
            (carries p j operand mp act after at (ap test is ∙ passes))

    read_carries : (p : Placed) (y : TempId) → Member p (all e o values) → found_at test values t p ≡ Some y → Carries m s x t y
    read_carries p y mp got =
        let c = chosen_if (issue_at values p).active (nat_lt t (cycle_at e o values h p))
        (find test (places_from (choice_of values (vars_of p)) 0 p.op.operands)) y got in
        let f = found test (places_from (choice_of values (vars_of p)) 0 p.op.operands) y c.2 in
        chosen_carries p y mp c.0 (lt_of t (cycle_at e o values h p) c.1) f.0 f.1

    pub some_carries : (y : TempId) → read_in_blocks (is_there m values x (Some t)) values t e.blocks (blocks_vars 0 e.blocks) ≡ Some y
        → Carries m s x t y
    some_carries y got =
        let r = firsts_some test values t (all e o values) y (sym (in_blocks test values t 0 0 0 e.blocks) ∙ got) in
        read_carries r.0 y r.1 r.2

    -- ---- one is found where the value crosses

    module _ (crosses : Crosses m s x t) where
      reader_of : (p : Placed) (j : ℕ) (operand : Operand) (r : Read) → Member p (all e o values) → (issue_at values p).active ≡ true
          → slice_get p.op.operands j ≡ Some operand → read_of values (issue_at values p) (vars_of p) j operand ≡ r
          → value_at m r.temp ≡ Some x → t < r.cycle → Reader e o values h x t
      reader_of p j operand r mp act at is value after =
          let read = reading e o values h p j operand mp act at in
          let d = read.2 in
          let u = d.spot in
          let chosen : u.temp ≡ r.temp = d.is ∙ ap (λ (q : Read). q.temp) is in
          let same : Some (spot_carried u) ≡ Some x = sym (value_here u d.member) ∙ ap (value_at m) chosen ∙ value in
          let carried : spot_carried u ≡ x = cc same in
          let time : cycle_at e o values h p ≡ r.cycle = ap (λ (q : Read). q.cycle) is in
          record {
            user = p;
            member = mp;
            active = act;
            place = j;
            operand = operand;
            at = at;
            value = sym d.value ∙ carried_is e o values (numbered e o values h) (fit_kinds e o values h) u d.member ∙ carried;
            after = omega (arith, time, after);
          }

      reader : Reader e o values h x t
      reader =
          let r = crosses.read in
          let listed = contains_member (reads_of m values) r crosses.listed in
          let p = joined_member (reads_at values) (all e o values) r (subst (Member r) (reads_are values 0 0 0 e.blocks) listed) in
          by p.0 (issue_at values p.0).active refl p.1 p.2
        where
          by : (p : Placed) (b : Bool) → (issue_at values p).active ≡ b → Member p (all e o values)
              → Member (crosses.read) (if b then places_from (read_of values (issue_at values p) (vars_of p)) 0 p.op.operands else [])
              → Reader e o values h x t
          by p false f mp mr = elim mr [ ]
          by p true f mp mr =
              let q = places_member (read_of values (issue_at values p) (vars_of p)) 0 p.op.operands (crosses.read) mr in
              let place : 0 + q.0 ≡ q.0 = omega arith in
              reader_of p q.0 q.1 (crosses.read) mp f q.2
              (ap (λ (j : ℕ). read_of values (issue_at values p) (vars_of p) j q.1) (sym place) ∙ q.3) crosses.value crosses.after

      own : (u : Spot) × (Member u (spots e o values)) × (u.temp ≡ x) × (cycle_at e o values h u.definer ≤ t)
      own = by (slice_get (the_ranges e o values) x.0) refl crosses.defined
        where
          by : (r : Option LiveRange) → slice_get (the_ranges e o values) x.0 ≡ r → IsSomeAnd r (λ (g : LiveRange). g.from ≤ t)
              → (u : Spot) × (Member u (spots e o values)) × (u.temp ≡ x) × (cycle_at e o values h u.definer ≤ t)
          by None f d = absurd d
          by (Some g) f d =
              let u = active_spot e o values (numbered e o values h) x.0 g f in
              (u.0, u.1, ap temp u.2, subst (λ (r : LiveRange). r.from ≤ t) (sym u.3) d)

      pub none_crosses : read_in_blocks (is_there m values x (Some t)) values t e.blocks (blocks_vars 0 e.blocks) ≡ None → ⊥
      none_crosses none =
          let a = own in
          let w = held e o values h x t a.0 a.1 a.2 a.3 reader in
          let r = w.reader in
          let d = w.reading in
          let p = r.user in
          let nowhere = firsts_none test values t (all e o values) (sym (in_blocks test values t 0 0 0 e.blocks) ∙ none) p r.member in
          let at_all = none_if (issue_at values p).active (nat_lt t (cycle_at e o values h p))
          (find test (places_from (choice_of values (vars_of p)) 0 p.op.operands)) nowhere r.active (lt_is t
          (cycle_at e o values h p) r.after) in
          let each = none_found test (places_from (choice_of values (vars_of p)) 0 p.op.operands) at_all in
          let y = choice_of values (vars_of p) r.place r.operand in
          let listed = member_places (choice_of values (vars_of p)) p.op.operands 0 r.place r.place r.operand (omega arith) r.at in
          let fails : test y ≡ false = each_member (λ (z : TempId). test z ≡ false) (places_from (choice_of values
          (vars_of p)) 0 p.op.operands)
          y each listed in
          let value : spot_carried d.spot ≡ x =
          sym (carried_is e o values (numbered e o values h) (fit_kinds e o values h) d.spot d.member) ∙ d.value ∙ r.value in
          let passes : test d.spot.temp ≡ true = test_is x (Some t) d.spot d.member
          ∙ join ((spot_carried d.spot).0 == x.0) (nat_le (cycle_at e o values h d.spot.definer) t)
          (eq-eqb (spot_carried d.spot).0 x.0 (ap (λ (v : TempId). v.0) value)) (le_is (cycle_at e o values h d.spot.definer) t w.from) in
          let no : true ≡ false = sym passes ∙ ap test d.is ∙ fails in
          cc no
        where
          lt_is : (a b : ℕ) → a < b → nat_lt a b ≡ true
          lt_is a b lt = grind (arith, nat_tests, lt)

          le_is : (a b : ℕ) → a ≤ b → nat_le a b ≡ true
          le_is a b le = grind (arith, nat_tests, le)

  -- ---- whether a value crosses

  module _ (x : TempId) (t : ℕ) where
    abbrev reads : TempId → Bool
    reads y = is_there m values x None y

    abbrev searched : Option TempId
    searched = read_in_blocks (is_there m values x None) values t e.blocks (blocks_vars 0 e.blocks)

    abbrev IsRead : Type 0
    IsRead = (r : Read) × (Contains (reads_of m values) r) × (value_at m r.temp ≡ Some x) × (t < r.cycle)

    at_operand : (p : Placed) (j : ℕ) (operand : Operand) → Member p (all e o values) → (issue_at values p).active ≡ true
        → t < cycle_at e o values h p → slice_get p.op.operands j ≡ Some operand → reads (choice_of values (vars_of p) j operand) ≡ true
        → IsRead
    at_operand p j operand mp act after at passes =
        let read = reading e o values h p j operand mp act at in
        let d = read.2 in
        let u = d.spot in
        let two = both ((spot_carried u).0 == x.0) true (sym (test_is x None u d.member) ∙ ap reads d.is ∙ passes) in
        let number : (spot_carried u).0 ≡ x.0 = eqb-true (spot_carried u).0 x.0 two.0 in
        let value : spot_carried u ≡ x = ap temp number in
        let r = read_of values (issue_at values p) (vars_of p) j operand in (
          r,
          member_contains (reads_of m values) r (has_read e o values p j operand mp act at),
          ap (value_at m) (sym d.is) ∙ value_here u d.member ∙ ap (λ (v : TempId). Some v) value,
          after,
        )
      where
        member_contains : (xs : List Read) (r : Read) → Member r xs → Contains xs r
        member_contains xs r m = let k = place_of xs r m in (k.0, k.1, index_get xs k.0 r r k.2)

    some_read : (y : TempId) → searched ≡ Some y → IsRead
    some_read y got =
        let r = firsts_some reads values t (all e o values) y (sym (in_blocks reads values t 0 0 0 e.blocks) ∙ got) in
        of_operation r.0 r.1 r.2
      where
        lt_of : (a b : ℕ) → nat_lt a b ≡ true → a < b
        lt_of a b h = grind (arith, nat_tests, h)

        of_choice : (p : Placed) → Member p (all e o values) → (issue_at values p).active ≡ true → t < cycle_at e o values h p
            → (j : ℕ) (operand : Operand) → slice_get p.op.operands j ≡ Some operand → choice_of values (vars_of p) (0 + j) operand ≡ y
            → reads y ≡ true → IsRead
        of_choice p mp act after j operand at is passes =
            let place : 0 + j ≡ j = omega arith in
            at_operand p j operand mp act after at
            (ap reads (ap (λ (k : ℕ). choice_of values (vars_of p) k operand) (sym place) ∙ is) ∙ passes)

        of_operation : (p : Placed) → Member p (all e o values) → found_at reads values t p ≡ Some y → IsRead
        of_operation p mp got =
            let c = chosen_if (issue_at values p).active (nat_lt t (cycle_at e o values h p))
            (find reads (places_from (choice_of values (vars_of p)) 0 p.op.operands)) y got in
            let f = found reads (places_from (choice_of values (vars_of p)) 0 p.op.operands) y c.2 in
            let q = places_member (choice_of values (vars_of p)) 0 p.op.operands y f.0 in
            of_choice p mp c.0 (lt_of t (cycle_at e o values h p) c.1) q.0 q.1 q.2 q.3 f.1

    none_read : Crosses m s x t → searched ≡ None → ⊥
    none_read crosses none =
        let r = reader x t crosses in
        let p = r.user in
        let read = reading e o values h p r.place r.operand r.member r.active r.at in
        let d = read.2 in
        let nowhere = firsts_none reads values t (all e o values) (sym (in_blocks reads values t 0 0 0 e.blocks) ∙ none) p r.member in
        let at_all = none_if (issue_at values p).active (nat_lt t (cycle_at e o values h p))
        (find reads (places_from (choice_of values (vars_of p)) 0 p.op.operands)) nowhere r.active (lt_is t
        (cycle_at e o values h p) r.after) in
        let each = none_found reads (places_from (choice_of values (vars_of p)) 0 p.op.operands) at_all in
        let y = choice_of values (vars_of p) r.place r.operand in
        let listed = member_places (choice_of values (vars_of p)) p.op.operands 0 r.place r.place r.operand (omega arith) r.at in
        let fails : reads y ≡ false = each_member (λ (z : TempId). reads z ≡ false) (places_from (choice_of values
        (vars_of p)) 0 p.op.operands)
        y each listed in
        let value : spot_carried d.spot ≡ x =
        sym (carried_is e o values (numbered e o values h) (fit_kinds e o values h) d.spot d.member) ∙ d.value ∙ r.value in
        let passes : reads d.spot.temp ≡ true = test_is x None d.spot d.member
        ∙ join ((spot_carried d.spot).0 == x.0) true (eq-eqb (spot_carried d.spot).0 x.0 (ap (λ (v : TempId). v.0) value)) refl in
        let no : true ≡ false = sym passes ∙ ap reads d.is ∙ fails in
        cc no
      where
        lt_is : (a b : ℕ) → a < b → nat_lt a b ≡ true
        lt_is a b lt = grind (arith, nat_tests, lt)

    -- ---- the definer

    spot_at : (r : Option Spot) → slice_get (spots e o values) x.0 ≡ r → (v : TempVars) → slice_get (blocks_temps 0 0 e.blocks) x.0 ≡ Some v
        → (u : Spot) × (Member u (spots e o values)) × (u.temp ≡ x) × (v ≡ temp_vars u)
    spot_at r f v at = by r f (sym at ∙ ap (λ (xs : List TempVars). slice_get xs x.0) (temps_are 0 0 0 e.blocks)
        ∙ slice_get-map temp_vars (spots e o values) x.0 ∙ ap (option_map temp_vars) f)
      where
        by : (r : Option Spot) → slice_get (spots e o values) x.0 ≡ r → Some v ≡ option_map temp_vars r
            → (u : Spot) × (Member u (spots e o values)) × (u.temp ≡ x) × (v ≡ temp_vars u)
        by None f g = absurd (cc g)
        by (Some u) f g = (u, member_at (spots e o values) x.0 u f, spot_temp e o values (numbered e o values h) x.0 u f, cc g)

    defined_there : is_defined m values x t ≡ true → IsSomeAnd (range_of m s x) (λ (g : LiveRange). g.from ≤ t)
    defined_there given = by (slice_get (blocks_temps 0 0 e.blocks) x.0) refl given
      where
        le_of : (a b : ℕ) → nat_le a b ≡ true → a ≤ b
        le_of a b h = grind (arith, nat_tests, h)

        by : (r : Option TempVars) → slice_get (blocks_temps 0 0 e.blocks) x.0 ≡ r → defined_by m values t r ≡ true
            → IsSomeAnd (range_of m s x) (λ (g : LiveRange). g.from ≤ t)
        by None f d = absurd (cc d)
        by (Some v) f d =
            let w = spot_at (slice_get (spots e o values) x.0) refl v f in
            let u = w.0 in
            let from : cycle_at e o values h u.definer ≤ t = le_of (cycle_at e o values h u.definer) t
            (sym (ap (λ (n : ℕ). nat_le n t) (definer_cycle u w.1))
            ∙ sym (ap (λ (z : TempVars). nat_le (cycle_in values z.op.0 e.blocks (blocks_vars 0 e.blocks)) t) w.3) ∙ d) in
            subst (λ (r : Option LiveRange). IsSomeAnd r (λ (g : LiveRange). g.from ≤ t))
            (sym (ap (λ (z : TempId). slice_get (the_ranges e o values) z.0) (sym w.2)
            ∙ range_get e o values (numbered e o values h) u w.1))
            from

    there_defined : Crosses m s x t → is_defined m values x t ≡ true
    there_defined crosses =
        let a = own x t crosses in
        let u = a.0 in
        ap (λ (z : TempId). defined_by m values t (slice_get (blocks_temps 0 0 e.blocks) z.0)) (sym a.2)
        ∙ ap (defined_by m values t) (temp_get u a.1) ∙ ap (λ (n : ℕ). nat_le n t) (definer_cycle u a.1)
        ∙ le_is (cycle_at e o values h u.definer) t a.3
      where
        le_is : (a b : ℕ) → a ≤ b → nat_le a b ≡ true
        le_is a b le = grind (arith, nat_tests, le)

    pub crosses_told : is_defined m values x t ≡ true → is_some searched ≡ true → Crosses m s x t
    crosses_told given some = by searched refl some
      where
        by : (r : Option TempId) → searched ≡ r → is_some r ≡ true → Crosses m s x t
        by None f t = absurd (cc t)
        by (Some y) f z = let r = some_read y f in
            record { defined = defined_there given; read = r.0; listed = r.1; value = r.2; after = r.3 }

    pub crosses_known : Crosses m s x t → (is_defined m values x t ≡ true) × (is_some searched ≡ true)
    crosses_known crosses = (there_defined crosses, by searched refl)
      where
        by : (r : Option TempId) → searched ≡ r → is_some r ≡ true
        by None f = absurd (none_read crosses f)
        by (Some y) f = refl

-- ---- of a model

module _ (m : Model) (s : Solution) (x : TempId) (t : ℕ) (own : IsModel m) (extended : IsExtended m.ext) (fit : IsFit m.ext.table)
    (options : AreOptions m.options) (solution : IsSolution m s) where
  solved : Solved m.ext m.options s.values
  solved = record {
    extended = extended;
    fit = fit;
    options = options;
    schedule = subst (λ (z : Model). IsSchedule (latency_gap m.ext.table) z.domains z s.values (schedule_of z s.values)) own solution;
  }

  abbrev search : Model → Option TempId
  search z = read_in_blocks (is_there z s.values x (Some t)) s.values t z.ext.blocks z.blocks

  -- what the search finds
  pub search_carries : (y : TempId) → read_in_blocks (is_there m s.values x (Some t)) s.values t m.ext.blocks m.blocks ≡ Some y
      → Carries m s x t y
  search_carries y got =
      let here : search (model_of m.ext m.options) ≡ Some y = sym (ap search own) ∙ got in
      subst (λ (z : Model). Carries z s x t y) (sym own) (some_carries m.ext m.options s.values solved x t y here)

  -- it finds something
  pub search_finds : Crosses m s x t → read_in_blocks (is_there m s.values x (Some t)) s.values t m.ext.blocks m.blocks ≡ None → ⊥
  search_finds crosses none =
      let here : search (model_of m.ext m.options) ≡ None = sym (ap search own) ∙ none in
      none_crosses m.ext m.options s.values solved x t (subst (λ (z : Model). Crosses z s x t) own crosses) here

  abbrev read_later : Model → Option TempId
  read_later z = read_in_blocks (is_there z s.values x None) s.values t z.ext.blocks z.blocks

  -- what the test of crossing says
  pub tells_crossing : is_defined m s.values x t ≡ true
      → is_some (read_in_blocks (is_there m s.values x None) s.values t m.ext.blocks m.blocks) ≡ true → Crosses m s x t
  tells_crossing given some =
      subst (λ (z : Model). Crosses z s x t) (sym own) (crosses_told m.ext m.options s.values solved x t
      (subst (λ (z : Model). is_defined z s.values x t ≡ true) own given) (subst (λ (z : Model). is_some (read_later z) ≡ true) own some))

  pub knows_crossing : Crosses m s x t → (is_defined m s.values x t ≡ true)
      × (is_some (read_in_blocks (is_there m s.values x None) s.values t m.ext.blocks m.blocks) ≡ true)
  knows_crossing crosses =
      let r = crosses_known m.ext m.options s.values solved x t (subst (λ (z : Model). Crosses z s x t) own crosses) in (
        subst (λ (z : Model). is_defined z s.values x t ≡ true) (sym own) r.0,
        subst (λ (z : Model). is_some (read_later z) ≡ true) (sym own) r.1,
      )

  -- by the two parts of the test
  pub crosses_then : (defined read : Bool) → defined ≡ is_defined m s.values x t
      → read ≡ is_some (read_in_blocks (is_there m s.values x None) s.values t m.ext.blocks m.blocks) → defined ≡ true
      → (read ≡ true) ↔ Crosses m s x t
  crosses_then defined read f g given = (λ r. tells_crossing (sym f ∙ given) (sym g ∙ r), λ c. g ∙ (knows_crossing c).1)

  pub crosses_else : (defined : Bool) → defined ≡ is_defined m s.values x t → defined ≡ false → (defined ≡ true) ↔ Crosses m s x t
  crosses_else defined f given = (
    λ r. (let impossible : true ≡ false = sym r ∙ given in absurd (cc impossible)),
    λ c. f ∙ (knows_crossing c).0,
  )
