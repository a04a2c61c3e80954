-- The arcs of the model of an extended function lead on.
use Rattle.std.proofs.Common.{◌≡◌, ℕ, zero, suc, ◌+◌, ◌-◌, ◌^◌, ◌≤◌, ◌<◌, ◌⊎◌, inl, inr, Bool, true, false, List, [], ◌∷◌, ◌++◌, length}
use Rattle.std.proofs.Common.{get_or, take, Option, Some, None, refl, sym, ap, ◌∙◌, subst, arith}
use Rattle.std.specs.Prelude.{slice_get, sum_by, IfSome, All}
use Rattle.std.specs.List.{list_any, AllZip}
use Rattle.std.proofs.lemmas.Bool.{eqb-true}
use Rattle.std.proofs.lemmas.List.Elements.{Contains-get_or}
use Rattle.std.proofs.lemmas.List.Sums.{sum_by-cons, get_or-le-sum_by}
use Rattle.std.proofs.lemmas.Option.{slice_get_within}
use Rattle.un_base.specs.declared.ids.TempId.{TempId}
use Rattle.un_isa.specs.Facts.{is_source}
use Rattle.un_isa.specs.Fit.{IsFit}
use Rattle.un_isa.specs.declared.op.Op.{Op}
use Rattle.un_isa.specs.declared.op.Op.TheVariants.{Load, Store, Call}
use Rattle.un_isa.specs.declared.table.Table.{Table}
use Rattle.un_isa.specs.Does.{is_transfer}
use Rattle.un_isa.proofs.DoesLaws.{source_stays}
use Rattle.un_ir.specs.declared.extended.ExtKind.{ExtKind}
use Rattle.un_ir.specs.declared.extended.ExtKind.TheVariants.{In, Out, Body, End, Copy, Enter, Leave}
use Rattle.un_ir.specs.declared.extended.Operand.{Operand}
use Rattle.un_ir.specs.declared.extended.ExtOp.{ExtOp}
use Rattle.un_ir.specs.declared.extended.ExtBlock.{ExtBlock}
use Rattle.un_ir.specs.declared.extended.Ext.{Ext}
use Rattle.un_ir.specs.Extended.{IsExtended, IsGoodExtBlock, IsGoodOperand, IsGoodKind, Want, wants_of, result_count, results_of}
use Rattle.un_ir.specs.Extended.{size_of}
use Rattle.un_model.specs.declared.model.Arc.{Arc}
use Rattle.un_model.specs.declared.model.Model.{Model}
use Rattle.un_model.specs.declared.model.TempVars.{TempVars}
use Rattle.un_ir.specs.Kinds.{is_mandatory}
use Rattle.un_model.specs.Arcs.{own_instr, value_read, defines, reads_from, data_gap, NeedsGap, block_arcs, blocks_arcs}
use Rattle.un_model.specs.Arcs.{IsLargest, IsArcOf, RisesTo}
use Rattle.un_model.specs.Arcs.NeedsGap.{ByData, ByMemory}
use Rattle.un_model.specs.ArcLaws.{arc_told, arcs_rise}
use Rattle.un_model.proofs.Gaps.{gap_short}
use Rattle.un_model.specs.Instructions.{instruction_of}
use Rattle.un_model.specs.Pairs.{places_from}
use Rattle.un_model.specs.Solutions.{latency_gap, memory_distance, after_load, after_write}
use Rattle.un_model.specs.Variables.{IsModel, arcs_of, register_place, var_count, block_count, op_temps, ops_temps, blocks_temps, temp_of}
use Rattle.un_bound.specs.Arcs.{MayLead, MayWait, LeadsOn, LeadOn, IsBefore, AllLeadOn, HasFewOps, IsOrderly}

-- ---- gaps

after_load_short : (b : Option Op) (g : ℕ) → after_load b ≡ Some g → g ≤ 1
after_load_short (Some Store) g h = let e : 0 ≡ g = cc h in omega (arith, e)
after_load_short (Some Call) g h = let e : 1 ≡ g = cc h in omega (arith, e)
after_load_short b g h = absurd (cc h)

after_write_short : (b : Option Op) (g : ℕ) → after_write b ≡ Some g → g ≤ 1
after_write_short (Some Load) g h = let e : 1 ≡ g = cc h in omega (arith, e)
after_write_short (Some Store) g h = let e : 1 ≡ g = cc h in omega (arith, e)
after_write_short (Some Call) g h = let e : 1 ≡ g = cc h in omega (arith, e)
after_write_short b g h = absurd (cc h)

memory_short : (a b : Option Op) (g : ℕ) → memory_distance a b ≡ Some g → g ≤ 1
memory_short (Some Load) b g h = after_load_short b g h
memory_short (Some Store) b g h = after_write_short b g h
memory_short (Some Call) b g h = after_write_short b g h
memory_short a b g h = absurd (cc h)

data_told : (t : Table) (reads : Bool) (from to : ExtOp) (g : ℕ) → data_gap t reads from to ≡ Some g
    → (reads ≡ true) × (latency_gap t (own_instr from) (own_instr to) ≡ g)
data_told t true from to g h = (refl, cc h)
data_told t false from to g h = absurd (cc h)

-- ---- what may lead and what may wait

memory_leads : (a b : Option Op) (g : ℕ) → memory_distance a b ≡ Some g → IfSome a (λ (op : Op). is_transfer op ≡ false)
memory_leads None b g h = tt
memory_leads (Some Load) b g h = refl
memory_leads (Some Store) b g h = refl
memory_leads (Some Call) b g h = refl
memory_leads (Some op) b g h = absurd (cc h)

lead_by_memory : (kind : ExtKind) (b : Option Op) (g : ℕ) → memory_distance (instruction_of kind 0) b ≡ Some g → MayLead kind
lead_by_memory In b g h = tt
lead_by_memory Out b g h = absurd (cc h)
lead_by_memory (Body o) b g h = memory_leads (instruction_of (Body o) 0) b g h
lead_by_memory (End term) b g h = memory_leads (instruction_of (End term) 0) b g h
lead_by_memory (Copy node) b g h = tt
lead_by_memory Enter b g h = tt
lead_by_memory Leave b g h = tt

lead_by_data : (t : Table) (block : ExtBlock) (kind : ExtKind) (op : ExtOp) → IsGoodKind kind op
    → length op.results ≡ result_count t block kind → 0 < length op.results → MayLead kind
lead_by_data t block In op good e some = tt
lead_by_data t block Out op good e some = absurd (omega (arith, e, some))
lead_by_data t block (Body o) op good e some = let s : is_source o.op ≡ true = good.op in source_stays o.op s
lead_by_data t block (End term) op good e some = absurd (omega (arith, e, some))
lead_by_data t block (Copy node) op good e some = tt
lead_by_data t block Enter op good e some = tt
lead_by_data t block Leave op good e some = tt

no_distance : (a : Option Op) (g : ℕ) → memory_distance a None ≡ Some g → ⊥
no_distance (Some Load) g h = cc h
no_distance (Some Store) g h = cc h
no_distance (Some Call) g h = cc h
no_distance a g h = cc h

no_operands : (R : Operand → Want → Type 0) (xs : List Operand) → AllZip R xs [] → xs ≡ []
no_operands R [] h = refl
no_operands R (x ∷ xs) h = absurd h

waits_by : (kind : ExtKind) → is_mandatory kind ≡ true → (kind ≡ In → ⊥) → MayWait kind
waits_by In m other = absurd (other refl)
waits_by Out m other = tt
waits_by (Body o) m other = tt
waits_by (End term) m other = tt
waits_by (Copy node) m other = cc m
waits_by Enter m other = cc m
waits_by Leave m other = cc m

-- ---- who defines a temporary

abbrev all_ops : List ExtBlock → List ExtOp
all_ops [] = []
all_ops (block ∷ blocks) = block.ops ++ all_ops blocks

pub get_left : {A : Type 0} (xs ys : List A) (k : ℕ) (x : A) → slice_get xs k ≡ Some x → slice_get (xs ++ ys) k ≡ Some x
get_left [] ys k x h = absurd (cc h)
get_left (y ∷ xs) ys zero x h = h
get_left (y ∷ xs) ys (suc k) x h = get_left xs ys k x h

pub get_right : {A : Type 0} (xs ys : List A) (n k : ℕ) → n ≡ length xs + k → slice_get (xs ++ ys) n ≡ slice_get ys k
get_right [] ys n k e = ap (slice_get ys) (omega (arith, e))
get_right (x ∷ xs) ys zero k e = absurd (omega (arith, e))
get_right (x ∷ xs) ys (suc n) k e = get_right xs ys n k (omega (arith, e))

get_split : {A : Type 0} (xs ys : List A) (k : ℕ) (x : A) → slice_get (xs ++ ys) k ≡ Some x
    → (slice_get xs k ≡ Some x) ⊎ ((j : ℕ) × (slice_get ys j ≡ Some x))
get_split [] ys k x h = inr (k, h)
get_split (y ∷ xs) ys zero x h = inl h
get_split (y ∷ xs) ys (suc k) x h = get_split xs ys k x h

-- an operation of these, of which the first has the number n, defines it
record Defined (n : ℕ) (ops : List ExtOp) (t : TempVars) : Type 0 where
  pub place : ℕ
  pub op : ExtOp
  pub at : slice_get ops place ≡ Some op
  pub number : t.op.0 ≡ n + place
  pub some : 0 < length op.results

temps_defined : (n : ℕ) (op : ExtOp) (reg : ℕ) (xs : List TempId) (j : ℕ) (t : TempVars)
    → slice_get (places_from (temp_of n op) reg xs) j ≡ Some t → (t.op.0 ≡ n) × (0 < length xs)
temps_defined n op reg [] j t h = absurd (cc h)
temps_defined n op reg (x ∷ xs) zero t h = let e : temp_of n op reg x ≡ t = cc h in
    (sym (ap (λ (u : TempVars). u.op.0) e), omega arith)
temps_defined n op reg (x ∷ xs) (suc j) t h = ((temps_defined n op (reg + 1) xs j t h).0, omega arith)

ops_defined : (n first : ℕ) (ops : List ExtOp) (j : ℕ) (t : TempVars) → slice_get (ops_temps n first ops) j ≡ Some t → Defined n ops t
ops_defined n first [] j t h = absurd (cc h)
ops_defined n first (op ∷ ops) j t h =
    elim (get_split (op_temps n (first + register_place op) op) (ops_temps (n + 1) (first + var_count op) ops) j t h) [
      | inl here ↦ let d = temps_defined n op (first + register_place op) op.results j t here in
          record { place = 0; op = op; at = refl; number = omega (arith, d.0); some = d.1 }
      | inr later ↦ let d = ops_defined (n + 1) (first + var_count op) ops later.0 t later.1 in
          record { place = suc d.place; op = d.op; at = d.at; number = omega (arith, d.number); some = d.some }
    ]

blocks_defined : (n first : ℕ) (blocks : List ExtBlock) (j : ℕ) (t : TempVars) → slice_get (blocks_temps n first blocks) j ≡ Some t
    → Defined n (all_ops blocks) t
blocks_defined n first [] j t h = absurd (cc h)
blocks_defined n first (block ∷ blocks) j t h =
    elim (get_split (ops_temps n first block.ops) (blocks_temps (n + length block.ops) (first + block_count block) blocks) j t h) [
      | inl here ↦ let d = ops_defined n first block.ops j t here in
          record {
            place = d.place;
            op = d.op;
            at = get_left block.ops (all_ops blocks) d.place d.op d.at;
            number = d.number;
            some =
                d.some;
          }
      | inr later ↦ let d = blocks_defined (n + length block.ops) (first + block_count block) blocks later.0 t later.1 in
          record {
            place = length block.ops + d.place;
            op = d.op;
            at = get_right block.ops (all_ops blocks) (length block.ops + d.place) d.place refl ∙ d.at;
            number = omega (arith, d.number);
            some = d.some;
          }
    ]

any_some : {A : Type 0} (p : A → Bool) (xs : List A) → list_any p xs ≡ true → (x : A) × (p x ≡ true)
any_some p [] h = absurd (cc h)
any_some {A} p (x ∷ xs) h = by (p x) refl (λ e. any_some p xs (rw e at h))
  where
    by : (b : Bool) → p x ≡ b → (p x ≡ false → (y : A) × (p y ≡ true)) → (y : A) × (p y ≡ true)
    by true e later = (x, e)
    by false e later = later e

definer : (temps : List TempVars) (n : ℕ) (to : ExtOp) → reads_from temps n to ≡ true
    → (j : ℕ) × (t : TempVars) × (slice_get temps j ≡ Some t) × (t.op.0 ≡ n)
definer temps n to h = by found.0 (slice_get temps ((value_read found.0).0)) refl found.1
  where
    found : (x : Operand) × (defines temps n (value_read x) ≡ true)
    found = any_some (λ (x : Operand). defines temps n (value_read x)) to.operands h

    by : (x : Operand) (o : Option TempVars) → slice_get temps (value_read x).0 ≡ o → defines temps n (value_read x) ≡ true
        → (j : ℕ) × (t : TempVars) × (slice_get temps j ≡ Some t) × (t.op.0 ≡ n)
    by x None e d = absurd (cc (rw e at d))
    by x (Some t) e d = ((value_read x).0, t, e, eqb-true t.op.0 n (rw e at d))

-- ---- the arcs of a block

module _ (e : Ext) (fit : IsFit e.table) (block : ExtBlock) (good : IsGoodExtBlock e.table e.names e.blocks block) (n : ℕ)
    (numbered : (k : ℕ) (op : ExtOp) → slice_get block.ops k ≡ Some op → slice_get (all_ops e.blocks) (n + k) ≡ Some op) where
  abbrev temps : List TempVars
  temps = blocks_temps 0 0 e.blocks

  short : (reads : Bool) (from to : ExtOp) (g : ℕ) → NeedsGap e.table reads from to g → g < 2 ^ 8
  short reads from to g (ByData d) =
      omega (arith, gap_short e.table fit (own_instr from) (own_instr to), (data_told e.table reads from to g d).1)
  short reads from to g (ByMemory d) = omega (arith, memory_short (own_instr from) (own_instr to) g d)

  leads : (k : ℕ) (from to : ExtOp) (g : ℕ) → slice_get block.ops k ≡ Some from
      → NeedsGap e.table (reads_from temps (n + k) to) from to g → MayLead from.kind
  leads k from to g at (ByMemory d) = lead_by_memory from.kind (own_instr to) g d
  leads k from to g at (ByData d) =
      let t = definer temps (n + k) to (data_told e.table (reads_from temps (n + k) to) from to g d).0 in
      let made = blocks_defined 0 0 e.blocks t.0 t.1 t.2 in
      let place : made.place ≡ n + k = omega (arith, made.number, t.3) in
      let found : slice_get (all_ops e.blocks) (n + k) ≡ Some made.op =
      subst (λ (u : ℕ). slice_get (all_ops e.blocks) u ≡ Some made.op) place made.at in
      let same : made.op ≡ from = cc (found, numbered k from at) in
      let some : 0 < length from.results = subst (λ (o : ExtOp). 0 < length o.results) same made.some in
      let g = good.ops k from at in
      lead_by_data e.table block from.kind from g.kind g.results some

  waits : (k m : ℕ) (from to : ExtOp) (g : ℕ) → slice_get block.ops m ≡ Some to → is_mandatory to.kind ≡ true
      → NeedsGap e.table (reads_from temps k to) from to g → MayWait to.kind
  waits k m from to g at mandatory need = waits_by to.kind mandatory (λ start. never start need)
    where
      empty : to.kind ≡ In → to.operands ≡ []
      empty start =
          let h = (good.ops m to at).operands in
          no_operands (IsGoodOperand e.names e.blocks (results_of (take m block.ops))) to.operands
          (subst (λ (kind : ExtKind). AllZip (IsGoodOperand e.names e.blocks (results_of (take m block.ops))) to.operands
          (wants_of e.table e.names e.blocks block kind to)) start h)

      never : to.kind ≡ In → NeedsGap e.table (reads_from temps k to) from to g → ⊥
      never start (ByMemory d) =
          let none : own_instr to ≡ None = ap (λ (kind : ExtKind). instruction_of kind 0) start in
          no_distance (own_instr from) g (subst (λ (b : Option Op). memory_distance (own_instr from) b ≡ Some g) none d)
      never start (ByData d) =
          let reads = (data_told e.table (reads_from temps k to) from to g d).0 in
          let nothing : reads_from temps k to ≡ false =
          ap (λ (xs : List Operand). list_any (λ (x : Operand). defines temps k (value_read x)) xs) (empty start) in
          cc (reads, nothing)

  leads_on : (a : Arc) → IsArcOf e.table temps n block.ops a → LeadsOn n block.ops a
  leads_on a w = record {
    here = omega (arith, w.numbers.0);
    forward = omega (arith, w.numbers.0, w.numbers.1, w.order);
    within = omega (arith, w.numbers.1, slice_get_within block.ops w.later w.to w.to_at);
    short = short (reads_from temps a.from.0 w.to) w.from w.to a.gap largest.asked;
    from = from;
    to = to;
  }
    where
      largest : IsLargest e.table (reads_from temps a.from.0 w.to) w.from w.to a.gap
      largest = w.gap

      from : IfSome (slice_get block.ops (a.from.0 - n)) (λ (op : ExtOp). MayLead op.kind)
      from =
          let place : a.from.0 - n ≡ w.earlier = omega (arith, w.numbers.0) in
          let need : NeedsGap e.table (reads_from temps (n + w.earlier) w.to) w.from w.to a.gap =
          subst (λ (u : ℕ). NeedsGap e.table (reads_from temps u w.to) w.from w.to a.gap) w.numbers.0 largest.asked in
          rw (place, w.from_at) (leads w.earlier w.from w.to a.gap w.from_at need)

      to : IfSome (slice_get block.ops (a.to.0 - n)) (λ (op : ExtOp). MayWait op.kind)
      to =
          let place : a.to.0 - n ≡ w.later = omega (arith, w.numbers.1) in
          rw (place, w.to_at) (waits a.from.0 w.later w.from w.to a.gap w.to_at w.mandatory.1 largest.asked)

  lead_on : LeadOn n block.ops (block_arcs e.table temps n block.ops)
  lead_on = record {
    each = λ k d lt. leads_on (get_or (block_arcs e.table temps n block.ops) k d)
        (arc_told e.table temps n block.ops (get_or (block_arcs e.table temps n block.ops) k d)
        (Contains-get_or (block_arcs e.table temps n block.ops) k d lt));
    rising = λ i j d lt within. before (get_or (block_arcs e.table temps n block.ops) i d)
        (get_or (block_arcs e.table temps n block.ops) j d)
        (arcs_rise e.table temps n block.ops i j d lt within);
  }
    where
      before : (a b : Arc) → RisesTo a b → IsBefore a b
      before a b (inl less) = omega (arith, less)
      before a b (inr same) = omega (arith, same.0)

-- ---- the model

all_lead : (e : Ext) → IsFit e.table → (n : ℕ) (blocks : List ExtBlock) → All (IsGoodExtBlock e.table e.names e.blocks) blocks
    → ((k : ℕ) (op : ExtOp) → slice_get (all_ops blocks) k ≡ Some op → slice_get (all_ops e.blocks) (n + k) ≡ Some op)
    → AllLeadOn n blocks (blocks_arcs e.table (blocks_temps 0 0 e.blocks) n blocks)
all_lead e fit n [] good numbered = tt
all_lead e fit n (block ∷ blocks) good numbered = (
  lead_on e fit block (good zero block (omega arith)) n
      (λ k op at. numbered k op (get_left block.ops (all_ops blocks) k op at)),
  all_lead e fit (n + length block.ops) blocks (λ k d lt. good (suc k) d (omega (arith, lt)))
      (λ k op at. subst (λ (u : ℕ). slice_get (all_ops e.blocks) u ≡ Some op) (omega arith)
      (numbered (length block.ops + k) op (get_right block.ops (all_ops blocks) (length block.ops + k) k refl ∙ at))),
)

pub all_leads : (m : Model) → IsModel m → IsExtended m.ext → IsFit m.ext.table → AllLeadOn 0 m.ext.blocks m.arcs
all_leads m own extended fit =
    subst (AllLeadOn 0 m.ext.blocks) (sym arcs) (all_lead m.ext fit 0 m.ext.blocks extended.good.each
    (λ k op at. subst (λ (u : ℕ). slice_get (all_ops m.ext.blocks) u ≡ Some op) (omega arith) at))
  where
    arcs : m.arcs ≡ arcs_of m.ext
    arcs = ap (λ (x : Model). x.arcs) own

-- a block has at most as many operations as those and what they read and define
abbrev op_size : ExtOp → ℕ
op_size op = 1 + length op.operands + length op.results

few_by_size : (ops : List ExtOp) → length ops ≤ sum_by op_size ops
few_by_size [] = omega arith
few_by_size (op ∷ ops) = omega (arith, sum_by-cons op_size op ops, few_by_size ops)

few_ops : (blocks : List ExtBlock) → size_of blocks < 2 ^ 24 → All HasFewOps blocks
few_ops blocks small k d lt =
    let own = get_or-le-sum_by (λ (block : ExtBlock). sum_by op_size block.ops) blocks k d lt in
    let block = get_or blocks k d in
    omega (arith, small, own, few_by_size block.ops)

pub orderly : (m : Model) → IsModel m → IsExtended m.ext → IsFit m.ext.table → IsOrderly m
orderly m own extended fit = record {
  counts = record { blocks = extended.good.few; frequencies = λ k d lt. (extended.good.each k d lt).freq.1 };
  few = few_ops m.ext.blocks extended.good.small;
  long = λ k d lt. omega (arith, (extended.good.each k d lt).horizon);
  arcs = all_leads m own extended fit;
}
