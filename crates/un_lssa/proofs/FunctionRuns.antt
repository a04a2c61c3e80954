-- The linear function of every function runs as the function does.
use Rattle.std.proofs.Common.{◌≡◌, ◌≢◌, ℕ, suc, ◌+◌, ◌-◌, ◌<◌, ◌≤◌, ◌++◌, ◌||◌, Bool, true, false, nat_eq, List, [], ◌∷◌, Option, Some}
use Rattle.std.proofs.Common.{None, map, length, take, replicate, get_or, slice_get, slice_index, AllPairs, Contains, if◌then◌else◌, refl}
use Rattle.std.proofs.Common.{sym, ap, ◌∙◌, arith, subst, append_assoc, append-nil}
use Rattle.std.specs.List.{flat_map, fold, list_any, range_with_len}
use Rattle.std.proofs.Math.Bridge.{le_prop}
use Rattle.std.proofs.Math.Logic.{∥∥₁_elim}
use Rattle.std.proofs.lemmas.Bool.{eqb-true}
use Rattle.std.proofs.lemmas.List.{length-map, length-append, length-replicate, length-take, get_or-take, get_or_append_left, get_or-map}
use Rattle.std.proofs.lemmas.List.Elements.{Contains-get_or}
use Rattle.std.proofs.lemmas.List.FromFn.{length-range_with_len, get_or-range_with_len}
use Rattle.std.proofs.lemmas.Option.{slice_get-get_or}
use Rattle.un_base.specs.declared.ids.NameId.{NameId}
use Rattle.un_isa.specs.declared.op.Op.{Op}
use Rattle.un_isa.specs.declared.op.Op.TheVariants.{Store}
use Rattle.un_isa.specs.declared.reg.TheConstants.{REGISTERS}
use Rattle.un_isa.specs.declared.start.Start.{Start}
use Rattle.un_isa.specs.declared.table.Table.{Table}
use Rattle.un_ir.specs.declared.function.SrcOp.{SrcOp}
use Rattle.un_ir.specs.declared.function.Term.TheVariants.{Fall}
use Rattle.un_ir.specs.declared.function.Block.{Block}
use Rattle.un_ir.specs.declared.function.Function.{Function}
use Rattle.un_ir.specs.declared.extended.ExtBlock.{ExtBlock}
use Rattle.un_ir.specs.Live.{IsLive}
use Rattle.un_ir.specs.Names.{see, first_appearances, names_in_block}
use Rattle.un_ir.specs.Source.{source_run, first_state}
use Rattle.un_ir.specs.Linear.{linear_run, first_saved, first_taken}
use Rattle.un_ir.specs.LinearOf.{AreLive, live_at, linear_block, linear_blocks}
use Rattle.un_ir.specs.Runs.{as_linear, values_at}
use Rattle.un_ir.specs.WellFormed.{IsWellFormed, IsGoodOp, IsGoodBlock, AssignsItsKind}
use Rattle.un_ir.proofs.NameBounds.{NamesAreSmall, names_small, live_name_small, at_all}
use Rattle.un_ir.proofs.FunctionFacts.{entry_there, leads_inside}
use Rattle.un_lssa.proofs.RunSim.{enter_sim, block_at, map_same_values}

abbrev Kept : Function → Type 0
Kept f = IsWellFormed f.name f.params f.names f.blocks

small_names : (f : Function) → NamesAreSmall (length f.names) f.blocks
small_names f = record {
  reads = λ b k block name at has. ∥∥₁_elim f.well_formed le_prop
      (λ (w : Kept f). (let small = names_small f.names f.blocks w.good_blocks in small.reads b k block name at has));
  assigns = λ b k block o name at here is. ∥∥₁_elim f.well_formed le_prop
      (λ (w : Kept f). (let small = names_small f.names f.blocks w.good_blocks in small.assigns b k block o name at here is));
}

-- a Store has no result
stores_none : (f : Function) (b k : ℕ) (block : Block) (o : SrcOp) → slice_get f.blocks b ≡ Some block → slice_get block.ops k ≡ Some o
    → o.op ≡ Store → o.dst ≡ None
stores_none f b k block o at here is = by o.dst refl
  where
    not_some : (name : NameId) → AssignsItsKind f.names Store (Some name) → ⊥
    not_some name h = cc h

    by : (d : Option NameId) → o.dst ≡ d → d ≡ None
    by None e = refl
    by (Some name) e = absurd (∥∥₁_elim f.well_formed (λ (x y : ⊥). absurd x)
        (λ (w : Kept f). (let g = at_all (IsGoodOp f.names) block.ops k o
        (let h = at_all (IsGoodBlock f.names) f.blocks b block w.good_blocks at in h.ops) here in
        not_some name (subst (λ (op : Op). AssignsItsKind f.names op (Some name)) is (subst (AssignsItsKind f.names o.op) e g.assigns)))))

-- ---- the parameters are the first names

record Grows (seen : List ℕ) (names : List NameId) : Type 0 where
  more : List ℕ
  is : fold see seen names ≡ seen ++ more

grows : (seen : List ℕ) (names : List NameId) → Grows seen names
grows seen [] = record { more = []; is = sym (append-nil seen) }
grows seen (name ∷ names) = by (list_any (nat_eq name.0) seen) refl (grows seen names) (grows (seen ++ name.0 ∷ []) names)
  where
    by : (v : Bool) → list_any (nat_eq name.0) seen ≡ v → Grows seen names → Grows (seen ++ name.0 ∷ []) names → Grows seen (name ∷ names)
    by true e a b = record { more = a.more; is = rw e a.is }
    by false e a b = record { more = name.0 ∷ b.more; is = rw e (b.is ∙ append_assoc seen (name.0 ∷ []) b.more) }

abbrev numbers : List NameId → List ℕ
numbers params = map (λ (name : NameId). name.0) params

abbrev AreNew : List ℕ → List NameId → Type 0
AreNew seen params = (j : ℕ) (d : NameId) → j < length params → (let p = get_or params j d in list_any (nat_eq p.0) seen) ≡ false

any_push : (x y : ℕ) (seen : List ℕ) → list_any (nat_eq x) seen ≡ false → nat_eq x y ≡ false → list_any (nat_eq x) (seen ++ y ∷ []) ≡ false
any_push x y [] h e = rw e refl
any_push x y (z ∷ seen) h e = by (any_push x y seen) (nat_eq x z) refl h
  where
    by : (list_any (nat_eq x) seen ≡ false → nat_eq x y ≡ false → list_any (nat_eq x) (seen ++ y ∷ []) ≡ false) → (v : Bool)
        → nat_eq x z ≡ v → (v || list_any (nat_eq x) seen) ≡ false
        → (nat_eq x z || list_any (nat_eq x) (seen ++ y ∷ [])) ≡ false
    by ih true q h = absurd (cc h)
    by ih false q h = rw q (ih h e)

record Begins (seen : List ℕ) (params rest : List NameId) : Type 0 where
  more : List ℕ
  is : fold see seen (params ++ rest) ≡ (seen ++ numbers params) ++ more

begins : (seen : List ℕ) (params rest : List NameId) → AllPairs (λ (a b : NameId). a ≢ b) params → AreNew seen params
    → Begins seen params rest
begins seen [] rest apart new = let g = grows seen rest in record {
  more = g.more;
  is = g.is
      ∙ ap (λ (xs : List ℕ). xs ++ g.more) (sym (append-nil seen));
}
begins seen (p ∷ params) rest apart new =
    let first : list_any (nat_eq p.0) seen ≡ false = new 0 p (omega arith) in
    let later = begins (seen ++ p.0 ∷ []) params rest
    (λ i j d lt below. apart (suc i) (suc j) d (omega arith) (omega arith))
    (λ j d below. (let q = get_or params j d in any_push q.0 p.0 seen (new (suc j) d (omega arith))
    (differ q (apart 0 (suc j) d (omega arith) (omega arith))))) in
    record {
      more = later.more;
      is = ap (λ (v : Bool). fold see (if v then seen else seen ++ p.0 ∷ []) (params ++ rest)) first ∙ later.is
          ∙ ap (λ (xs : List ℕ). xs ++ later.more) (append_assoc seen (p.0 ∷ []) (numbers params));
    }
  where
    differ : (q : NameId) → p ≢ q → nat_eq q.0 p.0 ≡ false
    differ q other = by (nat_eq q.0 p.0) refl
      where
        by : (v : Bool) → nat_eq q.0 p.0 ≡ v → v ≡ false
        by true e = absurd (other (ap (λ (n : ℕ). (let r : NameId = record { 0 = n } in r)) (sym (eqb-true q.0 p.0 e))))
        by false e = refl

-- parameters are the first of so many names
pub record Numbered (params : List NameId) (count : ℕ) : Type 0 where
  pub few : length params ≤ count
  pub below : (name : NameId) → Contains params name → name.0 < length params

pub numbered : (params rest : List NameId) (count : ℕ) → AllPairs (λ (a b : NameId). a ≢ b) params
    → first_appearances (params ++ rest) ≡ range_with_len 0 count → Numbered params count
numbered params rest count apart is = record { few = few; below = below }
  where
    all : Begins [] params rest
    all = begins [] params rest apart (λ j d h. refl)

    same : numbers params ++ all.more ≡ range_with_len 0 count
    same = sym all.is ∙ is

    few : length params ≤ count
    few =
        let a = length-append (numbers params) all.more in
        let b = length-map params (λ (name : NameId). name.0) in
        let c = ap (λ (xs : List ℕ). length xs) same in
        let d = length-range_with_len 0 count in
        omega (arith, a, b, c, d)

    below : (name : NameId) → Contains params name → name.0 < length params
    below name (i, h, at) =
        let b = length-map params (λ (n : NameId). n.0) in
        let inside : i < length (numbers params) = omega (arith, b, h) in
        let e : name.0 ≡ i =
        ap (λ (n : NameId). n.0) (sym at) ∙ sym (get_or-map (λ (n : NameId). n.0) params i name 0 h)
        ∙ sym (get_or_append_left (numbers params) all.more 0 i inside) ∙ ap (λ (xs : List ℕ). get_or xs i 0) same
        ∙ get_or-range_with_len 0 count i 0 (omega (arith, few)) ∙ (let z : 0 + i ≡ i = omega arith in z) in
        omega (arith, e, h)

pub params_few : (f : Function) → length f.params ≤ 6
params_few f = ∥∥₁_elim f.well_formed le_prop (λ (w : Kept f). w.few_params)

params_names : (f : Function) → length f.params ≤ length f.names
params_names f = ∥∥₁_elim f.well_formed le_prop
    (λ (w : Kept f). (let n = numbered f.params (flat_map names_in_block f.blocks) (length f.names) w.distinct_params w.numbered in n.few))

pub entry_param : (f : Function) (name : NameId) → IsLive f.blocks name 0 0 → name.0 < length f.params
entry_param f name l = ∥∥₁_elim f.well_formed le_prop
    (λ (w : Kept f). (let n = numbered f.params (flat_map names_in_block f.blocks) (length f.names) w.distinct_params w.numbered in
    n.below name (w.live name l)))

-- ---- the theorem

-- at most as many blocks are entered as for the source; the start has 36 registers
pub linear_runs : (f : Function) (lists : List (List NameId)) (t : Table) (start : Start) (n : ℕ) → AreLive f.blocks lists
    → length start.regs ≡ REGISTERS
    → linear_run t (linear_blocks t (length f.names) lists 0 0 f.blocks) start n ≡ as_linear t start lists (source_run f start n)
linear_runs f lists t start n live regs =
    let entry = get_or f.blocks 0 no_block in
    let here = slice_get-get_or f.blocks 0 no_block (entry_there f) in
    let there = block_at t (length f.names) lists 0 0 f.blocks 0 entry here in
    let got : slice_get (linear_blocks t (length f.names) lists 0 0 f.blocks) 0 ≡ Some
    (linear_block t (length f.names) lists 0 there.first entry) = there.got in
    let first = first_state f start in
    let a = params_few f in
    let c = params_names f in
    let d = length-append (take (length f.params) start.regs) (replicate (length f.names - length f.params) 0) in
    let e = length-take (length f.params) start.regs in
    let g = length-replicate {A = ℕ} (length f.names - length f.params) 0 in
    let wide : length first.values ≡ length f.names = omega (arith, a, c, d, e, g, regs) in
    let taken : first_taken t (slice_get (linear_blocks t (length f.names) lists 0 0 f.blocks) 0) start ≡ values_at t start lists 0
    first.values =
    ap (λ (x : Option ExtBlock). first_taken t x start) got
    ∙ ap (λ (xs : List ℕ). xs ++ first_saved t start) (map_same_values (slice_index start.regs) (slice_index first.values) (live_at lists 0)
    value) in
    enter_sim f.blocks (length f.names) (small_names f) (stores_none f) (λ name b l. live_name_small f name b 0 l)
    (λ b block c at has. (leads_inside f b block c at has).1)
    t start lists live n 0 first (first_taken t (slice_get (linear_blocks t (length f.names) lists 0 0 f.blocks) 0) start) (entry_there f)
    wide taken
  where
    no_block : Block
    no_block = record { label = []; freq = 0; ops = []; term = Fall }

    value : (k : ℕ) (x : NameId) → k < length (live_at lists 0)
        → (let name = get_or (live_at lists 0) k x in slice_index start.regs name.0 ≡
        (let s = first_state f start in slice_index s.values name.0))
    value k x h =
        let name = get_or (live_at lists 0) k x in
        let l = (live.exact 0 name).0 (Contains-get_or (live_at lists 0) k x h) in
        let p = entry_param f name l in
        let a = params_few f in
        let e = length-take (length f.params) start.regs in
        let inside : name.0 < length (take (length f.params) start.regs) = omega (arith, p, a, e, regs) in
        sym (get_or_append_left (take (length f.params) start.regs) (replicate (length f.names - length f.params) 0) 0 name.0 inside
        ∙ get_or-take (length f.params) start.regs name.0 0 p)
