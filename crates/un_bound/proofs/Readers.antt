-- In each timing of a model's blocks a reader waits for the definer of what it reads.
use Rattle.std.proofs.Common.{◌≡◌, ℕ, zero, suc, ◌+◌, ◌-◌, ◌≤◌, Bool, true, false, ◌||◌, inl, inr, List, [], ◌∷◌, length, map}
use Rattle.std.proofs.Common.{max, refl, sym, ap, ◌∙◌}
use Rattle.std.proofs.Common.{subst, arith, All, Contains}
use Rattle.std.specs.Prelude.{Option, Some, None, slice_get, slice_index, ◌==◌}
use Rattle.std.specs.List.{list_any}
use Rattle.std.specs.Option.{option_map, option_map_or}
use Rattle.std.proofs.lemmas.Option.{slice_get_within, get_or_from_slice_get}
use Rattle.un_base.specs.declared.ids.TempId.{TempId}
use Rattle.un_isa.specs.declared.table.Table.{Table}
use Rattle.un_ir.specs.declared.extended.Operand.{Operand}
use Rattle.un_ir.specs.declared.extended.ExtOp.{ExtOp}
use Rattle.un_ir.specs.declared.extended.ExtBlock.{ExtBlock}
use Rattle.un_ir.specs.declared.extended.Ext.{Ext}
use Rattle.un_ir.specs.Extended.{IsExtended, IsGoodExtBlock, temp}
use Rattle.un_ir.specs.Extended.{carried}
use Rattle.un_ir.specs.Linear.{first_of}
use Rattle.un_model.specs.declared.model.Arc.{Arc}
use Rattle.un_model.specs.declared.model.Model.{Model}
use Rattle.un_model.specs.declared.model.TempVars.{TempVars}
use Rattle.un_model.specs.Arcs.{own_instr, value_read, defines, reads_from, memory_gap, larger, largest_gap, arc, IsArcOf}
use Rattle.un_model.specs.Arcs.{first_number, block_arcs, blocks_arcs}
use Rattle.un_model.specs.ArcLaws.{arc_known, gap_told}
use Rattle.un_model.specs.Solutions.{latency_gap}
use Rattle.un_model.specs.Variables.{IsModel, blocks_temps, var_at, ops_count, block_count}
use Rattle.un_lists.proofs.Lists.{Member, each_all, each_member, member_append_left, member_append_right, member_at, member_map}
use Rattle.un_lists.proofs.Lists.{place_of, slice_get-map}
use Rattle.un_model.proofs.Operations.{contains_member, placed_get}
use Rattle.un_model.proofs.Placed.{Placed, Region, region_placed, block_placed, blocks_placed, Spot, spot, spots_of, all_spots, temp_vars}
use Rattle.un_model.proofs.Placed.{temps_are}
use Rattle.un_model.proofs.PlacedSchedules.{member_joined, member_places, spot_here}
use Rattle.un_model.proofs.Readings.{zip_get}
use Rattle.un_bound.specs.Readers.{AllReadersWait}
use Rattle.un_bound.specs.Timings.{IsKept}

-- ---- lists

any_member : {X : Type 0} (t : X → Bool) (xs : List X) (x : X) → Member x xs → t x ≡ true → list_any t xs ≡ true
any_member t [] x m h = elim m [ ]
any_member t (y ∷ ys) x (inl e) h = let q : t y ≡ true = ap t e ∙ h in rw q refl
any_member t (y ∷ ys) x (inr m) h = by (t y) (any_member t ys x m h)
  where
    by : (v : Bool) → list_any t ys ≡ true → (v || list_any t ys) ≡ true
    by true k = refl
    by false k = k

of_member : {X : Type 0} (P : X → Type 0) (xs : List X) (x : X) → All P xs → Contains xs x → P x
of_member P xs x all c = each_member P xs x (each_all P xs all) (contains_member xs x c)

-- ---- the operations of a block among those of all blocks

record InAll (b n first : ℕ) (blocks : List ExtBlock) (k : ℕ) (block : ExtBlock) : Type 0 where
  region : Region
  number : region.number ≡ n + first_number blocks k
  owner : region.owner ≡ block
  into : (p : Placed) → Member p (region_placed region) → Member p (blocks_placed b n first blocks)

in_all : (b n first : ℕ) (blocks : List ExtBlock) (k : ℕ) (block : ExtBlock) → slice_get blocks k ≡ Some block
    → InAll b n first blocks k block
in_all b n first [] k block h = absurd (cc h)
in_all b n first (c ∷ cs) zero block h =
    let rest = blocks_placed (b + 1) (n + length c.ops) (first + block_count c) cs in
    record {
      region = record { block = b; number = n; first = first; owner = c };
      number = omega arith;
      owner = (let e : c ≡ block = cc h in e);
      into = λ p m. member_append_left (block_placed b n first c) rest p m;
    }
in_all b n first (c ∷ cs) (suc k) block h =
    let rest = blocks_placed (b + 1) (n + length c.ops) (first + block_count c) cs in
    let w = in_all (b + 1) (n + length c.ops) (first + block_count c) cs k block h in
    record {
      region = w.region;
      number = (let q = w.number in omega (arith, q));
      owner = w.owner;
      into = λ p m. member_append_right (block_placed b n first c) rest p (w.into p m);
    }

-- the list of the arcs of a block
arcs_at_block : (t : Table) (temps : List TempVars) (n : ℕ) (blocks : List ExtBlock) (k : ℕ) (block : ExtBlock)
    → slice_get blocks k ≡ Some block
    → slice_get (blocks_arcs t temps n blocks) k ≡ Some (block_arcs t temps (n + first_number blocks k) block.ops)
arcs_at_block t temps n [] k block h = absurd (cc h)
arcs_at_block t temps n (c ∷ cs) zero block h =
    let e : c ≡ block = cc h in
    let z : n ≡ n + 0 = omega arith in
    ap (λ (x : ExtBlock). Some (block_arcs t temps n x.ops)) e ∙ ap (λ (i : ℕ). Some (block_arcs t temps i block.ops)) z
arcs_at_block t temps n (c ∷ cs) (suc k) block h =
    let z : (n + length c.ops) + first_number cs k ≡ n + (length c.ops + first_number cs k) = omega arith in
    arcs_at_block t temps (n + length c.ops) cs k block h ∙ ap (λ (i : ℕ). Some (block_arcs t temps i block.ops)) z

first_value : (x : Operand) → temp (first_of x.alts) ≡ value_read x
first_value x = by x.alts refl
  where
    by : (alts : List TempId) → x.alts ≡ alts → temp (first_of x.alts) ≡ value_read x
    by [] e = rw e refl
    by (y ∷ ys) e = rw e refl

-- ---- a definer and a reader

with_memory : (a : ℕ) (b : Option ℕ) → (g : ℕ) × (larger (Some a) b ≡ Some g) × (a ≤ g)
with_memory a None = (a, refl, omega arith)
with_memory a (Some c) = (max a c, refl, omega arith)

module _ (m : Model) (own : IsModel m) (kept : IsExtended m.ext) where
  abbrev e : Ext
  e = m.ext

  temps_own : m.temps ≡ blocks_temps 0 0 m.ext.blocks
  temps_own = ap (λ (x : Model). x.temps) own

  abbrev spots : List Spot
  spots = all_spots (blocks_placed 0 0 0 m.ext.blocks)

  spot_vars : (s : Spot) → Member s spots → slice_get m.temps s.temp.0 ≡ Some (temp_vars s)
  spot_vars s here =
      let good = kept.good in
      ap (λ (ts : List TempVars). slice_get ts s.temp.0) (temps_own ∙ temps_are 0 0 0 m.ext.blocks)
      ∙ slice_get-map temp_vars spots s.temp.0 ∙ ap (option_map temp_vars) (spot_here m.ext m.options [] good.numbered s here)

  spot_defines : (s : Spot) (n : ℕ) → Member s spots → s.definer.number ≡ n → defines m.temps n s.temp ≡ true
  spot_defines s n here number =
      let same : (s.definer.number == n) ≡ true = grind (arith, number) in
      ap (λ (o : Option TempVars). option_map_or (λ (t : TempVars). t.op.0 == n) o false) (spot_vars s here) ∙ same

  -- the model knows which operation gives a result
  defined : (b i : ℕ) (block : ExtBlock) (definer : ExtOp) (v : TempId) → slice_get m.ext.blocks b ≡ Some block
      → slice_get block.ops i ≡ Some definer → Contains definer.results v
      → defines m.temps (first_number m.ext.blocks b + i) v ≡ true
  defined b i block definer v at at_i given =
      let w = in_all 0 0 0 m.ext.blocks b block at in
      let r = w.region in
      let close = var_at (r.first + ops_count r.owner.ops) in
      let there : slice_get r.owner.ops i ≡ Some definer = ap (λ (x : ExtBlock). slice_get x.ops i) w.owner ∙ at_i in
      let q = placed_get r.block r.owner close r.number r.first i r.owner.ops definer there in
      let p = q.0 in
      let in_ops = w.into p (member_at (region_placed r) i p q.1) in
      let has = subst (λ (x : ExtOp). Contains x.results v) (sym q.2) given in
      let place = place_of p.op.results v (contains_member p.op.results v has) in
      let s = spot p place.0 v in
      let all = blocks_placed 0 0 0 m.ext.blocks in
      let here : Member s spots = member_joined (map spots_of all) (spots_of p) s (member_map spots_of all p in_ops)
      (member_places (spot p) p.op.results 0 place.0 place.0 v (omega arith) place.2) in
      spot_defines s (first_number m.ext.blocks b + i) here (let x = q.3 in let y = w.number in omega (arith, x, y))

  -- all that an operand may choose carries the value that it reads
  value : (b j : ℕ) (block : ExtBlock) (reader : ExtOp) (x : Operand) (y : TempId) → slice_get m.ext.blocks b ≡ Some block
      → slice_get block.ops j ≡ Some reader → Contains reader.operands x → Contains x.alts y → carried m.ext.blocks y ≡ value_read x
  value b j block reader x y at at_j has may =
      let good = kept.good in
      let g : IsGoodExtBlock m.ext.table m.ext.names m.ext.blocks block =
      subst (IsGoodExtBlock m.ext.table m.ext.names m.ext.blocks) (get_or_from_slice_get m.ext.blocks b block block at)
      (good.each b block (slice_get_within m.ext.blocks b block at)) in
      let o = g.ops j reader at_j in
      let place = place_of reader.operands x (contains_member reader.operands x has) in
      let z = zip_get _ reader.operands _ place.0 x o.operands place.2 in
      let ok = z.2 in
      of_member (λ (t : TempId). carried m.ext.blocks t ≡ temp (first_of x.alts)) x.alts y ok.one_value may ∙ first_value x

  pub readers_wait : AllReadersWait m
  readers_wait b block arcs end cycles at at_arcs timing i j definer reader lt at_i at_j first second reads =
      let n = first_number m.ext.blocks b in
      let x = reads.operand in
      let is = value b j block reader x reads.choice at at_j reads.reads reads.may in
      let here : defines m.temps (n + i) (value_read x) ≡ true =
      defined b i block definer (value_read x) at at_i (subst (Contains definer.results) is reads.given) in
      let any : reads_from m.temps (n + i) reader ≡ true =
      any_member (λ (z : Operand). defines m.temps (n + i) (value_read z)) reader.operands x
      (contains_member reader.operands x reads.reads) here in
      let t = m.ext.table in
      let w = with_memory (latency_gap t (own_instr definer) (own_instr reader)) (memory_gap definer reader) in
      let g = w.0 in
      let largest : largest_gap t (reads_from m.temps (n + i) reader) definer reader ≡ Some g = rw (any, first, second) w.1 in
      let told = gap_told t (reads_from m.temps (n + i) reader) definer reader g largest in
      let a = arc (n + i) (n + j) g in
      let known : IsArcOf t m.temps n block.ops a = record {
        earlier = i;
        later = j;
        from = definer;
        to = reader;
        order = lt;
        from_at = at_i;
        to_at = at_j;
        numbers = (refl, refl);
        mandatory = (first, second);
        gap = told.1;
      } in
      let arcs_are : slice_get m.arcs b ≡ slice_get (blocks_arcs t (blocks_temps 0 0 m.ext.blocks) 0 m.ext.blocks) b =
      ap (λ (x : Model). slice_get x.arcs b) own in
      let temps_are_own = ap (λ (ts : List TempVars). slice_get (blocks_arcs t ts 0 m.ext.blocks) b) (sym temps_own) in
      let both : Some arcs ≡ Some (block_arcs t m.temps (0 + n) block.ops) =
      sym at_arcs ∙ arcs_are ∙ temps_are_own ∙ arcs_at_block t m.temps 0 m.ext.blocks b block at in
      let z : 0 + n ≡ n = omega arith in
      let list_is : arcs ≡ block_arcs t m.temps n block.ops =
      (let same : arcs ≡ block_arcs t m.temps (0 + n) block.ops = cc both in same)
      ∙ ap (λ (k : ℕ). block_arcs t m.temps k block.ops) z in
      let has = subst (λ (xs : List Arc). Contains xs a) (sym list_is) (arc_known t m.temps n block.ops a known) in
      let kept_arc = of_member (IsKept n cycles) arcs a timing.kept has in
      let p : (n + i) - n ≡ i = omega arith in
      let q : (n + j) - n ≡ j = omega arith in
      let long = w.2 in
      let from_is = ap (slice_index cycles) p in
      let to_is = ap (slice_index cycles) q in
      omega (arith, kept_arc, long, from_is, to_is)
