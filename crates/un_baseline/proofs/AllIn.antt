-- The values of the plan that spills every name of a function lie in their domains.
use Rattle.std.proofs.Common.{◌≡◌, ℕ, suc, ◌+◌, ◌-◌, ◌≤◌, Bool, true, false, List, [], ◌∷◌, ◌++◌, length, map, replicate, Option, Some}
use Rattle.std.proofs.Common.{None, All, Contains, refl, sym, ap, subst, ◌∙◌, arith}
use Rattle.std.specs.Prelude.{◌||◌, slice_get}
use Rattle.std.specs.List.{range_with_len}
use Rattle.std.proofs.lemmas.List.{length-append, length-map, length-replicate}
use Rattle.std.proofs.lemmas.List.Elements.{All-head, All-tail, Contains-append_right}
use Rattle.std.proofs.lemmas.List.FromFn.{length-map-range_with_len}
use Rattle.std.proofs.lemmas.Option.{slice_get_within}
use Rattle.un_base.specs.declared.ids.NameId.{NameId}
use Rattle.un_base.specs.declared.ids.TempId.{TempId}
use Rattle.un_isa.specs.Fit.{IsFit}
use Rattle.un_isa.specs.Registers.{callee_saved, saved_registers}
use Rattle.un_isa.specs.declared.reg.TheConstants.{LINK}
use Rattle.un_isa.specs.declared.table.Table.{Table}
use Rattle.un_ir.specs.declared.function.SrcOp.{SrcOp}
use Rattle.un_ir.specs.declared.function.Block.{Block}
use Rattle.un_ir.specs.declared.function.Function.{Function}
use Rattle.un_ir.specs.declared.extended.ExtKind.TheVariants.{In}
use Rattle.un_ir.specs.declared.extended.ExtOp.{ExtOp}
use Rattle.un_ir.specs.declared.extended.ExtBlock.{ExtBlock}
use Rattle.un_ir.specs.declared.extended.Ext.{Ext}
use Rattle.un_ir.specs.declared.extended.Growth.{Growth}
use Rattle.un_ir.specs.declared.extended.Value.{Value}
use Rattle.un_ir.specs.Extended.{temp, returns, IsGoodExtBlock, IsExtended, IsLinear}
use Rattle.un_ir.specs.ExtendOf.{sort_of_name, sorts_of, with_extended, grown_block, with_ops, extended_blocks, extend_of}
use Rattle.un_ir.specs.LinearOf.{body_ops, past_block, first_temps, current_after, in_op, end_ops, out_op, linear_block, linear_blocks}
use Rattle.un_ir.specs.LinearOf.{live_at, live_after, lin_of, kind_of_pair}
use Rattle.un_model.specs.declared.model.Options.{Options}
use Rattle.un_model.specs.Registers.{is_home}
use Rattle.un_model.specs.Congruences.{live_in_temps}
use Rattle.un_baseline.specs.declared.plan.Definer.TheVariants.{Assigns}
use Rattle.un_baseline.specs.RoomyOptions.{AreRoomy}
use Rattle.un_baseline.specs.SpillEverywhere.{assigning, setting_of, first_progress}
use Rattle.un_baseline.proofs.SpillSteps.{EachOp}
use Rattle.un_baseline.proofs.Terminators.{each_left, each_right}
use Rattle.un_baseline.proofs.Grown.{all_ops, extended_ops, all_add}
use Rattle.un_baseline.proofs.InDomains.{AreIn}
use Rattle.un_baseline.proofs.OutsIn.{ReadsFrom}
use Rattle.un_baseline.proofs.Shapes.{each_append}
use Rattle.un_baseline.proofs.ValuesOk.{ValuesOk}
use Rattle.un_baseline.proofs.WalkIn.{good_each}
use Rattle.un_baseline.proofs.BlockIn.{live, Walk, Inside, SourceOk}
use Rattle.un_baseline.proofs.StartIn.{saved_sort, Begins, start_among, start_values, link_begins, link_home, start_good}
use Rattle.un_baseline.proofs.CloseIn.{Known, AreSources, bodies_good, ends_good, out_good}
use Rattle.un_baseline.proofs.FunctionIn.{AssignsWell, assigns_well, op_count, bodies_count, ends_count, LowResults, row_low, bodies_low}
use Rattle.un_baseline.proofs.FunctionIn.{ends_low, reads_own}

-- ---- a block

module _ (e : Ext) (o : Options) (roomy : AreRoomy e o) (fit : IsFit e.table) (extended : IsExtended e) (b : ℕ) (entry : Bool) (count : ℕ)
    (lists : List (List NameId)) (bn n : ℕ) (blk : Block) (values : List Value) (next : ℕ) (size : length values ≡ n) where
  abbrev lin : ExtBlock
  lin = linear_block e.table count lists bn n blk

  abbrev grown : Growth
  grown = grown_block e.names entry values next lin

  abbrev pub made_block : ExtBlock
  made_block = with_ops lin grown.ops

  abbrev g0 : Growth
  g0 = record { ops = []; values = values; next = next }

  abbrev saved : Bool
  saved = entry || returns lin

  abbrev live_in : List NameId
  live_in = live_at lists bn

  abbrev c : ℕ
  c = length live_in + length (saved_registers e.table)

  abbrev kept : ℕ
  kept = n + length live_in

  abbrev first : ℕ
  first = kept + length (saved_registers e.table)

  abbrev link : ℕ
  link = kept + length (callee_saved e.table)

  abbrev current : List ℕ
  current = first_temps (replicate count 0) n live_in

  abbrev after : List ℕ
  after = current_after current first blk.ops

  abbrev out : ExtOp
  out = out_op e.table after kept (live_after lists count bn blk.term) blk.term

  abbrev ends : List ExtOp
  ends = end_ops after link blk.term

  abbrev rest : List ExtOp
  rest = body_ops e.table current first blk.ops ++ (ends ++ out ∷ [])

  abbrev g1 : Growth
  g1 = with_extended e.names live_in entry saved (in_op n c) g0

  abbrev results : List TempId
  results = map temp (range_with_len n c)

  abbrev home : ℕ
  home = next + (length live_in + length (callee_saved e.table))

  pub whole : grown.ops ≡ all_ops e.names live_in entry saved (in_op n c ∷ rest) g0
  whole = all_add e.names live_in entry saved (in_op n c ∷ rest) g0

  pub results_size : length results ≡ length live_in + length (saved_registers e.table)
  results_size = length-map-range_with_len temp n c

  pub begins : live_in_temps grown.ops ≡ map temp (range_with_len next (length results))
  begins = ap live_in_temps whole

  pub is_saved : entry ≡ true → saved ≡ true
  is_saved h = ap (λ (v : Bool). v || returns lin) h

  pub none_yet : ValuesOk e made_block (setting_of e entry made_block).placed n g0
  none_yet = record { at = λ i v le at. absurd (let lt = slice_get_within values i v at in omega arith) }

  pub low_results : EachOp (LowResults n) lin.ops
  low_results = (
    (λ m y at. row_low n c m y at),
    each_append (LowResults n) (body_ops e.table current first blk.ops) (ends ++ out ∷ []) (bodies_low e.table n blk.ops current first
        (omega arith))
        (each_append (LowResults n) ends (out ∷ []) (ends_low n blk.term after link) ((λ m y at. absurd (cc at)), tt)),
  )

  pub first_count : length g1.values ≡ first
  first_count =
      let here = op_count e.names live_in entry saved (in_op n c) g0 in
      let sorts = sorts_size in
      omega arith
    where
      sorts_size : length (sorts_of e.names live_in saved In (length results)) ≡ c
      sorts_size =
          let a = length-append (map (sort_of_name e.names) live_in) (replicate (length results - length live_in) (saved_sort saved)) in
          let d = length-map live_in (sort_of_name e.names) in
          let f = length-replicate (length results - length live_in) (saved_sort saved) in
          let g = results_size in
          omega arith

  pub past_count : length grown.values ≡ past_block e.table lists bn n blk
  past_count =
      bodies_count e.names live_in entry saved e.table blk.ops current first (ends ++ out ∷ []) g1 first first_count
      (λ h long. ends_count e.names live_in entry saved blk.term after link out h refl ∙ long)

  module _ (at_b : slice_get e.blocks b ≡ Some made_block) (sources : (below : n ≤ link) (is_link : is_home e.table entry made_block
      (temp home) LINK ≡ true)
      → AreSources e o roomy fit extended b entry made_block at_b saved n link home below is_link blk.ops)
      (reads : EachOp (λ (op : ExtOp). ReadsFrom e o entry made_block n op.operands) lin.ops) where
    abbrev tail : List ExtOp
    tail = all_ops e.names live_in entry saved rest g1

    inside : Inside e o roomy fit extended b entry made_block at_b (extended_ops e.names live_in entry saved (in_op n c) g0 ++ tail)
    inside x h = subst (λ (zs : List ExtOp). Contains zs x) (sym whole) h

    pub block_walks : Walk e o roomy fit extended b entry made_block at_b (first_progress e entry) made_block.ops
    block_walks =
        let among = start_among e o roomy fit extended b entry made_block at_b g0 saved results results_size begins is_saved tail inside in
        let is_link = link_home e o roomy fit extended b entry made_block at_b g0 saved results results_size begins is_saved among in
        let place : length values + (length live_in + length (callee_saved e.table)) ≡ link = omega arith in
        let known : Known e o roomy fit extended b entry made_block at_b saved n link home (omega arith) is_link g1 = record {
          values = start_values e o roomy fit extended b entry made_block at_b g0 saved results results_size begins is_saved n none_yet
              among;
          begins = subst (λ (k : ℕ). Begins k home g1) place (link_begins e o roomy fit extended b entry made_block at_b g0 saved results
              results_size
              begins is_saved);
        } in
        let bodies = each_left (λ (op : ExtOp). ReadsFrom e o entry made_block n op.operands) (body_ops e.table current first blk.ops)
        (ends ++ out ∷ [])
        reads.1 in
        let closing = each_right (λ (op : ExtOp). ReadsFrom e o entry made_block n op.operands) (body_ops e.table current first blk.ops)
        (ends ++ out ∷ [])
        reads.1 in
        let endings = each_left (λ (op : ExtOp). ReadsFrom e o entry made_block n op.operands) ends (out ∷ []) closing in
        let outs = each_right (λ (op : ExtOp). ReadsFrom e o entry made_block n op.operands) ends (out ∷ []) closing in
        let later : Inside e o roomy fit extended b entry made_block at_b tail = λ x h. inside x (Contains-append_right (extended_ops
        e.names live_in
        entry saved (in_op n c) g0) tail x h) in
        subst (Walk e o roomy fit extended b entry made_block at_b (first_progress e entry)) (sym whole)
        (start_good e o roomy fit extended b entry made_block at_b g0 saved results results_size begins is_saved tail (first_progress e
        entry) inside
        (λ r z. bodies_good e o roomy fit extended b entry made_block at_b saved n link home (omega arith) is_link e.table blk.ops
        current first g1 r
        (ends ++ out ∷ []) (sources (omega arith) is_link) bodies known z later
        (λ h q k z' within. ends_good e o roomy fit extended b entry made_block at_b saved n link home (omega arith) is_link blk.term
        after h q (out ∷ []) k
        endings z' within
        (λ h' q' k' z'' within'. out_good e o roomy fit extended b entry made_block at_b saved n link home (omega arith) is_link
        out.operands h' q' k'
        outs.0 z'' within'))))

-- ---- all blocks

assigning_is : (dst : Option NameId) (name : NameId) → assigning dst ≡ Assigns name → dst ≡ Some name
assigning_is None name h = absurd (cc h)
assigning_is (Some other) name h = let e : other ≡ name = cc h in ap (λ (x : NameId). Some x) e

abbrev pub AreWell : Function → List SrcOp → Type 0
AreWell f [] = Unit {0}
AreWell f (src ∷ srcs) = AssignsWell f src × AreWell f srcs

abbrev pub AllWell : Function → List Block → Type 0
AllWell f [] = Unit {0}
AllWell f (block ∷ blocks) = AreWell f block.ops × AllWell f blocks

are_well : (f : Function) (srcs : List SrcOp) → ((k : ℕ) (src : SrcOp) → slice_get srcs k ≡ Some src → AssignsWell f src) → AreWell f srcs
are_well f [] h = tt
are_well f (src ∷ srcs) h = (h 0 src refl, are_well f srcs (λ k x at. h (suc k) x at))

pub all_well : (f : Function) (blocks : List Block) → ((b k : ℕ) (block : Block) (src : SrcOp) → slice_get blocks b ≡ Some block
    → slice_get block.ops k ≡ Some src → AssignsWell f src) → AllWell f blocks
all_well f [] h = tt
all_well f (block ∷ blocks) h = (
  are_well f block.ops (λ k src at. h 0 k block src refl at),
  all_well f blocks (λ b k c src at here. h (suc b) k c src at here),
)

module _ (f : Function) (lists : List (List NameId)) (t : Table) (o : Options) (fit : IsFit t) where
  abbrev e : Ext
  e = extend_of (lin_of f lists t)

  abbrev count : ℕ
  count = length f.names

  abbrev linear : List ExtBlock
  linear = linear_blocks t count lists 0 0 f.blocks

  module _ (roomy : AreRoomy e o) (extended : IsExtended e) where
    pub source_ok : (b : ℕ) (entry : Bool) (block : ExtBlock) (at_b : slice_get e.blocks b ≡ Some block) (src : SrcOp) → AssignsWell f src
        → SourceOk e o roomy fit extended b entry block at_b src
    source_ok b entry block at_b src h = record {
      named = record {
        named = λ name is. let lt = h.within name (assigning_is src.dst name is) in let size = length-map f.names kind_of_pair in omega
            arith;
      };
      kind = λ name is. h.kind name (assigning_is src.dst name is);
    }

    sources_ok : (b : ℕ) (entry : Bool) (block : ExtBlock) (at_b : slice_get e.blocks b ≡ Some block) (saved : Bool) (from link home : ℕ)
        (below : from ≤ link) (is_link : is_home e.table entry block (temp home) LINK ≡ true) (srcs : List SrcOp) → AreWell f srcs
        → AreSources e o roomy fit extended b entry block at_b saved from link home below is_link srcs
    sources_ok b entry block at_b saved from link home below is_link [] h = tt
    sources_ok b entry block at_b saved from link home below is_link (src ∷ srcs) h =
        (source_ok b entry block at_b src h.0, sources_ok b entry block at_b saved from link home below is_link srcs h.1)

    blocks_in : (entry : Bool) (d bn n : ℕ) (values : List Value) (next : ℕ) (blks : List Block) → length values ≡ n → AllWell f blks
        → All (IsGoodExtBlock t e.names linear) (linear_blocks t count lists bn n blks)
        → ((k : ℕ) (x : ExtBlock) → slice_get (extended_blocks e.names entry values next (linear_blocks t count lists bn n blks)) k ≡ Some x
        → slice_get e.blocks (d + k) ≡ Some x)
        → AreIn e o entry (extended_blocks e.names entry values next (linear_blocks t count lists bn n blks))
    blocks_in entry d bn n values next [] size well good at = tt
    blocks_in entry d bn n values next (blk ∷ blks) size well good at =
        let lin = linear_block t count lists bn n blk in
        let g = grown_block e.names entry values next lin in
        let block = with_ops lin g.ops in
        let more = linear_blocks t count lists (bn + 1) (past_block t lists bn n blk) blks in
        let z : d + 0 ≡ d = omega arith in
        let at_b : slice_get e.blocks d ≡ Some block = ap (slice_get e.blocks) (sym z) ∙ at 0 block refl in
        let low = low_results e o roomy fit extended d entry count lists bn n blk values next size in
        let reads = reads_own t e.names linear lin (All-head (IsGoodExtBlock t e.names linear) lin more good) n low e o entry block in
        let walk = block_walks e o roomy fit extended d entry count lists bn n blk values next size at_b
        (λ below is_link. sources_ok d entry block at_b (entry || returns lin) n (n + length (live_at lists bn) + length (callee_saved t))
        (next + (length (live_at lists bn) + length (callee_saved t))) below is_link blk.ops well.0) reads in (
          good_each e o roomy entry block (live e o roomy fit extended d entry block at_b) 0 (first_progress e entry) block.ops walk,
          blocks_in false (d + 1) (bn + 1) (past_block t lists bn n blk) g.values g.next blks
              (past_count e o roomy fit extended d entry count lists bn n blk values next size) well.1
              (All-tail (IsGoodExtBlock t e.names linear) lin more good)
              (λ k x there. let q : d + suc k ≡ d + 1 + k = omega arith in ap (slice_get e.blocks) (sym q) ∙ at (suc k) x there),
        )

    pub function_in : IsLinear (lin_of f lists t) → AreIn e o true e.blocks
    function_in is_linear =
        blocks_in true 0 0 0 [] 0 f.blocks refl (all_well f f.blocks (λ b k block src at here. assigns_well f b k block src at here))
        is_linear.good.each (λ k x at. let z : k ≡ 0 + k = omega arith in ap (slice_get e.blocks) (sym z) ∙ at)
