-- What a block of the plan costs, whatever its frequency.
use Rattle.std.proofs.Common.{◌≡◌, ℕ, ◌+◌, ◌-◌, ◌≤◌, Bool, true, false, List, [], ◌∷◌, ◌++◌, length, map, replicate, Some, None, Contains}
use Rattle.std.proofs.Common.{refl, sym, ap, subst, ◌∙◌, arith}
use Rattle.std.specs.Prelude.{◌||◌, slice_get, sum_by}
use Rattle.std.specs.List.{range_with_len}
use Rattle.std.proofs.lemmas.List.Elements.{Contains-append_right}
use Rattle.un_base.specs.declared.ids.NameId.{NameId}
use Rattle.un_base.specs.declared.ids.TempId.{TempId}
use Rattle.un_isa.specs.Fit.{IsFit}
use Rattle.un_isa.specs.Registers.{callee_saved, saved_registers}
use Rattle.un_isa.specs.declared.table.Table.{Table}
use Rattle.un_ir.specs.declared.function.Term.{Term}
use Rattle.un_ir.specs.declared.function.Term.TheVariants.{Fall, Jump, Branch, Ret}
use Rattle.un_ir.specs.declared.function.Block.{Block}
use Rattle.un_ir.specs.declared.extended.ExtOp.{ExtOp}
use Rattle.un_ir.specs.declared.extended.ExtBlock.{ExtBlock}
use Rattle.un_ir.specs.declared.extended.Ext.{Ext}
use Rattle.un_ir.specs.declared.extended.Growth.{Growth}
use Rattle.un_ir.specs.declared.extended.Value.{Value}
use Rattle.un_ir.specs.Extended.{temp, returns, IsExtended}
use Rattle.un_ir.specs.ExtendOf.{with_extended}
use Rattle.un_ir.specs.LinearOf.{body_ops, first_temps, current_after, past_all, in_op, end_ops, out_op, linear_block, live_at, live_after}
use Rattle.un_model.specs.declared.model.Options.{Options}
use Rattle.un_model.specs.Congruences.{term_of}
use Rattle.un_baseline.specs.declared.plan.Setting.{Setting}
use Rattle.un_baseline.specs.Plans.{BlockPlan}
use Rattle.un_baseline.specs.RoomyOptions.{AreRoomy}
use Rattle.un_baseline.specs.SpilledCost.{source_packets, end_packets, start_packets, block_packets}
use Rattle.un_baseline.specs.SpillEverywhere.{setting_of, first_cycle, first_progress, block_end, block_plan}
use Rattle.un_baseline.proofs.SpillSteps.{EachOp}
use Rattle.un_baseline.proofs.Terminators.{each_left, each_right}
use Rattle.un_baseline.proofs.Grown.{extended_ops, all_ops}
use Rattle.un_baseline.proofs.OutsIn.{ReadsFrom}
use Rattle.un_baseline.proofs.BlockIn.{Inside}
use Rattle.un_baseline.proofs.StartIn.{start_among, start_values}
use Rattle.un_baseline.proofs.AllIn.{made_block, whole, results_size, begins, is_saved, none_yet, first_count}
use Rattle.un_baseline.proofs.Reaching.{Reach}
use Rattle.un_baseline.proofs.StartsReach.{spills, start_named, start_reach}
use Rattle.un_baseline.proofs.BodiesReach.{Counted, AreSources, bodies_reach}
use Rattle.un_baseline.proofs.TermsKept.{all_term, lin_term}
use Rattle.un_baseline.proofs.TermsReach.{going_packets, ends_reach}

-- ---- sums

start_sum : (e : Ext) (entry : Bool) (block : ExtBlock) (s : Setting)
    → first_cycle e.table entry + spills e block s entry ≡ 1 + start_packets e.table entry block.live_in
start_sum e true block s = omega arith
start_sum e false block s = omega arith

end_sum : (t : Table) (term : Term) (start bodies fin : ℕ) → fin ≡ 1 + start + bodies + going_packets t term
    → block_end t term fin - 1 ≡ start + bodies + end_packets t term
end_sum t Fall start bodies fin is = omega arith
end_sum t (Jump to) start bodies fin is = omega arith
end_sum t (Branch pred sense to) start bodies fin is = omega arith
end_sum t (Ret None) start bodies fin is = omega arith
end_sum t (Ret (Some name)) start bodies fin is = omega arith

saved_first : (entry back : Bool) (n : ℕ) → (entry ≡ false → 1 ≤ n) → n ≡ 0 → (entry || back) ≡ true
saved_first true back n later none = refl
saved_first false back n later none = absurd (let le = later refl in omega arith)

-- ---- a block

module _ (e : Ext) (o : Options) (roomy : AreRoomy e o) (fit : IsFit e.table) (extended : IsExtended e) (b : ℕ) (entry : Bool) (count : ℕ)
    (lists : List (List NameId)) (bn n : ℕ) (blk : Block) (values : List Value) (next : ℕ) (size : length values ≡ n)
    (later : entry ≡ false → 1 ≤ n) where
  abbrev lin : ExtBlock
  lin = linear_block e.table count lists bn n blk

  abbrev block : ExtBlock
  block = made_block e o roomy fit extended b entry count lists bn n blk values next size

  abbrev s : Setting
  s = setting_of e entry block

  abbrev g0 : Growth
  g0 = record { ops = []; values = values; next = next }

  abbrev saved : Bool
  saved = entry || returns lin

  abbrev live_in : List NameId
  live_in = live_at lists bn

  abbrev c : ℕ
  c = length live_in + length (saved_registers e.table)

  abbrev kept : ℕ
  kept = n + length live_in

  abbrev first : ℕ
  first = kept + length (saved_registers e.table)

  abbrev link : ℕ
  link = kept + length (callee_saved e.table)

  abbrev current : List ℕ
  current = first_temps (replicate count 0) n live_in

  abbrev after : List ℕ
  after = current_after current first blk.ops

  abbrev out : ExtOp
  out = out_op e.table after kept (live_after lists count bn blk.term) blk.term

  abbrev ends : List ExtOp
  ends = end_ops after link blk.term

  abbrev rest : List ExtOp
  rest = body_ops e.table current first blk.ops ++ (ends ++ out ∷ [])

  abbrev g1 : Growth
  g1 = with_extended e.names live_in entry saved (in_op n c) g0

  abbrev results : List TempId
  results = map temp (range_with_len n c)

  abbrev tail : List ExtOp
  tail = all_ops e.names live_in entry saved rest g1

  whole_here : block.ops ≡ all_ops e.names live_in entry saved (in_op n c ∷ rest) g0
  whole_here = whole e o roomy fit extended b entry count lists bn n blk values next size

  size_here : length results ≡ c
  size_here = results_size e o roomy fit extended b entry count lists bn n blk values next size

  term_is : s.term ≡ blk.term
  term_is = ap term_of whole_here ∙ all_term e.names live_in entry saved (in_op n c ∷ rest) g0
      ∙ lin_term e.table current after first link blk.ops blk.term out refl

  -- where the plan has come to before the block's end
  abbrev bodies : ℕ
  bodies = sum_by (source_packets e.table) blk.ops

  abbrev fin : ℕ
  fin = first_cycle e.table entry + spills e block s entry + bodies + going_packets e.table blk.term

  module _ (at_b : slice_get e.blocks b ≡ Some block) (sources : AreSources e o roomy fit extended b entry block at_b saved n blk.ops)
      (reads : EachOp (λ (op : ExtOp). ReadsFrom e o entry block n op.operands) lin.ops) where
    abbrev Q : ExtOp → Type 0
    Q op = ReadsFrom e o entry block n op.operands

    there : Inside e o roomy fit extended b entry block at_b (extended_ops e.names live_in entry saved (in_op n c) g0 ++ tail)
    there x h = subst (λ (zs : List ExtOp). Contains zs x) (sym whole_here) h

    block_reach : Reach e block s (first_progress e entry) block.ops fin
    block_reach =
        let here = begins e o roomy fit extended b entry count lists bn n blk values next size in
        let copied = is_saved e o roomy fit extended b entry count lists bn n blk values next size in
        let among = start_among e o roomy fit extended b entry block at_b g0 saved results size_here here copied tail there in
        let counted : Counted e o roomy fit extended b entry block at_b saved n current first g1 = record {
          values = start_values e o roomy fit extended b entry block at_b g0 saved results size_here here copied n
              (none_yet e o roomy fit extended b entry count lists bn n blk values next size) among;
          names = start_named e.names live_in entry saved n count results g0 size (saved_first entry (returns lin) n later);
          size = first_count e o roomy fit extended b entry count lists bn n blk values next size;
        } in
        let bodies_read = each_left Q (body_ops e.table current first blk.ops) (ends ++ out ∷ []) reads.1 in
        let closing = each_right Q (body_ops e.table current first blk.ops) (ends ++ out ∷ []) reads.1 in
        let ends_read = each_left Q ends (out ∷ []) closing in
        subst (λ (ops : List ExtOp). Reach e block s (first_progress e entry) ops fin) (sym whole_here)
        (start_reach e entry block saved results g0 (first_progress e entry) tail fin size_here here copied
        (λ q at. bodies_reach e o roomy fit extended b entry block at_b saved n blk.ops current first g1 q
        (ends ++ out ∷ []) fin counted sources
        bodies_read (λ x h. there x (Contains-append_right (extended_ops e.names live_in entry saved (in_op n c) g0) tail x h))
        (λ h r known within came.
        let sum : r.cycle + going_packets e.table blk.term ≡ fin = omega arith in
        ends_reach e o roomy fit extended b entry block at_b saved n blk.term after
        (past_all first blk.ops) link out.operands h r known ends_read
        within ∙ sum)))

    pub block_takes : (let p : BlockPlan = block_plan e entry block in p.end - 1 ≡ block_packets e.table entry live_in blk)
    block_takes =
        let start = start_sum e entry block s in
        ap (λ (now : ℕ). block_end e.table s.term now - 1) block_reach
        ∙ ap (λ (term : Term). block_end e.table term fin - 1) term_is
        ∙ end_sum e.table blk.term (start_packets e.table entry live_in) bodies fin (omega arith)
