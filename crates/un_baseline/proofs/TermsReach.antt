-- How many cycles the terminator and the end of a block take.
use Rattle.std.proofs.Common.{◌≡◌, ℕ, zero, suc, ◌+◌, Bool, List, [], ◌∷◌, ◌++◌, take, Some, None, Contains, refl, sym, ap}
use Rattle.std.proofs.Common.{subst, ◌∙◌, arith}
use Rattle.std.specs.Prelude.{slice_get, slice_index, sum_by}
use Rattle.std.proofs.lemmas.List.Sums.{sum_by-cons}
use Rattle.std.proofs.lemmas.List.Elements.{Contains-append_right}
use Rattle.un_base.specs.declared.ids.BlockId.{BlockId}
use Rattle.un_base.specs.declared.ids.NameId.{NameId}
use Rattle.un_isa.specs.Fit.{IsFit}
use Rattle.un_isa.specs.Tables.{latency_of}
use Rattle.un_isa.specs.declared.op.Op.TheVariants.{Jump as JumpOp}
use Rattle.un_isa.specs.declared.table.Table.{Table}
use Rattle.un_ir.specs.declared.function.Kind.TheVariants.{Pred}
use Rattle.un_ir.specs.declared.function.Term.{Term}
use Rattle.un_ir.specs.declared.function.Term.TheVariants.{Fall, Jump, Branch, Ret}
use Rattle.un_ir.specs.declared.extended.ExtKind.TheVariants.{Out, End, Leave}
use Rattle.un_ir.specs.declared.extended.Operand.{Operand}
use Rattle.un_ir.specs.declared.extended.ExtOp.{ExtOp}
use Rattle.un_ir.specs.declared.extended.ExtBlock.{ExtBlock}
use Rattle.un_ir.specs.declared.extended.Ext.{Ext}
use Rattle.un_ir.specs.declared.extended.Growth.{Growth}
use Rattle.un_ir.specs.Extended.{results_of, anywhere, IsExtended}
use Rattle.un_ir.specs.Linear.{first_of}
use Rattle.un_ir.specs.LinearOf.{reads as reads_of, name_operand, end_ops}
use Rattle.un_ir.specs.ExtendOf.{frame_op, with_op, new_operands, with_extended}
use Rattle.un_model.specs.declared.model.Options.{Options}
use Rattle.un_model.specs.Instructions.{transfer_of, latency_by}
use Rattle.un_baseline.specs.declared.plan.Setting.{Setting}
use Rattle.un_baseline.specs.declared.plan.Progress.{Progress}
use Rattle.un_baseline.specs.RoomyOptions.{AreRoomy}
use Rattle.un_baseline.specs.SpilledCost.{operand_packets}
use Rattle.un_baseline.specs.SpillEverywhere.{purpose_at, progress_of, setting_of}
use Rattle.un_baseline.proofs.Grown.{operands_ops, all_ops}
use Rattle.un_baseline.proofs.SpillSteps.{EachOp}
use Rattle.un_baseline.proofs.Shapes.{each_append}
use Rattle.un_baseline.proofs.BlockTimes.{TailOp, tail_stays}
use Rattle.un_baseline.proofs.OutsIn.{ReadsFrom}
use Rattle.un_baseline.proofs.BlockIn.{good_block, place_of, Inside}
use Rattle.un_baseline.proofs.CloseIn.{end_whole}
use Rattle.un_baseline.proofs.Reaching.{Reach, operands_reach}
use Rattle.un_baseline.proofs.CopiedNames.{CopiedAt, operands_copied}
use Rattle.un_baseline.proofs.BodiesReach.{Counted}
use Rattle.un_baseline.proofs.EndsReach.{operands_tail, out_tail, out_reach}

-- the cycles of a terminator that issues where the plan has come to; a return issues behind it
abbrev pub going_packets : Table → Term → ℕ
going_packets t Fall = 0
going_packets t (Jump to) = latency_of t JumpOp
going_packets t (Branch pred sense to) = operand_packets t Pred + latency_by t (transfer_of (Branch pred sense to))
going_packets t (Ret value) = 0

branch_sum : (t : Table) (pred : NameId) (sense : Bool) (to : BlockId) (q p r sum : ℕ) → q ≡ p + sum → sum ≡ operand_packets t Pred + 0
    → r ≡ q + latency_by t (transfer_of (Branch pred sense to)) → r ≡ p + going_packets t (Branch pred sense to)
branch_sum t pred sense to q p r sum a b c = omega arith

module _ (e : Ext) (o : Options) (roomy : AreRoomy e o) (fit : IsFit e.table) (extended : IsExtended e) (b : ℕ) (entry : Bool)
    (block : ExtBlock)
    (at_b : slice_get e.blocks b ≡ Some block) (saved : Bool) (from : ℕ) where
  abbrev s : Setting
  s = setting_of e entry block

  abbrev all : List ExtOp → Growth → List ExtOp
  all ops g = all_ops e.names block.live_in entry saved ops g

  abbrev out_of : List Operand → ExtOp
  out_of ys = record { kind = Out; operands = ys; results = [] }

  pub ends_reach : (term : Term) (current : List ℕ) (first link : ℕ) (ys : List Operand) (g : Growth) (p : Progress)
      → Counted e o roomy fit extended b entry block at_b saved from current first g
      → EachOp (λ (op : ExtOp). ReadsFrom e o entry block from op.operands) (end_ops current link term)
      → Inside e o roomy fit extended b entry block at_b (all (end_ops current link term ++ out_of ys ∷ []) g)
      → Reach e block s p (all (end_ops current link term ++ out_of ys ∷ []) g) (p.cycle + going_packets e.table term)
  ends_reach Fall current first link ys g p counted reads inside =
      let z : p.cycle ≡ p.cycle + 0 = omega arith in
      out_reach e block s entry saved ys g p ∙ z
  ends_reach (Jump to) current first link ys g p counted reads inside =
      let made : ExtOp = record { kind = End (Jump to); operands = []; results = [] } in
      let next = with_extended e.names block.live_in entry saved made g in
      let tail = all (out_of ys ∷ []) next in
      let q = progress_of e block s p (purpose_at s.term (made ∷ tail)) made (End (Jump to)) in
      subst (λ (ops : List ExtOp). Reach e block s p ops (p.cycle + latency_of e.table JumpOp))
      (sym (end_whole entry (Jump to) [] [] tail made))
      (out_reach e block s entry saved ys next q)
  ends_reach (Branch pred sense to) current first link ys g p counted reads inside =
      let xs = name_operand current None pred ∷ [] in
      let op : ExtOp = record { kind = End (Branch pred sense to); operands = xs; results = [] } in
      let made : ExtOp = record { kind = End (Branch pred sense to); operands = new_operands xs g; results = [] } in
      let next = with_extended e.names block.live_in entry saved op g in
      let tail = all (out_of ys ∷ []) next in
      let us = operands_ops xs g in
      let whole = end_whole entry (Branch pred sense to) [] us tail made in
      let among : Contains block.ops made = inside made (subst (λ (zs : List ExtOp). Contains zs made) (sym whole)
      (Contains-append_right us (made ∷ tail) made (0, omega arith, refl))) in
      let zip = ((good_block e o roomy fit extended b entry block at_b).ops among.0 made
      (place_of e o roomy fit extended b entry block at_b made among)).operands in
      let copied = operands_copied e o entry block (results_of (take among.0 block.ops)) from xs (anywhere Pred ∷ []) g
      counted.values reads.0 (λ j x at. subst (CopiedAt from g) (sym (first_is j x at)) (counted.names.at pred.0)) zip in
      let fin = p.cycle + going_packets e.table (Branch pred sense to) in
      subst (λ (ops : List ExtOp). Reach e block s p ops fin) (sym whole)
      (operands_reach e block s xs (Pred ∷ []) g p (made ∷ tail) fin copied refl (λ q at.
      let r = progress_of e block s q (purpose_at s.term (made ∷ tail)) made (End (Branch pred sense to)) in
      out_reach e block s entry saved ys next r
      ∙ branch_sum e.table pred sense to q.cycle p.cycle r.cycle (sum_by (operand_packets e.table) (Pred ∷ [])) at
      (sum_by-cons (operand_packets e.table) Pred []) refl))
    where
      first_is : (j : ℕ) (x : Operand) → slice_get (name_operand current None pred ∷ []) j ≡ Some x
          → first_of x.alts ≡ slice_index current pred.0
      first_is zero x at = let y : name_operand current None pred ≡ x = cc at in ap (λ (z : Operand). first_of z.alts) (sym y)
      first_is (suc j) x at = absurd (cc at)
  ends_reach (Ret value) current first link ys g p counted reads inside =
      let xs : List Operand = reads_of link None ∷ [] in
      let op : ExtOp = record { kind = End (Ret value); operands = xs; results = [] } in
      let before = with_op g (frame_op Leave) in
      let made : ExtOp = record { kind = End (Ret value); operands = new_operands xs before; results = [] } in
      let next = with_extended e.names block.live_in entry saved op g in
      let tail = all (out_of ys ∷ []) next in
      let us = operands_ops xs before in
      let z : p.cycle ≡ p.cycle + 0 = omega arith in
      subst (λ (ops : List ExtOp). Reach e block s p ops (p.cycle + 0))
      (sym (end_whole entry (Ret value) (frame_op Leave ∷ []) us tail made))
      (tail_stays e block s 0 0 p (frame_op Leave ∷ (us ++ (made ∷ tail)))
      (tt, each_append TailOp us (made ∷ tail) (operands_tail xs before) (tt, out_tail e block s entry saved ys next)) ∙ z)
