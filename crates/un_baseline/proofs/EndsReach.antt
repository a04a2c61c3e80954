-- How many cycles the end of a block takes: a branch reloads its truth value, and what is handed over stays where it is.
use Rattle.std.proofs.Common.{ℕ, Bool, true, false, List, [], ◌∷◌, ◌++◌, Option, Some, None, sym, subst}
use Rattle.std.specs.Prelude.{slice_get}
use Rattle.un_base.specs.declared.ids.TempId.{TempId}
use Rattle.un_ir.specs.declared.function.Kind.{Kind}
use Rattle.un_ir.specs.declared.function.Kind.TheVariants.{General, Pred}
use Rattle.un_ir.specs.declared.extended.NodeCopy.TheVariants.{U, U2}
use Rattle.un_ir.specs.declared.extended.ExtKind.TheVariants.{Out}
use Rattle.un_ir.specs.declared.extended.Operand.{Operand}
use Rattle.un_ir.specs.declared.extended.ExtOp.{ExtOp}
use Rattle.un_ir.specs.declared.extended.ExtBlock.{ExtBlock}
use Rattle.un_ir.specs.declared.extended.Ext.{Ext}
use Rattle.un_ir.specs.declared.extended.Growth.{Growth}
use Rattle.un_ir.specs.declared.extended.Value.{Value}
use Rattle.un_ir.specs.Linear.{first_of}
use Rattle.un_ir.specs.ExtendOf.{with_operand}
use Rattle.un_baseline.specs.declared.plan.Setting.{Setting}
use Rattle.un_baseline.specs.declared.plan.Progress.{Progress}
use Rattle.un_baseline.proofs.Grown.{copy_ops, operand_ops_by, operand_ops, operands_ops, enter_ops, enter_none, extended_ops, all_ops}
use Rattle.un_baseline.proofs.SpillSteps.{EachOp}
use Rattle.un_baseline.proofs.Shapes.{each_append}
use Rattle.un_baseline.proofs.BlockTimes.{TailOp, tail_stays}
use Rattle.un_baseline.proofs.Reaching.{Reach}

copies_tail : (kind : Kind) (copied : Bool) (own : List TempId) (n : ℕ) → EachOp TailOp (copy_ops U U2 kind copied own n)
copies_tail kind false own n = tt
copies_tail General true own n = (tt, tt)
copies_tail Pred true own n = (tt, (tt, tt))

operand_tail : (v : Option Value) (n : ℕ) → EachOp TailOp (operand_ops_by v n)
operand_tail None n = tt
operand_tail (Some v) n = copies_tail v.sort.kind v.sort.copied v.own n

pub operands_tail : (xs : List Operand) (g : Growth) → EachOp TailOp (operands_ops xs g)
operands_tail [] g = tt
operands_tail (x ∷ xs) g = each_append TailOp (operand_ops x g) (operands_ops xs (with_operand x g))
    (operand_tail (slice_get g.values (first_of x.alts)) g.next) (operands_tail xs (with_operand x g))

module _ (e : Ext) (block : ExtBlock) (s : Setting) (entry saved : Bool) where
  abbrev all : List ExtOp → Growth → List ExtOp
  all ops g = all_ops e.names block.live_in entry saved ops g

  abbrev out_of : List Operand → ExtOp
  out_of xs = record { kind = Out; operands = xs; results = [] }

  pub out_tail : (xs : List Operand) (g : Growth) → EachOp TailOp (all (out_of xs ∷ []) g)
  out_tail xs g =
      each_append TailOp (extended_ops e.names block.live_in entry saved (out_of xs) g) []
      (each_append TailOp (operands_ops xs g) (_ ∷ ([] ++ enter_ops entry Out)) (operands_tail xs g) (
        tt,
        subst (EachOp TailOp)
            (sym (enter_none entry Out (λ h. cc h))) tt,
      )) tt

  -- what a block's end reads takes no cycle
  pub out_reach : (xs : List Operand) (g : Growth) (p : Progress) → Reach e block s p (all (out_of xs ∷ []) g) p.cycle
  out_reach xs g p = tail_stays e block s 0 0 p (all (out_of xs ∷ []) g) (out_tail xs g)
