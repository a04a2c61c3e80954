-- Enter and every Leave are active in the plan that spills every name.
use Rattle.std.proofs.Common.{◌≡◌, true, false, refl, sym, ap, ◌∙◌}
use Rattle.std.specs.Prelude.{◌||◌, is_some, All}
use Rattle.un_ir.specs.declared.extended.ExtKind.{ExtKind}
use Rattle.un_ir.specs.declared.extended.ExtKind.TheVariants.{In, Out, Body, End, Copy, Enter, Leave}
use Rattle.un_ir.specs.declared.extended.ExtOp.{ExtOp}
use Rattle.un_ir.specs.declared.extended.ExtBlock.{ExtBlock}
use Rattle.un_ir.specs.declared.extended.Ext.{Ext}
use Rattle.un_model.specs.Instructions.{instruction_of}
use Rattle.un_ir.specs.Kinds.{is_delimiter, is_frame_op}
use Rattle.un_model.specs.Solutions.{HasFrame}
use Rattle.un_baseline.specs.declared.plan.Purpose.{Purpose}
use Rattle.un_baseline.specs.declared.plan.Setting.{Setting}
use Rattle.un_baseline.specs.declared.plan.Progress.{Progress}
use Rattle.un_baseline.specs.Plans.{Step, planned_schedule}
use Rattle.un_baseline.specs.SpillEverywhere.{step_of, setting_of, first_progress, block_plans}
use Rattle.un_baseline.proofs.Each.{issues_each}
use Rattle.un_baseline.proofs.SpillSteps.{steps_each, plans_each}

-- Enter and Leave issue an instruction
pub record IsFramed (op : ExtOp) (s : Step) : Type 0 where
  pub active : is_frame_op op.kind ≡ true → (is_delimiter op.kind || is_some (instruction_of op.kind s.instr)) ≡ true

other_kind : (op : ExtOp) (s : Step) (kind : ExtKind) → op.kind ≡ kind → is_frame_op kind ≡ false → IsFramed op s
other_kind op s kind is no_frame = record {
  active = λ h. let f : false ≡ true = sym no_frame ∙ ap is_frame_op (sym is)
      ∙ h in absurd (cc f);
}

framed_by : (e : Ext) (block : ExtBlock) (s : Setting) (p : Progress) (purpose : Purpose) (op : ExtOp) (kind : ExtKind)
    → op.kind ≡ kind → IsFramed op (step_of e block s p purpose op kind)
framed_by e block s p purpose op In is = other_kind op _ In is refl
framed_by e block s p purpose op Out is = other_kind op _ Out is refl
framed_by e block s p purpose op (Body o) is = other_kind op _ (Body o) is refl
framed_by e block s p purpose op (End term) is = other_kind op _ (End term) is refl
framed_by e block s p purpose op (Copy node) is = other_kind op _ (Copy node) is refl
framed_by e block s p purpose op Enter is = record { active = λ h. ap (λ (k : ExtKind). is_delimiter k || is_some (instruction_of k 1)) is }
framed_by e block s p purpose op Leave is = record { active = λ h. ap (λ (k : ExtKind). is_delimiter k || is_some (instruction_of k 1)) is }

pub frame_ops_active : (e : Ext) → All (HasFrame true) (planned_schedule e.blocks (block_plans e true e.blocks)).issues
frame_ops_active e =
    issues_each (HasFrame true) (λ b end n. IsFramed) (λ b end n op s h. h.active) 0 0 e.blocks (block_plans e true e.blocks)
    (plans_each (λ b end n. IsFramed) e
    (λ b n first block. steps_each (λ k. IsFramed) e block (setting_of e first block) (λ k p purpose op. framed_by e block
    (setting_of e first block) p purpose op op.kind refl) n (first_progress e first) block.ops) 0 0 true e.blocks)
