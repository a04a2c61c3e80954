-- Loops over operations and over blocks: the values so far, and those of the rest, are the whole.
use Rattle.std.proofs.Common.{◌≡◌, ℕ, ◌+◌, ◌≤◌, Bool, true, false, List, ◌++◌, Some, length, drop, refl, sym, ap, ◌∙◌, append_assoc, arith}
use Rattle.std.specs.Prelude.{◌==◌, slice_get}
use Rattle.std.proofs.lemmas.Bool.Decides.{nat_tests}
use Rattle.un_ir.specs.Extended.{is_copy}
use Rattle.un_ir.specs.declared.extended.ExtOp.{ExtOp}
use Rattle.un_ir.specs.declared.extended.ExtBlock.{ExtBlock}
use Rattle.un_ir.specs.declared.extended.Ext.{Ext}
use Rattle.un_model.proofs.Steps.{drop_at, drop_past, append-nil}
use Rattle.un_baseline.specs.declared.plan.Purpose.{Purpose}
use Rattle.un_baseline.specs.declared.plan.Setting.{Setting}
use Rattle.un_baseline.specs.declared.plan.Progress.{Progress}
use Rattle.un_baseline.specs.Plans.{step_values, steps_values, block_values, blocks_values}
use Rattle.un_baseline.specs.SpillEverywhere.{purpose_at, step_of, progress_of, steps_of, progress_after, block_plan, block_plans}
use Rattle.un_baseline.proofs.Purposes.{purpose_behind}

module _ (e : Ext) (block : ExtBlock) (s : Setting) where
  -- the values of the operations from place i on
  abbrev rest : List ExtOp → Progress → List ℕ
  rest ops p = steps_values ops (steps_of e block s p ops)

  pub ops_more : (ops : List ExtOp) (i : ℕ) (op : ExtOp) (p next : Progress) (purpose : Purpose) (made whole pushed : List ℕ)
      → made ++ rest (drop i ops) p ≡ whole → slice_get ops i ≡ Some op → purpose ≡ purpose_at s.term (drop i ops)
      → pushed ≡ made ++ step_values op (step_of e block s p purpose op op.kind) → next ≡ progress_of e block s p purpose op op.kind
      → pushed ++ rest (drop (i + 1) ops) next ≡ whole
  ops_more ops i op p next purpose made whole pushed h at for push go =
      let here = drop_at ops i op at in
      let split : rest (drop i ops) p ≡ step_values op (step_of e block s p (purpose_at s.term (drop i ops)) op op.kind) ++ rest (drop
      (i + 1) ops) (progress_of e block s p (purpose_at s.term (drop i ops)) op op.kind) = rw here refl in
      rw (push, append_assoc, go, for, ← split) h

  pub ops_all : (ops : List ExtOp) (i : ℕ) (p : Progress) (made whole : List ℕ) → made ++ rest (drop i ops) p ≡ whole → length ops ≤ i
      → made ≡ whole
  ops_all ops i p made whole h le = sym (append-nil made)
      ∙ ap (λ (xs : List ℕ). made ++ xs) (sym (ap (λ (os : List ExtOp). rest os p) (drop_past i ops le))) ∙ h

  pub progress_more : (ops : List ExtOp) (i : ℕ) (op : ExtOp) (p next last : Progress) (purpose : Purpose)
      → progress_after e block s p (drop i ops) ≡ last → slice_get ops i ≡ Some op → purpose ≡ purpose_at s.term (drop i ops)
      → next ≡ progress_of e block s p purpose op op.kind → progress_after e block s next (drop (i + 1) ops) ≡ last
  progress_more ops i op p next last purpose h at for go =
      let here = drop_at ops i op at in
      let split : progress_after e block s p (drop i ops) ≡ progress_after e block s (progress_of e block s p (purpose_at s.term
      (drop i ops)) op op.kind) (drop (i + 1) ops) = rw here refl in
      rw (go, for, ← split) h

  pub progress_all : (ops : List ExtOp) (i : ℕ) (p last : Progress) → progress_after e block s p (drop i ops) ≡ last → length ops ≤ i
      → p ≡ last
  progress_all ops i p last h le = sym (ap (progress_after e block s p) (drop_past i ops le)) ∙ h

  pub purpose_more : (ops : List ExtOp) (i : ℕ) (op : ExtOp) (in_row : Bool) (purpose : Purpose) → slice_get ops i ≡ Some op
      → purpose ≡ purpose_at s.term (drop i ops) → in_row ≡ is_copy op.kind
      → in_row ≡ true → purpose ≡ purpose_at s.term (drop (i + 1) ops)
  purpose_more ops i op in_row purpose at for row is_row = for ∙ sym (purpose_behind s.term ops i op at (sym row ∙ is_row))

-- ---- blocks

no_zero : (i : ℕ) → (i + 1 == 0) ≡ false
no_zero i = grind (arith, nat_tests)

pub blocks_more : (e : Ext) (blocks : List ExtBlock) (i : ℕ) (block : ExtBlock) (made whole pushed : List ℕ)
    → made ++ blocks_values (drop i blocks) (block_plans e (i == 0) (drop i blocks)) ≡ whole → slice_get blocks i ≡ Some block
    → pushed ≡ made ++ block_values block (block_plan e (i == 0) block)
    → pushed ++ blocks_values (drop (i + 1) blocks) (block_plans e (i + 1 == 0) (drop (i + 1) blocks)) ≡ whole
blocks_more e blocks i block made whole pushed h at push =
    let split : blocks_values (drop i blocks) (block_plans e (i == 0) (drop i blocks)) ≡ block_values block (block_plan e
    (i == 0) block) ++ blocks_values (drop (i + 1) blocks) (block_plans e false (drop (i + 1) blocks)) = rw
    (drop_at blocks i block at) refl in
    rw (no_zero i, push, append_assoc, ← split) h

pub blocks_all : (e : Ext) (blocks : List ExtBlock) (i : ℕ) (first : Bool) (made whole : List ℕ)
    → made ++ blocks_values (drop i blocks) (block_plans e first (drop i blocks)) ≡ whole → length blocks ≤ i → made ≡ whole
blocks_all e blocks i first made whole h le =
    sym (append-nil made) ∙ ap (λ (xs : List ℕ). made ++ xs) (sym (ap (λ (bs : List ExtBlock). blocks_values bs
    (block_plans e first bs)) (drop_past i blocks le))) ∙ h
