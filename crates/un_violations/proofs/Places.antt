-- The operations of a schedule are in the blocks of its function.
use Rattle.std.proofs.Common.{◌≡◌, ℕ, ◌+◌, ◌<◌, ◌≤◌, List, [], ◌∷◌, length, All, arith}
use Rattle.std.proofs.lemmas.List.Elements.{All-cons, All-append}
use Rattle.un_ir.specs.declared.extended.ExtBlock.{ExtBlock}
use Rattle.un_model.specs.declared.model.BlockVars.{BlockVars}
use Rattle.un_model.specs.declared.model.Model.{Model}
use Rattle.un_model.specs.declared.schedule.Issue.{Issue}
use Rattle.un_model.specs.declared.schedule.Schedule.{Schedule}
use Rattle.un_model.specs.Cost.{value_of}
use Rattle.un_model.specs.Pairs.{pairs_from, over_blocks}
use Rattle.un_model.specs.Schedules.{issue_of, block_issues, schedule_of}

none : {A : Type 0} (P : A → Type 0) → All P []
none P k d lt = absurd (omega (arith, lt))

all_pairs : {A B C : Type 0} (P : C → Type 0) (f : ℕ → A → B → C) → ((n : ℕ) (x : A) (y : B) → P (f n x y))
    → (n : ℕ) (xs : List A) (ys : List B) → All P (pairs_from f n xs ys)
all_pairs P f h n [] ys = none P
all_pairs P f h n (x ∷ xs) [] = none P
all_pairs P f h n (x ∷ xs) (y ∷ ys) = All-cons P (f n x y) (pairs_from f (n + 1) xs ys) (h n x y) (all_pairs P f h (n + 1) xs ys)

in_blocks : (values : List ℕ) (most b n : ℕ) (blocks : List ExtBlock) (vars : List BlockVars) → b + length blocks ≤ most
    → All (λ (i : Issue). i.block.0 < most) (over_blocks (block_issues values) b n blocks vars)
in_blocks values most b n [] vars le = none (λ (i : Issue). i.block.0 < most)
in_blocks values most b n (block ∷ blocks) [] le = none (λ (i : Issue). i.block.0 < most)
in_blocks values most b n (block ∷ blocks) (v ∷ vars) le =
    All-append (λ (i : Issue). i.block.0 < most) (block_issues values b n block v)
    (over_blocks (block_issues values) (b + 1) (n + length block.ops) blocks vars)
    (all_pairs (λ (i : Issue). i.block.0 < most) (issue_of values b (value_of values v.end)) (λ k op vs. omega (arith, le)) n block.ops
    v.ops)
    (in_blocks values most (b + 1) (n + length block.ops) blocks vars (omega (arith, le)))

pub issues_placed : (m : Model) (values : List ℕ) (t : Schedule) (n : ℕ) → t ≡ schedule_of m values → n ≡ length m.ext.blocks
    → All (λ (i : Issue). i.block.0 < n) t.issues
issues_placed m values t n e h =
    rw (e, h) (in_blocks values (length m.ext.blocks) 0 0 m.ext.blocks m.blocks (omega arith))
