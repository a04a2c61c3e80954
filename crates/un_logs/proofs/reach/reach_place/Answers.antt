use Rattle.std.proofs.Common.{ℕ, ◌+◌, ◌<◌, ◌≤◌, arith, inl, inr}
use Rattle.un_steps.specs.Found.{operation_of}
use Rattle.un_steps.specs.Words.{cycles, least_of}
use Rattle.un_logs.proofs.Reaching.{some_map}
use Rattle.un_logs.proofs.reach.reach_place.Goals as goal

pub returns : goal.returns
returns c = λ y h k.
    elim k.2 [
      | inl q ↦ let t = c.is_var.ensures.1 q.0 in let f = c.if-is_var.false in absurd (cc (t, f))
      | inr q ↦ c.early.ensures y (c.left-2.ensures y h)
          (some_map (least_of (cycles c.args.s.now.sets (operation_of c.args.p.now))) (λ (n : ℕ). y ≤ n) (λ (n : ℕ). y < n + 1)
          (λ n le. omega (arith, le)) q.1)
    ]
