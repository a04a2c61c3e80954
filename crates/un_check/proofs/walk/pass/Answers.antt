use Rattle.std.proofs.Common.{ℕ, ap, ◌+◌, ◌∙◌}
use Rattle.un_check.specs.Walks.{box_of}
use Rattle.un_check.proofs.walk.pass.Goals as goal

pub returns-clause-outer : goal.returns-clause-outer
returns-clause-outer c =
    let w = c.args.walk.now in
    c.in_ok-walk-2.ensures.later ∙ ap (λ (n : ℕ). w.outer_nodes + n) (c.outer_at.ensures (box_of c.args.rules.now.m.now w.at))
