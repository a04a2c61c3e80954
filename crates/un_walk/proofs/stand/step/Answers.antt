use Rattle.std.proofs.Common.{ℕ, [], ap, ◌∙◌}
use Rattle.std.specs.declared.option.Option.{Option}
use Rattle.un_base.specs.declared.ids.VarId.{VarId}
use Rattle.un_walk.specs.Routes.{paths_after}
use Rattle.un_walk.specs.Turns.{paths_behind}
use Rattle.un_walk.proofs.RouteLemmas.{branch_waits}
use Rattle.un_walk.proofs.stand.step.Goals as goal

pub returns-in_ok-go_down-in-Some-clause-waits : goal.returns-in_ok-go_down-in-Some-clause-waits
returns-in_ok-go_down-in-Some-clause-waits c =
    let old = c.args.stand.now.path.items in
    ap (λ (b : Option (VarId × ℕ)). paths_after b old (paths_behind [] old)) c.in-Some.is
    ∙ branch_waits old c.go_down.new.stand.path.items c.in-Some.var c.in-Some.val c.in_ok-go_down-in-Some.ensures.path
