use Rattle.std.proofs.Common.{ℕ, [], ap, ◌∙◌}
use Rattle.std.specs.declared.option.Option.{Option}
use Rattle.un_base.specs.declared.ids.VarId.{VarId}
use Rattle.un_stand.specs.Rooms.{path_of}
use Rattle.un_walk.specs.Routes.{paths_after}
use Rattle.un_walk.specs.Turns.{paths_behind}
use Rattle.un_walk.proofs.RouteLemmas.{branch_waits}
use Rattle.un_stand.proofs.room.step.Goals as goal

pub returns-in_ok-go_down-in-Some-clause-waits : goal.returns-in_ok-go_down-in-Some-clause-waits
returns-in_ok-go_down-in-Some-clause-waits c =
    let old = path_of c.args.room.now in
    ap (λ (b : Option (VarId × ℕ)). paths_after b old (paths_behind [] old)) c.in-Some.is
    ∙ branch_waits old (path_of c.go_down.new.room) c.in-Some.var c.in-Some.val c.in_ok-go_down-in-Some.ensures.path
