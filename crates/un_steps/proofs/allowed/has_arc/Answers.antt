use Rattle.std.proofs.Common.{◌↔◌, ◌<◌, Bool, length, sym, subst}
use Rattle.std.specs.Prelude.{IsTrue}
use Rattle.un_steps.specs.Allowed.{arcs_of}
use Rattle.un_steps.proofs.Looks.{some_at}
use Rattle.un_steps.proofs.allowed.has_arc.Goals as goal

pub returns : goal.returns
returns c =
    let m = c.args.m.now in
    subst (λ (b : Bool). IsTrue b ↔ (c.args.n < length (arcs_of m))) (sym c.is_some.ensures)
    (some_at c.arc-found.result (arcs_of m) c.args.n c.arc-found.ensures)
