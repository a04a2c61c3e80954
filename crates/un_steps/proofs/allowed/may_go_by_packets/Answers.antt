use Rattle.std.proofs.Common.{◌↔◌, List, sym, subst}
use Rattle.std.specs.Prelude.{IsTrue}
use Rattle.un_steps.specs.Rules.{IsTooFull}
use Rattle.un_steps.specs.Words.{Operation}
use Rattle.un_steps.proofs.allowed.may_go_by_packets.Goals as goal

pub returns-in-Some : goal.returns-in-Some
returns-in-Some c = subst (λ (ps : List Operation). IsTrue c.is_too_full.result ↔ IsTooFull c.args.m.now c.args.s.now.sets ps c.args.v.0)
    (sym c.in-Some.ensures) c.is_too_full.ensures
