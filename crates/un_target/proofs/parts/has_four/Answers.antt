use Rattle.std.proofs.Common.{Option, IsTrue, IfSome, ◌↔◌, subst}
use Rattle.serde_json.specs.Data.{Data}
use Rattle.un_target.specs.Parts.{IsFour}
use Rattle.un_target.proofs.Verdicts.{always}
use Rattle.un_target.proofs.parts.has_four.Goals as goal

pub returns-in-Some : goal.returns-in-Some
returns-in-Some c = subst (λ (o : Option Data). IsTrue c.is_four.result ↔ IfSome o IsFour) c.in-Some.ensures c.is_four.ensures

pub returns-in-None : goal.returns-in-None
returns-in-None c = always (subst (λ (o : Option Data). IfSome o IsFour) c.in-None.ensures tt)
