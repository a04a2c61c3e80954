use Rattle.std.proofs.Common.{sym, subst}
use Rattle.std.specs.Prelude.{◌↔◌, IsTrue}
use Rattle.un_stand.specs.Rooms.{path_of}
use Rattle.un_symtree.specs.declared.node.SymNode.{SymNode}
use Rattle.un_refutes.specs.SymVerdicts.{KeepsAt}
use Rattle.un_refutes.proofs.JudgeLemmas.{closed_tells}
use Rattle.un_refutes.proofs.judge.keeps.Goals as goal

pub returns-in-Closed : goal.returns-in-Closed
returns-in-Closed c =
    let g = c.args.rules.now in
    subst (λ (n : SymNode). IsTrue c.is_lost.result ↔ KeepsAt g.m.now g.limit n (path_of c.args.room.now)) (sym c.in-Closed.is)
    (closed_tells g.m.now g.limit c.args.room.now c.requires.at c.is_lost.result c.is_lost.ensures.lost c.is_lost.ensures.rests)
