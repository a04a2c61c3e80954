use Rattle.std.proofs.Common.{◌∷◌, sym, ap, ◌∙◌, arith}
use Rattle.un_tree.proofs.PartLaws.{part_told}
use Rattle.un_tree.specs.Reading.{told_behind}
use Rattle.un_tree.specs.declared.node.Node.{Node}
use Rattle.un_tree.specs.declared.parts.Reading.{Reading}
use Rattle.un_tree.proofs.parts.passed.Goals as goal

pub returns-else-reading-gt0-clause-some : goal.returns-else-reading-gt0-clause-some
returns-else-reading-gt0-clause-some c nodes =
    let r = c.args.reading in
    ap (λ (n : Node). told_behind r (n ∷ nodes)) c.in-Part.is
    ∙ (part_told r c.in-Part.least nodes c.requires.waits (omega (arith, c.if-reading-gt0.false))
    ∙ ap (λ (q : Reading). told_behind q nodes) (sym c.begun.ensures))
