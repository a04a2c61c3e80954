use Rattle.std.proofs.Common.{◌≡◌, true, false, sym, ◌∙◌, arith}
use Rattle.std.proofs.lemmas.List.{at_drop_more, at_drop_all}
use Rattle.un_tree.proofs.PartLaws.{end_torn}
use Rattle.un_tree.specs.Reading.{told_behind}
use Rattle.un_tree.proofs.parts.parts_in.Goals as goal

pub returns-in-None : goal.returns-in-None
returns-in-None c =
    sym (c.in-None.ensures.none _)
    ∙ (sym (at_drop_more (told_behind c.loop-node.reading) c.args.nodes.now c.loop-node.node-index _ (omega (arith, c.loop-node-test.true)))
    ∙ c.loop-node.invariant.whole)

pub returns : goal.returns
returns c =
    sym (end_torn c.loop-node.reading (λ over. let e : false ≡ true = c.if-is_over-2.ensures.1 over in cc e))
    ∙ (sym (at_drop_all (told_behind c.loop-node.reading) c.args.nodes.now c.loop-node.node-index (omega (arith, c.loop-node-test.false)))
    ∙ c.loop-node.invariant.whole)
