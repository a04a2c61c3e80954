use Rattle.std.proofs.Common.{◌≡◌, true, false, length, length-append, ap, subst, ◌∙◌, ◌∷◌, inl, inr, arith}
use Rattle.un_tree.proofs.PartLaws.{next_left, no_node, node_torn, none_left}
use Rattle.un_tree.specs.Texts.{IsStep}
use Rattle.un_tree.proofs.parts.parts_of.Goals as goal

pub returns-in-None : goal.returns-in-None
returns-in-None c nodes fit is =
    node_torn c.args.blocks nodes c.loop-left.reading c.loop-left.left.now (c.loop-left.invariant.whole nodes fit is) c.in-Node.node
    c.in-Node.line.now c.in-Node.rest.now c.in-Node.ensures c.in-None.ensures.none

pub loop-left-preserved : goal.loop-left-preserved
loop-left-preserved c = record {
  whole = λ nodes fit is. next_left c.args.blocks nodes c.loop-left.reading c.loop-left.left.now (c.loop-left.invariant.whole nodes fit is)
      c.in-Node.node c.in-Node.line.now c.in-Node.rest.now c.in-Some.next c.in-Node.ensures c.in-Some.ensures.some;
  few =
      let cut = ap length c.in-Node.ensures.whole ∙ length-append c.in-Node.line.now (10 ∷ c.in-Node.rest.now) in
      let so_far = c.loop-left.invariant.few in
      let one_more = c.in-Some.ensures.few in
      omega (arith, cut, so_far, one_more);
}

pub returns-in-End : goal.returns-in-End
returns-in-End c nodes fit is =
    let left = c.loop-left.left.now in
    let h = c.loop-left.invariant.whole nodes fit is in
    elim c.in-End.is [
      | inl end ↦ none_left c.args.blocks nodes c.loop-left.reading left h
          (λ over. let e : false ≡ true = c.loop-left-test.ensures.1 over in cc e) (subst (IsStep left) end c.first_node.ensures)
      | inr bad ↦ (let b = subst (IsStep left) bad c.first_node.ensures in
          absurd (no_node c.args.blocks nodes c.loop-left.reading left h b.0 b.1))
    ]
