use Rattle.std.proofs.Common.{List, [], ◌∷◌, All, length, refl, sym, subst}
use Rattle.std.proofs.lemmas.List.Elements.{All-from_recursion}
use Rattle.un_model.specs.Boxes.{root_of}
use Rattle.un_tree.specs.Waits.{HasSides, IsPlain, IsTreeOf, visits_of}
use Rattle.un_tree.specs.declared.node.Node.{Node}
use Rattle.un_tree.specs.declared.node.Node.TheVariants.{Closed}
use Rattle.all_steps.proofs.rows.put_judged.Goals as goal

pub judge-requires-clause-whole : goal.judge-requires-clause-whole
judge-requires-clause-whole c =
    subst (IsTreeOf (length c.args.m.now.ext.blocks) (root_of c.args.m.now)) (sym c.in_ok-t.ensures) refl

pub judge-requires-clause-plain : goal.judge-requires-clause-plain
judge-requires-clause-plain c =
    subst (All IsPlain) (sym c.in_ok-t.ensures) (All-from_recursion IsPlain (Closed ∷ []) (tt, tt))

pub judge-requires-clause-strict : goal.judge-requires-clause-strict
judge-requires-clause-strict c =
    let blocks = length c.args.m.now.ext.blocks in
    subst (λ (ns : List Node). All HasSides (visits_of blocks (root_of c.args.m.now) ns)) (sym c.in_ok-t.ensures)
    (All-from_recursion HasSides (visits_of blocks (root_of c.args.m.now) (Closed ∷ [])) (tt, tt))
