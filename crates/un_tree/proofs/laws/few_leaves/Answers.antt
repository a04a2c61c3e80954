use Rattle.std.proofs.Common.{arith, ◌∷◌, []}
use Rattle.std.proofs.lemmas.List.Elements.{recursion_from_All}
use Rattle.un_tree.specs.Waits.{Whole, HasSides, visits_of}
use Rattle.un_tree.proofs.Volumes.{leaves_room}
use Rattle.un_tree.proofs.laws.few_leaves.Goals as goal

pub returns : goal.returns
returns c n box full sides =
    let all = recursion_from_All HasSides (visits_of n box c.args.nodes.now) sides in
    let h = leaves_room n c.args.nodes.now (Whole box ∷ []) 0 all (full, tt) in omega (arith, h)
