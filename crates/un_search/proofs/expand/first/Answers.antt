use Rattle.std.proofs.Common.{List, subst}
use Rattle.un_tree.specs.Boxes.{reached}
use Rattle.un_tree.specs.declared.node.Decision.{Decision}
use Rattle.un_model.specs.Boxes.{IsBelow, root_of}
use Rattle.un_bound.specs.Relaxations.{IsLeast}
use Rattle.un_post.specs.Posts.{fix_at}
use Rattle.un_branching.specs.Searched.{IsLook}
use Rattle.un_search.proofs.expand.first.Goals as goal

pub returns-clause-look : goal.returns-clause-look
returns-clause-look c =
    let g = c.args.rules.now in
    subst (λ (ds : List Decision). IsLook (fix_at g.m.now g.limit) (IsLeast g.m.now) (IsBelow g.m.now g.limit) (reached (root_of g.m.now) ds)
    c.in_ok-look.look) c.requires.fresh c.in_ok-look.ensures.look
