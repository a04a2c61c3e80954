use Rattle.std.proofs.Common.{ap, subst, ◌∙◌}
use Rattle.un_domains.specs.Sets.{Sets}
use Rattle.un_tree.specs.Boxes.{reached}
use Rattle.un_model.specs.Boxes.{IsBelow, root_of}
use Rattle.un_bound.specs.Relaxations.{IsLeast}
use Rattle.un_post.specs.Posts.{fix_at}
use Rattle.un_branching.specs.Searched.{IsLook}
use Rattle.un_walk.proofs.Paths.{reached-push}
use Rattle.un_stand.proofs.ModelRooms.{at_goes, at_room, at_split}
use Rattle.un_stand.specs.Rooms.{path_of}
use Rattle.un_search.proofs.expand.enter.Goals as goal

pub go_down-requires-clause-at : goal.go_down-requires-clause-at
go_down-requires-clause-at c = let g = c.args.rules.now in at_room g.m.now g.limit c.args.place.now.room c.requires.at.at

pub go_down-requires-clause-split : goal.go_down-requires-clause-split
go_down-requires-clause-split c =
    let g = c.args.rules.now in
    at_split g.m.now g.limit c.args.place.now.room c.requires.at.at c.args.decision.var c.args.decision.val c.requires.split

pub look-requires : goal.look-requires
look-requires c =
    let g = c.args.rules.now in
    record {
      at = record {
        rules = c.requires.at.rules;
        at = at_goes g.m.now g.limit c.args.place.now.room _ c.requires.at.at c.in_ok-go_down.ensures.at;
        scratch = c.requires.at.scratch;
      };
    }

pub returns-clause-path : goal.returns-clause-path
returns-clause-path c = c.in_ok-look.ensures.path ∙ c.in_ok-go_down.ensures.path

pub returns-clause-look : goal.returns-clause-look
returns-clause-look c =
    let g = c.args.rules.now in
    let root = root_of g.m.now in
    subst (λ (b : Sets). IsLook (fix_at g.m.now g.limit) (IsLeast g.m.now) (IsBelow g.m.now g.limit) b c.in_ok-look.look)
    (ap (reached root) c.in_ok-go_down.ensures.path ∙ reached-push root (path_of c.args.place.now.room) c.args.decision)
    c.in_ok-look.ensures.look
