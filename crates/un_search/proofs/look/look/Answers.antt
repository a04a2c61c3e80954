use Rattle.std.proofs.Common.{Some, sym, ap, subst, ◌∙◌}
use Rattle.un_domains.specs.Cuts.{Contents}
use Rattle.un_domains.specs.Sets.{Sets}
use Rattle.un_model.specs.Boxes.{IsBelow, root_of}
use Rattle.un_bound.specs.Relaxations.{IsLeast}
use Rattle.un_post.specs.Posts.{fix_at}
use Rattle.un_branching.specs.Searched.{IsLook}
use Rattle.un_walk.proofs.StandLemmas.{cuts_box}
use Rattle.un_stand.specs.Rooms.{path_of}
use Rattle.un_stand.proofs.ModelRooms.{at_lost, at_rests}
use Rattle.un_stand.proofs.RoomLemmas.{end_here, lost_none}
use Rattle.un_search.proofs.look.look.Goals as goal

pub returns-then-is_lost-clause-look : goal.returns-then-is_lost-clause-look
returns-then-is_lost-clause-look c =
    let g = c.args.rules.now in
    at_lost g.m.now g.limit c.args.place.now.room c.requires.at.at (c.is_lost.ensures.lost c.if-is_lost.true)

pub returns-in-None-clause-look : goal.returns-in-None-clause-look
returns-in-None-clause-look c =
    let g = c.args.rules.now in
    let r = c.args.place.now.room in
    let at = c.requires.at.at in
    lost_none (root_of g.m.now) (fix_at g.m.now g.limit) at.props (path_of r) r.engine at.room.ends c.in-None.is

pub look_at-requires-clause-inside : goal.look_at-requires-clause-inside
look_at-requires-clause-inside c = cuts_box (root_of c.args.rules.now.m.now) c.args.place.now.room.stand c.requires.at.at.room.stand

pub look_at-requires-clause-stable : goal.look_at-requires-clause-stable
look_at-requires-clause-stable c =
    let g = c.args.rules.now in
    let at = c.requires.at.at in
    end_here (root_of g.m.now) (fix_at g.m.now g.limit) at.props c.args.place.now.room at.room c.in-Some.engine c.in-Some.is
    (at_rests g.m.now g.limit c.args.place.now.room at (c.is_lost.ensures.rests c.if-is_lost.false))
    ∙ ap (λ (k : Contents). Some k.sets) (sym c.store.ensures)

pub returns-in_ok-look-in-Some-clause-at : goal.returns-in_ok-look-in-Some-clause-at
returns-in_ok-look-in-Some-clause-at c =
    record { rules = c.requires.at.rules; at = c.requires.at.at; scratch = c.in_ok-look-in-Some.ensures.room }

pub returns-in_ok-look-in-Some-clause-look : goal.returns-in_ok-look-in-Some-clause-look
returns-in_ok-look-in-Some-clause-look c =
    let g = c.args.rules.now in
    subst (λ (b : Sets). IsLook (fix_at g.m.now g.limit) (IsLeast g.m.now) (IsBelow g.m.now g.limit) b c.in_ok-look-in-Some.look)
    c.requires.at.at.room.stand.sets c.in_ok-look-in-Some.ensures.look
