use Rattle.std.proofs.Common.{List, sym, subst}
use Rattle.un_tree.specs.declared.node.Decision.{Decision}
use Rattle.un_stand.specs.Rooms.{IsEndBy}
use Rattle.un_walk.proofs.Paths.{with_none, with_option}
use Rattle.un_stand.proofs.RoomLemmas.{end_up, left_marks}
use Rattle.un_stand.proofs.room.go_up.Goals as goal

pub go_up-requires : goal.go_up-requires
go_up-requires c = let g = c.requires in record { root = g.root; at = g.at.stand }

pub leave-requires : goal.leave-requires
leave-requires c e =
    let g = c.requires in
    left_marks g.root g.fix g.props _ _ c.in-Some.decision
    (with_option _ _ c.go_up.result c.in-Some.decision c.in-Some.is c.go_up.ensures.path)
    _ g.at.ends (c.is_lost-lost.ensures.rests e g.root g.fix g.props g.at)

pub returns-in-None-clause-at : goal.returns-in-None-clause-at
returns-in-None-clause-at c root fix ps h = record {
  rounds = h.rounds;
  stand = c.go_up.ensures.at root h.stand;
  ends = subst (λ (ds : List Decision). IsEndBy root fix ps ds c.args.room.now.engine)
      (sym (with_none _ _ c.go_up.result c.in-None.is c.go_up.ensures.path)) h.ends;
}

pub returns-in-Some-clause-at : goal.returns-in-Some-clause-at
returns-in-Some-clause-at c root fix ps h = record {
  rounds = h.rounds;
  stand = c.go_up.ensures.at root h.stand;
  ends = end_up root fix ps _ _ c.in-Some.decision
      (with_option _ _ c.go_up.result c.in-Some.decision c.in-Some.is c.go_up.ensures.path) _ h.ends _ c.is_lost-lost.result
      (λ e. c.is_lost-lost.ensures.lost e root fix ps h) (λ e. c.is_lost-lost.ensures.rests e root fix ps h) c.leave.ensures;
}
