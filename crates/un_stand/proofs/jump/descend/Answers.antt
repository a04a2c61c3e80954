use Rattle.std.proofs.Common.{arith}
use Rattle.un_stand.proofs.JumpLemmas.{further, split_at}
use Rattle.un_stand.proofs.RoomLemmas.{on_goes, room_on}
use Rattle.un_stand.proofs.jump.descend.Goals as goal

pub go_down-requires-clause-at : goal.go_down-requires-clause-at
go_down-requires-clause-at c = room_on _ _ c.loop-at.invariant.place

pub go_down-requires-clause-split : goal.go_down-requires-clause-split
go_down-requires-clause-split c =
    let g = c.loop-at.invariant.place in
    split_at _ g.root c.args.path.now _ c.loop-at.at _ g.at.stand.sets g.split c.loop-at-test.true c.loop-at.invariant.so_far

pub loop-at-preserved : goal.loop-at-preserved
loop-at-preserved c = record {
  place = on_goes _ _ _ c.loop-at.invariant.place c.in_ok-go_down.ensures.at;
  goes = λ root fix ps h. c.in_ok-go_down.ensures.at root fix ps (c.loop-at.invariant.goes root fix ps h);
  so_far = further c.args.path.now _ _ c.loop-at.at _ c.loop-at-test.true c.loop-at.invariant.so_far c.in_ok-go_down.ensures.path;
  within = omega arith;
}
