use Rattle.std.proofs.Common.{inl, inr, arith}
use Rattle.un_rooms.proofs.Gathering.{pushed, unpushed}
use Rattle.un_rooms.proofs.post_aparts.add_user.Goals as goal

pub returns-in_ok-push : goal.returns-in_ok-push
returns-in_ok-push c =
    pushed c.args.first c.args.x c.args.user c.args.lists.now.items c.index_mut.result.now c.push.new.self (omega arith) (omega arith)
    c.index_mut.ensures.value c.in_ok-push.ensures.ok

pub returns-else-place-len : goal.returns-else-place-len
returns-else-place-len c = unpushed c.args.first c.args.x c.args.user c.args.lists.now.items (inr (omega arith))

pub returns-else-first-x : goal.returns-else-first-x
returns-else-first-x c = unpushed c.args.first c.args.x c.args.user c.args.lists.now.items (inl (omega arith))
