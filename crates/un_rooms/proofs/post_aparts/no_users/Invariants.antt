use Rattle.std.proofs.Common.{◌≡◌, [], replicate}
use Rattle.un_rooms.proofs.post_aparts.no_users.Given as goal

abbrev pub invariant-loop : goal.invariant-loop
invariant-loop l = l.lists ≡ replicate l.counter []
