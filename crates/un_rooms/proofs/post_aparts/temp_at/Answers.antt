use Rattle.std.proofs.Common.{◌-◌, length, arith}
use Rattle.un_rooms.proofs.Gathering.{users_at, temp_made}
use Rattle.un_rooms.proofs.post_aparts.temp_at.Goals as goal

pub returns : goal.returns
returns c = λ f e.
    temp_made _ _ _ _ _ _ c.in_ok-made.ensures c.site_of-site.ensures c.as_slice.ensures
    (users_at c.args.first (length c.args.lists.now) (c.args.t.0 - c.args.first) f c.args.lists.now c.args.t c.get-users.result.now e
    c.get-users.ensures (omega arith))
