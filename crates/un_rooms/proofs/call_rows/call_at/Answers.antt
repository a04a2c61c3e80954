use Rattle.std.proofs.Common.{refl, ◌∙◌, arith}
use Rattle.un_sites.specs.Sites.{definer_at}
use Rattle.un_rooms.proofs.Sparing.{call_is}
use Rattle.un_rooms.proofs.call_rows.call_at.Goals as goal

pub returns : goal.returns
returns c = λ arcs ps q sees.
    call_is arcs ps c.args.first q c.args.call.now sees c.args.t (definer_at c.args.definer.now).place _ _ _ _ refl c.is_before.ensures
    (c.in_ok-behind.ensures ∙ c.as_slice.ensures) c.get-users.ensures c.requires.0 (omega arith)
