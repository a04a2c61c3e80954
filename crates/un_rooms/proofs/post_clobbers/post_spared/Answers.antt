use Rattle.std.proofs.Common.{[], ◌∷◌, ◌++◌, ◌-◌, length, ap, ◌∙◌, arith}
use Rattle.un_kinds.specs.Constraints.{Constraint}
use Rattle.un_ir.specs.Kinds.{is_call_kind}
use Rattle.un_sites.specs.Postings.{with_kind}
use Rattle.un_sites.specs.Rooms.{users_of}
use Rattle.un_rooms.proofs.Gathering.{users_at}
use Rattle.un_rooms.proofs.Spares.{spared_is}
use Rattle.un_rooms.proofs.post_clobbers.post_spared.Goals as goal

pub returns : goal.returns
returns c = λ arcs ps lists zip.
    c.in_ok-push.ensures ∙ ap (λ (x : Constraint). c.args.props.now ++ x ∷ [])
    (spared_is c.args.mask arcs ps c.args.t _ _ _ _ _ _ _ c.in_ok-temp.ensures c.site_of-site.ensures c.as_slice.ensures
    (users_at c.args.first (length c.args.lists.now) (c.args.t.0 - c.args.first) (users_of ps) c.args.lists.now c.args.t
    c.get-users.result.now lists c.get-users.ensures (omega arith))
    (c.in_ok-found.ensures arcs ps (with_kind is_call_kind ps) zip) c.in_ok-made.ensures.asks)
