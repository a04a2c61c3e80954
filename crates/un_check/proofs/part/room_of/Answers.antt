use Rattle.std.proofs.Common.{length, ap, sym, subst, ◌∙◌}
use Rattle.un_domains.specs.Order.{Below}
use Rattle.un_domains.specs.Sets.{Sets, NoneEmpty}
use Rattle.un_model.specs.Boxes.{root_of}
use Rattle.un_certificate.proofs.Posting.{are_part_posted}
use Rattle.un_stand.proofs.ModelRooms.{first_of_part, reads_at}
use Rattle.un_stand.specs.Rooms.{IsPartAt}
use Rattle.un_check.proofs.part.room_of.Goals as goal

pub first_room-requires-clause-reads : goal.first_room-requires-clause-reads
first_room-requires-clause-reads c =
    let e = c.in_ok-posted.ensures in
    reads_at c.in_ok-posted.posted.store.sets c.in_ok-first.first.sets _
    (ap length c.in_ok-first.ensures.sets ∙ (c.requires.first.0.long ∙ ap length (sym e.sets))) e.reads

pub first_room-requires-clause-live : goal.first_room-requires-clause-live
first_room-requires-clause-live c = subst NoneEmpty (sym c.in_ok-first.ensures.sets) c.requires.first.1

pub returns-clause-at : goal.returns-clause-at
returns-clause-at c =
    let m = c.args.m.now in
    let p = c.in_ok-posted.posted in
    let e = c.in_ok-posted.ensures in
    let first = c.in_ok-first.first.sets in
    subst (λ (b : Sets). IsPartAt b m c.args.k c.args.number c.in_ok-room.room) c.in_ok-first.ensures.sets
    (first_of_part first m c.args.k c.args.number p.props.items c.in_ok-room.room
    (are_part_posted m c.args.k c.args.number p.store.sets p.props.items e.sets e.asks e.exact e.reads e.fixed)
    (subst (λ (b : Sets). Below b (root_of m)) (sym c.in_ok-first.ensures.sets) c.requires.first.0) c.in_ok-room.ensures.at)
