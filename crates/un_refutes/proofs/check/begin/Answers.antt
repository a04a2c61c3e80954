use Rattle.std.proofs.Common.{All, refl, sym, subst, ◌∙◌}
use Rattle.un_domains.specs.Sets.{Sets, NoneEmpty}
use Rattle.un_post.specs.Posts.{ReadsFrom}
use Rattle.un_certificate.proofs.Posting.{are_posted}
use Rattle.un_stand.proofs.ModelRooms.{first_of_model}
use Rattle.un_refutes.proofs.WalkLemmas.{first_walk}
use Rattle.un_refutes.proofs.check.begin.Goals as goal

pub first_room-requires-clause-same : goal.first_room-requires-clause-same
first_room-requires-clause-same c = sym c.in_ok-cuts.ensures.sets

pub first_room-requires-clause-reads : goal.first_room-requires-clause-reads
first_room-requires-clause-reads c =
    let p = c.in_ok-posted.posted in
    subst (λ (s : Sets). All (ReadsFrom s) p.props.items) (sym c.in_ok-cuts.ensures.sets) c.in_ok-posted.ensures.reads

pub first_room-requires-clause-live : goal.first_room-requires-clause-live
first_room-requires-clause-live c = subst NoneEmpty (sym c.in_ok-cuts.ensures.sets) c.in_ok-posted.ensures.live

pub returns-clause-rules : goal.returns-clause-rules
returns-clause-rules c =
    let g = c.args.rules.now in
    let p = c.in_ok-posted.posted in
    let e = c.in_ok-posted.ensures in
    record {
      model = c.requires.model;
      extended = c.requires.extended;
      table = c.requires.fit;
      full = subst NoneEmpty e.sets e.live;
      postable = record {
        props = p.props.items;
        are = are_posted g.m.now g.limit p.props.items
            (record { model = c.requires.model; extended = c.requires.extended; fit = c.requires.fit; options = c.requires.options })
            e.asks e.tight;
      };
    }

pub returns-clause-at : goal.returns-clause-at
returns-clause-at c =
    let g = c.args.rules.now in
    let p = c.in_ok-posted.posted in
    let e = c.in_ok-posted.ensures in
    let posted = are_posted g.m.now g.limit p.props.items
    (record { model = c.requires.model; extended = c.requires.extended; fit = c.requires.fit; options = c.requires.options })
    e.asks e.tight in
    first_of_model g.m.now g.limit c.in_ok-cuts.cuts.sets p.props.items c.in_ok-room.room posted (c.in_ok-cuts.ensures.sets ∙ e.sets)
    c.in_ok-room.ensures.at

pub returns-clause-walk : goal.returns-clause-walk
returns-clause-walk c nodes =
    let g = c.args.rules.now in first_walk g.m.now g.limit nodes _ c.in_ok-room.ensures.first refl refl
