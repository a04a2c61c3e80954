use Rattle.std.proofs.Common.{refl, ap, sym, subst, ◌∙◌, length}
use Rattle.un_domains.specs.Sets.{NoneEmpty}
use Rattle.un_certificate.proofs.Posting.{are_posted}
use Rattle.un_stand.proofs.ModelRooms.{first_of_model, reads_at}
use Rattle.un_check.proofs.BeginLemmas.{first_walk, all_room}
use Rattle.un_check.proofs.tree.begin.Goals as goal

pub first_room-requires-clause-reads : goal.first_room-requires-clause-reads
first_room-requires-clause-reads c =
    reads_at c.in_ok-posted.posted.store.sets c.in_ok-cuts.cuts.sets _ (ap length c.in_ok-cuts.ensures.sets) c.in_ok-posted.ensures.reads

pub first_room-requires-clause-live : goal.first_room-requires-clause-live
first_room-requires-clause-live c = subst NoneEmpty (sym c.in_ok-cuts.ensures.sets) c.in_ok-posted.ensures.live

pub returns-clause-at : goal.returns-clause-at
returns-clause-at c =
    let g = c.args.rules.now in
    let p = c.in_ok-posted.posted in
    let e = c.in_ok-posted.ensures in
    record {
      outer = first_of_model g.m.now g.limit c.in_ok-cuts.cuts.sets p.props.items c.in_ok-outer.outer
          (are_posted g.m.now g.limit p.props.items c.requires.postable e.asks e.tight) (c.in_ok-cuts.ensures.sets ∙ e.sets)
          c.in_ok-outer.ensures.at;
      stage = tt;
    }

pub returns-clause-room : goal.returns-clause-room
returns-clause-room c =
    let g = c.args.rules.now in
    let p = c.in_ok-posted.posted in
    let e = c.in_ok-posted.ensures in
    all_room g.m.now c.len.result p.horizon c.in_ok-scratch.scratch c.in_ok-scratch.ensures (c.len.ensures ∙ ap length e.sets) e.horizon

pub returns-clause-walk : goal.returns-clause-walk
returns-clause-walk c nodes =
    let g = c.args.rules.now in first_walk g.m.now g.limit nodes _ c.in_ok-outer.ensures.first refl refl refl refl refl
