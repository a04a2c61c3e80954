use Rattle.un_stand.proofs.ModelRooms.{at_goes, at_room}
use Rattle.un_search.proofs.AttemptLemmas.{answers, by_root}
use Rattle.un_search.proofs.EnoughLemmas.{not_cut}
use Rattle.un_search.proofs.PlaceLemmas.{back_at_root, first_is, root_rests}
use Rattle.un_search.proofs.attempt.search.Goals as goal

pub attempt-requires-clause-fresh : goal.attempt-requires-clause-fresh
attempt-requires-clause-fresh c =
    let e = c.first_place-place.ensures in (
      first_is (record { m = c.args.m; limit = c.args.limit }) c.args.stores c.requires.root c.first_place-place.result e.stand e.first e.engine
          e.scratch,
      e.first,
    )

pub to_first-requires : goal.to_first-requires
to_first-requires c = at_room c.args.m.now c.args.limit _ c.in_ok-tried.ensures.ready.at

pub stores_of-requires-clause-at : goal.stores_of-requires-clause-at
stores_of-requires-clause-at c =
    let ready = c.in_ok-tried.ensures.ready in
    record { rules = ready.rules; at = at_goes c.args.m.now c.args.limit _ _ ready.at c.to_first.ensures.at; scratch = ready.scratch }

pub stores_of-requires-clause-rests : goal.stores_of-requires-clause-rests
stores_of-requires-clause-rests c = root_rests (record { m = c.args.m; limit = c.args.limit }) c.args.stores c.requires.root

pub returns-clause-found : goal.returns-clause-found
returns-clause-found c =
    let r = c.requires.root in
    (answers c.args.m.now c.args.limit c.args.stores.engine.props r.stores.posted r.full c.args.nodes _ _ c.answer_of.ensures
    c.in_ok-tried.ensures.tried).0

pub returns-clause-refuted : goal.returns-clause-refuted
returns-clause-refuted c =
    let r = c.requires.root in
    (answers c.args.m.now c.args.limit c.args.stores.engine.props r.stores.posted r.full c.args.nodes _ _ c.answer_of.ensures
    c.in_ok-tried.ensures.tried).1

pub returns-clause-cut : goal.returns-clause-cut
returns-clause-cut c =
    let r = c.requires.root in
    (answers c.args.m.now c.args.limit c.args.stores.engine.props r.stores.posted r.full c.args.nodes _ _ c.answer_of.ensures
    c.in_ok-tried.ensures.tried).2

pub returns-clause-first : goal.returns-clause-first
returns-clause-first c few = by_root c.args.m.now c.args.limit _ _ c.answer_of.ensures (c.in_ok-tried.ensures.first few)

pub returns-clause-enough : goal.returns-clause-enough
returns-clause-enough c enough =
    let r = c.requires.root in
    not_cut c.args.m.now r.full c.args.nodes enough c.args.limit _
    (answers c.args.m.now c.args.limit c.args.stores.engine.props r.stores.posted r.full c.args.nodes _ _ c.answer_of.ensures
    c.in_ok-tried.ensures.tried).2

pub returns-clause-root : goal.returns-clause-root
returns-clause-root c =
    let ready = c.in_ok-tried.ensures.ready in
    let e = c.stores_of.ensures in
    back_at_root (record { m = c.args.m; limit = c.args.limit }) c.args.stores c.requires.root c.stores_of.result _ _
    (at_goes c.args.m.now c.args.limit _ _ ready.at c.to_first.ensures.at) ready.scratch c.to_first.ensures.first e.engine e.cuts e.scratch
