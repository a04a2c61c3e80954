use Rattle.std.proofs.Common.{refl, sym, subst, List, map}
use Rattle.std.specs.List.{AllZip}
use Rattle.un_rooms.specs.Calls.{SeesCall}
use Rattle.un_ir.specs.Kinds.{is_call_kind}
use Rattle.un_sites.specs.Postings.{with_kind}
use Rattle.un_sites.specs.Rooms.{users_of}
use Rattle.un_sites.specs.Sites.{place_of}
use Rattle.un_rooms.specs.declared.call_rows.CallSite.{CallSite}
use Rattle.un_rooms.proofs.Gathering.{span_among, gathered_long}
use Rattle.un_rooms.proofs.Seeing.{long_calls}
use Rattle.un_rooms.proofs.post_clobbers.post_span.Goals as goal

pub post_spared_all-requires-clause-users : goal.post_spared_all-requires-clause-users
post_spared_all-requires-clause-users c =
    span_among c.args.span.first c.args.span.count (users_of (map place_of c.args.spots.now)) _ c.args.temps.now _
    c.in_ok-lists.ensures refl c.requires

pub post_spared_all-requires-clause-calls : goal.post_spared_all-requires-clause-calls
post_spared_all-requires-clause-calls c =
    long_calls c.args.span.first c.args.span.count (users_of (map place_of c.args.spots.now)) _ _ _
    c.in_ok-lists.ensures c.as_slice.ensures c.in_ok-calls.ensures.long

pub returns : goal.returns
returns c =
    let ps = map place_of c.args.spots.now in
    c.in_ok-post_spared_all.ensures c.args.arcs.now ps
    (gathered_long c.args.span.first c.args.span.count (users_of ps) _ c.in_ok-lists.ensures)
    (subst (λ (calls : List CallSite). AllZip (SeesCall c.args.arcs.now ps c.args.span.first) (with_kind is_call_kind ps) calls)
    (sym c.as_slice.ensures) c.in_ok-calls.ensures.sees)
