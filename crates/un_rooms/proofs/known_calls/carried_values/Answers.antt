use Rattle.std.proofs.Common.{◌∙◌, Bool, true, List, map, subst, sym}
use Rattle.un_rooms.specs.Marked.{MarksWhere}
use Rattle.un_sites.specs.Crossings.{handed, is_carried, is_crossing}
use Rattle.un_sites.specs.Places.{Place}
use Rattle.un_sites.specs.Sites.{place_of}
use Rattle.un_rooms.proofs.CallWalks.{filter_alike}
use Rattle.un_rooms.proofs.known_calls.carried_values.Goals as goal

pub returns : goal.returns
returns c =
    let behind : List Place = map place_of c.args.behind.now in
    let loose : List Place = map place_of c.args.loose.now in
    let marks = subst (λ (ms : List Bool). MarksWhere (is_carried true behind (handed true behind loose)) ms) (sym c.as_slice.ensures.value)
    c.in_ok-marks.ensures in
    c.in_ok-found.ensures ∙ filter_alike _ (is_crossing true behind loose) c.args.values.now (λ t. marks t.0)
