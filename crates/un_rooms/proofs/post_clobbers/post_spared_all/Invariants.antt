use Rattle.std.proofs.Common.{◌≡◌, ◌++◌, List, length, drop, map}
use Rattle.std.specs.List.{AllZip}
use Rattle.un_model.specs.declared.model.Arc.{Arc}
use Rattle.un_rooms.specs.Calls.{SeesCall}
use Rattle.un_rooms.specs.Gathered.{gathered}
use Rattle.un_sites.specs.Places.{Place}
use Rattle.un_ir.specs.Kinds.{is_call_kind}
use Rattle.un_sites.specs.Postings.{with_kind}
use Rattle.un_sites.specs.Rooms.{spared_at, users_of}
use Rattle.un_sites.specs.Sites.{definers_in}
use Rattle.un_rooms.proofs.post_clobbers.post_spared_all.Given as goal

abbrev pub invariant-loop-t : goal.invariant-loop-t
invariant-loop-t l = (arcs : List Arc) (ps : List Place) → l.lists ≡ gathered l.first (length l.lists) (users_of ps)
    → AllZip (SeesCall arcs ps l.first) (with_kind is_call_kind ps) l.calls → l.props ++ map
    (spared_at l.mask arcs (definers_in l.sites) ps) (drop l.t-index l.temps) ≡ l.initial.props ++ map
    (spared_at l.mask arcs (definers_in l.sites) ps) l.temps
