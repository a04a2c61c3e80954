use Rattle.std.proofs.Common.{◌∙◌, sym}
use Rattle.un_faults.proofs.NameEq.{place_found, place_missing}
use Rattle.un_faults.proofs.names.Names.place.Goals as goal

pub returns-in-Some-clause-place : goal.returns-in-Some-clause-place
returns-in-Some-clause-place c =
    rw (← c.self.view_is) (place_found c.args.name.now c.self.inside.places.keys _ (sym c.in-Some.is ∙ c.get_index_of.ensures.index))

pub returns-in-None-clause-place : goal.returns-in-None-clause-place
returns-in-None-clause-place c =
    rw (← c.self.view_is) (c.len.ensures.len
    ∙ place_missing c.args.name.now c.self.inside.places.keys (sym c.in-None.is ∙ c.get_index_of.ensures.index))
