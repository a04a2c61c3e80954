use Rattle.std.proofs.Common.{◌∙◌}
use Rattle.un_listing_reader.proofs.LabelEq.{any_same}
use Rattle.un_listing_reader.proofs.labels.Labels.has.Goals as goal

pub returns : goal.returns
returns c = rw (← c.self.view_is) (c.contains.ensures ∙ any_same c.args.label.now c.self.inside.places.keys)
