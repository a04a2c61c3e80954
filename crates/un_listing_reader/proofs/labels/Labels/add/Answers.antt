use Rattle.std.proofs.Common.{◌∙◌}
use Rattle.un_listing_reader.proofs.LabelEq.{add_same}
use Rattle.un_listing_reader.proofs.labels.Labels.add.Goals as goal
use Rattle.un_listing_reader.proofs.labels.Labels.add.Goals.{in-Ok, in-Err}

pub returns : goal.returns
returns c = elim c.match-insert.branch [
  | in-Ok w ↦ let e = w.in-Ok.ensures.keys in rw w.result-is (rw (← c.self.view_is)
      (e ∙ add_same c.self.inside.places.keys c.args.label.now))
  | in-Err w ↦ rw w.result-is tt
]
