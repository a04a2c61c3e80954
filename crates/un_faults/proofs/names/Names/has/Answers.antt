use Rattle.std.proofs.Common.{◌∙◌}
use Rattle.un_faults.proofs.NameEq.{any_same}
use Rattle.un_faults.proofs.names.Names.has.Goals as goal

-- src/names.rt:47:5
pub returns : goal.returns
returns c = rw (← c.self.view_is) (c.contains.ensures ∙ any_same c.args.name.now c.self.inside.places.keys)
