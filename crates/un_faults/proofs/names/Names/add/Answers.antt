use Rattle.std.proofs.Common.{◌∙◌}
use Rattle.un_faults.proofs.NameEq.{add_same}
use Rattle.un_faults.proofs.names.Names.add.Goals as goal
use Rattle.un_faults.proofs.names.Names.add.Goals.{in-Ok, in-Err}

-- src/names.rt:57:5
pub returns : goal.returns
returns c = elim c.match-insert.branch [
  | in-Ok w ↦ let e =
      w.in-Ok.ensures.keys in rw w.result-is (rw (← c.self.view_is) (e ∙ add_same c.self.inside.places.keys c.args.name.now))
  | in-Err w ↦ rw w.result-is tt
]
