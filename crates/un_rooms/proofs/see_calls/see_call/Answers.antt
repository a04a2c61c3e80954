use Rattle.std.proofs.Common.{Bool, List, subst, sym, refl, [], ◌∷◌}
use Rattle.un_rooms.specs.Reach.{Marks, leading}
use Rattle.un_rooms.proofs.see_calls.see_call.Goals as goal

pub returns-clause-sees : goal.returns-clause-sees
returns-clause-sees c = λ ps first users. record {
  op = refl;
  at = c.cycle_var.ensures;
  leads = subst (λ (ms : List Bool). Marks c.args.reach.low ms (leading c.args.arcs.now (c.args.call.now.op ∷ []))) (sym c.from_vec.ensures)
      c.in_ok-marks.ensures;
  users = users;
}
