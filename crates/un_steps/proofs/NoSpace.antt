-- What an operation that is active chooses lies in the operand's space.
use Rattle.std.proofs.Common.{ℕ, ◌≡◌, List}
use Rattle.std.specs.Prelude.{slice_index}
use Rattle.un_ir.specs.declared.extended.Ext.{Ext}
use Rattle.un_domains.specs.Sets.{Sets, IsIn}
use Rattle.un_model.specs.declared.model.Options.{Options}
use Rattle.un_model.specs.Schedules.{value_by}
use Rattle.un_model.specs.Variables.{model_of}
use Rattle.un_lists.proofs.Lists.{Member}
use Rattle.un_model.proofs.Placed.{Placed, vars_of}
use Rattle.un_model.proofs.PlacedSchedules.{all}
use Rattle.un_model.proofs.Readings.{Solved}
use Rattle.un_steps.specs.Words.{alternative}
use Rattle.un_steps.specs.Rules.{IsNoSpace, HasNoSpace}
use Rattle.un_steps.proofs.Boxes.{some_of}
use Rattle.un_steps.proofs.Choosing.{chosen, register_in}
use Rattle.un_steps.proofs.Grounds.{sure_active, number_left}
use Rattle.un_steps.proofs.Placing.{operation_of}

module _ (e : Ext) (o : Options) (x : List ℕ) (h : Solved e o x) (s : Sets) (inside : IsIn x s) where
  pub no_space : (q : Placed) (v y : ℕ) → Member q (all e o x) → IsNoSpace (model_of e o) s (operation_of q) v y → slice_index x v ≡ y → ⊥
  no_space q v y m (inner, sure, goes) is =
      let a = some_of (alternative (operation_of q) v y) (HasNoSpace (model_of e o) s (operation_of q)) goes in
      let act = sure_active e o x h s inside q m sure in
      let c = chosen e o x h s inside q v y a.0 m act a.1 is in
      let vars = vars_of q in
      a.2 (value_by x vars.instr) (register_in x c.spot) (number_left e o x h s inside q m act) c.register c.space
