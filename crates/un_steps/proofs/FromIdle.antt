-- An operation that is active chooses what is given.
use Rattle.std.proofs.Common.{ℕ, ◌≡◌, List}
use Rattle.std.specs.Prelude.{IsSomeAnd, slice_index}
use Rattle.un_ir.specs.declared.extended.Ext.{Ext}
use Rattle.un_domains.specs.Sets.{Sets, IsIn}
use Rattle.un_model.specs.declared.model.Options.{Options}
use Rattle.un_model.specs.Variables.{model_of}
use Rattle.un_lists.proofs.Lists.{Member}
use Rattle.un_model.proofs.Placed.{Placed}
use Rattle.un_model.proofs.PlacedSchedules.{all}
use Rattle.un_model.proofs.Readings.{Solved}
use Rattle.un_steps.specs.Words.{Alternative, alternative, definer_of, IsOff}
use Rattle.un_steps.specs.Rules.{IsFromIdle}
use Rattle.un_steps.proofs.Boxes.{some_of, some_is}
use Rattle.un_steps.proofs.Choosing.{chosen, off_idle}
use Rattle.un_steps.proofs.Grounds.{sure_active}
use Rattle.un_steps.proofs.Placing.{operation_of}

module _ (e : Ext) (o : Options) (x : List ℕ) (h : Solved e o x) (s : Sets) (inside : IsIn x s) where
  pub from_idle : (q : Placed) (v y : ℕ) → Member q (all e o x) → IsFromIdle (model_of e o) s (operation_of q) v y → slice_index x v ≡ y → ⊥
  from_idle q v y m (sure, goes) is =
      let a = some_of (alternative (operation_of q) v y) (λ (a : Alternative). IsSomeAnd (definer_of (model_of e o) a.temp) (IsOff s)) goes in
      let c = chosen e o x h s inside q v y a.0 m (sure_active e o x h s inside q m sure) a.1 is in
      let d = c.spot in
      off_idle e o x h s inside d.definer c.listed (some_is _ (IsOff s) (operation_of d.definer) c.definer a.2) c.active
