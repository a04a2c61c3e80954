-- The stores of a search of a model, and where it stands.
use Rattle.std.specs.Prelude.{ℕ, ◌≡◌, ◌+◌, List, Option, length}
use Rattle.un_domains.specs.Sets.{Sets}
use Rattle.un_ir.specs.Extended.{IsExtended}
use Rattle.un_isa.specs.Fit.{IsFit}
use Rattle.un_model.specs.declared.model.Model.{Model}
use Rattle.un_model.specs.Variables.{IsModel}
use Rattle.un_prop.specs.Pruning.{HasRoom}
use Rattle.un_prop.specs.declared.propagator.Scratch.{Scratch}
use Rattle.un_kinds.specs.declared.any.AnyProp.{AnyProp}
use Rattle.un_post.specs.Posts.{largest_horizon}
use Rattle.un_model.specs.Boxes.{root_of}
use Rattle.un_certificate.specs.Posted.{ArePosted}
use Rattle.un_stand.specs.Rooms.{CanCheck, IsAt}
use Rattle.un_stand.specs.declared.rules.Rules.{Rules}
use Rattle.un_search.specs.declared.rounds.Place.{Place}

-- the propagators of a model, the sets that they leave and the sets of a box, which have the variables of the model, and room for looks
pub record AreStores (m : Model) (limit : Option ℕ) (ps : List AnyProp) (ends cuts : Sets) (scratch : Scratch) : Type 0 where
  pub model : IsModel m
  pub extended : IsExtended m.ext
  pub table : IsFit m.ext.table
  pub posted : ArePosted m limit ps
  pub ends_long : length ends ≡ length (root_of m)
  pub cuts_long : length cuts ≡ length (root_of m)
  pub room : HasRoom (length (root_of m)) (largest_horizon m.ext.blocks + 1) scratch

-- the place of a search in its tree, with room for looks
pub record IsPlace (r : Rules) (p : Place) : Type 0 where
  pub rules : CanCheck r
  pub at : IsAt r.m.now r.limit p.room
  pub scratch : HasRoom (length (root_of r.m.now)) (largest_horizon r.m.now.ext.blocks + 1) p.scratch
