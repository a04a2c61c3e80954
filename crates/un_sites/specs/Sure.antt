-- What crosses a call in every solution, said by chains of arcs.
use Rattle.std.specs.Prelude.{ℕ, ◌≡◌, ◌≢◌, ◌⊎◌, true, List, Contains}
use Rattle.un_base.specs.declared.ids.TempId.{TempId}
use Rattle.un_ir.specs.Kinds.{is_mandatory, ends_block}
use Rattle.un_ir.specs.Linear.{first_of}
use Rattle.un_ir.specs.declared.extended.ExtKind.TheVariants.{In}
use Rattle.un_ir.specs.declared.extended.Operand.{Operand}
use Rattle.un_model.specs.declared.model.Arc.{Arc}
use Rattle.un_sites.specs.Places.{Place}

-- arcs, one after another, lead from operation a to another one; none are needed to itself
pub data Chain (arcs : List Arc) (a : ℕ) : ℕ → Type 0 where
  here : Chain arcs a a
  along : (c : Arc) → Chain arcs a c.from.0 → Contains arcs c → Chain arcs a c.to.0

-- every solution issues the operation, and an operand of it has value x
pub record Reads (x : TempId) (p : Place) : Type 0 where
  pub issued : is_mandatory p.it.kind ≡ true
  pub operand : Operand
  pub listed : Contains p.it.operands operand
  pub value : first_of operand.alts ≡ x.0

-- A value of a block crosses a call, wherever the two stand: it is there at the block's start, or a chain of arcs leads from its definer,
-- which is not the call, to the call; and it is read by what ends the block, or by another operation to which a chain leads from the call.
pub record SurelyCrosses (arcs : List Arc) (ps : List Place) (call : Place) (x : TempId) : Type 0 where
  pub definer : Place
  pub defined : Contains ps definer
  pub gives : Contains definer.it.results x
  pub other : definer.op ≢ call.op
  pub before : (definer.it.kind ≡ In) ⊎ Chain arcs definer.op call.op
  pub reader : Place
  pub listed : Contains ps reader
  pub reads : Reads x reader
  pub behind : (ends_block reader.it.kind ≡ true) ⊎ ((reader.op ≢ call.op) × Chain arcs call.op reader.op)
