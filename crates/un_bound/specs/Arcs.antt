-- Where the arcs of a block lead.
use Rattle.std.specs.Prelude.{ℕ, ◌≡◌, ◌+◌, ◌-◌, ◌<◌, ◌≤◌, ◌^◌, false, List, [], ◌∷◌, All, AllPairs, IfSome, length, slice_get}
use Rattle.un_ir.specs.declared.extended.ExtKind.{ExtKind}
use Rattle.un_ir.specs.declared.extended.ExtKind.TheVariants.{Out, Body, End}
use Rattle.un_ir.specs.declared.extended.ExtOp.{ExtOp}
use Rattle.un_ir.specs.declared.extended.ExtBlock.{ExtBlock}
use Rattle.un_isa.specs.declared.op.Op.{Op}
use Rattle.un_isa.specs.Does.{is_transfer}
use Rattle.un_model.specs.declared.model.Model.{Model}
use Rattle.un_model.specs.Extended.{HasSmallCounts}
use Rattle.un_bound.specs.declared.lengths.TheConstants.{ROOM}
use Rattle.un_model.specs.declared.model.Arc.{Arc}
use Rattle.un_model.specs.Instructions.{instruction_of}

-- nothing waits for a block's end, nor for a transfer; its start and optional operations wait for nothing
abbrev pub MayLead : ExtKind → Type 0
MayLead Out = ⊥
MayLead kind = IfSome (instruction_of kind 0) (λ (op : Op). is_transfer op ≡ false)

abbrev pub MayWait : ExtKind → Type 0
MayWait Out = Unit {0}
MayWait (Body o) = Unit {0}
MayWait (End term) = Unit {0}
MayWait kind = ⊥

-- an arc from an operation to a later one of a block of which the first operation has the number n
pub record LeadsOn (n : ℕ) (ops : List ExtOp) (arc : Arc) : Type 0 where
  pub here : n ≤ arc.from.0
  pub forward : arc.from.0 < arc.to.0
  pub within : arc.to.0 < n + length ops
  pub short : arc.gap < 2 ^ 8
  pub from : IfSome (slice_get ops (arc.from.0 - n)) (λ (op : ExtOp). MayLead op.kind)
  pub to : IfSome (slice_get ops (arc.to.0 - n)) (λ (op : ExtOp). MayWait op.kind)

-- by the operations to which they lead
abbrev pub IsBefore : Arc → Arc → Type 0
IsBefore a b = a.to.0 ≤ b.to.0

pub record LeadOn (n : ℕ) (ops : List ExtOp) (arcs : List Arc) : Type 0 where
  pub each : All (LeadsOn n ops) arcs
  pub rising : AllPairs IsBefore arcs

-- those of each block, of which the first operation of the first has the number n
abbrev pub AllLeadOn : ℕ → List ExtBlock → List (List Arc) → Type 0
AllLeadOn n [] arcs = Unit {0}
AllLeadOn n (block ∷ blocks) [] = Unit {0}
AllLeadOn n (block ∷ blocks) (here ∷ arcs) = LeadOn n block.ops here × AllLeadOn (n + length block.ops) blocks arcs

-- there is room for the cycle of each operation
abbrev pub IsShort : ExtBlock → Type 0
IsShort block = length block.ops ≤ ROOM

-- so few that the operations of all blocks can be numbered
abbrev pub HasFewOps : ExtBlock → Type 0
HasFewOps block = length block.ops < 2 ^ 24

-- no horizon is so short that each operation has no cycle of its own
abbrev pub IsLong : ExtBlock → Type 0
IsLong block = length block.ops ≤ block.horizon

-- what bounds rest on: few blocks, which run rarely and have few operations, and arcs that lead on
pub record IsOrderly (m : Model) : Type 0 where
  pub counts : HasSmallCounts m.ext
  pub few : All HasFewOps m.ext.blocks
  pub long : All IsLong m.ext.blocks
  pub arcs : AllLeadOn 0 m.ext.blocks m.arcs
