-- Steps of the check of a tree from one place to the next.
use Rattle.std.specs.Prelude.{ℕ, Bool, true, false, ◌-◌, List, ◌++◌, None, Some}
use Rattle.std.specs.declared.option.Option.{Option}
use Rattle.un_domains.specs.Sets.{Sets}
use Rattle.un_model.specs.declared.model.Model.{Model}
use Rattle.un_tree.specs.Boxes.{reached}
use Rattle.un_tree.specs.Waits.{Waiting, Whole, Begins, Inside, HasSidesIn, MayStand}
use Rattle.un_tree.specs.declared.node.Node.{Node}
use Rattle.un_tree.specs.declared.node.Node.TheVariants.{Branch, Closed, Open, Split, Part}
use Rattle.un_stand.specs.Rooms.{IsRoom, path_of}
use Rattle.un_check.specs.Walks.{IsStageAt, parts_from, stage_waits}
use Rattle.un_check.specs.declared.stage.Stage.{Stage}
use Rattle.un_check.specs.declared.stage.Stage.TheVariants.{AtBox, AtPart, InPart, AtEnd}

-- the stage at the outer room, where there is more of the tree or none
abbrev pub outer_stage : Bool → Stage
outer_stage true = AtBox
outer_stage false = AtEnd

-- the number of a Part
abbrev pub number_at : Node → Option ℕ
number_at (Branch v x) = None
number_at Closed = None
number_at Open = None
number_at Split = None
number_at (Part number) = number

-- a node has both sides where it stands, and may stand there
abbrev pub CanPass : Sets → Node → Stage → Type 0
CanPass b n AtBox = HasSidesIn n (Whole b) × MayStand n (Whole b)
CanPass b n (AtPart k) = HasSidesIn n (Begins k b) × MayStand n (Begins k b)
CanPass b n (InPart k number room) =
    HasSidesIn n (Inside k number (reached b (path_of room))) × MayStand n (Inside k number (reached b (path_of room)))
CanPass b n AtEnd = ⊥

-- the same in a part, by the room's own box
abbrev pub CanStep : Node → Stage → Type 0
CanStep n (InPart k number room) =
    IsRoom room × HasSidesIn n (Inside k number room.stand.cuts.sets) × MayStand n (Inside k number room.stand.cuts.sets)
CanStep n _ = ⊥

-- what holds of the room of a part still does
abbrev pub IsOnIn : Model → Sets → Stage → Stage → Type 0
IsOnIn m b s t = IsStageAt m b s → IsStageAt m b t

-- what waits in a part, or where it is over, the parts from the next block on
abbrev pub over_waits : ℕ → Sets → List Waiting → Stage → Option ℕ → List Waiting
over_waits n b ws s None = stage_waits n b ws s
over_waits n b ws s (Some k) = parts_from n k b ++ ws
