-- How far the check of a tree has come: what waits where it stands, outside of parts or in the part of a block.
use Rattle.std.specs.Prelude.{ℕ, ◌≡◌, ◌+◌, ◌-◌, ◌<◌, ⊤, List, [], ◌∷◌, ◌++◌, None, Some, All, map, min}
use Rattle.std.specs.declared.option.Option.{Option}
use Rattle.un_domains.specs.Sets.{Sets}
use Rattle.un_model.specs.declared.model.Model.{Model}
use Rattle.un_post.specs.PartPosts.{IsPartBelow}
use Rattle.un_tree.specs.Boxes.{reached}
use Rattle.un_tree.specs.Covered.{Stands}
use Rattle.un_tree.specs.Texts.{Fits, tree_text}
use Rattle.un_tree.specs.Waits.{Waiting, Whole, Begins, Inside, Visit, IsWhole, begins, visits, outer_count, open_count}
use Rattle.un_tree.specs.declared.node.Node.{Node}
use Rattle.un_model.specs.Boxes.{root_of, IsBelow}
use Rattle.un_stand.specs.Rooms.{IsAt, IsPartAt, path_of}
use Rattle.un_walk.specs.Turns.{waits}
use Rattle.un_certificate.specs.Bounds.{IsLeastOpen}
use Rattle.un_certificate.specs.Joints.{blocks_of, visits_in, IsTreeIn}
use Rattle.un_check.specs.Verdicts.{Keeps}
use Rattle.un_check.specs.declared.stage.Position.{Position}
use Rattle.un_check.specs.declared.stage.Stage.{Stage}
use Rattle.un_check.specs.declared.stage.Stage.TheVariants.{AtBox, AtPart, InPart, AtEnd}
use Rattle.un_check.specs.declared.walk.Walk.{Walk}

-- ---- what waits at a stage

-- what waits in the tree of a part, by what waits in a tree of its box
abbrev pub in_part : ℕ → Option ℕ → Waiting → Waiting
in_part k number (Whole b) = Inside k number b
in_part k number (Begins j b) = Begins j b
in_part k number (Inside j other b) = Inside j other b

-- of n blocks, the parts from block k on
abbrev pub parts_from : ℕ → ℕ → Sets → List Waiting
parts_from n k b = begins k (n - k) b

-- what the next node stands at; behind the end there is none, and what this says is not asked
abbrev pub here : Sets → Stage → Waiting
here b AtBox = Whole b
here b (AtPart k) = Begins k b
here b (InPart k number room) = Inside k number (reached b (path_of room))
here b AtEnd = Begins 0 b

-- what waits behind it, where the outer room is at box b, behind which these wait
abbrev pub behind : ℕ → Sets → List Waiting → Stage → List Waiting
behind n b ws AtBox = ws
behind n b ws (AtPart k) = parts_from n (k + 1) b ++ ws
behind n b ws (InPart k number room) = map (in_part k number) (waits b (path_of room)) ++ (parts_from n (k + 1) b ++ ws)
behind n b ws AtEnd = []

-- all that waits
abbrev pub stage_waits : ℕ → Sets → List Waiting → Stage → List Waiting
stage_waits n b ws AtBox = Whole b ∷ ws
stage_waits n b ws (AtPart k) = Begins k b ∷ (parts_from n (k + 1) b ++ ws)
stage_waits n b ws (InPart k number room) =
    Inside k number (reached b (path_of room)) ∷ (map (in_part k number) (waits b (path_of room)) ++ (parts_from n (k + 1) b ++ ws))
stage_waits n b ws AtEnd = []

-- ---- where a check stands

-- the outer room's box, and what waits behind it outside of parts
abbrev pub box_of : Model → Position → Sets
box_of m p = reached (root_of m) (path_of p.outer)

abbrev pub outside_of : Model → Position → List Waiting
outside_of m p = waits (root_of m) (path_of p.outer)

abbrev pub here_of : Model → Position → Waiting
here_of m p = here (box_of m p) p.stage

abbrev pub behind_of : Model → Position → List Waiting
behind_of m p = behind (blocks_of m) (box_of m p) (outside_of m p) p.stage

abbrev pub waiting_of : Model → Position → List Waiting
waiting_of m p = stage_waits (blocks_of m) (box_of m p) (outside_of m p) p.stage

-- the room of a part is one of what is posted for its block, under its number, from the outer room's box on
abbrev pub IsStageAt : Model → Sets → Stage → Type 0
IsStageAt m b AtBox = ⊤
IsStageAt m b (AtPart k) = k < blocks_of m
IsStageAt m b (InPart k number room) = IsPartAt b m k number room
IsStageAt m b AtEnd = ⊤

pub record IsPositionAt (m : Model) (limit : Option ℕ) (p : Position) : Type 0 where
  pub outer : IsAt m limit p.outer
  pub stage : IsStageAt m (box_of m p) p.stage

-- ---- how far a check has come

-- all nodes before the rest were looked at, keep all points, and stand
pub record IsWalk (m : Model) (limit : Option ℕ) (nodes rest : List Node) (w : Walk) : Type 0 where
  pub done : List Visit
  pub split : visits_in m nodes ≡ done ++ visits (blocks_of m) w.place rest (waiting_of m w.at)
  pub kept : All (Keeps m limit) done
  pub stands : All (Stands (IsBelow m limit) (IsPartBelow m)) done
  pub forth : IsTreeIn m nodes → IsWhole (blocks_of m) rest (waiting_of m w.at)
  pub back : IsWhole (blocks_of m) rest (waiting_of m w.at) → IsTreeIn m nodes
  pub counted : open_count nodes ≡ w.open_leaves + open_count rest
  pub outer : w.outer_nodes ≡ outer_count done
  pub lowest : IsLeastOpen m done w.least

-- the lower of two least costs, where there is a first
abbrev pub lowered : Option ℕ → ℕ → ℕ
lowered None n = n
lowered (Some k) n = min k n

-- each line of a text is a node
pub record AreNodeLines (text : List ℕ) : Type 0 where
  pub nodes : List Node
  pub fit : All Fits nodes
  pub spelled : text ≡ tree_text nodes
