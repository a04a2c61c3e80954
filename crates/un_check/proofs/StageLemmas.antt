-- What waits where a check goes on to.
use Rattle.std.proofs.Common.{ℕ, zero, suc, ◌≡◌, ◌<◌, ◌≤◌, ◌+◌, ◌-◌, Bool, true, false, List, [], ◌∷◌, ◌++◌, map, Some, None, Ok, Err, OnOk, refl, sym, ap, subst, ◌∙◌, arith}
use Rattle.std.specs.declared.option.Option.{Option}
use Rattle.std.specs.declared.result.Result.{Result}
use Rattle.un_domains.specs.Sets.{Sets}
use Rattle.un_tree.specs.Boxes.{reached}
use Rattle.un_tree.specs.Waits.{Waiting, Whole, Begins, Inside, IsPlain, HasSidesIn, MayStand, after, begins}
use Rattle.un_tree.specs.declared.node.Decision.{Decision}
use Rattle.un_tree.specs.declared.node.Node.{Node}
use Rattle.un_tree.specs.declared.node.Node.TheVariants.{Branch, Closed, Open, Split, Part}
use Rattle.un_model.specs.declared.model.Model.{Model}
use Rattle.un_stand.specs.Rooms.{IsPartAt, path_of}
use Rattle.un_stand.proofs.ModelRooms.{part_room}
use Rattle.un_stand.specs.declared.room.Room.{Room}
use Rattle.un_walk.specs.Routes.{branch_at, paths_after}
use Rattle.un_walk.specs.Turns.{paths_at, paths_behind, waiting_at, waits}
use Rattle.un_walk.proofs.RouteLemmas.{after_by}
use Rattle.un_check.specs.Steps.{CanPass, CanStep, number_at, outer_stage, over_waits}
use Rattle.un_check.specs.Walks.{IsStageAt, behind, here, in_part, parts_from, stage_waits}
use Rattle.un_check.specs.declared.stage.Stage.{Stage}
use Rattle.un_check.specs.declared.stage.Stage.TheVariants.{InPart}

-- ---- from part to part

pub parts_some : (n k : ℕ) (b : Sets) → k < n → parts_from n k b ≡ Begins k b ∷ parts_from n (k + 1) b
parts_some n k b lt = let e : n - k ≡ suc (n - (k + 1)) = omega (arith, lt) in ap (λ (j : ℕ). begins k j b) e

pub parts_none : (n k : ℕ) (b : Sets) → n ≤ k → parts_from n k b ≡ []
parts_none n k b le = let e : n - k ≡ zero = omega (arith, le) in ap (λ (j : ℕ). begins k j b) e

-- ---- outside of parts

outer_waits : (n : ℕ) (root : Sets) (ds : List Decision) (more : Bool)
    → waiting_at root ds more ≡ stage_waits n (reached root ds) (waits root ds) (outer_stage more)
outer_waits n root ds true = refl
outer_waits n root ds false = refl

-- behind a node that is no Split
pub left_waits : (n : ℕ) (root : Sets) (node : Node) (old new : List Decision) (more : Bool) → IsPlain node
    → paths_after (branch_at node) old (paths_behind [] old) ≡ paths_at new more
    → after n node (Whole (reached root old)) (waits root old) ≡ stage_waits n (reached root new) (waits root new) (outer_stage more)
left_waits n root node old new more plain e = after_by n root node old new more plain e ∙ outer_waits n root new more

-- behind the last part
pub turned_waits : (n : ℕ) (root : Sets) (old new : List Decision) (more : Bool) → paths_behind [] old ≡ paths_at new more
    → waits root old ≡ stage_waits n (reached root new) (waits root new) (outer_stage more)
turned_waits n root old new more e = left_waits n root Closed old new more tt e

pub outer_at : (m : Model) (b : Sets) (more : Bool) → IsStageAt m b (outer_stage more)
outer_at m b true = tt
outer_at m b false = tt

pub plain_else : (node : Node) (b : Sets) → MayStand node (Whole b) → (node ≡ Split → ⊥) → IsPlain node
plain_else (Branch v x) b may never = tt
plain_else Closed b may never = tt
plain_else Open b may never = tt
plain_else Split b may never = absurd (never refl)
plain_else (Part number) b may never = absurd may

-- ---- in a part

pub part_plain : (node : Node) (k : ℕ) (number : Option ℕ) (b : Sets) → MayStand node (Inside k number b) → IsPlain node
part_plain (Branch v x) k number b may = tt
part_plain Closed k number b may = tt
part_plain Open k number b may = absurd may
part_plain Split k number b may = absurd may
part_plain (Part other) k number b may = absurd may

-- where a node may stand in a part, it may at any box
pub may_any : (node : Node) (k : ℕ) (number : Option ℕ) (b d : Sets) → MayStand node (Inside k number b) → MayStand node (Inside k number d)
may_any (Branch v x) k number b d may = tt
may_any Closed k number b d may = tt
may_any Open k number b d may = absurd may
may_any Split k number b d may = absurd may
may_any (Part other) k number b d may = absurd may

-- both sides are there whether a box is one of a part or not
pub part_sides : (node : Node) (k : ℕ) (number : Option ℕ) (b : Sets) → HasSidesIn node (Inside k number b) → HasSidesIn node (Whole b)
part_sides (Branch v x) k number b h = h
part_sides Closed k number b h = tt
part_sides Open k number b h = tt
part_sides Split k number b h = tt
part_sides (Part other) k number b h = tt

-- what waits behind a node in a part, by what does behind it outside
lifted : (n k : ℕ) (number : Option ℕ) (node : Node) (b : Sets) (ws tail : List Waiting) → MayStand node (Inside k number b)
    → after n node (Inside k number b) (map (in_part k number) ws ++ tail) ≡ map (in_part k number) (after n node (Whole b) ws) ++ tail
lifted n k number (Branch v x) b ws tail may = refl
lifted n k number Closed b ws tail may = refl
lifted n k number Open b ws tail may = absurd may
lifted n k number Split b ws tail may = absurd may
lifted n k number (Part other) b ws tail may = absurd may

module _ (n k : ℕ) (number : Option ℕ) (node : Node) (b : Sets) (ws : List Waiting) (old : List Decision)
    (may : MayStand node (Inside k number (reached b old))) where
  in_waits : (new : List Decision) (more : Bool) → paths_after (branch_at node) old (paths_behind [] old) ≡ paths_at new more
      → after n node (Inside k number (reached b old)) (map (in_part k number) (waits b old) ++ (parts_from n (k + 1) b ++ ws))
      ≡ map (in_part k number) (waiting_at b new more) ++ (parts_from n (k + 1) b ++ ws)
  in_waits new more e =
      lifted n k number node (reached b old) (waits b old) (parts_from n (k + 1) b ++ ws) may
      ∙ ap (λ (vs : List Waiting). map (in_part k number) vs ++ (parts_from n (k + 1) b ++ ws))
      (after_by n b node old new more (part_plain node k number (reached b old) may) e)

  -- where there is more of the part's tree
  pub more_waits : (room : Room) (more : Bool) → more ≡ true
      → paths_after (branch_at node) old (paths_behind [] old) ≡ paths_at (path_of room) more
      → after n node (Inside k number (reached b old)) (map (in_part k number) (waits b old) ++ (parts_from n (k + 1) b ++ ws))
      ≡ over_waits n b ws (InPart k number room) None
  more_waits room more is e = in_waits (path_of room) more e
      ∙ ap (λ (c : Bool). map (in_part k number) (waiting_at b (path_of room) c) ++ (parts_from n (k + 1) b ++ ws)) is

  -- and where the part is over
  pub over_at : (s : Stage) (new : List Decision) (more : Bool) (next : ℕ) → more ≡ false → next ≡ k + 1
      → paths_after (branch_at node) old (paths_behind [] old) ≡ paths_at new more
      → after n node (Inside k number (reached b old)) (map (in_part k number) (waits b old) ++ (parts_from n (k + 1) b ++ ws))
      ≡ over_waits n b ws s (Some next)
  over_at s new more next is same e = in_waits new more e
      ∙ (ap (λ (c : Bool). map (in_part k number) (waiting_at b new c) ++ (parts_from n (k + 1) b ++ ws)) is
      ∙ ap (λ (j : ℕ). parts_from n j b ++ ws) (sym same))

-- ---- into a part

pub begun_waits : (n k : ℕ) (node : Node) (b : Sets) (ws : List Waiting) → MayStand node (Begins k b)
    → after n node (Begins k b) ws ≡ Inside k (number_at node) b ∷ ws
begun_waits n k (Branch v x) b ws may = absurd may
begun_waits n k Closed b ws may = absurd may
begun_waits n k Open b ws may = absurd may
begun_waits n k Split b ws may = absurd may
begun_waits n k (Part number) b ws may = refl

pub opened_waits : (n k : ℕ) (number : Option ℕ) (b : Sets) (ws : List Waiting) (room : Room) → path_of room ≡ []
    → Inside k number b ∷ (parts_from n (k + 1) b ++ ws) ≡ stage_waits n b ws (InPart k number room)
opened_waits n k number b ws room path =
    ap (λ (ds : List Decision). Inside k number (reached b ds) ∷ (map (in_part k number) (waits b ds) ++ (parts_from n (k + 1) b ++ ws)))
    (sym path)

-- ---- by the stage that is known

pub ok_by : {A E : Type 0} (r : Result A E) (P Q : Type 0) → (P → Q) → OnOk r P → OnOk r Q
ok_by (Ok a) P Q f p = f p
ok_by (Err e) P Q f p = tt

pub from_stage : (n : ℕ) (node : Node) (b : Sets) (ws : List Waiting) (s t : Stage) → s ≡ t
    → after n node (here b s) (behind n b ws s) ≡ after n node (here b t) (behind n b ws t)
from_stage n node b ws s t is = ap (λ (r : Stage). after n node (here b r) (behind n b ws r)) is

-- a node that can be passed in a part can be passed at the room's own box
pub step_part_at : (m : Model) (b : Sets) (node : Node) (s : Stage) (k : ℕ) (number : Option ℕ) (room : Room) → s ≡ InPart k number room
    → IsStageAt m b s → CanPass b node s → CanStep node s
step_part_at m b node s k number room is at pass =
    let h : IsPartAt b m k number room = subst (IsStageAt m b) is at in
    let p = subst (CanPass b node) is pass in
    subst (CanStep node) (sym is) (
      part_room b m k number room h,
      subst (λ (c : Sets). HasSidesIn node (Inside k number c)) (sym h.room.stand.sets) p.0,
      subst (λ (c : Sets). MayStand node (Inside k number c)) (sym h.room.stand.sets) p.1,
    )
