-- Where a walk over boxes stands: at a box that decisions make of a first one, with what rounds leave of it. Which propagators run there is
-- a parameter: those of a model, or those of one of its blocks.
use Rattle.std.specs.Prelude.{ℕ, ◌≡◌, ◌≢◌, ⊤, List, [], ◌∷◌, ◌++◌, None, Some, length}
use Rattle.std.specs.declared.option.Option.{Option}
use Rattle.un_domains.specs.Order.{Below}
use Rattle.un_domains.specs.Sets.{Sets, NoneEmpty}
use Rattle.un_engine.specs.Engines.{State}
use Rattle.un_ir.specs.Extended.{IsExtended}
use Rattle.un_isa.specs.Fit.{IsFit}
use Rattle.un_kinds.specs.declared.any.AnyProp.{AnyProp}
use Rattle.un_model.specs.Variables.{IsModel}
use Rattle.un_model.specs.declared.model.Model.{Model}
use Rattle.un_post.specs.PartPosts.{fix_part}
use Rattle.un_post.specs.Posts.{fix_at}
use Rattle.un_tree.specs.Boxes.{IsBox, decided, reached}
use Rattle.un_tree.specs.declared.node.Decision.{Decision}
use Rattle.un_model.specs.Boxes.{root_of}
use Rattle.un_certificate.specs.Posted.{AreRounds, ArePosted, ArePartPosted, IsPosted}
use Rattle.un_walk.specs.Stands.{AllSplit, IsStandAt}
use Rattle.un_stand.specs.declared.room.Room.{Room}
use Rattle.un_stand.specs.declared.rules.Rules.{Rules}

-- a model for which propagators can be posted under a limit
pub record CanCheck (r : Rules) : Type 0 where
  pub model : IsModel r.m.now
  pub extended : IsExtended r.m.now.ext
  pub table : IsFit r.m.now.ext.table
  pub full : NoneEmpty (root_of r.m.now)
  pub postable : IsPosted r.m.now r.limit

-- the rounds fail on what each decision makes
abbrev pub AllLost : (Sets → Option Sets) → Sets → List Decision → Type 0
AllLost fix b [] = ⊤
AllLost fix b (d ∷ ds) = (fix (decided d b) ≡ None) × AllLost fix (decided d b) ds

-- from box b on, a mark for each decision: the marks and the last sets are what rounds leave of the boxes on the way
abbrev pub Leveled : Sets → (Sets → Option Sets) → Sets → List Decision → List Sets → Sets → Type 0
Leveled root fix b [] [] s = IsBox root b × (fix b ≡ Some s)
Leveled root fix b [] (m ∷ ms) s = ⊥
Leveled root fix b (d ∷ ds) [] s = ⊥
Leveled root fix b (d ∷ ds) (m ∷ ms) s = IsBox root b × (fix b ≡ Some m) × Leveled root fix (decided d b) ds ms s

-- an engine of these propagators, at what the rounds leave of the box of decisions, with a mark for each
pub record IsEngineAt (root : Sets) (fix : Sets → Option Sets) (ps : List AnyProp) (ds : List Decision) (e : State AnyProp) : Type 0 where
  pub props : e.props ≡ ps
  pub long : length e.store.sets ≡ length root
  pub at : Leveled root fix root ds e.store.marked e.store.sets

-- there is no engine where the rounds fail on the first box
abbrev pub IsEndAt : Sets → (Sets → Option Sets) → List AnyProp → List Decision → Option (State AnyProp) → Type 0
IsEndAt root fix ps ds None = (ds ≡ []) × (fix root ≡ None)
IsEndAt root fix ps ds (Some e) = IsEngineAt root fix ps ds e

-- what the rounds leave of the box of the first decisions: they fail on the others'
pub record IsEndBy (root : Sets) (fix : Sets → Option Sets) (ps : List AnyProp) (ds : List Decision) (e : Option (State AnyProp)) : Type 0 where
  pub live : List Decision
  pub dead : List Decision
  pub path : ds ≡ live ++ dead
  pub end : IsEndAt root fix ps live e
  pub lost : AllLost fix (reached root live) dead

-- the decisions on the way
abbrev pub path_of : Room → List Decision
path_of r = r.stand.path.items

-- the box of the decisions, and what the rounds of these propagators leave on the way there from a first box
pub record IsRoomAt (root : Sets) (fix : Sets → Option Sets) (ps : List AnyProp) (r : Room) : Type 0 where
  pub rounds : AreRounds root fix ps
  pub stand : IsStandAt root r.stand
  pub ends : IsEndBy root fix ps (path_of r) r.engine

-- of some propagators, from some first box
pub record IsRoom (r : Room) : Type 0 where
  pub root : Sets
  pub fix : Sets → Option Sets
  pub props : List AnyProp
  pub at : IsRoomAt root fix props r

-- whatever runs in a room, and wherever it began, the same holds of another
abbrev pub Goes : Room → Room → Type 0
Goes a b = (root : Sets) (fix : Sets → Option Sets) (ps : List AnyProp) → IsRoomAt root fix ps a → IsRoomAt root fix ps b

-- the rounds fail on a room's box, or they do not
abbrev pub IsLost : Room → Type 0
IsLost r = (root : Sets) (fix : Sets → Option Sets) (ps : List AnyProp) → IsRoomAt root fix ps r → fix (reached root (path_of r)) ≡ None

abbrev pub Rests : Room → Type 0
Rests r = (root : Sets) (fix : Sets → Option Sets) (ps : List AnyProp) → IsRoomAt root fix ps r → fix (reached root (path_of r)) ≢ None

-- a room, from whose first box on each decision of a path splits the box that it finds
pub record IsRoomOn (ds : List Decision) (r : Room) : Type 0 where
  pub root : Sets
  pub fix : Sets → Option Sets
  pub props : List AnyProp
  pub at : IsRoomAt root fix props r
  pub split : AllSplit root ds

-- the propagators are those of a model under a limit, and the first box is the model's
pub record IsAt (m : Model) (limit : Option ℕ) (r : Room) : Type 0 where
  pub props : List AnyProp
  pub posted : ArePosted m limit props
  pub room : IsRoomAt (root_of m) (fix_at m limit) props r

-- they are those of a block of a model under a limit on its own cost, and the first box is this one of the model's
pub record IsPartAt (first : Sets) (m : Model) (k : ℕ) (limit : Option ℕ) (r : Room) : Type 0 where
  pub props : List AnyProp
  pub posted : ArePartPosted m k limit props
  pub within : Below first (root_of m)
  pub room : IsRoomAt first (fix_part m k limit) props r
