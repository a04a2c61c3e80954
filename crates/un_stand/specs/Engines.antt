-- Steps of an engine that may be there.
use Rattle.std.specs.Prelude.{◌≡◌, ⊤, Bool, true, false, List, None, Some, length, option_and_then}
use Rattle.std.specs.declared.option.Option.{Option}
use Rattle.un_domains.specs.Sets.{Sets, NoneEmpty, cut_by}
use Rattle.un_engine.specs.Ends.{IsDeeper}
use Rattle.un_engine.specs.Engines.{State}
use Rattle.un_kinds.specs.AnyProps.{cut_of}
use Rattle.un_kinds.specs.declared.any.AnyProp.{AnyProp}
use Rattle.un_prop.specs.Rounds.{fix_of}
use Rattle.un_domains.specs.Sides.{side_test}
use Rattle.un_tree.specs.declared.node.Decision.{Decision}

-- the last mark was taken back, where there is an engine
abbrev pub IsUndone : Option (State AnyProp) → Option (State AnyProp) → Type 0
IsUndone None None = ⊤
IsUndone None (Some b) = ⊥
IsUndone (Some a) None = ⊥
IsUndone (Some a) (Some b) = IsDeeper b a

-- what the rounds leave of a decision's side of a box, from their end on the box
abbrev pub side_end : List AnyProp → Decision → Sets → Option Sets
side_end ps d box = option_and_then (fix_of cut_of ps) (cut_by (side_test d.side d.val) d.var.0 box)

-- the engine is where it was
pub record IsSame (a b : State AnyProp) : Type 0 where
  pub props : b.props ≡ a.props
  pub sets : b.store.sets ≡ a.store.sets
  pub marked : b.store.marked ≡ a.store.marked

-- a decision was taken, and the rounds did not fail; or they failed, and the engine stayed
abbrev pub IsDecided : Decision → State AnyProp → State AnyProp → Bool → Type 0
IsDecided d a b true = IsDeeper a b × ((box : Sets) → NoneEmpty box → length box ≡ length a.store.sets
    → fix_of cut_of a.props box ≡ Some a.store.sets → side_end a.props d box ≡ Some b.store.sets)
IsDecided d a b false = IsSame a b × ((box : Sets) → NoneEmpty box → length box ≡ length a.store.sets
    → fix_of cut_of a.props box ≡ Some a.store.sets → side_end a.props d box ≡ None)

-- the last mark was taken back, if the rounds did not fail; else the engine is the same
abbrev pub IsLeft : Option (State AnyProp) → Option (State AnyProp) → Bool → Type 0
IsLeft a b true = b ≡ a
IsLeft a b false = IsUndone a b
