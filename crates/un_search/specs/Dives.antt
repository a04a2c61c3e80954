-- From where an engine went down.
use Rattle.std.specs.Prelude.{List, [], ◌∷◌}
use Rattle.un_domains.specs.Sets.{Sets}
use Rattle.un_engine.specs.Engines.{State}
use Rattle.un_kinds.specs.declared.any.AnyProp.{AnyProp}

-- propagators, and the sets before all decisions
pub record Base : Type 0 where
  pub props : List AnyProp
  pub sets : Sets

-- the first mark; the sets now, where there is none
abbrev pub first_of : List Sets → Sets → Sets
first_of [] s = s
first_of (m ∷ ms) s = m

abbrev pub base_of : State AnyProp → Base
base_of e = record { props = e.props; sets = first_of e.store.marked e.store.sets }
