use Rattle.std.proofs.Common.{List, All, subst, sym}
use Rattle.un_kinds.specs.Scopes.{IsTight}
use Rattle.un_kinds.specs.declared.any.AnyProp.{AnyProp}
use Rattle.un_kinds.proofs.props.Props.into_vec.Goals as goal

pub returns-clause-tight : goal.returns-clause-tight
returns-clause-tight c = subst (λ (ps : List AnyProp). All IsTight ps) (sym c.into_vec.ensures) c.self.invariant
