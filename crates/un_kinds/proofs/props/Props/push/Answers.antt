use Rattle.std.proofs.Common.{List, [], ◌∷◌, All, subst, sym}
use Rattle.std.proofs.lemmas.List.Elements.{All-nil, All-cons, All-append}
use Rattle.un_kinds.specs.Scopes.{IsTight}
use Rattle.un_kinds.specs.declared.any.AnyProp.{AnyProp}
use Rattle.un_kinds.proofs.props.Props.push.Goals as goal

pub invariant_of-self : goal.invariant_of-self
invariant_of-self c = subst (λ (ps : List AnyProp). All IsTight ps) (sym c.in_err-push.ensures.err) c.self.invariant

pub invariant_of-self-2 : goal.invariant_of-self-2
invariant_of-self-2 c = subst (λ (ps : List AnyProp). All IsTight ps) (sym c.in_ok-push.ensures.ok)
    (All-append IsTight _ (c.args.p ∷ []) c.self.invariant (All-cons IsTight c.args.p [] c.requires (All-nil IsTight)))
