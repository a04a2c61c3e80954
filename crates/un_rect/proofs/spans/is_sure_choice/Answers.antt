use Rattle.std.proofs.Common.{List, Some, ◌≡◌, true, arith, subst}
use Rattle.std.specs.declared.option.Option.{Option}
use Rattle.un_base.specs.declared.ids.VarId.{VarId}
use Rattle.un_prop.specs.Among.{among, AllAmong}
use Rattle.un_prop.specs.AmongLaws.{has_among}
use Rattle.un_rect.specs.Spans.{choice_vars}
use Rattle.un_rect.proofs.spans.is_sure_choice.Goals as goal

in_window : (vs : List VarId) (v : VarId) (o : Option VarId) → o ≡ Some v → AllAmong vs (choice_vars o) → among vs v ≡ true
in_window vs v o e all = subst (λ (p : Option VarId). AllAmong vs (choice_vars p)) e all 0 v (omega arith)

pub is_only-requires-clause-there : goal.is_only-requires-clause-there
is_only-requires-clause-there c = has_among c.args.w.now.vars.now c.in-Some.v c.args.w.now.store.now.sets
    (in_window c.args.w.now.vars.now c.in-Some.v c.args.choice c.in-Some.is c.requires.vars) c.requires.known
