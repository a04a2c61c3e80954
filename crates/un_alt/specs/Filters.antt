-- Filters of a choice that may be missing.
use Rattle.std.specs.Prelude.{ℕ, Bool, None, Some}
use Rattle.std.specs.declared.option.Option.{Option}
use Rattle.un_base.specs.declared.ids.VarId.{VarId}
use Rattle.un_domains.specs.Sets.{Sets}
use Rattle.un_prop.specs.Places.{choice_steps}
use Rattle.un_prop.specs.declared.act.Act.{Act}

-- all that is known of a choice, where there is one
abbrev pub choice_cut : Act → Option VarId → (Sets → ℕ → Bool) → ℕ → Sets → Option Sets
choice_cut on None can n s = Some s
choice_cut on (Some v) can n s = choice_steps on v can n s
