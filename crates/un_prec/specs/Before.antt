-- Before: a precedence between two operations.
use Rattle.std.specs.Prelude.{ℕ, ◌≡◌, ◌+◌, ◌≤◌, Bool, true, List}
use Rattle.std.specs.declared.option.Option.{Option}
use Rattle.un_base.specs.declared.ids.VarId.{VarId}
use Rattle.un_domains.specs.Sets.{Sets, least}
use Rattle.un_prop.specs.Looks.{at_set, sure}
use Rattle.un_prop.specs.declared.act.Act.{Act}
use Rattle.un_prop.specs.declared.act.At.{At}
use Rattle.un_prec.specs.declared.link.Link.{Link}
use Rattle.un_prec.specs.Links.{link_holds, link_steps, LinkVars}

abbrev pub before_link : At → Act → At → Act → ℕ → Link
before_link a a_on b b_on gap = record { from = a; from_on = a_on; to = b; to_on = b_on; gap = gap }

-- both operations are active and the second is at least the gap after the first, or one is inactive
abbrev pub before_holds : At → Act → At → Act → ℕ → List ℕ → Bool
before_holds a a_on b b_on gap x = link_holds (before_link a a_on b b_on gap) x

abbrev pub before_steps : List VarId → At → Act → At → Act → ℕ → Sets → Option Sets
before_steps vs a a_on b b_on gap s = link_steps vs (before_link a a_on b b_on gap) s

-- its variables stand in the list
abbrev pub BeforeVars : List VarId → At → Act → At → Act → ℕ → Type 0
BeforeVars vs a a_on b b_on gap = LinkVars vs (before_link a a_on b b_on gap)

-- where both operations are sure, the second's least time is at least the first's least time plus the gap
abbrev pub BeforeStrong : At → Act → At → Act → ℕ → Sets → Type 0
BeforeStrong a a_on b b_on gap s = sure a_on s ≡ true → sure b_on s ≡ true → least (at_set a s) + gap ≤ least (at_set b s)
