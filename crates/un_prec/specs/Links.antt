-- Links of times, and what they let a store keep.
use Rattle.std.specs.Prelude.{ℕ, ◌≡◌, ◌+◌, ◌-◌, ◌^◌, ◌≤◌, Bool, true, not, ◌&&◌, ◌||◌, List, min, nat_le, nat_lt, Some}
use Rattle.std.specs.Prelude.{option_and_then}
use Rattle.std.specs.declared.option.Option.{Option}
use Rattle.un_base.specs.declared.ids.VarId.{VarId}
use Rattle.un_domains.specs.Sets.{Sets, cut_by, least, greatest}
use Rattle.un_prop.specs.Among.{AllAmong}
use Rattle.un_prop.specs.Acts.{act_vars, is_active, at_vars, at_value}
use Rattle.un_prop.specs.Failing.{first_cut}
use Rattle.un_prop.specs.Looks.{at_set, sure}
use Rattle.un_prop.specs.declared.act.At.{At}
use Rattle.un_prop.specs.declared.act.At.TheVariants.{Const, Var}
use Rattle.un_prec.specs.declared.link.Link.{Link}

-- both are active and the second is at least the gap after the first, or one is inactive
abbrev pub link_holds : Link → List ℕ → Bool
link_holds l x = not (is_active l.from_on x && is_active l.to_on x) || nat_le (at_value l.from x + l.gap) (at_value l.to x)

-- its variables stand in the list
pub record LinkVars (vs : List VarId) (l : Link) : Type 0 where
  pub of_from : AllAmong vs (at_vars l.from)
  pub of_from_on : AllAmong vs (act_vars l.from_on)
  pub of_to : AllAmong vs (at_vars l.to)
  pub of_to_on : AllAmong vs (act_vars l.to_on)

-- both are surely active
abbrev pub both_sure : Link → Sets → Bool
both_sure l s = sure l.from_on s && sure l.to_on s

-- a variable of a time keeps the values that pass; a number has none to lose
abbrev pub at_cut : (Sets → ℕ → Bool) → At → Sets → Option Sets
at_cut q (Const n) s = Some s
at_cut q (Var v) s = cut_by (q s) v.0 s

-- where both are sure, the second is late enough for the least of the first
abbrev pub later_test : Link → Sets → ℕ → Bool
later_test l s y = not (both_sure l s) || nat_le (min (least (at_set l.from s) + l.gap) (2 ^ 32)) y

-- and the first is early enough for the greatest of the second
abbrev pub earlier_test : Link → Sets → ℕ → Bool
earlier_test l s y = not (both_sure l s) || nat_le y (greatest (at_set l.to s) - l.gap)

-- and there is a way between them at all
abbrev pub apart_test : Link → Sets → ℕ → Bool
apart_test l s y = not (both_sure l s && nat_lt (greatest (at_set l.to s)) (least (at_set l.from s) + l.gap))

-- the first is no more than the gap before the least of the second
abbrev pub close_test : Link → Sets → ℕ → Bool
close_test l s y = not (both_sure l s) || nat_le (least (at_set l.to s)) (y + l.gap)

-- all that a link lets a store keep
abbrev pub link_steps : List VarId → Link → Sets → Option Sets
link_steps vs l s = option_and_then (at_cut (earlier_test l) l.from)
    (option_and_then (at_cut (later_test l) l.to) (first_cut (apart_test l) vs s))

-- what is so of a link that lets all of a store stay
abbrev pub LinkStrong : Link → Sets → Type 0
LinkStrong l s = sure l.from_on s ≡ true → sure l.to_on s ≡ true → least (at_set l.from s) + l.gap ≤ least (at_set l.to s)
