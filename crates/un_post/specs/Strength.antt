-- What is so of a store that the propagators of precedences, places in blocks and a limit let stay as it is.
use Rattle.std.specs.Prelude.{Bool, true, false}
use Rattle.un_domains.specs.Sets.{Sets}
use Rattle.un_prec.specs.Before.{BeforeStrong}
use Rattle.un_prec.specs.Below.{BelowStrong}
use Rattle.un_prec.specs.Inside.{InsideStrong}
use Rattle.un_prec.specs.Last.{LastStrong}
use Rattle.un_kinds.specs.Constraints.{Constraint, Before, Inside, Last, Below}

-- it is of cycles and ends alone
abbrev pub is_timing : Constraint → Bool
is_timing (Before a a_on b b_on gap) = true
is_timing (Inside at on end) = true
is_timing (Last at end) = true
is_timing (Below ends limit) = true
is_timing _ = false

abbrev pub Strong : Sets → Constraint → Type 0
Strong s (Before a a_on b b_on gap) = BeforeStrong a a_on b b_on gap s
Strong s (Inside at on end) = InsideStrong at on end s
Strong s (Last at end) = LastStrong at end s
Strong s (Below ends limit) = BelowStrong ends limit s
Strong s _ = Unit {0}
