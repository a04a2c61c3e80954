-- Two operands have registers of their sets, and these differ.
use Rattle.std.specs.Prelude.{ℕ, ◌≡◌, Bool, true, not, ◌&&◌, ◌||◌, List, nat_eq, slice_index, option_and_then}
use Rattle.std.specs.declared.option.Option.{Option}
use Rattle.std.specs.List.{list_any}
use Rattle.un_base.specs.declared.ids.VarId.{VarId}
use Rattle.un_domains.specs.Sets.{Sets, set_at, has, cut_by}
use Rattle.un_prop.specs.Among.{among, AllAmong}
use Rattle.un_prop.specs.Choices.{passes_at}
use Rattle.un_prop.specs.Last.{last_cut}
use Rattle.un_prop.specs.Places.{places_in, choice_steps}
use Rattle.un_prop.specs.declared.act.Act.TheVariants.{Always}
use Rattle.un_rect.specs.Entries.{entry_cut, each_entry, where_fixed}

-- an operand: its choice names a place among its registers, and the register there has to be an allowed one
pub record Side : Type 0 where
  pub choice : VarId
  pub regs : List VarId
  pub allowed : List ℕ

abbrev pub side : VarId → List VarId → List ℕ → Side
side choice regs allowed = record { choice = choice; regs = regs; allowed = allowed }

-- whether an operand's register is allowed, and passes; it has none where its choice is past the end of its registers
abbrev pub side_passes : (ℕ → Bool) → Side → List ℕ → Bool
side_passes p a x = passes_at (λ (v : VarId). has a.allowed (slice_index x v.0) && p (slice_index x v.0)) a.regs (slice_index x a.choice.0)

-- the registers of both operands are allowed, and they differ
abbrev pub operands_holds : Side → Side → List ℕ → Bool
operands_holds a b x = side_passes (λ q. side_passes (λ r. not (nat_eq r q)) b x) a x

-- its variables stand in the list
pub record SideVars (vs : List VarId) (a : Side) : Type 0 where
  pub of_choice : among vs a.choice ≡ true
  pub of_regs : AllAmong vs a.regs

-- What a store says of an operand

-- whether its register may be r, at some place that its choice has left
abbrev pub may_have : Side → Sets → ℕ → Bool
may_have a s r = list_any (passes_at (λ (v : VarId). has (set_at s v.0) r) a.regs) (set_at s a.choice.0)

-- whether it may be an allowed one other than r
abbrev pub may_avoid : Side → Sets → ℕ → Bool
may_avoid a s r = list_any (λ q. not (nat_eq q r) && may_have a s q) a.allowed

-- whether the one at a place may
abbrev pub avoids_at : Side → Sets → ℕ → ℕ → Bool
avoids_at a s r i = list_any (λ q. not (nat_eq q r) && passes_at (λ (v : VarId). has (set_at s v.0) q) a.regs i) a.allowed

-- whether the variable may be an allowed register of an operand, and another one that of the other operand
abbrev pub may_be : Side → Side → Sets → VarId → Bool
may_be a b s v = list_any (λ r. has (set_at s v.0) r && may_avoid b s r) a.allowed

-- What they let a store keep

-- what stands at a place can be chosen, where its register may be such a one
abbrev pub side_can : Side → Side → Sets → ℕ → Bool
side_can a b s i = passes_at (may_be a b s) a.regs i

-- a register goes, where the other operand cannot have another
abbrev pub other_test : Side → ℕ → Sets → ℕ → Bool
other_test b r s y = not (nat_eq y r) || may_avoid b s r

abbrev pub other_cut : Side → VarId → ℕ → Sets → Option Sets
other_cut b v r s = cut_by (other_test b r s) v.0 s

-- the register at the place that is chosen is an allowed one, and not one that the other operand needs
abbrev pub chosen_cut : Side → Side → VarId → Sets → Option Sets
chosen_cut a b v s = option_and_then (each_entry (other_cut b v) b.allowed) (cut_by (has a.allowed) v.0 s)

abbrev pub fixed_cut : Side → Side → Sets → Option Sets
fixed_cut a b s = where_fixed (entry_cut (chosen_cut a b) a.regs) a.choice s

-- all that is known of an operand beside another, and of both
abbrev pub side_steps : Side → Side → Sets → Option Sets
side_steps a b s = option_and_then (fixed_cut a b) (choice_steps Always a.choice (side_can a b) (places_in a.regs) s)

abbrev pub operands_steps : Side → Side → Sets → Option Sets
operands_steps a b s = option_and_then (side_steps b a) (side_steps a b s)

abbrev pub operands_cut : List VarId → Side → Side → Sets → Option Sets
operands_cut vs a b s = option_and_then (last_cut vs (operands_holds a b)) (operands_steps a b s)
