-- Words of private contracts: the operations of a block, and the intervals of cycles that are tried.
use Rattle.std.specs.Prelude.{ℕ, ◌≡◌, ◌+◌, ◌-◌, ◌<◌, ◌≤◌, min, true, List, Option, Some, None, IsSomeAnd}
use Rattle.un_isa.specs.declared.packet_counts.Resource.{Resource}
use Rattle.un_domains.specs.Sets.{Sets, has}
use Rattle.un_model.specs.declared.model.Model.{Model}
use Rattle.un_steps.specs.Rules.{takes_in, IsFullIn}
use Rattle.un_steps.specs.Words.{Operation, block_operations, cycles, least_of, greatest_of, IsSure}
use Rattle.un_steps.specs.declared.full.Block.{Block}

abbrev pub operations_of : Block → List Operation
operations_of b = block_operations b.number b.owner.now b.vars.now

-- the less of two numbers, of which one need not be there
abbrev pub less : Option ℕ → ℕ → ℕ
less None n = n
less (Some k) n = min k n

-- this is the least of f, where there is one, over the numbers below n of a set
abbrev pub IsLeastTo : (ℕ → ℕ) → List ℕ → ℕ → Option ℕ → Type 0
IsLeastTo f xs n None = (i : ℕ) → i < n → has xs i ≡ true → ⊥
IsLeastTo f xs n (Some k) = ((i : ℕ) × (has xs i ≡ true) × (f i ≡ k)) × ((i : ℕ) → i < n → has xs i ≡ true → k ≤ f i)

-- what an operation takes of a resource in the n cycles from a on, where there is one
abbrev pub takes_by : Model → Sets → Resource → ℕ → ℕ → Option Operation → ℕ
takes_by m s r a n None = 0
takes_by m s r a n (Some p) = takes_in m s r a n p

-- the cycles from a to the greatest of an operation that is sure are too few
abbrev pub IsFullTo : Model → Sets → List Operation → ℕ → Operation → Type 0
IsFullTo m s ps a q = IsSure s q × IsSomeAnd (greatest_of (cycles s q)) (λ (last : ℕ). IsFullIn m s ps a (last + 1 - a))

-- some cycles from the least of an operation that is sure are
abbrev pub IsFullFrom : Model → Sets → List Operation → Operation → Type 0
IsFullFrom m s ps p = IsSure s p × IsSomeAnd (least_of (cycles s p)) (λ (a : ℕ). (n : ℕ) × IsFullIn m s ps a n)
