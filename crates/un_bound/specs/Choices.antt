-- Words of private contracts: the least cycles in a box.
use Rattle.std.specs.Prelude.{ℕ, ◌≡◌, ◌+◌, ◌-◌, ◌*◌, ◌<◌, ◌≤◌, Bool, true, false, List, ◌∷◌, Option, Some, None, IfSome, length, max}
use Rattle.std.specs.Prelude.{slice_get, slice_index, slice_set}
use Rattle.un_base.specs.declared.ids.VarId.{VarId}
use Rattle.un_isa.specs.declared.op.Op.{Op}
use Rattle.un_isa.specs.Does.{is_transfer}
use Rattle.un_ir.specs.declared.extended.ExtKind.{ExtKind}
use Rattle.un_ir.specs.declared.extended.ExtKind.TheVariants.{In, Out, Body, End}
use Rattle.un_ir.specs.declared.extended.ExtOp.{ExtOp}
use Rattle.un_ir.specs.declared.extended.ExtBlock.{ExtBlock}
use Rattle.un_domains.specs.Sets.{Sets}
use Rattle.un_model.specs.declared.model.Arc.{Arc}
use Rattle.un_model.specs.declared.model.OpVars.{OpVars}
use Rattle.un_model.specs.declared.model.BlockVars.{BlockVars}
use Rattle.un_model.specs.Instructions.{instruction_of}
use Rattle.un_bound.specs.Timings.{cycle_in}
use Rattle.un_bound.specs.Lengths.{Choice, AreChosen, KeepFirst, AreEarliest, first_cycle}
use Rattle.un_bound.specs.Relaxations.{Times, IsValue, IsRelaxed}

-- the least number from `at` on with a property, or that there is none
abbrev pub IsNext : (ℕ → Type 0) → ℕ → Option ℕ → Type 0
IsNext P at None = (n : ℕ) → P n → at ≤ n → ⊥
IsNext P at (Some r) = (at ≤ r) × P r × ((n : ℕ) → P n → at ≤ n → r ≤ n)

-- the variable of the cycle of an operation that every solution issues, and of a block's end
abbrev pub own_var : VarId → ExtKind → OpVars → Option VarId
own_var end Out vars = Some end
own_var end (Body o) vars = vars.cycle
own_var end (End term) vars = vars.cycle
own_var end _ vars = None

abbrev pub IsOwnValue : Sets → Option VarId → ℕ → Type 0
IsOwnValue s var cycle = IfSome var (λ (v : VarId). IsValue s v cycle)

-- a cycle of an operation's own set, none before its first
abbrev pub InSets : Sets → VarId → List ExtOp → List OpVars → Choice
InSets s end ops vars k cycle = (op : ExtOp) (v : OpVars) → slice_get ops k ≡ Some op → slice_get vars k ≡ Some v
    → (first_cycle op.kind ≤ cycle) × IsOwnValue s (own_var end op.kind v) cycle

-- an operation has a variable for its cycle, which the store has, and a block's start and its end have none
abbrev pub IsKnown : ℕ → ExtKind → Option VarId → Type 0
IsKnown count (Body o) None = ⊥
IsKnown count (Body o) (Some v) = v.0 < count
IsKnown count (End term) None = ⊥
IsKnown count (End term) (Some v) = v.0 < count
IsKnown count In (Some v) = ⊥
IsKnown count Out (Some v) = ⊥
IsKnown count kind var = Unit {0}

-- it has those of a block
pub record AreKnown (count : ℕ) (end : VarId) (ops : List ExtOp) (vars : List OpVars) : Type 0 where
  pub long : length vars ≡ length ops
  pub stop : end.0 < count
  pub each : (k : ℕ) (op : ExtOp) (v : OpVars) → slice_get ops k ≡ Some op → slice_get vars k ≡ Some v → IsKnown count op.kind v.cycle

-- the least cycles of their sets, or that there are none
abbrev pub IsStarted : Choice → ℕ → List ℕ → Bool → Type 0
IsStarted may count cycles true = (k : ℕ) → k < count → IsNext (may k) 0 (Some (slice_index cycles k))
IsStarted may count cycles false = (others : List ℕ) → AreChosen may count others → ⊥

-- the cycle from which an arc lets the operation issue to which it leads
abbrev pub cycle_after : ℕ → List ℕ → Arc → ℕ
cycle_after n cycles arc = max (cycle_in cycles n arc.to) (cycle_in cycles n arc.from + arc.gap)

-- that operation rises to its next cycle from there, or there is none
abbrev pub IsRaised : Choice → ℕ → Arc → List ℕ → List ℕ → Bool → Type 0
IsRaised may n arc old new true = (cycle : ℕ) × IsNext (may (arc.to.0 - n)) (cycle_after n old arc) (Some cycle)
    × (new ≡ slice_set old (arc.to.0 - n) cycle)
IsRaised may n arc old new false = IsNext (may (arc.to.0 - n)) (cycle_after n old arc) None

-- the least cycles that keep the first i arcs, or that there are none
abbrev pub IsSettled : Choice → ℕ → ℕ → List Arc → ℕ → List ℕ → Bool → Type 0
IsSettled may count n arcs i cycles true = AreEarliest may count n arcs i cycles
IsSettled may count n arcs i cycles false = (others : List ℕ) → AreChosen may count others → KeepFirst n arcs (length arcs) others → ⊥

-- where a transfer issues before an end it has a cycle of its set
abbrev pub FitsBefore : Sets → ℕ → ExtKind → OpVars → Type 0
FitsBefore s end kind vars = IfSome (instruction_of kind 0)
    (λ (op : Op). is_transfer op ≡ true → IfSome vars.cycle (λ (v : VarId). IsValue s v (end - 1)))

abbrev pub TransfersFit : Sets → List ExtOp → List OpVars → ℕ → Type 0
TransfersFit s ops vars end = (k : ℕ) (op : ExtOp) (v : OpVars) → slice_get ops k ≡ Some op → slice_get vars k ≡ Some v
    → FitsBefore s end op.kind v

-- an end at which a block may stop
pub record MayStop (s : Sets) (end : VarId) (ops : List ExtOp) (vars : List OpVars) (n : ℕ) : Type 0 where
  pub own : IsValue s end n
  pub fits : TransfersFit s ops vars n

-- the least end of a block in these sets, or that it has none
abbrev pub IsLeastStop : Sets → ℕ → VarId → List ExtOp → List OpVars → List Arc → Option ℕ → Type 0
IsLeastStop s n end ops vars arcs None = (times : Times) → IsRelaxed s n end ops vars arcs times → ⊥
IsLeastStop s n end ops vars arcs (Some stop) = ((times : Times) × IsRelaxed s n end ops vars arcs times × (times.end ≡ stop))
    × ((times : Times) → IsRelaxed s n end ops vars arcs times → stop ≤ times.end)

-- the sum over the blocks of frequency times the cycles before their least ends
abbrev pub IsLeastSum : Sets → ℕ → List ExtBlock → List BlockVars → List (List Arc) → ℕ → Type 0
IsLeastSum s n (block ∷ blocks) (vars ∷ more) (here ∷ arcs) sum =
    (stop : ℕ) × (rest : ℕ) × IsLeastStop s n vars.end block.ops vars.ops here (Some stop)
    × IsLeastSum s (n + length block.ops) blocks more arcs rest × (sum ≡ block.freq * (stop - 1) + rest)
IsLeastSum s n blocks vars arcs sum = sum ≡ 0

-- the store has the variables of each block
abbrev pub AllKnown : ℕ → List ExtBlock → List BlockVars → Type 0
AllKnown count (block ∷ blocks) (vars ∷ more) = AreKnown count vars.end block.ops vars.ops × AllKnown count blocks more
AllKnown count blocks vars = Unit {0}

-- there is a place for each operation of a block
abbrev pub HasPlaces : ℕ → ExtBlock → Type 0
HasPlaces room block = length block.ops ≤ room
