-- A propagator of any kind: what it asks for, and its members, which are those of its kind.
use Rattle.std.specs.Prelude.{ℕ, ◌≡◌, Bool, true, List, length, Some, Contains}
use Rattle.std.specs.declared.option.Option.{Option}
use Rattle.un_base.specs.declared.ids.VarId.{VarId}
use Rattle.un_domains.specs.Sets.{Sets, IsIn, NoneEmpty, Kept}
use Rattle.un_prop.specs.Among.{AllAmong}
use Rattle.un_prop.specs.Lawful.{Lawful}
use Rattle.un_prop.specs.Looks.{InWords}
use Rattle.un_prop.specs.Parts.{Part, all_meet, SameAt, ChecksForward}
use Rattle.un_prop.specs.Rounds.{HasVars}
use Rattle.un_alt.specs.Chosen.{chosen_holds}
use Rattle.un_alt.specs.Frame.{frame_holds}
use Rattle.un_alt.specs.Home.{home_holds}
use Rattle.un_alt.specs.Same.{same_holds}
use Rattle.un_alt.specs.Spaces.{spaces_holds}
use Rattle.un_alt.specs.Zeros.{ZerosStrong, zeros_holds}
use Rattle.un_prec.specs.Before.{BeforeStrong, before_holds}
use Rattle.un_prec.specs.Below.{BelowStrong, below_holds}
use Rattle.un_prec.specs.Inside.{InsideStrong, inside_holds}
use Rattle.un_prec.specs.Last.{LastStrong, last_holds}
use Rattle.un_prec.specs.Reads.{ReadsStrong, reads_holds}
use Rattle.un_prop.specs.PartLaws.{one_part}
use Rattle.un_rect.specs.Apart.{ApartStrong, apart_parts}
use Rattle.un_rect.specs.Clobber.{ClobberStrong, clobber_parts}
use Rattle.un_rect.specs.Operands.{side, operands_holds}
use Rattle.un_slots.specs.Loads.{SlotsStrong}
use Rattle.un_slots.specs.Slots.{per_cycle_holds}
use Rattle.un_length.specs.Blocks.{block_holds}
use Rattle.un_length.specs.Lengths.{LengthStrong}
use Rattle.un_press.specs.Pressures.{live_holds, across_holds}
use Rattle.un_counted.specs.Counted.{counted_holds}
use Rattle.un_prec.specs.contracts.before.BeforePredicate.TheImpl.Laws as before_looks
use Rattle.un_prec.specs.contracts.before.BeforePropagator.TheImpl.Laws as before_laws
use Rattle.un_prec.specs.contracts.reads.ReadsPredicate.TheImpl.Laws as reads_looks
use Rattle.un_prec.specs.contracts.reads.ReadsPropagator.TheImpl.Laws as reads_laws
use Rattle.un_prec.specs.contracts.inside.InsidePredicate.TheImpl.Laws as inside_looks
use Rattle.un_prec.specs.contracts.inside.InsidePropagator.TheImpl.Laws as inside_laws
use Rattle.un_prec.specs.contracts.last.LastPredicate.TheImpl.Laws as last_looks
use Rattle.un_prec.specs.contracts.last.LastPropagator.TheImpl.Laws as last_laws
use Rattle.un_prec.specs.contracts.below.BelowPredicate.TheImpl.Laws as below_looks
use Rattle.un_prec.specs.contracts.below.BelowPropagator.TheImpl.Laws as below_laws
use Rattle.un_alt.specs.contracts.chosen.ChosenPredicate.TheImpl.Laws as chosen_looks
use Rattle.un_alt.specs.contracts.chosen.ChosenPropagator.TheImpl.Laws as chosen_laws
use Rattle.un_alt.specs.contracts.zeros.ZerosPredicate.TheImpl.Laws as zeros_looks
use Rattle.un_alt.specs.contracts.zeros.ZerosPropagator.TheImpl.Laws as zeros_laws
use Rattle.un_alt.specs.contracts.spaces.SpacesPredicate.TheImpl.Laws as spaces_looks
use Rattle.un_alt.specs.contracts.spaces.SpacesPropagator.TheImpl.Laws as spaces_laws
use Rattle.un_alt.specs.contracts.same.SamePredicate.TheImpl.Laws as same_looks
use Rattle.un_alt.specs.contracts.same.SamePropagator.TheImpl.Laws as same_laws
use Rattle.un_alt.specs.contracts.home.HomePredicate.TheImpl.Laws as home_looks
use Rattle.un_alt.specs.contracts.home.HomePropagator.TheImpl.Laws as home_laws
use Rattle.un_alt.specs.contracts.frame.FramePredicate.TheImpl.Laws as frame_looks
use Rattle.un_alt.specs.contracts.frame.FramePropagator.TheImpl.Laws as frame_laws
use Rattle.un_rect.specs.contracts.apart.ApartPredicate.TheImpl.Laws as apart_looks
use Rattle.un_rect.specs.contracts.apart.ApartPropagator.TheImpl.Laws as apart_laws
use Rattle.un_rect.specs.contracts.clobber.ClobberPredicate.TheImpl.Laws as clobber_looks
use Rattle.un_rect.specs.contracts.clobber.ClobberPropagator.TheImpl.Laws as clobber_laws
use Rattle.un_rect.specs.contracts.operands.OperandsPredicate.TheImpl.Laws as operands_looks
use Rattle.un_rect.specs.contracts.operands.OperandsPropagator.TheImpl.Laws as operands_laws
use Rattle.un_slots.specs.contracts.per_cycle.PerCyclePredicate.TheImpl.Laws as per_cycle_looks
use Rattle.un_slots.specs.contracts.per_cycle.PerCyclePropagator.TheImpl.Laws as per_cycle_laws
use Rattle.un_length.specs.contracts.length.LengthPredicate.TheImpl.Laws as length_looks
use Rattle.un_length.specs.contracts.length.LengthPropagator.TheImpl.Laws as length_laws
use Rattle.un_press.specs.contracts.live.LivePredicate.TheImpl.Laws as live_looks
use Rattle.un_press.specs.contracts.live.LivePropagator.TheImpl.Laws as live_laws
use Rattle.un_press.specs.contracts.across.AcrossPredicate.TheImpl.Laws as across_looks
use Rattle.un_press.specs.contracts.across.AcrossPropagator.TheImpl.Laws as across_laws
use Rattle.un_counted.specs.contracts.counted.CountedPredicate.TheImpl.Laws as counted_looks
use Rattle.un_counted.specs.contracts.counted.CountedPropagator.TheImpl.Laws as counted_laws
use Rattle.un_kinds.specs.Constraints as constraint
use Rattle.un_kinds.specs.Constraints.{Constraint, meets}
use Rattle.un_kinds.specs.Cuts.{cut_with}
use Rattle.un_kinds.specs.declared.any.AnyProp.{AnyProp}
use Rattle.un_kinds.specs.declared.any.AnyProp.TheVariants.{Before, Reads, Inside, Last, Below, Chosen, Zeros, Spaces, Same, Home}
use Rattle.un_kinds.specs.declared.any.AnyProp.TheVariants.{Frame, Apart, Clobber, Operands, PerCycle, Length, Live, Across, Counted}

-- its kind and fields, without the list of its variables
abbrev pub constraint_of : AnyProp → Constraint
constraint_of (Before p) = constraint.Before p.a p.a_on p.b p.b_on p.gap
constraint_of (Reads p) = constraint.Reads p.user p.user_on p.choice p.alts
constraint_of (Inside p) = constraint.Inside p.at p.on p.end
constraint_of (Last p) = constraint.Last p.at p.end
constraint_of (Below p) = constraint.Below p.ends p.limit
constraint_of (Chosen p) = constraint.Chosen p.user p.choice p.alts
constraint_of (Zeros p) = constraint.Zeros p.instr p.others
constraint_of (Spaces p) = constraint.Spaces p.on p.choice p.regs p.sets
constraint_of (Same p) = constraint.Same p.choice p.regs p.to
constraint_of (Home p) = constraint.Home p.choice p.regs p.home.0
constraint_of (Frame p) = constraint.Frame p.is_whole p.flag p.touch p.ins p.enter p.entry p.leaves
constraint_of (Apart p) = constraint.Apart p.temps
constraint_of (Clobber p) = constraint.Clobber p.mask p.temp p.calls
constraint_of (Operands p) = constraint.Operands (side p.first p.first_regs p.first_set) (side p.second p.second_regs p.second_set)
constraint_of (PerCycle p) = constraint.PerCycle p.items p.horizon
constraint_of (Length p) = constraint.Length p.block.ops p.block.arcs p.block.end p.block.horizon
constraint_of (Live p) = constraint.Live p.values p.room p.horizon
constraint_of (Across p) = constraint.Across p.call p.sure p.room
constraint_of (Counted p) = constraint.Counted p.rows p.limit

-- its variables, rising
abbrev pub scope_of : AnyProp → List VarId
scope_of (Before p) = p.vars
scope_of (Reads p) = p.vars
scope_of (Inside p) = p.vars
scope_of (Last p) = p.vars
scope_of (Below p) = p.vars
scope_of (Chosen p) = p.vars
scope_of (Zeros p) = p.vars
scope_of (Spaces p) = p.vars
scope_of (Same p) = p.vars
scope_of (Home p) = p.vars
scope_of (Frame p) = p.vars
scope_of (Apart p) = p.vars
scope_of (Clobber p) = p.vars
scope_of (Operands p) = p.vars
scope_of (PerCycle p) = p.vars
scope_of (Length p) = p.vars
scope_of (Live p) = p.vars
scope_of (Across p) = p.vars
scope_of (Counted p) = p.vars

-- it holds where what it asks for is met
abbrev pub holds_of : AnyProp → List ℕ → Bool
holds_of p x = meets (constraint_of p) x

-- the sets that it leaves, or none where it fails
abbrev pub cut_of : AnyProp → Sets → Option Sets
cut_of p s = cut_with (constraint_of p) (scope_of p) s

-- the parts that are all met where it holds
abbrev pub parts_of : AnyProp → List Part
parts_of (Before p) = one_part p.vars (before_holds p.a p.a_on p.b p.b_on p.gap)
parts_of (Reads p) = one_part p.vars (reads_holds p.user p.user_on p.choice p.alts)
parts_of (Inside p) = one_part p.vars (inside_holds p.at p.on p.end)
parts_of (Last p) = one_part p.vars (last_holds p.at p.end)
parts_of (Below p) = one_part p.vars (below_holds p.ends p.limit)
parts_of (Chosen p) = one_part p.vars (chosen_holds p.user p.choice p.alts)
parts_of (Zeros p) = one_part p.vars (zeros_holds p.instr p.others)
parts_of (Spaces p) = one_part p.vars (spaces_holds p.on p.choice p.regs p.sets)
parts_of (Same p) = one_part p.vars (same_holds p.choice p.regs p.to)
parts_of (Home p) = one_part p.vars (home_holds p.choice p.regs p.home.0)
parts_of (Frame p) = one_part p.vars (frame_holds p.is_whole p.flag p.touch p.ins p.enter p.entry p.leaves)
parts_of (Apart p) = apart_parts p.vars p.temps
parts_of (Clobber p) = clobber_parts p.vars p.mask p.temp p.calls
parts_of (Operands p) = one_part p.vars (operands_holds (side p.first p.first_regs p.first_set) (side p.second p.second_regs p.second_set))
parts_of (PerCycle p) = one_part p.vars (per_cycle_holds p.items p.horizon)
parts_of (Length p) = one_part p.vars (block_holds p.block.ops p.block.arcs p.block.end)
parts_of (Live p) = one_part p.vars (live_holds p.values p.room p.horizon)
parts_of (Across p) = one_part p.vars (across_holds p.sure p.room)
parts_of (Counted p) = one_part p.vars (counted_holds p.rows p.limit)

-- what is so of a store that it leaves as it is
abbrev pub strong_of : AnyProp → Sets → Type 0
strong_of (Before p) s = BeforeStrong p.a p.a_on p.b p.b_on p.gap s
strong_of (Reads p) s = ReadsStrong p.user p.user_on p.choice p.alts s
strong_of (Inside p) s = InsideStrong p.at p.on p.end s
strong_of (Last p) s = LastStrong p.at p.end s
strong_of (Below p) s = BelowStrong p.ends p.limit s
strong_of (Chosen p) s = Unit {0}
strong_of (Zeros p) s = ZerosStrong p.instr p.others s
strong_of (Spaces p) s = Unit {0}
strong_of (Same p) s = Unit {0}
strong_of (Home p) s = Unit {0}
strong_of (Frame p) s = Unit {0}
strong_of (Apart p) s = ApartStrong p.temps s
strong_of (Clobber p) s = ClobberStrong p.mask p.temp p.calls s
strong_of (Operands p) s = Unit {0}
strong_of (PerCycle p) s = SlotsStrong p.items s
strong_of (Length p) s = LengthStrong p.vars p.block.ops p.block.arcs p.block.end p.block.horizon s
strong_of (Live p) s = Unit {0}
strong_of (Across p) s = Unit {0}
strong_of (Counted p) s = Unit {0}

-- how many cycles, from 0, it counts over
abbrev pub span_of : AnyProp → ℕ
span_of (Before p) = 0
span_of (Reads p) = 0
span_of (Inside p) = 0
span_of (Last p) = 0
span_of (Below p) = 0
span_of (Chosen p) = 0
span_of (Zeros p) = 0
span_of (Spaces p) = 0
span_of (Same p) = 0
span_of (Home p) = 0
span_of (Frame p) = 0
span_of (Apart p) = 0
span_of (Clobber p) = 0
span_of (Operands p) = 0
span_of (PerCycle p) = p.horizon
span_of (Length p) = p.block.horizon
span_of (Live p) = 0
span_of (Across p) = 0
span_of (Counted p) = 0

-- Its laws

pub any_looks : (p : AnyProp) (x y : List ℕ) → SameAt (scope_of p) x y → holds_of p x ≡ holds_of p y
any_looks (Before p) x y same = before_looks.looks-law p x y same
any_looks (Reads p) x y same = reads_looks.looks-law p x y same
any_looks (Inside p) x y same = inside_looks.looks-law p x y same
any_looks (Last p) x y same = last_looks.looks-law p x y same
any_looks (Below p) x y same = below_looks.looks-law p x y same
any_looks (Chosen p) x y same = chosen_looks.looks-law p x y same
any_looks (Zeros p) x y same = zeros_looks.looks-law p x y same
any_looks (Spaces p) x y same = spaces_looks.looks-law p x y same
any_looks (Same p) x y same = same_looks.looks-law p x y same
any_looks (Home p) x y same = home_looks.looks-law p x y same
any_looks (Frame p) x y same = frame_looks.looks-law p x y same
any_looks (Apart p) x y same = apart_looks.looks-law p x y same
any_looks (Clobber p) x y same = clobber_looks.looks-law p x y same
any_looks (Operands p) x y same = operands_looks.looks-law p x y same
any_looks (PerCycle p) x y same = per_cycle_looks.looks-law p x y same
any_looks (Length p) x y same = length_looks.looks-law p x y same
any_looks (Live p) x y same = live_looks.looks-law p x y same
any_looks (Across p) x y same = across_looks.looks-law p x y same
any_looks (Counted p) x y same = counted_looks.looks-law p x y same

pub any_keeps : (p : AnyProp) (s : Sets) (x : List ℕ) → HasVars (scope_of p) s → NoneEmpty s → IsIn x s → holds_of p x ≡ true
    → Kept x (cut_of p s)
any_keeps (Before p) s x known full there holds = before_laws.keeps-law p s x known full there holds
any_keeps (Reads p) s x known full there holds = reads_laws.keeps-law p s x known full there holds
any_keeps (Inside p) s x known full there holds = inside_laws.keeps-law p s x known full there holds
any_keeps (Last p) s x known full there holds = last_laws.keeps-law p s x known full there holds
any_keeps (Below p) s x known full there holds = below_laws.keeps-law p s x known full there holds
any_keeps (Chosen p) s x known full there holds = chosen_laws.keeps-law p s x known full there holds
any_keeps (Zeros p) s x known full there holds = zeros_laws.keeps-law p s x known full there holds
any_keeps (Spaces p) s x known full there holds = spaces_laws.keeps-law p s x known full there holds
any_keeps (Same p) s x known full there holds = same_laws.keeps-law p s x known full there holds
any_keeps (Home p) s x known full there holds = home_laws.keeps-law p s x known full there holds
any_keeps (Frame p) s x known full there holds = frame_laws.keeps-law p s x known full there holds
any_keeps (Apart p) s x known full there holds = apart_laws.keeps-law p s x known full there holds
any_keeps (Clobber p) s x known full there holds = clobber_laws.keeps-law p s x known full there holds
any_keeps (Operands p) s x known full there holds = operands_laws.keeps-law p s x known full there holds
any_keeps (PerCycle p) s x known full there holds = per_cycle_laws.keeps-law p s x known full there holds
any_keeps (Length p) s x known full there holds = length_laws.keeps-law p s x known full there holds
any_keeps (Live p) s x known full there holds = live_laws.keeps-law p s x known full there holds
any_keeps (Across p) s x known full there holds = across_laws.keeps-law p s x known full there holds
any_keeps (Counted p) s x known full there holds = counted_laws.keeps-law p s x known full there holds

pub any_lawful : (p : AnyProp) → Lawful (scope_of p) (cut_of p)
any_lawful (Before p) = before_laws.lawful-law p
any_lawful (Reads p) = reads_laws.lawful-law p
any_lawful (Inside p) = inside_laws.lawful-law p
any_lawful (Last p) = last_laws.lawful-law p
any_lawful (Below p) = below_laws.lawful-law p
any_lawful (Chosen p) = chosen_laws.lawful-law p
any_lawful (Zeros p) = zeros_laws.lawful-law p
any_lawful (Spaces p) = spaces_laws.lawful-law p
any_lawful (Same p) = same_laws.lawful-law p
any_lawful (Home p) = home_laws.lawful-law p
any_lawful (Frame p) = frame_laws.lawful-law p
any_lawful (Apart p) = apart_laws.lawful-law p
any_lawful (Clobber p) = clobber_laws.lawful-law p
any_lawful (Operands p) = operands_laws.lawful-law p
any_lawful (PerCycle p) = per_cycle_laws.lawful-law p
any_lawful (Length p) = length_laws.lawful-law p
any_lawful (Live p) = live_laws.lawful-law p
any_lawful (Across p) = across_laws.lawful-law p
any_lawful (Counted p) = counted_laws.lawful-law p

pub any_whole : (p : AnyProp) (x : List ℕ) → holds_of p x ≡ all_meet (parts_of p) x
any_whole (Before p) x = before_laws.whole-law p x
any_whole (Reads p) x = reads_laws.whole-law p x
any_whole (Inside p) x = inside_laws.whole-law p x
any_whole (Last p) x = last_laws.whole-law p x
any_whole (Below p) x = below_laws.whole-law p x
any_whole (Chosen p) x = chosen_laws.whole-law p x
any_whole (Zeros p) x = zeros_laws.whole-law p x
any_whole (Spaces p) x = spaces_laws.whole-law p x
any_whole (Same p) x = same_laws.whole-law p x
any_whole (Home p) x = home_laws.whole-law p x
any_whole (Frame p) x = frame_laws.whole-law p x
any_whole (Apart p) x = apart_laws.whole-law p x
any_whole (Clobber p) x = clobber_laws.whole-law p x
any_whole (Operands p) x = operands_laws.whole-law p x
any_whole (PerCycle p) x = per_cycle_laws.whole-law p x
any_whole (Length p) x = length_laws.whole-law p x
any_whole (Live p) x = live_laws.whole-law p x
any_whole (Across p) x = across_laws.whole-law p x
any_whole (Counted p) x = counted_laws.whole-law p x

pub any_within : (p : AnyProp) (part : Part) → Contains (parts_of p) part → AllAmong (scope_of p) part.vars
any_within (Before p) part there = before_laws.within-law p part there
any_within (Reads p) part there = reads_laws.within-law p part there
any_within (Inside p) part there = inside_laws.within-law p part there
any_within (Last p) part there = last_laws.within-law p part there
any_within (Below p) part there = below_laws.within-law p part there
any_within (Chosen p) part there = chosen_laws.within-law p part there
any_within (Zeros p) part there = zeros_laws.within-law p part there
any_within (Spaces p) part there = spaces_laws.within-law p part there
any_within (Same p) part there = same_laws.within-law p part there
any_within (Home p) part there = home_laws.within-law p part there
any_within (Frame p) part there = frame_laws.within-law p part there
any_within (Apart p) part there = apart_laws.within-law p part there
any_within (Clobber p) part there = clobber_laws.within-law p part there
any_within (Operands p) part there = operands_laws.within-law p part there
any_within (PerCycle p) part there = per_cycle_laws.within-law p part there
any_within (Length p) part there = length_laws.within-law p part there
any_within (Live p) part there = live_laws.within-law p part there
any_within (Across p) part there = across_laws.within-law p part there
any_within (Counted p) part there = counted_laws.within-law p part there

pub any_forward : (p : AnyProp) (part : Part) → Contains (parts_of p) part → ChecksForward part (scope_of p) (cut_of p)
any_forward (Before p) part there = before_laws.forward-law p part there
any_forward (Reads p) part there = reads_laws.forward-law p part there
any_forward (Inside p) part there = inside_laws.forward-law p part there
any_forward (Last p) part there = last_laws.forward-law p part there
any_forward (Below p) part there = below_laws.forward-law p part there
any_forward (Chosen p) part there = chosen_laws.forward-law p part there
any_forward (Zeros p) part there = zeros_laws.forward-law p part there
any_forward (Spaces p) part there = spaces_laws.forward-law p part there
any_forward (Same p) part there = same_laws.forward-law p part there
any_forward (Home p) part there = home_laws.forward-law p part there
any_forward (Frame p) part there = frame_laws.forward-law p part there
any_forward (Apart p) part there = apart_laws.forward-law p part there
any_forward (Clobber p) part there = clobber_laws.forward-law p part there
any_forward (Operands p) part there = operands_laws.forward-law p part there
any_forward (PerCycle p) part there = per_cycle_laws.forward-law p part there
any_forward (Length p) part there = length_laws.forward-law p part there
any_forward (Live p) part there = live_laws.forward-law p part there
any_forward (Across p) part there = across_laws.forward-law p part there
any_forward (Counted p) part there = counted_laws.forward-law p part there

pub any_strength : (p : AnyProp) (s : Sets) → HasVars (scope_of p) s → NoneEmpty s → InWords s
    → (length (scope_of p) ≡ 0 → (x : List ℕ) → holds_of p x ≡ true) → cut_of p s ≡ Some s → strong_of p s
any_strength (Before p) s known full words grounded same = before_laws.strength-law p s known full words grounded same
any_strength (Reads p) s known full words grounded same = reads_laws.strength-law p s known full words grounded same
any_strength (Inside p) s known full words grounded same = inside_laws.strength-law p s known full words grounded same
any_strength (Last p) s known full words grounded same = last_laws.strength-law p s known full words grounded same
any_strength (Below p) s known full words grounded same = below_laws.strength-law p s known full words grounded same
any_strength (Chosen p) s known full words grounded same = chosen_laws.strength-law p s known full words grounded same
any_strength (Zeros p) s known full words grounded same = zeros_laws.strength-law p s known full words grounded same
any_strength (Spaces p) s known full words grounded same = spaces_laws.strength-law p s known full words grounded same
any_strength (Same p) s known full words grounded same = same_laws.strength-law p s known full words grounded same
any_strength (Home p) s known full words grounded same = home_laws.strength-law p s known full words grounded same
any_strength (Frame p) s known full words grounded same = frame_laws.strength-law p s known full words grounded same
any_strength (Apart p) s known full words grounded same = apart_laws.strength-law p s known full words grounded same
any_strength (Clobber p) s known full words grounded same = clobber_laws.strength-law p s known full words grounded same
any_strength (Operands p) s known full words grounded same = operands_laws.strength-law p s known full words grounded same
any_strength (PerCycle p) s known full words grounded same = per_cycle_laws.strength-law p s known full words grounded same
any_strength (Length p) s known full words grounded same = length_laws.strength-law p s known full words grounded same
any_strength (Live p) s known full words grounded same = live_laws.strength-law p s known full words grounded same
any_strength (Across p) s known full words grounded same = across_laws.strength-law p s known full words grounded same
any_strength (Counted p) s known full words grounded same = counted_laws.strength-law p s known full words grounded same
