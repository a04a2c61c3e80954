-- What a propagator of any kind asks for: the kind and its fields, without the list of its variables.
use Rattle.std.specs.Prelude.{ℕ, ◌≡◌, Bool, true, List, Option, All}
use Rattle.un_base.specs.declared.ids.VarId.{VarId}
use Rattle.un_prop.specs.declared.act.Act.{Act}
use Rattle.un_prop.specs.declared.act.At.{At}
use Rattle.un_prec.specs.declared.reads.ReadAlt.{ReadAlt}
use Rattle.un_prec.specs.declared.below.Weighted.{Weighted}
use Rattle.un_prec.specs.Before.{before_holds}
use Rattle.un_prec.specs.Reads.{reads_holds}
use Rattle.un_prec.specs.Inside.{inside_holds}
use Rattle.un_prec.specs.Last.{last_holds}
use Rattle.un_prec.specs.Below.{below_holds}
use Rattle.un_alt.specs.declared.frame.FrameOp.{FrameOp}
use Rattle.un_alt.specs.declared.frame.FrameUse.{FrameUse}
use Rattle.un_alt.specs.declared.frame.FrameLeave.{FrameLeave}
use Rattle.un_alt.specs.Chosen.{chosen_holds}
use Rattle.un_alt.specs.Zeros.{zeros_holds}
use Rattle.un_alt.specs.Spaces.{spaces_holds}
use Rattle.un_alt.specs.Same.{same_holds}
use Rattle.un_alt.specs.Home.{home_holds}
use Rattle.un_alt.specs.Frame.{frame_holds}
use Rattle.un_prop.specs.declared.act.Temp.{Temp}
use Rattle.un_rect.specs.Apart.{apart_holds}
use Rattle.un_rect.specs.Clobber.{clobber_holds}
use Rattle.un_rect.specs.Operands.{Side, operands_holds}
use Rattle.un_rect.specs.declared.clobber.ClobberCall.{ClobberCall}
use Rattle.un_slots.specs.Slots.{per_cycle_holds}
use Rattle.un_slots.specs.declared.item.Item.{Item}
use Rattle.un_length.specs.Blocks.{block_holds}
use Rattle.un_length.specs.declared.block.Precedence.{Precedence}
use Rattle.un_length.specs.declared.block.Task.{Task}
use Rattle.un_press.specs.Pressures.{live_holds, across_holds}
use Rattle.un_press.specs.declared.live.Span.{Span}
use Rattle.un_counted.specs.Counted.{counted_holds}
use Rattle.un_counted.specs.declared.counted.LeastEnd.{LeastEnd}

pub data Constraint : Type 0 where
  Before : At → Act → At → Act → ℕ → Constraint
  Reads : At → Act → VarId → List ReadAlt → Constraint
  Inside : VarId → Act → VarId → Constraint
  Last : VarId → VarId → Constraint
  Below : List Weighted → ℕ → Constraint
  Chosen : Act → VarId → List Act → Constraint
  Zeros : VarId → List VarId → Constraint
  Spaces : Act → Option VarId → List VarId → List (List ℕ) → Constraint
  Same : VarId → List VarId → VarId → Constraint
  Home : Option VarId → List VarId → ℕ → Constraint
  Frame : Bool → VarId → List VarId → List VarId → Option FrameOp → List FrameUse → List FrameLeave → Constraint
  Apart : List Temp → Constraint
  Clobber : ℕ → Temp → List ClobberCall → Constraint
  Operands : Side → Side → Constraint
  PerCycle : List Item → ℕ → Constraint
  Length : List Task → List Precedence → VarId → ℕ → Constraint
  Live : List Span → ℕ → ℕ → Constraint
  Across : VarId → ℕ → ℕ → Constraint
  Counted : List (List LeastEnd) → ℕ → Constraint

-- whether an assignment meets it
abbrev pub meets : Constraint → List ℕ → Bool
meets (Before a a_on b b_on gap) x = before_holds a a_on b b_on gap x
meets (Reads user on choice alts) x = reads_holds user on choice alts x
meets (Inside at on end) x = inside_holds at on end x
meets (Last at end) x = last_holds at end x
meets (Below ends limit) x = below_holds ends limit x
meets (Chosen user choice alts) x = chosen_holds user choice alts x
meets (Zeros instr others) x = zeros_holds instr others x
meets (Spaces on choice regs sets) x = spaces_holds on choice regs sets x
meets (Same choice regs to) x = same_holds choice regs to x
meets (Home choice regs home) x = home_holds choice regs home x
meets (Frame whole flag touch ins enter entry leaves) x = frame_holds whole flag touch ins enter entry leaves x
meets (Apart temps) x = apart_holds temps x
meets (Clobber mask temp calls) x = clobber_holds mask temp calls x
meets (Operands a b) x = operands_holds a b x
meets (PerCycle items horizon) x = per_cycle_holds items horizon x
meets (Length ops arcs end horizon) x = block_holds ops arcs end x
meets (Live values room horizon) x = live_holds values room horizon x
meets (Across call sure room) x = across_holds sure room x
meets (Counted rows limit) x = counted_holds rows limit x

-- it meets all of them
abbrev pub AllMet : List Constraint → List ℕ → Type 0
AllMet cs x = All (λ (c : Constraint). meets c x ≡ true) cs
