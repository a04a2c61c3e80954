-- What reports of a version may have.
use Rattle.std.specs.Prelude.{ℕ, ◌≡◌, ◌≤◌, ◌==◌, true, false, if◌then◌else◌, IfSome}
use Rattle.un_isa.specs.declared.reg.TheConstants.{SLOTS, FRAME}
use Rattle.un_model.specs.declared.model.Options.{Options}
use Rattle.un_model.specs.Options.{IsCountOfRegisters}
use Rattle.un_report_reader.specs.declared.limits.Limits.{Limits}
use Rattle.un_report_reader.specs.declared.limits.TheConstants.{LINES, OLD_SLOTS, OLD_FRAME, OLD_LINES}
use Rattle.un_tree.specs.Waits.{IsPlain}
use Rattle.un_tree.specs.declared.node.Node.{Node}

abbrev pub old_limits : Limits
old_limits = record { slots = OLD_SLOTS; frame = OLD_FRAME; lines = OLD_LINES; splits = false }

abbrev pub present_limits : Limits
present_limits = record { slots = SLOTS; frame = FRAME; lines = LINES; splits = true }

-- version 1 keeps the limits that there were, and each later version has those that there are
abbrev pub limits_of : ℕ → Limits
limits_of v = if v == 1 then old_limits else present_limits

-- limits are no wider than those that there are
pub record AreSmall (l : Limits) : Type 0 where
  pub slots : l.slots ≤ SLOTS
  pub frame : l.frame ≤ FRAME
  pub lines : l.lines ≤ LINES

-- the options of a model with not too many slots
pub record AreWithin (l : Limits) (o : Options) : Type 0 where
  pub regs : IfSome o.regs IsCountOfRegisters
  pub slots : o.slots ≤ l.slots

-- how many lines a tree may have
abbrev pub AreFewLines : Limits → ℕ → Type 0
AreFewLines l n = (1 ≤ n) × (n ≤ l.lines)

-- a node that a tree may have: where it may have no Splits, none of a Split or its parts
abbrev pub IsAllowed : Limits → Node → Type 0
IsAllowed l n = l.splits ≡ false → IsPlain n
