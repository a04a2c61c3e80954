-- The limits of each version are no wider than those that there are.
use Rattle.std.proofs.Common.{ℕ, ◌==◌, Bool, true, false, if◌then◌else◌, arith}
use Rattle.un_model.specs.Options.{AreOptions}
use Rattle.un_model.specs.declared.model.Options.{Options}
use Rattle.un_report_reader.specs.Limits.{limits_of, old_limits, present_limits, AreSmall, AreWithin}

pub limits_small : (v : ℕ) → AreSmall (limits_of v)
limits_small v = by (v == 1)
  where
    by : (first : Bool) → AreSmall (if first then old_limits else present_limits)
    by true = record { slots = omega arith; frame = omega arith; lines = omega arith }
    by false = record { slots = omega arith; frame = omega arith; lines = omega arith }

-- so the options of a report are those of a model
pub options_of : (v : ℕ) (o : Options) → AreWithin (limits_of v) o → AreOptions o
options_of v o h =
    let most = (limits_small v).slots in
    let few = h.slots in
    record { regs = h.regs; slots = omega (arith, few, most) }
