-- A text beyond the limit, a line with a fault, and lines with none.
use Rattle.std.proofs.Common.{arith, ◌<◌, ◌≤◌, length, ◌∙◌}
use Rattle.un_faults.specs.declared.fault.Fault.TheVariants.{TooMany}
use Rattle.un_reader.specs.declared.limits.TheConstants.{TEXT}
use Rattle.un_reader.specs.Read.{IsTextFault, too_long, AreLinesOf}
use Rattle.un_reader.proofs.CheckLaws.{told}
use Rattle.un_reader.proofs.ReadLaws.{line_told}
use Rattle.un_reader.proofs.read.read_function.Goals as goal

pub returns-then-text-gt-TEXT-clause-fault : goal.returns-then-text-gt-TEXT-clause-fault
returns-then-text-gt-TEXT-clause-fault c =
    let long : TEXT < length c.args.text.now = omega arith in
    told (IsTextFault c.args.text.now) 0 TooMany c.fault_of.result c.fault_of.ensures (too_long long)

pub read_lines-requires-clause-text : goal.read_lines-requires-clause-text
read_lines-requires-clause-text c = (
  c.args.text.now,
  record { within = omega arith; good = c.in-Ok.ensures.good; are = c.as_slice.ensures ∙ c.in-Ok.ensures.lines },
)

pub returns-in-Ok : goal.returns-in-Ok
returns-in-Ok c =
    let of : AreLinesOf c.args.text.now c.as_slice.result.now =
    record { within = omega arith; good = c.in-Ok.ensures.good; are = c.as_slice.ensures ∙ c.in-Ok.ensures.lines } in
    record { read = c.read_lines.ensures.read c.args.text.now of; fault = c.read_lines.ensures.fault c.args.text.now of }

pub returns-in-Err-clause-fault : goal.returns-in-Err-clause-fault
returns-in-Err-clause-fault c =
    let within : length c.args.text.now ≤ TEXT = omega arith in
    line_told c.args.text.now c.in-Err.error within c.in-Err.ensures.bad
