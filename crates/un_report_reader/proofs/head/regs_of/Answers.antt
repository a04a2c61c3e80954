use Rattle.std.proofs.Common.{arith}
use Rattle.un_report_reader.proofs.Once.{no_regs}
use Rattle.un_report_reader.proofs.head.regs_of.Goals as goal

pub returns-in_default-clause-none : goal.returns-in_default-clause-none
returns-in_default-clause-none c =
    no_regs c.args.word.now c.in_ok-read_decimal.field-0 (omega arith) c.in_ok-read_decimal.ensures.some (λ h. omega (arith, h.0, h.1))

pub returns-in_default-2-clause-none : goal.returns-in_default-2-clause-none
returns-in_default-2-clause-none c =
    no_regs c.args.word.now c.in_ok-read_decimal.field-0 (omega arith) c.in_ok-read_decimal.ensures.some (λ h. omega (arith, h.0, h.1))

pub returns-in_default-3-clause-none : goal.returns-in_default-3-clause-none
returns-in_default-3-clause-none c =
    no_regs c.args.word.now c.in_ok-read_decimal.field-0 (omega arith) c.in_ok-read_decimal.ensures.some (λ h. omega (arith, h.0, h.1))
