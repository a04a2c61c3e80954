-- No jump and no return is wrong.
use Rattle.std.proofs.Common.{rules}
use Rattle.un_faults.proofs.text_fault.term_fault.Goals as goal

pub returns-in_err-k-clause-fault : goal.returns-in_err-k-clause-fault
returns-in_err-k-clause-fault c = search rules
