-- The numbers of the ends of a run.
use Rattle.std.specs.Prelude.{ℕ}
use Rattle.un_outside.specs.declared.status.Status.{Status}
use Rattle.un_outside.specs.declared.status.Status.TheVariants.{Done, Infeasible, Spent, TextFault, Usage, ReadFault, WriteFault, NoMemory, No}
use Rattle.un_outside.specs.declared.status.Status.TheVariants.{BadReport, Found, Cut, BadTable, NoLog, BadSteps}

-- the exit status of the program
abbrev pub number_of : Status → ℕ
number_of Done = 0
number_of Infeasible = 1
number_of Spent = 2
number_of (TextFault line code) = 3
number_of (Usage word) = 4
number_of ReadFault = 5
number_of WriteFault = 6
number_of NoMemory = 7
number_of (No cause) = 8
number_of (BadReport line) = 9
number_of (Found cost) = 10
number_of Cut = 11
number_of (BadTable code) = 12
number_of (NoLog node) = 13
number_of (BadSteps line) = 14
