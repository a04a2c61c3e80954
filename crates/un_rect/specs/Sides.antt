-- What the code's operands are.
use Rattle.un_rect.specs.Operands.{Side}
use Rattle.un_rect.specs.declared.operand.Operand.{Operand}

abbrev pub side_of : Operand → Side
side_of a = record { choice = a.choice; regs = a.regs.now; allowed = a.allowed.now }
