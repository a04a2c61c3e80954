-- A block that reads the saved values which it takes in registers, in every solution.
use Rattle.std.specs.Prelude.{ℕ, ◌==◌, Bool, ◌&&◌}
use Rattle.std.specs.List.{list_all, list_any}
use Rattle.un_base.specs.declared.ids.TempId.{TempId}
use Rattle.un_ir.specs.Kinds.{is_mandatory}
use Rattle.un_ir.specs.Linear.{first_of}
use Rattle.un_ir.specs.declared.extended.ExtBlock.{ExtBlock}
use Rattle.un_ir.specs.declared.extended.ExtOp.{ExtOp}
use Rattle.un_ir.specs.declared.extended.Operand.{Operand}
use Rattle.un_press.specs.Accesses.{takes_register}
use Rattle.un_saved.specs.Saved.{saved_in}

-- every solution has the operation, and it reads value n in a register
abbrev pub reads_low : ℕ → ExtOp → Bool
reads_low n op = is_mandatory op.kind && list_any (λ (x : Operand). first_of x.alts == n && takes_register op.kind x) op.operands

-- a block reads each saved value that it takes in a register
abbrev pub reads_saved : ExtBlock → Bool
reads_saved b = list_all (λ (t : TempId). list_any (reads_low t.0) b.ops) (saved_in b)
