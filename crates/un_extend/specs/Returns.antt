-- Whether a block returns, by its operations.
use Rattle.std.specs.Prelude.{Bool, List}
use Rattle.un_ir.specs.declared.extended.ExtOp.{ExtOp}
use Rattle.un_ir.specs.Extended.{is_return}
use Rattle.un_ir.specs.Linear.{ending_of}

abbrev pub returns_by : List ExtOp → Bool
returns_by ops = let ending = ending_of ops in is_return ending.term
