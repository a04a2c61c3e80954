-- The saved values of a block: the callee-saved registers' and the link's, which it takes behind the values of its names, and which its end
-- reads behind them.
use Rattle.std.specs.Prelude.{◌==◌, Bool, true, false, ◌&&◌, if◌then◌else◌, List, [], ◌∷◌, drop, length}
use Rattle.un_base.specs.declared.ids.TempId.{TempId}
use Rattle.un_ir.specs.Linear.{first_of, is_out}
use Rattle.un_ir.specs.declared.extended.ExtBlock.{ExtBlock}
use Rattle.un_ir.specs.declared.extended.ExtOp.{ExtOp}
use Rattle.un_ir.specs.declared.extended.Operand.{Operand}
use Rattle.un_model.specs.Congruences.{live_in_temps}

-- those that a block takes
abbrev pub saved_in : ExtBlock → List TempId
saved_in b = drop (length b.live_in) (live_in_temps b.ops)

-- what a block's end reads
abbrev pub end_operands : List ExtOp → List Operand
end_operands [] = []
end_operands (op ∷ ops) = if is_out op.kind then op.operands else end_operands ops

-- those that it hands over
abbrev pub saved_out : ExtBlock → List Operand
saved_out b = drop (length b.live_out) (end_operands b.ops)

-- an operand reads this temporary, and may choose no other
abbrev pub reads_alone : TempId → Operand → Bool
reads_alone t x = length x.alts == 1 && first_of x.alts == t.0

-- operands read these temporaries alone, one after another
abbrev pub read_alone : List TempId → List Operand → Bool
read_alone [] xs = true
read_alone (t ∷ ts) [] = false
read_alone (t ∷ ts) (x ∷ xs) = reads_alone t x && read_alone ts xs

-- a block hands its saved values over where it takes them
abbrev pub keeps_places : ExtBlock → Bool
keeps_places b = read_alone (saved_in b) (saved_out b)

-- operands read these values, one after another, each by itself or by a copy
abbrev pub reads_own : List TempId → List Operand → Bool
reads_own [] xs = true
reads_own (t ∷ ts) [] = false
reads_own (t ∷ ts) (x ∷ xs) = first_of x.alts == t.0 && reads_own ts xs

-- a block hands over the saved values that it takes, wherever they stand
abbrev pub hands_own : ExtBlock → Bool
hands_own b = reads_own (saved_in b) (saved_out b)
