-- The lines of a function's text, as a reader finds them.
use Rattle.std.specs.Prelude.{ℤ, pos, negsuc, ◌+◌, true, false, List, [], Option, Some, None, map, slice_get, unwrap_or}
use Rattle.std.specs.Option.{option_map}
use Rattle.un_faults.specs.Groups.{Group}
use Rattle.un_faults.specs.Vocabulary.{NameId, General, SrcOp, Term, Fall, JumpTo, BranchTo, Return, SourceBlock, Number, OpLine, TermLine}
use Rattle.un_faults.specs.Vocabulary.{Jump, Branch, Ret, Spelled}
use Rattle.un_ir.specs.Text.{Names, label_of}

-- a name as it is spelled
abbrev pub spelled_at : Names → NameId → Spelled
spelled_at names name = unwrap_or (slice_get names name.0) ([], General)

-- a number as it is written
abbrev pub as_number : ℤ → Number
as_number (pos n) = record { negative = false; size = n }
as_number (negsuc n) = record { negative = true; size = n + 1 }

abbrev pub op_as_line : Names → SrcOp → OpLine
op_as_line names o = record {
  op = o.op;
  dst = option_map (spelled_at names) o.dst;
  srcs = map (spelled_at names) o.srcs;
  imm = as_number o.imm;
  callee = o.callee;
}

-- the line of a terminator; one that falls through has none
abbrev pub term_as_line : List SourceBlock → Names → Term → Option TermLine
term_as_line blocks names Fall = None
term_as_line blocks names (JumpTo to) = Some (Jump (label_of blocks to.0))
term_as_line blocks names (BranchTo pred sense to) = Some (Branch (spelled_at names pred) sense (label_of blocks to.0))
term_as_line blocks names (Return value) = Some (Ret (option_map (spelled_at names) value))

-- the lines of a block, where these are all blocks
abbrev pub as_group : List SourceBlock → Names → SourceBlock → Group
as_group blocks names block = record {
  label = block.label;
  freq = record { negative = false; size = block.freq };
  ops = map (op_as_line names) block.ops;
  term = term_as_line blocks names block.term;
}
