-- What a text is: a function, or its first fault.
use Rattle.std.specs.Prelude.{ℕ, ◌≡◌, ◌+◌, ◌<◌, ◌≤◌, List, length, Some, None}
use Rattle.std.specs.List.{position_or_len}
use Rattle.un_base.specs.declared.ids.NameId.{NameId}
use Rattle.un_ir.specs.declared.function.Function.{Function}
use Rattle.un_reader.specs.declared.limits.TheConstants.{TEXT}
use Rattle.un_faults.specs.declared.fault.Fault.{Fault}
use Rattle.un_faults.specs.declared.fault.Fault.TheVariants.{TooMany, LiveAtEntry}
use Rattle.un_words.specs.declared.line.Line.{Line}
use Rattle.un_words.specs.Pieces.{lines_in}
use Rattle.un_reader.specs.Lines.{HasNoLineFault, IsFirstLineFault, shapes_in}
use Rattle.un_faults.specs.TextFaults.{is_block, shape_fault}
use Rattle.un_faults.specs.Before.{names_of}
use Rattle.un_reader.specs.Functions.{IsFunctionOf, param_ids, source_blocks}
use Rattle.un_reader.specs.Entry.{IsLiveAtEntry, HasNoneLive}

-- the text is within the limit, no line has a fault, and the whole has none: then it is this function
pub record IsRead (text : List ℕ) (f : Function) : Type 0 where
  pub within : length text ≤ TEXT
  pub lines : HasNoLineFault (lines_in text)
  pub whole : shape_fault (shapes_in text) ≡ None
  pub is : IsFunctionOf (shapes_in text) f
  pub entry : HasNoneLive f.params f.names f.blocks

-- the lines of a text within the limit, none of which has a fault
pub record AreLinesOf (text : List ℕ) (lines : List Line) : Type 0 where
  pub within : length text ≤ TEXT
  pub good : HasNoLineFault (lines_in text)
  pub are : lines ≡ shapes_in text

-- the first fault of the text, with its line: too many bytes, the first line that has a fault, the first fault of the
-- whole where no line has one, and last a name that is live at the entry's start, at the first block line
pub data IsTextFault (text : List ℕ) : ℕ → Fault → Type 0 where
  too_long : TEXT < length text → IsTextFault text 0 TooMany
  on_line : (line : ℕ) (fault : Fault) → length text ≤ TEXT → IsFirstLineFault (lines_in text) line fault → IsTextFault text line fault
  in_whole : (line : ℕ) (fault : Fault) → length text ≤ TEXT → HasNoLineFault (lines_in text)
      → shape_fault (shapes_in text) ≡ Some (line, fault) → IsTextFault text line fault
  at_entry : (name : NameId) → length text ≤ TEXT → HasNoLineFault (lines_in text)
      → shape_fault (shapes_in text) ≡ None
      → IsLiveAtEntry (param_ids (shapes_in text)) (names_of (shapes_in text)) (source_blocks (shapes_in text)) name
      → IsTextFault text (position_or_len is_block (shapes_in text) + 1) LiveAtEntry
