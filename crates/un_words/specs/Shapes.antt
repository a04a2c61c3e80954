-- The shapes of a line: which words make a line of which kind.
use Rattle.std.specs.Prelude.{ℕ, ◌==◌, ◌&&◌, ◌||◌, Bool, true, false, not, List, [], ◌∷◌, map, filter, length, drop, Option, Some, None}
use Rattle.std.specs.Prelude.{is_some, is_none, unwrap_or, codes, slice_get, if◌then◌else◌}
use Rattle.std.specs.List.{list_all, filter_map, find, zip}
use Rattle.std.specs.Option.{option_map, option_map_or, option_and_then}
use Rattle.std.specs.Str.{bytes_eq}
use Rattle.un_isa.specs.declared.op.Op.{Op}
use Rattle.un_isa.specs.declared.reg.Space.{Space}
use Rattle.un_isa.specs.declared.facts.Range.{Range}
use Rattle.un_isa.specs.Does.{is_call}
use Rattle.un_isa.specs.Facts.{all_ops, operand_spaces, result_space, literal_range, is_source, source_name}
use Rattle.un_ir.specs.Text.{with_literal}
use Rattle.un_words.specs.declared.token.Number.{Number}
use Rattle.un_words.specs.declared.token.Token.{Token}
use Rattle.un_words.specs.declared.token.Token.TheVariants.{Comma, Equals, Named, Negated, Literal, Plain, Word}
use Rattle.un_words.specs.declared.slot.Slot.{Slot}
use Rattle.un_words.specs.declared.slot.Slot.TheVariants.{Comma as CommaSlot, Equals as EqualsSlot, Named as NamedSlot}
use Rattle.un_words.specs.declared.slot.Slot.TheVariants.{Literal as LiteralSlot, Plain as PlainSlot, Word as WordSlot}
use Rattle.un_words.specs.declared.slot.Head.{Head}
use Rattle.un_words.specs.declared.slot.Head.TheVariants.{Nothing, Func as FuncHead, Block as BlockHead, Jump as JumpHead, If as IfHead}
use Rattle.un_words.specs.declared.slot.Head.TheVariants.{Ret as RetHead, Assigned, Bare, Unknown}
use Rattle.un_words.specs.declared.line.OpLine.{OpLine}
use Rattle.un_words.specs.declared.line.TermLine.TheVariants.{Jump, Branch, Ret}
use Rattle.un_words.specs.declared.line.Line.{Line}
use Rattle.un_words.specs.declared.line.Line.TheVariants.{Blank, Func, Block, Operation, Terminator}
use Rattle.un_words.specs.Tokens.{Spelled, tokens_of}

-- ---- words by their forms

abbrev pub is_slot : Slot → Token → Bool
is_slot CommaSlot Comma = true
is_slot EqualsSlot Equals = true
is_slot NamedSlot (Named name) = true
is_slot LiteralSlot (Literal number) = true
is_slot PlainSlot (Plain number) = true
is_slot WordSlot (Word word) = true
is_slot _ _ = false

-- the words have these forms, one for one
abbrev pub have_forms : List Slot → List Token → Bool
have_forms slots ts = (length ts == length slots) && list_all (λ p. is_slot p.1 p.0) (zip ts slots)

-- names and commas in turn, from a name on where named is true, and up to a name
abbrev pub alternate : Bool → List Token → Bool
alternate named [] = not named
alternate named (t ∷ ts) = is_slot (if named then NamedSlot else CommaSlot) t && alternate (not named) ts

-- no name, or names with commas between them
abbrev pub is_list : List Token → Bool
is_list ts = (length ts == 0) || alternate true ts

-- ---- what stands at a word

abbrev pub word_in : Token → Option (List ℕ)
word_in (Word word) = Some word
word_in _ = None

abbrev pub word_at : ℕ → List Token → Option (List ℕ)
word_at i ts = option_and_then word_in (slice_get ts i)

-- this very word stands there
abbrev pub is_word_at : ℕ → List ℕ → List Token → Bool
is_word_at i text ts = option_map_or (λ word. bytes_eq word text) (word_at i ts) false

abbrev pub plain_in : Token → Option Number
plain_in (Plain number) = Some number
plain_in _ = None

abbrev pub plain_at : ℕ → List Token → Option Number
plain_at i ts = option_and_then plain_in (slice_get ts i)

abbrev pub name_in : Token → Option Spelled
name_in (Named name) = Some name
name_in _ = None

abbrev pub name_at : ℕ → List Token → Option Spelled
name_at i ts = option_and_then name_in (slice_get ts i)

-- a name, or one behind an exclamation mark, and which of the two it is
abbrev pub condition_in : Token → Option (Spelled × Bool)
condition_in (Named name) = Some (name, true)
condition_in (Negated name) = Some (name, false)
condition_in _ = None

abbrev pub condition_at : ℕ → List Token → Option (Spelled × Bool)
condition_at i ts = option_and_then condition_in (slice_get ts i)

-- the names behind sigils, in order
abbrev pub names_at : List Token → List Spelled
names_at ts = filter_map name_in ts

abbrev pub zero_number : Number
zero_number = record { negative = false; size = 0 }

abbrev pub literal_or : Number → Token → Number
literal_or n (Literal number) = number
literal_or n _ = n

-- the first number behind a `#`, or 0
abbrev pub literal_at : List Token → Number
literal_at [] = zero_number
literal_at (t ∷ ts) = literal_or (literal_at ts) t

-- ---- operations

-- the operations that a text may have
abbrev pub text_ops : List Op
text_ops = filter is_source all_ops

-- the operation with this word
abbrev pub op_named : List ℕ → Option Op
op_named word = find (λ op. bytes_eq word (source_name op)) text_ops

-- with commas between them
abbrev pub separated : List Slot → List Slot
separated [] = []
separated (s ∷ []) = s ∷ []
separated (s ∷ t ∷ slots) = s ∷ CommaSlot ∷ separated (t ∷ slots)

-- the forms of operands in these spaces, and of a literal where there is one
abbrev pub slots_by : List Space → Option Range → List Slot
slots_by spaces literal = separated (with_literal literal LiteralSlot (map (λ space. NamedSlot) spaces))

-- the forms of the words behind an operation's own word; a call has another form
abbrev pub slots_of : Op → List Slot
slots_of op = slots_by (operand_spaces op) (literal_range op)

-- a result stands where the operation has one; a call may leave it
abbrev pub result_by : Bool → Option Space → Option Spelled → Bool
result_by call None dst = is_none dst
result_by call (Some space) dst = call || is_some dst

abbrev pub result_fits : Op → Option Spelled → Bool
result_fits op dst = result_by (is_call op) (result_space op) dst

-- the words from a call's own word on: its callee and a list of arguments
abbrev pub is_call_list : List Token → Bool
is_call_list ts = is_some (word_at 1 ts) && is_list (drop 2 ts)

-- the words from an operation's own word on are its operands
abbrev pub operands_fit : Op → List Token → Bool
operands_fit op ts = if is_call op then is_call_list ts else have_forms (slots_of op) (drop 1 ts)

abbrev pub callee_of : Op → List Token → Option (List ℕ)
callee_of op ts = if is_call op then word_at 1 ts else None

abbrev pub op_line_of : Op → Option Spelled → List Token → OpLine
op_line_of op dst ts = record { op = op; dst = dst; srcs = names_at ts; imm = literal_at ts; callee = callee_of op ts }

abbrev pub op_shape : Option Spelled → List Token → Op → Option Line
op_shape dst ts op = if result_fits op dst && operands_fit op ts then Some (Operation (op_line_of op dst ts)) else None

-- an operation with this result, from its own word on
abbrev pub operation_shape : Option Spelled → List Token → Option Line
operation_shape dst ts = option_and_then (op_shape dst ts) (option_and_then op_named (word_at 0 ts))

-- ---- the other lines

-- `func NAME %p ..`
abbrev pub func_shape : List Token → Option Line
func_shape ts = if list_all (is_slot NamedSlot) (drop 2 ts) then option_map (λ name. Func name (names_at ts)) (word_at 1 ts) else None

-- `block LABEL freq N`
abbrev pub block_shape : List Token → Option Line
block_shape ts =
    if (length ts == 4) && is_word_at 2 (codes "freq") ts
    then option_and_then (λ label. option_map (λ freq. Block label freq) (plain_at 3 ts)) (word_at 1 ts)
    else None

-- `jump L`
abbrev pub jump_shape : List Token → Option Line
jump_shape ts = if length ts == 2 then option_map (λ to. Terminator (Jump to)) (word_at 1 ts) else None

-- `if $p jump L`, `if !$p jump L`
abbrev pub branch_shape : List Token → Option Line
branch_shape ts =
    if (length ts == 4) && is_word_at 2 (codes "jump") ts
    then option_and_then (λ to. option_map (λ c. Terminator (Branch c.0 c.1 to)) (condition_at 1 ts)) (word_at 3 ts)
    else None

-- `ret`, `ret %v`
abbrev pub return_shape : List Token → Option Line
return_shape ts =
    if length ts == 1 then Some (Terminator (Ret None))
    else (if length ts == 2 then option_map (λ name. Terminator (Ret (Some name))) (name_at 1 ts)
    else None)

-- `%d = ..`
abbrev pub assigned_shape : List Token → Option Line
assigned_shape ts = if option_map_or (is_slot EqualsSlot) (slice_get ts 1) false then operation_shape (name_at 0 ts) (drop 2 ts) else None

-- ---- the shape of a line

-- what kind of line a first word begins
abbrev pub head_word : List ℕ → Head
head_word word =
    if bytes_eq word (codes "func") then FuncHead
    else (if bytes_eq word (codes "block") then BlockHead
    else (if bytes_eq word (codes "jump") then JumpHead
    else (if bytes_eq word (codes "if") then IfHead
    else (if bytes_eq word (codes "ret") then RetHead
    else Bare))))

abbrev pub head_token : Token → Head
head_token (Word word) = head_word word
head_token (Named name) = Assigned
head_token _ = Unknown

abbrev pub head_of : List Token → Head
head_of [] = Nothing
head_of (t ∷ ts) = head_token t

abbrev pub shape_by : Head → List Token → Option Line
shape_by Nothing ts = Some Blank
shape_by FuncHead ts = func_shape ts
shape_by BlockHead ts = block_shape ts
shape_by JumpHead ts = jump_shape ts
shape_by IfHead ts = branch_shape ts
shape_by RetHead ts = return_shape ts
shape_by Assigned ts = assigned_shape ts
shape_by Bare ts = operation_shape None ts
shape_by Unknown ts = None

-- the line that these words are, where they have a shape
abbrev pub shape_of : List Token → Option Line
shape_of ts = shape_by (head_of ts) ts

-- the line that bytes are; those without a shape count as none
abbrev pub line_of : List ℕ → Line
line_of bytes = unwrap_or (shape_of (tokens_of bytes)) Blank
