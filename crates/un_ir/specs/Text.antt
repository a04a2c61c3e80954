-- The one spelling of a function: lines with single spaces, `, ` between operands, numbers without leading zeros, and two
-- spaces before operations and terminators.
use Rattle.std.specs.Prelude.{ℕ, List, [], ◌∷◌, ◌++◌, Option, Some, None, map, codes, slice_get, if◌then◌else◌}
use Rattle.std.specs.List.{flat_map}
use Rattle.std.specs.Fmt.{decimal, signed_decimal}
use Rattle.un_base.specs.declared.ids.NameId.{NameId}
use Rattle.un_isa.specs.declared.op.Op.{Op}
use Rattle.un_isa.specs.declared.facts.Range.{Range}
use Rattle.un_isa.specs.declared.facts.Range.TheVariants.{Offset}
use Rattle.un_isa.specs.Facts.{literal_range, source_name}
use Rattle.un_ir.specs.declared.function.Kind.{Kind}
use Rattle.un_ir.specs.declared.function.Kind.TheVariants.{General, Pred}
use Rattle.un_ir.specs.declared.function.SrcOp.{SrcOp}
use Rattle.un_ir.specs.declared.function.Term.{Term}
use Rattle.un_ir.specs.declared.function.Term.TheVariants.{Fall, Jump, Branch, Ret}
use Rattle.un_ir.specs.declared.function.Block.{Block}
use Rattle.un_ir.specs.declared.function.Function.{Function}

-- the names of a function with their kinds
abbrev pub Names : Type 0
Names = List (List ℕ × Kind)

-- `%` before a general name, `$` before a predicate
abbrev pub with_sigil : Kind → List ℕ → List ℕ
with_sigil General name = 37 ∷ name
with_sigil Pred name = 36 ∷ name

abbrev pub spelled : Option (List ℕ × Kind) → List ℕ
spelled None = []
spelled (Some n) = with_sigil n.1 n.0

abbrev pub name_text : Names → NameId → List ℕ
name_text names name = spelled (slice_get names name.0)

-- operands with `, ` between them
abbrev pub comma_joined : List (List ℕ) → List ℕ
comma_joined [] = []
comma_joined (x ∷ []) = x
comma_joined (x ∷ y ∷ ys) = x ++ codes ", " ++ comma_joined (y ∷ ys)

-- the result and `=`, where there is one
abbrev pub result_text : Names → Option NameId → List ℕ
result_text names None = []
result_text names (Some name) = name_text names name ++ codes " = "

abbrev pub literal_text : SrcOp → List ℕ
literal_text o = codes "#" ++ signed_decimal o.imm

-- the literal of an operation that has one stands behind its operands, but an offset directly behind the base
abbrev pub with_literal : {X : Type 0} → Option Range → X → List X → List X
with_literal None literal xs = xs
with_literal (Some Offset) literal (base ∷ xs) = base ∷ literal ∷ xs
with_literal (Some range) literal xs = xs ++ literal ∷ []

abbrev pub operand_texts : Op → SrcOp → List (List ℕ) → List (List ℕ)
operand_texts op o xs = with_literal (literal_range op) (literal_text o) xs

-- a space before the operands, where there are some
abbrev pub spaced : List (List ℕ) → List ℕ
spaced [] = []
spaced (x ∷ xs) = codes " " ++ comma_joined (x ∷ xs)

abbrev pub callee_text : Option (List ℕ) → List ℕ
callee_text None = []
callee_text (Some name) = codes " " ++ name

abbrev pub op_line : Names → SrcOp → List ℕ
op_line names o =
    codes "  " ++ (result_text names o.dst ++
    (source_name o.op ++ (callee_text o.callee ++ spaced (operand_texts o.op o (map (name_text names) o.srcs)))))

abbrev pub label_in : Option Block → List ℕ
label_in None = []
label_in (Some block) = block.label

abbrev pub label_of : List Block → ℕ → List ℕ
label_of blocks b = label_in (slice_get blocks b)

abbrev pub term_lines : List Block → Names → Term → List (List ℕ)
term_lines blocks names Fall = []
term_lines blocks names (Jump to) = (codes "  jump " ++ label_of blocks to.0) ∷ []
term_lines blocks names (Branch pred sense to) =
    (codes "  if " ++ ((if sense then [] else codes "!") ++ (name_text names pred ++ (codes " jump " ++ label_of blocks to.0)))) ∷ []
term_lines blocks names (Ret None) = codes "  ret" ∷ []
term_lines blocks names (Ret (Some name)) = (codes "  ret " ++ name_text names name) ∷ []

abbrev pub block_line : Block → List ℕ
block_line block = codes "block " ++ (block.label ++ (codes " freq " ++ decimal block.freq))

abbrev pub block_lines : List Block → Names → Block → List (List ℕ)
block_lines blocks names block = block_line block ∷ (map (op_line names) block.ops ++ term_lines blocks names block.term)

abbrev pub func_line : Function → List ℕ
func_line f = codes "func " ++ (f.name ++ flat_map (λ p. codes " " ++ name_text f.names p) f.params)

abbrev pub function_lines : Function → List (List ℕ)
function_lines f = func_line f ∷ flat_map (block_lines f.blocks f.names) f.blocks

-- a line with its line feed
abbrev pub ended : List ℕ → List ℕ
ended line = line ++ 10 ∷ []

-- the text of a function
abbrev pub function_text : Function → List ℕ
function_text f = flat_map ended (function_lines f)
