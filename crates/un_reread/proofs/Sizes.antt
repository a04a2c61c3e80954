-- The text of a function is within the limit of texts.
use Rattle.std.proofs.Common.{ℕ, ◌+◌, ◌*◌, ◌≤◌, List, [], ◌∷◌, Some, map, length, arith}
use Rattle.std.specs.List.{All, flat_map}
use Rattle.std.proofs.lemmas.List.{length-append, length-map}
use Rattle.std.proofs.lemmas.List.Elements.{All-head, All-tail}
use Rattle.un_ir.specs.declared.function.TheConstants.{BLOCKS, OPS}
use Rattle.un_ir.specs.declared.function.Term.{Term}
use Rattle.un_ir.specs.declared.function.Term.TheVariants.{Ret}
use Rattle.un_ir.specs.declared.function.Block.{Block}
use Rattle.un_ir.specs.declared.function.Function.{Function}
use Rattle.un_ir.specs.Text.{Names, op_line, term_lines, block_lines, function_lines, function_text, ended}
use Rattle.un_ir.specs.WellFormed.{IsWellFormed}
use Rattle.un_reader.specs.declared.limits.TheConstants.{TEXT}
use Rattle.un_reread.proofs.Bytes.{IsNeat}

joined_size : (lines : List (List ℕ)) → All (IsNeat 330) lines → length (flat_map ended lines) ≤ 331 * length lines
joined_size [] all = omega arith
joined_size (line ∷ lines) all =
    let here : length line ≤ 330 = (All-head (IsNeat 330) line lines all).short in
    let later = joined_size lines (All-tail (IsNeat 330) line lines all) in
    let with_end = length-append line (10 ∷ []) in
    let whole = length-append (ended line) (flat_map ended lines) in
    omega arith

one_at_most : (blocks : List Block) (names : Names) (term : Term) → length (term_lines blocks names term) ≤ 1
one_at_most blocks names (Ret (Some name)) = omega arith
one_at_most blocks names _ = omega arith

-- each block has a line, one for each operation, and at most one more
line_count : (blocks : List Block) (names : Names) (some : List Block)
    → length (flat_map (block_lines blocks names) some) ≤ 2 * length some + length (flat_map (λ (b : Block). b.ops) some)
line_count blocks names [] = omega arith
line_count blocks names (block ∷ some) =
    let ops = length-map block.ops (op_line names) in
    let term = one_at_most blocks names block.term in
    let body = length-append (map (op_line names) block.ops) (term_lines blocks names block.term) in
    let whole = length-append (block_lines blocks names block) (flat_map (block_lines blocks names) some) in
    let later = line_count blocks names some in
    let all = length-append block.ops (flat_map (λ (b : Block). b.ops) some) in
    omega arith

pub text_within : (f : Function) → IsWellFormed f.name f.params f.names f.blocks → All (IsNeat 330) (function_lines f)
    → length (function_text f) ≤ TEXT
text_within f w short =
    let size = joined_size (function_lines f) short in
    let count = line_count f.blocks f.names f.blocks in
    let blocks : length f.blocks ≤ BLOCKS = w.few_blocks in
    let ops : length (flat_map (λ (b : Block). b.ops) f.blocks) ≤ OPS = w.few_ops in
    omega arith
