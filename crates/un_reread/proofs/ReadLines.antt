-- The lines of a function's text are neat, and are read as the lines of its blocks.
use Rattle.std.proofs.Common.{◌≡◌, ℕ, ◌+◌, ◌++◌, List, [], ◌∷◌, Some, map, slice_get, refl, append_assoc}
use Rattle.std.specs.List.{All, AllByRecursion as Each, flat_map}
use Rattle.std.proofs.lemmas.List.Elements.{All-nil, All-cons, All-weaker, recursion_from_All as Each-from}
use Rattle.un_faults.specs.Vocabulary.{SrcOp, Term, SourceBlock, Line}
use Rattle.un_ir.specs.declared.function.Function.{Function}
use Rattle.un_ir.specs.Text.{Names, op_line, term_lines, block_lines, function_lines}
use Rattle.un_ir.specs.WellFormed.{IsName, IsGoodOp, IsGoodBlock, TestsItsKind, LeadsInside, IsWellFormed}
use Rattle.un_reader.proofs.LineTests.{AreReadAs}
use Rattle.un_reader.proofs.TextLines.{body_lines, group_lines, text_lines}
use Rattle.un_reread.specs.Printed.{spelled_at, op_as_line, term_as_line, as_group}
use Rattle.un_reread.proofs.Bytes.{clean_plain, IsNeat}
use Rattle.un_reread.proofs.NamesAt.{AreNames}
use Rattle.un_reread.proofs.OpLines.{op_read}
use Rattle.un_reread.proofs.OtherLines.{func_read, block_read, term_read}
use Rattle.un_reread.proofs.Rebuilt.{StandAt, stand_all, stand_later}
use Rattle.un_reread.proofs.WordsOf.{AreLines}

module _ (names : Names) (blocks : List SourceBlock) (named : AreNames names)
    (labelled : All (λ (b : SourceBlock). IsName b.label) blocks) where
  body_read : (ops : List SrcOp) (b : ℕ) (term : Term) (texts : List (List ℕ)) (lines : List Line) → Each (IsGoodOp names) ops
      → TestsItsKind names term → LeadsInside blocks b term → AreLines texts lines
      → AreLines (map (op_line names) ops ++ (term_lines blocks names term ++ texts))
      (body_lines (map (op_as_line names) ops) (term_as_line blocks names term) lines)
  body_read [] b term texts lines good tests leads later = term_read blocks names b named labelled texts lines later term tests leads
  body_read (o ∷ ops) b term texts lines good tests leads later = (
    op_read names o named good.0,
    body_read ops b term texts lines good.1 tests leads later,
  )

  -- blocks of the function, from one on
  blocks_read : (k : ℕ) (some : List SourceBlock) → StandAt blocks k some
      → ((j : ℕ) (b : SourceBlock) → slice_get blocks j ≡ Some b → LeadsInside blocks j b.term) → Each (IsGoodBlock names) some
      → AreLines (flat_map (block_lines blocks names) some) (group_lines (map (as_group blocks names) some))
  blocks_read k [] got leads good = tt
  blocks_read k (b ∷ some) got leads good =
      let later = blocks_read (k + 1) some (stand_later blocks k b some got) leads good.1 in
      rw (append_assoc (map (op_line names) b.ops) (term_lines blocks names b.term) (flat_map (block_lines blocks names) some)) (
        block_read b good.0.label good.0.freq,
        body_read b.ops (k + 0) b.term (flat_map (block_lines blocks names) some) (group_lines (map (as_group blocks names) some))
            (Each-from (IsGoodOp names) b.ops good.0.ops) good.0.tests (leads (k + 0) b (got 0 b refl)) later,
      )

pub function_read : (f : Function) → IsWellFormed f.name f.params f.names f.blocks
    → AreLines (function_lines f) (text_lines f.name (map (spelled_at f.names) f.params) (map (as_group f.blocks f.names) f.blocks))
function_read f w = (
  func_read f w.named w.all_named w.params_are_words w.few_params,
  blocks_read f.names f.blocks w.all_named
      (All-weaker (IsGoodBlock f.names) (λ (b : SourceBlock). IsName b.label) (λ b g. g.label) f.blocks w.good_blocks)
      0 f.blocks (stand_all f.blocks)
      w.leads (Each-from (IsGoodBlock f.names) f.blocks w.good_blocks),
)

pub lines_neat : (texts : List (List ℕ)) (lines : List Line) → AreLines texts lines → All (IsNeat 330) texts
lines_neat [] [] r = All-nil (IsNeat 330)
lines_neat [] (line ∷ lines) r = absurd r
lines_neat (text ∷ texts) [] r = absurd r
lines_neat (text ∷ texts) (line ∷ lines) r = All-cons (IsNeat 330) text texts r.0.neat (lines_neat texts lines r.1)

pub lines_read_as : (texts : List (List ℕ)) (lines : List Line) → AreLines texts lines → AreReadAs texts lines
lines_read_as [] [] r = tt
lines_read_as [] (line ∷ lines) r = absurd r
lines_read_as (text ∷ texts) [] r = absurd r
lines_read_as (text ∷ texts) (line ∷ lines) r =
    (record { plain = clean_plain text r.0.neat.clean; shape = r.0.shape }, lines_read_as texts lines r.1)
