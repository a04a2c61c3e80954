-- The first line of a text that is outside the grammar of refutations. Each relation here is of what is left of a text at a part of a
-- refutation and of a line, counted from there: the part is not there, and this is its first bad line, or it is, and the line is behind it.
use Rattle.std.specs.Prelude.{ℕ, ◌≡◌, ◌+◌, ◌<◌, ◌⊎◌, List, ◌++◌, All, length}
use Rattle.un_commands.specs.Settings.{IsCountOfNodes}
use Rattle.un_model.specs.Options.{AreOptions}
use Rattle.un_report_reader.specs.FirstBad.{IsBadBehind, InLine, InEnd}
use Rattle.un_report_reader.specs.Lines.{IsLong, IsName, function_text}
use Rattle.un_symtree.specs.declared.node.SymNode.{SymNode}
use Rattle.un_symtree.specs.SymTexts.{SymFits, sym_text, BeginsNoSymNode}
use Rattle.un_refutation.specs.Refutations.{limit_text, options_text, count_text, AreNodes}

-- the lines so far are those of fewer nodes, and the next is no node's
pub record IsBadNode (count : ℕ) (text : List ℕ) (line : ℕ) : Type 0 where
  pub before : List SymNode
  pub rest : List ℕ
  pub fit : All SymFits before
  pub few : length before < count
  pub whole : text ≡ sym_text before ++ rest
  pub is_bad : BeginsNoSymNode rest
  pub numbered : line ≡ length before + 1

abbrev pub InNodes : ℕ → List ℕ → ℕ → Type 0
InNodes count text line = IsBadNode count text line ⊎ IsBadBehind (AreNodes count) sym_text length (λ nodes. InEnd) text line

abbrev pub InCount : List ℕ → ℕ → Type 0
InCount = InLine IsCountOfNodes count_text InNodes

abbrev pub InOptions : List ℕ → ℕ → Type 0
InOptions = InLine AreOptions options_text (λ options. InCount)

abbrev pub InName : List ℕ → ℕ → Type 0
InName = InLine IsName function_text (λ name. InOptions)

-- the first line outside the grammar, counted from 1
abbrev pub IsFirstBad : List ℕ → ℕ → Type 0
IsFirstBad = InLine IsLong limit_text (λ limit. InName)
