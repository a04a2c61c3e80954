-- What lines without a fault have: few names, a `func` line where there is a block line, and few blocks.
use Rattle.std.proofs.Common.{◌≡◌, ℕ, suc, ◌+◌, ◌≤◌, List, [], ◌∷◌, Option, Some, None, map, length, refl, sym, ap, ◌∙◌, arith, subst}
use Rattle.std.specs.List.{cons_option}
use Rattle.std.proofs.lemmas.List.{length-map}
use Rattle.un_faults.specs.Vocabulary.{Line, Spelled}
use Rattle.un_ir.specs.declared.function.TheConstants.{NAMES}
use Rattle.un_faults.specs.declared.fault.Fault.TheVariants.{NoBlock}
use Rattle.un_words.specs.Shapes.{line_of}
use Rattle.un_faults.specs.Before.{label_on, names_of, labels_of, before_of}
use Rattle.un_faults.specs.Groups.{Group, grouped}
use Rattle.un_faults.specs.Named.{IsNamed}
use Rattle.un_reader.specs.Lines.{HasNoLineFault, IsFirstLineFault}
use Rattle.un_faults.specs.TextFaults.{shape_fault}
use Rattle.un_reader.specs.Functions.{block_of, blocks_of}
use Rattle.un_reader.specs.declared.limits.TheConstants.{TEXT}
use Rattle.un_reader.specs.declared.error.ReadError.{ReadError}
use Rattle.un_reader.specs.declared.error.ReadError.TheVariants.{NoMemory, TextFault}
use Rattle.un_reader.specs.Errors.{Tells}
use Rattle.un_words.specs.Pieces.{lines_in}
use Rattle.un_reader.specs.Read.{AreLinesOf, IsTextFault, on_line, in_whole}
use Rattle.un_reader.proofs.TextLines.{group_labels}
use Rattle.un_reader.proofs.LineTests.{all_keep, all_good}
use Rattle.un_faults.proofs.Rules.{behind_all, lines_named}

-- ---- all lines

pub record Kept (lines : List Line) : Type 0 where
  pub few : length (names_of lines) ≤ NAMES
  pub named : IsNamed (before_of lines)

pub kept_all : (all : List (List ℕ)) → HasNoLineFault all → Kept (map line_of all)
kept_all all good = record {
  few = (all_good all good).few_names;
  named = subst IsNamed (behind_all (map line_of all))
      (lines_named (before_of []) (map line_of all) (all_keep all good).order (λ e. refl));
}

-- ---- counts

pub few_labels : (lines : List Line) → length (labels_of lines) ≤ length lines
few_labels [] = omega arith
few_labels (line ∷ lines) = by (label_on line) (few_labels lines)
  where
    by : (o : Option (List ℕ)) → length (labels_of lines) ≤ length lines → length (cons_option o (labels_of lines)) ≤ suc (length lines)
    by None h = omega (arith, h)
    by (Some label) h = omega (arith, h)

pub few_blocks : (names : List Spelled) (labels : List (List ℕ)) (lines : List Line) → length (blocks_of names labels lines) ≤ length lines
few_blocks names labels lines =
    let count = length-map (grouped lines) (block_of names labels) in
    let same = sym (length-map (grouped lines) (λ (g : Group). g.label)) ∙ ap length (group_labels lines) in
    let few = few_labels lines in
    omega (arith, count, same, few)

-- without a `func` line there is no block
pub unnamed : (lines : List Line) → labels_of lines ≡ [] → shape_fault lines ≡ Some (length lines + 1, NoBlock)
unnamed lines none = rw none refl

-- ---- faults of a text

pub line_told : (text : List ℕ) (e : ReadError) → length text ≤ TEXT → Tells (IsFirstLineFault (lines_in text)) e
    → Tells (IsTextFault text) e
line_told text NoMemory within t = tt
line_told text (TextFault line code) within (fault, is, first) = (fault, is, on_line line fault within first)

pub whole_told : (text : List ℕ) (lines : List Line) (e : ReadError) → AreLinesOf text lines
    → Tells (λ line fault. shape_fault lines ≡ Some (line, fault)) e → Tells (IsTextFault text) e
whole_told text lines NoMemory of t = tt
whole_told text lines (TextFault line code) of (fault, is, there) =
    (fault, is, in_whole line fault of.within of.good (ap shape_fault (sym of.are) ∙ there))

-- what is kept, at the lines and what stands before a line behind them
pub kept_lines : (lines : List Line) → (text : List ℕ) × AreLinesOf text lines → Kept lines
kept_lines lines (text, is) = subst Kept (sym is.are) (kept_all (lines_in text) is.good)
