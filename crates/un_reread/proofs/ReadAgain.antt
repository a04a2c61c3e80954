-- What is printed of a function is read as that function.
use Rattle.std.proofs.Common.{◌≡◌, ℕ, List, [], ◌∷◌, false, map, refl, sym, ap, ◌∙◌, subst}
use Rattle.std.specs.List.{All, AllByRecursion as Each}
use Rattle.std.proofs.lemmas.List.Elements.{All-weaker}
use Rattle.un_base.specs.declared.ids.NameId.{NameId}
use Rattle.un_ir.specs.declared.function.Block.{Block}
use Rattle.un_ir.specs.declared.function.Function.{Function}
use Rattle.un_ir.specs.Text.{Names, function_lines, function_text}
use Rattle.un_ir.specs.WellFormed.{IsWellFormed}
use Rattle.un_words.specs.declared.line.Line.{Line}
use Rattle.un_words.specs.Shapes.{line_of}
use Rattle.un_words.specs.Tokens.{Spelled}
use Rattle.un_reader.specs.Lines.{HasNoLineFault, shapes_in}
use Rattle.un_words.specs.Pieces.{lines_in}
use Rattle.un_faults.specs.TextFaults.{shape_fault}
use Rattle.un_faults.specs.Before.{names_of}
use Rattle.un_faults.specs.Groups.{Group, grouped}
use Rattle.un_reader.specs.Functions.{name_id, block_of, IsFunctionOf}
use Rattle.un_reader.specs.Read.{IsRead}
use Rattle.un_reader.proofs.LineTests.{lines_are, no_line_fault}
use Rattle.un_reader.proofs.TextLines.{text_lines, group_labels, groups_back}
use Rattle.un_reader.proofs.WellFormed.{text_faultless, text_whole}
use Rattle.un_reread.specs.Printed.{spelled_at, as_group}
use Rattle.un_reread.proofs.Bytes.{IsClean, lines_read, IsNeat}
use Rattle.un_reread.proofs.ReadLines.{function_read, lines_neat, lines_read_as}
use Rattle.un_reread.proofs.Rebuilt.{labels, labels_there, names_again, params_again, blocks_again}
use Rattle.un_reread.proofs.Sizes.{text_within}

module _ (f : Function) (w : IsWellFormed f.name f.params f.names f.blocks) where
  abbrev params : List Spelled
  params = map (spelled_at f.names) f.params

  abbrev groups : List Group
  groups = map (as_group f.blocks f.names) f.blocks

  abbrev lines : List Line
  lines = text_lines f.name params groups

  names_are : names_of lines ≡ f.names
  names_are = names_again f.name f.params f.names f.blocks w

  labels_are : map (λ (g : Group). g.label) groups ≡ labels f.blocks
  labels_are = labels_there f.blocks f.names f.blocks

  params_are : map (name_id (names_of lines)) params ≡ f.params
  params_are = ap (λ (ns : Names). map (name_id ns) params) names_are ∙ params_again f.name f.params f.names f.blocks w

  blocks_are : map (block_of (names_of lines) (map (λ (g : Group). g.label) groups)) groups ≡ f.blocks
  blocks_are =
      ap (λ (ns : Names). map (block_of ns (map (λ (g : Group). g.label) groups)) groups) names_are
      ∙ ap (λ (ls : List (List ℕ)). map (block_of f.names ls) groups) labels_are ∙ blocks_again f.name f.params f.names f.blocks w

  -- the parts that the lines give are well formed
  given : IsWellFormed f.name (map (name_id (names_of lines)) params) (names_of lines)
      (map (block_of (names_of lines) (map (λ (g : Group). g.label) groups)) groups)
  given =
      subst (λ (x : List NameId). IsWellFormed f.name x (names_of lines)
      (map (block_of (names_of lines) (map (λ (g : Group). g.label) groups)) groups)) (sym params_are)
      (subst (λ (x : Names). IsWellFormed f.name f.params x
      (map (block_of (names_of lines) (map (λ (g : Group). g.label) groups)) groups)) (sym names_are)
      (subst (λ (x : List Block). IsWellFormed f.name f.params f.names x) (sym blocks_are) w))

  plain : (blocks : List Block) → Each (λ (g : Group). g.freq.negative ≡ false) (map (as_group f.blocks f.names) blocks)
  plain [] = tt
  plain (b ∷ blocks) = (refl, plain blocks)

  -- the printed lines are the function
  function_back : IsFunctionOf lines f
  function_back = record {
    name = refl;
    params = sym params_are;
    names = sym names_are;
    blocks = sym (ap (λ (ls : List (List ℕ)). map (block_of (names_of lines) ls) (grouped lines))
        (sym (group_labels lines) ∙ ap (map (λ (g : Group). g.label)) (groups_back groups))
        ∙ ap (map (block_of (names_of lines) (map (λ (g : Group). g.label) groups))) (groups_back groups) ∙ blocks_are);
  }

  neat : All (IsNeat 330) (function_lines f)
  neat = lines_neat (function_lines f) lines (function_read f w)

  split : lines_in (function_text f) ≡ function_lines f
  split = lines_read (function_lines f) (All-weaker (IsNeat 330) IsClean (λ l n. n.clean) (function_lines f) neat)

  shapes : shapes_in (function_text f) ≡ lines
  shapes = ap (map line_of) split ∙ lines_are (function_lines f) lines (lines_read_as (function_lines f) lines (function_read f w))

  -- the text of a function is read as the function
  pub read_again : IsRead (function_text f) f
  read_again = record {
    within = text_within f w neat;
    lines = subst HasNoLineFault (sym split) (no_line_fault (function_lines f) lines
        (lines_read_as (function_lines f) lines (function_read f w)) (text_faultless f.name params groups (plain f.blocks) given));
    whole = ap shape_fault shapes ∙ text_whole f.name params groups (plain f.blocks) given;
    is = subst (λ (ls : List Line). IsFunctionOf ls f) (sym shapes) function_back;
    entry = λ name live. live.is_local (w.live name live.live);
  }

-- the same, of a text that is the function's
pub text_read : (text : List ℕ) (f : Function) → text ≡ function_text f → IsWellFormed f.name f.params f.names f.blocks → IsRead text f
text_read text f e w = subst (λ (t : List ℕ). IsRead t f) (sym e) (read_again f w)
