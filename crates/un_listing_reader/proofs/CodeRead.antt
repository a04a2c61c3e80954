-- The text that is read as a frame and blocks, and the one that is not.
use Rattle.std.proofs.Common.{◌≡◌, ◌≤◌, ◌-◌, ◌+◌, ℕ, List, [], ◌∷◌, ◌++◌, Option, Some, None, MatchOption, take, drop, length, codes}
use Rattle.std.proofs.Common.{inl, inr, refl, sym, ap, ◌∙◌, arith, append_assoc}
use Rattle.std.specs.List.{AllZip, concat, flat_map}
use Rattle.std.specs.Fmt.{decimal}
use Rattle.std.proofs.lemmas.List.{take_all, length-drop}
use Rattle.un_base.proofs.LineLaws.{concat-pieces_of}
use Rattle.un_base.specs.Lines.{pieces_of, joined_lines}
use Rattle.un_isa.specs.declared.reg.TheConstants.{FRAME}
use Rattle.un_packet.specs.declared.code.CodeBlock.{CodeBlock}
use Rattle.un_packet.specs.CodeRules.{KeepsRules}
use Rattle.un_listing_reader.specs.declared.line.Line.{Line}
use Rattle.un_listing.specs.Listing.{block_lines}
use Rattle.un_listing_reader.specs.Reading.{AllStand, lines_in, IsReadAs, IsFrameLine, IsFirstBadWithin, IsFirstBadOf}
use Rattle.un_listing_reader.proofs.RulesKept.{rules_kept}
use Rattle.un_listing_reader.proofs.TextRead.{blocks_read}

-- what holds where there is none
pub where_none : (place : Option ℕ) (lines given : List (Option Line)) → place ≡ None → given ≡ lines
    → MatchOption place (AllStand given) (IsFirstBadOf given) → AllStand lines
where_none place lines given e f h = rw (e, f) at h

pub where_some : (answer : Option ℕ) (place : ℕ) (lines given : List (Option Line)) → answer ≡ Some place → given ≡ lines
    → MatchOption answer (AllStand given) (IsFirstBadOf given)
    → IsFirstBadOf lines place
where_some answer place lines given e f h = rw (e, f) at h

pub empty_bad : (most : ℕ) (text : List ℕ) → text ≡ [] → IsFirstBadWithin most text 1
empty_bad most text e = rw e refl

module _ (most : ℕ) (text : List ℕ) (len : ℕ) (below : len ≤ length text) (cut : pieces_of text ≡ take len text ∷ pieces_of (drop len text)) where
  -- the text behind its first line
  abbrev tail : List ℕ
  tail = take (length text - len) (drop len text)

  pieces : pieces_of text ≡ take len text ∷ pieces_of tail
  pieces = cut ∙ ap (λ (t : List ℕ). take len text ∷ pieces_of t)
      (sym (take_all (length text - len) (drop len text) (omega (arith, length-drop len text))))

  pub frame_bad : ((frame : ℕ) → ¬ IsFrameLine most (take len text) frame) → IsFirstBadWithin most text 1
  frame_bad none = rw pieces (inl (none, refl))

  module _ (frame : ℕ) (lines : List (Option Line)) (framed : IsFrameLine most (take len text) frame)
      (read : AllZip (IsReadAs frame) (pieces_of (take (length text - len) (drop len text))) lines) where
    pub line_bad : (place : ℕ) → IsFirstBadOf lines place → IsFirstBadWithin most text (place + 2)
    line_bad place bad = rw pieces (inr (record {
      frame = frame;
      lines = lines;
      place = place;
      framed = framed;
      read = read;
      bad = bad;
      numbered = refl;
    }))

    module _ (bs : List CodeBlock) (all : AllStand lines) (same : AllStand lines → lines_in bs ≡ lines) where
      pub kept : most ≤ FRAME → KeepsRules frame bs
      kept within =
          let r = blocks_read frame (pieces_of tail) bs (rw (same all) read) in
          rules_kept most within (take len text) frame bs framed r.good r.named (rw (same all) all)

      pub read_text : text ≡ joined_lines ((codes "frame " ++ decimal frame) ∷ flat_map block_lines bs)
      read_text =
          sym (concat-pieces_of text) ∙ ap concat pieces
          ∙ ap (λ (t : List ℕ). t ++ concat (pieces_of tail)) framed.spelled
          ∙ ap (λ (t : List ℕ). (codes "frame " ++ (decimal frame ++ codes "\n")) ++ t)
          (blocks_read frame (pieces_of tail) bs (rw (same all) read)).text
          ∙ ap (λ (t : List ℕ). t ++ joined_lines (flat_map block_lines bs))
          (sym (append_assoc (codes "frame ") (decimal frame) (codes "\n")))
