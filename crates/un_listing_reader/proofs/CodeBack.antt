-- Code is read back from its listing.
use Rattle.std.proofs.Common.{
  ◌≡◌,
  ◌<◌,
  ◌≤◌,
  ℕ,
  ◌+◌,
  pos,
  List,
  [],
  ◌∷◌,
  ◌++◌,
  Option,
  None,
  codes,
  All,
  inl,
  inr,
  refl,
  sym,
  ap,
  ◌∙◌,
  subst,
  arith,
}
use Rattle.std.specs.List.{AllZip, flat_map}
use Rattle.std.specs.Fmt.{decimal}
use Rattle.std.proofs.Math.Logic.{∥∥₁_elim}
use Rattle.std.proofs.Math.Bridge.{le_prop}
use Rattle.std.proofs.Math.Nat.{ℕ_set}
use Rattle.un_base.specs.Lines.{pieces_of, joined_lines}
use Rattle.un_isa.specs.declared.op.Op.TheVariants.{Jumpr}
use Rattle.un_isa.specs.declared.reg.TheConstants.{FRAME}
use Rattle.un_packet.specs.declared.code.CodeBlock.{CodeBlock}
use Rattle.un_packet.specs.declared.code.Code.{Code}
use Rattle.un_packet.specs.CodeRules.{KeepsRules, labels_of}
use Rattle.un_packet.proofs.SameCode.{blocks_set, same_code}
use Rattle.un_packet.proofs.Assembly.{i, packet, block}
use Rattle.un_packet.proofs.Kept.{kept_without_frame}
use Rattle.un_listing_reader.specs.declared.line.Line.{Line}
use Rattle.un_listing_reader.specs.declared.read.ListingError.{ListingError}
use Rattle.un_listing_reader.specs.declared.read.ListingError.TheVariants.{NoMemory, BadListing}
use Rattle.un_listing.specs.Listing.{block_lines, code_text}
use Rattle.un_listing_reader.specs.Reading.{lines_in, IsReadAs, IsFrameLine, IsFirstBad, IsFirstBadIn, IsFirstBadOf}
use Rattle.un_listing_reader.specs.Reading.{IsFirstBadWithin, IsErrorOf, IsErrorWithin, IsListingOf, IsListingWithin, frame_text}
use Rattle.un_listing_reader.proofs.LinesStand.{lines_stand}
use Rattle.un_listing_reader.proofs.LineTexts.{blocks_spelled, first_piece}
use Rattle.un_listing_reader.proofs.LinesBack.{same_frame, readings_same, spelled_read, blocks_same}

parts_same : {X : Type 0} (x y : X) (xs ys : List X) → x ∷ xs ≡ y ∷ ys → (x ≡ y) × (xs ≡ ys)
parts_same x y xs ys e = (cc e, cc e)

-- the listing of a frame and blocks
abbrev listing : ℕ → List CodeBlock → List ℕ
listing frame bs = joined_lines ((codes "frame " ++ decimal frame) ∷ flat_map block_lines bs)

abbrev rest_of : List CodeBlock → List (List ℕ)
rest_of bs = pieces_of (joined_lines (flat_map block_lines bs))

module _ (frame : ℕ) (bs : List CodeBlock) (rules : KeepsRules frame bs) where
  readings : AllZip (IsReadAs frame) (rest_of bs) (lines_in bs)
  readings =
      spelled_read frame rules.small (rest_of bs) (lines_in bs)
      (blocks_spelled frame rules.small (labels_of bs) bs rules.good_blocks rules.named)

  pieces : pieces_of (listing frame bs) ≡ frame_text frame ∷ rest_of bs
  pieces = first_piece frame rules.small (flat_map block_lines bs)

  framed : (most : ℕ) → frame ≤ most → IsFrameLine most (frame_text frame) frame
  framed most small = record { whole = rules.whole; small = small; spelled = refl }

  -- each reading of the pieces is this one
  one_text : (most : ℕ) → most ≤ FRAME → (first : List ℕ) (rest : List (List ℕ)) (other : ℕ) (lines : List (Option Line)) → first ≡ frame_text frame → rest ≡ rest_of bs
      → IsFrameLine most first other → AllZip (IsReadAs other) rest lines → (other ≡ frame) × (lines ≡ lines_in bs)
  one_text most within first rest other lines e f is read =
      let small = is.small in
      let same : other ≡ frame = same_frame first other frame (omega (arith, small, within)) rules.small is.spelled e in (
        same,
        readings_same frame rules.small (rest_of bs) lines (lines_in bs)
            (subst (λ (n : ℕ). AllZip (IsReadAs n) (rest_of bs) lines) same
            (subst (λ (ts : List (List ℕ)). AllZip (IsReadAs other) ts lines) f read))
            readings,
      )

  -- no line of it is bad
  pub none_bad : (most : ℕ) → most ≤ FRAME → frame ≤ most → (number : ℕ) → IsFirstBadWithin most (listing frame bs) number → ⊥
  none_bad most within few number bad = by (subst (λ (ts : List (List ℕ)). IsFirstBadIn most ts number) pieces bad)
    where
      stood : (lines : List (Option Line)) (place : ℕ) → lines ≡ lines_in bs → IsFirstBadOf lines place → ⊥
      stood lines place e h =
          let all = lines_stand frame bs rules in
          let k : IsFirstBadOf (lines_in bs) place = subst (λ (ls : List (Option Line)). IsFirstBadOf ls place) e h in
          k.here (all.each place (k.inside all.some))

      by : IsFirstBadIn most (frame_text frame ∷ rest_of bs) number → ⊥
      by (inl (none, e)) = none frame (framed most few)
      by (inr h) =
          stood h.lines h.place (one_text most within (frame_text frame) (rest_of bs) h.frame h.lines refl refl h.framed h.read).1 h.bad

-- frames and blocks with one listing are the same
module _ (frame frame' : ℕ) (bs bs' : List CodeBlock) (rules : KeepsRules frame bs) (rules' : KeepsRules frame' bs')
    (same : listing frame bs ≡ listing frame' bs') where
  parts : (frame_text frame ≡ frame_text frame') × (rest_of bs ≡ rest_of bs')
  parts = parts_same _ _ _ _ (sym (pieces frame bs rules) ∙ ap pieces_of same ∙ pieces frame' bs' rules')

  one_listing : (frame ≡ frame') × (lines_in bs ≡ lines_in bs')
  one_listing =
      one_text frame' bs' rules' FRAME (omega arith) (frame_text frame) (rest_of bs) frame (lines_in bs) parts.0 parts.1
      (framed frame bs rules FRAME rules.small) (readings frame bs rules)

-- ---- code

-- a text is the listing of one code
pub one_code : (text : List ℕ) (c d : Code) → IsListingOf text c → IsListingOf text d → c ≡ d
one_code text c d h k = same_code c.frame d.frame c.blocks d.blocks frames blocks c.rules d.rules
  where
    both : KeepsRules c.frame c.blocks → KeepsRules d.frame d.blocks → (c.frame ≡ d.frame) × (lines_in c.blocks ≡ lines_in d.blocks)
    both of_c of_d = one_listing c.frame d.frame c.blocks d.blocks of_c of_d (sym h ∙ k)

    frames : c.frame ≡ d.frame
    frames = ∥∥₁_elim c.rules (ℕ_set _ _) (λ of_c. ∥∥₁_elim d.rules (ℕ_set _ _) (λ of_d. (both of_c of_d).0))

    blocks : c.blocks ≡ d.blocks
    blocks =
        ∥∥₁_elim c.rules (blocks_set _ _)
        (λ of_c. ∥∥₁_elim d.rules (blocks_set _ _) (λ of_d. blocks_same c.blocks d.blocks (both of_c of_d).1))

-- the frame of code is small
pub frame_small : (c : Code) → c.frame ≤ FRAME
frame_small c = ∥∥₁_elim c.rules le_prop (λ (rules : KeepsRules c.frame c.blocks). rules.small)

-- no listing of code with such a frame is refused
pub refused_within : (most : ℕ) → most ≤ FRAME → (text : List ℕ) (e : ListingError) (c : Code) → IsErrorWithin most text e
    → IsListingWithin most text c → e ≡ NoMemory
refused_within most within text NoMemory c h k = refl
refused_within most within text (BadListing line) c h k =
    absurd (∥∥₁_elim c.rules (λ (x y : ⊥). absurd x)
    (λ rules. none_bad c.frame c.blocks rules most within k.1 line (subst (λ (t : List ℕ). IsFirstBadWithin most t line) k.0 h)))

pub refused : (text : List ℕ) (e : ListingError) (c : Code) → IsErrorOf text e → IsListingOf text c → e ≡ NoMemory
refused text e c h k = refused_within FRAME (omega arith) text e c h (k, frame_small c)

-- ---- the first bad line

one_place : (lines : List (Option Line)) (j k : ℕ) → IsFirstBadOf lines j → IsFirstBadOf lines k → j ≡ k
one_place lines j k h g =
    let not_before : j < k → ⊥ = λ below. h.here (g.before j below) in
    let not_behind : k < j → ⊥ = λ below. g.here (h.before k below) in
    omega arith

-- a text has at most one first bad line
pub one_bad_within : (most : ℕ) → most ≤ FRAME → (text : List ℕ) (m n : ℕ) → IsFirstBadWithin most text m → IsFirstBadWithin most text n
    → m ≡ n
one_bad_within most within text m n = by (pieces_of text)
  where
    by : (ts : List (List ℕ)) → IsFirstBadIn most ts m → IsFirstBadIn most ts n → m ≡ n
    by [] e f = e ∙ sym f
    by (t ∷ ts) (inl (none, e)) (inl (other, f)) = e ∙ sym f
    by (t ∷ ts) (inl (none, e)) (inr h) = absurd (none h.frame h.framed)
    by (t ∷ ts) (inr h) (inl (none, e)) = absurd (none h.frame h.framed)
    by (t ∷ ts) (inr h) (inr k) =
        let here = h.framed.small in
        let there = k.framed.small in
        let small : k.frame ≤ FRAME = omega (arith, there, within) in
        let frames : h.frame ≡ k.frame = same_frame t h.frame k.frame (omega (arith, here, within)) small h.framed.spelled k.framed.spelled in
        let lines : h.lines ≡ k.lines = readings_same k.frame small ts h.lines k.lines
        (subst (λ (f : ℕ). AllZip (IsReadAs f) ts h.lines) frames h.read) k.read in
        h.numbered
        ∙ ap (λ (p : ℕ). p + 2) (one_place k.lines h.place k.place
        (subst (λ (ls : List (Option Line)). IsFirstBadOf ls h.place) lines h.bad) k.bad)
        ∙ sym k.numbered

pub one_bad : (text : List ℕ) (m n : ℕ) → IsFirstBad text m → IsFirstBad text n → m ≡ n
one_bad = one_bad_within FRAME (omega arith)

-- ---- there is a listing

-- `jumpr r31` alone under a label
abbrev returning : Code
returning = record {
  frame = 0;
  blocks = block (codes "e") (packet (i Jumpr None (31 ∷ []) (pos 0) None ∷ []) ∷ []) ∷ [];
  rules = ∣ kept_without_frame ∣₁;
}

pub returning_listed : IsListingOf (code_text returning) returning
returning_listed = refl
