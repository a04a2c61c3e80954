-- Each line of code is one piece of its listing.
use Rattle.std.proofs.Common.{◌≡◌, ◌≢◌, ◌≤◌, ◌==◌, ◌||◌, ℕ, pos, Bool, true, false, not, List, [], ◌∷◌, ◌++◌, Option, Some, IsSomeAnd, map}
use Rattle.std.proofs.Common.{codes, All, refl, sym, ap, ◌∙◌, subst, arith, append_assoc}
use Rattle.std.specs.List.{AllZip, flat_map, list_all}
use Rattle.std.specs.Fmt.{decimal}
use Rattle.std.proofs.lemmas.Bool.{and_parts}
use Rattle.std.proofs.lemmas.List.Elements.{All-cons, All-nil, All-head, All-tail}
use Rattle.std.proofs.lemmas.List.Folds.{list_all-append}
use Rattle.un_base.specs.Names.{is_name}
use Rattle.un_base.specs.Lines.{is_line_feed, pieces_of, joined_lines, HasNoFeed}
use Rattle.un_base.proofs.LineLaws.{pieces_of-line}
use Rattle.un_isa.specs.declared.reg.TheConstants.{FRAME}
use Rattle.un_isa.specs.declared.instr.Instr.{Instr}
use Rattle.un_packet.specs.declared.code.Packet.{Packet}
use Rattle.un_packet.specs.declared.code.CodeBlock.{CodeBlock}
use Rattle.un_packet.specs.CodeRules.{IsGoodInstr, IsGoodPacket, IsGoodCodeBlock}
use Rattle.un_listing_reader.specs.declared.line.Line.{Line}
use Rattle.un_listing_reader.specs.declared.line.Line.TheVariants.{Block as BlockLine, Packet as PacketLine}
use Rattle.un_listing.specs.Listing.{joined, instr_text, packet_line, block_lines}
use Rattle.un_listing_reader.specs.Reading.{lines_in, packet_lines, Spells, frame_text}
use Rattle.un_listing_reader.proofs.CleanTexts.{is_clean, IsClean, instr_clean, says_clean}
use Rattle.un_listing.proofs.WordTexts.{all_weaker, name_says, literal_says}
use Rattle.un_listing_reader.proofs.TextRead.{joined_append}

-- ---- no line feed within a line

abbrev is_inner : ℕ → Bool
is_inner b = not (is_line_feed b)

abbrev IsInner : List ℕ → Type 0
IsInner text = list_all is_inner text ≡ true

inner_append : (a b : List ℕ) → IsInner a → IsInner b → IsInner (a ++ b)
inner_append a b ha hb = rw (list_all-append is_inner a b, ha, hb) refl

inner_byte : (b : ℕ) → is_clean b ≡ true → is_inner b ≡ true
inner_byte b h = by (b == 59) (b == 10) h
  where
    by : (u v : Bool) → not (u || v) ≡ true → not v ≡ true
    by true v k = absurd (cc k)
    by false v k = k

inner : (text : List ℕ) → IsClean text → IsInner text
inner text h = all_weaker is_clean is_inner inner_byte text h

no_feed_at : (b : ℕ) → is_inner b ≡ true → b ≢ 10
no_feed_at b h e = absurd (let k = rw e at h in cc k)

no_feed : (text : List ℕ) → IsInner text → HasNoFeed text
no_feed [] h = All-nil (λ b. b ≢ 10)
no_feed (b ∷ bs) h = let parts = and_parts _ _ h in All-cons (λ b. b ≢ 10) b bs (no_feed_at b parts.0) (no_feed bs parts.1)

label_no_feed : (label : List ℕ) → is_name label ≡ true → HasNoFeed (codes "block " ++ label)
label_no_feed label h = no_feed (codes "block " ++ label) (inner label (says_clean label _ (name_says label h)))

frame_no_feed : (frame : ℕ) → frame ≤ FRAME → HasNoFeed (codes "frame " ++ decimal frame)
frame_no_feed frame small =
    no_feed (codes "frame " ++ decimal frame)
    (inner (codes "#" ++ decimal frame) (says_clean (codes "#" ++ decimal frame) _ (literal_says (pos frame) (omega arith))))

-- a line with its line feed spells this
abbrev pub IsSpelled : ℕ → List ℕ → Option Line → Type 0
IsSpelled frame text line = IsSomeAnd line (Spells frame text)

module _ (frame : ℕ) (small : frame ≤ FRAME) where
  instr_inner : (i : Instr) → IsGoodInstr frame i → IsInner (instr_text i)
  instr_inner i good = inner (instr_text i) (instr_clean frame small i good)

  more_inner : (is : List Instr) → All (IsGoodInstr frame) is
      → IsInner (flat_map (λ (i : Instr). codes "; " ++ instr_text i) is)
  more_inner [] good = refl
  more_inner (i ∷ is) good =
      inner_append (codes "; " ++ instr_text i) (flat_map (λ (i : Instr). codes "; " ++ instr_text i) is)
      (instr_inner i (All-head (IsGoodInstr frame) i is good))
      (more_inner is (All-tail (IsGoodInstr frame) i is good))

  joined_inner : (is : List Instr) → All (IsGoodInstr frame) is → IsInner (joined (codes "; ") instr_text is)
  joined_inner [] good = refl
  joined_inner (i ∷ is) good =
      inner_append (instr_text i) (flat_map (λ (i : Instr). codes "; " ++ instr_text i) is)
      (instr_inner i (All-head (IsGoodInstr frame) i is good))
      (more_inner is (All-tail (IsGoodInstr frame) i is good))

  packet_no_feed : (p : Packet) → IsGoodPacket frame p → HasNoFeed (packet_line p)
  packet_no_feed p h =
      no_feed (packet_line p)
      (inner_append (joined (codes "; ") instr_text p.instrs) (codes " }") (joined_inner p.instrs h.instrs) refl)

  -- ---- the pieces

  one_more : (text line more : List ℕ) (l : Line) (ls : List (Option Line)) → text ≡ line ++ 10 ∷ more → HasNoFeed line
      → Spells frame (line ++ 10 ∷ []) l → AllZip (IsSpelled frame) (pieces_of more) ls
      → AllZip (IsSpelled frame) (pieces_of text) (Some l ∷ ls)
  one_more text line more l ls e none here later =
      subst (λ (ts : List (List ℕ)). AllZip (IsSpelled frame) ts (Some l ∷ ls)) (sym (ap pieces_of e ∙ pieces_of-line line more none))
      (here, later)

  line_seam : (line a b : List ℕ) → ((line ++ 10 ∷ []) ++ a) ++ b ≡ line ++ 10 ∷ (a ++ b)
  line_seam line a b = append_assoc (line ++ 10 ∷ []) a b ∙ append_assoc line (10 ∷ []) (a ++ b)

  packets_spelled : (ps : List Packet) → All (IsGoodPacket frame) ps → (rest : List ℕ) (ls : List (Option Line))
      → AllZip (IsSpelled frame) (pieces_of rest) ls
      → AllZip (IsSpelled frame) (pieces_of (joined_lines (map packet_line ps) ++ rest)) (packet_lines ps ++ ls)
  packets_spelled [] good rest ls later = later
  packets_spelled (p ∷ ps) good rest ls later =
      let here = All-head (IsGoodPacket frame) p ps good in
      one_more (joined_lines (map packet_line (p ∷ ps)) ++ rest) (packet_line p) (joined_lines (map packet_line ps) ++ rest)
      (PacketLine p) (packet_lines ps ++ ls) (line_seam (packet_line p) (joined_lines (map packet_line ps)) rest)
      (packet_no_feed p here) (record { good = here; spelled = refl })
      (packets_spelled ps (All-tail (IsGoodPacket frame) p ps good) rest ls later)

  pub blocks_spelled : (labels : List (List ℕ)) (bs : List CodeBlock) → All (IsGoodCodeBlock frame labels) bs
      → All (λ (b : CodeBlock). is_name b.label ≡ true) bs
      → AllZip (IsSpelled frame) (pieces_of (joined_lines (flat_map block_lines bs))) (lines_in bs)
  blocks_spelled labels [] good named = tt
  blocks_spelled labels (b ∷ bs) good named =
      let here = All-head (IsGoodCodeBlock frame labels) b bs good in
      let name = All-head (λ (b : CodeBlock). is_name b.label ≡ true) b bs named in
      let packets : List ℕ = joined_lines (map packet_line b.packets) in
      let rest : List ℕ = joined_lines (flat_map block_lines bs) in
      one_more (joined_lines (flat_map block_lines (b ∷ bs))) (codes "block " ++ b.label) (packets ++ rest)
      (BlockLine b.label) (packet_lines b.packets ++ lines_in bs)
      (ap (λ (t : List ℕ). ((codes "block " ++ b.label) ++ 10 ∷ []) ++ t)
      (joined_append (map packet_line b.packets) (flat_map block_lines bs))
      ∙ append_assoc (codes "block " ++ b.label) (10 ∷ []) (packets ++ rest))
      (label_no_feed b.label name) (record { good = name; spelled = refl })
      (packets_spelled b.packets here.packets rest (lines_in bs)
      (blocks_spelled labels bs (All-tail (IsGoodCodeBlock frame labels) b bs good)
      (All-tail (λ (b : CodeBlock). is_name b.label ≡ true) b bs named)))

  -- the first piece tells the frame
  pub first_piece : (ls : List (List ℕ))
      → pieces_of (joined_lines ((codes "frame " ++ decimal frame) ∷ ls)) ≡ frame_text frame ∷ pieces_of (joined_lines ls)
  first_piece ls =
      ap pieces_of (append_assoc (codes "frame " ++ decimal frame) (10 ∷ []) (joined_lines ls))
      ∙ pieces_of-line (codes "frame " ++ decimal frame) (joined_lines ls) (frame_no_feed frame small)
