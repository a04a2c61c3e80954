-- A line spells one thing, and blocks are read back from their lines.
use Rattle.std.proofs.Common.{◌≡◌, ◌≤◌, ℕ, List, [], ◌∷◌, ◌++◌, Option, Some, None, codes, refl, sym, ap, ◌∙◌, arith}
use Rattle.std.specs.List.{AllZip}
use Rattle.std.specs.Fmt.{decimal}
use Rattle.std.proofs.lemmas.Fmt.{decimal_injective}
use Rattle.un_isa.specs.declared.reg.TheConstants.{FRAME}
use Rattle.un_isa.specs.declared.instr.Instr.{Instr}
use Rattle.un_packet.specs.declared.code.Packet.{Packet}
use Rattle.un_packet.specs.declared.code.CodeBlock.{CodeBlock}
use Rattle.un_listing_reader.specs.declared.line.Line.{Line}
use Rattle.un_listing_reader.specs.declared.line.Line.TheVariants.{Block as BlockLine, Packet as PacketLine, Broken}
use Rattle.un_listing_reader.specs.Reading.{lines_in, packet_lines, Spells, IsReadAs, frame_text}
use Rattle.un_listing_reader.proofs.LineCuts.{same_within}
use Rattle.un_listing_reader.proofs.PacketBack.{packet_back}
use Rattle.un_listing_reader.proofs.LineTexts.{IsSpelled}

-- ---- one reading

one_value : {A : Type 0} (o : Option A) (x y : A) → o ≡ Some x → o ≡ Some y → x ≡ y
one_value o x y e f = let g : Some x ≡ Some y = sym e ∙ f in cc g

first_same : (m n : ℕ) (a b : List ℕ) → m ∷ a ≡ n ∷ b → m ≡ n
first_same m n a b e = cc e

-- a line does not begin both as a label's and as a packet's
apart : (text a b : List ℕ) → text ≡ 98 ∷ a → text ≡ 123 ∷ b → ⊥
apart text a b e f = omega (arith, first_same 98 123 a b (sym e ∙ f))

pub same_frame : (text : List ℕ) (m n : ℕ) → m ≤ FRAME → n ≤ FRAME → text ≡ frame_text m → text ≡ frame_text n → m ≡ n
same_frame text m n small few e f = decimal_injective m n (omega arith) (omega arith)
    (same_within (codes "frame ") (decimal m) (decimal n) (sym e ∙ f))

module _ (frame : ℕ) (small : frame ≤ FRAME) where
  instrs_same : (text : List ℕ) (p q : Packet) → Spells frame text (PacketLine p) → Spells frame text (PacketLine q) → p.instrs ≡ q.instrs
  instrs_same text p q h k =
      one_value _ p.instrs q.instrs
      (packet_back frame small text p (record { rules = h.good; text = h.spelled }))
      (packet_back frame small text q (record { rules = k.good; text = k.spelled }))

  one_line : (text : List ℕ) (a b : Line) → Spells frame text a → Spells frame text b → a ≡ b
  one_line text Broken b h k = absurd h.good
  one_line text (BlockLine a) Broken h k = absurd k.good
  one_line text (PacketLine p) Broken h k = absurd k.good
  one_line text (BlockLine a) (BlockLine b) h k = ap BlockLine (same_within (codes "block ") a b (sym h.spelled ∙ k.spelled))
  one_line text (BlockLine a) (PacketLine q) h k = absurd (apart text _ _ h.spelled k.spelled)
  one_line text (PacketLine p) (BlockLine b) h k = absurd (apart text _ _ k.spelled h.spelled)
  one_line text (PacketLine p) (PacketLine q) h k = ap (λ (is : List Instr). PacketLine (record { instrs = is })) (instrs_same text p q h k)

  pub one_reading : (text : List ℕ) (o : Option Line) (line : Line) → IsReadAs frame text o → Spells frame text line → o ≡ Some line
  one_reading text None line h s = absurd (h.0 line s)
  one_reading text (Some Broken) line h s = absurd (h.0 line s)
  one_reading text (Some (BlockLine label)) line h s = ap (λ (x : Line). Some x) (one_line text (BlockLine label) line h s)
  one_reading text (Some (PacketLine p)) line h s = ap (λ (x : Line). Some x) (one_line text (PacketLine p) line h s)

  reading_same : (text : List ℕ) (o p : Option Line) → IsReadAs frame text o → IsReadAs frame text p → o ≡ p
  reading_same text o (Some (BlockLine label)) h s = one_reading text o (BlockLine label) h s
  reading_same text o (Some (PacketLine p)) h s = one_reading text o (PacketLine p) h s
  reading_same text (Some (BlockLine label)) (Some Broken) h s = absurd (s.0 (BlockLine label) h)
  reading_same text (Some (PacketLine p)) (Some Broken) h s = absurd (s.0 (PacketLine p) h)
  reading_same text (Some Broken) (Some Broken) h s = refl
  reading_same text None (Some Broken) h s = absurd (h.1 s.1)
  reading_same text (Some (BlockLine label)) None h s = absurd (s.0 (BlockLine label) h)
  reading_same text (Some (PacketLine p)) None h s = absurd (s.0 (PacketLine p) h)
  reading_same text (Some Broken) None h s = absurd (s.1 h.1)
  reading_same text None None h s = refl

  pub readings_same : (texts : List (List ℕ)) (ls ms : List (Option Line)) → AllZip (IsReadAs frame) texts ls
      → AllZip (IsReadAs frame) texts ms → ls ≡ ms
  readings_same [] [] [] h k = refl
  readings_same [] (l ∷ ls) ms h k = absurd h
  readings_same [] [] (m ∷ ms) h k = absurd k
  readings_same (t ∷ ts) [] ms h k = absurd h
  readings_same (t ∷ ts) (l ∷ ls) [] h k = absurd k
  readings_same (t ∷ ts) (l ∷ ls) (m ∷ ms) (here, more) (there, later) =
      ap (λ (x : Option Line). x ∷ ls) (reading_same t l m here there)
      ∙ ap (λ (xs : List (Option Line)). m ∷ xs) (readings_same ts ls ms more later)

  read_as : (text : List ℕ) (line : Line) → Spells frame text line → IsReadAs frame text (Some line)
  read_as text (BlockLine label) s = s
  read_as text (PacketLine p) s = s
  read_as text Broken s = absurd s.good

  -- what a line spells it is read as
  pub spelled_read : (texts : List (List ℕ)) (ls : List (Option Line)) → AllZip (IsSpelled frame) texts ls
      → AllZip (IsReadAs frame) texts ls
  spelled_read [] [] h = tt
  spelled_read [] (l ∷ ls) h = absurd h
  spelled_read (t ∷ ts) [] h = absurd h
  spelled_read (t ∷ ts) (None ∷ ls) (here, later) = absurd here
  spelled_read (t ∷ ts) (Some l ∷ ls) (here, later) = (read_as t l here, spelled_read ts ls later)

-- ---- the blocks of lines

-- packets, and the blocks behind them
abbrev Parted : Type 0
Parted = List Packet × List CodeBlock

abbrev under_label : List ℕ → Parted → Parted
under_label label rest = ([], record { label = label; packets = rest.0 } ∷ rest.1)

abbrev after_packet : Packet → Parted → Parted
after_packet p rest = (p ∷ rest.0, rest.1)

abbrev parted : List (Option Line) → Parted
parted [] = ([], [])
parted (None ∷ ls) = parted ls
parted (Some Broken ∷ ls) = parted ls
parted (Some (BlockLine label) ∷ ls) = under_label label (parted ls)
parted (Some (PacketLine p) ∷ ls) = after_packet p (parted ls)

parted_packets : (ps : List Packet) (ls : List (Option Line)) (bs : List CodeBlock) → parted ls ≡ ([], bs)
    → parted (packet_lines ps ++ ls) ≡ (ps, bs)
parted_packets [] ls bs e = e
parted_packets (p ∷ ps) ls bs e = ap (after_packet p) (parted_packets ps ls bs e)

parted_blocks : (bs : List CodeBlock) → parted (lines_in bs) ≡ ([], bs)
parted_blocks [] = refl
parted_blocks (b ∷ bs) = ap (under_label b.label) (parted_packets b.packets (lines_in bs) bs (parted_blocks bs))

-- blocks with the same lines are the same
pub blocks_same : (bs cs : List CodeBlock) → lines_in bs ≡ lines_in cs → bs ≡ cs
blocks_same bs cs e = ap (λ (x : Parted). x.1) (sym (parted_blocks bs) ∙ ap parted e ∙ parted_blocks cs)
