-- Blocks whose lines all stand keep the rules of code.
use Rattle.std.proofs.Common.{◌≡◌, ◌≢◌, ◌<◌, ◌≤◌, ℕ, suc, zero, ◌+◌, Bool, true, false, List, [], ◌∷◌, ◌++◌, Option, Some, length, slice_get}
use Rattle.std.proofs.Common.{IsSomeAnd, All, Contains, sum_by, refl, sym, ap, ◌∙◌, subst, arith, append-nil, append_assoc, length-append}
use Rattle.std.specs.List.{AllByRecursion as Each}
use Rattle.std.specs.Bool.{OnTrue}
use Rattle.std.proofs.lemmas.List.Elements.{All-cons, All-nil, Contains-append_left, Contains-push}
use Rattle.std.proofs.lemmas.List.Sums.{sum_by-cons}
use Rattle.un_base.specs.Names.{is_name}
use Rattle.un_words.proofs.Each.{EachPair, EachPair-AllPairs}
use Rattle.un_isa.specs.declared.reg.TheConstants.{FRAME}
use Rattle.un_packet.specs.declared.code.TheConstants.{PACKETS, BLOCKS}
use Rattle.un_packet.specs.declared.code.Packet.{Packet}
use Rattle.un_packet.specs.declared.code.CodeBlock.{CodeBlock}
use Rattle.un_packet.specs.CodeRules.{LeadsToOneOf, transfers, TransfersLast, EndsByLeaving, IsGoodPacket, IsGoodCodeBlock, KeepsRules}
use Rattle.un_packet.specs.CodeRules.{labels_of}
use Rattle.un_listing_reader.specs.declared.line.Line.{Line}
use Rattle.un_listing_reader.specs.declared.line.Line.TheVariants.{Block as BlockLine, Packet as PacketLine}
use Rattle.un_listing_reader.specs.Reading.{labels_in, packets_in, AllStand, lines_in, packet_lines, IsFrameLine}
use Rattle.un_listing_reader.proofs.Noting.{labels_append, packets_append}
use Rattle.un_listing_reader.proofs.Standing.{StandFrom, from_places}

-- the labels and the packets of blocks, by their lines
labels_none : (ps : List Packet) (rest : List (Option Line)) → labels_in (packet_lines ps ++ rest) ≡ labels_in rest
labels_none [] rest = refl
labels_none (p ∷ ps) rest = labels_none ps rest

pub labels_lines : (bs : List CodeBlock) → labels_in (lines_in bs) ≡ labels_of bs
labels_lines [] = refl
labels_lines (b ∷ bs) = ap (λ (ls : List (List ℕ)). b.label ∷ ls) (labels_none b.packets (lines_in bs) ∙ labels_lines bs)

-- ---- the packets of a block

-- each packet before the last leaves nothing
abbrev TransfersOnlyLast : List Packet → Type 0
TransfersOnlyLast [] = Unit {0}
TransfersOnlyLast (p ∷ []) = Unit {0}
TransfersOnlyLast (p ∷ q ∷ ps) = (transfers p ≡ false) × TransfersOnlyLast (q ∷ ps)

transfers_last : (ps : List Packet) → TransfersOnlyLast ps → TransfersLast ps
transfers_last [] h k below = absurd (omega arith)
transfers_last (p ∷ []) h k below = absurd (omega arith)
transfers_last (p ∷ q ∷ ps) (here, later) zero below = here
transfers_last (p ∷ q ∷ ps) (here, later) (suc k) below = transfers_last (q ∷ ps) later k (omega arith)

not_on : (v : Bool) → OnTrue v (true ≡ false) → v ≡ false
not_on true h = absurd (cc h)
not_on false h = refl

module _ (all : List (List ℕ)) where
  behind_packets : (before : List (Option Line)) (ps : List Packet) (rest : List (Option Line))
      → StandFrom all before (packet_lines ps ++ rest)
      → StandFrom all (before ++ packet_lines ps) rest
  behind_packets before [] rest h = rw append-nil h
  behind_packets before (p ∷ ps) rest (here, more) =
      subst (λ (ls : List (Option Line)). StandFrom all ls rest) (append_assoc before (Some (PacketLine p) ∷ []) (packet_lines ps))
      (behind_packets (before ++ Some (PacketLine p) ∷ []) ps rest more)

  only_last : (before : List (Option Line)) (ps : List Packet) (rest : List (Option Line))
      → StandFrom all before (packet_lines ps ++ rest) → TransfersOnlyLast ps
  only_last before [] rest h = tt
  only_last before (p ∷ []) rest h = tt
  only_last before (p ∷ q ∷ ps) rest (here, more) = (
    not_on (transfers p) here.last,
    only_last (before ++ Some (PacketLine p) ∷ [])
        (q ∷ ps) rest more,
  )

  lead : (before : List (Option Line)) (ps : List Packet) (rest : List (Option Line)) → StandFrom all before (packet_lines ps ++ rest)
      → All (λ (p : Packet). All (LeadsToOneOf all) p.instrs) ps
  lead before [] rest h = All-nil (λ (p : Packet). All (LeadsToOneOf all) p.instrs)
  lead before (p ∷ ps) rest (here, more) =
      All-cons (λ (p : Packet). All (LeadsToOneOf all) p.instrs) p ps here.targets
      (lead (before ++ Some (PacketLine p) ∷ []) ps rest more)

  end_leaves : (before : List (Option Line)) (label : List ℕ) (ps : List Packet) → StandFrom all before (packet_lines ps ++ [])
      → packet_lines ps ++ [] ≢ []
      → EndsByLeaving (record { label = label; packets = ps })
  end_leaves before label [] h some = absurd (some refl)
  end_leaves before label (p ∷ []) (here, more) some = (0, omega arith, here.ending refl)
  end_leaves before label (p ∷ q ∷ ps) (here, more) some =
      let e = end_leaves (before ++ Some (PacketLine p) ∷ []) label (q ∷ ps) more (λ f. absurd (cc f)) in
      (suc e.0, omega (arith, e.1), e.2)

  few_in_block : (before : List (Option Line)) (ps : List Packet) (rest : List (Option Line))
      → StandFrom all before (packet_lines ps ++ rest)
      → packets_in before < PACKETS → packets_in before + length ps < PACKETS
  few_in_block before [] rest h few = omega arith
  few_in_block before (p ∷ ps) rest (here, more) few =
      let e = packets_append before (Some (PacketLine p) ∷ []) in
      let f = here.few in
      let g = few_in_block (before ++ Some (PacketLine p) ∷ []) ps rest more (omega arith) in
      omega arith

  -- behind a block
  abbrev pub past : List (Option Line) → CodeBlock → List (Option Line)
  past before b = (before ++ Some (BlockLine b.label) ∷ []) ++ packet_lines b.packets

  behind_block : (before : List (Option Line)) (b : CodeBlock) (bs : List CodeBlock) → StandFrom all before (lines_in (b ∷ bs))
      → StandFrom all (past before b) (lines_in bs)
  behind_block before b bs (here, more) = behind_packets (before ++ Some (BlockLine b.label) ∷ []) b.packets (lines_in bs) more

  pub labels_past : (before : List (Option Line)) (b : CodeBlock) → labels_in (past before b) ≡ labels_in before ++ b.label ∷ []
  labels_past before b =
      labels_append (before ++ Some (BlockLine b.label) ∷ []) (packet_lines b.packets)
      ∙ ap (λ (ls : List (List ℕ)). labels_in (before ++ Some (BlockLine b.label) ∷ []) ++ ls)
      (ap labels_in (sym (append-nil (packet_lines b.packets))) ∙ labels_none b.packets [])
      ∙ append-nil (labels_in (before ++ Some (BlockLine b.label) ∷ []))
      ∙ labels_append before (Some (BlockLine b.label) ∷ [])

  packets_none : (ps : List Packet) → packets_in (packet_lines ps) ≡ length ps
  packets_none [] = refl
  packets_none (p ∷ ps) = ap suc (packets_none ps)

  pub packets_past : (before : List (Option Line)) (b : CodeBlock) → packets_in (past before b) ≡ packets_in before + length b.packets
  packets_past before b =
      let e = packets_append (before ++ Some (BlockLine b.label) ∷ []) (packet_lines b.packets) in
      let f = packets_append before (Some (BlockLine b.label) ∷ []) in
      let g = packets_none b.packets in
      omega arith

  few_blocks : (before : List (Option Line)) (bs : List CodeBlock) → StandFrom all before (lines_in bs)
      → length (labels_in before) < BLOCKS
      → length (labels_in before) + length bs < BLOCKS
  few_blocks before [] h few = omega arith
  few_blocks before (b ∷ bs) (here, more) few =
      let e = ap length (labels_past before b) in
      let l = length-append (labels_in before) (b.label ∷ []) in
      let f = here.few in
      let g = few_blocks (past before b) bs (behind_block before b bs (here, more)) (omega arith) in
      omega arith

  few_packets : (before : List (Option Line)) (bs : List CodeBlock) → StandFrom all before (lines_in bs) → packets_in before < PACKETS
      → packets_in before + sum_by (λ (b : CodeBlock). length b.packets) bs < PACKETS
  few_packets before [] h few = omega arith
  few_packets before (b ∷ bs) (here, more) few =
      let f = packets_append before (Some (BlockLine b.label) ∷ []) in
      let k = few_in_block (before ++ Some (BlockLine b.label) ∷ []) b.packets (lines_in bs) more (omega arith) in
      let e = packets_past before b in
      let g = few_packets (past before b) bs (behind_block before b bs (here, more)) (omega arith) in
      let s = sum_by-cons (λ (b : CodeBlock). length b.packets) b bs in
      omega arith

  fresh : (label : List ℕ) (before : List (Option Line)) (bs : List CodeBlock) → StandFrom all before (lines_in bs)
      → Contains (labels_in before) label
      → Each (λ (b : CodeBlock). label ≢ b.label) bs
  fresh label before [] h there = tt
  fresh label before (b ∷ bs) (here, more) there = (
    λ e. here.new (subst (λ (l : List ℕ). Contains (labels_in before) l) e there),
    fresh label (past before b) bs (behind_block before b bs (here, more))
        (rw (labels_past before b) (Contains-append_left (labels_in before) (b.label ∷ []) label there)),
  )

  distinct : (before : List (Option Line)) (bs : List CodeBlock) → StandFrom all before (lines_in bs)
      → EachPair (λ (a b : CodeBlock). a.label ≢ b.label) bs
  distinct before [] h = tt
  distinct before (b ∷ bs) (here, more) = (
    fresh b.label (past before b) bs (behind_block before b bs (here, more))
        (rw (labels_past before b) (Contains-push (labels_in before) b.label)),
    distinct (past before b) bs (behind_block before b bs (here, more)),
  )

  last_leaves : (before : List (Option Line)) (bs : List CodeBlock) → StandFrom all before (lines_in bs) → (k : ℕ) → k + 1 ≡ length bs
      → IsSomeAnd (slice_get bs k) EndsByLeaving
  last_leaves before [] h k e = absurd (omega arith)
  last_leaves before (b ∷ []) (here, more) zero e = end_leaves (before ++ Some (BlockLine b.label) ∷ []) b.label b.packets more here.more
  last_leaves before (b ∷ []) (here, more) (suc k) e = absurd (omega arith)
  last_leaves before (b ∷ c ∷ bs) h zero e = absurd (omega arith)
  last_leaves before (b ∷ c ∷ bs) h (suc k) e = last_leaves (past before b) (c ∷ bs) (behind_block before b (c ∷ bs) h) k (omega arith)

  good_blocks : (frame : ℕ) (before : List (Option Line)) (bs : List CodeBlock) → StandFrom all before (lines_in bs)
      → Each (λ (b : CodeBlock). All (IsGoodPacket frame) b.packets) bs
      → All (IsGoodCodeBlock frame all) bs
  good_blocks frame before [] h good = All-nil (IsGoodCodeBlock frame all)
  good_blocks frame before (b ∷ bs) (here, more) (g, gs) =
      All-cons (IsGoodCodeBlock frame all) b bs
      (record {
        packets = g;
        transfers_last = transfers_last b.packets (only_last (before ++ Some (BlockLine b.label) ∷ []) b.packets (lines_in bs) more);
        targets = lead (before ++ Some (BlockLine b.label) ∷ []) b.packets (lines_in bs) more;
      })
      (good_blocks frame (past before b) bs (behind_block before b bs (here, more)) gs)

some_block : (bs : List CodeBlock) → lines_in bs ≢ [] → 0 < length bs
some_block [] some = absurd (some refl)
some_block (b ∷ bs) some = omega arith

pub rules_kept : (most : ℕ) → most ≤ FRAME → (text : List ℕ) (frame : ℕ) (bs : List CodeBlock) → IsFrameLine most text frame
    → Each (λ (b : CodeBlock). All (IsGoodPacket frame) b.packets) bs → All (λ (b : CodeBlock). is_name b.label ≡ true) bs
    → AllStand (lines_in bs) → KeepsRules frame bs
rules_kept most within text frame bs framed good named stand =
    let small = framed.small in
    let from : StandFrom (labels_in (lines_in bs)) [] (lines_in bs) = from_places [] (lines_in bs) stand.each in
    let h : StandFrom (labels_of bs) [] (lines_in bs) = subst (λ (all : List (List ℕ)). StandFrom all [] (lines_in bs))
    (labels_lines bs) from in
    let blocks : length (labels_in []) + length bs < BLOCKS = few_blocks (labels_of bs) [] bs h (omega arith) in
    let packets : packets_in [] + sum_by (λ (b : CodeBlock). length b.packets) bs < PACKETS = few_packets (labels_of bs) [] bs h
    (omega arith) in
    record {
      whole = framed.whole;
      small = omega (arith, small, within);
      some = some_block bs stand.some;
      few_blocks = omega arith;
      few_packets = omega arith;
      named = named;
      distinct_labels = EachPair-AllPairs (λ (a b : CodeBlock). a.label ≢ b.label) bs (distinct (labels_of bs) [] bs h);
      good_blocks = good_blocks (labels_of bs) frame [] bs h good;
      last = last_leaves (labels_of bs) [] bs h;
    }
