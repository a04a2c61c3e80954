-- The lines of code stand at their places.
use Rattle.std.proofs.Common.{◌≡◌, ◌≢◌, ◌<◌, ℕ, suc, zero, ◌+◌, Bool, true, false, List, [], ◌∷◌, ◌++◌, Option, Some, length, slice_get}
use Rattle.std.proofs.Common.{IsSomeAnd, All, AllPairs, Contains, sum_by, get_or, ⊎_elim, refl, sym, ap, subst, arith, append-nil}
use Rattle.std.proofs.Common.{append_assoc, length-append}
use Rattle.std.specs.Bool.{OnTrue}
use Rattle.std.proofs.lemmas.List.Elements.{All-head, All-tail, Contains-push_cases}
use Rattle.std.proofs.lemmas.List.Sums.{sum_by-cons}
use Rattle.un_packet.specs.declared.code.TheConstants.{PACKETS, BLOCKS}
use Rattle.un_packet.specs.declared.code.Packet.{Packet}
use Rattle.un_packet.specs.declared.code.CodeBlock.{CodeBlock}
use Rattle.un_packet.specs.CodeRules.{LeadsToOneOf, transfers, leaves, TransfersLast, EndsByLeaving, IsGoodCodeBlock, KeepsRules, labels_of}
use Rattle.un_listing_reader.specs.declared.line.Line.{Line}
use Rattle.un_listing_reader.specs.declared.line.Line.TheVariants.{Block as BlockLine, Packet as PacketLine}
use Rattle.un_listing_reader.specs.Reading.{labels_in, packets_in, goes_on, AllStand, lines_in, packet_lines}
use Rattle.un_listing_reader.proofs.Noting.{packets_append, some_more}
use Rattle.un_listing_reader.proofs.Standing.{StandFrom, to_places}
use Rattle.un_listing_reader.proofs.RulesKept.{labels_lines, past, labels_past, packets_past}

where_not : (v : Bool) (P : Type 0) → v ≡ false → OnTrue v P
where_not v P e = rw e tt

where_so : (v : Bool) {P : Type 0} → P → OnTrue v P
where_so true p = p
where_so false p = tt

ends_tail : (label : List ℕ) (p q : Packet) (ps : List Packet) → EndsByLeaving (record { label = label; packets = p ∷ q ∷ ps })
    → EndsByLeaving (record { label = label; packets = q ∷ ps })
ends_tail label p q ps (zero, e, h) = absurd (omega arith)
ends_tail label p q ps (suc k, e, h) = (k, omega arith, h)

ends_one : (label : List ℕ) (p : Packet) → EndsByLeaving (record { label = label; packets = p ∷ [] }) → leaves p ≡ true
ends_one label p (zero, e, h) = h
ends_one label p (suc k, e, h) = absurd (omega arith)

ends_some : (label : List ℕ) → EndsByLeaving (record { label = label; packets = [] }) → ⊥
ends_some label (k, e, h) = omega arith

module _ (all : List (List ℕ)) where
  packets_stand : (before : List (Option Line)) (label : List ℕ) (ps : List Packet) (rest : List (Option Line)) → before ≢ []
      → TransfersLast ps → All (λ (p : Packet). All (LeadsToOneOf all) p.instrs) ps → goes_on rest ≡ false
      → (rest ≡ [] → EndsByLeaving (record { label = label; packets = ps })) → packets_in before + length ps < PACKETS
      → StandFrom all (before ++ packet_lines ps) rest → StandFrom all before (packet_lines ps ++ rest)
  packets_stand before label [] rest some last targets off ending few later = rw append-nil at later
  packets_stand before label (p ∷ []) rest some last targets off ending few later = (
    record {
      under = some;
      few = omega arith;
      targets = All-head (λ (p : Packet). All (LeadsToOneOf all) p.instrs) p [] targets;
      last = where_so (transfers p) off;
      ending = λ e. ends_one label p (ending e);
    },
    later,
  )
  packets_stand before label (p ∷ q ∷ ps) rest some last targets off ending few later = (
    record {
      under = some;
      few = omega arith;
      targets = All-head (λ (p : Packet). All (LeadsToOneOf all) p.instrs) p (q ∷ ps) targets;
      last = where_not (transfers p) _ (last 0 (omega arith));
      ending = λ e. absurd (cc e);
    },
    packets_stand (before ++ Some (PacketLine p) ∷ []) label (q ∷ ps) rest (some_more before (Some (PacketLine p)))
        (λ k below. last (suc k) (omega arith)) (All-tail (λ (p : Packet). All (LeadsToOneOf all) p.instrs) p (q ∷ ps) targets) off
        (λ e. ends_tail label p q ps (ending e)) (let e = packets_append before (Some (PacketLine p) ∷ []) in omega arith)
        (rw (append_assoc before (Some (PacketLine p) ∷ []) (packet_lines (q ∷ ps))) later),
  )

  -- blocks begin by no packet
  off_blocks : (bs : List CodeBlock) → goes_on (lines_in bs) ≡ false
  off_blocks [] = refl
  off_blocks (b ∷ bs) = refl

  none_left : (bs : List CodeBlock) → lines_in bs ≡ [] → bs ≡ []
  none_left [] e = refl
  none_left (b ∷ bs) e = absurd (cc e)

  no_lines : (ps : List Packet) (bs : List CodeBlock) → packet_lines ps ++ lines_in bs ≡ [] → (ps ≡ []) × (bs ≡ [])
  no_lines [] bs e = (refl, none_left bs e)
  no_lines (p ∷ ps) bs e = absurd (cc e)

  -- what blocks behind lines keep
  record Kept (frame : ℕ) (before : List (Option Line)) (bs : List CodeBlock) : Type 0 where
    few_blocks : length (labels_in before) + length bs < BLOCKS
    few_packets : packets_in before + sum_by (λ (b : CodeBlock). length b.packets) bs < PACKETS
    new : (label : List ℕ) → Contains (labels_in before) label → All (λ (b : CodeBlock). label ≢ b.label) bs
    distinct : AllPairs (λ (a b : CodeBlock). a.label ≢ b.label) bs
    good : All (IsGoodCodeBlock frame all) bs
    last : (k : ℕ) → k + 1 ≡ length bs → IsSomeAnd (slice_get bs k) EndsByLeaving

  later_kept : (frame : ℕ) (before : List (Option Line)) (b : CodeBlock) (bs : List CodeBlock) → Kept frame before (b ∷ bs)
      → Kept frame (past all before b) bs
  later_kept frame before b bs h = record {
    few_blocks = (let f = h.few_blocks in let e = ap length (labels_past all before b) in
        let l = length-append (labels_in before) (b.label ∷ []) in omega arith);
    few_packets = (let f = h.few_packets in let e = packets_past all before b in
        let s = sum_by-cons (λ (b : CodeBlock). length b.packets) b bs in omega arith);
    new = λ label there. ⊎_elim (λ c. All-tail (λ (b : CodeBlock). label ≢ b.label) b bs (h.new label c))
        (λ e. λ k d below. subst (λ (l : List ℕ). l ≢ (get_or bs k d).label) e (h.distinct 0 (suc k) d (omega arith) (omega arith)))
        (Contains-push_cases (labels_in before) b.label label (rw (labels_past all before b) at there));
    distinct = λ i j d before below. h.distinct (suc i) (suc j) d (omega arith) (omega arith);
    good = All-tail (IsGoodCodeBlock frame all) b bs h.good;
    last = λ k e. h.last (suc k) (omega arith);
  }

  blocks_stand : (frame : ℕ) (before : List (Option Line)) (bs : List CodeBlock) → Kept frame before bs → StandFrom all before (lines_in bs)
  blocks_stand frame before [] h = tt
  blocks_stand frame before (b ∷ bs) h = (
    record {
      new = λ c. All-head (λ (c : CodeBlock). b.label ≢ c.label) b bs (h.new b.label c) refl;
      few = (let f = h.few_blocks in omega arith);
      more = λ e. (let none = no_lines b.packets bs e in ends_some b.label (rw none.0 at ending none.1));
    },
    packets_stand (before ++ Some (BlockLine b.label) ∷ []) b.label b.packets (lines_in bs) (some_more before (Some (BlockLine b.label)))
        here.transfers_last here.targets (off_blocks bs) (λ e. ending (none_left bs e))
        (let f = h.few_packets in let s = sum_by-cons (λ (b : CodeBlock). length b.packets) b bs in
        let e = packets_append before (Some (BlockLine b.label) ∷ []) in omega arith)
        (blocks_stand frame (past all before b) bs (later_kept frame before b bs h)),
  )
    where
      here : IsGoodCodeBlock frame all b
      here = All-head (IsGoodCodeBlock frame all) b bs h.good

      ending : bs ≡ [] → EndsByLeaving b
      ending e = h.last 0 (rw e refl)

some_line : (bs : List CodeBlock) → 0 < length bs → lines_in bs ≢ []
some_line [] some e = omega arith
some_line (b ∷ bs) some e = absurd (cc e)

pub lines_stand : (frame : ℕ) (bs : List CodeBlock) → KeepsRules frame bs → AllStand (lines_in bs)
lines_stand frame bs h = record {
  some = some_line bs h.some;
  each = λ k below. to_places [] (lines_in bs) from k (omega arith) below;
}
  where
    kept : Kept (labels_of bs) frame [] bs
    kept = record {
      few_blocks = (let f = h.few_blocks in omega arith);
      few_packets = (let f = h.few_packets in omega arith);
      new = λ label there. absurd (let low = there.1 in omega arith);
      distinct = h.distinct_labels;
      good = h.good_blocks;
      last = h.last;
    }

    from : StandFrom (labels_in (lines_in bs)) [] (lines_in bs)
    from = subst (λ (all : List (List ℕ)). StandFrom all [] (lines_in bs)) (sym (labels_lines bs))
        (blocks_stand (labels_of bs) frame [] bs kept)
