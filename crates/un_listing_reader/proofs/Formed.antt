-- Instructions of code have the form of instructions, and what a line is read as.
use Rattle.std.proofs.Common.{◌≡◌, ◌↔◌, ℕ, ℤ, zero, suc, ◌+◌, ◌<◌, ◌≤◌, Bool, true, false, IsTrue, true≢false, nat_lt, List}
use Rattle.std.proofs.Common.{[]}
use Rattle.std.proofs.Common.{◌∷◌, ◌++◌, map, length, codes, Some, None, All, if◌then◌else◌, refl, sym, ap, ◌∙◌, subst, arith}
use Rattle.std.specs.List.{range_with_len}
use Rattle.std.proofs.lemmas.Bool.Decides.{nat_tests}
use Rattle.std.proofs.lemmas.Int.{ints}
use Rattle.std.proofs.lemmas.List.Elements.{All-nil, All-cons}
use Rattle.un_isa.specs.declared.op.Op.{Op}
use Rattle.un_isa.specs.declared.op.Op.TheVariants.{Call, Enter, Leave}
use Rattle.un_isa.specs.declared.reg.Reg.{Reg}
use Rattle.un_isa.specs.declared.reg.Space.TheVariants.{R, P, M}
use Rattle.un_isa.specs.declared.reg.TheConstants.{FRAME, FIRST_SLOT}
use Rattle.un_isa.specs.declared.instr.Instr.{Instr}
use Rattle.un_isa.specs.Registers.{space_of}
use Rattle.un_packet.specs.declared.code.Packet.{Packet}
use Rattle.un_packet.specs.CodeRules.{IsGoodInstr, ReadsItsSpaces, HasItsNumber, number}
use Rattle.un_listing.specs.Listing.{packet_line}
use Rattle.un_listing_reader.specs.declared.packet.PacketRead.{PacketRead}
use Rattle.un_listing_reader.specs.declared.packet.PacketRead.TheVariants.{Good, Broken, Other}
use Rattle.un_listing_reader.specs.PacketForms.{ReadsItsKinds, HasItsRange, IsFormed, IsPacketForm}
use Rattle.un_listing_reader.specs.PacketReads.{IsByRules, IsPacketReadAs}
use Rattle.un_listing_reader.specs.PacketWords.{parts_of, instrs_in, IsPacketLine}
use Rattle.un_listing_reader.proofs.PacketBack.{packet_back}

-- ---- instructions

abbrev pub IsGeneral : Reg → Type 0
IsGeneral r = space_of r.0 ≡ R

low_general : (n : ℕ) → n < 6 → space_of n ≡ R
low_general n low = by (nat_lt n 32) (nat_lt n FIRST_SLOT) refl
  where
    by : (u v : Bool) → nat_lt n 32 ≡ u → (if u then R else if v then P else M) ≡ R
    by true v e = refl
    by false v e = absurd (grind (arith, nat_tests))

general_from : (k : ℕ) (srcs : List Reg) → map number srcs ≡ range_with_len k (length srcs) → k + length srcs ≤ 6 → All IsGeneral srcs
general_from k [] e few = All-nil IsGeneral
general_from k (r ∷ rs) e few =
    let first : r.0 ≡ k = cc e in
    let rest : map number rs ≡ range_with_len (k + 1) (length rs) = cc e in
    All-cons IsGeneral r rs (low_general r.0 (omega arith)) (general_from (k + 1) rs rest (omega arith))

reads_kinds : (op : Op) (srcs : List Reg) → ReadsItsSpaces op srcs → ReadsItsKinds op srcs
reads_kinds Call srcs h = let few = h.1 in general_from 0 srcs h.0 (omega arith)
reads_kinds op srcs h = h

number_in_range : (frame : ℕ) → frame ≤ FRAME → (op : Op) (n : ℤ) → HasItsNumber frame op n → HasItsRange op n
number_in_range zero small Enter n h = let k = h.0 in absurd (omega arith)
number_in_range (suc k) small Enter n h = rw h.1 (omega (arith, ints), omega (arith, ints))
number_in_range frame small Leave n h = rw h.1 (omega (arith, ints), omega (arith, ints))
number_in_range frame small op n h = h

formed : (frame : ℕ) → frame ≤ FRAME → (i : Instr) → IsGoodInstr frame i → IsFormed i
formed frame small i g = record {
  reads = reads_kinds i.op i.srcs g.reads;
  writes = g.writes;
  literal = number_in_range frame small i.op i.imm g.literal;
  label = g.label;
}

-- ---- lines

abbrev pub made : List Instr → Packet
made is = record { instrs = is }

abbrev pub IsFormOf : List Instr → List ℕ → Type 0
IsFormOf is line = All IsFormed is × (packet_line (made is) ++ codes "\n" ≡ line)

module _ (frame : ℕ) (small : frame ≤ FRAME) (line : List ℕ) where
  pub other : instrs_in (parts_of line) ≡ None → IsPacketReadAs frame line Other
  other none = (
    λ p h. absurd (let e = packet_back frame small line p h in cc),
    λ f. absurd (let e = f.parts in cc),
  )

  -- what a line with a packet's line is, where its parts spell these
  module _ (is : List Instr) (found : instrs_in (parts_of line) ≡ Some is) where
    same_packet : (p : Packet) → instrs_in (parts_of line) ≡ Some p.instrs → p ≡ made is
    same_packet p e = let same : p.instrs ≡ is = cc (e, found) in ap made same

    its_line : (p : Packet) → IsPacketLine frame line p → IsPacketLine frame line (made is)
    its_line p h = subst (IsPacketLine frame line) (same_packet p (packet_back frame small line p h)) h

    line_form : IsPacketLine frame line (made is) → IsFormOf is line
    line_form h = let good = h.rules.instrs in (λ k d below. formed frame small _ (good k d below), sym h.text)

    form_form : IsPacketForm line → IsFormOf is line
    form_form f =
        let same = same_packet f.packet f.parts in (
          subst (λ (p : Packet). All IsFormed p.instrs) same f.formed,
          sym (subst (λ (p : Packet). line ≡ packet_line p ++ codes "\n") same f.text),
        )

    pub not_formed : (b : Bool) → b ≡ false → IsTrue b ↔ IsFormOf is line → IsPacketReadAs frame line Other
    not_formed b fails told = (λ p h. never (line_form (its_line p h)), λ f. never (form_form f))
      where
        never : IsFormOf is line → ⊥
        never both = true≢false (sym (told.1 both) ∙ fails)

    pub by_its_rules : (b : Bool) → b ≡ true → IsTrue b ↔ IsFormOf is line → (r : PacketRead) → IsByRules frame (made is) r
        → IsPacketReadAs frame line r
    by_its_rules b passes told (Good q) h =
        subst (IsPacketLine frame line) (sym h.1) (record { rules = h.0; text = sym (told.0 passes).1 })
    by_its_rules b passes told Broken h = (
      λ p k. (let good = its_line p k in h good.rules),
      record { packet = made is; parts = found; formed = (told.0 passes).0; text = sym (told.0 passes).1 },
    )
    by_its_rules b passes told Other h = absurd h

  -- a line of a packet is read as that packet
  pub whole : (r : PacketRead) → IsPacketReadAs frame line r → (p : Packet) → IsPacketLine frame line p → r ≡ Good p
  whole (Good q) h p k =
      let same : q.instrs ≡ p.instrs = cc (packet_back frame small line q h, packet_back frame small line p k) in
      ap (λ (is : List Instr). Good (made is)) same
  whole Broken h p k = absurd (h.0 p k)
  whole Other h p k = absurd (h.0 p k)
