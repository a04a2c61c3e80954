-- The rules of code can be kept: without a frame, with the largest one, and where a jump tests what its own packet writes.
use Rattle.std.proofs.Common.{ℕ, zero, suc, pos, ◌≡◌, true, ◌≢◌, ◌+◌, ◌<◌, false, List, [], ◌∷◌, slice_get, slice_index, Some, None}
use Rattle.std.proofs.Common.{IsSomeAnd, All, AllPairs, refl, ap, arith, lit<, lit≤}
use Rattle.std.specs.Prelude.{Option, codes}
use Rattle.std.proofs.lemmas.Int.{ints}
use Rattle.std.proofs.lemmas.List.Elements.{All-from_recursion}
use Rattle.un_base.specs.Names.{is_name}
use Rattle.un_isa.specs.declared.op.Op.TheVariants.{CmpGti, Jumpr, Enter, Leave, JumpIfNew}
use Rattle.un_isa.specs.declared.reg.TheConstants.{FRAME}
use Rattle.un_isa.specs.declared.reg.Reg.{Reg}
use Rattle.un_isa.specs.declared.instr.Instr.{Instr}
use Rattle.un_packet.specs.declared.code.Packet.{Packet}
use Rattle.un_packet.specs.declared.code.CodeBlock.{CodeBlock}
use Rattle.un_packet.specs.CodeRules.{KeepsRules, IsGoodCodeBlock, IsGoodPacket, IsGoodInstr, LeadsToOneOf, EndsByLeaving, labels_of}
use Rattle.un_packet.specs.CodeRules.{transfers, minus, HasItsCompare}
use Rattle.un_packet.proofs.Assembly.{r, named, i, packet, block}

one_only : {X : Type 0} (R : X → X → Type 0) (x : X) → AllPairs R (x ∷ [])
one_only R x j k d lt short = absurd (omega arith)

abbrev back : Instr
back = i Jumpr None (31 ∷ []) (pos 0) None

good_back : (frame : ℕ) → IsGoodInstr frame back
good_back frame = record { reads = refl; writes = refl; stack = λ e. cc e; base = tt; literal = refl; label = refl }

-- `jumpr r31` alone
abbrev returning : Packet
returning = packet (back ∷ [])

good_returning : (frame : ℕ) → IsGoodPacket frame returning
good_returning frame = record {
  some = lit< tt;
  instrs = All-from_recursion (IsGoodInstr frame) (back ∷ []) (good_back frame, tt);
  counts = record { instructions = lit≤ tt; mem = lit≤ tt; store = lit≤ tt; xc = lit≤ tt; control = lit≤ tt };
  idle = tt;
  one_writer = λ j k d lt short. absurd (omega arith);
  fresh = All-from_recursion (HasItsCompare (back ∷ [])) (back ∷ []) (tt, tt);
}

abbrev without_frame : List CodeBlock
without_frame = block (codes "e") (returning ∷ []) ∷ []

pub kept_without_frame : KeepsRules 0 without_frame
kept_without_frame = record {
  whole = refl;
  small = lit≤ tt;
  some = lit< tt;
  few_blocks = lit< tt;
  few_packets = lit< tt;
  named = All-from_recursion (λ (b : CodeBlock). is_name b.label ≡ true) without_frame (refl, tt);
  distinct_labels = one_only (λ (a b : CodeBlock). a.label ≢ b.label) (block (codes "e") (returning ∷ []));
  good_blocks = All-from_recursion (IsGoodCodeBlock 0 (labels_of without_frame)) without_frame (
    record {
      packets = All-from_recursion (IsGoodPacket 0) (returning ∷ []) (good_returning 0, tt);
      transfers_last = λ k lt. absurd (omega arith);
      targets = All-from_recursion (λ (p : Packet). All (LeadsToOneOf (labels_of without_frame)) p.instrs) (returning ∷ [])
          (All-from_recursion (LeadsToOneOf (labels_of without_frame)) (back ∷ []) (tt, tt), tt);
    },
    tt,
  );
  last = λ b e. last_in b e;
}
  where
    last_in : (b : ℕ) → b + 1 ≡ 1 → IsSomeAnd (slice_get without_frame b) EndsByLeaving
    last_in zero e = (0, refl, refl)
    last_in (suc b) e = absurd (omega (arith, e))

-- the largest frame is entered, and then left with `jumpr r31`
abbrev down : Instr
down = i Enter None [] (minus FRAME) None

abbrev up : Instr
up = i Leave None [] (pos FRAME) None

abbrev entering : Packet
entering = packet (down ∷ [])

abbrev leaving : Packet
leaving = packet (up ∷ back ∷ [])

abbrev framed : CodeBlock
framed = block (codes "e") (entering ∷ leaving ∷ [])

abbrev with_frame : List CodeBlock
with_frame = framed ∷ []

good_down : IsGoodInstr FRAME down
good_down = record { reads = refl; writes = refl; stack = λ e. cc e; base = tt; literal = (lit< tt, refl); label = refl }

good_up : IsGoodInstr FRAME up
good_up = record { reads = refl; writes = refl; stack = λ e. cc e; base = tt; literal = (lit< tt, refl); label = refl }

pub kept_with_frame : KeepsRules FRAME with_frame
kept_with_frame = record {
  whole = refl;
  small = lit≤ tt;
  some = lit< tt;
  few_blocks = lit< tt;
  few_packets = lit< tt;
  named = All-from_recursion (λ (b : CodeBlock). is_name b.label ≡ true) with_frame (refl, tt);
  distinct_labels = one_only (λ (a b : CodeBlock). a.label ≢ b.label) framed;
  good_blocks = All-from_recursion (IsGoodCodeBlock FRAME (labels_of with_frame)) with_frame (
    record {
      packets = All-from_recursion (IsGoodPacket FRAME) (entering ∷ leaving ∷ []) (
        record {
          some = lit< tt;
          instrs = All-from_recursion (IsGoodInstr FRAME) (down ∷ []) (good_down, tt);
          counts = record { instructions = lit≤ tt; mem = lit≤ tt; store = lit≤ tt; xc = lit≤ tt; control = lit≤ tt };
          idle = tt;
          one_writer = one_only (λ (a b : ℕ). a ≢ b) 29;
          fresh = All-from_recursion (HasItsCompare (down ∷ [])) (down ∷ []) (tt, tt);
        },
        (
          record {
            some = lit< tt;
            instrs = All-from_recursion (IsGoodInstr FRAME) (up ∷ back ∷ []) (good_up, (good_back FRAME, tt));
            counts = record { instructions = lit≤ tt; mem = lit≤ tt; store = lit≤ tt; xc = lit≤ tt; control = lit≤ tt };
            idle = tt;
            one_writer = one_only (λ (a b : ℕ). a ≢ b) 29;
            fresh = All-from_recursion (HasItsCompare (up ∷ back ∷ [])) (up ∷ back ∷ []) (tt, (tt, tt));
          },
          tt,
        ),
      );
      transfers_last = λ k lt. early k lt;
      targets = All-from_recursion (λ (p : Packet). All (LeadsToOneOf (labels_of with_frame)) p.instrs) (entering ∷ leaving ∷ []) (
        All-from_recursion (LeadsToOneOf (labels_of with_frame)) (down ∷ []) (tt, tt),
        (All-from_recursion (LeadsToOneOf (labels_of with_frame)) (up ∷ back ∷ []) (tt, (tt, tt)), tt),
      );
    },
    tt,
  );
  last = λ b e. last_in b e;
}
  where
    early : (k : ℕ) → k + 1 < 2 → IsSomeAnd (slice_get (entering ∷ leaving ∷ []) k) (λ p. transfers p ≡ false)
    early zero lt = refl
    early (suc k) lt = absurd (omega (arith, lt))

    last_in : (b : ℕ) → b + 1 ≡ 1 → IsSomeAnd (slice_get with_frame b) EndsByLeaving
    last_in zero e = (1, refl, refl)
    last_in (suc b) e = absurd (omega (arith, e))

-- a compare and the jump that tests what it writes
abbrev compared : Instr
compared = i CmpGti (r 32) (0 ∷ []) (pos 0) None

abbrev tested : Instr
tested = i JumpIfNew None (32 ∷ []) (pos 0) (named (codes "t"))

abbrev testing : Packet
testing = packet (compared ∷ tested ∷ [])

abbrev tests : CodeBlock
tests = block (codes "e") (testing ∷ [])

abbrev target : CodeBlock
target = block (codes "t") (returning ∷ [])

abbrev with_test : List CodeBlock
with_test = tests ∷ target ∷ []

-- the number of a register that is there
abbrev number_or : Option Reg → ℕ
number_or None = 0
number_or (Some r) = r.0

good_compared : IsGoodInstr 0 compared
good_compared = record {
  reads = refl;
  writes = refl;
  stack = λ e. let k : 32 ≡ 29 = ap number_or e in omega (arith, k);
  base = tt;
  literal = (omega (arith, ints), omega (arith, ints));
  label = refl;
}

good_tested : IsGoodInstr 0 tested
good_tested = record { reads = refl; writes = refl; stack = λ e. cc e; base = tt; literal = refl; label = refl }

good_testing : IsGoodPacket 0 testing
good_testing = record {
  some = lit< tt;
  instrs = All-from_recursion (IsGoodInstr 0) (compared ∷ tested ∷ []) (good_compared, (good_tested, tt));
  counts = record { instructions = lit≤ tt; mem = lit≤ tt; store = lit≤ tt; xc = lit≤ tt; control = lit≤ tt };
  idle = tt;
  one_writer = one_only (λ (a b : ℕ). a ≢ b) 32;
  fresh = All-from_recursion (HasItsCompare (compared ∷ tested ∷ [])) (compared ∷ tested ∷ []) (tt, (refl, tt));
}

pub kept_with_test : KeepsRules 0 with_test
kept_with_test = record {
  whole = refl;
  small = lit≤ tt;
  some = lit< tt;
  few_blocks = lit< tt;
  few_packets = lit< tt;
  named = All-from_recursion (λ (b : CodeBlock). is_name b.label ≡ true) with_test (refl, (refl, tt));
  distinct_labels = λ j k d. distinct j k d;
  good_blocks = All-from_recursion (IsGoodCodeBlock 0 (labels_of with_test)) with_test (good_tests, (good_target, tt));
  last = λ b e. last_in b e;
}
  where
    distinct : AllPairs (λ (a b : CodeBlock). a.label ≢ b.label) with_test
    distinct zero zero d lt short = absurd (omega arith)
    distinct zero (suc zero) d lt short = λ e. let k : 101 ≡ 116 = ap (λ (l : List ℕ). slice_index l 0) e in omega (arith, k)
    distinct zero (suc (suc k)) d lt short = absurd (omega arith)
    distinct (suc j) k d lt short = absurd (omega arith)

    good_tests : IsGoodCodeBlock 0 (labels_of with_test) tests
    good_tests = record {
      packets = All-from_recursion (IsGoodPacket 0) (testing ∷ []) (good_testing, tt);
      transfers_last = λ k lt. absurd (omega arith);
      targets = All-from_recursion (λ (p : Packet). All (LeadsToOneOf (labels_of with_test)) p.instrs) (testing ∷ [])
          (All-from_recursion (LeadsToOneOf (labels_of with_test)) (compared ∷ tested ∷ []) (tt, ((1, lit< tt, refl), tt)), tt);
    }

    good_target : IsGoodCodeBlock 0 (labels_of with_test) target
    good_target = record {
      packets = All-from_recursion (IsGoodPacket 0) (returning ∷ []) (good_returning 0, tt);
      transfers_last = λ k lt. absurd (omega arith);
      targets = All-from_recursion (λ (p : Packet). All (LeadsToOneOf (labels_of with_test)) p.instrs) (returning ∷ [])
          (All-from_recursion (LeadsToOneOf (labels_of with_test)) (back ∷ []) (tt, tt), tt);
    }

    last_in : (b : ℕ) → b + 1 ≡ 2 → IsSomeAnd (slice_get with_test b) EndsByLeaving
    last_in zero e = absurd (omega (arith, e))
    last_in (suc zero) e = (0, refl, refl)
    last_in (suc (suc b)) e = absurd (omega (arith, e))
