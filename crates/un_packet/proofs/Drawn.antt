-- Runs of code that was drawn at random, with outcomes from a machine of another's making.
use Rattle.std.specs.Prelude.{ℕ, pos, negsuc, ◌≡◌, List, [], ◌∷◌, ◌++◌, None, codes, replicate}
use Rattle.std.proofs.Common.{refl}
use Rattle.un_isa.specs.declared.op.Op.TheVariants.{Imm, Add, Sub, And, Or, Xor, Addi, Ori, Mux, CmpGtu, CmpEqi, CmpGti, Mpyi, Asl, Lsr}
use Rattle.un_isa.specs.declared.op.Op.TheVariants.{Load, Store, Call, Jump, JumpIf, JumpIfNot, Jumpr, Spill, P2R, R2P, Enter, Leave, Nop, JumpIfNotNew}
use Rattle.un_isa.specs.declared.start.Start.{Start}
use Rattle.un_packet.specs.declared.code.CodeBlock.{CodeBlock}
use Rattle.un_packet.specs.Step.{Returned, Trapped, Running}
use Rattle.un_packet.proofs.Assembly.{r, named, i, packet, block, record_of, reply, told, run_of}

-- A loop that is cut off.
abbrev run_00_blocks : List CodeBlock
run_00_blocks =
    block (codes "l0") (
    packet (i Nop None ([]) (pos 0) None ∷ [])
    ∷
    packet (i Imm (r 16) ([]) (negsuc 0) None
    ∷ i Asl (r 0) (1 ∷ []) (pos 30) None ∷ [])
    ∷
    packet (i R2P (r 32) (2 ∷ []) (pos 0) None
    ∷ i Mux (r 31) (32 ∷ 31 ∷ 3 ∷ []) (pos 0) None
    ∷ i JumpIfNot None (32 ∷ []) (pos 0) (named (codes "l0")) ∷ [])
    ∷ [])
    ∷
    block (codes "l1") (
    packet (i R2P (r 33) (16 ∷ []) (pos 0) None ∷ [])
    ∷
    packet (i Imm (r 6) ([]) (pos 19) None
    ∷ i R2P (r 32) (2 ∷ []) (pos 0) None ∷ [])
    ∷
    packet (i Asl (r 1) (0 ∷ []) (pos 0) None
    ∷ i Store None (6 ∷ 31 ∷ []) (pos 116) None ∷ [])
    ∷
    packet (i Xor (r 3) (2 ∷ 16 ∷ []) (pos 0) None ∷ [])
    ∷
    packet (i Or (r 16) (1 ∷ 31 ∷ []) (pos 0) None
    ∷ i Sub (r 1) (6 ∷ 16 ∷ []) (pos 0) None
    ∷ i Jumpr None (6 ∷ []) (pos 0) None ∷ [])
    ∷ [])
    ∷ []

abbrev run_00_memory : List (ℕ × ℕ)
run_00_memory =
    (0, 136) ∷ (4, 80) ∷ (8, 1) ∷ (12, 36) ∷ (16, 120) ∷ (20, 40) ∷ (24, 20) ∷ (28, 0) ∷ (32, 2147483647) ∷ (36, 88) ∷ (40, 144) ∷ (
      44,
      44,
    ) ∷ []

abbrev run_00_start : Start
run_00_start = record {
  regs =
      (160 ∷ 35 ∷ 60 ∷ 16 ∷ 160 ∷ 12 ∷ 144 ∷ 152 ∷ 20 ∷ 92 ∷ 144 ∷ 2044643926 ∷ 1 ∷ 4 ∷ 76 ∷ 8 ∷ 64 ∷ 171 ∷ 108 ∷ 55 ∷ 120 ∷ 4294967295
      ∷ 2 ∷ 120 ∷ 36 ∷ 76 ∷ 4 ∷ 120 ∷ 4294967292 ∷ 2152 ∷ 116 ∷ 255 ∷ 0 ∷ 0 ∷ 0 ∷ 1 ∷ []);
  memory = run_00_memory;
  replies =
      reply 20 ([]) ((0 ∷ 1041415184 ∷ 1614225857 ∷ 1302973974 ∷ 141287893 ∷ 4046780527 ∷ 3388284539 ∷ 3236814298 ∷ 3703430359 ∷
      4222100429 ∷
      3865470124 ∷ 3630869538 ∷ 3325168193 ∷ 3539048529 ∷ 134061787 ∷ 852209017 ∷ []) ++ replicate 12 0 ++ (1891146472 ∷ 0 ∷ 0 ∷
      2785943476 ∷ []) ++ replicate 4 0)
      ∷ reply 120 ([]) (replicate 36 0) ∷ [];
  well = refl;
}

run_00 : told (run_of 16 run_00_blocks run_00_start 10) ≡ (Running 0, run_00_memory, [], 30)
run_00 = refl

-- A spill, and a branch that is not taken.
abbrev run_01_blocks : List CodeBlock
run_01_blocks =
    block (codes "l0") (
    packet (i Nop None ([]) (pos 0) None ∷ [])
    ∷
    packet (i Mpyi (r 6) (31 ∷ 6 ∷ []) (pos 0) None ∷ [])
    ∷
    packet (i Addi (r 1) (6 ∷ []) (pos 7) None
    ∷ i Enter None ([]) (negsuc 15) None ∷ [])
    ∷
    packet (i Spill None (31 ∷ []) (pos 12) None
    ∷ i JumpIfNot None (32 ∷ []) (pos 0) (named (codes "l1")) ∷ [])
    ∷ [])
    ∷
    block (codes "l1") (
    packet (i Nop None ([]) (pos 0) None ∷ [])
    ∷
    packet (i Nop None ([]) (pos 0) None ∷ [])
    ∷
    packet (i Ori (r 6) (0 ∷ []) (pos 63) None ∷ [])
    ∷
    packet (i Jumpr None (16 ∷ []) (pos 0) None ∷ [])
    ∷ [])
    ∷ []

abbrev run_01_memory : List (ℕ × ℕ)
run_01_memory =
    (0, 92) ∷ (4, 255) ∷ (8, 4294967292) ∷ (12, 95) ∷ (16, 16) ∷ (20, 160) ∷ (24, 48) ∷ (28, 28) ∷ (32, 28) ∷ (36, 112) ∷ (40, 255) ∷
    (44, 64) ∷ []

abbrev run_01_start : Start
run_01_start = record {
  regs =
      (131 ∷ 100 ∷ 116 ∷ 136 ∷ 56 ∷ 56 ∷ 152 ∷ 21 ∷ 140 ∷ 96 ∷ 120 ∷ 100 ∷ 156 ∷ 100 ∷ 32 ∷ 56 ∷ 124 ∷ 80 ∷ 136 ∷ 4294967295 ∷
      4294967292 ∷ 156 ∷ 48 ∷ 27 ∷ 80 ∷ 128 ∷ 12 ∷ 40 ∷ 16 ∷ 4016 ∷ 1161073231 ∷ 156 ∷ []) ++ replicate 4 0;
  memory = run_01_memory;
  replies =
      reply 72 ([]) (replicate 36 0)
      ∷ reply 1451455414 ([]) ((0 ∷ 1370870635 ∷ 2652104171 ∷ 2350778396 ∷ 4108885327 ∷ 2433616606 ∷ 637961498 ∷ 3003207012 ∷ 870819751 ∷
      1593411395 ∷
      3733276605 ∷ 1926661251 ∷ 868694242 ∷ 1538632194 ∷ 264725656 ∷ 1528982201 ∷ []) ++ replicate 12 0 ++ (471771180 ∷ 0 ∷ 0 ∷
      4013612145 ∷ 1 ∷ 0 ∷ 0 ∷ 1 ∷ [])) ∷ [];
  well = refl;
}

run_01 : told (run_of 16 run_01_blocks run_01_start 3) ≡ (Returned 131 124, run_01_memory, [], 9)
run_01 = refl

-- A call without arguments; cut off at the second label.
abbrev run_03_blocks : List CodeBlock
run_03_blocks =
    block (codes "l0") (
    packet (i Call None ([]) (pos 0) (named (codes "f")) ∷ [])
    ∷
    packet (i Add (r 2) (16 ∷ 6 ∷ []) (pos 0) None
    ∷ i Mux (r 16) (32 ∷ 3 ∷ 2 ∷ []) (pos 0) None
    ∷ i Add (r 1) (3 ∷ 3 ∷ []) (pos 0) None ∷ [])
    ∷
    packet (i Imm (r 1) ([]) (pos 70) None ∷ [])
    ∷
    packet (i Nop None ([]) (pos 0) None ∷ [])
    ∷ [])
    ∷
    block (codes "l1") (
    packet (i Mpyi (r 16) (3 ∷ 1 ∷ []) (pos 0) None
    ∷ i CmpGtu (r 32) (6 ∷ 3 ∷ []) (pos 0) None
    ∷ i R2P (r 33) (0 ∷ []) (pos 0) None ∷ [])
    ∷
    packet (i JumpIfNot None (33 ∷ []) (pos 0) (named (codes "l1")) ∷ [])
    ∷ [])
    ∷
    block (codes "l2") (
    packet (i Or (r 3) (31 ∷ 1 ∷ []) (pos 0) None
    ∷ i Mpyi (r 1) (6 ∷ 31 ∷ []) (pos 0) None ∷ [])
    ∷
    packet (i Or (r 31) (3 ∷ 31 ∷ []) (pos 0) None ∷ [])
    ∷
    packet (i Nop None ([]) (pos 0) None ∷ [])
    ∷
    packet (i Store None (16 ∷ 31 ∷ []) (pos 92) None
    ∷ i Mux (r 2) (32 ∷ 2 ∷ 3 ∷ []) (pos 0) None
    ∷ i Jumpr None (2 ∷ []) (pos 0) None ∷ [])
    ∷ [])
    ∷ []

abbrev run_03_memory : List (ℕ × ℕ)
run_03_memory =
    (0, 132) ∷ (4, 2) ∷ (12, 84) ∷ (24, 2147483647) ∷ (40, 1) ∷ (44, 156) ∷ (48, 96) ∷ (52, 132) ∷ (60, 64) ∷ (64, 160) ∷ (68, 0) ∷ (
      72,
      68,
    ) ∷ []

abbrev run_03_start : Start
run_03_start = record {
  regs =
      (4294967295 ∷ 84 ∷ 132 ∷ 140 ∷ 60 ∷ 100 ∷ 144 ∷ 8 ∷ 96 ∷ 128 ∷ 136 ∷ 199 ∷ 64 ∷ 72 ∷ 48 ∷ 148 ∷ 32 ∷ 2147483647 ∷ 64 ∷ 52 ∷ 1 ∷
      255 ∷ 100 ∷ 16 ∷ 68 ∷ 2 ∷ 124 ∷ 24 ∷ 160 ∷ 4000 ∷ 108 ∷ 0 ∷ 0 ∷ 1 ∷ 1 ∷ 1 ∷ []);
  memory = run_03_memory;
  replies =
      reply 0 ([]) ((0 ∷ 1838472404 ∷ 3585311712 ∷ 4011113788 ∷ 1052582232 ∷ 773819770 ∷ 1461711783 ∷ 1260178197 ∷ 1849595721 ∷ 853272243 ∷
      249091299 ∷ 4152824017 ∷ 3496122787 ∷ 1238469330 ∷ 1738095069 ∷ 3259473504 ∷ []) ++ replicate 12 0 ++ (3540966945 ∷ 0 ∷ 0 ∷
      1629038375 ∷ 0 ∷ 1 ∷ 1 ∷ 1 ∷ []))
      ∷ reply 152 ([]) ((0 ∷ 3670130883 ∷ 3299152588 ∷ 301785432 ∷ 85939736 ∷ 1473914041 ∷ 2540888424 ∷ 639139008 ∷ 1987821668 ∷
      3907060489 ∷ 1324929597
      ∷ 2601499813 ∷ 961147310 ∷ 2350090851 ∷ 2385657829 ∷ 1051014541 ∷ []) ++ replicate 12 0 ++ (3480173221 ∷ 0 ∷ 0 ∷ 2301363022 ∷ 1
      ∷ 0 ∷ 0 ∷ 1 ∷ [])) ∷ [];
  well = refl;
}

run_03 : told (run_of 0 run_03_blocks run_03_start 1) ≡ (Running 1, run_03_memory, record_of (codes "f") ([]) run_03_memory ∷ [], 4)
run_03 = refl

-- A call between Enter and Leave in one block.
abbrev run_07_blocks : List CodeBlock
run_07_blocks =
    block (codes "l0") (
    packet (i Call None ([]) (pos 0) (named (codes "f"))
    ∷ i Leave None ([]) (pos 8) None ∷ [])
    ∷
    packet (i Addi (r 1) (16 ∷ []) (pos 17) None
    ∷ i Enter None ([]) (negsuc 7) None
    ∷ i Jumpr None (16 ∷ []) (pos 0) None ∷ [])
    ∷ [])
    ∷ []

abbrev run_07_memory : List (ℕ × ℕ)
run_07_memory =
    (0, 92) ∷ (4, 72) ∷ (8, 76) ∷ (12, 144) ∷ (16, 156) ∷ (24, 52) ∷ (28, 92) ∷ (32, 116) ∷ (36, 20) ∷ (40, 112) ∷ (44, 164) ∷ (
      48,
      2147483648,
    ) ∷ []

abbrev run_07_start : Start
run_07_start = record {
  regs =
      (50 ∷ 48 ∷ 100 ∷ 4294967295 ∷ 1 ∷ 8 ∷ 92 ∷ 136 ∷ 20 ∷ 96 ∷ 72 ∷ 56 ∷ 2147483647 ∷ 80 ∷ 0 ∷ 144 ∷ 2 ∷ 24 ∷ 144 ∷ 44 ∷ 44 ∷ 156 ∷ 92
      ∷ 32 ∷ 34 ∷ 76 ∷ 16 ∷ 48 ∷ 155 ∷ 2528 ∷ 72 ∷ 64 ∷ 1 ∷ 1 ∷ 0 ∷ 1 ∷ []);
  memory = run_07_memory;
  replies =
      reply 52 ([]) (replicate 36 0) ∷ [];
  well = refl;
}

run_07 : told (run_of 8 run_07_blocks run_07_start 3) ≡ (Returned 52 2, run_07_memory, record_of (codes "f") ([]) run_07_memory ∷ [], 2)
run_07 = refl

-- A trap in the first packet.
abbrev run_10_blocks : List CodeBlock
run_10_blocks =
    block (codes "l0") (
    packet (i Spill None (3 ∷ []) (pos 8) None
    ∷ i JumpIf None (33 ∷ []) (pos 0) (named (codes "l1")) ∷ [])
    ∷ [])
    ∷
    block (codes "l1") (
    packet (i CmpGtu (r 32) (16 ∷ 6 ∷ []) (pos 0) None
    ∷ i CmpGti (r 33) (2 ∷ []) (pos 48) None
    ∷ i P2R (r 3) (32 ∷ []) (pos 0) None ∷ [])
    ∷
    packet (i CmpEqi (r 32) (2 ∷ []) (pos 25) None
    ∷ i CmpGtu (r 33) (31 ∷ 6 ∷ []) (pos 0) None
    ∷ i Ori (r 0) (6 ∷ []) (pos 21) None ∷ [])
    ∷
    packet (i Mux (r 31) (32 ∷ 0 ∷ 6 ∷ []) (pos 0) None ∷ [])
    ∷ [])
    ∷
    block (codes "l2") (
    packet (i Add (r 6) (1 ∷ 1 ∷ []) (pos 0) None
    ∷ i And (r 16) (0 ∷ 31 ∷ []) (pos 0) None ∷ [])
    ∷
    packet (i Nop None ([]) (pos 0) None ∷ [])
    ∷
    packet (i Store None (6 ∷ 0 ∷ []) (pos 64) None
    ∷ i Jumpr None (6 ∷ []) (pos 0) None ∷ [])
    ∷ [])
    ∷
    block (codes "l3") (
    packet (i Load (r 6) (2 ∷ []) (pos 12) None
    ∷ i And (r 0) (6 ∷ 31 ∷ []) (pos 0) None ∷ [])
    ∷
    packet (i CmpEqi (r 32) (6 ∷ []) (pos 2) None
    ∷ i Lsr (r 3) (0 ∷ []) (pos 26) None ∷ [])
    ∷
    packet (i Addi (r 16) (31 ∷ []) (pos 70) None ∷ [])
    ∷
    packet (i CmpEqi (r 33) (2 ∷ []) (pos 19) None
    ∷ i Or (r 31) (0 ∷ 6 ∷ []) (pos 0) None
    ∷ i Jumpr None (0 ∷ []) (pos 0) None ∷ [])
    ∷ [])
    ∷ []

abbrev run_10_memory : List (ℕ × ℕ)
run_10_memory =
    (0, 255) ∷ (4, 24) ∷ (8, 108) ∷ (12, 128) ∷ (16, 32) ∷ (20, 2147483647) ∷ (24, 140) ∷ (28, 68) ∷ (32, 8) ∷ (36, 88) ∷ (40, 84) ∷
    (44, 8) ∷ []

abbrev run_10_start : Start
run_10_start = record {
  regs =
      (16 ∷ 2579826094 ∷ 144 ∷ 84 ∷ 80 ∷ 4 ∷ 4294967292 ∷ 194 ∷ 24 ∷ 48 ∷ 124 ∷ 100 ∷ 20 ∷ 104 ∷ 112 ∷ 84 ∷ 255 ∷ 12 ∷ 84 ∷ 16 ∷ 24 ∷ 2
      ∷ 160 ∷ 100 ∷ 16 ∷ 44 ∷ 60 ∷ 102 ∷ 48 ∷ 5680 ∷ 56 ∷ 108 ∷ []) ++ replicate 4 0;
  memory = run_10_memory;
  replies =
      reply 108 ([]) ((0 ∷ 404977710 ∷ 1223574633 ∷ 1939274948 ∷ 3825190025 ∷ 2510706526 ∷ 1765277041 ∷ 4020994072 ∷ 227859508 ∷ 141815543 ∷
      1115071980 ∷ 2003785583 ∷ 2697363211 ∷ 1124695301 ∷ 733112390 ∷ 672633049 ∷ []) ++ replicate 12 0 ++ (1658286733 ∷ 0 ∷ 0 ∷
      1641033613 ∷ 1 ∷ 0 ∷ 0 ∷ 1 ∷ []))
      ∷ reply 28 ([]) ((0 ∷ 755998902 ∷ 1779585904 ∷ 713201008 ∷ 2040360670 ∷ 1049277814 ∷ 2136171197 ∷ 3664876018 ∷ 1757995950 ∷
      3979041065 ∷
      4063739392 ∷ 1229427107 ∷ 2705267833 ∷ 2627278789 ∷ 2068058577 ∷ 1845785625 ∷ []) ++ replicate 12 0 ++ (2825819052 ∷ 0 ∷ 0 ∷
      2678442288 ∷ 1 ∷ 0 ∷ 1 ∷ 0 ∷ [])) ∷ [];
  well = refl;
}

run_10 : told (run_of 16 run_10_blocks run_10_start 10) ≡ (Trapped, run_10_memory, [], 0)
run_10 = refl

-- A trap after a call.
abbrev run_12_blocks : List CodeBlock
run_12_blocks =
    block (codes "l0") (
    packet (i Xor (r 0) (2 ∷ 3 ∷ []) (pos 0) None
    ∷ i Lsr (r 16) (1 ∷ []) (pos 2) None ∷ [])
    ∷
    packet (i Call None ([]) (pos 0) (named (codes "f"))
    ∷ i Lsr (r 6) (16 ∷ []) (pos 7) None ∷ [])
    ∷
    packet (i Lsr (r 3) (0 ∷ []) (pos 5) None ∷ [])
    ∷
    packet (i Spill None (2 ∷ []) (pos 0) None
    ∷ i Addi (r 16) (1 ∷ []) (negsuc 6) None
    ∷ i Asl (r 1) (1 ∷ []) (pos 21) None
    ∷ i Jump None ([]) (pos 0) (named (codes "l0")) ∷ [])
    ∷ [])
    ∷ []

abbrev run_12_memory : List (ℕ × ℕ)
run_12_memory =
    (0, 160) ∷ (4, 0) ∷ (8, 68) ∷ (12, 144) ∷ (16, 96) ∷ (20, 92) ∷ (28, 95) ∷ (32, 128) ∷ (36, 56) ∷ (40, 52) ∷ (44, 100) ∷ (48, 2) ∷
    []

abbrev run_12_start : Start
run_12_start = record {
  regs =
      (136 ∷ 16 ∷ 16 ∷ 156 ∷ 160 ∷ 128 ∷ 108 ∷ 80 ∷ 48 ∷ 144 ∷ 12 ∷ 156 ∷ 1 ∷ 76 ∷ 24 ∷ 100 ∷ 255 ∷ 120 ∷ 36 ∷ 3316586212 ∷ 118 ∷ 8 ∷
      104 ∷ 88 ∷ 116 ∷ 132 ∷ 116 ∷ 8 ∷ 76 ∷ 8 ∷ 32 ∷ 2 ∷ 0 ∷ 0 ∷ 0 ∷ 1 ∷ []);
  memory = run_12_memory;
  replies =
      reply 24 ((0, 8) ∷ []) ((0 ∷ 782591959 ∷ 2608279602 ∷ 3629021003 ∷ 2401125549 ∷ 5867949 ∷ 31716746 ∷ 4177201252 ∷ 2882675257 ∷
      659072600 ∷ 3327224357 ∷
      934411864 ∷ 688757176 ∷ 2360575346 ∷ 3668537610 ∷ 2471021043 ∷ []) ++ replicate 12 0 ++ (4067145052 ∷ 0 ∷ 0 ∷ 3435913162 ∷ 1 ∷ 1
      ∷ 0 ∷ 1 ∷ []))
      ∷ reply 36 ([]) (replicate 36 0) ∷ [];
  well = refl;
}

run_12 : told (run_of 0 run_12_blocks run_12_start 3) ≡ (
  Trapped,
  ((0, 8) ∷ (4, 0) ∷ (8, 68) ∷ (12, 144) ∷ (16, 96) ∷ (20, 92) ∷ (28, 95) ∷ (32, 128) ∷ (36, 56) ∷ (40, 52) ∷ (44, 100) ∷ (48, 2) ∷ []),
  record_of (codes "f") ([]) run_12_memory ∷ [],
  3,
)
run_12 = refl

-- A spill outside the frame.
abbrev run_14_blocks : List CodeBlock
run_14_blocks =
    block (codes "l0") (
    packet (i Add (r 6) (3 ∷ 2 ∷ []) (pos 0) None ∷ [])
    ∷
    packet (i Spill None (31 ∷ []) (pos 0) None ∷ [])
    ∷
    packet (i Nop None ([]) (pos 0) None ∷ [])
    ∷
    packet (i CmpEqi (r 33) (2 ∷ []) (pos 22) None ∷ [])
    ∷ [])
    ∷
    block (codes "l1") (
    packet (i Lsr (r 1) (0 ∷ []) (pos 17) None
    ∷ i P2R (r 31) (32 ∷ []) (pos 0) None ∷ [])
    ∷
    packet (i P2R (r 31) (33 ∷ []) (pos 0) None
    ∷ i Addi (r 6) (16 ∷ []) (pos 4) None ∷ [])
    ∷
    packet (i CmpGti (r 33) (3 ∷ []) (pos 55) None
    ∷ i Jumpr None (6 ∷ []) (pos 0) None ∷ [])
    ∷ [])
    ∷ []

abbrev run_14_memory : List (ℕ × ℕ)
run_14_memory =
    (0, 76) ∷ (4, 136) ∷ (24, 140) ∷ (28, 68) ∷ (32, 20) ∷ (36, 28) ∷ (40, 0) ∷ (44, 40) ∷ (48, 88) ∷ (52, 8) ∷ (68, 166) ∷ (72, 76) ∷
    []

abbrev run_14_start : Start
run_14_start = record {
  regs =
      (20 ∷ 60 ∷ 24 ∷ 116 ∷ 44 ∷ 72 ∷ 0 ∷ 1 ∷ 12 ∷ 88 ∷ 72 ∷ 96 ∷ 64 ∷ 160 ∷ 8 ∷ 0 ∷ 132 ∷ 2147483648 ∷ 2 ∷ 76 ∷ 132 ∷ 116 ∷ 80 ∷
      4294967295 ∷ 28 ∷ 80 ∷ 156 ∷ 128 ∷ 100 ∷ 0 ∷ 152 ∷ 3995067670 ∷ 1 ∷ 1 ∷ 1 ∷ 0 ∷ []);
  memory = run_14_memory;
  replies =
      reply 949413588 ((52, 2) ∷ []) ((0 ∷ 3850648970 ∷ 2900368627 ∷ 1734050093 ∷ 4074429719 ∷ 3366859696 ∷ 4074433973 ∷ 849973087 ∷
      1186891739 ∷ 3572498118 ∷
      3504999996 ∷ 2043001479 ∷ 1551294411 ∷ 1060969471 ∷ 1554788253 ∷ 3389593978 ∷ []) ++ replicate 12 0 ++ (1741070801 ∷ 0 ∷ 0 ∷
      3245913310 ∷ 0 ∷ 0 ∷ 1 ∷ 1 ∷ [])) ∷ [];
  well = refl;
}

run_14 : told (run_of 0 run_14_blocks run_14_start 3) ≡ (Trapped, run_14_memory, [], 1)
run_14 = refl

-- A compare and the jump that tests what it writes; the predicate was true before.
abbrev run_15_blocks : List CodeBlock
run_15_blocks =
    block (codes "l0") (
    packet (i And (r 31) (3 ∷ 31 ∷ []) (pos 0) None
    ∷ i Or (r 6) (31 ∷ 16 ∷ []) (pos 0) None ∷ [])
    ∷
    packet (i And (r 31) (1 ∷ 1 ∷ []) (pos 0) None ∷ [])
    ∷
    packet (i Nop None ([]) (pos 0) None ∷ [])
    ∷
    packet (i CmpGti (r 32) (3 ∷ []) (pos 80) None
    ∷ i JumpIfNotNew None (32 ∷ []) (pos 0) (named (codes "l0")) ∷ [])
    ∷ [])
    ∷
    block (codes "l1") (
    packet (i JumpIfNot None (33 ∷ []) (pos 0) (named (codes "l2")) ∷ [])
    ∷ [])
    ∷
    block (codes "l2") (
    packet (i Jump None ([]) (pos 0) (named (codes "l0")) ∷ [])
    ∷ [])
    ∷ []

abbrev run_15_memory : List (ℕ × ℕ)
run_15_memory =
    (0, 1) ∷ (4, 4294967292) ∷ (8, 148) ∷ (12, 12) ∷ (16, 4) ∷ (20, 60) ∷ (24, 124) ∷ (28, 97) ∷ (32, 96) ∷ (36, 128) ∷ []

abbrev run_15_start : Start
run_15_start = record {
  regs =
      (181 ∷ 72 ∷ 2 ∷ 28 ∷ 44 ∷ 4294967292 ∷ 28 ∷ 64 ∷ 32 ∷ 2147483647 ∷ 144 ∷ 64 ∷ 123 ∷ 140 ∷ 124 ∷ 1 ∷ 129 ∷ 152 ∷ 4 ∷ 40 ∷ 108 ∷
      36 ∷ 32 ∷ 104 ∷ 48 ∷ 2147483647 ∷ 52 ∷ 104 ∷ 2147483647 ∷ 4008 ∷ 100 ∷ 156 ∷ 1 ∷ 0 ∷ 0 ∷ 1 ∷ []);
  memory = run_15_memory;
  replies =
      [];
  well = refl;
}

run_15 : told (run_of 8 run_15_blocks run_15_start 1) ≡ (Running 0, run_15_memory, [], 4)
run_15 = refl
