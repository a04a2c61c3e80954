-- Runs of code that were worked out by hand.
use Rattle.std.specs.Prelude.{ℕ, pos, negsuc, ◌≡◌, List, [], ◌∷◌, ◌++◌, None, codes, replicate}
use Rattle.std.proofs.Common.{refl}
use Rattle.un_isa.specs.declared.op.Op.TheVariants.{Imm, Mov, Add, Addi, CmpEq, CmpGti, Mpyi, Load, Store, Call, JumpIf, Jumpr, Spill}
use Rattle.un_isa.specs.declared.op.Op.TheVariants.{Reload, P2R, Enter, Leave, Nop, JumpIfNew, JumpIfNotNew}
use Rattle.un_isa.specs.declared.start.Start.{Start}
use Rattle.un_packet.specs.declared.code.CodeBlock.{CodeBlock}
use Rattle.un_packet.specs.Step.{Returned, Trapped, Waiting, Running}
use Rattle.un_packet.proofs.Assembly.{r, named, i, packet, block, record_of, reply, told, run_of}

-- Two registers are exchanged in one packet; the call sees both, and the link register comes back.
abbrev exchange_blocks : List CodeBlock
exchange_blocks =
    block (codes "e") (
    packet (i Enter None ([]) (negsuc 7) None
    ∷ i Mov (r 0) (1 ∷ []) (pos 0) None
    ∷ i Mov (r 1) (0 ∷ []) (pos 0) None ∷ [])
    ∷
    packet (i Spill None (16 ∷ []) (pos 0) None
    ∷ i Mov (r 16) (31 ∷ []) (pos 0) None
    ∷ i Call None (0 ∷ 1 ∷ []) (pos 0) (named (codes "h")) ∷ [])
    ∷
    packet (i Leave None ([]) (pos 8) None
    ∷ i Mov (r 31) (16 ∷ []) (pos 0) None
    ∷ i Reload (r 16) ([]) (pos 0) None ∷ [])
    ∷
    packet (i Jumpr None (31 ∷ []) (pos 0) None ∷ [])
    ∷ [])
    ∷ []

abbrev exchange_memory : List (ℕ × ℕ)
exchange_memory =
    []

abbrev exchange_start : Start
exchange_start = record {
  regs =
      (5 ∷ 9 ∷ []) ++ replicate 14 0 ++ (44 ∷ []) ++ replicate 12 0 ++ (4096 ∷ 0 ∷ 100 ∷ []) ++ replicate 4 0;
  memory = exchange_memory;
  replies =
      reply 0 ([]) (replicate 36 0) ∷ [];
  well = refl;
}

exchange : told (run_of 8 exchange_blocks exchange_start 5) ≡ (
  Returned 0 100,
  exchange_memory,
  record_of (codes "h") (9 ∷ 5 ∷ []) exchange_memory ∷ [],
  4,
)
exchange = refl

-- A loop over two arrays, which runs twice.
abbrev dot_product_blocks : List CodeBlock
dot_product_blocks =
    block (codes "entry") (
    packet (i Imm (r 3) ([]) (pos 0) None ∷ [])
    ∷ [])
    ∷
    block (codes "loop") (
    packet (i Load (r 4) (0 ∷ []) (pos 0) None
    ∷ i Load (r 5) (1 ∷ []) (pos 0) None
    ∷ i Addi (r 0) (0 ∷ []) (pos 4) None
    ∷ i Addi (r 1) (1 ∷ []) (pos 4) None ∷ [])
    ∷
    packet (i Addi (r 2) (2 ∷ []) (negsuc 0) None ∷ [])
    ∷
    packet (i Mpyi (r 4) (4 ∷ 5 ∷ []) (pos 0) None
    ∷ i CmpGti (r 32) (2 ∷ []) (pos 0) None ∷ [])
    ∷
    packet (i Nop None ([]) (pos 0) None ∷ [])
    ∷
    packet (i Add (r 3) (3 ∷ 4 ∷ []) (pos 0) None
    ∷ i JumpIf None (32 ∷ []) (pos 0) (named (codes "loop")) ∷ [])
    ∷ [])
    ∷
    block (codes "exit") (
    packet (i Mov (r 0) (3 ∷ []) (pos 0) None
    ∷ i Jumpr None (31 ∷ []) (pos 0) None ∷ [])
    ∷ [])
    ∷ []

abbrev dot_product_memory : List (ℕ × ℕ)
dot_product_memory =
    (256, 3) ∷ (260, 4) ∷ (272, 5) ∷ (276, 6) ∷ []

abbrev dot_product_start : Start
dot_product_start = record {
  regs =
      (256 ∷ 272 ∷ 2 ∷ []) ++ replicate 28 0 ++ (100 ∷ []) ++ replicate 4 0;
  memory = dot_product_memory;
  replies =
      [];
  well = refl;
}

dot_product : told (run_of 0 dot_product_blocks dot_product_start 10) ≡ (Returned 39 100, dot_product_memory, [], 12)
dot_product = refl

-- The same, cut off where its second label would be entered.
abbrev dot_product_cut_blocks : List CodeBlock
dot_product_cut_blocks =
    block (codes "entry") (
    packet (i Imm (r 3) ([]) (pos 0) None ∷ [])
    ∷ [])
    ∷
    block (codes "loop") (
    packet (i Load (r 4) (0 ∷ []) (pos 0) None
    ∷ i Load (r 5) (1 ∷ []) (pos 0) None
    ∷ i Addi (r 0) (0 ∷ []) (pos 4) None
    ∷ i Addi (r 1) (1 ∷ []) (pos 4) None ∷ [])
    ∷
    packet (i Addi (r 2) (2 ∷ []) (negsuc 0) None ∷ [])
    ∷
    packet (i Mpyi (r 4) (4 ∷ 5 ∷ []) (pos 0) None
    ∷ i CmpGti (r 32) (2 ∷ []) (pos 0) None ∷ [])
    ∷
    packet (i Nop None ([]) (pos 0) None ∷ [])
    ∷
    packet (i Add (r 3) (3 ∷ 4 ∷ []) (pos 0) None
    ∷ i JumpIf None (32 ∷ []) (pos 0) (named (codes "loop")) ∷ [])
    ∷ [])
    ∷
    block (codes "exit") (
    packet (i Mov (r 0) (3 ∷ []) (pos 0) None
    ∷ i Jumpr None (31 ∷ []) (pos 0) None ∷ [])
    ∷ [])
    ∷ []

abbrev dot_product_cut_memory : List (ℕ × ℕ)
dot_product_cut_memory =
    (256, 3) ∷ (260, 4) ∷ (272, 5) ∷ (276, 6) ∷ []

abbrev dot_product_cut_start : Start
dot_product_cut_start = record {
  regs =
      (256 ∷ 272 ∷ 2 ∷ []) ++ replicate 28 0 ++ (100 ∷ []) ++ replicate 4 0;
  memory = dot_product_cut_memory;
  replies =
      [];
  well = refl;
}

dot_product_cut : told (run_of 0 dot_product_cut_blocks dot_product_cut_start 1) ≡ (Running 1, dot_product_cut_memory, [], 1)
dot_product_cut = refl

-- A value is kept over a call in a saved register, which is kept in the frame.
abbrev call_once_blocks : List CodeBlock
call_once_blocks =
    block (codes "e") (
    packet (i Enter None ([]) (negsuc 7) None ∷ [])
    ∷
    packet (i Spill None (16 ∷ []) (pos 0) None
    ∷ i Mov (r 16) (31 ∷ []) (pos 0) None ∷ [])
    ∷
    packet (i Mov (r 17) (0 ∷ []) (pos 0) None
    ∷ i Spill None (17 ∷ []) (pos 4) None
    ∷ i Call None (0 ∷ []) (pos 0) (named (codes "h")) ∷ [])
    ∷
    packet (i Add (r 0) (0 ∷ 17 ∷ []) (pos 0) None
    ∷ i Mov (r 31) (16 ∷ []) (pos 0) None
    ∷ i Reload (r 16) ([]) (pos 0) None
    ∷ i Reload (r 17) ([]) (pos 4) None ∷ [])
    ∷
    packet (i Leave None ([]) (pos 8) None
    ∷ i Jumpr None (31 ∷ []) (pos 0) None ∷ [])
    ∷ [])
    ∷ []

abbrev call_once_memory : List (ℕ × ℕ)
call_once_memory =
    []

abbrev call_once_start : Start
call_once_start = record {
  regs =
      (5 ∷ []) ++ replicate 28 0 ++ (4096 ∷ 0 ∷ 100 ∷ []) ++ replicate 4 0;
  memory = call_once_memory;
  replies =
      reply 7 ([]) (replicate 36 0) ∷ [];
  well = refl;
}

call_once : told (run_of 8 call_once_blocks call_once_start 5) ≡ (
  Returned 12 100,
  call_once_memory,
  record_of (codes "h") (5 ∷ []) call_once_memory ∷ [],
  5,
)
call_once = refl

-- The same without a reply: the packet with the call does not complete.
abbrev call_waits_blocks : List CodeBlock
call_waits_blocks =
    block (codes "e") (
    packet (i Enter None ([]) (negsuc 7) None ∷ [])
    ∷
    packet (i Spill None (16 ∷ []) (pos 0) None
    ∷ i Mov (r 16) (31 ∷ []) (pos 0) None ∷ [])
    ∷
    packet (i Mov (r 17) (0 ∷ []) (pos 0) None
    ∷ i Spill None (17 ∷ []) (pos 4) None
    ∷ i Call None (0 ∷ []) (pos 0) (named (codes "h")) ∷ [])
    ∷
    packet (i Add (r 0) (0 ∷ 17 ∷ []) (pos 0) None
    ∷ i Mov (r 31) (16 ∷ []) (pos 0) None
    ∷ i Reload (r 16) ([]) (pos 0) None
    ∷ i Reload (r 17) ([]) (pos 4) None ∷ [])
    ∷
    packet (i Leave None ([]) (pos 8) None
    ∷ i Jumpr None (31 ∷ []) (pos 0) None ∷ [])
    ∷ [])
    ∷ []

abbrev call_waits_memory : List (ℕ × ℕ)
call_waits_memory =
    []

abbrev call_waits_start : Start
call_waits_start = record {
  regs =
      (5 ∷ []) ++ replicate 28 0 ++ (4096 ∷ 0 ∷ 100 ∷ []) ++ replicate 4 0;
  memory = call_waits_memory;
  replies =
      [];
  well = refl;
}

call_waits : told (run_of 8 call_waits_blocks call_waits_start 5) ≡
    (Waiting (record_of (codes "h") (5 ∷ []) call_waits_memory), call_waits_memory, [], 2)
call_waits = refl

-- The store of a trapped packet is not kept.
abbrev trapped_store_blocks : List CodeBlock
trapped_store_blocks =
    block (codes "e") (
    packet (i Store None (0 ∷ 2 ∷ []) (pos 0) None
    ∷ i Load (r 3) (1 ∷ []) (pos 0) None ∷ [])
    ∷
    packet (i Jumpr None (31 ∷ []) (pos 0) None ∷ [])
    ∷ [])
    ∷ []

abbrev trapped_store_memory : List (ℕ × ℕ)
trapped_store_memory =
    (256, 17) ∷ []

abbrev trapped_store_start : Start
trapped_store_start = record {
  regs =
      (256 ∷ 258 ∷ 9 ∷ []) ++ replicate 33 0;
  memory = trapped_store_memory;
  replies =
      [];
  well = refl;
}

trapped_store : told (run_of 0 trapped_store_blocks trapped_store_start 5) ≡ (Trapped, trapped_store_memory, [], 0)
trapped_store = refl

-- A packet that traps, and that calls where no reply is left, traps: the call does not come to pass.
abbrev traps_and_calls_blocks : List CodeBlock
traps_and_calls_blocks =
    block (codes "e") (
    packet (i Load (r 3) (1 ∷ []) (pos 0) None
    ∷ i Call None (0 ∷ []) (pos 0) (named (codes "h")) ∷ [])
    ∷
    packet (i Jumpr None (31 ∷ []) (pos 0) None ∷ [])
    ∷ [])
    ∷ []

traps_and_calls : told (run_of 0 traps_and_calls_blocks trapped_store_start 5) ≡ (Trapped, trapped_store_memory, [], 0)
traps_and_calls = refl

-- A load and a later store in one packet: the load sees the word before the store.
abbrev load_and_store_blocks : List CodeBlock
load_and_store_blocks =
    block (codes "e") (
    packet (i Load (r 3) (0 ∷ []) (pos 0) None
    ∷ i Store None (0 ∷ 2 ∷ []) (pos 0) None ∷ [])
    ∷
    packet (i Mov (r 0) (3 ∷ []) (pos 0) None
    ∷ i Jumpr None (31 ∷ []) (pos 0) None ∷ [])
    ∷ [])
    ∷ []

abbrev load_and_store_memory : List (ℕ × ℕ)
load_and_store_memory =
    (256, 17) ∷ []

abbrev load_and_store_start : Start
load_and_store_start = record {
  regs =
      (256 ∷ 0 ∷ 9 ∷ []) ++ replicate 28 0 ++ (100 ∷ []) ++ replicate 4 0;
  memory = load_and_store_memory;
  replies =
      [];
  well = refl;
}

load_and_store : told (run_of 0 load_and_store_blocks load_and_store_start 5) ≡ (Returned 17 100, ((256, 9) ∷ []), [], 3)
load_and_store = refl

-- A branch reads the predicate before its packet writes it; a true predicate is 255 in a general register.
abbrev branch_by_old_blocks : List CodeBlock
branch_by_old_blocks =
    block (codes "e") (
    packet (i CmpEq (r 32) (0 ∷ 0 ∷ []) (pos 0) None
    ∷ i JumpIf None (32 ∷ []) (pos 0) (named (codes "f")) ∷ [])
    ∷ [])
    ∷
    block (codes "g") (
    packet (i P2R (r 1) (32 ∷ []) (pos 0) None ∷ [])
    ∷
    packet (i Mov (r 0) (1 ∷ []) (pos 0) None
    ∷ i Jumpr None (31 ∷ []) (pos 0) None ∷ [])
    ∷ [])
    ∷
    block (codes "f") (
    packet (i Imm (r 0) ([]) (pos 7) None
    ∷ i Jumpr None (31 ∷ []) (pos 0) None ∷ [])
    ∷ [])
    ∷ []

abbrev branch_by_old_memory : List (ℕ × ℕ)
branch_by_old_memory =
    []

abbrev branch_by_old_start : Start
branch_by_old_start = record {
  regs =
      (5 ∷ []) ++ replicate 30 0 ++ (100 ∷ []) ++ replicate 4 0;
  memory = branch_by_old_memory;
  replies =
      [];
  well = refl;
}

branch_by_old : told (run_of 0 branch_by_old_blocks branch_by_old_start 5) ≡ (Returned 255 100, branch_by_old_memory, [], 3)
branch_by_old = refl

-- A reply changes memory, and leaves junk in clobbered registers alone; its registers are ready in the next cycle.
abbrev reply_writes_blocks : List CodeBlock
reply_writes_blocks =
    block (codes "e") (
    packet (i Call None (0 ∷ []) (pos 0) (named (codes "h")) ∷ [])
    ∷
    packet (i Add (r 0) (1 ∷ 16 ∷ []) (pos 0) None ∷ [])
    ∷
    packet (i Jumpr None (28 ∷ []) (pos 0) None ∷ [])
    ∷ [])
    ∷ []

abbrev reply_writes_memory : List (ℕ × ℕ)
reply_writes_memory =
    (8, 1) ∷ []

abbrev reply_writes_start : Start
reply_writes_start = record {
  regs =
      (5 ∷ 6 ∷ []) ++ replicate 14 0 ++ (1000 ∷ []) ++ replicate 19 0;
  memory = reply_writes_memory;
  replies =
      reply 3 ((8, 2) ∷ []) ((0 ∷ 50 ∷ []) ++ replicate 26 0 ++ (77 ∷ []) ++ replicate 7 0) ∷ [];
  well = refl;
}

reply_writes : told (run_of 0 reply_writes_blocks reply_writes_start 2) ≡
    (Returned 1050 77, ((8, 2) ∷ []), record_of (codes "h") (5 ∷ []) reply_writes_memory ∷ [], 3)
reply_writes = refl

-- A jump tests what the compare of its own packet writes, in its cycle.
abbrev branch_by_new_blocks : List CodeBlock
branch_by_new_blocks =
    block (codes "e") (
    packet (i CmpGti (r 32) (0 ∷ []) (pos 0) None
    ∷ i JumpIfNew None (32 ∷ []) (pos 0) (named (codes "t")) ∷ [])
    ∷ [])
    ∷
    block (codes "u") (
    packet (i Imm (r 0) ([]) (pos 7) None
    ∷ i Jumpr None (31 ∷ []) (pos 0) None ∷ [])
    ∷ [])
    ∷
    block (codes "t") (
    packet (i Jumpr None (31 ∷ []) (pos 0) None ∷ [])
    ∷ [])
    ∷ []

abbrev branch_by_new_memory : List (ℕ × ℕ)
branch_by_new_memory =
    []

abbrev branch_by_new_start : Start
branch_by_new_start = record {
  regs =
      (5 ∷ []) ++ replicate 30 0 ++ (100 ∷ []) ++ replicate 4 0;
  memory = branch_by_new_memory;
  replies =
      [];
  well = refl;
}

branch_by_new : told (run_of 0 branch_by_new_blocks branch_by_new_start 5) ≡ (Returned 5 100, branch_by_new_memory, [], 2)
branch_by_new = refl

-- The same where it is wanted false: the new predicate is true, and the old one was false.
abbrev branch_by_not_new_blocks : List CodeBlock
branch_by_not_new_blocks =
    block (codes "e") (
    packet (i CmpGti (r 32) (0 ∷ []) (pos 0) None
    ∷ i JumpIfNotNew None (32 ∷ []) (pos 0) (named (codes "t")) ∷ [])
    ∷ [])
    ∷
    block (codes "u") (
    packet (i Imm (r 0) ([]) (pos 7) None
    ∷ i Jumpr None (31 ∷ []) (pos 0) None ∷ [])
    ∷ [])
    ∷
    block (codes "t") (
    packet (i Jumpr None (31 ∷ []) (pos 0) None ∷ [])
    ∷ [])
    ∷ []

branch_by_not_new : told (run_of 0 branch_by_not_new_blocks branch_by_new_start 5) ≡ (Returned 7 100, branch_by_new_memory, [], 2)
branch_by_not_new = refl
