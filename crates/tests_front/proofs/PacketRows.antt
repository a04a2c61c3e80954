-- Packets that were worked out by hand: the frame and the stack pointer, waits, what a packet reads, and where a run goes on.
use Rattle.std.specs.Prelude.{ℕ, pos, negsuc, ◌≡◌, List, [], ◌∷◌, ◌++◌, None, codes, map, replicate, slice_index}
use Rattle.std.proofs.Common.{refl}
use Rattle.un_isa.specs.declared.op.Op.TheVariants.{Imm, Mov, Load, Store, Call, Jump, JumpIfNot, Jumpr, Spill, Reload, Enter, Leave}
use Rattle.un_isa.specs.declared.instr.Instr.{Instr}
use Rattle.un_isa.specs.declared.start.Start.{Start}
use Rattle.un_packet.specs.declared.code.CodeBlock.{CodeBlock}
use Rattle.un_packet.specs.Step.{Returned, Trapped, Running, reads_of}
use Rattle.un_packet.proofs.Assembly.{r, named, i, packet, block, record_of, reply, told, run_of}

abbrev memory : List (ℕ × ℕ)
memory = (256, 17) ∷ []

-- r0 is 256, r1 is 9, r2 is 5, the stack pointer is 4096, the link register 100, and p0 is true
abbrev start : Start
start = record {
  regs = (256 ∷ 9 ∷ 5 ∷ []) ++ replicate 26 0 ++ (4096 ∷ 0 ∷ 100 ∷ 1 ∷ 0 ∷ 0 ∷ 0 ∷ []);
  memory = memory;
  replies = reply 7 [] (replicate 36 0) ∷ reply 8 [] (replicate 36 0) ∷ [];
  well = refl;
}

abbrev down : Instr
down = i Enter None [] (negsuc 7) None

abbrev up : Instr
up = i Leave None [] (pos 8) None

abbrev back : Instr
back = i Jumpr None (31 ∷ []) (pos 0) None

-- ---- the frame: 8 bytes below 4096

-- the value of r1 goes through the second word of the frame, and the stack pointer is as it was
abbrev through_frame : List CodeBlock
through_frame =
    block (codes "e")
    (packet (down ∷ [])
    ∷ packet (i Spill None (1 ∷ []) (pos 4) None ∷ [])
    ∷ packet (i Reload (r 0) [] (pos 4) None ∷ [])
    ∷ packet (up ∷ back ∷ []) ∷ [])
    ∷ []

through : told (run_of 8 through_frame start 5) ≡ (Returned 9 100, memory, [], 4)
through = refl

stack_after : slice_index (run_of 8 through_frame start 5).state.regs 29 ≡ 4096
stack_after = refl

-- the words of the frame are 0 at first
abbrev first_word : List CodeBlock
first_word = block (codes "e") (packet (down ∷ []) ∷ packet (i Reload (r 0) [] (pos 4) None ∷ []) ∷ packet (back ∷ []) ∷ []) ∷ []

first : told (run_of 8 first_word start 5) ≡ (Returned 0 100, memory, [], 3)
first = refl

-- the word behind the frame, the one before it, and half a word
abbrev reload_at : ℕ → List CodeBlock
reload_at n = block (codes "e") (packet (down ∷ []) ∷ packet (i Reload (r 0) [] (pos n) None ∷ []) ∷ packet (back ∷ []) ∷ []) ∷ []

behind : told (run_of 8 (reload_at 8) start 5) ≡ (Trapped, memory, [], 1)
behind = refl

odd : told (run_of 8 (reload_at 2) start 5) ≡ (Trapped, memory, [], 1)
odd = refl

abbrev spill_at : ℕ → List CodeBlock
spill_at n = block (codes "e") (packet (down ∷ []) ∷ packet (i Spill None (1 ∷ []) (pos n) None ∷ []) ∷ packet (back ∷ []) ∷ []) ∷ []

spilled_behind : told (run_of 8 (spill_at 8) start 5) ≡ (Trapped, memory, [], 1)
spilled_behind = refl

spilled_odd : told (run_of 8 (spill_at 2) start 5) ≡ (Trapped, memory, [], 1)
spilled_odd = refl

-- ---- waits: r1 is loaded in cycle 1, and can be read in cycle 3

abbrev loaded : List Instr
loaded = i Load (r 1) (0 ∷ []) (pos 0) None ∷ down ∷ []

abbrev after_load : List Instr → List CodeBlock
after_load next = block (codes "e") (packet loaded ∷ packet next ∷ packet (back ∷ []) ∷ []) ∷ []

spill_waits : told (run_of 8 (after_load (i Spill None (1 ∷ []) (pos 0) None ∷ [])) start 5) ≡ (Returned 256 100, memory, [], 4)
spill_waits = refl

-- the stack pointer, which Enter wrote in cycle 1, can be read in cycle 2
leave_does_not : told (run_of 8 (after_load (up ∷ [])) start 5) ≡ (Returned 256 100, memory, [], 3)
leave_does_not = refl

-- a call writes the link register too, in cycle 1, and the reply has 0 there
abbrev call_and_return : List CodeBlock
call_and_return = block (codes "e") (packet (i Call None [] (pos 0) (named (codes "h")) ∷ []) ∷ packet (back ∷ []) ∷ []) ∷ []

link_of_call : told (run_of 0 call_and_return start 5)
    ≡ (Returned 7 0, memory, record_of (codes "h") [] memory ∷ [], 2)
link_of_call = refl

-- what instructions read: accesses to the frame, Enter and Leave read the stack pointer
reads : map reads_of
    (i Spill None (1 ∷ []) (pos 0) None ∷ i Reload (r 0) [] (pos 0) None ∷ down ∷ up ∷ back ∷ i Store None (0 ∷ 2 ∷ []) (pos 0) None ∷ [])
    ≡ (29 ∷ 1 ∷ []) ∷ (29 ∷ []) ∷ (29 ∷ []) ∷ (29 ∷ []) ∷ (31 ∷ []) ∷ (0 ∷ 2 ∷ []) ∷ []
reads = refl

-- what a packet with a call loads can be read one cycle later, as what the call writes: r6 is junk of the reply
abbrev call_and_load : List CodeBlock
call_and_load =
    block (codes "e")
    (packet (i Load (r 6) (0 ∷ []) (pos 0) None ∷ i Call None [] (pos 0) (named (codes "h")) ∷ [])
    ∷ packet (i Mov (r 7) (6 ∷ []) (pos 0) None ∷ [])
    ∷ packet (back ∷ []) ∷ [])
    ∷ []

latency_of_call : told (run_of 0 call_and_load start 5) ≡ (Returned 7 0, memory, record_of (codes "h") [] memory ∷ [], 3)
latency_of_call = refl

-- ---- a packet reads what was before it, and a return gives r0 as it is after it

abbrev written_and_read : List CodeBlock
written_and_read =
    block (codes "e") (packet (i Imm (r 0) [] (pos 3) None ∷ i Mov (r 31) (1 ∷ []) (pos 0) None ∷ back ∷ []) ∷ []) ∷ []

return_after_write : told (run_of 0 written_and_read start 5)
    ≡ (Returned 3 100, memory, [], 1)
return_after_write = refl

-- ---- calls: two of them are told in order, and the record has the memory before its packet

abbrev two_calls : List CodeBlock
two_calls =
    block (codes "e")
    (packet (i Store None (0 ∷ 2 ∷ []) (pos 0) None ∷ i Call None (0 ∷ []) (pos 0) (named (codes "g")) ∷ [])
    ∷ packet (i Call None (0 ∷ []) (pos 0) (named (codes "h")) ∷ [])
    ∷ packet (back ∷ []) ∷ [])
    ∷ []

told_in_order : told (run_of 0 two_calls start 5)
    ≡ (Returned 8 0, (256, 5) ∷ [], record_of (codes "g") (256 ∷ []) memory ∷ record_of (codes "h") (7 ∷ []) ((256, 5) ∷ []) ∷ [], 3)
told_in_order = refl

-- ---- jumps over a block, where p0 is true

abbrev jumps_by : Instr → List CodeBlock
jumps_by jump =
    block (codes "e") (packet (jump ∷ []) ∷ [])
    ∷ block (codes "g") (packet (i Imm (r 0) [] (pos 1) None ∷ back ∷ []) ∷ [])
    ∷ block (codes "k") (packet (i Imm (r 0) [] (pos 2) None ∷ back ∷ []) ∷ [])
    ∷ []

jump_goes : told (run_of 0 (jumps_by (i Jump None [] (pos 0) (named (codes "k")))) start 5) ≡ (Returned 2 100, memory, [], 2)
jump_goes = refl

not_taken : told (run_of 0 (jumps_by (i JumpIfNot None (32 ∷ []) (pos 0) (named (codes "k")))) start 5) ≡ (Returned 1 100, memory, [], 2)
not_taken = refl

taken : told (run_of 0 (jumps_by (i JumpIfNot None (33 ∷ []) (pos 0) (named (codes "k")))) start 5) ≡ (Returned 2 100, memory, [], 2)
taken = refl

-- the second label that would be entered is that of the jump
goes_to : told (run_of 0 (jumps_by (i Jump None [] (pos 0) (named (codes "k")))) start 1) ≡ (Running 2, memory, [], 1)
goes_to = refl
