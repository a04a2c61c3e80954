-- There is a start for each frame that code may have.
use Rattle.std.proofs.Common.{ℕ, zero, suc, ◌≡◌, ◌≤◌, ◌^◌, true, List, [], ◌∷◌, ◌++◌, replicate, All, refl, arith, lit<, lit≤}
use Rattle.std.specs.Prelude.{nat_lt}
use Rattle.std.specs.List.{list_all}
use Rattle.std.proofs.lemmas.Bool.{and_parts}
use Rattle.std.proofs.lemmas.Bool.Decides.{nat_tests}
use Rattle.un_isa.specs.declared.reg.TheConstants.{FRAME, GENERALS, PREDICATES, REGISTERS}
use Rattle.un_isa.specs.declared.start.Start.{Start}
use Rattle.un_isa.specs.declared.start.Reply.{Reply}
use Rattle.un_simulation.specs.Simulation.{IsWord, IsEntry, IsReply, CanStart}

words : (xs : List ℕ) → list_all (λ v. nat_lt v (2 ^ 32)) xs ≡ true → All IsWord xs
words [] h k d lt = absurd (omega arith)
words (x ∷ xs) h zero d lt = let p = and_parts (nat_lt x (2 ^ 32)) (list_all (λ v. nat_lt v (2 ^ 32)) xs) h in let a = p.0 in
    grind (arith, nat_tests, a)
words (x ∷ xs) h (suc k) d lt = let p = and_parts (nat_lt x (2 ^ 32)) (list_all (λ v. nat_lt v (2 ^ 32)) xs) h in
    words xs p.1 k d (omega arith)

-- every general register is the size of the largest frame, and every predicate false
abbrev regs : List ℕ
regs = replicate GENERALS FRAME ++ replicate PREDICATES 0

abbrev roomy : Start
roomy = record { regs = regs; memory = []; replies = []; well = refl }

pub start_for : (frame : ℕ) → frame ≤ FRAME → (s : Start) × CanStart s frame
start_for frame small = (
  roomy,
  record {
    regs_len = refl;
    regs = words regs refl;
    memory = λ k d lt. absurd (omega arith);
    replies = λ k d lt. absurd (omega arith);
    well = refl;
    aligned = refl;
    room = small;
  },
)

-- ---- a start whose frame is all that is below it, with a word of memory, a reply and predicates

in_memory : All IsEntry ((4, 7) ∷ [])
in_memory zero d lt = (lit< tt, lit< tt)
in_memory (suc k) d lt = absurd (omega arith)

abbrev low_reply : Reply
low_reply = record { result = 4294967295; changed = (4, 7) ∷ []; junk = replicate REGISTERS 0 }

reply_fits : IsReply low_reply
reply_fits = record { result = lit< tt; changed = in_memory; junk = words (replicate REGISTERS 0) refl; junk_len = refl }

in_replies : All IsReply (low_reply ∷ [])
in_replies zero d lt = reply_fits
in_replies (suc k) d lt = absurd (omega arith)

abbrev low_regs : List ℕ
low_regs = replicate 29 4294967295 ++ (8 ∷ 0 ∷ 102 ∷ []) ++ (1 ∷ 0 ∷ 0 ∷ 1 ∷ [])

abbrev low : Start
low = record { regs = low_regs; memory = (4, 7) ∷ []; replies = low_reply ∷ []; well = refl }

low_start : CanStart low 8
low_start = record {
  regs_len = refl;
  regs = words low_regs refl;
  memory = in_memory;
  replies = in_replies;
  well = refl;
  aligned = refl;
  room = lit≤ tt;
}

-- ---- and starts that are none: a stack pointer that is no multiple of 8, one with too little below it, too few registers, a register
-- and a word of memory that are no words of 32 bits, a reply that changes an address that the memory has not

-- registers that are 0 but for the stack pointer
abbrev regs_at : ℕ → List ℕ
regs_at stack = replicate 29 0 ++ (stack ∷ 0 ∷ 0 ∷ []) ++ replicate PREDICATES 0

odd_start : (s : Start) → s.regs ≡ regs_at 12 → CanStart s 8 → ⊥
odd_start s e h = let a = h.aligned in let k = rw e at a in omega (arith, k)

low_stack : (s : Start) → s.regs ≡ regs_at 16 → CanStart s 24 → ⊥
low_stack s e h = let a = h.room in let k = rw e at a in omega (arith, k)

few_registers : (s : Start) → s.regs ≡ replicate GENERALS 0 → CanStart s 0 → ⊥
few_registers s e h = let a = h.regs_len in let k = rw e at a in omega (arith, k)

wide_register : (s : Start) → s.regs ≡ (2 ^ 32) ∷ replicate 35 0 → CanStart s 0 → ⊥
wide_register s e h = let a = h.regs in let k = rw e at a in let b = k 0 0 (lit< tt) in omega (arith, b)

wide_word : (s : Start) → s.memory ≡ (4, 2 ^ 32) ∷ [] → CanStart s 0 → ⊥
wide_word s e h = let a = h.memory in let k = rw e at a in let b = k 0 (0, 0) (lit< tt) in let w = b.1 in omega (arith, w)
