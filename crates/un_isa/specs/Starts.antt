-- Which starts are well formed.
use Rattle.std.specs.Prelude.{ℕ, ◌+◌, Bool, true, ◌&&◌, ◌||◌, nat_eq, nat_lt, nat_le, List, [], ◌∷◌, is_some, drop}
use Rattle.std.specs.List.{list_all}
use Rattle.un_isa.specs.Memories.{is_memory, word_at}
use Rattle.un_isa.specs.declared.reg.TheConstants.{LINK, GENERALS}
use Rattle.un_isa.specs.declared.start.Reply.{Reply}

-- r0 to r15, r28, r31 and p0 to p3: what a call writes
abbrev pub is_clobbered : ℕ → Bool
is_clobbered r = nat_lt r 16 || nat_eq r 28 || nat_eq r LINK || nat_le GENERALS r

-- each predicate is 0 or 1
abbrev pub are_predicates : List ℕ → Bool
are_predicates regs = list_all (λ v. nat_lt v 2) (drop GENERALS regs)

-- register by register from r: nothing but in clobbered registers other than r0
abbrev pub is_junk_from : ℕ → List ℕ → Bool
is_junk_from r [] = true
is_junk_from r (v ∷ vs) = (nat_eq v 0 || (is_clobbered r && nat_lt 0 r)) && is_junk_from (r + 1) vs

-- a reply to a call of a function that runs on this memory
abbrev pub is_reply : List (ℕ × ℕ) → Reply → Bool
is_reply memory reply =
    is_memory reply.changed && list_all (λ c. is_some (word_at c.0 memory)) reply.changed
    && is_junk_from 0 reply.junk && are_predicates reply.junk

abbrev pub is_start : List ℕ → List (ℕ × ℕ) → List Reply → Bool
is_start regs memory replies = are_predicates regs && is_memory memory && list_all (is_reply memory) replies
