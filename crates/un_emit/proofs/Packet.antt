-- What one packet does to the registers, to the cycles from which they can be read, to memory and to the frame: each place
-- has what its only writer gives, or what it had. Nothing is said of temporaries or of the model here.
use Rattle.std.proofs.Common.{ℕ, zero, suc, ◌≡◌, ◌≢◌, ◌<◌, ◌≤◌, ◌+◌, max, Bool, true, false, List, [], ◌∷◌, length, map, get_or, set, inl}
use Rattle.std.proofs.Common.{inr, ⊎_elim, refl, sym, ap, ◌∙◌, subst, arith}
use Rattle.std.specs.Prelude.{Option, Some, None, slice_index, nat_eq, unwrap_or}
use Rattle.std.specs.List.{fold, flat_map}
use Rattle.std.specs.Option.{option_to_list, option_map}
use Rattle.std.proofs.lemmas.Bool.{cases_eq}
use Rattle.std.proofs.lemmas.List.{get_or-set_same, get_or-set_other, length-set}
use Rattle.un_isa.specs.Memories.{set_word}
use Rattle.un_isa.specs.Words.{address_of}
use Rattle.un_isa.specs.Tables.{latency_of}
use Rattle.un_isa.specs.declared.op.Op.{Op}
use Rattle.un_isa.specs.declared.op.Op.TheVariants.{Store, Spill, Enter, Leave}
use Rattle.un_isa.specs.declared.reg.Reg.{Reg}
use Rattle.un_isa.specs.declared.instr.Instr.{Instr}
use Rattle.un_isa.specs.declared.table.Table.{Table}
use Rattle.un_isa.specs.declared.start.Reply.{Reply}
use Rattle.un_isa.specs.declared.reg.TheConstants.{STACK}
use Rattle.un_packet.specs.Step.{PacketState, writes_by, value_of, put_all, regs_after, ready_after, memory_after, memory_by, frame_after}
use Rattle.un_packet.specs.Step.{frame_by, frame_place, operand_in, each_from, replied, call_ready, reads_of, issue_cycle}
use Rattle.un_lists.proofs.Lists.{Each, Pairwise, Member, each_member, each_of, each_join}

-- ---- lists with numbers put at places of them

-- a number at a place, where there is a place
abbrev pub put_one : Option ℕ → ℕ → List ℕ → List ℕ
put_one None v xs = xs
put_one (Some r) v xs = set xs r v

-- what the instructions put where, one after another
abbrev pub puts : (Instr → Option ℕ) → (Instr → ℕ) → List Instr → List ℕ → List ℕ
puts f v [] xs = xs
puts f v (i ∷ is) xs = puts f v is (put_one (f i) (v i) xs)

length-put_one : (o : Option ℕ) (v : ℕ) (xs : List ℕ) → length (put_one o v xs) ≡ length xs
length-put_one None v xs = refl
length-put_one (Some r) v xs = length-set xs r v

pub length-puts : (f : Instr → Option ℕ) (v : Instr → ℕ) (is : List Instr) (xs : List ℕ) → length (puts f v is xs) ≡ length xs
length-puts f v [] xs = refl
length-puts f v (i ∷ is) xs = length-puts f v is (put_one (f i) (v i) xs) ∙ length-put_one (f i) (v i) xs

put_one_other : (o : Option ℕ) (v r : ℕ) (xs : List ℕ) → o ≢ Some r → get_or (put_one o v xs) r 0 ≡ get_or xs r 0
put_one_other None v r xs h = refl
put_one_other (Some q) v r xs h = get_or-set_other xs q r v 0 (λ e. h (ap Some (sym e)))

-- at a place at which none of them puts a number
pub puts_other : (f : Instr → Option ℕ) (v : Instr → ℕ) (is : List Instr) (xs : List ℕ) (r : ℕ) → Each (λ i. f i ≢ Some r) is
    → get_or (puts f v is xs) r 0 ≡ get_or xs r 0
puts_other f v [] xs r h = refl
puts_other f v (i ∷ is) xs r h = puts_other f v is (put_one (f i) (v i) xs) r h.1 ∙ put_one_other (f i) (v i) r xs h.0

put_one_own : (o : Option ℕ) (v r : ℕ) (xs : List ℕ) → o ≡ Some r → r < length xs → get_or (put_one o v xs) r 0 ≡ v
put_one_own None v r xs e lt = absurd (cc e)
put_one_own (Some q) v r xs e lt = let s : q ≡ r = cc e in let g : q < length xs = omega arith in
    subst (λ x. get_or (set xs q v) x 0 ≡ v) s (get_or-set_same xs q v 0 g)

-- no two of them put a number at one place
abbrev pub AreApart : (Instr → Option ℕ) → List Instr → Type 0
AreApart f is = Pairwise (λ i j. (r : ℕ) → f i ≡ Some r → f j ≢ Some r) is

-- at the place of one of them
pub puts_own : (f : Instr → Option ℕ) (v : Instr → ℕ) (is : List Instr) (xs : List ℕ) (i : Instr) (r : ℕ) → AreApart f is → Member i is
    → f i ≡ Some r → r < length xs → get_or (puts f v is xs) r 0 ≡ v i
puts_own f v [] xs i r apart m e lt = elim m [ ]
puts_own f v (j ∷ js) xs i r apart (inl s) e lt =
    let here : f j ≡ Some r = ap f s ∙ e in
    let later = each_of (λ k. f k ≢ Some r) js (λ k m. each_member (λ n. (q : ℕ) → f j ≡ Some q → f n ≢ Some q) js k apart.0 m r here) in
    puts_other f v js (put_one (f j) (v j) xs) r later ∙ put_one_own (f j) (v j) r xs here lt ∙ ap v s
puts_own f v (j ∷ js) xs i r apart (inr m) e lt =
    let long = length-put_one (f j) (v j) xs in
    puts_own f v js (put_one (f j) (v j) xs) i r apart.1 m e (omega arith)

-- ---- the places that an instruction writes

-- the register that an instruction writes, but for what a call writes
abbrev pub target_by : Op → Option Reg → Option ℕ
target_by Enter dst = Some STACK
target_by Leave dst = Some STACK
target_by _ dst = option_map (λ (r : Reg). r.0) dst

abbrev pub target : Instr → Option ℕ
target i = target_by i.op i.dst

-- what it writes there
abbrev pub given_by : Op → PacketState → Instr → ℕ
given_by Enter s i = address_of (slice_index s.regs STACK) i.imm
given_by Leave s i = address_of (slice_index s.regs STACK) i.imm
given_by _ s i = value_of s i

abbrev pub given : PacketState → Instr → ℕ
given s i = given_by i.op s i

put_dst : (dst : Option Reg) (v : ℕ) (xs : List ℕ) → put_all (map (λ (r : Reg). (r.0, v)) (option_to_list dst)) xs ≡ put_one
    (option_map (λ (r : Reg). r.0) dst) v xs
put_dst None v xs = refl
put_dst (Some r) v xs = refl

writes_put : (op : Op) (s : PacketState) (i : Instr) (xs : List ℕ)
    → put_all (writes_by op s i) xs ≡ put_one (target_by op i.dst) (given_by op s i) xs
writes_put Enter s i xs = refl
writes_put Leave s i xs = refl
writes_put _ s i xs = put_dst i.dst (value_of s i) xs

pub regs_are_put : (s : PacketState) (is : List Instr) (xs : List ℕ) → regs_after s is xs ≡ puts target (given s) is xs
regs_are_put s [] xs = refl
regs_are_put s (i ∷ is) xs = ap (λ ys. regs_after s is ys) (writes_put i.op s i xs) ∙ regs_are_put s is (put_one (target i) (given s i) xs)

put_ready : (dst : Option Reg) (v c : ℕ) (xs : List ℕ) → put_all (map (λ (w : ℕ × ℕ). (w.0, c))
    (map (λ (r : Reg). (r.0, v)) (option_to_list dst))) xs ≡ put_one (option_map (λ (r : Reg). r.0) dst) c xs
put_ready None v c xs = refl
put_ready (Some r) v c xs = refl

writes_ready : (op : Op) (s : PacketState) (i : Instr) (c : ℕ) (xs : List ℕ)
    → put_all (map (λ (w : ℕ × ℕ). (w.0, c)) (writes_by op s i)) xs ≡ put_one (target_by op i.dst) c xs
writes_ready Enter s i c xs = refl
writes_ready Leave s i c xs = refl
writes_ready _ s i c xs = put_ready i.dst (value_of s i) c xs

pub ready_is_put : (t : Table) (c : ℕ) (s : PacketState) (is : List Instr) (xs : List ℕ)
    → ready_after t c s is xs ≡ puts target (λ i. c + latency_of t i.op) is xs
ready_is_put t c s [] xs = refl
ready_is_put t c s (i ∷ is) xs =
    ap (λ ys. ready_after t c s is ys) (writes_ready i.op s i (c + latency_of t i.op) xs)
    ∙ ready_is_put t c s is (put_one (target i) (c + latency_of t i.op) xs)

-- the word of the frame that an instruction writes
abbrev pub slot_by : Op → PacketState → Instr → Option ℕ
slot_by Spill s i = Some (unwrap_or (frame_place s i) 0)
slot_by _ s i = None

abbrev pub slot : PacketState → Instr → Option ℕ
slot s i = slot_by i.op s i

frame_put : (op : Op) (s : PacketState) (i : Instr) (xs : List ℕ) → frame_by op s i xs ≡ put_one (slot_by op s i) (operand_in s i 0) xs
frame_put Spill s i xs = refl
frame_put _ s i xs = refl

pub frame_is_put : (s : PacketState) (is : List Instr) (xs : List ℕ) → frame_after s is xs ≡ puts (slot s) (λ i. operand_in s i 0) is xs
frame_is_put s [] xs = refl
frame_is_put s (i ∷ is) xs = ap (λ ys. frame_after s is ys) (frame_put i.op s i xs)
    ∙ frame_is_put s is (put_one (slot s i) (operand_in s i 0) xs)

-- ---- memory

abbrev pub is_store : Op → Bool
is_store Store = true
is_store _ = false

memory_same : (op : Op) (s : PacketState) (i : Instr) (m : List (ℕ × ℕ)) → is_store op ≡ false → memory_by op s i m ≡ m
memory_same Store s i m e = absurd (cc e)
memory_same _ s i m e = refl

-- without a store
pub memory_none : (s : PacketState) (is : List Instr) (m : List (ℕ × ℕ)) → Each (λ i. is_store i.op ≡ false) is → memory_after s is m ≡ m
memory_none s [] m h = refl
memory_none s (i ∷ is) m h = ap (λ n. memory_after s is n) (memory_same i.op s i m h.0) ∙ memory_none s is m h.1

memory_by_store : (op : Op) (s : PacketState) (i : Instr) (m : List (ℕ × ℕ)) → op ≡ Store
    → memory_by op s i m ≡ set_word (address_of (operand_in s i 0) i.imm) (operand_in s i 1) m
memory_by_store op s i m e = ap (λ o. memory_by o s i m) e

not_store : (op : Op) → (op ≡ Store → ⊥) → is_store op ≡ false
not_store Store h = absurd (h refl)
not_store _ h = refl

-- with one store
pub memory_one : (s : PacketState) (is : List Instr) (m : List (ℕ × ℕ)) (i : Instr) → Member i is → i.op ≡ Store
    → Pairwise (λ i j. i.op ≡ Store → j.op ≡ Store → ⊥) is
    → memory_after s is m ≡ set_word (address_of (operand_in s i 0) i.imm) (operand_in s i 1) m
memory_one s [] m i mem e h = elim mem [ ]
memory_one s (j ∷ js) m i (inl q) e h =
    let here : j.op ≡ Store = ap (λ k. k.op) q ∙ e in
    let later = each_of (λ (k : Instr). is_store k.op ≡ false) js
    (λ k n. not_store k.op (each_member (λ (x : Instr). j.op ≡ Store → x.op ≡ Store → ⊥) js k h.0 n here)) in
    memory_none s js (memory_by j.op s j m) later ∙ memory_by_store j.op s j m here
    ∙ ap (λ k. set_word (address_of (operand_in s k 0) k.imm) (operand_in s k 1) m) q
memory_one s (j ∷ js) m i (inr n) e h =
    let here = not_store j.op (λ f. each_member (λ (x : Instr). j.op ≡ Store → x.op ≡ Store → ⊥) js i h.0 n f e) in
    ap (λ x. memory_after s js x) (memory_same j.op s j m here) ∙ memory_one s js m i n e h.1

-- ---- a call's reply

same_place : (k r : ℕ) → nat_eq k r ≡ true → k ≡ r
same_place k r h = ⊎_elim (λ (e : k ≡ r). e) (λ (e : k ≢ r). absurd (grind (arith, h))) (cases_eq k r)

pub length-replied : (t : Table) (reply : Reply) (k : ℕ) (xs : List ℕ) → length (each_from (replied t reply) k xs) ≡ length xs
length-replied t reply k [] = refl
length-replied t reply k (x ∷ xs) = ap suc (length-replied t reply (k + 1) xs)

pub replied_at : (t : Table) (reply : Reply) (k r : ℕ) (xs : List ℕ) → r < length xs
    → get_or (each_from (replied t reply) k xs) r 0 ≡ replied t reply (k + r) (get_or xs r 0)
replied_at t reply k r [] lt = absurd (omega arith)
replied_at t reply k zero (x ∷ xs) lt = ap (λ q. replied t reply q x) (omega arith)
replied_at t reply k (suc r) (x ∷ xs) lt = replied_at t reply (k + 1) r xs (omega arith)
    ∙ ap (λ q. replied t reply q (get_or xs r 0)) (omega arith)

pub length-call_ready : (t : Table) (c k : ℕ) (xs : List ℕ) → length (each_from (call_ready t c) k xs) ≡ length xs
length-call_ready t c k [] = refl
length-call_ready t c k (x ∷ xs) = ap suc (length-call_ready t c (k + 1) xs)

pub call_ready_at : (t : Table) (c k r : ℕ) (xs : List ℕ) → r < length xs
    → get_or (each_from (call_ready t c) k xs) r 0 ≡ call_ready t c (k + r) (get_or xs r 0)
call_ready_at t c k r [] lt = absurd (omega arith)
call_ready_at t c k zero (x ∷ xs) lt = ap (λ q. call_ready t c q x) (omega arith)
call_ready_at t c k (suc r) (x ∷ xs) lt = call_ready_at t c (k + 1) r xs (omega arith)
    ∙ ap (λ q. call_ready t c q (get_or xs r 0)) (omega arith)

-- ---- when a packet issues

fold_within : (ready : List ℕ) (c : ℕ) (rs : List ℕ) → Each (λ r. slice_index ready r ≤ c) rs → fold max c (map (slice_index ready) rs) ≡ c
fold_within ready c [] h = refl
fold_within ready c (r ∷ rs) h =
    let first = h.0 in
    let e : max c (slice_index ready r) ≡ c = omega (arith, first) in
    ap (λ x. fold max x (map (slice_index ready) rs)) e ∙ fold_within ready c rs h.1

all_reads : (ready : List ℕ) (c : ℕ) (is : List Instr) → Each (λ i. Each (λ r. slice_index ready r ≤ c) (reads_of i)) is
    → Each (λ r. slice_index ready r ≤ c) (flat_map reads_of is)
all_reads ready c [] h = tt
all_reads ready c (i ∷ is) h = each_join (λ r. slice_index ready r ≤ c) (reads_of i) (flat_map reads_of is) h.0 (all_reads ready c is h.1)

-- where each register that is read can be read in the next cycle, the packet issues then
pub issues_next : (s : PacketState) (is : List Instr) → Each (λ i. Each (λ r. slice_index s.ready r ≤ s.cycle + 1) (reads_of i)) is
    → issue_cycle s is ≡ s.cycle + 1
issues_next s is h = fold_within s.ready (s.cycle + 1) (flat_map reads_of is) (all_reads s.ready (s.cycle + 1) is h)
