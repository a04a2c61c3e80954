-- The bound of the cycles from which registers can be read.
use Rattle.std.proofs.Common.{ℕ, zero, suc, ◌+◌, ◌≤◌, max, Bool, true, false, List, [], ◌∷◌, map, set, replicate, slice_index, arith}
use Rattle.std.specs.Prelude.{if◌then◌else◌}
use Rattle.std.specs.List.{fold, flat_map}
use Rattle.un_isa.specs.declared.op.Op.TheVariants.{Call}
use Rattle.un_isa.specs.declared.instr.Instr.{Instr}
use Rattle.un_isa.specs.declared.table.Table.{Table}
use Rattle.un_isa.specs.Tables.{latency_of, in_mask}
use Rattle.un_isa.specs.Fit.{IsFit}
use Rattle.un_packet.specs.Cycles.{IsReadyBy}
use Rattle.un_packet.specs.Step.{PacketState, put_all, writes_of, ready_after, issue_cycle, reads_of, each_from, call_ready}

set_by : (b : ℕ) (xs : List ℕ) (k v : ℕ) → IsReadyBy b xs → v ≤ b → IsReadyBy b (set xs k v)
set_by b [] k v h small r = h r
set_by b (x ∷ xs) zero v h small zero = small
set_by b (x ∷ xs) zero v h small (suc r) = h (suc r)
set_by b (x ∷ xs) (suc k) v h small zero = h zero
set_by b (x ∷ xs) (suc k) v h small (suc r) = set_by b xs k v (λ q. h (suc q)) small r

put_by : (b v : ℕ) (ws : List (ℕ × ℕ)) (xs : List ℕ) → IsReadyBy b xs → v ≤ b → IsReadyBy b (put_all (map (λ (w : ℕ × ℕ). (w.0, v)) ws) xs)
put_by b v [] xs h small = h
put_by b v (w ∷ ws) xs h small = put_by b v ws (set xs w.0 v) (set_by b xs w.0 v h small) small

after_by : (b : ℕ) (t : Table) (c : ℕ) (s : PacketState) (is : List Instr) (xs : List ℕ) → IsFit t → c + 2 ≤ b → IsReadyBy b xs
    → IsReadyBy b (ready_after t c s is xs)
after_by b t c s [] xs fit room h = h
after_by b t c s (i ∷ is) xs fit room h =
    let short = (fit.latencies i.op).1 in
    after_by b t c s is _ fit room (put_by b (c + latency_of t i.op) (writes_of s i) xs h (omega (arith, short)))

-- the latest of numbers
most : (b a : ℕ) (f : ℕ → ℕ) (xs : List ℕ) → a ≤ b → ((k : ℕ) → f k ≤ b) → fold max a (map f xs) ≤ b
most b a f [] first h = first
most b a f (x ∷ xs) first h = most b (max a (f x)) f xs (omega (arith, h x)) h

least : (a : ℕ) (f : ℕ → ℕ) (xs : List ℕ) → a ≤ fold max a (map f xs)
least a f [] = omega arith
least a f (x ∷ xs) = let more = least (max a (f x)) f xs in omega (arith, more)

-- the cycle in which a packet issues
pub record IsSoon (s : PacketState) (is : List Instr) : Type 0 where
  pub later : s.cycle + 1 ≤ issue_cycle s is
  pub soon : issue_cycle s is ≤ s.cycle + 2

pub soon : (s : PacketState) (is : List Instr) → IsReadyBy (s.cycle + 2) s.ready → IsSoon s is
soon s is h = record {
  later = least (s.cycle + 1) (slice_index s.ready) (flat_map reads_of is);
  soon = most (s.cycle + 2) (s.cycle + 1) (slice_index s.ready) (flat_map reads_of is) (omega arith) h;
}

looser : (a b : ℕ) (xs : List ℕ) → a ≤ b → IsReadyBy a xs → IsReadyBy b xs
looser a b xs less h r = omega (arith, h r)

pub still_ready : (t : Table) (s : PacketState) (is : List Instr) → IsFit t → IsReadyBy (s.cycle + 2) s.ready
    → IsReadyBy (issue_cycle s is + 2) (ready_after t (issue_cycle s is) s is s.ready)
still_ready t s is fit h =
    let c = issue_cycle s is in
    let facts = soon s is h in
    after_by (c + 2) t c s is s.ready fit (omega arith) (looser (s.cycle + 2) (c + 2) s.ready (omega (arith, facts.later)) h)

pub none_waits : (b n : ℕ) → IsReadyBy b (replicate n 0)
none_waits b zero r = omega arith
none_waits b (suc n) zero = omega arith
none_waits b (suc n) (suc r) = none_waits b n r

each_by : (b : ℕ) (f : ℕ → ℕ → ℕ) → ((r v : ℕ) → v ≤ b → f r v ≤ b) → (r : ℕ) (xs : List ℕ) → IsReadyBy b xs
    → IsReadyBy b (each_from f r xs)
each_by b f h r [] small k = omega arith
each_by b f h r (x ∷ xs) small zero = h r x (small zero)
each_by b f h r (x ∷ xs) small (suc k) = each_by b f h (r + 1) xs (λ q. small (suc q)) k

call_by : (t : Table) (c v : ℕ) (is_in : Bool) → latency_of t Call ≤ 2 → v ≤ c + 2 → (if is_in then c + latency_of t Call else v) ≤ c + 2
call_by t c v true short h = omega arith
call_by t c v false short h = h

pub ready_by_call : (t : Table) (c : ℕ) (xs : List ℕ) → IsFit t → IsReadyBy (c + 2) xs → IsReadyBy (c + 2) (each_from (call_ready t c) 0 xs)
ready_by_call t c xs fit h = each_by (c + 2) (call_ready t c) (λ r v small. call_by t c v (in_mask t.clobbered r) ((fit.latencies Call).1)
    small) 0 xs h
