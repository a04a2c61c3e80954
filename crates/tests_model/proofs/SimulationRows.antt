-- Stops of a source run and of a packet run that agree, and pairs that do not; where the values of a start go.
use Rattle.std.specs.Prelude.{ℕ, ◌≡◌, List, [], ◌∷◌, ◌++◌, Some, None, codes, replicate, length, map, slice_index, slice_index_or}
use Rattle.std.proofs.Common.{refl, ap, arith, lit<}
use Rattle.un_isa.specs.declared.outcome.CallRecord.{CallRecord}
use Rattle.un_isa.specs.declared.start.Start.{Start}
use Rattle.un_isa.specs.Hexagon.{HEXAGON}
use Rattle.un_ir.specs.declared.function.Function.{Function}
use Rattle.un_ir.specs.Source.{SourceRun, SourceState, Returned, Trapped, Waiting, Running, first_state as first_values}
use Rattle.un_packet.specs.declared.code.CodeBlock.{CodeBlock}
use Rattle.un_packet.specs.declared.code.Code.{Code}
use Rattle.un_packet.specs.Run.{PacketRun}
use Rattle.un_packet.specs.Step.{PacketState, Returned as ReturnedTo, Trapped as TrappedAt, Waiting as WaitingFor}
use Rattle.un_simulation.specs.Simulation.{StopsAgree, Agrees, held_at}
use Rattle.un_simulation.specs.Count.{packets_under}

abbrev seen : List ℕ → ℕ → List (ℕ × ℕ) → CallRecord
seen name argument memory = record { name = name; args = argument ∷ []; memory = memory }

-- r16 is 44, the stack pointer 4096 and the link register 100
abbrev regs_with : ℕ → ℕ → List ℕ
regs_with saved stack = (5 ∷ 9 ∷ []) ++ replicate 14 0 ++ (saved ∷ []) ++ replicate 12 0 ++ (stack ∷ 0 ∷ 100 ∷ []) ++ replicate 4 0

abbrev start : Start
start = record { regs = regs_with 44 4096; memory = []; replies = []; well = refl }

abbrev state : List ℕ → PacketState
state regs = record {
  regs = regs;
  memory = [];
  frame = 7 ∷ 8 ∷ [];
  frame_start = 4088;
  calls = [];
  replies = [];
  cycle = 3;
  ready = [];
}

module _ (f : Function) (places : ℕ → ℕ → ℕ) (code : Code) (s : SourceState) where
  -- ---- both wait: for one call

  abbrev WaitFor : CallRecord → CallRecord → Type 0
  WaitFor call other = StopsAgree HEXAGON f places code start (Waiting call) s (WaitingFor other) (state [])

  same_call : WaitFor (seen (codes "h") 5 []) (seen (codes "h") 5 [])
  same_call = refl

  other_callee : WaitFor (seen (codes "h") 5 []) (seen (codes "g") 5 []) → ⊥
  other_callee h = let letter : 104 ≡ 103 = ap (λ (c : CallRecord). slice_index c.name 0) h in omega (arith, letter)

  other_argument : WaitFor (seen (codes "h") 5 []) (seen (codes "h") 6 []) → ⊥
  other_argument h = let argument : 5 ≡ 6 = ap (λ (c : CallRecord). slice_index c.args 0) h in omega (arith, argument)

  other_memory : WaitFor (seen (codes "h") 5 ((8, 1) ∷ [])) (seen (codes "h") 5 []) → ⊥
  other_memory h = let words : 1 ≡ 0 = ap (λ (c : CallRecord). length c.memory) h in omega (arith, words)

  -- ---- one kind of stop

  waits_alone : StopsAgree HEXAGON f places code start (Waiting (seen (codes "h") 5 [])) s TrappedAt (state []) → ⊥
  waits_alone h = h

  traps_alone : StopsAgree HEXAGON f places code start Trapped s (ReturnedTo 5 100) (state (regs_with 44 4096)) → ⊥
  traps_alone h = h

  runs_alone : StopsAgree HEXAGON f places code start (Running 1) s (ReturnedTo 5 100) (state (regs_with 44 4096)) → ⊥
  runs_alone h = h

  -- ---- returns: the result in r0, to the link register of the start, with r16 and the stack pointer as they were

  other_result : StopsAgree HEXAGON f places code start (Returned (Some 5)) s (ReturnedTo 6 100) (state (regs_with 44 4096)) → ⊥
  other_result h = let result : 6 ≡ 5 = h.0 in omega (arith, result)

  other_target : StopsAgree HEXAGON f places code start (Returned (Some 5)) s (ReturnedTo 5 101) (state (regs_with 44 4096)) → ⊥
  other_target h = let target : 101 ≡ 100 = h.1 in omega (arith, target)

  other_saved : StopsAgree HEXAGON f places code start (Returned None) s (ReturnedTo 5 100) (state (regs_with 45 4096)) → ⊥
  other_saved h = let saved : 45 ≡ 44 = h.2.saved 16 (lit< tt) refl in omega (arith, saved)

  other_stack : StopsAgree HEXAGON f places code start (Returned None) s (ReturnedTo 5 100) (state (regs_with 44 4088)) → ⊥
  other_stack h = let stack : 4088 ≡ 4096 = h.2.stack in omega (arith, stack)

-- ---- the same memory and the same calls, whatever the stop

abbrev source_at : List (ℕ × ℕ) → List CallRecord → SourceRun
source_at memory calls = record { stop = Trapped; state = record { values = []; memory = memory; calls = calls; replies = [] } }

abbrev packets_at : List (ℕ × ℕ) → List CallRecord → PacketRun
packets_at memory calls = record { stop = TrappedAt; state = record (state []) { memory = memory; calls = calls } }

module _ (f : Function) (places : ℕ → ℕ → ℕ) (code : Code) where
  other_words : Agrees HEXAGON f places code start (source_at ((8, 1) ∷ []) []) (packets_at ((8, 2) ∷ []) []) → ⊥
  other_words h = let word : 1 ≡ 2 = ap (λ (ws : List (ℕ × ℕ)). (slice_index_or ws 0 (0, 0)).1) h.memory in omega (arith, word)

  more_calls : Agrees HEXAGON f places code start (source_at [] (seen (codes "h") 5 [] ∷ [])) (packets_at [] []) → ⊥
  more_calls h = let count : 1 ≡ 0 = ap length h.calls in omega (arith, count)

-- registers, and behind them the words of the frame
places_hold : map (held_at (state (regs_with 44 4096))) (1 ∷ 16 ∷ 31 ∷ 36 ∷ 37 ∷ []) ≡ 9 ∷ 44 ∷ 100 ∷ 7 ∷ 8 ∷ []
places_hold = refl

-- the parameters are the first registers, and the other names 0
parameters : (f : Function) → length f.params ≡ 2 → length f.names ≡ 4 → (first_values f start).values ≡ 5 ∷ 9 ∷ 0 ∷ 0 ∷ []
parameters f params names = rw (params, names) refl

-- ---- counts

abbrev blocks : List CodeBlock
blocks =
    record { label = codes "e"; packets = [] }
    ∷ record { label = codes "k"; packets = record { instrs = [] } ∷ record { instrs = [] } ∷ [] }
    ∷ []

counts : packets_under blocks (codes "e") ∷ packets_under blocks (codes "k") ∷ packets_under blocks (codes "x") ∷ [] ≡ 0 ∷ 2 ∷ 0 ∷ []
counts = refl
