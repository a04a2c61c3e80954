-- How a step of the machine is told.
use Rattle.std.proofs.Common.{ℕ, zero, suc, ◌≡◌, ◌+◌, ◌<◌, ◌≤◌, List, [], ◌∷◌, length, get_or, slice_get, Option, Some, None, IsSomeAnd}
use Rattle.std.proofs.Common.{refl, ap, sym, ◌∙◌, subst, arith}
use Rattle.std.proofs.lemmas.Option.{slice_get_past, slice_get_within}
use Rattle.un_isa.specs.declared.outcome.End.{End}
use Rattle.un_packet.specs.declared.code.Packet.{Packet}
use Rattle.un_packet.specs.declared.code.CodeBlock.{CodeBlock}
use Rattle.un_packet.specs.declared.code.Code.{Code}
use Rattle.un_packet.specs.declared.machine.Stepped.{Stepped}
use Rattle.un_packet.specs.declared.machine.Stepped.TheVariants.{Left, Ended}
use Rattle.un_packet.specs.declared.machine.Stepped.TheVariants
use Rattle.un_packet.specs.Ends.{EndsBy}
use Rattle.un_packet.specs.Step.{PacketState, PacketStep, Went, Jumped, packet_step}
use Rattle.un_packet.specs.Run.{label_place}
use Rattle.un_packet.specs.Machine.{MachineState, moved, halted, IsInCode, IsPlace}
use Rattle.un_packet.specs.Outcomes.{IsPacketStep, IsStep, IsNext}

some_below : {X : Type 0} (P : X → Type 0) (xs : List X) (k : ℕ) (o : Option X) → slice_get xs k ≡ o → IsSomeAnd o P → k < length xs
some_below P xs k None e h = absurd h
some_below P xs k (Some x) e h = slice_get_within xs k x e

pub is_below : {X : Type 0} (P : X → Type 0) (xs : List X) (k : ℕ) → IsSomeAnd (slice_get xs k) P → k < length xs
is_below P xs k h = some_below P xs k (slice_get xs k) refl h

pub here : {X : Type 0} (xs : List X) (k : ℕ) (x : X) → k < length xs → x ≡ get_or xs k x → slice_get xs k ≡ Some x
here [] k x lt e = absurd (omega (arith, lt))
here (y ∷ ys) zero x lt e = ap Some (sym e)
here (y ∷ ys) (suc k) x lt e = here ys k x (omega (arith, lt)) e

-- an item that was read at a place
pub read_at : {X : Type 0} (xs shown : List X) (j k : ℕ) (x : X) → shown ≡ xs → k ≡ j → j < length xs → x ≡ get_or shown k x
    → slice_get xs j ≡ Some x
read_at xs shown j k x same at lt e = here xs j x lt (e ∙ rw (same, at) refl)

pub empty_step : (c : Code) (old new : MachineState) (answer : Stepped) (b : CodeBlock) → slice_get c.blocks old.block ≡ Some b
    → length b.packets ≤ old.place → answer ≡ Left (record { 0 = old.block + 1 }) → new ≡ moved old old.state (old.block + 1) 0
    → IsStep c old new answer
empty_step c old new answer b at past a n = rw (at, slice_get_past b.packets old.place past) (a, n)

pub one_step : (c : Code) (old new : MachineState) (answer : Stepped) (b : CodeBlock) (p : Packet) → slice_get c.blocks old.block ≡ Some b
    → slice_get b.packets old.place ≡ Some p → IsPacketStep c.blocks (length b.packets) old (packet_step old.table p.instrs old.state) new
    answer → IsStep c old new answer
one_step c old new answer b p at in_block h = rw (at, in_block) h

went_by : (blocks : List CodeBlock) (n : ℕ) (old new : MachineState) (s : PacketState) (answer : Stepped) (step : PacketStep)
    → step ≡ Went s → IsNext n (moved old s old.block old.place) new answer → IsPacketStep blocks n old step new answer
went_by blocks n old new s TheVariants.Went step e h = let state : new.state ≡ s = ap (λ (m : MachineState). m.state) h.1 in
    rw e (h.0, state, h.1 ∙ rw state refl)
went_by blocks n old new s (Left to) step e h = let state : new.state ≡ s = ap (λ (m : MachineState). m.state) h.2 in
    rw e (h.0, (h.1, state), h.2 ∙ rw (state, h.1) refl)
went_by blocks n old new s (Ended end) step e h = absurd h

pub went_step : (blocks : List CodeBlock) (n : ℕ) (old mid new : MachineState) (answer : Stepped) (step : PacketStep)
    → step ≡ Went mid.state → mid ≡ moved old mid.state old.block old.place → IsNext n mid new answer
    → IsPacketStep blocks n old step new answer
went_step blocks n old mid new answer step e stands h = went_by blocks n old new mid.state answer step e
    (subst (λ (m : MachineState). IsNext n m new answer) stands h)

pub jumped_step : (blocks : List CodeBlock) (n : ℕ) (old mid new : MachineState) (answer : Stepped) (step : PacketStep) (label : List ℕ)
    (to : ℕ) → step ≡ Jumped label mid.state → mid ≡ moved old mid.state old.block old.place → to ≡ label_place blocks label
    → answer ≡ Left (record { 0 = to }) → new ≡ moved mid mid.state to 0 → IsPacketStep blocks n old step new answer
jumped_step blocks n old mid new answer step label to e stands place a leaves =
    let s = mid.state in
    let left : new ≡ moved old s to 0 = leaves ∙ ap (λ (m : MachineState). moved m s to 0) stands in
    let state : new.state ≡ s = ap (λ (m : MachineState). m.state) left in
    rw (a, e) (tt, (place, state), left ∙ rw state refl)

pub stopped_step : (blocks : List CodeBlock) (n : ℕ) (old mid : MachineState) (end : End) (step : PacketStep)
    → EndsBy blocks step end mid.state → mid ≡ halted old mid.state → IsPacketStep blocks n old step mid (Ended end)
stopped_step blocks n old mid end step ends stands = (ends, stands)

-- what was read at the place of a machine v, which is the old one
pub at_block : (c : Code) (v old : MachineState) (shown : List CodeBlock) (b : CodeBlock) → v ≡ old → IsInCode c old → shown ≡ c.blocks
    → b ≡ get_or shown v.block b → slice_get c.blocks old.block ≡ Some b
at_block c v old shown b same place blocks e =
    read_at c.blocks shown old.block v.block b blocks (ap (λ (m : MachineState). m.block) same)
    (is_below (λ b. IsPlace b.packets old.place) c.blocks old.block place) e

pub at_packet : (b seen : CodeBlock) (shown : List Packet) (v old : MachineState) (p : Packet) → v ≡ old → b ≡ seen → shown ≡ seen.packets
    → v.place < length shown → p ≡ get_or shown v.place p → slice_get b.packets old.place ≡ Some p
at_packet b seen shown v old p same block packets lt e =
    let all : shown ≡ b.packets = packets ∙ ap (λ (x : CodeBlock). x.packets) (sym block) in
    let place : v.place ≡ old.place = ap (λ (m : MachineState). m.place) same in
    let short : old.place < length b.packets = rw (← all, ← place) lt in
    read_at b.packets shown old.place v.place p all place short e

pub empty_told : (c : Code) (v old new : MachineState) (answer : Stepped) (b seen : CodeBlock) (shown : List Packet) → v ≡ old → b ≡ seen
    → slice_get c.blocks old.block ≡ Some b → shown ≡ seen.packets → length shown ≤ v.place → answer ≡ Left (record { 0 = v.block + 1 })
    → new ≡ moved old old.state (v.block + 1) 0 → IsStep c old new answer
empty_told c v old new answer b seen shown same block at packets past a n =
    let all : shown ≡ b.packets = packets ∙ ap (λ (x : CodeBlock). x.packets) (sym block) in
    let place : v.place ≡ old.place = ap (λ (m : MachineState). m.place) same in
    let number : v.block ≡ old.block = ap (λ (m : MachineState). m.block) same in
    let behind : length b.packets ≤ old.place = rw (← all, ← place) past in
    empty_step c old new answer b at behind (a ∙ rw number refl) (n ∙ rw number refl)
