-- What the rules of code give to the machine.
use Rattle.std.proofs.Common.{ℕ, ℤ, zero, suc, ◌≡◌, ◌+◌, ◌<◌, ◌≤◌, Bool, true, false, List, [], ◌∷◌, length, map, get_or, slice_get, Option}
use Rattle.std.proofs.Common.{Some, None, IsSomeAnd, All, find, refl, ap, subst, arith, ◌^◌}
use Rattle.std.specs.Prelude.{◌||◌, sum_by, unwrap_or, Contains, nat_eq, if◌then◌else◌}
use Rattle.std.specs.Bool.{OnTrue}
use Rattle.std.specs.List.{list_any}
use Rattle.std.specs.Cmp.Lexicographic.{pointwise}
use Rattle.std.proofs.Math.Logic.{∥∥₁_elim}
use Rattle.std.proofs.Math.Bridge.{le_prop}
use Rattle.std.proofs.Math.Dec.{T_prop}
use Rattle.std.proofs.lemmas.Bool.{OnTrue_at}
use Rattle.std.proofs.lemmas.Bool.Decides.{nat_tests}
use Rattle.std.proofs.lemmas.List.{length-map}
use Rattle.std.proofs.lemmas.List.Sums.{get_or-le-sum_by}
use Rattle.std.proofs.lemmas.Option.{get_or_from_slice_get, slice_get_within}
use Rattle.un_lists.specs.Exactness.{list_reflexive}
use Rattle.un_isa.specs.declared.facts.Range.{Range}
use Rattle.un_isa.specs.declared.facts.Range.TheVariants.{Unsigned5}
use Rattle.un_isa.specs.declared.op.Op.{Op}
use Rattle.un_isa.specs.declared.op.Op.TheVariants.{Call, Enter, Leave}
use Rattle.un_isa.specs.declared.does.Does.{Does}
use Rattle.un_isa.specs.declared.does.Does.TheVariants.{Calls, Jumps, Returns}
use Rattle.un_isa.specs.declared.does.When.TheVariants.{Always, IfTrue, IfFalse, IfNewTrue, IfNewFalse}
use Rattle.un_isa.specs.declared.reg.Reg.{Reg}
use Rattle.un_isa.specs.declared.instr.Instr.{Instr}
use Rattle.un_isa.specs.declared.start.Reply.{Reply}
use Rattle.un_isa.specs.declared.table.Table.{Table}
use Rattle.un_isa.specs.Facts.{does_of, literal_range, operand_spaces}
use Rattle.un_isa.specs.Hexagon.{HEXAGON}
use Rattle.un_isa.specs.Registers.{space_of}
use Rattle.un_isa.specs.Operands.{IsLiteralOf, IsShift, IsShiftOf}
use Rattle.un_isa.specs.Does.{calls, jumps as jumps_to, returns, leaves_always, is_jump, is_leaving, is_call, is_return}
use Rattle.un_packet.specs.declared.code.Packet.{Packet}
use Rattle.un_packet.specs.declared.code.CodeBlock.{CodeBlock}
use Rattle.un_packet.specs.CodeRules.{KeepsRules, IsGoodCodeBlock, IsGoodPacket, IsGoodInstr, HasItsNumber, HasLabelOf, ReadsItsSpaces}
use Rattle.un_packet.specs.CodeRules.{IsThere, IsSomeName, LeadsToOneOf, labels_of, leaves, EndsByLeaving}
use Rattle.un_packet.specs.Machine.{LeadsTo}
use Rattle.un_packet.specs.Run.{packets_run, then_packets, label_place}
use Rattle.un_packet.specs.Runnable.{IsRunnable, AreRunnable}
use Rattle.un_packet.specs.Step.{PacketState, PacketStep, Went, Jumped, Stopped, Trapped, traps, packet_step, with_call, leads, jumps}
use Rattle.un_packet.specs.Step.{goes_by, operand_in, operand_of, regs_after, after, answered, issue_cycle, record_of}

pub at_all : {X : Type 0} (P : X → Type 0) (xs : List X) (k : ℕ) (x : X) → All P xs → slice_get xs k ≡ Some x → P x
at_all P [] k x h e = absurd (cc e)
at_all P (y ∷ ys) zero x h e = let same : y ≡ x = cc e in subst P same (h 0 y (omega arith))
at_all P (y ∷ ys) (suc k) x h e = at_all P ys k x (λ j d lt. h (suc j) d (omega arith)) e

all_from : {X : Type 0} (P Q : X → Type 0) → ((x : X) → P x → Q x) → (xs : List X) → All P xs → All Q xs
all_from P Q f xs h k d lt = f (get_or xs k d) (h k d lt)

-- ---- instructions

shift_in : (range : Option Range) (n : ℤ) → IsLiteralOf range n → IsShiftOf range n
shift_in None n h = tt
shift_in (Some Unsigned5) n h = h
shift_in (Some _) n h = tt

shift_of : (frame : ℕ) (op : Op) (n : ℤ) → HasItsNumber frame op n → IsShift op n
shift_of frame Enter n h = tt
shift_of frame Leave n h = tt
shift_of frame op n h = shift_in (literal_range op) n h

few_of : (op : Op) (srcs : List Reg) → ReadsItsSpaces op srcs → length srcs ≤ 6
few_of Call srcs h = h.1
few_of op srcs h = let e : length (map (λ (r : Reg). space_of r.0) srcs) ≡ length (operand_spaces op) = ap length h in let m =
    length-map srcs (λ (r : Reg). space_of r.0) in omega (arith, e, m)

is_there : (label : Option (List ℕ)) → IsSomeName label → IsThere label
is_there None h = h
is_there (Some name) h = tt

label_of : (does : Does) (label : Option (List ℕ)) → HasLabelOf does label → OnTrue (calls does || jumps_to does) (IsThere label)
label_of Calls label h = is_there label h
label_of (Jumps when) label h = is_there label h
label_of _ label h = tt

runnable : (frame : ℕ) (i : Instr) → IsGoodInstr frame i → IsRunnable i
runnable frame i h = record {
  shift = shift_of frame i.op i.imm h.literal;
  few = few_of i.op i.srcs h.reads;
  label =
      label_of (does_of i.op) i.label h.label;
}

shift_prop : (range : Option Range) (n : ℤ) → IsProp (IsShiftOf range n)
shift_prop None n = hlevel (le_prop, T_prop)
shift_prop (Some Unsigned5) n = hlevel (le_prop, T_prop)
shift_prop (Some _) n = hlevel (le_prop, T_prop)

there_prop : {X : Type 0} (o : Option X) → IsProp (IsThere o)
there_prop None = hlevel (le_prop, T_prop)
there_prop (Some x) = hlevel (le_prop, T_prop)

on_prop : (b : Bool) (P : Type 0) → IsProp P → IsProp (OnTrue b P)
on_prop true P h = h
on_prop false P h = hlevel (le_prop, T_prop)

runnable_prop : (i : Instr) → IsProp (IsRunnable i)
runnable_prop i = hlevel (
  shift_prop (literal_range i.op) i.imm,
  on_prop (is_call i.op || is_jump i.op) (IsThere i.label)
      (there_prop i.label),
  le_prop,
)

-- ---- where packets lead

head_none : {X : Type 0} (p : X → Bool) (x : X) (xs : List X) (b : Bool) → p x ≡ b → find p (x ∷ xs) ≡ None → (p x ≡ false)
    × (find p xs ≡ None)
head_none p x xs true e h = absurd (let k = rw e at h in cc k)
head_none p x xs false e h = let k = rw e at h in (e, k)

not_leaving : (does : Does) (v w : ℕ) → returns does ≡ false → goes_by does v w ≡ false → leaves_always does ≡ false
not_leaving (Jumps Always) v w r j = absurd (cc j)
not_leaving (Jumps IfTrue) v w r j = refl
not_leaving (Jumps IfFalse) v w r j = refl
not_leaving (Jumps IfNewTrue) v w r j = refl
not_leaving (Jumps IfNewFalse) v w r j = refl
not_leaving Returns v w r j = absurd (cc r)
not_leaving _ v w r j = refl

-- by the state before a packet and the registers behind its writes
none_leaves : (s : PacketState) (new : List ℕ) (is : List Instr) → find (λ (i : Instr). is_return i.op) is ≡ None
    → find (jumps s new) is ≡ None → list_any (λ (i : Instr). is_leaving i.op) is ≡ false
none_leaves s new [] r j = refl
none_leaves s new (i ∷ is) r j =
    let a = head_none (λ (i : Instr). is_return i.op) i is (is_return i.op) refl r in
    let b = head_none (jumps s new) i is (jumps s new i) refl j in
    rw (not_leaving (does_of i.op) (operand_in s i 0) (operand_of new i 0) a.0 b.0) (none_leaves s new is a.1 b.1)

-- what a packet's step may be, where its jumps lead to one of the labels
abbrev IsInside : List (List ℕ) → List Instr → PacketStep → Type 0
IsInside labels is (Went s) = list_any (λ (i : Instr). is_leaving i.op) is ≡ false
IsInside labels is (Jumped label s) = Contains labels label
IsInside labels is (Stopped stop s) = Unit {0}

found_by : (labels : List (List ℕ)) (s : PacketState) (new : List ℕ) (j : Instr) (js : List Instr) (i : Instr) (b : Bool)
    → jumps s new j ≡ b → LeadsToOneOf labels j → find (jumps s new) (j ∷ js) ≡ Some i
    → (find (jumps s new) js ≡ Some i → LeadsToOneOf labels i × (jumps s new i ≡ true)) → LeadsToOneOf labels i × (jumps s new i ≡ true)
found_by labels s new j js i true e one f more = let k = rw e at f in let same : j ≡ i = cc k in rw (← same) (one, e)
found_by labels s new j js i false e one f more = let k = rw e at f in more k

found_jump : (labels : List (List ℕ)) (s : PacketState) (new : List ℕ) (is : List Instr) (i : Instr) → All (LeadsToOneOf labels) is
    → find (jumps s new) is ≡ Some i → LeadsToOneOf labels i × (jumps s new i ≡ true)
found_jump labels s new [] i all f = absurd (cc f)
found_jump labels s new (j ∷ js) i all f = found_by labels s new j js i (jumps s new j) refl (all 0 j (omega arith)) f
    (found_jump labels s new js i (λ n d lt. all (suc n) d (omega arith)))

jumping : (does : Does) (v w : ℕ) → goes_by does v w ≡ true → jumps_to does ≡ true
jumping (Jumps when) v w h = refl
jumping _ v w h = absurd (cc h)

label_in : (labels : List (List ℕ)) (o : Option (List ℕ)) → IsSomeAnd o (Contains labels) → Contains labels (unwrap_or o [])
label_in labels None h = absurd h
label_in labels (Some label) h = h

leads_in : (labels : List (List ℕ)) (s u : PacketState) (is : List Instr) → All (LeadsToOneOf labels) is → (r j : Option Instr)
    → find (λ (i : Instr). is_return i.op) is ≡ r → find (jumps s (regs_after s is s.regs)) is ≡ j → IsInside labels is (leads r s is u)
leads_in labels s u is all (Some i) j er ej = tt
leads_in labels s u is all None None er ej = rw ej (none_leaves s (regs_after s is s.regs) is er ej)
leads_in labels s u is all None (Some i) er ej =
    let new = regs_after s is s.regs in
    let f = found_jump labels s new is i all ej in
    rw ej (label_in labels i.label (OnTrue_at (jumping (does_of i.op) (operand_in s i 0) (operand_of new i 0) f.1) f.0))

with_in : (t : Table) (labels : List (List ℕ)) (s : PacketState) (is : List Instr) → All (LeadsToOneOf labels) is
    → (call : Option Instr) (replies : List Reply) → IsInside labels is (with_call t call replies s is)
with_in t labels s is all None replies = leads_in labels s (after t (issue_cycle s is) s is) is all
    (find (λ (i : Instr). is_return i.op) is) (find (jumps s (regs_after s is s.regs)) is) refl refl
with_in t labels s is all (Some call) [] = tt
with_in t labels s is all (Some call) (reply ∷ rest) = leads_in labels s
    (answered t (record_of s call) reply rest (after t (issue_cycle s is) s is)) is all (find (λ (i : Instr). is_return i.op) is)
    (find (jumps s (regs_after s is s.regs)) is) refl refl

packet_in : (t : Table) (labels : List (List ℕ)) (s : PacketState) (is : List Instr) → All (LeadsToOneOf labels) is
    → IsInside labels is (packet_step t is s)
packet_in t labels s is all =
    elim (list_any (traps s) is) as (λ b. IsInside labels is (if b then Stopped Trapped s else with_call t
    (find (λ (i : Instr). is_call i.op) is) s.replies s is)) [
      | true ↦ tt
      | false ↦ with_in t labels s is all (find (λ (i : Instr). is_call i.op) is) s.replies
    ]

abbrev HaveTargets : List (List ℕ) → List Packet → Type 0
HaveTargets labels ps = All (λ (p : Packet). All (LeadsToOneOf labels) p.instrs) ps

rest_targets : (labels : List (List ℕ)) (p : Packet) (ps : List Packet) → HaveTargets labels (p ∷ ps) → HaveTargets labels ps
rest_targets labels p ps h k d lt = h (suc k) d (omega arith)

-- packets that jump lead to a label; those whose last one leaves do not go on
abbrev AreInside : List (List ℕ) → List Packet → PacketStep → Type 0
AreInside labels ps (Went s) = (k : ℕ) → k + 1 ≡ length ps → IsSomeAnd (slice_get ps k) (λ p. leaves p ≡ false)
AreInside labels ps (Jumped label s) = Contains labels label
AreInside labels ps (Stopped stop s) = Unit {0}

one_packet : (p : Packet) → leaves p ≡ false → (k : ℕ) → k + 1 ≡ 1 → IsSomeAnd (slice_get (p ∷ []) k) (λ p. leaves p ≡ false)
one_packet p h zero e = h
one_packet p h (suc k) e = absurd (omega (arith, e))

more_packets : (p q : Packet) (qs : List Packet) → ((k : ℕ) → k + 1 ≡ length (q ∷ qs)
    → IsSomeAnd (slice_get (q ∷ qs) k) (λ p. leaves p ≡ false)) → (k : ℕ) → k + 1 ≡ length (p ∷ q ∷ qs)
    → IsSomeAnd (slice_get (p ∷ q ∷ qs) k) (λ p. leaves p ≡ false)
more_packets p q qs g zero e = absurd (omega (arith, e))
more_packets p q qs g (suc k) e = g k (omega (arith, e))

module _ (t : Table) (labels : List (List ℕ)) where
  onward : (p q : Packet) (qs : List Packet) (step : PacketStep) → AreInside labels (q ∷ qs) step → AreInside labels (p ∷ q ∷ qs) step
  onward p q qs (Stopped stop s) g = tt
  onward p q qs (Jumped label s) g = g
  onward p q qs (Went s) g = more_packets p q qs g

  then_in : (p : Packet) (ps : List Packet) (one : PacketStep) → IsInside labels p.instrs one
      → ((s : PacketState) → AreInside labels ps (packets_run t ps s)) → AreInside labels (p ∷ ps) (then_packets one (packets_run t ps))
  then_in p ps (Stopped stop s) h more = tt
  then_in p ps (Jumped label s) h more = h
  then_in p [] (Went s) h more = one_packet p h
  then_in p (q ∷ qs) (Went s) h more = onward p q qs (packets_run t (q ∷ qs) s) (more s)

  packets_in : (ps : List Packet) → HaveTargets labels ps → (s : PacketState) → AreInside labels ps (packets_run t ps s)
  packets_in [] h s = λ k e. absurd (omega (arith, e))
  packets_in (p ∷ ps) h s = then_in p ps (packet_step t p.instrs s) (packet_in t labels s p.instrs (h 0 p (omega arith)))
      (packets_in ps (rest_targets labels p ps h))

-- ---- labels

placed_by : (b : CodeBlock) (bs : List CodeBlock) (label : List ℕ) (test : Bool) → pointwise nat_eq b.label label ≡ test
    → (test ≡ false → label_place bs label < length bs) → label_place (b ∷ bs) label < length (b ∷ bs)
placed_by b bs label true h more = rw h (omega arith)
placed_by b bs label false h more = let rest = more refl in rw h (omega (arith, rest))

placed : (blocks : List CodeBlock) (label : List ℕ) (k : ℕ) → k < length (labels_of blocks) → get_or (labels_of blocks) k label ≡ label
    → label_place blocks label < length blocks
placed [] label k lt e = absurd (omega (arith, lt))
placed (b ∷ bs) label zero lt e =
    let same : pointwise nat_eq b.label label ≡ true = rw e (list_reflexive nat_eq (λ n. grind (arith, nat_tests)) label) in
    placed_by b bs label true same (λ h. absurd (cc h))
placed (b ∷ bs) label (suc k) lt e = placed_by b bs label (pointwise nat_eq b.label label) refl
    (λ h. placed bs label k (omega (arith, lt)) e)

-- ---- code

not_last : (block : CodeBlock) → ((k : ℕ) → k + 1 ≡ length block.packets → IsSomeAnd (slice_get block.packets k) (λ p. leaves p ≡ false))
    → EndsByLeaving block → ⊥
not_last block h (k, long, e) = clash (slice_get block.packets k) (h k long) e
  where
    clash : (o : Option Packet) → IsSomeAnd o (λ p. leaves p ≡ false) → IsSomeAnd o (λ p. leaves p ≡ true) → ⊥
    clash None a b = absurd a
    clash (Some p) a b = cc

module _ (t : Table) (frame : ℕ) (blocks : List CodeBlock) (kept : KeepsRules frame blocks) (b : ℕ) (block : CodeBlock)
    (at : slice_get blocks b ≡ Some block) (below : b < length blocks) where
  good : IsGoodCodeBlock frame (labels_of blocks) block
  good = at_all (IsGoodCodeBlock frame (labels_of blocks)) blocks b block kept.good_blocks at

  next_inside : ((k : ℕ) → k + 1 ≡ length block.packets → IsSomeAnd (slice_get block.packets k) (λ p. leaves p ≡ false))
      → b + 1 < length blocks
  next_inside h = grind (arith, not_inside)
    where
      not_inside : b + 1 ≡ length blocks → ⊥
      not_inside e = not_last block h (let l = rw at at (kept.last b e) in l)

  leads_inside : (step : PacketStep) (to : ℕ) (new : PacketState) → AreInside (labels_of blocks) block.packets step
      → LeadsTo blocks b step to new → to < length blocks
  leads_inside (Went s) to new h l = rw (l.0) (next_inside h)
  leads_inside (Jumped label s) to new h l = rw (l.0) (placed blocks label h.0 h.1 h.2)
  leads_inside (Stopped stop s) to new h l = absurd l

  run_inside : (s : PacketState) (to : ℕ) (new : PacketState) → LeadsTo blocks b (packets_run t block.packets s) to new → to < length blocks
  run_inside s to new l = leads_inside (packets_run t block.packets s) to new (packets_in t (labels_of blocks) block.packets good.targets s)
      l

  all_run : (k : ℕ) (p : Packet) → slice_get block.packets k ≡ Some p → AreRunnable p.instrs
  all_run k p e = all_from (IsGoodInstr frame) IsRunnable (runnable frame) p.instrs
      (at_all (IsGoodPacket frame) block.packets k p good.packets e).instrs

length_in_sum : (blocks : List CodeBlock) (b : ℕ) (block : CodeBlock) → slice_get blocks b ≡ Some block
    → length block.packets ≤ sum_by (λ (x : CodeBlock). length x.packets) blocks
length_in_sum blocks b block e =
    subst (λ (x : CodeBlock). length x.packets ≤ sum_by (λ (x : CodeBlock). length x.packets) blocks)
    (get_or_from_slice_get blocks b block block e)
    (get_or-le-sum_by (λ (x : CodeBlock). length x.packets) blocks b block (slice_get_within blocks b block e))

-- what code keeps, seen from the machine
module _ (frame : ℕ) (blocks : List CodeBlock) (rules : ∥ KeepsRules frame blocks ∥₁) where
  pub few_blocks : length blocks < 2 ^ 28
  few_blocks = ∥∥₁_elim rules le_prop (λ k. k.few_blocks)

  pub some_blocks : 0 < length blocks
  some_blocks = ∥∥₁_elim rules le_prop (λ k. k.some)

  pub few_packets : (b : ℕ) (block : CodeBlock) → slice_get blocks b ≡ Some block → length block.packets < 2 ^ 28
  few_packets b block e = ∥∥₁_elim rules le_prop (λ k. let few = k.few_packets in let more = length_in_sum blocks b block e in
      omega (arith, few, more))

  pub runs : (b k : ℕ) (block : CodeBlock) (p : Packet) → slice_get blocks b ≡ Some block → b < length blocks
      → slice_get block.packets k ≡ Some p → AreRunnable p.instrs
  runs b k block p at below e = ∥∥₁_elim rules (hlevel runnable_prop) (λ kept. all_run HEXAGON frame blocks kept b block at below k p e)

  pub stays : (t : Table) (b : ℕ) (block : CodeBlock) (s : PacketState) (to : ℕ) (new : PacketState) → slice_get blocks b ≡ Some block
      → b < length blocks → LeadsTo blocks b (packets_run t block.packets s) to new → to < length blocks
  stays t b block s to new at below l = ∥∥₁_elim rules le_prop (λ kept. run_inside t frame blocks kept b block at below s to new l)
