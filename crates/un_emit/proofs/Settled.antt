-- The state that a packet leaves which neither traps nor waits, register by register: with a call's reply or without a call.
use Rattle.std.proofs.Common.{ℕ, ◌≡◌, ◌≢◌, ◌<◌, ◌+◌, Bool, true, false, List, [], ◌∷◌, length, get_or, refl, ap, ◌∙◌, arith}
use Rattle.std.specs.Prelude.{Option, Some, None, nat_eq, if◌then◌else◌}
use Rattle.std.specs.List.{list_any, find}
use Rattle.std.proofs.lemmas.Bool.{eq-eqb}
use Rattle.un_isa.specs.Tables.{latency_of, in_mask}
use Rattle.un_isa.specs.declared.op.Op.TheVariants.{Call}
use Rattle.un_isa.specs.declared.instr.Instr.{Instr}
use Rattle.un_isa.specs.declared.table.Table.{Table}
use Rattle.un_isa.specs.declared.start.Reply.{Reply}
use Rattle.un_isa.specs.Does.{is_call, is_return}
use Rattle.un_packet.specs.Step.{PacketState, Stopped, Trapped, after, answered, record_of, issue_cycle, regs_after}
use Rattle.un_packet.specs.Step.{ready_after, traps, packet_step, with_call, leads, operand_in, replied, call_ready}
use Rattle.un_lists.proofs.Lists.{Each, Member}
use Rattle.un_emit.proofs.Packet.{puts, target, given, slot, AreApart, length-puts, puts_other, puts_own, regs_are_put, ready_is_put}
use Rattle.un_emit.proofs.Packet.{frame_is_put, replied_at, length-replied, call_ready_at, length-call_ready}

-- the call of a packet has a reply
abbrev pub CanAnswer : Option Instr → List Reply → Type 0
CanAnswer None replies = Unit {0}
CanAnswer (Some call) [] = ⊥
CanAnswer (Some call) (reply ∷ rest) = Unit {0}

-- the state after the packet and the reply of its call
abbrev pub settled : Table → Option Instr → List Reply → PacketState → List Instr → PacketState
settled t None replies s is = after t (issue_cycle s is) s is
settled t (Some call) [] s is = s
settled t (Some call) (reply ∷ rest) s is = answered t (record_of s call) reply rest (after t (issue_cycle s is) s is)

abbrev pub the_call : List Instr → Option Instr
the_call is = find (λ (i : Instr). is_call i.op) is

abbrev pub the_return : List Instr → Option Instr
the_return is = find (λ (i : Instr). is_return i.op) is

-- a packet without a trap whose call, if any, has a reply
pub leads_on : (t : Table) (o : Option Instr) (replies : List Reply) (s : PacketState) (is : List Instr) → CanAnswer o replies
    → with_call t o replies s is ≡ leads (the_return is) s is (settled t o replies s is)
leads_on t None replies s is h = refl
leads_on t (Some call) [] s is h = absurd h
leads_on t (Some call) (reply ∷ rest) s is h = refl

pub step_settles : (t : Table) (s : PacketState) (is : List Instr) → list_any (traps s) is ≡ false → CanAnswer (the_call is) s.replies
    → packet_step t is s ≡ leads (the_return is) s is (settled t (the_call is) s.replies s is)
step_settles t s is h k =
    ap (λ (b : Bool). if b then Stopped Trapped s else with_call t (the_call is) s.replies s is) h
    ∙ leads_on t (the_call is) s.replies s is k

-- a register that the packet's call clobbers
abbrev pub clobbered_by : Table → Option Instr → ℕ → Bool
clobbered_by t None r = false
clobbered_by t (Some call) r = in_mask t.clobbered r

-- ---- what a call does not change

pub settled_cycle : (t : Table) (o : Option Instr) (replies : List Reply) (s : PacketState) (is : List Instr) → CanAnswer o replies
    → (settled t o replies s is).cycle ≡ issue_cycle s is
settled_cycle t None replies s is h = refl
settled_cycle t (Some call) [] s is h = absurd h
settled_cycle t (Some call) (reply ∷ rest) s is h = refl

pub settled_frame : (t : Table) (o : Option Instr) (replies : List Reply) (s : PacketState) (is : List Instr) → CanAnswer o replies
    → (settled t o replies s is).frame ≡ puts (slot s) (λ i. operand_in s i 0) is s.frame
settled_frame t None replies s is h = frame_is_put s is s.frame
settled_frame t (Some call) [] s is h = absurd h
settled_frame t (Some call) (reply ∷ rest) s is h = frame_is_put s is s.frame

pub settled_frame_start : (t : Table) (o : Option Instr) (replies : List Reply) (s : PacketState) (is : List Instr) → CanAnswer o replies
    → (settled t o replies s is).frame_start ≡ s.frame_start
settled_frame_start t None replies s is h = refl
settled_frame_start t (Some call) [] s is h = absurd h
settled_frame_start t (Some call) (reply ∷ rest) s is h = refl

-- ---- when registers can be read

pub length-settled_ready : (t : Table) (o : Option Instr) (replies : List Reply) (s : PacketState) (is : List Instr) → CanAnswer o replies
    → length (settled t o replies s is).ready ≡ length s.ready
length-settled_ready t None replies s is h = ap length (ready_is_put t (issue_cycle s is) s is s.ready)
    ∙ length-puts target (λ i. issue_cycle s is + latency_of t i.op) is s.ready
length-settled_ready t (Some call) [] s is h = absurd h
length-settled_ready t (Some call) (reply ∷ rest) s is h =
    length-call_ready t (issue_cycle s is) 0 (ready_after t (issue_cycle s is) s is s.ready)
    ∙ ap length (ready_is_put t (issue_cycle s is) s is s.ready) ∙ length-puts target (λ i. issue_cycle s is + latency_of t i.op) is s.ready

-- the number that the packet's instructions leave at a register
abbrev written_ready : Table → PacketState → List Instr → List ℕ
written_ready t s is = puts target (λ i. issue_cycle s is + latency_of t i.op) is s.ready

not_clobbered : (t : Table) (c r v : ℕ) (q : ℕ) → q ≡ r → in_mask t.clobbered r ≡ false → call_ready t c q v ≡ v
not_clobbered t c r v q e h = let k : in_mask t.clobbered q ≡ false = ap (in_mask t.clobbered) e ∙ h in rw k refl

is_clobbered : (t : Table) (c r v : ℕ) (q : ℕ) → q ≡ r → in_mask t.clobbered r ≡ true → call_ready t c q v ≡ c + latency_of t Call
is_clobbered t c r v q e h = let k : in_mask t.clobbered q ≡ true = ap (in_mask t.clobbered) e ∙ h in rw k refl

ready_unclobbered : (t : Table) (o : Option Instr) (replies : List Reply) (s : PacketState) (is : List Instr) (r : ℕ) → CanAnswer o replies
    → r < length s.ready → clobbered_by t o r ≡ false
    → get_or (settled t o replies s is).ready r 0 ≡ get_or (written_ready t s is) r 0
ready_unclobbered t None replies s is r h lt k = ap (λ xs. get_or xs r 0) (ready_is_put t (issue_cycle s is) s is s.ready)
ready_unclobbered t (Some call) [] s is r h lt k = absurd h
ready_unclobbered t (Some call) (reply ∷ rest) s is r h lt k =
    let c = issue_cycle s is in
    let e = ready_is_put t c s is s.ready in
    let long = ap length e ∙ length-puts target (λ i. c + latency_of t i.op) is s.ready in
    let lt' : r < length (ready_after t c s is s.ready) = omega arith in
    call_ready_at t c 0 r (ready_after t c s is s.ready) lt'
    ∙ not_clobbered t c r (get_or (ready_after t c s is s.ready) r 0) (0 + r) (omega arith) k
    ∙ ap (λ xs. get_or xs r 0) e

pub ready_kept : (t : Table) (o : Option Instr) (replies : List Reply) (s : PacketState) (is : List Instr) (r : ℕ) → CanAnswer o replies
    → r < length s.ready → clobbered_by t o r ≡ false
    → Each (λ i. target i ≢ Some r) is → get_or (settled t o replies s is).ready r 0 ≡ get_or s.ready r 0
ready_kept t o replies s is r h lt k none =
    ready_unclobbered t o replies s is r h lt k ∙ puts_other target (λ i. issue_cycle s is + latency_of t i.op) is s.ready r none

pub ready_written : (t : Table) (o : Option Instr) (replies : List Reply) (s : PacketState) (is : List Instr) (i : Instr) (r : ℕ)
    → CanAnswer o replies → r < length s.ready → clobbered_by t o r ≡ false
    → AreApart target is → Member i is → target i ≡ Some r → get_or (settled t o replies s is).ready r 0 ≡ issue_cycle s is + latency_of t
    i.op
ready_written t o replies s is i r h lt k apart m e =
    ready_unclobbered t o replies s is r h lt k ∙ puts_own target (λ i. issue_cycle s is + latency_of t i.op) is s.ready i r apart m e lt

pub ready_clobbered : (t : Table) (o : Option Instr) (replies : List Reply) (s : PacketState) (is : List Instr) (r : ℕ)
    → CanAnswer o replies → r < length s.ready → clobbered_by t o r ≡ true
    → get_or (settled t o replies s is).ready r 0 ≡ issue_cycle s is + latency_of t Call
ready_clobbered t None replies s is r h lt k = absurd (cc k)
ready_clobbered t (Some call) [] s is r h lt k = absurd h
ready_clobbered t (Some call) (reply ∷ rest) s is r h lt k =
    let c = issue_cycle s is in
    let e = ready_is_put t c s is s.ready in
    let long = ap length e ∙ length-puts target (λ i. c + latency_of t i.op) is s.ready in
    let lt' : r < length (ready_after t c s is s.ready) = omega arith in
    call_ready_at t c 0 r (ready_after t c s is s.ready) lt'
    ∙ is_clobbered t c r (get_or (ready_after t c s is s.ready) r 0) (0 + r) (omega arith) k

-- ---- the registers

pub length-settled_regs : (t : Table) (o : Option Instr) (replies : List Reply) (s : PacketState) (is : List Instr) → CanAnswer o replies
    → length (settled t o replies s is).regs ≡ length s.regs
length-settled_regs t None replies s is h = ap length (regs_are_put s is s.regs) ∙ length-puts target (given s) is s.regs
length-settled_regs t (Some call) [] s is h = absurd h
length-settled_regs t (Some call) (reply ∷ rest) s is h =
    length-replied t reply 0 (regs_after s is s.regs) ∙ ap length (regs_are_put s is s.regs) ∙ length-puts target (given s) is s.regs

keeps_value : (t : Table) (reply : Reply) (r v q : ℕ) → q ≡ r → in_mask t.clobbered r ≡ false → replied t reply q v ≡ v
keeps_value t reply r v q e h = let k : in_mask t.clobbered q ≡ false = ap (in_mask t.clobbered) e ∙ h in rw k refl

gets_result : (t : Table) (reply : Reply) (r v q : ℕ) → q ≡ r → in_mask t.clobbered r ≡ true → r ≡ t.result
    → replied t reply q v ≡ reply.result
gets_result t reply r v q e h f =
    let k : in_mask t.clobbered q ≡ true = ap (in_mask t.clobbered) e ∙ h in
    let g : nat_eq q t.result ≡ true = eq-eqb q t.result (e ∙ f) in rw (k, g) refl

regs_unclobbered : (t : Table) (o : Option Instr) (replies : List Reply) (s : PacketState) (is : List Instr) (r : ℕ) → CanAnswer o replies
    → r < length s.regs → clobbered_by t o r ≡ false
    → get_or (settled t o replies s is).regs r 0 ≡ get_or (puts target (given s) is s.regs) r 0
regs_unclobbered t None replies s is r h lt k = ap (λ xs. get_or xs r 0) (regs_are_put s is s.regs)
regs_unclobbered t (Some call) [] s is r h lt k = absurd h
regs_unclobbered t (Some call) (reply ∷ rest) s is r h lt k =
    let e = regs_are_put s is s.regs in
    let long = ap length e ∙ length-puts target (given s) is s.regs in
    let lt' : r < length (regs_after s is s.regs) = omega arith in
    replied_at t reply 0 r (regs_after s is s.regs) lt'
    ∙ keeps_value t reply r (get_or (regs_after s is s.regs) r 0) (0 + r) (omega arith) k
    ∙ ap (λ xs. get_or xs r 0) e

pub reg_kept : (t : Table) (o : Option Instr) (replies : List Reply) (s : PacketState) (is : List Instr) (r : ℕ) → CanAnswer o replies
    → r < length s.regs → clobbered_by t o r ≡ false
    → Each (λ i. target i ≢ Some r) is → get_or (settled t o replies s is).regs r 0 ≡ get_or s.regs r 0
reg_kept t o replies s is r h lt k none = regs_unclobbered t o replies s is r h lt k ∙ puts_other target (given s) is s.regs r none

pub reg_written : (t : Table) (o : Option Instr) (replies : List Reply) (s : PacketState) (is : List Instr) (i : Instr) (r : ℕ)
    → CanAnswer o replies → r < length s.regs → clobbered_by t o r ≡ false
    → AreApart target is → Member i is → target i ≡ Some r → get_or (settled t o replies s is).regs r 0 ≡ given s i
reg_written t o replies s is i r h lt k apart m e = regs_unclobbered t o replies s is r h lt k
    ∙ puts_own target (given s) is s.regs i r apart m e lt

-- the result of the first reply
abbrev pub first_result : List Reply → ℕ
first_result [] = 0
first_result (reply ∷ rest) = reply.result

pub reg_result : (t : Table) (o : Option Instr) (replies : List Reply) (s : PacketState) (is : List Instr) (r : ℕ) → CanAnswer o replies
    → r < length s.regs → clobbered_by t o r ≡ true → r ≡ t.result
    → get_or (settled t o replies s is).regs r 0 ≡ first_result replies
reg_result t None replies s is r h lt k e = absurd (cc k)
reg_result t (Some call) [] s is r h lt k e = absurd h
reg_result t (Some call) (reply ∷ rest) s is r h lt k e =
    let g = regs_are_put s is s.regs in
    let long = ap length g ∙ length-puts target (given s) is s.regs in
    let lt' : r < length (regs_after s is s.regs) = omega arith in
    replied_at t reply 0 r (regs_after s is s.regs) lt'
    ∙ gets_result t reply r (get_or (regs_after s is s.regs) r 0) (0 + r) (omega arith) k e
