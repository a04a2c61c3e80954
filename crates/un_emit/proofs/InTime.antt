-- No packet waits: each register that a packet reads can be read in the packet's cycle. Nothing is said of values.
use Rattle.std.proofs.Common.{ℕ, ◌≡◌, ◌≢◌, ◌<◌, ◌≤◌, ◌+◌, true, false, List, length, get_or, ⊎_elim, refl, sym, ap, ◌∙◌, subst, arith}
use Rattle.std.specs.Prelude.{Option, Some, None, slice_index}
use Rattle.std.specs.List.{find}
use Rattle.std.proofs.lemmas.Bool.{cases_lt}
use Rattle.un_isa.specs.Fit.{IsFit}
use Rattle.un_isa.specs.Tables.{latency_of, in_mask}
use Rattle.un_isa.specs.declared.op.Op.{Op}
use Rattle.un_isa.specs.declared.op.Op.TheVariants.{Call, Enter, Leave}
use Rattle.un_isa.specs.declared.instr.Instr.{Instr}
use Rattle.un_isa.specs.declared.table.Table.{Table}
use Rattle.un_isa.specs.declared.reg.TheConstants.{STACK, REGISTERS, FIRST_SLOT}
use Rattle.un_isa.specs.Does.{is_call, is_new, moves_stack}
use Rattle.un_packet.specs.Step.{PacketState, issue_cycle, reads_of}
use Rattle.un_lists.proofs.Lists.{Each, Member, each_member, each_of, each_map, each_more, member_map, member_map_of, found, none_found}
use Rattle.un_emit.proofs.Packet.{target, issues_next}
use Rattle.un_emit.proofs.Settled.{settled, the_call, CanAnswer, clobbered_by, settled_cycle, length-settled_ready, ready_kept}
use Rattle.un_emit.proofs.Settled.{ready_written, ready_clobbered}
use Rattle.un_emit.proofs.Timed.{Job, Temps, Stands, IsReadAt, Gives, Deed, AreTemps, Together, gives_of, instrs, Clobbers, numbers}
use Rattle.un_emit.proofs.Deeds.{sources, IsSource, each_read, no_reads, writes, lands, apart_targets, unwritten, shift_op}

-- after cycle c of a block that began when the counter was at k
pub record InTime (T : Temps) (k c : ℕ) (s : PacketState) : Type 0 where
  pub cycle : s.cycle ≡ k + c
  pub long : length s.ready ≡ REGISTERS
  pub ready : (x : ℕ) → Stands T x c → T.place x < FIRST_SLOT → get_or s.ready (T.place x) 0 ≤ k + (T.from x + T.lat x)
  pub stack : get_or s.ready STACK 0 ≤ k + c + 1

-- what is read in the next cycle stands already
pub stands_before : (T : Temps) (slots c x : ℕ) → AreTemps T slots → IsReadAt T x (c + 1) → Stands T x c
stands_before T slots c x h r =
    let q = h.quick x r.active in let a = r.ready in let b = r.held in record { active = r.active; begun = omega arith; held = omega arith }

source_ready : (T : Temps) (slots k c : ℕ) (s : PacketState) (r : ℕ) → AreTemps T slots → InTime T k c s → IsSource T (c + 1) r
    → get_or s.ready r 0 ≤ s.cycle + 1
source_ready T slots k c s r h i q =
    let a = q.1 in let b = a.ready in let e = i.cycle in
    let small : T.place q.0 < FIRST_SLOT = let lt = q.3 in let same = q.2 in omega arith in
    let g = i.ready q.0 (stands_before T slots c q.0 h q.1) small in
    let g' : get_or s.ready r 0 ≤ k + (T.from q.0 + T.lat q.0) = subst (λ p. get_or s.ready p 0 ≤ k + (T.from q.0 + T.lat q.0)) q.2 g in
    omega arith

-- the packet of the next cycle issues then
pub issues : (t : Table) (T : Temps) (slots k c : ℕ) (js : List Job) (s : PacketState) → AreTemps T slots → Together t T slots (c + 1) js
    → InTime T k c s → issue_cycle s (instrs js) ≡ s.cycle + 1
issues t T slots k c js s h w i =
    issues_next s (instrs js) (each_map (λ (i : Instr). Each (λ r. slice_index s.ready r ≤ s.cycle + 1) (reads_of i)) (λ (j : Job). j.instr)
    js (each_of (λ (j : Job). Each (λ r. slice_index s.ready r ≤ s.cycle + 1) (reads_of j.instr)) js one))
  where
    one : (j : Job) → Member j js → Each (λ r. slice_index s.ready r ≤ s.cycle + 1) (reads_of j.instr)
    one j m =
        let now : j.cycle ≡ c + 1 = each_member (λ (a : Job). a.cycle ≡ c + 1) js j w.cycle m in
        let e = i.cycle in let b = i.stack in
        let first : slice_index s.ready STACK ≤ s.cycle + 1 = omega arith in
        elim (is_new j.instr.op) as (λ b. is_new j.instr.op ≡ b → Each (λ r. slice_index s.ready r ≤ s.cycle + 1) (reads_of j.instr)) [
          | true ↦ λ new. subst (Each (λ r. slice_index s.ready r ≤ s.cycle + 1)) (sym (no_reads j.instr.op j.instr new)) tt
          | false ↦ λ old. each_read (λ r. slice_index s.ready r ≤ s.cycle + 1) j.instr.op j.instr first
              (each_more (IsSource T j.cycle) (λ r. slice_index s.ready r ≤ s.cycle + 1) (numbers j.instr.srcs)
              (λ r q. source_ready T slots k c s r h i (subst (λ n. IsSource T n r) now q))
              (sources t T slots j (each_member (Deed t T slots) js j w.deeds m) old))
        ] refl

-- the job of a packet's call
pub call_job : (js : List Job) (call : Instr) → the_call (instrs js) ≡ Some call → (j : Job) × (Member j js) × (j.instr ≡ call)
    × (j.instr.op ≡ Call)
call_job js call e =
    let f = found (λ (i : Instr). is_call i.op) (instrs js) call e in
    let r = member_map_of (λ (j : Job). j.instr) js call f.0 in
    (r.0, r.1, r.2, is_call_op r.0.instr.op (ap (λ (i : Instr). is_call i.op) r.2 ∙ f.1))
  where
    is_call_op : (op : Op) → is_call op ≡ true → op ≡ Call
    is_call_op Call h = refl
    is_call_op _ h = absurd (cc h)

-- a clobbered temporary that stands in a packet's cycle is what the packet's call gives
pub given_by_call : (t : Table) (T : Temps) (slots c : ℕ) (js : List Job) (o : Option Instr) (x : ℕ) → Together t T slots c js
    → the_call (instrs js) ≡ o → clobbered_by t o (T.place x) ≡ true → Stands T x c → T.place x < FIRST_SLOT
    → (j : Job) × (Member j js) × (j.instr.op ≡ Call) × (Gives t T j x)
given_by_call t T slots c js None x w e k s lt = absurd (cc k)
given_by_call t T slots c js (Some call) x w e k s lt =
    let r = call_job js call e in
    let now : r.0.cycle ≡ c = each_member (λ (a : Job). a.cycle ≡ c) js r.0 w.cycle r.1 in
    let gives = each_member (Clobbers t T) js r.0 w.clobbers r.1 r.3 x (subst (Stands T x) (sym now) s) lt k in
    (r.0, r.1, r.3, gives_of t T slots r.0 x (each_member (Deed t T slots) js r.0 w.deeds r.1) gives)

-- a packet with a call has it as its call
pub has_call : (js : List Job) (j : Job) (o : Option Instr) → Member j js → j.instr.op ≡ Call → the_call (instrs js) ≡ o → (call : Instr)
    × (o ≡ Some call)
has_call js j None m e f =
    let none = none_found (λ (i : Instr). is_call i.op) (instrs js) f in
    let k = each_member (λ (i : Instr). is_call i.op ≡ false) (instrs js) j.instr none (member_map (λ (j : Job). j.instr) js j m) in
    let g : true ≡ false = sym (ap is_call e) ∙ k in absurd (cc g)
has_call js j (Some call) m e f = (call, refl)

-- r0 and the others that a call writes are no stack pointer, and the result is clobbered
pub record CallsFit (t : Table) : Type 0 where
  pub stack : in_mask t.clobbered STACK ≡ false
  pub result : in_mask t.clobbered t.result ≡ true
  pub small : t.result < 32

pub clobbers_when : (t : Table) (o : Option Instr) (call : Instr) (r : ℕ) → o ≡ Some call → in_mask t.clobbered r ≡ true
    → clobbered_by t o r ≡ true
clobbers_when t o call r e h = ap (λ x. clobbered_by t x r) e ∙ h

pub never_clobbered : (t : Table) (o : Option Instr) (r : ℕ) → in_mask t.clobbered r ≡ false → clobbered_by t o r ≡ false
never_clobbered t None r h = refl
never_clobbered t (Some call) r h = h

-- a register that the packet's own instruction gives is not clobbered, or a call gives it
pub lands_written : (t : Table) (T : Temps) (slots c : ℕ) (js : List Job) (o : Option Instr) (j : Job) (x : ℕ) → CallsFit t
    → Together t T slots c js → the_call (instrs js) ≡ o → Member j js → j.gives ≡ Some x → T.place x < FIRST_SLOT
    → clobbered_by t o (T.place x) ≡ false → target j.instr ≡ Some (T.place x)
lands_written t T slots c js o j x fit w e m g lt k =
    ⊎_elim (λ (p : target j.instr ≡ Some (T.place x)). p)
    (λ (p : (j.instr.op ≡ Call) × (T.place x ≡ t.result)).
    let r = has_call js j o m p.0 e in
    let clobbered : in_mask t.clobbered (T.place x) ≡ true = ap (in_mask t.clobbered) p.1 ∙ fit.result in
    let q : true ≡ false = sym (clobbers_when t o r.0 (T.place x) r.1 clobbered) ∙ k in absurd (cc q))
    (lands t T slots j x (each_member (Deed t T slots) js j w.deeds m) g lt)

shift_latency : (t : Table) (op : Op) → IsFit t → moves_stack op ≡ true → latency_of t op ≡ 1
shift_latency t Enter fit h = let a = fit.latencies Enter in a.2
shift_latency t Leave fit h = let a = fit.latencies Leave in a.2
shift_latency t _ fit h = absurd (cc h)

-- without Enter and Leave no instruction writes the stack pointer
pub stack_unwritten : (t : Table) (T : Temps) (slots c : ℕ) (js : List Job) → AreTemps T slots → Together t T slots c js
    → Each (λ i. moves_stack i.op ≡ false) (instrs js) → Each (λ i. target i ≢ Some STACK) (instrs js)
stack_unwritten t T slots c js h w none = each_map (λ i. target i ≢ Some STACK) (λ (j : Job). j.instr) js
    (each_of (λ (j : Job). target j.instr ≢ Some STACK) js (λ j m e.
    ⊎_elim
    (λ (q : (STACK ≡ STACK) × (moves_stack j.instr.op ≡ true)).
    let k = each_member (λ (i : Instr). moves_stack i.op ≡ false) (instrs js) j.instr none (member_map (λ (j : Job). j.instr) js j m) in
    let z : true ≡ false = sym q.1 ∙ k in absurd (cc z))
    (λ (q : (x : ℕ) × (Gives t T j x) × (T.place x ≡ STACK)). let g = q.1 in h.not_stack q.0 g.active q.2)
    (writes t T slots j STACK (each_member (Deed t T slots) js j w.deeds m) e)))

-- the state after the packet of the next cycle
pub in_time_next : (t : Table) (T : Temps) (slots k c : ℕ) (js : List Job) (o : Option Instr) (s : PacketState) → IsFit t → CallsFit t
    → AreTemps T slots → Together t T slots (c + 1) js → the_call (instrs js) ≡ o → CanAnswer o s.replies
    → InTime T k c s → InTime T k (c + 1) (settled t o s.replies s (instrs js))
in_time_next t T slots k c js o s fit calls h w e can i = record {
  cycle = settled_cycle t o s.replies s is can ∙ now ∙ later;
  long = length-settled_ready t o s.replies s is can ∙ i.long;
  ready = λ x st lt. elim (clobbered_by t o (T.place x)) as (λ b. clobbered_by t o (T.place x) ≡ b
      → get_or (settled t o s.replies s is).ready (T.place x) 0 ≤ k + (T.from x + T.lat x)) [
        | true ↦ λ q. by_call x st lt q
        | false ↦ λ q. ⊎_elim (λ (old : T.from x < c + 1). from_before x st lt q old) (λ (new : c + 1 ≤ T.from x). from_now x st lt q new)
            (cases_lt (T.from x) (c + 1))
      ] refl;
  stack = stack_ready;
}
  where
    is : List Instr
    is = instrs js

    now : issue_cycle s is ≡ s.cycle + 1
    now = issues t T slots k c js s h w i

    later : s.cycle + 1 ≡ k + (c + 1)
    later = let a = i.cycle in omega arith

    long : (x : ℕ) → T.place x < FIRST_SLOT → T.place x < length s.ready
    long x lt = let a = i.long in omega arith

    free : clobbered_by t o STACK ≡ false
    free = never_clobbered t o STACK calls.stack

    stack_in : STACK < length s.ready
    stack_in = let a = i.long in omega arith

    shift_or_not : (f : Option Instr) → find (λ (i : Instr). moves_stack i.op) is ≡ f
        → get_or (settled t o s.replies s is).ready STACK 0 ≤ k + (c + 1) + 1
    shift_or_not None f =
        let none = none_found (λ (i : Instr). moves_stack i.op) is f in
        let z = ready_kept t o s.replies s is STACK can stack_in free (stack_unwritten t T slots (c + 1) js h w none) in
        let y = i.stack in
        omega arith
    shift_or_not (Some q) f =
        let r = found (λ (i : Instr). moves_stack i.op) is q f in
        let z = ready_written t o s.replies s is q STACK can stack_in free (apart_targets t T slots (c + 1) js h w) r.0
        ((shift_op q.op r.1).target q) in
        let y = shift_latency t q.op fit r.1 in
        let n = now in let m = later in
        omega arith

    by_call : (x : ℕ) → Stands T x (c + 1) → T.place x < FIRST_SLOT → clobbered_by t o (T.place x) ≡ true
        → get_or (settled t o s.replies s is).ready (T.place x) 0 ≤ k + (T.from x + T.lat x)
    by_call x st lt q =
        let r = given_by_call t T slots (c + 1) js o x w e q st lt in
        let g = r.3 in let from = g.from in let lat = g.lat in
        let cj : r.0.cycle ≡ c + 1 = each_member (λ (a : Job). a.cycle ≡ c + 1) js r.0 w.cycle r.1 in
        let l : latency_of t r.0.instr.op ≡ latency_of t Call = ap (latency_of t) r.2 in
        let z = ready_clobbered t o s.replies s is (T.place x) can (long x lt) q in
        let n = now in let m = later in
        omega arith

    from_before : (x : ℕ) → Stands T x (c + 1) → T.place x < FIRST_SLOT → clobbered_by t o (T.place x) ≡ false → T.from x < c + 1
        → get_or (settled t o s.replies s is).ready (T.place x) 0 ≤ k + (T.from x + T.lat x)
    from_before x st lt q old =
        let b = st.held in
        let before : Stands T x c = record { active = st.active; begun = omega arith; held = omega arith } in
        let z = ready_kept t o s.replies s is (T.place x) can (long x lt) q (unwritten t T slots c x js h w st (omega arith)) in
        let y = i.ready x before lt in
        omega arith

    from_now : (x : ℕ) → Stands T x (c + 1) → T.place x < FIRST_SLOT → clobbered_by t o (T.place x) ≡ false → c + 1 ≤ T.from x
        → get_or (settled t o s.replies s is).ready (T.place x) 0 ≤ k + (T.from x + T.lat x)
    from_now x st lt q new =
        let b = st.begun in
        let from : T.from x ≡ c + 1 = omega arith in
        let r = w.giver x st.active from in
        let g = gives_of t T slots r.0 x (each_member (Deed t T slots) js r.0 w.deeds r.1) r.2 in
        let lat = g.lat in
        let written = lands_written t T slots (c + 1) js o r.0 x calls w e r.1 r.2 lt q in
        let z = ready_written t o s.replies s is r.0.instr (T.place x) can (long x lt) q (apart_targets t T slots (c + 1) js h w)
        (member_map (λ (j : Job). j.instr) js r.0 r.1) written in
        let n = now in let m = later in
        omega arith

    stack_ready : get_or (settled t o s.replies s is).ready STACK 0 ≤ k + (c + 1) + 1
    stack_ready = shift_or_not (find (λ (i : Instr). moves_stack i.op) is) refl
