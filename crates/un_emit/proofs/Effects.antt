-- The effects of packets are those of the jobs in their order: before the packet of a cycle, memory, the calls and the replies
-- are what the jobs of earlier cycles left, and each access to memory finds what those before it in order left.
use Rattle.std.proofs.Common.{ℕ, ◌≡◌, ◌≢◌, ◌<◌, ◌≤◌, ◌+◌, Bool, true, false, List, [], ◌∷◌, ◌++◌, map, ◌⊎◌, ⊎_elim, refl, sym, ap, ◌∙◌}
use Rattle.std.proofs.Common.{subst, arith}
use Rattle.std.specs.Prelude.{Option, Some, None, slice_index, nat_lt, is_none, unwrap_or}
use Rattle.std.specs.List.{find}
use Rattle.std.proofs.lemmas.Bool.{cases_eq, cases_lt}
use Rattle.un_isa.specs.Memories.{word_at, set_word, set_words}
use Rattle.un_isa.specs.Words.{address_of}
use Rattle.un_isa.specs.declared.op.Op.{Op}
use Rattle.un_isa.specs.declared.op.Op.TheVariants.{Load, Store, Call}
use Rattle.un_isa.specs.declared.instr.Instr.{Instr}
use Rattle.un_isa.specs.declared.table.Table.{Table}
use Rattle.un_isa.specs.declared.outcome.CallRecord.{CallRecord}
use Rattle.un_isa.specs.declared.start.Reply.{Reply}
use Rattle.un_isa.specs.Does.{is_call, writes_memory}
use Rattle.un_ir.specs.Linear.{World}
use Rattle.un_packet.specs.Step.{PacketState, reg_in, record_of, memory_after}
use Rattle.un_lists.proofs.Lists.{Each, Pairwise, Member, split_at, pairwise_before, pairwise_after, pairwise_two, each_member, each_of}
use Rattle.un_lists.proofs.Lists.{each_map, member_map, member_map_of, found, none_found, pairwise_map, pairwise_more}
use Rattle.un_emit.proofs.Packet.{is_store, memory_none, memory_one}
use Rattle.un_emit.proofs.Settled.{settled, the_call, CanAnswer}
use Rattle.un_emit.proofs.Timed.{Job, instrs, NotBoth}
use Rattle.un_emit.proofs.InTime.{call_job}
use Rattle.un_emit.proofs.FramePlace.{lt_true, lt_false}

-- an access to memory, or a call, which may do anything to it
abbrev pub is_access : Op → Bool
is_access Load = true
is_access Store = true
is_access Call = true
is_access _ = false

abbrev pub is_effect : Op → Bool
is_effect Store = true
is_effect Call = true
is_effect _ = false

-- ---- what one job does, where temporaries have these values

abbrev pub address : (ℕ → ℕ) → Job → ℕ
address val j = address_of (slice_index (map val j.reads) 0) j.instr.imm

abbrev pub call_of : (ℕ → ℕ) → Job → World → CallRecord
call_of val j w = record { name = unwrap_or j.instr.label []; args = map val j.reads; memory = w.memory }

abbrev pub replied_world : CallRecord → World → List Reply → World
replied_world c w [] = w
replied_world c w (r ∷ rs) = record { memory = set_words r.changed w.memory; calls = w.calls ++ c ∷ []; replies = rs }

abbrev pub after_by : Op → (ℕ → ℕ) → Job → World → World
after_by Store val j w = record w { memory = set_word (address val j) (slice_index (map val j.reads) 1) w.memory }
after_by Call val j w = replied_world (call_of val j w) w w.replies
after_by _ val j w = w

abbrev pub after_job : (ℕ → ℕ) → Job → World → World
after_job val j w = after_by j.instr.op val j w

abbrev pub is_empty : List Reply → Bool
is_empty [] = true
is_empty (r ∷ rs) = false

-- an access to an address that is not there, or a call without a reply
abbrev pub fails_by : Op → (ℕ → ℕ) → Job → World → Bool
fails_by Load val j w = is_none (word_at (address val j) w.memory)
fails_by Store val j w = is_none (word_at (address val j) w.memory)
fails_by Call val j w = is_empty w.replies
fails_by _ val j w = false

abbrev pub fails : (ℕ → ℕ) → Job → World → Bool
fails val j w = fails_by j.instr.op val j w

-- ---- all jobs in order, and those of the cycles before one

abbrev pub run_jobs : (ℕ → ℕ) → List Job → World → World
run_jobs val [] w = w
run_jobs val (j ∷ js) w = run_jobs val js (after_job val j w)

abbrev pub after_if : Bool → (ℕ → ℕ) → Job → World → World
after_if true val j w = after_job val j w
after_if false val j w = w

abbrev pub run_before : (ℕ → ℕ) → ℕ → List Job → World → World
run_before val c [] w = w
run_before val c (j ∷ js) w = run_before val c js (after_if (nat_lt j.cycle c) val j w)

-- the order of two accesses
pub record InOrder (i j : Job) : Type 0 where
  pub after_effect : is_effect i.instr.op ≡ true → is_access j.instr.op ≡ true → i.cycle < j.cycle
  pub before_effect : is_access i.instr.op ≡ true → is_effect j.instr.op ≡ true → i.cycle ≤ j.cycle
  pub before_call : is_access i.instr.op ≡ true → j.instr.op ≡ Call → i.cycle < j.cycle

effect_access : (op : Op) → is_effect op ≡ true → is_access op ≡ true
effect_access Store h = refl
effect_access Call h = refl
effect_access _ h = absurd (cc h)

module _ (val : ℕ → ℕ) where
  idle_by : (op : Op) (j : Job) (w : World) → is_effect op ≡ false → after_by op val j w ≡ w
  idle_by Store j w h = absurd (cc h)
  idle_by Call j w h = absurd (cc h)
  idle_by _ j w h = refl

  run_jobs_append : (xs ys : List Job) (w : World) → run_jobs val (xs ++ ys) w ≡ run_jobs val ys (run_jobs val xs w)
  run_jobs_append [] ys w = refl
  run_jobs_append (x ∷ xs) ys w = run_jobs_append xs ys (after_job val x w)

  run_before_append : (c : ℕ) (xs ys : List Job) (w : World) → run_before val c (xs ++ ys) w ≡ run_before val c ys (run_before val c xs w)
  run_before_append c [] ys w = refl
  run_before_append c (x ∷ xs) ys w = run_before_append c xs ys (after_if (nat_lt x.cycle c) val x w)

  -- a job whose cycle is before c, or that has no effect
  abbrev Done : ℕ → Job → Type 0
  Done c j = is_effect j.instr.op ≡ true → j.cycle < c

  abbrev Later : ℕ → Job → Type 0
  Later c j = is_effect j.instr.op ≡ true → c ≤ j.cycle

  done_one : (c : ℕ) (j : Job) (w : World) → Done c j → after_if (nat_lt j.cycle c) val j w ≡ after_job val j w
  done_one c j w h =
      let go : (b : Bool) → is_effect j.instr.op ≡ b → after_if (nat_lt j.cycle c) val j w ≡ after_job val j w = elim [
        | true ↦ λ e. ap (λ (x : Bool). after_if x val j w) (lt_true j.cycle c (h e))
        | false ↦ λ e. let i = idle_by j.instr.op j w e in elim (nat_lt j.cycle c) as
            (λ x. after_if x val j w ≡ after_job val j w) [ true ↦ refl | false ↦ sym i ]
      ] in go (is_effect j.instr.op) refl

  later_one : (c : ℕ) (j : Job) (w : World) → Later c j → after_if (nat_lt j.cycle c) val j w ≡ w
  later_one c j w h =
      let go : (b : Bool) → is_effect j.instr.op ≡ b → after_if (nat_lt j.cycle c) val j w ≡ w = elim [
        | true ↦ λ e. ap (λ (x : Bool). after_if x val j w) (lt_false j.cycle c (h e))
        | false ↦ λ e. let i = idle_by j.instr.op j w e in elim (nat_lt j.cycle c) as
            (λ x. after_if x val j w ≡ w) [ true ↦ i | false ↦ refl ]
      ] in go (is_effect j.instr.op) refl

  pub run_done : (c : ℕ) (js : List Job) (w : World) → Each (Done c) js → run_before val c js w ≡ run_jobs val js w
  run_done c [] w h = refl
  run_done c (j ∷ js) w h = ap (run_before val c js) (done_one c j w h.0) ∙ run_done c js (after_job val j w) h.1

  pub run_later : (c : ℕ) (js : List Job) (w : World) → Each (Later c) js → run_before val c js w ≡ w
  run_later c [] w h = refl
  run_later c (j ∷ js) w h = ap (run_before val c js) (later_one c j w h.0) ∙ run_later c js w h.1

  -- before cycle c just the jobs before a place have had their effects
  pub run_until : (c : ℕ) (before after : List Job) (w : World) → Each (Done c) before → Each (Later c) after
      → run_before val c (before ++ after) w ≡ run_jobs val before w
  run_until c before after w h k = run_before_append c before after w ∙ run_later c after (run_before val c before w) k
      ∙ run_done c before w h

  -- before the cycle of an access just the jobs before it have had their effects
  pub access_sees : (jobs before after : List Job) (j : Job) (w : World) → jobs ≡ before ++ j ∷ after → Pairwise InOrder jobs
      → is_access j.instr.op ≡ true → run_before val j.cycle jobs w ≡ run_jobs val before w
  access_sees jobs before after j w e o a =
      let o' = subst (Pairwise InOrder) e o in
      let b = pairwise_before InOrder before after j o' in
      let f = pairwise_after InOrder before after j o' in
      ap (λ js. run_before val j.cycle js w) e
      ∙ run_until j.cycle before (j ∷ after) w
      (each_of (Done j.cycle) before (λ i m q. let r = each_member (λ (i : Job). InOrder i j) before i b m in r.after_effect q a)) (
        (λ q. let z : j.cycle ≤ j.cycle = omega arith in z),
        each_of (Later j.cycle) after
            (λ i m q. let r = each_member (InOrder j) after i f m in r.before_effect a q),
      )

  -- after the cycle of an effect it has been had too
  pub effect_done : (jobs before after : List Job) (j : Job) (w : World) → jobs ≡ before ++ j ∷ after → Pairwise InOrder jobs
      → is_effect j.instr.op ≡ true → run_before val (j.cycle + 1) jobs w ≡ after_job val j (run_before val j.cycle jobs w)
  effect_done jobs before after j w e o a =
      let o' = subst (Pairwise InOrder) e o in
      let b = pairwise_before InOrder before after j o' in
      let f = pairwise_after InOrder before after j o' in
      let c = j.cycle in
      ap (λ js. run_before val (c + 1) js w) e
      ∙ run_before_append (c + 1) before (j ∷ after) w
      ∙ ap (λ x. run_before val (c + 1) (j ∷ after) x) (run_done (c + 1) before w
      (each_of (Done (c + 1)) before (λ i m q. let r = each_member (λ (i : Job). InOrder i j) before i b m in let z =
      r.after_effect q (effect_access j.instr.op a) in omega arith)))
      ∙ ap (run_before val (c + 1) after) (done_one (c + 1) j (run_jobs val before w) (λ q. omega arith))
      ∙ run_later (c + 1) after (after_job val j (run_jobs val before w))
      (each_of (Later (c + 1)) after (λ i m q. let r = each_member (InOrder j) after i f m in let z =
      r.after_effect a (effect_access i.instr.op q) in omega arith))
      ∙ ap (after_job val j) (sym (access_sees jobs before after j w e o (effect_access j.instr.op a)))

  -- a cycle without an effect
  pub none_done : (c : ℕ) (jobs : List Job) (w : World) → Each (λ j. j.cycle ≡ c → is_effect j.instr.op ≡ false) jobs
      → run_before val (c + 1) jobs w ≡ run_before val c jobs w
  none_done c [] w h = refl
  none_done c (j ∷ js) w h = ap (run_before val (c + 1) js) (one (h.0)) ∙ none_done c js (after_if (nat_lt j.cycle c) val j w) h.1
    where
      one : (j.cycle ≡ c → is_effect j.instr.op ≡ false) → after_if (nat_lt j.cycle (c + 1)) val j w ≡ after_if (nat_lt j.cycle c) val j w
      one g = ⊎_elim
          (λ (lt : j.cycle < c). ap (λ (x : Bool). after_if x val j w) (lt_true j.cycle (c + 1) (omega arith) ∙ sym (lt_true j.cycle c lt)))
          (λ (le : c ≤ j.cycle). ⊎_elim
          (λ (e : j.cycle ≡ c). later_free (λ b. after_if b val j w) (nat_lt j.cycle (c + 1)) (nat_lt j.cycle c)
          (idle_by j.instr.op j w (g e)))
          (λ (n : j.cycle ≢ c). ap (λ (x : Bool). after_if x val j w)
          (lt_false j.cycle (c + 1) (omega arith) ∙ sym (lt_false j.cycle c le))) (cases_eq j.cycle c))
          (cases_lt j.cycle c)
        where
          later_free : (f : Bool → World) (a b : Bool) → f true ≡ f false → f a ≡ f b
          later_free f true true e = refl
          later_free f true false e = e
          later_free f false true e = sym e
          later_free f false false e = refl

  -- ---- the packet

  abbrev pub world_of : PacketState → World
  world_of s = record { memory = s.memory; calls = s.calls; replies = s.replies }

  -- operands have the values that the jobs read
  abbrev pub ReadRight : PacketState → List Job → Type 0
  ReadRight s js = Each (λ j. is_access j.instr.op ≡ true → map (reg_in s) j.instr.srcs ≡ map val j.reads) js

  world_kept : (t : Table) (o : Option Instr) (replies : List Reply) (s : PacketState) (is : List Instr) → o ≡ None → replies ≡ s.replies
      → memory_after s is s.memory ≡ s.memory → world_of (settled t o replies s is) ≡ world_of s
  world_kept t None replies s is e r m = ap (λ x. let w : World = record { memory = x; calls = s.calls; replies = s.replies } in w) m
  world_kept t (Some call) replies s is e r m = absurd (cc e)

  world_stored : (t : Table) (o : Option Instr) (replies : List Reply) (s : PacketState) (is : List Instr) (m : List (ℕ × ℕ)) → o ≡ None
      → memory_after s is s.memory ≡ m → world_of (settled t o replies s is) ≡ record { memory = m; calls = s.calls; replies = s.replies }
  world_stored t None replies s is m e k = ap (λ x. let w : World = record { memory = x; calls = s.calls; replies = s.replies } in w) k
  world_stored t (Some call) replies s is m e k = absurd (cc e)

  world_called : (t : Table) (o : Option Instr) (replies : List Reply) (s : PacketState) (is : List Instr) (call : Instr) → o ≡ Some call
      → CanAnswer o replies → replies ≡ s.replies → memory_after s is s.memory ≡ s.memory
      → world_of (settled t o replies s is) ≡ replied_world (record_of s call) (world_of s) replies
  world_called t None replies s is call e k r m = absurd (cc e)
  world_called t (Some q) [] s is call e k r m = absurd k
  world_called t (Some q) (reply ∷ rest) s is call e k r m =
      let same : q ≡ call = cc e in
      ap (λ x. let w : World = record { memory = set_words reply.changed x; calls = s.calls ++ record_of s q ∷ []; replies = rest } in w) m
      ∙ ap (λ (x : Instr). let w : World = record {
        memory = set_words reply.changed s.memory;
        calls = s.calls ++ record_of s x ∷ [];
        replies = rest;
      } in w) same

  store_by : (op : Op) (j : Job) (w : World) → op ≡ Store → after_by op val j w ≡ record w
      { memory = set_word (address val j) (slice_index (map val j.reads) 1) w.memory }
  store_by op j w e = ap (λ (p : Op). after_by p val j w) e

  call_by : (op : Op) (j : Job) (w : World) → op ≡ Call → after_by op val j w ≡ replied_world (call_of val j w) w w.replies
  call_by op j w e = ap (λ (p : Op). after_by p val j w) e

  not_effect : (op : Op) → (op ≡ Store → ⊥) → (op ≡ Call → ⊥) → is_effect op ≡ false
  not_effect Store s c = absurd (s refl)
  not_effect Call s c = absurd (c refl)
  not_effect _ s c = refl

  store_op : (op : Op) → is_store op ≡ true → op ≡ Store
  store_op Store h = refl
  store_op _ h = absurd (cc h)

  module _ (t : Table) (jobs js : List Job) (c : ℕ) (w : World) (order : Pairwise InOrder jobs)
      (here : (j : Job) → Member j js → is_access j.instr.op ≡ true → Member j jobs × (j.cycle ≡ c))
      (all : (j : Job) → Member j jobs → j.cycle ≡ c → Member j js)
      (one : Pairwise (NotBoth writes_memory) js) (same_cycle : Each (λ j. j.cycle ≡ c) js) where
    -- a store and a call never share a cycle
    apart : (i j : Job) → Member i js → Member j js → i.instr.op ≡ Store → j.instr.op ≡ Call → ⊥
    apart i j m n p q =
        let a = here i m (ap is_access p) in
        let b = here j n (ap is_access q) in
        ⊎_elim (λ (e : i ≡ j). let k : Store ≡ Call = sym p ∙ ap (λ (x : Job). x.instr.op) e ∙ q in absurd (cc k))
        (λ (r : InOrder i j ⊎ InOrder j i). ⊎_elim
        (λ (x : InOrder i j). let z = x.after_effect (ap is_effect p) (ap is_access q) in let u = a.1 in let v = b.1 in omega arith)
        (λ (x : InOrder j i). let z = x.after_effect (ap is_effect q) (ap is_access p) in let u = a.1 in let v = b.1 in omega arith) r)
        (pairwise_two InOrder jobs i j order a.0 b.0)

    one_store : Pairwise (λ i j. i.op ≡ Store → j.op ≡ Store → ⊥) (instrs js)
    one_store = pairwise_map (λ i j. i.op ≡ Store → j.op ≡ Store → ⊥) (λ (j : Job). j.instr) js
        (pairwise_more (NotBoth writes_memory) (λ (i j : Job). i.instr.op ≡ Store → j.instr.op ≡ Store → ⊥) js
        (λ i j m n b p q. b (each_member (λ (a : Job). a.cycle ≡ c) js i same_cycle m
        ∙ sym (each_member (λ (a : Job). a.cycle ≡ c) js j same_cycle n)) (ap writes_memory p) (ap writes_memory q)) one)

    -- the effects of the packet of cycle c
    pub world_next : (s : PacketState) (o : Option Instr) → the_call (instrs js) ≡ o → CanAnswer o s.replies → ReadRight s js
        → world_of s ≡ run_before val c jobs w → world_of (settled t o s.replies s (instrs js)) ≡ run_before val (c + 1) jobs w
    world_next s (Some call) e can right now =
        let r = call_job js call e in
        let j = r.0 in
        let h = here j r.1 (ap is_access r.3) in
        let p = split_at jobs j h.0 in
        let no_store = each_map (λ (i : Instr). is_store i.op ≡ false) (λ (j : Job). j.instr) js
        (each_of (λ (i : Job). is_store i.instr.op ≡ false) js (λ i m. not_store i.instr.op (λ q. apart i j m r.1 q r.3))) in
        let args = each_member (λ (j : Job). is_access j.instr.op ≡ true → map (reg_in s) j.instr.srcs ≡ map val j.reads) js j right r.1
        (ap is_access r.3) in
        world_called t (Some call) s.replies s (instrs js) call refl can refl (memory_none s (instrs js) s.memory no_store)
        ∙ ap (λ (i : Instr). replied_world (record_of s i) (world_of s) s.replies) (sym r.2)
        ∙ ap (λ xs. replied_world (record { name = unwrap_or j.instr.label []; args = xs; memory = s.memory }) (world_of s) s.replies) args
        ∙ sym (call_by j.instr.op j (world_of s) r.3)
        ∙ ap (after_job val j) now
        ∙ ap (λ n. after_job val j (run_before val n jobs w)) (sym h.1)
        ∙ sym (effect_done jobs p.before p.after j w p.is order (ap is_effect r.3))
        ∙ ap (λ n. run_before val (n + 1) jobs w) h.1
      where
        not_store : (op : Op) → (op ≡ Store → ⊥) → is_store op ≡ false
        not_store Store h = absurd (h refl)
        not_store _ h = refl
    world_next s None e can right now = stored_or_not (find (λ (i : Instr). is_store i.op) (instrs js)) refl
      where
        stored_or_not : (q : Option Instr) → find (λ (i : Instr). is_store i.op) (instrs js) ≡ q
            → world_of (settled t None s.replies s (instrs js)) ≡ run_before val (c + 1) jobs w
        stored_or_not None q =
            let none = none_found (λ (i : Instr). is_store i.op) (instrs js) q in
            let no_call = none_found (λ (i : Instr). is_call i.op) (instrs js) e in
            world_kept t None s.replies s (instrs js) refl refl (memory_none s (instrs js) s.memory none) ∙ now
            ∙ sym (none_done c jobs w (each_of (λ (j : Job). j.cycle ≡ c → is_effect j.instr.op ≡ false) jobs (λ j m cj.
            let n = member_map (λ (j : Job). j.instr) js j (all j m cj) in
            not_effect j.instr.op
            (λ p. let a = each_member (λ (i : Instr). is_store i.op ≡ false) (instrs js) j.instr none n in let z : true ≡ false =
            sym (ap is_store p) ∙ a in absurd (cc z))
            (λ p. let a = each_member (λ (i : Instr). is_call i.op ≡ false) (instrs js) j.instr no_call n in let z : true ≡ false =
            sym (ap is_call p) ∙ a in absurd (cc z)))))
        stored_or_not (Some i) q =
            let r = found (λ (i : Instr). is_store i.op) (instrs js) i q in
            let x = member_map_of (λ (j : Job). j.instr) js i r.0 in
            let j = x.0 in
            let op : j.instr.op ≡ Store = ap (λ (i : Instr). i.op) x.2 ∙ store_op i.op r.1 in
            let h = here j x.1 (ap is_access op) in
            let p = split_at jobs j h.0 in
            let args = each_member (λ (j : Job). is_access j.instr.op ≡ true → map (reg_in s) j.instr.srcs ≡ map val j.reads) js j right x.1
            (ap is_access op) in
            world_stored t None s.replies s (instrs js) _ refl (memory_one s (instrs js) s.memory j.instr
            (member_map (λ (j : Job). j.instr) js j x.1) op one_store)
            ∙ ap (λ xs. let w : World = record {
              memory = set_word (address_of (slice_index xs 0) j.instr.imm) (slice_index xs 1) s.memory;
              calls = s.calls;
              replies = s.replies;
            } in w) args
            ∙ sym (store_by j.instr.op j (world_of s) op)
            ∙ ap (after_job val j) now
            ∙ ap (λ n. after_job val j (run_before val n jobs w)) (sym h.1)
            ∙ sym (effect_done jobs p.before p.after j w p.is order (ap is_effect op))
            ∙ ap (λ n. run_before val (n + 1) jobs w) h.1
