-- Where a packet leads: on, to a label or back to the caller, as its only control transfer says.
use Rattle.std.proofs.Common.{ℕ, ◌≡◌, Bool, true, false, List, [], ◌⊎◌, inl, inr, ⊎_elim, refl, sym, ap, ◌∙◌}
use Rattle.std.specs.Prelude.{Option, Some, None, slice_index, unwrap_or, if◌then◌else◌, ◌||◌}
use Rattle.std.specs.List.{find}
use Rattle.un_isa.specs.declared.op.Op.{Op}
use Rattle.un_isa.specs.declared.does.Does.{Does}
use Rattle.un_isa.specs.declared.does.Does.TheVariants.{Jumps, Returns}
use Rattle.un_isa.specs.declared.does.When.{When}
use Rattle.un_isa.specs.declared.does.When.TheVariants.{Always, IfTrue, IfFalse, IfNewTrue, IfNewFalse}
use Rattle.un_isa.specs.Facts.{does_of}
use Rattle.un_isa.specs.declared.instr.Instr.{Instr}
use Rattle.un_isa.specs.Does.{jumps as jumps_to, returns, tests_new, branches_new, is_return, is_new, is_transfer, is_control}
use Rattle.un_isa.proofs.DoesLaws.{return_transfer, jump_transfer, transfer_control}
use Rattle.un_packet.specs.Step.{PacketState, PacketStep, Went, Jumped, Stopped, Returned, operand_in, jumps, goes_by, is_taken, leads}
use Rattle.un_packet.specs.Step.{goes_on, operand_of, regs_after}
use Rattle.un_lists.proofs.Lists.{Each, Pairwise, Member, each_member, each_of, member_map, member_map_of, found, none_found, find_none}
use Rattle.un_lists.proofs.Lists.{pairwise_two}
use Rattle.un_emit.proofs.Settled.{the_return}
use Rattle.un_emit.proofs.Timed.{Job, instrs, NotBoth}

-- the value that a transfer goes by, by the state before its packet and the registers behind the packet's writes
abbrev pub tested : PacketState → List ℕ → Instr → ℕ
tested s new i = if is_new i.op then operand_of new i 0 else operand_in s i 0

-- where a transfer leads that goes by the value v, with this label, once the packet left the state u
abbrev pub exit_as : Does → ℕ → Option (List ℕ) → PacketState → PacketStep
exit_as (Jumps when) v label u = if is_taken when v v then Jumped (unwrap_or label []) u else Went u
exit_as Returns v label u = Stopped (Returned (slice_index u.regs 0) v) u
exit_as _ v label u = Went u

abbrev pub exit_by : Op → ℕ → Option (List ℕ) → PacketState → PacketStep
exit_by op v label u = exit_as (does_of op) v label u

abbrev pub transfer_of : List Job → Option Job
transfer_of js = find (λ (j : Job). is_transfer j.instr.op) js

-- where the jobs lead whose transfer goes by the value that `v` gives
abbrev pub exit_of : Option Job → (Job → ℕ) → PacketState → PacketStep
exit_of None v u = Went u
exit_of (Some j) v u = exit_by j.instr.op (v j) j.instr.label u

found_one : (test : Instr → Bool) (js : List Job) (j : Job) → Member j js → test j.instr ≡ true
    → ((i : Job) → Member i js → test i.instr ≡ true → i ≡ j) → find test (instrs js) ≡ Some j.instr
found_one test js j m p alone = go (find test (instrs js)) refl
  where
    go : (o : Option Instr) → find test (instrs js) ≡ o → find test (instrs js) ≡ Some j.instr
    go None e = let k = each_member (λ (i : Instr). test i ≡ false) (instrs js) j.instr (none_found test (instrs js) e)
        (member_map (λ (j : Job). j.instr) js j m) in let z : true ≡ false = sym p ∙ k in absurd (cc z)
    go (Some i) e =
        let f = found test (instrs js) i e in
        let r = member_map_of (λ (j : Job). j.instr) js i f.0 in
        let same = alone r.0 r.1 (ap test r.2 ∙ f.1) in
        e ∙ ap Some (sym r.2 ∙ ap (λ (k : Job). k.instr) same)

found_none : (test : Instr → Bool) (js : List Job) → ((i : Job) → Member i js → test i.instr ≡ false) → find test (instrs js) ≡ None
found_none test js h = find_none test (instrs js) (Rattle.un_lists.proofs.Lists.each_map (λ i. test i ≡ false) (λ (j : Job). j.instr) js
    (each_of (λ (i : Job). test i.instr ≡ false) js h))

goes_jump : (does : Does) (v w : ℕ) → goes_by does v w ≡ true → jumps_to does ≡ true
goes_jump (Jumps when) v w h = refl
goes_jump _ v w h = absurd (cc h)

going_transfer : (s : PacketState) (new : List ℕ) (i : Instr) → jumps s new i ≡ true → is_transfer i.op ≡ true
going_transfer s new i h = jump_transfer i.op (goes_jump (does_of i.op) (operand_in s i 0) (operand_of new i 0) h)

-- a jump is taken by one of the two values
taken_by : (when : When) (old new : ℕ)
    → is_taken when old new ≡ is_taken when (if tests_new when then new else old) (if tests_new when then new else old)
taken_by Always old new = refl
taken_by IfTrue old new = refl
taken_by IfFalse old new = refl
taken_by IfNewTrue old new = refl
taken_by IfNewFalse old new = refl

false_or_true : (b : Bool) → (b ≡ true) ⊎ (b ≡ false)
false_or_true true = inl refl
false_or_true false = inr refl

pub is_false : (b : Bool) → (b ≡ true → ⊥) → b ≡ false
is_false true h = absurd (h refl)
is_false false h = refl

module _ (c : ℕ) (js : List Job) (same : Each (λ j. j.cycle ≡ c) js) (one : Pairwise (NotBoth is_control) js) (s u : PacketState) where
  abbrev new : List ℕ
  new = regs_after s (instrs js) s.regs

  abbrev v : Job → ℕ
  v j = tested s new j.instr

  alone : (j : Job) → Member j js → is_transfer j.instr.op ≡ true → (i : Job) → Member i js → is_transfer i.instr.op ≡ true → i ≡ j
  alone j m p i n q =
      let ci = each_member (λ (a : Job). a.cycle ≡ c) js i same n in
      let cj = each_member (λ (a : Job). a.cycle ≡ c) js j same m in
      ⊎_elim (λ (e : i ≡ j). e) (λ (r : NotBoth is_control i j ⊎ NotBoth is_control j i). ⊎_elim
      (λ (x : NotBoth is_control i j). absurd (x (ci ∙ sym cj) (transfer_control i.instr.op q) (transfer_control j.instr.op p)))
      (λ (x : NotBoth is_control j i). absurd (x (cj ∙ sym ci) (transfer_control j.instr.op p) (transfer_control i.instr.op q))) r)
      (pairwise_two (NotBoth is_control) js i j one n m)

  by_none : transfer_of js ≡ None → leads (the_return (instrs js)) s (instrs js) u ≡ Went u
  by_none e =
      let none = none_found (λ (j : Job). is_transfer j.instr.op) js e in
      let no : (i : Job) → Member i js → is_transfer i.instr.op ≡ true
      → ⊥ = λ i m p. let k = each_member (λ (j : Job). is_transfer j.instr.op ≡ false) js i none m in let z : true ≡ false = sym p
      ∙ k in absurd (cc z) in
      let r = found_none (λ (i : Instr). is_return i.op) js (λ i m. is_false (is_return i.instr.op)
      (λ p. no i m (return_transfer i.instr.op p))) in
      let j = found_none (jumps s new) js (λ i m. is_false (jumps s new i.instr) (λ p. no i m (going_transfer s new i.instr p))) in
      ap (λ (x : Option Instr). leads x s (instrs js) u) r ∙ ap (λ (x : Option Instr). goes_on x u) j

  -- a jump that is taken or not
  by_jump : (j : Job) → Member j js → is_transfer j.instr.op ≡ true → is_return j.instr.op ≡ false
      → leads (the_return (instrs js)) s (instrs js) u ≡ (if jumps s new j.instr then Jumped (unwrap_or j.instr.label []) u else Went u)
  by_jump j m p q =
      let r = found_none (λ (i : Instr). is_return i.op) js (λ i n. is_false (is_return i.instr.op) (λ x.
      let e = alone j m p i n (return_transfer i.instr.op x) in let z : true ≡ false = sym x ∙ ap (λ (k : Job). is_return k.instr.op) e
      ∙ q in absurd (cc z))) in
      ap (λ (x : Option Instr). leads x s (instrs js) u) r ∙ ⊎_elim
      (λ (t : jumps s new j.instr ≡ true).
      ap (λ (x : Option Instr). goes_on x u) (found_one (jumps s new) js j m t
      (λ i n x. alone j m p i n (going_transfer s new i.instr x)))
      ∙ sym (ap (λ (b : Bool). if b then Jumped (unwrap_or j.instr.label []) u else Went u) t))
      (λ (f : jumps s new j.instr ≡ false).
      ap (λ (x : Option Instr). goes_on x u) (found_none (jumps s new) js (λ i n. is_false (jumps s new i.instr) (λ x.
      let e = alone j m p i n (going_transfer s new i.instr x) in let z : true ≡ false = sym x ∙ ap (λ (k : Job). jumps s new k.instr) e
      ∙ f in absurd (cc z))))
      ∙ sym (ap (λ (b : Bool). if b then Jumped (unwrap_or j.instr.label []) u else Went u) f))
      (false_or_true (jumps s new j.instr))

  by_return : (j : Job) → Member j js → is_return j.instr.op ≡ true
      → leads (the_return (instrs js)) s (instrs js) u ≡ Stopped (Returned (slice_index u.regs 0) (operand_in s j.instr 0)) u
  by_return j m p =
      ap (λ (x : Option Instr). leads x s (instrs js) u)
      (found_one (λ (i : Instr). is_return i.op) js j m p (λ i n x. alone j m (return_transfer j.instr.op p) i n
      (return_transfer i.instr.op x)))

  by_what : (does : Does) (j : Job) → Member j js → does_of j.instr.op ≡ does → (jumps_to does || returns does) ≡ true
      → leads (the_return (instrs js)) s (instrs js) u ≡ exit_as does (v j) j.instr.label u
  by_what (Jumps when) j m e h =
      let before = operand_in s j.instr 0 in
      let behind = operand_of new j.instr 0 in
      let exit = λ (b : Bool). if b then Jumped (unwrap_or j.instr.label []) u else Went u in
      by_jump j m (ap (λ (d : Does). jumps_to d || returns d) e) (ap returns e)
      ∙ ap (λ (d : Does). exit (goes_by d before behind)) e
      ∙ ap exit (taken_by when before behind)
      ∙ sym (ap (λ (d : Does). let w = if branches_new d then behind else before in exit (is_taken when w w)) e)
  by_what Returns j m e h =
      by_return j m (ap returns e)
      ∙ sym (ap (λ (d : Does). Stopped (Returned (slice_index u.regs 0) (if branches_new d then operand_of new j.instr 0
      else operand_in s j.instr 0)) u) e)
  by_what _ j m e h = absurd (cc h)

  pub leads_exit : leads (the_return (instrs js)) s (instrs js) u ≡ exit_of (transfer_of js) v u
  leads_exit = go (transfer_of js) refl
    where
      go : (o : Option Job) → transfer_of js ≡ o → leads (the_return (instrs js)) s (instrs js) u ≡ exit_of o v u
      go None e = by_none e
      go (Some j) e = let f = found (λ (j : Job). is_transfer j.instr.op) js j e in by_what (does_of j.instr.op) j f.0 refl f.1
