-- Occupied temporaries hold their values, where each load so far found the value of its result and each call's reply gave that
-- of its own. Nothing is said of the cycles from which registers can be read.
use Rattle.std.proofs.Common.{ℕ, zero, suc, ◌≡◌, ◌≢◌, ◌<◌, ◌≤◌, ◌+◌, ◌-◌, ◌*◌, ◌%◌, Bool, true, false, List, [], ◌∷◌, length, map, get_or}
use Rattle.std.proofs.Common.{inl, inr, ⊎_elim, refl, sym, ap, ◌∙◌, subst, arith}
use Rattle.std.specs.Prelude.{Option, Some, None, slice_index, nat_eq, unwrap_or, if◌then◌else◌}
use Rattle.std.specs.List.{find}
use Rattle.std.proofs.lemmas.Bool.{cases_lt}
use Rattle.un_isa.specs.Operands.{is_alu}
use Rattle.un_isa.specs.Words.{eval, address_of}
use Rattle.un_isa.specs.Tables.{in_mask}
use Rattle.un_isa.specs.declared.op.Op.{Op}
use Rattle.un_isa.specs.declared.op.Op.TheVariants.{Mov, Load, Store, Call, Spill, Reload, P2R, R2P, Enter, Leave, Nop}
use Rattle.un_isa.specs.declared.reg.Reg.{Reg}
use Rattle.un_isa.specs.declared.instr.Instr.{Instr}
use Rattle.un_isa.specs.declared.table.Table.{Table}
use Rattle.un_isa.specs.Does.{is_call, moves_stack, is_copy, writes_memory}
use Rattle.un_isa.proofs.DoesLaws.{new_transfer}
use Rattle.un_ir.specs.declared.function.Kind.{Kind}
use Rattle.un_ir.specs.declared.function.Kind.TheVariants.{Pred}
use Rattle.un_isa.specs.declared.reg.TheConstants.{STACK, GENERALS, REGISTERS, FIRST_SLOT}
use Rattle.un_packet.specs.Step.{PacketState, value_of, value_by, reg_in, operand_in, frame_place}
use Rattle.un_simulation.specs.Simulation.{as_held, held_at}
use Rattle.un_lists.proofs.Lists.{Each, Member, each_member, each_of, each_map, member_map, member_map_of, found, none_found, pairwise_map}
use Rattle.un_lists.proofs.Lists.{pairwise_more}
use Rattle.un_emit.proofs.Packet.{puts, given, given_by, slot, slot_by, AreApart, length-puts, puts_other, puts_own}
use Rattle.un_emit.proofs.Settled.{settled, the_call, CanAnswer, clobbered_by, first_result, settled_frame, settled_frame_start}
use Rattle.un_emit.proofs.Settled.{length-settled_regs, reg_kept, reg_written, reg_result}
use Rattle.un_emit.proofs.Timed.{Job, Temps, Stands, IsReadAt, IsPlain, numbers, ReadsAll, Gives, Copies, IsInSlot, Deed, computes}
use Rattle.un_emit.proofs.Timed.{moves, spills, reloads, from_pred, to_pred, loads, stores, calls, shifts, leaves, tests, rests, AreTemps, NotBoth}
use Rattle.un_emit.proofs.Timed.{Together, instrs}
use Rattle.un_emit.proofs.Deeds.{alu_op, transfer_op, shift_op, apart_targets, unwritten}
use Rattle.un_emit.proofs.InTime.{CallsFit, given_by_call, lands_written, has_call, clobbers_when, stands_before, never_clobbered}
use Rattle.un_emit.proofs.InTime.{stack_unwritten}
use Rattle.un_emit.proofs.FramePlace.{IsFrame, frame_place_is, held_reg, held_slot, held_wide, held_pred, held_alike}

-- a copy gives the value that it reads, and what computes gives what it computes of the values that it reads
pub record Flows (val : ℕ → ℕ) (j : Job) : Type 0 where
  pub copied : (x y : ℕ) → is_copy j.instr.op ≡ true → j.reads ≡ x ∷ [] → j.gives ≡ Some y → val y ≡ val x
  pub computed : (y : ℕ) → is_alu j.instr.op ≡ true → is_copy j.instr.op ≡ false → j.gives ≡ Some y
      → val y ≡ eval j.instr.op (map val j.reads) j.instr.imm

-- predicates are 0 or 1
abbrev pub AreTruths : Temps → (ℕ → ℕ) → Type 0
AreTruths T val = (x : ℕ) → T.active x ≡ true → T.kind x ≡ Pred → val x < 2

abbrev pub uses_frame : Op → Bool
uses_frame Spill = true
uses_frame Reload = true
uses_frame _ = false

-- the stack pointer after cycle c, and after the jobs of the next one: Enter and Leave move it, and the frame is used where it
-- has its first word's address
pub record Stacks (stack : ℕ → ℕ) (base c : ℕ) (js : List Job) : Type 0 where
  pub moved : Each (λ j. moves_stack j.instr.op ≡ true → stack (c + 1) ≡ address_of (stack c) j.instr.imm) js
  pub kept : Each (λ j. moves_stack j.instr.op ≡ false) js → stack (c + 1) ≡ stack c
  pub framed : Each (λ j. uses_frame j.instr.op ≡ true → stack c ≡ base) js

-- after cycle c
pub record Holds (T : Temps) (val : ℕ → ℕ) (stack : ℕ → ℕ) (base slots c : ℕ) (s : PacketState) : Type 0 where
  pub long : length s.regs ≡ REGISTERS
  pub frame : length s.frame ≡ slots
  pub start : s.frame_start ≡ base
  pub held : (x : ℕ) → Stands T x c → held_at s (T.place x) ≡ as_held (T.kind x) (T.place x) (val x)
  pub stack_is : get_or s.regs STACK 0 ≡ stack c

-- ---- operands

values_of_numbers : (s : PacketState) (rs : List Reg) → map (reg_in s) rs ≡ map (slice_index s.regs) (numbers rs)
values_of_numbers s [] = refl
values_of_numbers s (r ∷ rs) = ap (λ vs. slice_index s.regs r.0 ∷ vs) (values_of_numbers s rs)

values_of_places : (T : Temps) (val : ℕ → ℕ) (s : PacketState) (xs : List ℕ) → Each (λ x. get_or s.regs (T.place x) 0 ≡ val x) xs
    → map (slice_index s.regs) (map T.place xs) ≡ map val xs
values_of_places T val s [] h = refl
values_of_places T val s (x ∷ xs) h = ap (λ v. v ∷ map (slice_index s.regs) (map T.place xs)) h.0
    ∙ ap (λ vs. val x ∷ vs) (values_of_places T val s xs h.1)

module _ (t : Table) (T : Temps) (val : ℕ → ℕ) (stack : ℕ → ℕ) (base slots c : ℕ) where
  -- a register that is read in the next cycle holds its temporary's value
  pub reg_holds : (s : PacketState) (x : ℕ) → AreTemps T slots → Holds T val stack base slots c s → IsReadAt T x (c + 1)
      → T.place x < FIRST_SLOT → get_or s.regs (T.place x) 0 ≡ as_held (T.kind x) (T.place x) (val x)
  reg_holds s x h k r lt = sym (held_reg s (T.place x) lt) ∙ k.held x (stands_before T slots c x h r)

  each_holds : (s : PacketState) (xs : List ℕ) → AreTemps T slots → Holds T val stack base slots c s → Each (λ x. IsReadAt T x (c + 1)) xs
      → Each (λ x. T.place x < FIRST_SLOT) xs → Each (λ x. IsPlain T x) xs → Each (λ x. get_or s.regs (T.place x) 0 ≡ val x) xs
  each_holds s [] h k r lt p = tt
  each_holds s (x ∷ xs) h k r lt p = (reg_holds s x h k r.0 lt.0 ∙ p.0 (val x), each_holds s xs h k r.1 lt.1 p.1)

  -- the operands have the values of the temporaries that are read
  pub operands : (s : PacketState) (j : Job) → AreTemps T slots → Holds T val stack base slots c s → j.cycle ≡ c + 1 → ReadsAll T j
      → map (reg_in s) j.instr.srcs ≡ map val j.reads
  operands s j h k now r =
      let read = subst (λ n. Each (λ x. IsReadAt T x n) j.reads) now r.read in
      values_of_numbers s j.instr.srcs ∙ ap (map (slice_index s.regs)) r.srcs
      ∙ values_of_places T val s j.reads (each_holds s j.reads h k read r.regs r.plain)

  -- the operand of a copy of a register
  one_operand : (s : PacketState) (j : Job) (x : ℕ) → numbers j.instr.srcs ≡ T.place x ∷ []
      → map (reg_in s) j.instr.srcs ≡ get_or s.regs (T.place x) 0 ∷ []
  one_operand s j x e = values_of_numbers s j.instr.srcs ∙ ap (map (slice_index s.regs)) e

  copied_from : (s : PacketState) (j : Job) (x y : ℕ) → AreTemps T slots → Holds T val stack base slots c s → j.cycle ≡ c + 1
      → Copies t T j x y → T.place x < FIRST_SLOT → get_or s.regs (T.place x) 0 ≡ as_held (T.kind x) (T.place x) (val x)
  copied_from s j x y h k now q lt = reg_holds s x h k (subst (IsReadAt T x) now q.read) lt

  -- ---- what a copy gives

  -- a value stands in the place of a copy as the value that it reads
  same_value : (j : Job) (x y : ℕ) → Flows val j → is_copy j.instr.op ≡ true → Copies t T j x y
      → as_held (T.kind x) (T.place y) (val x) ≡ as_held (T.kind y) (T.place y) (val y)
  same_value j x y f o q =
      let g = q.given in
      ap (λ (k : Kind). as_held k (T.place y) (val x)) (sym q.kind)
      ∙ ap (λ v. as_held (T.kind y) (T.place y) v) (sym (f.copied x y o q.reads g.gives))

  given_plain : (op : Op) (s : PacketState) (i : Instr) → moves_stack op ≡ false → given_by op s i ≡ value_of s i
  given_plain Enter s i h = absurd (cc h)
  given_plain Leave s i h = absurd (cc h)
  given_plain _ s i h = refl

  mov_value : (s : PacketState) (i : Instr) (v : ℕ) → i.op ≡ Mov → map (reg_in s) i.srcs ≡ v ∷ [] → given s i ≡ v
  mov_value s i v o e = ap (λ (op : Op). given_by op s i) o ∙ ap (λ (op : Op). value_by op s i) o
      ∙ ap (λ (op : Op). eval op (map (reg_in s) i.srcs) i.imm) o ∙ ap (λ vs. eval Mov vs i.imm) e

  p2r_value : (s : PacketState) (i : Instr) (v : ℕ) → i.op ≡ P2R → map (reg_in s) i.srcs ≡ v ∷ [] → v < 2 → given s i ≡ v * 255
  p2r_value s i v o e lt =
      ap (λ (op : Op). given_by op s i) o ∙ ap (λ (op : Op). value_by op s i) o ∙ ap (λ (op : Op). eval op (map (reg_in s) i.srcs) i.imm) o
      ∙ ap (λ vs. eval P2R vs i.imm) e ∙ widened v lt
    where
      widened : (n : ℕ) → n < 2 → (if nat_eq n 0 then 0 else 255) ≡ n * 255
      widened zero lt = refl
      widened (suc zero) lt = refl
      widened (suc (suc n)) lt = absurd (omega arith)

  r2p_value : (s : PacketState) (i : Instr) (v : ℕ) → i.op ≡ R2P → map (reg_in s) i.srcs ≡ v * 255 ∷ [] → v < 2 → given s i ≡ v
  r2p_value s i v o e lt =
      ap (λ (op : Op). given_by op s i) o ∙ ap (λ (op : Op). value_by op s i) o ∙ ap (λ (op : Op). eval op (map (reg_in s) i.srcs) i.imm) o
      ∙ ap (λ vs. eval R2P vs i.imm) e ∙ narrowed v lt
    where
      narrowed : (n : ℕ) → n < 2 → n * 255 % 2 ≡ n
      narrowed zero lt = refl
      narrowed (suc zero) lt = refl
      narrowed (suc (suc n)) lt = absurd (omega arith)

  reload_value : (s : PacketState) (i : Instr) (n : ℕ) → i.op ≡ Reload → frame_place s i ≡ Some n → given s i ≡ get_or s.frame n 0
  reload_value s i n o e = ap (λ (op : Op). given_by op s i) o ∙ ap (λ (op : Op). value_by op s i) o
      ∙ ap (λ (p : Option ℕ). slice_index s.frame (unwrap_or p 0)) e

  pub frame_at : (s : PacketState) (j : Job) (x : ℕ) → IsFrame base slots → Holds T val stack base slots c s
      → (uses_frame j.instr.op ≡ true → stack c ≡ base) → uses_frame j.instr.op ≡ true → IsInSlot T slots j x
      → frame_place s j.instr ≡ Some (T.place x - FIRST_SLOT)
  frame_at s j x f k st u q =
      frame_place_is s j.instr base slots (T.place x - FIRST_SLOT) f (k.stack_is ∙ st u) k.start k.frame q.within q.imm

  -- what a job gives in a register that it writes itself
  pub gives_value : (s : PacketState) (j : Job) (x : ℕ) → AreTemps T slots → AreTruths T val → IsFrame base slots
      → Holds T val stack base slots c s → j.cycle ≡ c + 1 → Flows val j
      → (uses_frame j.instr.op ≡ true → stack c ≡ base) → (j.instr.op ≡ Load → (y : ℕ) → j.gives ≡ Some y → val y ≡ value_of s j.instr)
      → Deed t T slots j → j.gives ≡ Some x → T.place x < FIRST_SLOT → (j.instr.op ≡ Call → ⊥)
      → given s j.instr ≡ as_held (T.kind x) (T.place x) (val x)
  gives_value s j x h tr fr k now f st ld (computes y a n r g p) e lt nc =
      let q : y ≡ x = let z = g.given in cc (z.gives, e) in
      let op = alu_op j.instr.op a in
      subst (λ z. given s j.instr ≡ as_held (T.kind z) (T.place z) (val z)) q (
      given_plain j.instr.op s j.instr op.shifts ∙ op.value s j.instr ∙ ap (λ vs. eval j.instr.op vs j.instr.imm) (operands s j h k now r)
      ∙ sym (f.computed y a n (let z = g.given in z.gives)) ∙ sym (p (val y)))
  gives_value s j x h tr fr k now f st ld (moves w y o q lx ly) e lt nc =
      let z = q.copies in let g = z.given in let same : y ≡ x = cc (g.gives, e) in
      subst (λ z. given s j.instr ≡ as_held (T.kind z) (T.place z) (val z)) same (
      mov_value s j.instr (get_or s.regs (T.place w) 0) o (one_operand s j w q.srcs) ∙ copied_from s j w y h k now z (omega arith)
      ∙ held_alike (T.kind w) (T.place w) (T.place y) (val w) (inl lx) (inl ly) ∙ same_value j w y f (ap is_copy o) z)
  gives_value s j x h tr fr k now f st ld (spills w y o z sr d p q) e lt nc =
      let g = z.given in let same : y ≡ x = cc (g.gives, e) in let b = q.slot in let b' : FIRST_SLOT ≤ T.place x =
      subst (λ n. FIRST_SLOT ≤ T.place n) same b in absurd (omega arith)
  gives_value s j x h tr fr k now f st ld (reloads w y o z sr d q ly) e lt nc =
      let g = z.given in let same : y ≡ x = cc (g.gives, e) in
      subst (λ z. given s j.instr ≡ as_held (T.kind z) (T.place z) (val z)) same (
      reload_value s j.instr (T.place w - FIRST_SLOT) o (frame_at s j w fr k st (ap uses_frame o) q)
      ∙ sym (held_slot s (T.place w) q.slot) ∙ k.held w (stands_before T slots c w h (subst (IsReadAt T w) now z.read))
      ∙ held_alike (T.kind w) (T.place w) (T.place y) (val w) (inr q.slot) (inl ly) ∙ same_value j w y f (ap is_copy o) z)
  gives_value s j x h tr fr k now f st ld (from_pred w y o q kind lo hi ly) e lt nc =
      let z = q.copies in let g = z.given in let same : y ≡ x = cc (g.gives, e) in
      let r = subst (IsReadAt T w) now z.read in
      let v : get_or s.regs (T.place w) 0 ≡ val w = copied_from s j w y h k now z hi ∙ ap (λ (i : Kind). as_held i (T.place w) (val w)) kind
      ∙ held_pred (T.place w) (val w) lo hi in
      let small : get_or s.regs (T.place w) 0 < 2 = let b = tr w r.active kind in omega arith in
      subst (λ z. given s j.instr ≡ as_held (T.kind z) (T.place z) (val z)) same (
      p2r_value s j.instr (get_or s.regs (T.place w) 0) o (one_operand s j w q.srcs) small ∙ ap (λ n. n * 255) v
      ∙ sym (held_wide (T.place y) (val w) (inl ly)) ∙ ap (λ (i : Kind). as_held i (T.place y) (val w)) (sym kind)
      ∙ same_value j w y f (ap is_copy o) z)
  gives_value s j x h tr fr k now f st ld (to_pred w y o q kind lw lo hi) e lt nc =
      let z = q.copies in let g = z.given in let same : y ≡ x = cc (g.gives, e) in
      let r = subst (IsReadAt T w) now z.read in
      let v : get_or s.regs (T.place w) 0 ≡ val w * 255 = copied_from s j w y h k now z (omega arith)
      ∙ ap (λ (i : Kind). as_held i (T.place w) (val w)) kind ∙ held_wide (T.place w) (val w) (inl lw) in
      subst (λ z. given s j.instr ≡ as_held (T.kind z) (T.place z) (val z)) same (
      r2p_value s j.instr (val w) o (one_operand s j w q.srcs ∙ ap (λ n. n ∷ []) v) (tr w r.active kind)
      ∙ sym (held_pred (T.place y) (val w) lo hi) ∙ ap (λ (i : Kind). as_held i (T.place y) (val w)) (sym kind)
      ∙ same_value j w y f (ap is_copy o) z)
  gives_value s j x h tr fr k now f st ld (loads y o r g p) e lt nc =
      let z = g.given in let q : y ≡ x = cc (z.gives, e) in
      subst (λ z. given s j.instr ≡ as_held (T.kind z) (T.place z) (val z)) q
      (given_plain j.instr.op s j.instr (ap moves_stack o) ∙ sym (ld o y z.gives) ∙ sym (p (val y)))
  gives_value s j x h tr fr k now f st ld (stores o r g d) e lt nc = absurd (cc (g, e))
  gives_value s j x h tr fr k now f st ld (calls o r d g) e lt nc = absurd (nc o)
  gives_value s j x h tr fr k now f st ld (shifts o sr g) e lt nc = absurd (cc (g, e))
  gives_value s j x h tr fr k now f st ld (leaves o old r d g) e lt nc = absurd (cc (g, e))
  gives_value s j x h tr fr k now f st ld (tests y n d g) e lt nc = absurd (cc (g, e))
  gives_value s j x h tr fr k now f st ld (rests o sr d g) e lt nc = absurd (cc (g, e))

  -- ---- slots

  slot_of_spill : (s : PacketState) (i : Instr) (n : ℕ) → i.op ≡ Spill → frame_place s i ≡ Some n → slot s i ≡ Some n
  slot_of_spill s i n o e = ap (λ (op : Op). slot_by op s i) o ∙ ap (λ (p : Option ℕ). Some (unwrap_or p 0)) e

  no_slot : (s : PacketState) (i : Instr) (op : Op) (r : ℕ) → i.op ≡ op → slot_by op s i ≡ None → slot s i ≡ Some r → ⊥
  no_slot s i op r o n e = let k : None ≡ Some r = sym n ∙ ap (λ (p : Op). slot_by p s i) (sym o) ∙ e in absurd (cc k)

  -- the word of the frame that a job writes is the slot of what it gives
  abbrev pub WritesSlot : Job → ℕ → Type 0
  WritesSlot j r = (j.instr.op ≡ Spill) × ((x : ℕ) × (Gives t T j x) × (FIRST_SLOT ≤ T.place x) × (T.place x - FIRST_SLOT ≡ r))

  writes_slot : (s : PacketState) (j : Job) (r : ℕ) → IsFrame base slots → Holds T val stack base slots c s
      → (uses_frame j.instr.op ≡ true → stack c ≡ base) → Deed t T slots j → slot s j.instr ≡ Some r → WritesSlot j r
  writes_slot s j r fr k st (computes y a n q g p) e = absurd (no_slot s j.instr j.instr.op r refl ((alu_op j.instr.op a).slot s j.instr) e)
  writes_slot s j r fr k st (moves w y o q lx ly) e = absurd (no_slot s j.instr Mov r o refl e)
  writes_slot s j r fr k st (spills w y o z sr d p q) e =
      let g : Some (T.place y - FIRST_SLOT) ≡ Some r =
      sym (slot_of_spill s j.instr (T.place y - FIRST_SLOT) o (frame_at s j y fr k st (ap uses_frame o) q)) ∙ e in
      let n : T.place y - FIRST_SLOT ≡ r = cc g in (o, (y, z.given, q.slot, n))
  writes_slot s j r fr k st (reloads w y o z sr d q ly) e = absurd (no_slot s j.instr Reload r o refl e)
  writes_slot s j r fr k st (from_pred w y o q kind lo hi ly) e = absurd (no_slot s j.instr P2R r o refl e)
  writes_slot s j r fr k st (to_pred w y o q kind lw lo hi) e = absurd (no_slot s j.instr R2P r o refl e)
  writes_slot s j r fr k st (loads y o q g p) e = absurd (no_slot s j.instr Load r o refl e)
  writes_slot s j r fr k st (stores o q g d) e = absurd (no_slot s j.instr Store r o refl e)
  writes_slot s j r fr k st (calls o q d g) e = absurd (no_slot s j.instr Call r o refl e)
  writes_slot s j r fr k st (shifts o sr g) e = absurd (no_slot s j.instr j.instr.op r refl ((shift_op j.instr.op o).slot s j.instr) e)
  writes_slot s j r fr k st (leaves o old q d g) e = absurd (no_slot s j.instr j.instr.op r refl
      ((transfer_op j.instr.op o).slot s j.instr) e)
  writes_slot s j r fr k st (tests y n d g) e = absurd (no_slot s j.instr j.instr.op r refl
      ((transfer_op j.instr.op (new_transfer j.instr.op n.new)).slot s j.instr) e)
  writes_slot s j r fr k st (rests o sr d g) e = absurd (no_slot s j.instr Nop r o refl e)

  -- what a job gives in a slot
  gives_slot : (s : PacketState) (j : Job) (x : ℕ) → AreTemps T slots → IsFrame base slots → Holds T val stack base slots c s
      → j.cycle ≡ c + 1 → Flows val j → (uses_frame j.instr.op ≡ true → stack c ≡ base)
      → Deed t T slots j → CallsFit t → FIRST_SLOT ≤ T.place x → T.place x - FIRST_SLOT < slots → j.gives ≡ Some x
      → (slot s j.instr ≡ Some (T.place x - FIRST_SLOT)) × (operand_in s j.instr 0 ≡ as_held (T.kind x) (T.place x) (val x))
  gives_slot s j x h fr k now f st (computes y a n q g p) fit le lt e = let z = g.given in let same : y ≡ x = cc (z.gives, e) in let b =
      g.reg in let b' : T.place x < FIRST_SLOT = subst (λ n. T.place n < FIRST_SLOT) same b in absurd (omega arith)
  gives_slot s j x h fr k now f st (moves w y o q lx ly) fit le lt e = let z = q.copies in let g = z.given in let same : y ≡ x =
      cc (g.gives, e) in let b' : T.place x < GENERALS = subst (λ n. T.place n < GENERALS) same ly in absurd (omega arith)
  gives_slot s j x h fr k now f st (spills w y o z sr d p q) fit le lt e =
      let g = z.given in let same : y ≡ x = cc (g.gives, e) in
      subst (λ n. (slot s j.instr ≡ Some (T.place n - FIRST_SLOT))
      × (operand_in s j.instr 0 ≡ as_held (T.kind n) (T.place n) (val n))) same (
        slot_of_spill s j.instr (T.place y - FIRST_SLOT) o (frame_at s j y fr k st (ap uses_frame o) q),
        ap (λ vs. slice_index vs 0) (one_operand s j w sr) ∙ copied_from s j w y h k now z (omega arith)
            ∙ held_alike (T.kind w) (T.place w) (T.place y) (val w) (inl p) (inr q.slot) ∙ same_value j w y f (ap is_copy o) z,
      )
  gives_slot s j x h fr k now f st (reloads w y o z sr d q ly) fit le lt e = let g = z.given in let same : y ≡ x = cc (g.gives, e) in
      let b' : T.place x < GENERALS = subst (λ n. T.place n < GENERALS) same ly in absurd (omega arith)
  gives_slot s j x h fr k now f st (from_pred w y o q kind lo hi ly) fit le lt e = let z = q.copies in let g = z.given in let same : y ≡ x =
      cc (g.gives, e) in let b' : T.place x < GENERALS = subst (λ n. T.place n < GENERALS) same ly in absurd (omega arith)
  gives_slot s j x h fr k now f st (to_pred w y o q kind lw lo hi) fit le lt e = let z = q.copies in let g = z.given in let same : y ≡ x =
      cc (g.gives, e) in let b' : T.place x < FIRST_SLOT = subst (λ n. T.place n < FIRST_SLOT) same hi in absurd (omega arith)
  gives_slot s j x h fr k now f st (loads y o q g p) fit le lt e = let z = g.given in let same : y ≡ x = cc (z.gives, e) in let b = g.reg in
      let b' : T.place x < FIRST_SLOT = subst (λ n. T.place n < FIRST_SLOT) same b in absurd (omega arith)
  gives_slot s j x h fr k now f st (stores o q g d) fit le lt e = absurd (cc (g, e))
  gives_slot s j x h fr k now f st (calls o q d (inl g)) fit le lt e = absurd (cc (g, e))
  gives_slot s j x h fr k now f st (calls o q d (inr g)) fit le lt e = let z = g.1 in let same : g.0 ≡ x = cc (z.gives, e) in
      let b : T.place x ≡ t.result = subst (λ n. T.place n ≡ t.result) same g.2 in let r = fit.small in absurd (omega arith)
  gives_slot s j x h fr k now f st (shifts o sr g) fit le lt e = absurd (cc (g, e))
  gives_slot s j x h fr k now f st (leaves o old q d g) fit le lt e = absurd (cc (g, e))
  gives_slot s j x h fr k now f st (tests y n d g) fit le lt e = absurd (cc (g, e))
  gives_slot s j x h fr k now f st (rests o sr d g) fit le lt e = absurd (cc (g, e))

  -- what holds of the values of a packet's jobs in state s
  pub record Finds (js : List Job) (s : PacketState) : Type 0 where
    pub flows : Each (Flows val) js
    pub stacks : Stacks stack base c js
    pub loaded : Each (λ j. j.instr.op ≡ Load → (y : ℕ) → j.gives ≡ Some y → val y ≡ value_of s j.instr) js
    pub replied : Each (λ j. j.instr.op ≡ Call → (y : ℕ) → j.gives ≡ Some y → val y ≡ first_result s.replies) js

  module _ (js : List Job) (s : PacketState) (h : AreTemps T slots) (w : Together t T slots (c + 1) js) (tr : AreTruths T val)
      (fr : IsFrame base slots) (k : Holds T val stack base slots c s) (f : Finds js s) where
    now_at : (j : Job) → Member j js → j.cycle ≡ c + 1
    now_at j m = each_member (λ (a : Job). a.cycle ≡ c + 1) js j w.cycle m

    framed_at : (j : Job) → Member j js → uses_frame j.instr.op ≡ true → stack c ≡ base
    framed_at j m = let g = f.stacks in each_member (λ (a : Job). uses_frame a.instr.op ≡ true → stack c ≡ base) js j g.framed m

    slot_of : (j : Job) (r : ℕ) → Member j js → slot s j.instr ≡ Some r → WritesSlot j r
    slot_of j r m e = writes_slot s j r fr k (framed_at j m) (each_member (Deed t T slots) js j w.deeds m) e

    -- at most one word of the frame is written
    apart_slots : AreApart (slot s) (instrs js)
    apart_slots = pairwise_map (λ i j. (r : ℕ) → slot s i ≡ Some r → slot s j ≢ Some r) (λ (j : Job). j.instr) js
        (pairwise_more (NotBoth writes_memory) (λ (i j : Job). (r : ℕ) → slot s i.instr ≡ Some r → slot s j.instr ≢ Some r) js
        (λ i j m n b r p q. let x = slot_of i r m p in let y = slot_of j r n q in
        b (now_at i m ∙ sym (now_at j n)) (ap writes_memory x.0) (ap writes_memory y.0)) w.one_write)

    -- no job writes the slot of a temporary that stands from before
    slot_unwritten : (x : ℕ) → Stands T x (c + 1) → T.from x ≤ c → FIRST_SLOT ≤ T.place x
        → Each (λ i. slot s i ≢ Some (T.place x - FIRST_SLOT)) (instrs js)
    slot_unwritten x st old le = each_map (λ i. slot s i ≢ Some (T.place x - FIRST_SLOT)) (λ (j : Job). j.instr) js
        (each_of (λ (j : Job). slot s j.instr ≢ Some (T.place x - FIRST_SLOT)) js (λ j m e.
        let q = (slot_of j (T.place x - FIRST_SLOT) m e).1 in
        let g = q.1 in
        let cj = now_at j m in
        let a = h.spans q.0 g.active in
        let from : T.from q.0 ≡ c + 1 = g.from ∙ cj in
        let here : Stands T q.0 (c + 1) = record { active = g.active; begun = omega arith; held = omega arith } in
        let places : T.place q.0 ≡ T.place x = let u = q.2 in let v = q.3 in omega arith in
        let same : q.0 ≡ x = h.apart q.0 x (c + 1) here st places in
        let from_x : T.from x ≡ c + 1 = ap T.from (sym same) ∙ from in omega arith))

    call_result : (j : Job) (x : ℕ) → Deed t T slots j → j.instr.op ≡ Call → j.gives ≡ Some x → (T.place x ≡ t.result) × IsPlain T x
    call_result j x (computes y a n r g p) o e = let q = alu_op j.instr.op a in let b : true ≡ false = sym (ap is_call o)
        ∙ q.calls in absurd (cc b)
    call_result j x (moves w y p q lx ly) o e = let b : Mov ≡ Call = sym p ∙ o in absurd (cc b)
    call_result j x (spills w y p z sr d i q) o e = let b : Spill ≡ Call = sym p ∙ o in absurd (cc b)
    call_result j x (reloads w y p z sr d q ly) o e = let b : Reload ≡ Call = sym p ∙ o in absurd (cc b)
    call_result j x (from_pred w y p q kind lo hi ly) o e = let b : P2R ≡ Call = sym p ∙ o in absurd (cc b)
    call_result j x (to_pred w y p q kind lw lo hi) o e = let b : R2P ≡ Call = sym p ∙ o in absurd (cc b)
    call_result j x (loads y p r g i) o e = let b : Load ≡ Call = sym p ∙ o in absurd (cc b)
    call_result j x (stores p r g d) o e = let b : Store ≡ Call = sym p ∙ o in absurd (cc b)
    call_result j x (calls p r d (inl g)) o e = absurd (cc (g, e))
    call_result j x (calls p r d (inr g)) o e = let z = g.1 in let same : g.0 ≡ x = cc (z.gives, e) in
        subst (λ n. (T.place n ≡ t.result) × IsPlain T n) same (g.2, g.3)
    call_result j x (shifts p sr g) o e = absurd (cc (g, e))
    call_result j x (leaves p old r d g) o e = absurd (cc (g, e))
    call_result j x (tests y n d g) o e = absurd (cc (g, e))
    call_result j x (rests p sr d g) o e = absurd (cc (g, e))

    -- the state after the packet of the next cycle
    pub holds_next : (o : Option Instr) → CallsFit t → the_call (instrs js) ≡ o → CanAnswer o s.replies
        → Holds T val stack base slots (c + 1) (settled t o s.replies s (instrs js))
    holds_next o fit e can = record {
      long = length-settled_regs t o s.replies s is can ∙ k.long;
      frame = ap length frames ∙ length-puts (slot s) (λ i. operand_in s i 0) is s.frame ∙ k.frame;
      start = settled_frame_start t o s.replies s is can ∙ k.start;
      held = λ x st. ⊎_elim (λ (lt : T.place x < FIRST_SLOT). held_reg u (T.place x) lt ∙ in_reg x st lt)
          (λ (le : FIRST_SLOT ≤ T.place x). held_slot u (T.place x) le ∙ in_slot x st le) (cases_lt (T.place x) FIRST_SLOT);
      stack_is = shift_or_not (find (λ (i : Instr). moves_stack i.op) is) refl;
    }
      where
        is : List Instr
        is = instrs js

        u : PacketState
        u = settled t o s.replies s (instrs js)

        frames : (settled t o s.replies s (instrs js)).frame ≡ puts (slot s) (λ i. operand_in s i 0) (instrs js) s.frame
        frames = settled_frame t o s.replies s (instrs js) can

        long : (x : ℕ) → T.place x < FIRST_SLOT → T.place x < length s.regs
        long x lt = let a = k.long in omega arith

        before : (x : ℕ) → Stands T x (c + 1) → T.from x < c + 1 → Stands T x c
        before x st old = let b = st.held in record { active = st.active; begun = omega arith; held = omega arith }

        deed : (j : Job) → Member j js → Deed t T slots j
        deed j m = each_member (Deed t T slots) js j w.deeds m

        by_call : (x : ℕ) → Stands T x (c + 1) → (lt : T.place x < FIRST_SLOT) → clobbered_by t o (T.place x) ≡ true
            → get_or (settled t o s.replies s (instrs js)).regs (T.place x) 0 ≡ as_held (T.kind x) (T.place x) (val x)
        by_call x st lt q =
            let r = given_by_call t T slots (c + 1) js o x w e q st lt in
            let g = r.3 in
            let z = call_result r.0 x (deed r.0 r.1) r.2 g.gives in
            let v = each_member (λ (j : Job). j.instr.op ≡ Call → (y : ℕ) → j.gives ≡ Some y → val y ≡ first_result s.replies) js r.0
            f.replied r.1 r.2 x g.gives in
            reg_result t o s.replies s (instrs js) (T.place x) can (long x lt) q z.0 ∙ sym v ∙ sym (z.1 (val x))

        from_before : (x : ℕ) → Stands T x (c + 1) → (lt : T.place x < FIRST_SLOT) → clobbered_by t o (T.place x) ≡ false → T.from x < c + 1
            → get_or (settled t o s.replies s (instrs js)).regs (T.place x) 0 ≡ as_held (T.kind x) (T.place x) (val x)
        from_before x st lt q old =
            reg_kept t o s.replies s (instrs js) (T.place x) can (long x lt) q (unwritten t T slots c x js h w st (omega arith))
            ∙ sym (held_reg s (T.place x) lt) ∙ k.held x (before x st old)

        from_now : (x : ℕ) → Stands T x (c + 1) → (lt : T.place x < FIRST_SLOT) → clobbered_by t o (T.place x) ≡ false → c + 1 ≤ T.from x
            → get_or (settled t o s.replies s (instrs js)).regs (T.place x) 0 ≡ as_held (T.kind x) (T.place x) (val x)
        from_now x st lt q new =
            let b = st.begun in
            let r = w.giver x st.active (omega arith) in
            let no_call : r.0.instr.op ≡ Call → ⊥ = λ p.
            let z = call_result r.0 x (deed r.0 r.1) p r.2 in
            let a = has_call js r.0 o r.1 p e in
            let y : true ≡ false = sym (clobbers_when t o a.0 (T.place x) a.1 (ap (in_mask t.clobbered) z.0 ∙ fit.result))
            ∙ q in absurd (cc y) in
            reg_written t o s.replies s (instrs js) r.0.instr (T.place x) can (long x lt) q (apart_targets t T slots (c + 1) js h w)
            (member_map (λ (j : Job). j.instr) js r.0 r.1)
            (lands_written t T slots (c + 1) js o r.0 x fit w e r.1 r.2 lt q)
            ∙ gives_value s r.0 x h tr fr k (now_at r.0 r.1) (each_member (Flows val) js r.0 f.flows r.1) (framed_at r.0 r.1)
            (each_member (λ (j : Job). j.instr.op ≡ Load → (y : ℕ) → j.gives ≡ Some y → val y ≡ value_of s j.instr) js r.0 f.loaded r.1)
            (deed r.0 r.1) r.2 lt no_call

        in_reg : (x : ℕ) → Stands T x (c + 1) → (lt : T.place x < FIRST_SLOT)
            → get_or (settled t o s.replies s (instrs js)).regs (T.place x) 0 ≡ as_held (T.kind x) (T.place x) (val x)
        in_reg x st lt = elim (clobbered_by t o (T.place x)) as (λ b. clobbered_by t o (T.place x) ≡ b
            → get_or (settled t o s.replies s (instrs js)).regs (T.place x) 0 ≡ as_held (T.kind x) (T.place x) (val x)) [
              | true ↦ λ q. by_call x st lt q
              | false ↦ λ q. ⊎_elim (λ (old : T.from x < c + 1). from_before x st lt q old)
                  (λ (new : c + 1 ≤ T.from x). from_now x st lt q new)
                  (cases_lt (T.from x) (c + 1))
            ] refl

        slot_before : (x : ℕ) → Stands T x (c + 1) → (le : FIRST_SLOT ≤ T.place x) → T.from x < c + 1
            → get_or (settled t o s.replies s (instrs js)).frame (T.place x - FIRST_SLOT) 0 ≡ as_held (T.kind x) (T.place x) (val x)
        slot_before x st le old =
            ap (λ xs. get_or xs (T.place x - FIRST_SLOT) 0) frames
            ∙ puts_other (slot s) (λ i. operand_in s i 0) (instrs js) s.frame (T.place x - FIRST_SLOT)
            (slot_unwritten x st (omega arith) le)
            ∙ sym (held_slot s (T.place x) le) ∙ k.held x (before x st old)

        slot_now : (x : ℕ) → Stands T x (c + 1) → (le : FIRST_SLOT ≤ T.place x) → c + 1 ≤ T.from x
            → get_or (settled t o s.replies s (instrs js)).frame (T.place x - FIRST_SLOT) 0 ≡ as_held (T.kind x) (T.place x) (val x)
        slot_now x st le new =
            let b = st.begun in
            let a = h.within x st.active in
            let n = k.frame in
            let small : T.place x - FIRST_SLOT < slots = omega arith in
            let r = w.giver x st.active (omega arith) in
            let z = gives_slot s r.0 x h fr k (now_at r.0 r.1) (each_member (Flows val) js r.0 f.flows r.1) (framed_at r.0 r.1)
            (deed r.0 r.1) fit le small r.2 in
            ap (λ xs. get_or xs (T.place x - FIRST_SLOT) 0) frames
            ∙ puts_own (slot s) (λ i. operand_in s i 0) (instrs js) s.frame r.0.instr (T.place x - FIRST_SLOT) apart_slots
            (member_map (λ (j : Job). j.instr) js r.0 r.1) z.0 (omega arith) ∙ z.1

        in_slot : (x : ℕ) → Stands T x (c + 1) → (le : FIRST_SLOT ≤ T.place x)
            → get_or (settled t o s.replies s (instrs js)).frame (T.place x - FIRST_SLOT) 0 ≡ as_held (T.kind x) (T.place x) (val x)
        in_slot x st le = ⊎_elim (λ (old : T.from x < c + 1). slot_before x st le old) (λ (new : c + 1 ≤ T.from x). slot_now x st le new)
            (cases_lt (T.from x) (c + 1))

        free : clobbered_by t o STACK ≡ false
        free = never_clobbered t o STACK fit.stack

        stack_in : STACK < length s.regs
        stack_in = let a = k.long in omega arith

        shift_or_not : (q : Option Instr) → find (λ (i : Instr). moves_stack i.op) (instrs js) ≡ q
            → get_or (settled t o s.replies s (instrs js)).regs STACK 0 ≡ stack (c + 1)
        shift_or_not None q =
            let none = none_found (λ (i : Instr). moves_stack i.op) (instrs js) q in
            let g = f.stacks in
            reg_kept t o s.replies s (instrs js) STACK can stack_in free (stack_unwritten t T slots (c + 1) js h w none) ∙ k.stack_is
            ∙ sym (g.kept (each_of (λ (j : Job). moves_stack j.instr.op ≡ false) js
            (λ j m. each_member (λ (i : Instr). moves_stack i.op ≡ false) (instrs js) j.instr none
            (member_map (λ (j : Job). j.instr) js j m))))
        shift_or_not (Some i) q =
            let r = found (λ (i : Instr). moves_stack i.op) (instrs js) i q in
            let j = member_map_of (λ (j : Job). j.instr) js i r.0 in
            let op : moves_stack j.0.instr.op ≡ true = ap (λ (i : Instr). moves_stack i.op) j.2 ∙ r.1 in
            let g = f.stacks in
            reg_written t o s.replies s (instrs js) i STACK can stack_in free (apart_targets t T slots (c + 1) js h w) r.0
            ((shift_op i.op r.1).target i)
            ∙ shifted i.op i r.1 ∙ ap (λ (x : ℕ). address_of x i.imm) k.stack_is ∙ ap (λ (x : Instr). address_of (stack c) x.imm) (sym j.2)
            ∙ sym (each_member (λ (j : Job). moves_stack j.instr.op ≡ true → stack (c + 1) ≡ address_of (stack c) j.instr.imm) js j.0
            g.moved j.1 op)
          where
            shifted : (op : Op) (i : Instr) → moves_stack op ≡ true → given_by op s i ≡ address_of (get_or s.regs STACK 0) i.imm
            shifted Enter i h = refl
            shifted Leave i h = refl
            shifted _ i h = absurd (cc h)
