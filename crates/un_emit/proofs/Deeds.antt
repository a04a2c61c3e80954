-- What the instruction of a job reads and writes, whatever it does.
use Rattle.std.proofs.Common.{ℕ, ◌≡◌, ◌≢◌, ◌<◌, ◌≤◌, ◌+◌, true, false, List, [], ◌∷◌, map, ◌⊎◌, inl, inr, ⊎_elim, refl, sym, ap, ◌∙◌, subst}
use Rattle.std.proofs.Common.{arith}
use Rattle.std.specs.Prelude.{Some, None}
use Rattle.std.specs.Option.{option_map}
use Rattle.std.proofs.lemmas.Bool.{or_parts}
use Rattle.un_isa.specs.Operands.{is_alu}
use Rattle.un_isa.specs.Words.{eval}
use Rattle.un_isa.specs.declared.op.Op.{Op}
use Rattle.un_isa.specs.declared.op.Op.TheVariants.{Load, Store, Call, Spill, Reload, Enter, Leave, JumpIfNew, JumpIfNotNew}
use Rattle.un_isa.specs.declared.reg.Reg.{Reg}
use Rattle.un_isa.specs.declared.instr.Instr.{Instr}
use Rattle.un_isa.specs.declared.table.Table.{Table}
use Rattle.un_isa.specs.declared.reg.TheConstants.{STACK, FIRST_SLOT}
use Rattle.un_isa.specs.Does.{is_call, is_return, is_jump, is_transfer, is_new, is_control, writes_memory, is_word_access, moves_stack}
use Rattle.un_isa.proofs.DoesLaws.{alu_stays, alu_stack, alu_memory, alu_access, transfer_stack, transfer_call, transfer_control, transfer_memory, transfer_access}
use Rattle.un_isa.proofs.DoesLaws.{new_transfer}
use Rattle.un_packet.specs.Step.{PacketState, traps_by, value_by, reads_by, reg_in}
use Rattle.un_lists.proofs.Lists.{Each, Pairwise, Member, each_member, each_of, each_map, pairwise_more, pairwise_map}
use Rattle.un_emit.proofs.Packet.{target, target_by, is_store, slot_by, AreApart}
use Rattle.un_emit.proofs.Timed.{Job, Temps, Stands, IsReadAt, numbers, ReadsAll, Gives, Copies, Deed, computes, moves, spills}
use Rattle.un_emit.proofs.Timed.{reloads, from_pred, to_pred, loads, stores, calls, shifts, leaves, tests, rests, AreTemps, NotBoth, GiveApart}
use Rattle.un_emit.proofs.Timed.{Together, instrs}

-- ---- by operation

-- what an operation that computes does not do
pub record Computes (op : Op) : Type 0 where
  pub shifts : moves_stack op ≡ false
  pub calls : is_call op ≡ false
  pub returns : is_return op ≡ false
  pub transfers : is_transfer op ≡ false
  pub controls : is_control op ≡ false
  pub writes : writes_memory op ≡ false
  pub stores : is_store op ≡ false
  pub traps : (s : PacketState) (i : Instr) → traps_by op s i ≡ false
  pub slot : (s : PacketState) (i : Instr) → slot_by op s i ≡ None
  pub value : (s : PacketState) (i : Instr) → value_by op s i ≡ eval i.op (map (reg_in s) i.srcs) i.imm

-- what writes no word stores and spills none
no_store : (op : Op) → writes_memory op ≡ false → is_store op ≡ false
no_store Store h = absurd (cc h)
no_store _ h = refl

no_slot : (op : Op) (s : PacketState) (i : Instr) → writes_memory op ≡ false → slot_by op s i ≡ None
no_slot Spill s i h = absurd (cc h)
no_slot _ s i h = refl

-- what accesses no word does not trap
no_trap : (op : Op) (s : PacketState) (i : Instr) → is_word_access op ≡ false → traps_by op s i ≡ false
no_trap Load s i h = absurd (cc h)
no_trap Store s i h = absurd (cc h)
no_trap Spill s i h = absurd (cc h)
no_trap Reload s i h = absurd (cc h)
no_trap _ s i h = refl

computed : (op : Op) (s : PacketState) (i : Instr) → is_word_access op ≡ false
    → value_by op s i ≡ eval i.op (map (reg_in s) i.srcs) i.imm
computed Load s i h = absurd (cc h)
computed Reload s i h = absurd (cc h)
computed _ s i h = refl

pub alu_op : (op : Op) → is_alu op ≡ true → Computes op
alu_op op h =
    let control = or_parts (is_call op) (is_transfer op) (alu_stays op h) in
    let leave = or_parts (is_jump op) (is_return op) control.1 in
    let quiet = alu_memory op h in
    let inside = alu_access op h in
    record {
      shifts = alu_stack op h;
      calls = control.0;
      returns = leave.1;
      transfers = control.1;
      controls = alu_stays op h;
      writes = quiet;
      stores = no_store op quiet;
      traps = λ s i. no_trap op s i inside;
      slot = λ s i. no_slot op s i quiet;
      value = λ s i. computed op s i inside;
    }

-- what an operation that goes elsewhere does not do
pub record Transfers (op : Op) : Type 0 where
  pub shifts : moves_stack op ≡ false
  pub calls : is_call op ≡ false
  pub controls : is_control op ≡ true
  pub writes : writes_memory op ≡ false
  pub stores : is_store op ≡ false
  pub traps : (s : PacketState) (i : Instr) → traps_by op s i ≡ false
  pub slot : (s : PacketState) (i : Instr) → slot_by op s i ≡ None

pub transfer_op : (op : Op) → is_transfer op ≡ true → Transfers op
transfer_op op h =
    let quiet = transfer_memory op h in
    let inside = transfer_access op h in
    record {
      shifts = transfer_stack op h;
      calls = transfer_call op h;
      controls = transfer_control op h;
      writes = quiet;
      stores = no_store op quiet;
      traps = λ s i. no_trap op s i inside;
      slot = λ s i. no_slot op s i quiet;
    }

-- what Enter and Leave do not do
pub record Shifts (op : Op) : Type 0 where
  pub calls : is_call op ≡ false
  pub returns : is_return op ≡ false
  pub transfers : is_transfer op ≡ false
  pub writes : writes_memory op ≡ false
  pub stores : is_store op ≡ false
  pub traps : (s : PacketState) (i : Instr) → traps_by op s i ≡ false
  pub slot : (s : PacketState) (i : Instr) → slot_by op s i ≡ None
  pub target : (i : Instr) → target_by op i.dst ≡ Some STACK

pub shift_op : (op : Op) → moves_stack op ≡ true → Shifts op
shift_op Enter h = record {
  calls = refl;
  returns = refl;
  transfers = refl;
  writes = refl;
  stores = refl;
  traps = λ s i. refl;
  slot = λ s i. refl;
  target = λ i. refl;
}
shift_op Leave h = record {
  calls = refl;
  returns = refl;
  transfers = refl;
  writes = refl;
  stores = refl;
  traps = λ s i. refl;
  slot = λ s i. refl;
  target = λ i. refl;
}
shift_op _ h = absurd (cc h)

pub target_of : (op : Op) (i : Instr) → moves_stack op ≡ false → target_by op i.dst ≡ option_map (λ (r : Reg). r.0) i.dst
target_of Enter i h = absurd (cc h)
target_of Leave i h = absurd (cc h)
target_of _ i h = refl

-- the registers that an instruction waits for are its operands and perhaps the stack pointer
pub each_read : (P : ℕ → Type 0) (op : Op) (i : Instr) → P STACK → Each P (numbers i.srcs) → Each P (reads_by op i)
each_read P Spill i h k = (h, k)
each_read P Reload i h k = (h, k)
each_read P Enter i h k = (h, tt)
each_read P Leave i h k = (h, tt)
each_read P JumpIfNew i h k = tt
each_read P JumpIfNotNew i h k = tt
each_read P _ i h k = k

-- and none, where it tests what its own packet writes
pub no_reads : (op : Op) (i : Instr) → is_new op ≡ true → reads_by op i ≡ []
no_reads JumpIfNew i h = refl
no_reads JumpIfNotNew i h = refl
no_reads _ i h = absurd (cc h)

-- ---- by job

-- a register that stands for a temporary which may be read now
abbrev pub IsSource : Temps → ℕ → ℕ → Type 0
IsSource T c r = (x : ℕ) × (IsReadAt T x c) × (T.place x ≡ r) × (r < FIRST_SLOT)

all_sources : (T : Temps) (c : ℕ) (xs : List ℕ) → Each (λ x. IsReadAt T x c) xs → Each (λ x. T.place x < FIRST_SLOT) xs
    → Each (IsSource T c) (map T.place xs)
all_sources T c [] h k = tt
all_sources T c (x ∷ xs) h k = ((x, h.0, refl, k.0), all_sources T c xs h.1 k.1)

read_sources : (T : Temps) (j : Job) → ReadsAll T j → Each (IsSource T j.cycle) (numbers j.instr.srcs)
read_sources T j r = subst (Each (IsSource T j.cycle)) (sym r.srcs) (all_sources T j.cycle j.reads r.read r.regs)

one_source : (t : Table) (T : Temps) (j : Job) (x y : ℕ) → Copies t T j x y → numbers j.instr.srcs ≡ T.place x ∷ [] → T.place x < FIRST_SLOT
    → Each (IsSource T j.cycle) (numbers j.instr.srcs)
one_source t T j x y c e lt = subst (Each (IsSource T j.cycle)) (sym e) ((x, c.read, refl, lt), tt)

none_read : (T : Temps) (j : Job) → j.instr.srcs ≡ [] → Each (IsSource T j.cycle) (numbers j.instr.srcs)
none_read T j e = subst (λ (rs : List Reg). Each (IsSource T j.cycle) (numbers rs)) (sym e) tt

pub sources : (t : Table) (T : Temps) (slots : ℕ) (j : Job) → Deed t T slots j → is_new j.instr.op ≡ false
    → Each (IsSource T j.cycle) (numbers j.instr.srcs)
sources t T slots j (computes x a n r g p) e = read_sources T j r
sources t T slots j (moves x y o c p q) e = one_source t T j x y c.copies c.srcs (omega arith)
sources t T slots j (spills x y o c s d p q) e = one_source t T j x y c s (omega arith)
sources t T slots j (reloads x y o c s d p q) e = none_read T j s
sources t T slots j (from_pred x y o c k p q r) e = one_source t T j x y c.copies c.srcs (omega arith)
sources t T slots j (to_pred x y o c k p q r) e = one_source t T j x y c.copies c.srcs (omega arith)
sources t T slots j (loads x o r g p) e = read_sources T j r
sources t T slots j (stores o r g d) e = read_sources T j r
sources t T slots j (calls o r d g) e = read_sources T j r
sources t T slots j (shifts o s g) e = none_read T j s
sources t T slots j (leaves o old r d g) e = read_sources T j r
sources t T slots j (tests x n d g) e = let z : true ≡ false = sym n.new ∙ e in absurd (cc z)
sources t T slots j (rests o s d g) e = none_read T j s

-- the register that a job writes is that of what it gives, or the stack pointer
abbrev pub Writes : Table → Temps → Job → ℕ → Type 0
Writes t T j r = ((r ≡ STACK) × (moves_stack j.instr.op ≡ true)) ⊎ ((x : ℕ) × (Gives t T j x) × (T.place x ≡ r))

gives_there : (t : Table) (T : Temps) (j : Job) (x r : ℕ) → Gives t T j x → moves_stack j.instr.op ≡ false
    → option_map (λ (q : Reg). q.0) j.instr.dst ≡ Some (T.place x) → target j.instr ≡ Some r → Writes t T j r
gives_there t T j x r g m d e =
    let k : Some (T.place x) ≡ Some r = sym d ∙ sym (target_of j.instr.op j.instr m) ∙ e in
    let p : T.place x ≡ r = cc k in inr (x, g, p)

gives_nowhere : (t : Table) (T : Temps) (j : Job) (r : ℕ) → moves_stack j.instr.op ≡ false → j.instr.dst ≡ None → target j.instr ≡ Some r
    → Writes t T j r
gives_nowhere t T j r m d e =
    let k : None ≡ Some r = ap (option_map (λ (q : Reg). q.0)) (sym d) ∙ sym (target_of j.instr.op j.instr m) ∙ e in absurd (cc k)

pub writes : (t : Table) (T : Temps) (slots : ℕ) (j : Job) (r : ℕ) → Deed t T slots j → target j.instr ≡ Some r → Writes t T j r
writes t T slots j r (computes x a n q g p) e = gives_there t T j x r g.given (alu_op j.instr.op a).shifts g.dst e
writes t T slots j r (moves x y o c p q) e = gives_there t T j y r c.copies.given (ap moves_stack o) c.dst e
writes t T slots j r (spills x y o c s d p q) e = gives_nowhere t T j r (ap moves_stack o) d e
writes t T slots j r (reloads x y o c s d p q) e = gives_there t T j y r c.given (ap moves_stack o) d e
writes t T slots j r (from_pred x y o c k p q w) e = gives_there t T j y r c.copies.given (ap moves_stack o) c.dst e
writes t T slots j r (to_pred x y o c k p q w) e = gives_there t T j y r c.copies.given (ap moves_stack o) c.dst e
writes t T slots j r (loads x o q g p) e = gives_there t T j x r g.given (ap moves_stack o) g.dst e
writes t T slots j r (stores o q g d) e = gives_nowhere t T j r (ap moves_stack o) d e
writes t T slots j r (calls o q d g) e = gives_nowhere t T j r (ap moves_stack o) d e
writes t T slots j r (shifts o s g) e = let k : Some STACK ≡ Some r = sym ((shift_op j.instr.op o).target j.instr)
    ∙ e in let p : r ≡ STACK = cc k in inl (p, o)
writes t T slots j r (leaves o old q d g) e = gives_nowhere t T j r (transfer_op j.instr.op o).shifts d e
writes t T slots j r (tests x n d g) e = gives_nowhere t T j r (transfer_op j.instr.op (new_transfer j.instr.op n.new)).shifts d e
writes t T slots j r (rests o s d g) e = gives_nowhere t T j r (ap moves_stack o) d e

-- what a job gives in a register is written by its instruction, or is a call's result
abbrev pub Lands : Table → Temps → Job → ℕ → Type 0
Lands t T j x = (target j.instr ≡ Some (T.place x)) ⊎ ((j.instr.op ≡ Call) × (T.place x ≡ t.result))

lands_there : (t : Table) (T : Temps) (j : Job) (x y : ℕ) → Gives t T j y → moves_stack j.instr.op ≡ false
    → option_map (λ (q : Reg). q.0) j.instr.dst ≡ Some (T.place y) → j.gives ≡ Some x → Lands t T j x
lands_there t T j x y g m d e = let k : y ≡ x = cc (g.gives, e) in inl (target_of j.instr.op j.instr m ∙ d ∙ ap (λ z. Some (T.place z)) k)

pub lands : (t : Table) (T : Temps) (slots : ℕ) (j : Job) (x : ℕ) → Deed t T slots j → j.gives ≡ Some x → T.place x < FIRST_SLOT
    → Lands t T j x
lands t T slots j x (computes y a n q g p) e lt = lands_there t T j x y g.given (alu_op j.instr.op a).shifts g.dst e
lands t T slots j x (moves w y o c p q) e lt = lands_there t T j x y c.copies.given (ap moves_stack o) c.dst e
lands t T slots j x (spills w y o c s d p q) e lt =
    let k : y ≡ x = cc (c.given.gives, e) in
    let h = q.slot in
    let g : FIRST_SLOT ≤ T.place x = subst (λ z. FIRST_SLOT ≤ T.place z) k h in
    absurd (omega arith)
lands t T slots j x (reloads w y o c s d p q) e lt = lands_there t T j x y c.given (ap moves_stack o) d e
lands t T slots j x (from_pred w y o c k p q r) e lt = lands_there t T j x y c.copies.given (ap moves_stack o) c.dst e
lands t T slots j x (to_pred w y o c k p q r) e lt = lands_there t T j x y c.copies.given (ap moves_stack o) c.dst e
lands t T slots j x (loads y o q g p) e lt = lands_there t T j x y g.given (ap moves_stack o) g.dst e
lands t T slots j x (stores o q g d) e lt = absurd (cc (g, e))
lands t T slots j x (calls o q d (inl g)) e lt = absurd (cc (g, e))
lands t T slots j x (calls o q d (inr g)) e lt = let h = g.1 in let k : g.0 ≡ x = cc (h.gives, e) in
    inr (o, subst (λ z. T.place z ≡ t.result) k g.2)
lands t T slots j x (shifts o s g) e lt = absurd (cc (g, e))
lands t T slots j x (leaves o old q d g) e lt = absurd (cc (g, e))
lands t T slots j x (tests y n d g) e lt = absurd (cc (g, e))
lands t T slots j x (rests o s d g) e lt = absurd (cc (g, e))

-- ---- by packet

-- a job of a packet that gives x
stands_now : (t : Table) (T : Temps) (slots c : ℕ) (j : Job) (x : ℕ) → AreTemps T slots → Gives t T j x → j.cycle ≡ c → Stands T x c
stands_now t T slots c j x h g e =
    let a = h.spans x g.active in let f = g.from in
    record { active = g.active; begun = omega arith; held = omega arith }

-- no two instructions of a packet write one register
pub apart_targets : (t : Table) (T : Temps) (slots c : ℕ) (js : List Job) → AreTemps T slots → Together t T slots c js
    → AreApart target (instrs js)
apart_targets t T slots c js h w = pairwise_map (λ i j. (r : ℕ) → target i ≡ Some r → target j ≢ Some r) (λ (j : Job). j.instr) js
    (pairwise_more (λ i j. GiveApart i j × NotBoth moves_stack i j)
    (λ (i j : Job). (r : ℕ) → target i.instr ≡ Some r → target j.instr ≢ Some r) js two (both js w.give_apart w.one_shift))
  where
    both : (ks : List Job) → Pairwise GiveApart ks → Pairwise (NotBoth moves_stack) ks
        → Pairwise (λ i j. GiveApart i j × NotBoth moves_stack i j) ks
    both [] p q = tt
    both (k ∷ ks) p q = (
      each_of (λ j. GiveApart k j × NotBoth moves_stack k j) ks
          (λ j m. (each_member (GiveApart k) ks j p.0 m, each_member (NotBoth moves_stack k) ks j q.0 m)),
      both ks p.1 q.1,
    )

    two : (i j : Job) → Member i js → Member j js → GiveApart i j × NotBoth moves_stack i j → (r : ℕ) → target i.instr ≡ Some r
        → target j.instr ≢ Some r
    two i j m n k r e f =
        let ci : i.cycle ≡ c = each_member (λ (a : Job). a.cycle ≡ c) js i w.cycle m in
        let cj : j.cycle ≡ c = each_member (λ (a : Job). a.cycle ≡ c) js j w.cycle n in
        ⊎_elim
        (λ (p : (r ≡ STACK) × (moves_stack i.instr.op ≡ true)). ⊎_elim
        (λ (q : (r ≡ STACK) × (moves_stack j.instr.op ≡ true)). k.1 (ci ∙ sym cj) p.1 q.1)
        (λ (q : (x : ℕ) × (Gives t T j x) × (T.place x ≡ r)). let g = q.1 in h.not_stack q.0 g.active (q.2 ∙ p.0))
        (writes t T slots j r (each_member (Deed t T slots) js j w.deeds n) f))
        (λ (p : (x : ℕ) × (Gives t T i x) × (T.place x ≡ r)). ⊎_elim
        (λ (q : (r ≡ STACK) × (moves_stack j.instr.op ≡ true)). let g = p.1 in h.not_stack p.0 g.active (p.2 ∙ q.0))
        (λ (q : (x : ℕ) × (Gives t T j x) × (T.place x ≡ r)).
        let g = p.1 in let d = q.1 in
        let same : p.0 ≡ q.0 = h.apart p.0 q.0 c (stands_now t T slots c i p.0 h p.1 ci) (stands_now t T slots c j q.0 h q.1 cj)
        (p.2 ∙ sym q.2) in
        k.0 p.0 g.gives (d.gives ∙ ap Some (sym same)))
        (writes t T slots j r (each_member (Deed t T slots) js j w.deeds n) f))
        (writes t T slots i r (each_member (Deed t T slots) js i w.deeds m) e)

-- no instruction of a packet writes the register of a temporary that stands from before
pub unwritten : (t : Table) (T : Temps) (slots c x : ℕ) (js : List Job) → AreTemps T slots → Together t T slots (c + 1) js
    → Stands T x (c + 1) → T.from x ≤ c → Each (λ i. target i ≢ Some (T.place x)) (instrs js)
unwritten t T slots c x js h w s old = each_map (λ i. target i ≢ Some (T.place x)) (λ (j : Job). j.instr) js
    (each_of (λ (j : Job). target j.instr ≢ Some (T.place x)) js (λ j m e.
    let cj : j.cycle ≡ c + 1 = each_member (λ (a : Job). a.cycle ≡ c + 1) js j w.cycle m in
    ⊎_elim
    (λ (q : (T.place x ≡ STACK) × (moves_stack j.instr.op ≡ true)). h.not_stack x s.active q.0)
    (λ (q : (y : ℕ) × (Gives t T j y) × (T.place y ≡ T.place x)).
    let g = q.1 in
    let same : q.0 ≡ x = h.apart q.0 x (c + 1) (stands_now t T slots (c + 1) j q.0 h q.1 cj) s q.2 in
    let from : T.from x ≡ c + 1 = ap T.from (sym same) ∙ g.from ∙ cj in omega arith)
    (writes t T slots j (T.place x) (each_member (Deed t T slots) js j w.deeds m) e)))
