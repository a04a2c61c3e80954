-- A timed block: its instructions with their cycles, and where each temporary stands from which cycle to which. Only facts
-- that the packets need are here: no variables, no domains and no values.
use Rattle.std.proofs.Common.{ℕ, pos, ◌≡◌, ◌≢◌, ◌<◌, ◌≤◌, ◌+◌, ◌-◌, ◌*◌, Bool, true, false, List, [], ◌∷◌, map, filter, ◌⊎◌, inl, inr}
use Rattle.std.proofs.Common.{⊎_elim, refl, sym, ◌∙◌, subst, arith}
use Rattle.std.specs.Prelude.{Option, Some, None, nat_eq}
use Rattle.std.specs.Option.{option_map}
use Rattle.std.proofs.lemmas.Bool.{cases_eq, eq-eqb}
use Rattle.un_isa.specs.Tables.{latency_of, in_mask}
use Rattle.un_isa.specs.Operands.{is_alu}
use Rattle.un_isa.specs.declared.op.Op.{Op}
use Rattle.un_isa.specs.declared.op.Op.TheVariants.{Mov, Load, Store, Call, Spill, Reload, P2R, R2P, Nop}
use Rattle.un_isa.specs.declared.reg.Reg.{Reg}
use Rattle.un_isa.specs.declared.instr.Instr.{Instr}
use Rattle.un_isa.specs.declared.table.Table.{Table}
use Rattle.un_isa.specs.Does.{is_transfer, is_new, is_compare, is_control, is_copy, writes_memory, moves_stack}
use Rattle.un_ir.specs.declared.function.Kind.{Kind}
use Rattle.un_ir.specs.declared.function.Kind.TheVariants.{Pred}
use Rattle.un_isa.specs.declared.reg.TheConstants.{STACK, GENERALS, FIRST_SLOT}
use Rattle.un_simulation.specs.Simulation.{as_held}
use Rattle.un_lists.proofs.Lists.{Each, Pairwise, Member, each_member, each_filter, each_passes, each_more, pairwise_filter, member_filter}

-- an active operation that is an instruction: its cycle, the temporaries that it reads in order, and the one that it gives
pub record Job : Type 0 where
  pub cycle : ℕ
  pub instr : Instr
  pub reads : List ℕ
  pub gives : Option ℕ

-- for each temporary: whether it is active, its register or slot, the cycle of its definer, the cycle before which it stands
-- there, its definer's latency, whether a compare gives it, and its kind
pub record Temps : Type 0 where
  pub active : ℕ → Bool
  pub place : ℕ → ℕ
  pub from : ℕ → ℕ
  pub until : ℕ → ℕ
  pub lat : ℕ → ℕ
  pub compared : ℕ → Bool
  pub kind : ℕ → Kind

-- a temporary that occupies its place in cycle c
pub record Stands (T : Temps) (x c : ℕ) : Type 0 where
  pub active : T.active x ≡ true
  pub begun : T.from x ≤ c
  pub held : c < T.until x

-- a temporary that may be read in cycle c
pub record IsReadAt (T : Temps) (x c : ℕ) : Type 0 where
  pub active : T.active x ≡ true
  pub ready : T.from x + T.lat x ≤ c
  pub held : c ≤ T.until x

-- a temporary that stands as its value: a word anywhere, a predicate in a predicate register
abbrev pub IsPlain : Temps → ℕ → Type 0
IsPlain T x = (v : ℕ) → as_held (T.kind x) (T.place x) v ≡ v

abbrev pub numbers : List Reg → List ℕ
numbers rs = map (λ (r : Reg). r.0) rs

-- the instruction's operands are the registers of the temporaries that it reads
pub record ReadsAll (T : Temps) (j : Job) : Type 0 where
  pub srcs : numbers j.instr.srcs ≡ map T.place j.reads
  pub read : Each (λ x. IsReadAt T x j.cycle) j.reads
  pub regs : Each (λ x. T.place x < FIRST_SLOT) j.reads
  pub plain : Each (λ x. IsPlain T x) j.reads

pub record Gives (t : Table) (T : Temps) (j : Job) (x : ℕ) : Type 0 where
  pub gives : j.gives ≡ Some x
  pub active : T.active x ≡ true
  pub from : T.from x ≡ j.cycle
  pub lat : T.lat x ≡ latency_of t j.instr.op
  pub compared : T.compared x ≡ is_compare j.instr.op

-- the result is in the register that the instruction writes
pub record GivesReg (t : Table) (T : Temps) (j : Job) (x : ℕ) : Type 0 where
  pub given : Gives t T j x
  pub dst : option_map (λ (r : Reg). r.0) j.instr.dst ≡ Some (T.place x)
  pub reg : T.place x < FIRST_SLOT

-- a copy of temporary x to y
pub record Copies (t : Table) (T : Temps) (j : Job) (x y : ℕ) : Type 0 where
  pub reads : j.reads ≡ x ∷ []
  pub read : IsReadAt T x j.cycle
  pub given : Gives t T j y
  pub kind : T.kind y ≡ T.kind x

-- the copy's operand and result are registers
pub record CopiesRegs (t : Table) (T : Temps) (j : Job) (x y : ℕ) : Type 0 where
  pub copies : Copies t T j x y
  pub srcs : numbers j.instr.srcs ≡ T.place x ∷ []
  pub dst : option_map (λ (r : Reg). r.0) j.instr.dst ≡ Some (T.place y)

-- x stands in slot i, which is the frame word that the instruction names
pub record IsInSlot (T : Temps) (slots : ℕ) (j : Job) (x : ℕ) : Type 0 where
  pub slot : FIRST_SLOT ≤ T.place x
  pub within : T.place x - FIRST_SLOT < slots
  pub imm : j.instr.imm ≡ pos (4 * (T.place x - FIRST_SLOT))

-- what a call gives, if anything, is in the register of results
abbrev pub GivesResult : Table → Temps → Job → Type 0
GivesResult t T j = (j.gives ≡ None) ⊎ ((x : ℕ) × (Gives t T j x) × (T.place x ≡ t.result) × (IsPlain T x))

-- a job tests a predicate that a compare gives in its own cycle: another job of its packet
pub record TestsNew (T : Temps) (j : Job) (x : ℕ) : Type 0 where
  pub reads : j.reads ≡ x ∷ []
  pub active : T.active x ≡ true
  pub from : T.from x ≡ j.cycle
  pub srcs : numbers j.instr.srcs ≡ T.place x ∷ []
  pub reg : T.place x < FIRST_SLOT
  pub plain : IsPlain T x
  pub compared : T.compared x ≡ true
  pub new : is_new j.instr.op ≡ true

-- what the instruction of a job is, with the temporaries that it reads and gives
pub data Deed (t : Table) (T : Temps) (slots : ℕ) (j : Job) : Type 0 where
  computes : (x : ℕ) → is_alu j.instr.op ≡ true → is_copy j.instr.op ≡ false → ReadsAll T j → GivesReg t T j x → IsPlain T x
      → Deed t T slots j
  moves : (x y : ℕ) → j.instr.op ≡ Mov → CopiesRegs t T j x y → T.place x < GENERALS → T.place y < GENERALS → Deed t T slots j
  spills : (x y : ℕ) → j.instr.op ≡ Spill → Copies t T j x y → numbers j.instr.srcs ≡ T.place x ∷ [] → j.instr.dst ≡ None
      → T.place x < GENERALS → IsInSlot T slots j y → Deed t T slots j
  reloads : (x y : ℕ) → j.instr.op ≡ Reload → Copies t T j x y → j.instr.srcs ≡ []
      → option_map (λ (r : Reg). r.0) j.instr.dst ≡ Some (T.place y) → IsInSlot T slots j x → T.place y < GENERALS → Deed t T slots j
  from_pred : (x y : ℕ) → j.instr.op ≡ P2R → CopiesRegs t T j x y → T.kind x ≡ Pred → GENERALS ≤ T.place x
      → T.place x < FIRST_SLOT → T.place y < GENERALS → Deed t T slots j
  to_pred : (x y : ℕ) → j.instr.op ≡ R2P → CopiesRegs t T j x y → T.kind x ≡ Pred → T.place x < GENERALS
      → GENERALS ≤ T.place y → T.place y < FIRST_SLOT → Deed t T slots j
  loads : (x : ℕ) → j.instr.op ≡ Load → ReadsAll T j → GivesReg t T j x → IsPlain T x → Deed t T slots j
  stores : j.instr.op ≡ Store → ReadsAll T j → j.gives ≡ None → j.instr.dst ≡ None → Deed t T slots j
  calls : j.instr.op ≡ Call → ReadsAll T j → j.instr.dst ≡ None → GivesResult t T j → Deed t T slots j
  shifts : moves_stack j.instr.op ≡ true → j.instr.srcs ≡ [] → j.gives ≡ None → Deed t T slots j
  leaves : is_transfer j.instr.op ≡ true → is_new j.instr.op ≡ false → ReadsAll T j → j.instr.dst ≡ None → j.gives ≡ None
      → Deed t T slots j
  tests : (x : ℕ) → TestsNew T j x → j.instr.dst ≡ None → j.gives ≡ None → Deed t T slots j
  rests : j.instr.op ≡ Nop → j.instr.srcs ≡ [] → j.instr.dst ≡ None → j.gives ≡ None → Deed t T slots j

-- facts on temporaries alone
pub record AreTemps (T : Temps) (slots : ℕ) : Type 0 where
  pub apart : (x y c : ℕ) → Stands T x c → Stands T y c → T.place x ≡ T.place y → x ≡ y
  pub spans : (x : ℕ) → T.active x ≡ true → T.from x < T.until x
  pub quick : (x : ℕ) → T.active x ≡ true → 1 ≤ T.lat x
  pub not_stack : (x : ℕ) → T.active x ≡ true → T.place x ≢ STACK
  pub within : (x : ℕ) → T.active x ≡ true → T.place x < FIRST_SLOT + slots

-- two jobs of one cycle that cannot be both such
abbrev pub NotBoth : (Op → Bool) → Job → Job → Type 0
NotBoth test i j = i.cycle ≡ j.cycle → test i.instr.op ≡ true → test j.instr.op ≡ true → ⊥

abbrev pub GiveApart : Job → Job → Type 0
GiveApart i j = (x : ℕ) → i.gives ≡ Some x → j.gives ≢ Some x

-- no active temporary but the call's own result stands in a clobbered register in a call's cycle
abbrev pub Clobbers : Table → Temps → Job → Type 0
Clobbers t T j = j.instr.op ≡ Call → (x : ℕ) → Stands T x j.cycle → T.place x < FIRST_SLOT → in_mask t.clobbered (T.place x) ≡ true
    → j.gives ≡ Some x

-- a block whose end is `end`, with its jobs in the order of the block's operations
pub record Timed (t : Table) (T : Temps) (slots end : ℕ) (jobs : List Job) : Type 0 where
  pub temps : AreTemps T slots
  pub deeds : Each (Deed t T slots) jobs
  pub late : Each (λ j. 1 ≤ j.cycle) jobs
  pub soon : Each (λ j. j.cycle < end) jobs
  pub last : Each (λ j. is_transfer j.instr.op ≡ true → j.cycle + 1 ≡ end) jobs
  pub giver : (x : ℕ) → T.active x ≡ true → 1 ≤ T.from x → (j : Job) × (Member j jobs) × (j.gives ≡ Some x)
  pub give_apart : Pairwise GiveApart jobs
  pub clobbers : Each (Clobbers t T) jobs
  pub one_write : Pairwise (NotBoth writes_memory) jobs
  pub one_control : Pairwise (NotBoth is_control) jobs
  pub one_shift : Pairwise (NotBoth moves_stack) jobs

-- ---- the jobs of a cycle

abbrev pub nop : Instr
nop = record { op = Nop; dst = None; srcs = []; imm = pos 0; label = None }

abbrev pub rest_job : ℕ → Job
rest_job c = record { cycle = c; instr = nop; reads = []; gives = None }

abbrev pub issues_at : ℕ → Job → Bool
issues_at c j = nat_eq j.cycle c

abbrev pub jobs_at : List Job → ℕ → List Job
jobs_at jobs c = filter (issues_at c) jobs

-- a packet is never empty
abbrev pub or_rest : ℕ → List Job → List Job
or_rest c [] = rest_job c ∷ []
or_rest c (j ∷ js) = j ∷ js

abbrev pub instrs : List Job → List Instr
instrs js = map (λ (j : Job). j.instr) js

abbrev pub packet_jobs : List Job → ℕ → List Job
packet_jobs jobs c = or_rest c (jobs_at jobs c)

-- what holds of the jobs of one packet
pub record Together (t : Table) (T : Temps) (slots c : ℕ) (js : List Job) : Type 0 where
  pub deeds : Each (Deed t T slots) js
  pub cycle : Each (λ j. j.cycle ≡ c) js
  pub giver : (x : ℕ) → T.active x ≡ true → T.from x ≡ c → (j : Job) × (Member j js) × (j.gives ≡ Some x)
  pub give_apart : Pairwise GiveApart js
  pub clobbers : Each (Clobbers t T) js
  pub one_write : Pairwise (NotBoth writes_memory) js
  pub one_control : Pairwise (NotBoth is_control) js
  pub one_shift : Pairwise (NotBoth moves_stack) js

is_cycle : (a b : ℕ) → nat_eq a b ≡ true → a ≡ b
is_cycle a b h = ⊎_elim (λ (e : a ≡ b). e) (λ (e : a ≢ b). absurd (grind (arith, h))) (cases_eq a b)

gives_where : (t : Table) (T : Temps) (slots : ℕ) (j : Job) (x : ℕ) → Deed t T slots j → j.gives ≡ Some x → Gives t T j x
gives_where t T slots j x (computes y a n r g p) e = let k : y ≡ x = cc (g.given.gives, e) in subst (Gives t T j) k g.given
gives_where t T slots j x (moves w y o c p q) e = let k : y ≡ x = cc (c.copies.given.gives, e) in subst (Gives t T j) k c.copies.given
gives_where t T slots j x (spills w y o c s d p q) e = let k : y ≡ x = cc (c.given.gives, e) in subst (Gives t T j) k c.given
gives_where t T slots j x (reloads w y o c s d p q) e = let k : y ≡ x = cc (c.given.gives, e) in subst (Gives t T j) k c.given
gives_where t T slots j x (from_pred w y o c k p q r) e = let k : y ≡ x = cc (c.copies.given.gives, e) in
    subst (Gives t T j) k c.copies.given
gives_where t T slots j x (to_pred w y o c k p q r) e = let k : y ≡ x = cc (c.copies.given.gives, e) in subst (Gives t T j) k c.copies.given
gives_where t T slots j x (loads y o r g p) e = let k : y ≡ x = cc (g.given.gives, e) in subst (Gives t T j) k g.given
gives_where t T slots j x (stores o r g d) e = absurd (cc (g, e))
gives_where t T slots j x (calls o r d (inl g)) e = absurd (cc (g, e))
gives_where t T slots j x (calls o r d (inr g)) e = let h = g.1 in let k : g.0 ≡ x = cc (h.gives, e) in subst (Gives t T j) k g.1
gives_where t T slots j x (shifts o r g) e = absurd (cc (g, e))
gives_where t T slots j x (leaves o old r d g) e = absurd (cc (g, e))
gives_where t T slots j x (tests y n d g) e = absurd (cc (g, e))
gives_where t T slots j x (rests o r d g) e = absurd (cc (g, e))

-- what a job gives is active from the job's cycle on
pub gives_of : (t : Table) (T : Temps) (slots : ℕ) (j : Job) (x : ℕ) → Deed t T slots j → j.gives ≡ Some x → Gives t T j x
gives_of t T slots j x d e = gives_where t T slots j x d e

rest_together : (t : Table) (T : Temps) (slots c : ℕ) → ((x : ℕ) → T.active x ≡ true → T.from x ≡ c → ⊥)
    → Together t T slots c (rest_job c ∷ [])
rest_together t T slots c none = record {
  deeds = (rests refl refl refl refl, tt);
  cycle = (refl, tt);
  giver = λ x a f. absurd (none x a f);
  give_apart = (tt, tt);
  clobbers = (λ e. absurd (cc e), tt);
  one_write = (tt, tt);
  one_control = (tt, tt);
  one_shift = (tt, tt);
}

pub together : (t : Table) (T : Temps) (slots end : ℕ) (jobs : List Job) (c : ℕ) → Timed t T slots end jobs → 1 ≤ c
    → Together t T slots c (packet_jobs jobs c)
together t T slots end jobs c h le = go (jobs_at jobs c) refl
  where
    at : (js : List Job) → js ≡ jobs_at jobs c → Together t T slots c js
    at js e = subst (Together t T slots c) (sym e) (record {
      deeds = each_filter (Deed t T slots) (issues_at c) jobs h.deeds;
      cycle = each_more (λ j. issues_at c j ≡ true) (λ j. j.cycle ≡ c) (jobs_at jobs c) (λ j k. is_cycle j.cycle c k)
          (each_passes (issues_at c) jobs);
      giver = λ x a f.
          let late : 1 ≤ T.from x = omega arith in
          let r = h.giver x a late in
          let g = gives_of t T slots r.0 x (each_member (Deed t T slots) jobs r.0 h.deeds r.1) r.2 in
          let now : r.0.cycle ≡ c = sym g.from ∙ f in
          (r.0, member_filter (issues_at c) jobs r.0 r.1 (eq-eqb r.0.cycle c now), r.2);
      give_apart = pairwise_filter GiveApart (issues_at c) jobs h.give_apart;
      clobbers = each_filter (Clobbers t T) (issues_at c) jobs h.clobbers;
      one_write = pairwise_filter (NotBoth writes_memory) (issues_at c) jobs h.one_write;
      one_control = pairwise_filter (NotBoth is_control) (issues_at c) jobs h.one_control;
      one_shift = pairwise_filter (NotBoth moves_stack) (issues_at c) jobs h.one_shift;
    })

    go : (js : List Job) → js ≡ jobs_at jobs c → Together t T slots c (or_rest c js)
    go [] e = let k = at [] e in rest_together t T slots c (λ x a f. let r = k.giver x a f in elim (r.1) [ ])
    go (j ∷ js) e = at (j ∷ js) e
