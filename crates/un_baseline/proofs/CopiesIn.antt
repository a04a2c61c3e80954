-- What the copies of the plan that spills every name do lies in their domains.
use Rattle.std.proofs.Common.{◌≡◌, ℕ, zero, suc, ◌+◌, ◌-◌, ◌<◌, ◌≤◌, Bool, true, false, List, [], ◌∷◌, length, replicate, Option, Some}
use Rattle.std.proofs.Common.{None, refl, sym, subst, arith}
use Rattle.std.specs.Prelude.{◌==◌, if◌then◌else◌, Contains, IfSome, All, slice_get, unwrap_or}
use Rattle.un_base.specs.declared.ids.NameId.{NameId}
use Rattle.un_base.specs.declared.ids.TempId.{TempId}
use Rattle.un_isa.specs.declared.reg.TheConstants.{FIRST_SLOT, LINK}
use Rattle.un_ir.specs.declared.function.Kind.{Kind}
use Rattle.un_ir.specs.declared.function.Kind.TheVariants.{General, Pred}
use Rattle.un_ir.specs.declared.extended.NodeCopy.{NodeCopy}
use Rattle.un_ir.specs.declared.extended.NodeCopy.TheVariants.{D, D2, U, U2}
use Rattle.un_ir.specs.declared.extended.ExtBlock.{ExtBlock}
use Rattle.un_ir.specs.declared.extended.Ext.{Ext}
use Rattle.un_ir.specs.Extended.{name_kind, temp}
use Rattle.un_ir.specs.ExtendOf.{copy_op}
use Rattle.un_model.specs.declared.model.Options.{Options}
use Rattle.un_model.specs.Registers.{is_home, is_truth, value_registers, with_zero}
use Rattle.un_model.specs.Solutions.{InDomain}
use Rattle.un_model.specs.Variables.{chosen_operands, copy_domain}
use Rattle.un_baseline.specs.declared.plan.Purpose.{Purpose}
use Rattle.un_baseline.specs.declared.plan.Purpose.TheVariants.{Operands, Link, Returned, Unread}
use Rattle.un_baseline.specs.declared.plan.Definer.{Definer}
use Rattle.un_baseline.specs.declared.plan.Definer.TheVariants.{Start, Assigns, Other}
use Rattle.un_baseline.specs.declared.plan.Setting.{Setting}
use Rattle.un_baseline.specs.declared.plan.Progress.{Progress}
use Rattle.un_baseline.specs.declared.plan.Move.{Move}
use Rattle.un_baseline.specs.RoomyOptions.{AreRoomy}
use Rattle.un_baseline.specs.SpillEverywhere.{slot_of, last_place, is_placed, kept_place, slot_at_start, no_move, spilled_to, kept_by_kind}
use Rattle.un_baseline.specs.SpillEverywhere.{first_copy, second_copy, operand_copy, truth_copy}
use Rattle.un_baseline.proofs.InDomains.{StepIn}
use Rattle.un_baseline.proofs.RegistersIn.{zero_in, with_zero_in, low_in, home_in, predicate_in, slot_in}

small_instr : (truth : Bool) (k : ℕ) → k ≤ 3 → InDomain k (copy_domain truth)
small_instr true k le = (omega arith, omega arith)
small_instr false k le = (omega arith, omega arith)

truth_instr : (truth : Bool) (k : ℕ) → truth ≡ true → k ≤ 5 → InDomain k (copy_domain truth)
truth_instr true k h le = (omega arith, omega arith)
truth_instr false k h le = absurd (cc h)

module _ (e : Ext) (o : Options) (roomy : AreRoomy e o) (entry : Bool) (block : ExtBlock) where
  -- the value that a copy that may read these carries
  abbrev pub value_read : List TempId → ℕ → TempId
  value_read alts n = unwrap_or (slice_get alts 0) (temp n)

  pub record MoveIn (alts : List TempId) (n : ℕ) (m : Move) : Type 0 where
    pub instr : InDomain m.instr (copy_domain (is_truth e.names block (value_read alts n)))
    pub place : m.place ≤ length alts - 1
    pub register : Contains (with_zero (value_registers e o.regs o.slots entry block (value_read alts n))) m.register

  pub copy_in : (node : NodeCopy) (alts : List TempId) (n cycle : ℕ) (m : Move) → MoveIn alts n m
      → StepIn e o entry block (copy_op node alts n) (record {
        instr = m.instr;
        cycle = cycle;
        choices = replicate (length (chosen_operands (copy_op node alts n))) m.place;
        registers = m.register ∷ [];
      })
  copy_in D alts n cycle m h = record { instr = (h.instr, tt); choices = tt; registers = (h.register, tt) }
  copy_in D2 alts n cycle m h = record { instr = (h.instr, tt); choices = ((omega arith, h.place), tt); registers = (h.register, tt) }
  copy_in U alts n cycle m h = record { instr = (h.instr, tt); choices = ((omega arith, h.place), tt); registers = (h.register, tt) }
  copy_in U2 alts n cycle m h = record { instr = (h.instr, tt); choices = ((omega arith, h.place), tt); registers = (h.register, tt) }

  rests_in : (alts : List TempId) (n : ℕ) → MoveIn alts n no_move
  rests_in alts n = record {
    instr = small_instr (is_truth e.names block (value_read alts n)) 0 (omega arith);
    place = omega arith;
    register = zero_in (value_registers e o.regs o.slots entry block (value_read alts n));
  }

  -- a move to one of a value's own registers
  goes_in : (alts : List TempId) (n : ℕ) (m : Move) → m.instr ≤ 3 → m.place ≤ length alts - 1
      → Contains (value_registers e o.regs o.slots entry block (value_read alts n)) m.register → MoveIn alts n m
  goes_in alts n m small place register = record {
    instr = small_instr (is_truth e.names block (value_read alts n)) m.instr small;
    place = place;
    register = with_zero_in (value_registers e o.regs o.slots entry block (value_read alts n)) m.register register;
  }

  -- ---- values

  named_slot : (y : TempId) (name : NameId) → name.0 < length e.names → Contains (value_registers e o.regs o.slots entry block y)
      (slot_of name)
  named_slot y name lt = slot_in e o entry block y name.0 (let slots = roomy.slots in omega arith)

  spilled_in : (s : Setting) → s.link ≡ FIRST_SLOT + length e.names → (alts : List TempId) (n i now : ℕ) (name : Option NameId)
      → IfSome name (λ (x : NameId). x.0 < length e.names) → MoveIn alts n (spilled_to (slot_at_start s i name) now)
  spilled_in s link alts n i now (Some name) lt =
      goes_in alts n (spilled_to (Some (slot_of name)) now) (omega arith) (omega arith) (named_slot (value_read alts n) name lt)
  spilled_in s link alts n i now None h = by (i + 1 == s.values)
    where
      by : (b : Bool) → MoveIn alts n (spilled_to (if b then Some s.link else None) now)
      by true = goes_in alts n (spilled_to (Some s.link) now) (omega arith) (omega arith)
          (subst (Contains (value_registers e o.regs o.slots entry block (value_read alts n))) (sym link)
          (slot_in e o entry block (value_read alts n) (length e.names) roomy.slots))
      by false = rests_in alts n

  kept_in : (alts : List TempId) (n now : ℕ) (kind : Kind) (name : NameId) → name.0 < length e.names
      → (kind ≡ Pred → is_truth e.names block (value_read alts n) ≡ true) → MoveIn alts n (kept_by_kind kind name now)
  kept_in alts n now General name lt truth = goes_in alts n (kept_by_kind General name now) (omega arith) (omega arith)
      (named_slot (value_read alts n) name lt)
  kept_in alts n now Pred name lt truth = record {
    instr = truth_instr (is_truth e.names block (value_read alts n)) 4 (truth refl) (omega arith);
    place = omega arith;
    register = zero_in (value_registers e o.regs o.slots entry block (value_read alts n));
  }

  -- what is known of the definer of values
  pub record DefinerOk (d : Definer) : Type 0 where
    pub named : (name : NameId) → d ≡ Assigns name → name.0 < length e.names

  pub first_in : (s : Setting) → s.link ≡ FIRST_SLOT + length e.names → All (λ (x : NameId). x.0 < length e.names) block.live_in
      → (p : Progress) (alts : List TempId) (n : ℕ) (d : Definer) → DefinerOk d
      → ((name : NameId) → d ≡ Assigns name → name_kind e.names name ≡ Pred → is_truth e.names block (value_read alts n) ≡ true)
      → MoveIn alts n (first_copy e.names block.live_in s p d)
  first_in s link live p alts n Start ok truth =
      spilled_in s link alts n p.values p.cycle (slice_get block.live_in p.values) (name_there block.live_in p.values live)
    where
      name_there : (xs : List NameId) (k : ℕ) → All (λ (x : NameId). x.0 < length e.names) xs
          → IfSome (slice_get xs k) (λ (x : NameId). x.0 < length e.names)
      name_there [] k h = tt
      name_there (x ∷ xs) zero h = h 0 x (omega arith)
      name_there (x ∷ xs) (suc k) h = name_there xs k (λ j d lt. h (suc j) d (omega arith))
  first_in s link live p alts n (Assigns name) ok truth =
      kept_in alts n p.cycle (name_kind e.names name) name (ok.named name refl) (truth name refl)
  first_in s link live p alts n Other ok truth = rests_in alts n

  pub second_in : (p : Progress) (alts : List TempId) (n : ℕ) (d : Definer) → DefinerOk d → MoveIn alts n (second_copy p alts d)
  second_in p alts n Start ok = rests_in alts n
  second_in p alts n (Assigns name) ok = goes_in alts n (second_copy p alts (Assigns name)) (omega arith) (omega arith)
      (named_slot (value_read alts n) name (ok.named name refl))
  second_in p alts n Other ok = rests_in alts n

  -- ---- operands

  kept_place_in : (s : Setting) (alts : List TempId) → kept_place s alts ≤ length alts - 1
  kept_place_in s alts = by (is_placed s alts)
    where
      by : (b : Bool) → (if b then 0 else last_place alts) ≤ length alts - 1
      by true = omega arith
      by false = omega arith

  -- what is asked of an operand, of which so many have been reloaded, by what its copies are for
  abbrev pub OperandOk : Purpose → ℕ → TempId → Type 0
  OperandOk Operands k y = k < 6
  OperandOk Link k y = is_home e.table entry block y LINK ≡ true
  OperandOk _ k y = Unit {0}

  pub operand_in : (s : Setting) (p : Progress) (alts : List TempId) (n : ℕ) (purpose : Purpose)
      → OperandOk purpose p.operands (value_read alts n) → MoveIn alts n (operand_copy e.table s p alts purpose)
  operand_in s p alts n Operands ok = goes_in alts n (operand_copy e.table s p alts Operands) (omega arith) (kept_place_in s alts)
      (low_in e o entry block (value_read alts n) p.operands roomy.regs ok)
  operand_in s p alts n Link ok = goes_in alts n (operand_copy e.table s p alts Link) (omega arith) (kept_place_in s alts)
      (home_in e o entry block (value_read alts n) LINK (omega arith) ok)
  operand_in s p alts n Returned ok = by (p.operands == 0)
    where
      m : Move
      m = record { instr = 3; cycle = p.cycle; place = kept_place s alts; register = 0 }

      by : (b : Bool) → MoveIn alts n (if b then m else no_move)
      by true = goes_in alts n m (omega arith) (kept_place_in s alts) (low_in e o entry block (value_read alts n) 0 roomy.regs (omega
          arith))
      by false = rests_in alts n
  operand_in s p alts n Unread ok = rests_in alts n

  pub truth_in : (p : Progress) (alts : List TempId) (n : ℕ) (purpose : Purpose)
      → (purpose ≡ Operands → is_truth e.names block (value_read alts n) ≡ true) → MoveIn alts n (truth_copy p alts purpose)
  truth_in p alts n Operands truth = record {
    instr = truth_instr (is_truth e.names block (value_read alts n)) 5 (truth refl) (omega arith);
    place = omega arith;
    register = with_zero_in (value_registers e o.regs o.slots entry block (value_read alts n)) 32
        (predicate_in e o entry block (value_read alts n) (truth refl));
  }
  truth_in p alts n Link truth = rests_in alts n
  truth_in p alts n Returned truth = rests_in alts n
  truth_in p alts n Unread truth = rests_in alts n
