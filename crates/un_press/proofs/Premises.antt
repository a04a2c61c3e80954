-- What the operations of an extended function say of values that cross a call: which operations read a value, and that they need a
-- register.
use Rattle.std.proofs.Common.{ℕ, ◌≡◌, ◌<◌, ◌≤◌, ◌+◌, ◌⊎◌, inl, inr, Bool, true, false, ◌||◌, List, refl, sym, ap, ◌∙◌, subst, arith}
use Rattle.std.specs.Prelude.{Option, Some, None, slice_get, is_some, IfSome}
use Rattle.un_base.specs.declared.ids.TempId.{TempId}
use Rattle.un_isa.specs.declared.reg.Reg.{Reg}
use Rattle.un_isa.specs.declared.reg.TheConstants.{REGISTERS}
use Rattle.un_ir.specs.declared.function.SrcOp.{SrcOp}
use Rattle.un_ir.specs.declared.function.Term.{Term}
use Rattle.un_ir.specs.declared.function.Term.TheVariants.{Fall, Jump, Branch, Ret}
use Rattle.un_ir.specs.declared.extended.ExtKind.{ExtKind}
use Rattle.un_ir.specs.declared.extended.ExtKind.TheVariants.{In, Out, Body, End, Copy, Enter, Leave}
use Rattle.un_ir.specs.declared.extended.Operand.{Operand}
use Rattle.un_ir.specs.declared.extended.Ext.{Ext}
use Rattle.un_ir.specs.Extended.{IsGoodKind, IsGoodOperand, IsSourceOp, Want, wants_of, temp}
use Rattle.un_ir.specs.Kinds.{is_mandatory, is_delimiter}
use Rattle.un_ir.specs.Linear.{first_of, is_in}
use Rattle.un_model.specs.declared.model.Options.{Options}
use Rattle.un_model.specs.Instructions.{instruction_of, space_read}
use Rattle.un_model.specs.Schedules.{value_by}
use Rattle.un_model.specs.Solutions.{InSpace}
use Rattle.un_lists.proofs.Lists.{Member}
use Rattle.un_model.proofs.Placed.{Placed, vars_of, issue_at, Spot}
use Rattle.un_model.proofs.PlacedSchedules.{all, spots}
use Rattle.un_model.proofs.Readings.{Solved, placed_good, zip_get}
use Rattle.un_press.specs.Accesses.{takes_register}
use Rattle.un_press.proofs.Crossings.{Crossing}
use Rattle.un_press.proofs.Descent.{cycle_at, Reader}
use Rattle.un_press.proofs.Kept.{operand_home, entry_starts}
use Rattle.un_press.proofs.Needs.{no_slot, reads_register, ends_register}
use Rattle.un_press.proofs.Reloading.{NeedsRegister, Wanted}
use Rattle.un_press.proofs.Spilling.{Saved}

module _ (e : Ext) (o : Options) (values : List ℕ) (h : Solved e o values) where
  -- what an operand is to be
  abbrev IsWanted : Placed → ℕ → Operand → Want → Type 0
  IsWanted q j x want = (slice_get (wants_of e.table e.names e.blocks q.owner q.op.kind q.op) j ≡ Some want) × (x.home ≡ want.home)

  wanted : (q : Placed) (j : ℕ) (x : Operand) → Member q (all e o values) → slice_get q.op.operands j ≡ Some x
      → (want : Want) × IsWanted q j x want
  wanted q j x m at =
      let g = placed_good e o values h q m in
      let keeps = g.keeps in
      let z = zip_get (IsGoodOperand e.names e.blocks g.before) q.op.operands (wants_of e.table e.names e.blocks q.owner q.op.kind q.op)
      j x keeps.operands at in
      let ok = z.2 in
      (z.0, (z.1, ok.home))

  -- ---- readers

  -- a mandatory operation that reads is active: a Fall reads nothing
  pub reads_active : (q : Placed) (j : ℕ) (x : Operand) → Member q (all e o values) → is_mandatory q.op.kind ≡ true
      → slice_get q.op.operands j ≡ Some x → (issue_at values q).active ≡ true
  reads_active q j x m mandatory at = by q.op.kind refl mandatory
    where
      active : ExtKind → Bool
      active k = is_delimiter k || is_some (instruction_of k (value_by values (vars_of q).instr))

      ends : (term : Term) → q.op.kind ≡ End term → active (End term) ≡ true
      ends Fall f =
          let w = wanted q j x m at in
          let none = subst (λ (k : ExtKind). slice_get (wants_of e.table e.names e.blocks q.owner k q.op) j ≡ Some w.0) f w.1.0 in
          absurd (cc none)
      ends (Jump to) f = refl
      ends (Branch pred true to) f = refl
      ends (Branch pred false to) f = refl
      ends (Ret value) f = refl

      by : (k : ExtKind) → q.op.kind ≡ k → is_mandatory k ≡ true → (issue_at values q).active ≡ true
      by In f t = ap active f
      by Out f t = ap active f
      by (Body so) f t = ap active f
      by (End term) f t = ap active f ∙ ends term f
      by (Copy node) f t = absurd (cc t)
      by Enter f t = absurd (cc t)
      by Leave f t = absurd (cc t)

  -- an operand of a mandatory operation that issues after a cycle reads its value then
  pub reader_of : (q : Placed) (j : ℕ) (x : Operand) (t : ℕ) → Member q (all e o values) → is_mandatory q.op.kind ≡ true
      → slice_get q.op.operands j ≡ Some x → t < cycle_at e o values h q → Reader e o values h (temp (first_of x.alts)) t
  reader_of q j x t m mandatory at after = record {
    user = q;
    member = m;
    active = reads_active q j x m mandatory at;
    place = j;
    operand = x;
    at = at;
    value = refl;
    after = after;
  }

  -- ---- readers that need a register

  module _ (v : TempId) (t : ℕ) (r : Reader e o values h v t) where
    abbrev q : Placed
    q = r.user

    abbrev n : ℕ
    n = let vars = vars_of q in value_by values vars.instr

    -- an operation of the source
    pub source_needs : (so : SrcOp) → (let p = r.user in p.op.kind ≡ Body so) → NeedsRegister e o values h v t r
    source_needs so k reg space home =
        let w = wanted q r.place r.operand r.member r.at in
        let wants = subst (λ (z : ExtKind). slice_get (wants_of e.table e.names e.blocks q.owner z q.op) r.place ≡ Some w.0) k w.1.0 in
        let g = placed_good e o values h q r.member in
        let keeps = g.keeps in
        let source : IsSourceOp so = subst (λ (z : ExtKind). IsGoodKind z q.op) k keeps.kind in
        no_slot reg (space_read (Some so.op) r.place)
        (subst (λ (z : ExtKind). InSpace reg (space_read (instruction_of z n) r.place)) k space)
        (reads_register e.table so so.op r.place w.0 source.op wants)

    -- a terminator
    pub end_needs : (term : Term) → (let p = r.user in p.op.kind ≡ End term) → NeedsRegister e o values h v t r
    end_needs term k reg space home =
        let w = wanted q r.place r.operand r.member r.at in
        let wants = subst (λ (z : ExtKind). slice_get (wants_of e.table e.names e.blocks q.owner z q.op) r.place ≡ Some w.0) k w.1.0 in
        no_slot reg (space_read (instruction_of (End term) n) r.place)
        (subst (λ (z : ExtKind). InSpace reg (space_read (instruction_of z n) r.place)) k space)
        (ends_register term r.place w.0 wants)

    -- an operand with a home
    pub home_needs : (let y = r.operand in is_some y.home ≡ true) → NeedsRegister e o values h v t r
    home_needs some reg space home =
        let y = r.operand in
        low y.home some (operand_home e o values h q r.place r.operand r.member r.at) home
      where
        low : (place : Option Reg) → is_some place ≡ true → IfSome place (λ (x : Reg). x.0 < REGISTERS)
            → IfSome place (λ (x : Reg). reg ≡ x.0)
            → reg < REGISTERS
        low None s a b = absurd (cc s)
        low (Some x) s a b = omega (arith, a, b)

    pub takes_needs : (let p = r.user in takes_register p.op.kind r.operand ≡ true) → NeedsRegister e o values h v t r
    takes_needs takes = by q.op.kind refl takes
      where
        by : (kind : ExtKind) → (let p = r.user in p.op.kind ≡ kind) → takes_register kind r.operand ≡ true
            → NeedsRegister e o values h v t r
        by (Body so) k s = source_needs so k
        by (End term) k s = end_needs term k
        by Out k s = home_needs s
        by In k s = absurd (cc s)
        by (Copy node) k s = absurd (cc s)
        by Enter k s = absurd (cc s)
        by Leave k s = absurd (cc s)

  -- ---- values that cross a call

  -- result s is there by the cycle of call c, which does not give it, and an operand of operation q, which is its block's and mandatory,
  -- reads it after that
  pub record IsCrosser (c : Placed) (s : Spot) (q : Placed) (j : ℕ) (x : Operand) : Type 0 where
    pub member : Member s (spots e o values)
    pub early : let d = s.definer in cycle_at e o values h d ≤ cycle_at e o values h c
    pub other : let d = s.definer in d.number ≡ c.number → ⊥
    pub user : Member q (all e o values)
    pub mandatory : is_mandatory q.op.kind ≡ true
    pub block : q.block ≡ c.block
    pub at : slice_get q.op.operands j ≡ Some x
    pub reads : first_of x.alts ≡ s.temp.0
    pub late : cycle_at e o values h c + 1 ≤ cycle_at e o values h q

  module _ (c : Placed) (s : Spot) (q : Placed) (j : ℕ) (x : Operand) (is : IsCrosser c s q j x) where
    abbrev crossing_reader : Reader e o values h s.temp (cycle_at e o values h c)
    crossing_reader = record {
      user = q;
      member = is.user;
      active = reads_active q j x is.user is.mandatory is.at;
      place = j;
      operand = x;
      at = is.at;
      value = ap temp is.reads;
      after = (let late = is.late in omega (arith, late));
    }

    abbrev pub crossing_of : Crossing e o values h c s.temp
    crossing_of = record {
      own = s;
      member = is.member;
      is = refl;
      early = is.early;
      other = λ call. is.other;
      reader = crossing_reader;
      block = is.block;
    }

    -- where it is not at the start of the block, or the block is the entry, it has no slot there
    pub saved_of : (let d = s.definer in (is_in d.op.kind ≡ false) ⊎ (d.block ≡ 0)) → Saved e o values h c s.temp
    saved_of starts = record {
      crossing = crossing_of;
      starts = λ t. (let d = s.definer in elim starts [
        | inl inner ↦ (let z : true ≡ false = sym t ∙ inner in absurd (cc z))
        | inr entry ↦ entry_starts e o values h s is.member entry t
      ]);
    }

    pub wanted_of : takes_register q.op.kind x ≡ true → Wanted e o values h c s.temp
    wanted_of takes = record {
      crossing = crossing_of;
      needs = takes_needs s.temp (cycle_at e o values h c) crossing_reader takes;
    }
