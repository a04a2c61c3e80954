-- Preassigned operands have their homes exactly where the constraints of homes are met.
use Rattle.std.proofs.Common.{ℕ, zero, suc, ◌≡◌, ◌↔◌, true, List, [], ◌∷◌, refl, sym, ap, ◌∙◌, subst}
use Rattle.std.specs.Prelude.{Option, Some, None, slice_get, nat_eq, ◌||◌, is_some}
use Rattle.un_isa.specs.declared.reg.Reg.{Reg}
use Rattle.un_ir.specs.declared.function.Kind.{Kind}
use Rattle.un_ir.specs.declared.function.Term.{Term}
use Rattle.un_ir.specs.declared.function.Term.TheVariants.{Fall, Jump, Branch, Ret}
use Rattle.un_ir.specs.declared.extended.ExtKind.{ExtKind}
use Rattle.un_ir.specs.declared.extended.ExtKind.TheVariants.{In, Out, Body, End, Copy, Enter, Leave}
use Rattle.un_ir.specs.declared.extended.Operand.{Operand}
use Rattle.un_ir.specs.declared.extended.Ext.{Ext}
use Rattle.un_ir.specs.Extended.{Want, anywhere, wants_of, wants_of_end}
use Rattle.un_model.specs.declared.model.Options.{Options}
use Rattle.un_model.specs.declared.schedule.Read.{Read}
use Rattle.un_model.specs.Instructions.{instruction_of}
use Rattle.un_ir.specs.Kinds.{is_delimiter}
use Rattle.un_model.specs.Schedules.{schedule_of, read_of, value_by}
use Rattle.un_model.specs.Solutions.{KeepsHomes, ReadsHome, HasHome}
use Rattle.un_model.specs.Variables.{model_of}
use Rattle.un_model.proofs.Placed.{Placed, vars_of, issue_at}
use Rattle.un_model.proofs.PlacedSchedules.{spot_range, the_ranges}
use Rattle.un_alt.specs.Registers.{some_passes}
use Rattle.un_kinds.specs.Constraints.{AllMet, Home}
use Rattle.un_sites.specs.Places.{asked, definers_of, definers_at}
use Rattle.un_sites.specs.Postings.{over_operands, homes_of, home_by, registers_of}
use Rattle.un_post.proofs.Meeting.{Met}
use Rattle.un_post.proofs.Placing.{place_of}
use Rattle.un_post.proofs.Facts.{Given, Reading, reading, read_range, read_register}
use Rattle.un_post.proofs.Tests.{eq_iff, met_one}
use Rattle.un_post.proofs.Whole.{Agrees, operands_each}

lone_home : (k : Kind) (j : ℕ) (want : Want) → slice_get (anywhere k ∷ []) j ≡ Some want → want.home ≡ None
lone_home k zero want e = let same : anywhere k ≡ want = cc e in ap (λ (w : Want). w.home) (sym same)
lone_home k (suc j) want e = absurd (cc e)

module _ (e : Ext) (o : Options) (x : List ℕ) (given : Given e o x) where
  -- what has an operand with a home is active
  home_active : (q : Placed) (j : ℕ) (operand : Operand) (home : Reg) → Reading e o x given q j operand → operand.home ≡ Some home
      → (issue_at x q).active ≡ true
  home_active q j operand home r at = by q.op.kind refl r.wants
    where
      wanted : (let w = r.want in w.home ≡ Some home)
      wanted = let f = r.fits in sym f.home ∙ at

      none : (let w = r.want in w.home ≡ None) → (issue_at x q).active ≡ true
      none n = let z : Some home ≡ None = sym wanted ∙ n in absurd (cc z)

      active : (kind : ExtKind) → q.op.kind ≡ kind → (let v = vars_of q in
          (is_delimiter kind || is_some (instruction_of kind (value_by x v.instr))) ≡ true) → (issue_at x q).active ≡ true
      active kind k a = let v = vars_of q in ap (λ (c : ExtKind). is_delimiter c || is_some (instruction_of c (value_by x v.instr))) k ∙ a

      by_end : (term : Term) → slice_get (wants_of_end term) j ≡ Some r.want → (issue_at x q).active ≡ true
      by_end Fall w = absurd (cc w)
      by_end (Jump to) w = absurd (cc w)
      by_end (Branch pred sense to) w = none (lone_home _ j r.want w)
      by_end (Ret value) w = none (lone_home _ j r.want w)

      by : (kind : ExtKind) → q.op.kind ≡ kind → slice_get (wants_of e.table e.names e.blocks q.owner q.op.kind q.op) j ≡ Some r.want
          → (issue_at x q).active ≡ true
      by Out k w = active Out k refl
      by (Body so) k w = active (Body so) k refl
      by (End term) k w = by_end term (ap (λ (c : ExtKind). slice_get (wants_of e.table e.names e.blocks q.owner c q.op) j) (sym k) ∙ w)
      by (Copy node) k w = none (lone_home _ j r.want (ap (λ (c : ExtKind). slice_get (wants_of e.table e.names e.blocks q.owner c q.op) j)
          (sym k) ∙ w))
      by In k w = let z : Some r.want ≡ None = sym w ∙ ap (λ (c : ExtKind). slice_get (wants_of e.table e.names e.blocks q.owner c q.op) j)
          k in absurd (cc z)
      by Enter k w = let z : Some r.want ≡ None = sym w ∙ ap (λ (c : ExtKind). slice_get (wants_of e.table e.names e.blocks q.owner c q.op)
          j) k in absurd (cc z)
      by Leave k w = let z : Some r.want ≡ None = sym w ∙ ap (λ (c : ExtKind). slice_get (wants_of e.table e.names e.blocks q.owner c q.op)
          j) k in absurd (cc z)

  pub agree : Agrees e o x given (λ (r : Read). ReadsHome r (slice_get (the_ranges e o x) r.temp.0)) homes_of
  agree q j operand m at =
      let r = reading e o x given q j operand m at in
      by r operand.home refl
    where
      by : (r : Reading e o x given q j operand) (home : Option Reg) → operand.home ≡ home
          → ((issue_at x q).active ≡ true → ReadsHome (read_of x (issue_at x q) (vars_of q) j operand)
          (slice_get (the_ranges e o x) (read_of x (issue_at x q) (vars_of q) j operand).temp.0))
          ↔ Met x (homes_of (asked (definers_of (model_of e o)) (place_of q) j operand))
      by r None h = (
        λ f. subst (λ (g : Option Reg). Met x (home_by (slice_get (vars_of q).choices j)
            (registers_of (definers_at (definers_of (model_of e o)) operand.alts)) g)) (sym h) tt,
        λ t act. subst (ReadsHome (read_of x (issue_at x q) (vars_of q) j operand)) (sym (read_range e o x given q j operand r))
            (subst (λ (g : Option Reg). HasHome g (spot_range e o x r.spot)) (sym h) tt),
      )
      by r (Some home) h =
          let regs = registers_of (definers_at (definers_of (model_of e o)) operand.alts) in
          let choice = slice_get (vars_of q).choices j in
          let reg = (spot_range e o x r.spot).reg in
          let one = met_one x (Home choice regs home.0) (nat_eq reg home.0)
          (ap (some_passes (λ n. nat_eq n home.0)) (read_register e o x given q j operand r)) in
          let same = eq_iff reg home.0 in (
            λ f. subst (λ (g : Option Reg). Met x (home_by choice regs g)) (sym h)
                (one.0 (same.0 (subst (λ (g : Option Reg). HasHome g (spot_range e o x r.spot)) h
                (subst (ReadsHome (read_of x (issue_at x q) (vars_of q) j operand)) (read_range e o x given q j operand r)
                (f (home_active q j operand home r h)))))),
            λ t act. subst (ReadsHome (read_of x (issue_at x q) (vars_of q) j operand)) (sym (read_range e o x given q j operand r))
                (subst (λ (g : Option Reg). HasHome g (spot_range e o x r.spot)) (sym h)
                (same.1 (one.1 (subst (λ (g : Option Reg). Met x (home_by choice regs g)) h t)))),
          )

  pub homes : KeepsHomes (schedule_of (model_of e o) x) ↔ AllMet (over_operands homes_of (model_of e o)) x
  homes = operands_each e o x given (λ (r : Read). ReadsHome r (slice_get (the_ranges e o x) r.temp.0)) homes_of agree
