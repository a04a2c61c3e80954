-- What an operand with a home chooses is at it: its operation is active in every solution.
use Rattle.std.proofs.Common.{ℕ, zero, suc, ◌≡◌, Bool, true, false, List, refl, sym, ap, ◌∙◌, subst}
use Rattle.std.specs.Prelude.{Option, Some, None, IsSomeAnd, slice_get, slice_index}
use Rattle.std.specs.List.{AllZip}
use Rattle.un_isa.specs.declared.reg.Reg.{Reg}
use Rattle.un_ir.specs.declared.extended.Ext.{Ext}
use Rattle.un_ir.specs.declared.extended.Operand.{Operand}
use Rattle.un_ir.specs.declared.extended.ExtKind.{ExtKind}
use Rattle.un_ir.specs.declared.extended.ExtKind.TheVariants.{In, Out, Body, End, Copy, Enter, Leave}
use Rattle.un_ir.specs.Extended.{IsGoodOperand, Want, wants_of}
use Rattle.un_ir.specs.Kinds.{is_optional}
use Rattle.un_domains.specs.Sets.{Sets, has, IsIn}
use Rattle.un_model.specs.declared.model.Options.{Options}
use Rattle.un_model.specs.Solutions.{HasHome}
use Rattle.un_model.specs.Variables.{model_of, var_if}
use Rattle.un_lists.proofs.Lists.{Member}
use Rattle.un_model.proofs.Placed.{Placed, vars_of, issue_at}
use Rattle.un_model.proofs.PlacedSchedules.{all, spot_range}
use Rattle.un_model.proofs.Readings.{Solved, placed_good, zip_get}
use Rattle.un_steps.specs.Words.{Alternative, alternative, regs, IsNeverZero}
use Rattle.un_steps.specs.Rules.{IsNotHome}
use Rattle.un_steps.proofs.Boxes.{some_of, picked}
use Rattle.un_steps.proofs.Choosing.{chosen, register_in}
use Rattle.un_steps.proofs.Grounds.{sure_active}
use Rattle.un_steps.proofs.Placing.{operation_of}

-- the home that is wanted, where something is
abbrev home_in : Option Want → Option Reg
home_in None = None
home_in (Some want) = want.home

module _ (e : Ext) (o : Options) (x : List ℕ) (h : Solved e o x) (s : Sets) (inside : IsIn x s) where
  -- an operation with an operand that has a home cannot be left out
  home_active : (q : Placed) (k : ℕ) (b : Operand) (r : Reg) → Member q (all e o x) → slice_get q.op.operands k ≡ Some b → b.home ≡ Some r
      → (issue_at x q).active ≡ true
  home_active q k b r m at home = by q.op.kind refl
    where
      fixed : (c : ExtKind) → q.op.kind ≡ c → is_optional c ≡ false → (issue_at x q).active ≡ true
      fixed c f t = sure_active e o x h s inside q m (subst (λ (b : Bool). IsNeverZero s (var_if b q.first)) (sym (ap is_optional f ∙ t)) tt)

      wanted : (want : Want) → b.home ≡ want.home → want.home ≡ None → (issue_at x q).active ≡ true
      wanted want f g = absurd (cc (sym home ∙ f ∙ g))

      zip : (c : ExtKind) → q.op.kind ≡ c → (want : Want) × (slice_get (wants_of e.table e.names e.blocks q.owner c q.op) k ≡ Some want)
          × (b.home ≡ want.home)
      zip c f =
          let g = placed_good e o x h q m in
          let keeps = g.keeps in
          let z = zip_get (IsGoodOperand e.names e.blocks g.before) q.op.operands (wants_of e.table e.names e.blocks q.owner c q.op) k b
          (subst (λ (c : ExtKind). AllZip (IsGoodOperand e.names e.blocks g.before) q.op.operands
          (wants_of e.table e.names e.blocks q.owner c q.op)) f keeps.operands) at in
          let fits = z.2 in
          (z.0, z.1, fits.home)

      by : (c : ExtKind) → q.op.kind ≡ c → (issue_at x q).active ≡ true
      by In f = fixed In f refl
      by Out f = fixed Out f refl
      by (Body so) f = fixed (Body so) f refl
      by (End term) f = fixed (End term) f refl
      by (Copy node) f = let z = zip (Copy node) f in wanted z.0 z.2 (one k z.0 z.1)
        where
          one : (k : ℕ) (want : Want) → slice_get (wants_of e.table e.names e.blocks q.owner (Copy node) q.op) k ≡ Some want
              → want.home ≡ None
          one zero want t = sym (ap home_in t)
          one (suc k) want t = absurd (cc t)
      by Enter f = let z = zip Enter f in absurd (cc z.1)
      by Leave f = let z = zip Leave f in absurd (cc z.1)

  pub not_home : (q : Placed) (v y : ℕ) → Member q (all e o x) → IsNotHome (model_of e o) s (operation_of q) v y → slice_index x v ≡ y → ⊥
  not_home q v y m goes is =
      let model = model_of e o in
      let a = some_of (alternative (operation_of q) v y) (λ (a : Alternative). IsSomeAnd (let b = a.operand in b.home) (λ (r : Reg).
      has (regs model s a.temp) r.0 ≡ false)) goes in
      let operand : Operand = (a.0).operand in
      let r = some_of operand.home (λ (r : Reg). has (regs model s (a.0).temp) r.0 ≡ false) a.2 in
      let vars = vars_of q in
      let p = picked v y 0 vars.choices q.op.operands a.0 a.1 in
      let act = home_active q p.place operand r.0 m p.operand_at r.1 in
      let c = chosen e o x h s inside q v y a.0 m act a.1 is in
      let there : register_in x c.spot ≡ (r.0).0 = subst (λ (t : Option Reg). HasHome t (spot_range e o x c.spot)) r.1 c.home in
      let left : has (regs model s (a.0).temp) (r.0).0 ≡ true = subst (λ n. has (regs model s (a.0).temp) n ≡ true) there c.register in
      cc (sym r.2 ∙ left)
