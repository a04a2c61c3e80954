-- What an operation that is active has chosen: a result of an operation that is active, too, which is ready, in the space and at the home
-- that are asked for, and whose register is left.
use Rattle.std.proofs.Common.{ℕ, ◌≡◌, ◌≤◌, ◌+◌, Bool, true, false, List, [], ◌∷◌, inl, inr, refl, sym, ap, ◌∙◌, subst, arith}
use Rattle.std.specs.Prelude.{Option, Some, slice_get, slice_index, unwrap_or}
use Rattle.un_base.specs.declared.ids.TempId.{TempId}
use Rattle.un_base.specs.declared.ids.VarId.{VarId}
use Rattle.un_ir.specs.declared.extended.Operand.{Operand}
use Rattle.un_ir.specs.declared.extended.Ext.{Ext}
use Rattle.un_ir.specs.Extended.{temp}
use Rattle.un_ir.specs.Kinds.{is_optional}
use Rattle.un_domains.specs.Sets.{Sets, set_at, has, IsIn}
use Rattle.un_domains.specs.SetLaws.{has-cons}
use Rattle.un_model.specs.declared.model.Options.{Options}
use Rattle.un_model.specs.Instructions.{space_read}
use Rattle.un_model.specs.Schedules.{value_by, read_of, choice_of, chosen as chosen_temp}
use Rattle.un_model.specs.Solutions.{InSpace, HasHome, latency_gap}
use Rattle.un_model.specs.Variables.{model_of, var_if, register_place}
use Rattle.un_lists.proofs.Lists.{Member, length_get}
use Rattle.un_model.proofs.Placed.{Placed, vars_of, issue_at, Spot, spot, spots_of}
use Rattle.un_model.proofs.PlacedSchedules.{all, spots, spot_range, has_read, good_read, definer_in, joined_member, places_member}
use Rattle.un_model.proofs.Readings.{Solved, numbered}
use Rattle.un_steps.specs.Words.{Alternative, alternative, IsOff, IsZeroAlone, definer_of, regs}
use Rattle.un_steps.proofs.Boxes.{picked}
use Rattle.un_steps.proofs.Grounds.{own, instr_left, idle_is_zero}
use Rattle.un_steps.proofs.Placing.{operation_of, definer_here, regs_here}

-- the one value of a set
pub has_one : (a y : ℕ) → has (a ∷ []) y ≡ true → y ≡ a
has_one a y h = elim (has-cons a y [] h) [ inl e ↦ e | inr t ↦ absurd (cc t) ]

-- a result stands at its place among those of its operation
pub record IsResult (x : List ℕ) (u : Spot) : Type 0 where
  pub at : slice_get (let d = u.definer in let op = d.op in op.results) u.place ≡ Some u.temp

pub result_at : (e : Ext) (o : Options) (x : List ℕ) (u : Spot) → Member u (spots e o x) → IsResult x u
result_at e o x u m =
    let r = joined_member spots_of (all e o x) u m in
    let w = places_member (spot r.0) 0 r.0.op.results u r.2 in
    let z : 0 + w.0 ≡ w.0 = omega arith in
    let same : spot r.0 w.0 w.1 ≡ u = ap (λ k. spot r.0 k w.1) (sym z) ∙ w.3 in
    subst (IsResult x) same (record { at = w.2 })

-- the variable of a result's register, and its value
abbrev pub register_var : Spot → ℕ
register_var u = u.definer.first + register_place u.definer.op + u.place

abbrev pub register_in : List ℕ → Spot → ℕ
register_in x u = slice_index x (register_var u)

module _ (e : Ext) (o : Options) (x : List ℕ) (h : Solved e o x) (s : Sets) (inside : IsIn x s) where
  -- the register of a result is left
  pub register_there : (u : Spot) → Member u (spots e o x) → has (set_at s (register_var u)) (register_in x u) ≡ true
  register_there u m =
      let d = definer_in e o x (numbered e o x h) u m in
      let r = result_at e o x u m in
      let lt = length_get u.definer.op.results u.place u.temp r.at in
      let z : u.definer.first + (register_place u.definer.op + u.place) ≡ u.definer.first + register_place u.definer.op + u.place = omega arith in
      let left = own e o x h s inside u.definer d (register_place u.definer.op + u.place) (omega (arith, lt)) in
      subst (λ v. has (set_at s v) (slice_index x v) ≡ true) z left

  pub register_left : (u : Spot) → Member u (spots e o x) → has (regs (model_of e o) s u.temp) (register_in x u) ≡ true
  register_left u m = ap (λ (xs : List ℕ). has xs (register_in x u)) (regs_here e o x (numbered e o x h) s u m) ∙ register_there u m

  -- what the operation chose
  pub record Chosen (q : Placed) (a : Alternative) : Type 0 where
    pub spot : Spot
    pub member : Member spot (spots e o x)
    pub temp : spot.temp ≡ a.temp
    pub listed : Member spot.definer (all e o x)
    pub definer : definer_of (model_of e o) a.temp ≡ Some (operation_of spot.definer)
    pub active : (issue_at x spot.definer).active ≡ true
    pub register : has (regs (model_of e o) s a.temp) (register_in x spot) ≡ true
    pub space : InSpace (register_in x spot) (space_read (issue_at x q).instr a.at)
    pub ready : (issue_at x spot.definer).cycle + latency_gap e.table (issue_at x spot.definer).instr (issue_at x q).instr
        ≤ (issue_at x q).cycle
    pub home : HasHome (let b = a.operand in b.home) (spot_range e o x spot)
    pub last : (issue_at x q).cycle ≤ (spot_range e o x spot).last + 1
    pub operand : slice_get q.op.operands a.at ≡ Some a.operand
    pub read : (let b = a.operand in choice_of x (vars_of q) a.at b) ≡ a.temp

  pub chosen : (q : Placed) (v y : ℕ) (a : Alternative) → Member q (all e o x) → (issue_at x q).active ≡ true
      → alternative (operation_of q) v y ≡ Some a → slice_index x v ≡ y → Chosen q a
  chosen q v y a m act alt is =
      let vars = vars_of q in
      let p = picked v y 0 vars.choices q.op.operands a alt in
      let k = p.place in
      let at : k ≡ a.at = let f = p.at in omega (arith, f) in
      let operand : Operand = a.operand in
      let r = read_of x (issue_at x q) vars k operand in
      let sch = h.schedule in
      let num = numbered e o x h in
      let good = good_read e o x num r sch (has_read e o x q k operand m act p.operand_at) in
      let c = p.choice in
      let value : slice_index x c.0 ≡ y = ap (slice_index x) p.choice_is ∙ is in
      let of_r : r.temp ≡ a.temp = ap (λ (w : Option VarId). chosen_temp operand.alts (value_by x w)) p.choice_at
      ∙ ap (chosen_temp operand.alts) value ∙ ap (λ (t : Option TempId). unwrap_or t (temp 0)) p.temp_at in
      let u = good.result in
      let same : u.temp ≡ a.temp = ap temp (good.is ∙ ap (λ (t : TempId). t.0) of_r) in
      let d = definer_in e o x num u good.member in
      record {
        spot = u;
        member = good.member;
        temp = same;
        listed = d;
        definer = subst (λ (t : TempId). definer_of (model_of e o) t ≡ Some (operation_of u.definer)) same (definer_here e o x num u good.member d);
        active = good.active;
        register = subst (λ (t : TempId). has (regs (model_of e o) s t) (register_in x u) ≡ true) same (register_left u good.member);
        space = subst (λ (j : ℕ). InSpace (register_in x u) (space_read (issue_at x q).instr j)) at good.space;
        ready = good.ready;
        home = good.home;
        last = good.last;
        operand = ap (slice_get q.op.operands) (sym at) ∙ p.operand_at;
        read = subst (λ (j : ℕ). choice_of x vars j operand ≡ a.temp) at of_r;
      }

  -- what is off is not active
  pub off_idle : (q : Placed) → Member q (all e o x) → IsOff s (operation_of q) → (issue_at x q).active ≡ true → ⊥
  off_idle q m off act = by (is_optional q.op.kind) refl off
    where
      by : (b : Bool) → is_optional q.op.kind ≡ b → IsZeroAlone s (var_if b q.first) → ⊥
      by false k z = z
      by true k z =
          let left = instr_left e o x h s inside q m k in
          let one : has (0 ∷ []) (slice_index x q.first) ≡ true = sym (ap (λ (xs : List ℕ). has xs (slice_index x q.first)) z) ∙ left in
          idle_is_zero e o x h s inside q k (has_one 0 (slice_index x q.first) one) act
