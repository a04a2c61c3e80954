-- What a copy gives lies in the space of its instruction's result.
use Rattle.std.proofs.Common.{ℕ, ◌≡◌, Bool, true, false, List, [], ◌∷◌, inl, inr, ◌⊎◌, ⊎_elim, refl, sym, ap, ◌∙◌, subst, arith}
use Rattle.std.specs.Prelude.{Option, Some, slice_get, slice_index}
use Rattle.std.specs.List.{flat_map}
use Rattle.un_base.specs.declared.ids.TempId.{TempId}
use Rattle.un_base.specs.declared.ids.VarId.{VarId}
use Rattle.un_ir.specs.declared.extended.Ext.{Ext}
use Rattle.un_ir.specs.Kinds.{is_optional}
use Rattle.un_domains.specs.Sets.{Sets, set_at, has, IsIn}
use Rattle.un_model.specs.declared.model.Options.{Options}
use Rattle.un_model.specs.declared.model.TempVars.{TempVars}
use Rattle.un_model.specs.Instructions.{instruction_of, space_given}
use Rattle.un_model.specs.Schedules.{value_by}
use Rattle.un_model.specs.Solutions.{InSpace}
use Rattle.un_model.specs.Variables.{model_of, var_if, var_at}
use Rattle.un_lists.proofs.Lists.{Member, place_of, member_map}
use Rattle.un_model.proofs.Placed.{Placed, vars_of, issue_at, Spot, spot, spots_of}
use Rattle.un_model.proofs.PlacedSchedules.{all, spots, given_space, member_joined, member_places, split_member}
use Rattle.un_model.proofs.Readings.{Solved, numbered}
use Rattle.un_steps.specs.Words.{result_vars, reg_numbers}
use Rattle.un_steps.specs.Rules.{IsOutsideSpace, only}
use Rattle.un_steps.proofs.Boxes.{some_of, has_member}
use Rattle.un_steps.proofs.Choosing.{has_one, register_var, register_in}
use Rattle.un_steps.proofs.Grounds.{instr_left}
use Rattle.un_steps.proofs.Placing.{operation_of, reg_here}

-- what is in what a function gives of the elements of a list is in what it gives of one
flat_member : {A B : Type 0} (f : A → List B) (xs : List A) (y : B) → Member y (flat_map f xs) → (a : A) × (Member a xs) × (Member y (f a))
flat_member f [] y m = elim m [ ]
flat_member f (a ∷ bs) y m = ⊎_elim (λ (k : Member y (f a)). (a, inl refl, k))
    (λ (k : Member y (flat_map f bs)). let r = flat_member f bs y k in (r.0, inr r.1, r.2)) (split_member (f a) (flat_map f bs) y m)

pub only_is : (xs : List ℕ) (n : ℕ) → only xs ≡ Some n → xs ≡ n ∷ []
only_is [] n h = absurd (cc h)
only_is (a ∷ []) n h = let same : a ≡ n = cc h in ap (λ (a : ℕ). a ∷ []) same
only_is (a ∷ b ∷ bs) n h = absurd (cc h)

-- the variable of an operation's instruction, where there is one
pub instr_is : (q : Placed) (i : VarId) → (let v = vars_of q in v.instr ≡ Some i) → (is_optional q.op.kind ≡ true) × (i.0 ≡ q.first)
instr_is q i h = by (is_optional q.op.kind) refl h
  where
    by : (b : Bool) → is_optional q.op.kind ≡ b → var_if b q.first ≡ Some i → (is_optional q.op.kind ≡ true) × (i.0 ≡ q.first)
    by false f k = absurd (cc k)
    by true f k = let same : var_at q.first ≡ i = cc k in (f, ap (λ (v : VarId). v.0) (sym same))

module _ (e : Ext) (o : Options) (x : List ℕ) (h : Solved e o x) (s : Sets) (inside : IsIn x s) where
  -- a variable of a result's register is that of a result
  pub result_of : (q : Placed) (v : ℕ) → Member q (all e o x) → Member v (result_vars (model_of e o) (operation_of q))
      → (u : Spot) × (Member u (spots e o x)) × (u.definer ≡ q) × (v ≡ register_var u)
  result_of q v m mem =
      let r = flat_member (λ (t : TempId). reg_numbers (slice_get (model_of e o).temps t.0)) q.op.results v mem in
      let k = place_of q.op.results r.0 r.1 in
      let u = spot q k.0 r.0 in
      let mu : Member u (spots e o x) = member_joined _ (spots_of q) u (member_map spots_of (all e o x) q m)
      (member_places (spot q) q.op.results 0 k.0 k.0 r.0 (omega arith) k.2) in
      let one = subst (λ (t : Option TempVars). Member v (reg_numbers t)) (reg_here e o x (numbered e o x h) u mu) r.2 in
      (u, mu, refl, here one)
    where
      here : {n : ℕ} → (n ≡ v) ⊎ Member v [] → v ≡ n
      here (inl same) = sym same
      here (inr none) = elim none [ ]

  pub outside_space : (q : Placed) (v y : ℕ) → Member q (all e o x) → IsOutsideSpace (model_of e o) s (operation_of q) v y
      → slice_index x v ≡ y → ⊥
  outside_space q v y m (copy, result, goes) is =
      let vars = vars_of q in
      let i = some_of vars.instr _ goes in
      let n = some_of (only (set_at s (i.0).0)) _ i.2 in
      let var = instr_is q i.0 i.1 in
      let left = instr_left e o x h s inside q m var.0 in
      let alone : set_at s q.first ≡ n.0 ∷ [] = ap (set_at s) (sym var.1) ∙ only_is (set_at s (i.0).0) n.0 n.1 in
      let value : slice_index x q.first ≡ n.0 = has_one n.0 (slice_index x q.first)
      (sym (ap (λ (xs : List ℕ). has xs (slice_index x q.first)) alone) ∙ left) in
      let by_number : value_by x vars.instr ≡ n.0 = ap (λ (b : Bool). value_by x (var_if b q.first)) var.0 ∙ value in
      let u = result_of q v m (has_member (result_vars (model_of e o) (operation_of q)) v result) in
      let space = given_space e o x (numbered e o x h) u.0 u.1 h.schedule in
      let own : InSpace (register_in x u.0) (space_given (issue_at x q).instr) =
      subst (λ (d : Placed). InSpace (register_in x u.0) (space_given (issue_at x d).instr)) u.2 space in
      let reg : register_in x u.0 ≡ y = ap (slice_index x) (sym u.3) ∙ is in
      let bad = n.2 in
      bad.1 (subst (λ (r : ℕ). InSpace r (space_given (instruction_of q.op.kind n.0))) reg
      (subst (λ (k : ℕ). InSpace (register_in x u.0) (space_given (instruction_of q.op.kind k))) by_number own))
