-- A row that the ends of a solution meet holds below a limit that the solution costs less than.
use Rattle.std.proofs.Common.{ℕ, ◌≡◌, ◌≤◌, ◌<◌, ◌+◌, ◌-◌, ◌*◌, Bool, true, false, ◌||◌, List, [], ◌∷◌, map, max, inl, inr, refl, ap, ◌∙◌}
use Rattle.std.proofs.Common.{arith, All, Contains}
use Rattle.std.specs.List.{list_all, list_any}
use Rattle.un_base.specs.declared.ids.VarId.{VarId}
use Rattle.un_ir.specs.declared.extended.ExtBlock.{ExtBlock}
use Rattle.un_model.specs.Cost.{blocks_cost, block_cost, value_of, cost_of as model_cost}
use Rattle.un_model.specs.Variables.{IsModel}
use Rattle.un_model.specs.declared.model.BlockVars.{BlockVars}
use Rattle.un_model.specs.declared.model.Model.{Model}
use Rattle.un_model.specs.declared.model.Solution.{Solution}
use Rattle.un_lists.proofs.Lists.{Each, Member, each_all}
use Rattle.un_model.proofs.Operations.{contains_member}
use Rattle.un_press.proofs.Spilling.{le_true, lt_true}
use Rattle.un_prop.specs.LookLaws.{both}
use Rattle.un_counted.specs.Counted.{value_at, reaches, cost_of, row_holds, counted_holds}
use Rattle.un_counted.specs.declared.counted.LeastEnd.{LeastEnd}
use Rattle.un_rows.specs.Rows.{rows_of}
use Rattle.un_rows.proofs.Whole.{IsWhole, rows_whole}

any_member : {A : Type 0} (p : A → Bool) (xs : List A) (x : A) → Member x xs → p x ≡ true → list_any p xs ≡ true
any_member p [] x m h = elim m [ ]
any_member p (y ∷ ys) x (inl e) h = ap (λ (b : Bool). b || list_any p ys) (ap p e ∙ h)
any_member p (y ∷ ys) x (inr m) h = later (p y) (any_member p ys x m h)
  where
    later : (b : Bool) → list_any p ys ≡ true → (b || list_any p ys) ≡ true
    later true t = refl
    later false t = t

module _ (x : List ℕ) where
  abbrev IsMet : LeastEnd → Type 0
  IsMet e = e.least ≤ value_of x e.end

  all_reach : (row : List LeastEnd) → Each IsMet row → list_all (reaches (value_at x)) row ≡ true
  all_reach [] met = refl
  all_reach (e ∷ es) met = both (reaches (value_at x) e) (list_all (reaches (value_at x)) es) (le_true e.least (value_at x e.end) met.0)
      (all_reach es met.1)

  one_cost : (e : LeastEnd) (b : ExtBlock) (v : BlockVars) → e.freq ≡ b.freq → e.end ≡ v.end → IsMet e
      → e.freq * (max (value_at x e.end) e.least - 1) ≡ block_cost x b v
  one_cost e b v freq end met =
      let own : max (value_at x e.end) e.least ≡ value_at x e.end = omega (arith, met) in
      ap (λ (n : ℕ). e.freq * (n - 1)) own ∙ ap (λ (n : ℕ). n * (value_at x e.end - 1)) freq
      ∙ ap (λ (u : VarId). b.freq * (value_of x u - 1)) end

  row_cost : (row : List LeastEnd) (blocks : List ExtBlock) (vars : List BlockVars) → IsWhole blocks vars row → Each IsMet row
      → cost_of row (value_at x) ≡ blocks_cost x blocks vars
  row_cost [] [] vars w met = refl
  row_cost [] (b ∷ blocks) vars w met = let none = w.0 in absurd (cc none)
  row_cost (e ∷ es) [] vars w met = let none = w.0 in absurd (cc none)
  row_cost (e ∷ es) (b ∷ blocks) [] w met = let none = w.1 in absurd (cc none)
  row_cost (e ∷ es) (b ∷ blocks) (v ∷ vars) w met =
      let freqs = w.0 in
      let ends = w.1 in
      let freq : e.freq ≡ b.freq = cc freqs in
      let end : e.end ≡ v.end = cc ends in
      let more_freqs : map (λ (d : LeastEnd). d.freq) es ≡ map (λ (c : ExtBlock). c.freq) blocks = cc freqs in
      let more_ends : map (λ (d : LeastEnd). d.end) es ≡ map (λ (u : BlockVars). u.end) vars = cc ends in
      let one = one_cost e b v freq end met.0 in
      let rest = row_cost es blocks vars (more_freqs, more_ends) met.1 in
      ap (λ (n : ℕ). n + cost_of es (value_at x)) one ∙ ap (λ (n : ℕ). block_cost x b v + n) rest

-- So the rows hold.
pub rows_hold : (m : Model) (s : Solution) (limit : ℕ) → IsModel m → (row : List LeastEnd) → Contains (rows_of m) row
    → All (λ (e : LeastEnd). e.least ≤ value_of s.values e.end) row → model_cost m s < limit → counted_holds (rows_of m) limit s.values ≡ true
rows_hold m s limit own row has met less =
    let each = each_all (IsMet s.values) row met in
    let cost = row_cost s.values row m.ext.blocks m.blocks (rows_whole m own row has) each in
    any_member (row_holds limit (value_at s.values) (value_at s.values)) (rows_of m) row (contains_member (rows_of m) row has)
    (both (list_all (reaches (value_at s.values)) row) _ (all_reach s.values row each)
    (lt_true (cost_of row (value_at s.values)) limit (omega (arith, cost, less))))
