-- The rows of a model that are posted: their variables are variables of the model, and there are some; and what a row more leaves.
use Rattle.std.proofs.Common.{ℕ, ◌≡◌, ◌+◌, ◌<◌, ◌≤◌, Bool, true, false, List, [], ◌∷◌, ◌++◌, refl, sym, ap, ◌∙◌, subst, arith}
use Rattle.std.specs.Prelude.{◌||◌, ◌-◌, ◌^◌}
use Rattle.un_base.specs.declared.ids.VarId.{VarId}
use Rattle.un_ir.specs.declared.extended.Ext.{Ext}
use Rattle.un_ir.specs.declared.extended.ExtBlock.{ExtBlock}
use Rattle.un_model.specs.Variables.{model_of, blocks_vars, blocks_count, block_count}
use Rattle.un_model.specs.declared.model.Model.{Model}
use Rattle.un_model.specs.declared.model.Options.{Options}
use Rattle.un_lists.proofs.Lists.{Each, Member, each_append, each_join, each_of}
use Rattle.un_counted.specs.Counted.{counted_holds, row_holds, value_at}
use Rattle.un_counted.specs.declared.counted.LeastEnd.{LeastEnd}
use Rattle.un_kinds.specs.Scopes.{vars_in, row_vars}
use Rattle.un_rows.specs.Rows.{rows_of}
use Rattle.un_rows.proofs.Whole.{block_ends, ends, rows_whole}
use Rattle.un_post.specs.Listed.{posted_rows}
use Rattle.un_post.proofs.Memory.{member_contains}
use Rattle.un_post.proofs.Reading.{each_in}

-- ---- the ends of rows

row_is : (row : List LeastEnd) → row_vars row ≡ ends row
row_is [] = refl
row_is (e ∷ es) = ap (λ (vs : List VarId). e.end ∷ vs) (row_is es)

ends_within : (n first : ℕ) (blocks : List ExtBlock) → first + blocks_count blocks ≤ n
    → Each (λ (v : VarId). v.0 < n) (block_ends (blocks_vars first blocks))
ends_within n first [] le = tt
ends_within n first (block ∷ blocks) le = (omega arith, ends_within n (first + block_count block) blocks (omega arith))

last_none : (xs ys : List VarId) → xs ++ ys ≡ [] → ys ≡ []
last_none [] ys e = e
last_none (x ∷ xs) ys e = absurd (cc e)

-- ---- one row more

-- what holds of some row holds with one more
pub more_hold : (rows : List (List LeastEnd)) (row : List LeastEnd) (limit : ℕ) (x : List ℕ) → counted_holds rows limit x ≡ true
    → counted_holds (rows ++ row ∷ []) limit x ≡ true
more_hold [] row limit x h = absurd (cc h)
more_hold (r ∷ rows) row limit x h =
    either (row_holds limit (value_at x) (value_at x) r) (counted_holds rows limit x) (counted_holds (rows ++ row ∷ []) limit x)
    (more_hold rows row limit x) h
  where
    either : (b c d : Bool) → (c ≡ true → d ≡ true) → (b || c) ≡ true → (b || d) ≡ true
    either true c d more e = refl
    either false c d more e = more e

row_more_within : (n : ℕ) (rows : List (List LeastEnd)) (e : LeastEnd) → Each (λ (v : VarId). v.0 < n) (vars_in row_vars rows)
    → e.end.0 < n → Each (λ (v : VarId). v.0 < n) (vars_in row_vars (rows ++ (e ∷ []) ∷ []))
row_more_within n [] e h lt = (lt, tt)
row_more_within n (r ∷ rows) e h lt =
    let both = each_append (λ (v : VarId). v.0 < n) (row_vars r) (vars_in row_vars rows) h in
    each_join (λ (v : VarId). v.0 < n) (row_vars r) (vars_in row_vars (rows ++ (e ∷ []) ∷ [])) both.0
    (row_more_within n rows e both.1 lt)

row_more_some : (rows : List (List LeastEnd)) (e : LeastEnd) → vars_in row_vars (rows ++ (e ∷ []) ∷ []) ≡ [] → ⊥
row_more_some [] e none = cc none
row_more_some (r ∷ rows) e none = row_more_some rows e (last_none (row_vars r) (vars_in row_vars (rows ++ (e ∷ []) ∷ [])) none)

module _ (e : Ext) (o : Options) where
  abbrev m : Model
  m = model_of e o

  row_ends : (row : List LeastEnd) → Member row (rows_of m) → row_vars row ≡ block_ends (blocks_vars 0 e.blocks)
  row_ends row mr = row_is row ∙ (rows_whole m refl row (member_contains (rows_of m) row mr)).1

  rows_within : (n : ℕ) → 0 < n → blocks_count e.blocks ≤ n → Each (λ (v : VarId). v.0 < n) (vars_in row_vars (rows_of m))
  rows_within n pos le = each_in n pos row_vars (rows_of m) (each_of (λ (row : List LeastEnd). Each (λ (v : VarId). v.0 < n) (row_vars row))
      (rows_of m)
      (λ row mr. subst (Each (λ (v : VarId). v.0 < n)) (sym (row_ends row mr)) (ends_within n 0 e.blocks (omega (arith, le)))))

  -- they are variables of the model
  pub counts_within : (n : ℕ) → 0 < n → blocks_count e.blocks < n → Each (λ (v : VarId). v.0 < n) (vars_in row_vars (posted_rows m))
  counts_within n pos lt = row_more_within n (rows_of m) (record { end = m.flag; freq = 0; least = 2 ^ 32 - 1 })
      (rows_within n pos (omega arith)) lt

-- and there are some
pub counts_some : (m : Model) → vars_in row_vars (posted_rows m) ≡ [] → ⊥
counts_some m none = row_more_some (rows_of m) (record { end = m.flag; freq = 0; least = 2 ^ 32 - 1 }) none
