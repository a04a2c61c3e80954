-- Each row has the ends of all blocks, each with how often its block runs.
use Rattle.std.proofs.Common.{ℕ, suc, ◌≡◌, ◌+◌, List, [], ◌∷◌, length, map, inl, inr, refl, sym, ap, ◌∙◌, subst, arith, Contains}
use Rattle.std.specs.Prelude.{Option, Some, None, Bool, true, false, nat_lt, if◌then◌else◌}
use Rattle.std.specs.List.{range_with_len}
use Rattle.std.specs.Option.{option_to_list, option_map}
use Rattle.un_base.specs.declared.ids.VarId.{VarId}
use Rattle.un_isa.specs.Registers.{saved_registers}
use Rattle.un_isa.specs.declared.table.Table.{Table}
use Rattle.un_ir.specs.declared.extended.ExtBlock.{ExtBlock}
use Rattle.un_model.specs.Pairs.{over_blocks}
use Rattle.un_model.specs.Variables.{IsModel, blocks_vars, block_count}
use Rattle.un_model.specs.declared.model.BlockVars.{BlockVars}
use Rattle.un_model.specs.declared.model.Model.{Model}
use Rattle.un_lists.proofs.Lists.{Member}
use Rattle.un_model.proofs.Operations.{contains_member}
use Rattle.un_model.proofs.PlacedSchedules.{joined_member}
use Rattle.un_counted.specs.declared.counted.LeastEnd.{LeastEnd}
use Rattle.un_saved.specs.Joined.{joined_in}
use Rattle.un_saved.specs.declared.boundary.Marks.{Marks}
use Rattle.un_rows.specs.Rows.{least_by_count, end_by_count, end_at, all_there, row_by, rows_by, known_in, knowns_of, basis_of, rows_of}
use Rattle.un_rows.specs.declared.known.Basis.{Basis}
use Rattle.un_rows.specs.declared.known.Known.{Known}

abbrev pub freqs : List LeastEnd → List ℕ
freqs row = map (λ (e : LeastEnd). e.freq) row

abbrev pub ends : List LeastEnd → List VarId
ends row = map (λ (e : LeastEnd). e.end) row

abbrev pub block_freqs : List ExtBlock → List ℕ
block_freqs blocks = map (λ (b : ExtBlock). b.freq) blocks

abbrev pub block_ends : List BlockVars → List VarId
block_ends vars = map (λ (v : BlockVars). v.end) vars

abbrev known_freqs : List Known → List ℕ
known_freqs ks = map (λ (k : Known). k.freq) ks

abbrev known_ends : List Known → List VarId
known_ends ks = map (λ (k : Known). k.end) ks

abbrev pub IsWhole : List ExtBlock → List BlockVars → List LeastEnd → Type 0
IsWhole blocks vars row = (freqs row ≡ block_freqs blocks) × (ends row ≡ block_ends vars)

-- ---- a row of known blocks

abbrev IsRow : List Known → List LeastEnd → Type 0
IsRow ks row = (freqs row ≡ known_freqs ks) × (ends row ≡ known_ends ks)

module _ (t : Table) (basis : Basis) (s : ℕ) where
  row_known : (ks : List Known) (row : List LeastEnd) → all_there (map (end_by_count t basis s) ks) ≡ Some row → IsRow ks row
  row_known [] row e = let none : [] ≡ row = cc e in subst (IsRow []) none (refl, refl)
  row_known (k ∷ ks) row e =
      by (least_by_count t basis s k) (all_there (map (end_by_count t basis s) ks)) (λ others f. row_known ks others f) refl e
    where
      with_end : (least : ℕ) (rest : Option (List LeastEnd)) → ((others : List LeastEnd) → rest ≡ Some others → IsRow ks others)
          → option_map (λ (ys : List LeastEnd). end_at k least ∷ ys) rest ≡ Some row → IsRow (k ∷ ks) row
      with_end least None whole f = absurd (cc f)
      with_end least (Some others) whole f =
          let is : end_at k least ∷ others ≡ row = cc f in
          let w = whole others refl in
          subst (IsRow (k ∷ ks)) is (ap (λ (xs : List ℕ). k.freq ∷ xs) w.0, ap (λ (xs : List VarId). k.end ∷ xs) w.1)

      by : (least : Option ℕ) (rest : Option (List LeastEnd)) → ((others : List LeastEnd) → rest ≡ Some others → IsRow ks others)
          → rest ≡ all_there (map (end_by_count t basis s) ks)
          → all_there (option_map (end_at k) least ∷ map (end_by_count t basis s) ks) ≡ Some row → IsRow (k ∷ ks) row
      by None rest whole is f = absurd (cc f)
      by (Some least) rest whole is f =
          with_end least rest whole (ap (option_map (λ (ys : List LeastEnd). end_at k least ∷ ys)) is ∙ f)

-- ---- the blocks of a model

module _ (m : Model) (marks : Marks) where
  blocks_freqs : (b n : ℕ) (blocks : List ExtBlock) (vars : List BlockVars) → length blocks ≡ length vars
      → known_freqs (over_blocks (known_in m marks) b n blocks vars) ≡ block_freqs blocks
  blocks_freqs b n [] vars same = refl
  blocks_freqs b n (block ∷ blocks) [] same = absurd (omega (arith, same))
  blocks_freqs b n (block ∷ blocks) (v ∷ vars) same = ap (λ (xs : List ℕ). block.freq ∷ xs)
      (blocks_freqs (b + 1) (n + length block.ops) blocks vars (omega (arith, same)))

  blocks_ends : (b n : ℕ) (blocks : List ExtBlock) (vars : List BlockVars) → length blocks ≡ length vars
      → known_ends (over_blocks (known_in m marks) b n blocks vars) ≡ block_ends vars
  blocks_ends b n [] [] same = refl
  blocks_ends b n [] (v ∷ vars) same = absurd (omega (arith, same))
  blocks_ends b n (block ∷ blocks) [] same = absurd (omega (arith, same))
  blocks_ends b n (block ∷ blocks) (v ∷ vars) same = ap (λ (xs : List VarId). v.end ∷ xs)
      (blocks_ends (b + 1) (n + length block.ops) blocks vars (omega (arith, same)))

some_member : {A : Type 0} (x : Option A) (y : A) → Member y (option_to_list x) → x ≡ Some y
some_member None y h = elim h [ ]
some_member (Some z) y (inl e) = ap (λ u. Some u) e
some_member (Some z) y (inr h) = elim h [ ]

vars_long : (first : ℕ) (blocks : List ExtBlock) → length blocks ≡ length (blocks_vars first blocks)
vars_long first [] = refl
vars_long first (block ∷ blocks) = ap suc (vars_long (first + block_count block) blocks)

abbrev rows_at : Model → ℕ → List (List LeastEnd)
rows_at m s = option_to_list (row_by m.ext.table (basis_of m) (knowns_of m) s)

-- a row has the ends of all blocks
pub rows_whole : (m : Model) → IsModel m → (row : List LeastEnd) → Contains (rows_of m) row → IsWhole m.ext.blocks m.blocks row
rows_whole m own row has = by (nat_lt 1 (length m.ext.blocks)) (contains_member (rows_of m) row has)
  where
    long : length m.ext.blocks ≡ length m.blocks
    long = vars_long 0 m.ext.blocks ∙ ap length (sym (ap (λ (x : Model). x.blocks) own))

    by : (b : Bool) → Member row (if b then rows_by m.ext.table (basis_of m) (knowns_of m) else []) → IsWhole m.ext.blocks m.blocks row
    by false h = elim h [ ]
    by true h =
        let found = joined_member (rows_at m) (range_with_len 0 (length (saved_registers m.ext.table) + 1)) row h in
        let is = row_known m.ext.table (basis_of m) found.0 (knowns_of m) row
        (some_member (row_by m.ext.table (basis_of m) (knowns_of m) found.0) row found.2) in (
          is.0 ∙ blocks_freqs m (joined_in m.ext.blocks) 0 0 m.ext.blocks m.blocks long,
          is.1 ∙ blocks_ends m (joined_in m.ext.blocks) 0 0 m.ext.blocks m.blocks long,
        )
