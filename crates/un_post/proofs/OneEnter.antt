-- A model has one Enter, which is in the entry.
use Rattle.std.proofs.Common.{ℕ, zero, suc, ◌≡◌, ◌+◌, Bool, true, false, cond, List, [], ◌∷◌, length, map, filter, inl, refl, sym, ap, ◌∙◌}
use Rattle.std.proofs.Common.{subst, arith}
use Rattle.std.proofs.lemmas.List.{length-map}
use Rattle.std.specs.Prelude.{Some, slice_get, ◌==◌}
use Rattle.std.proofs.lemmas.Bool.Decides.{nat_tests}
use Rattle.std.proofs.lemmas.List.Sums.{length-filter}
use Rattle.un_base.specs.declared.ids.VarId.{VarId}
use Rattle.un_ir.specs.declared.extended.ExtOp.{ExtOp}
use Rattle.un_ir.specs.declared.extended.ExtBlock.{ExtBlock}
use Rattle.un_ir.specs.declared.extended.Ext.{Ext}
use Rattle.un_ir.specs.Extended.{is_enter, one_if}
use Rattle.un_model.specs.declared.model.Options.{Options}
use Rattle.un_model.specs.Variables.{var_at, var_count, ops_count}
use Rattle.un_lists.proofs.Lists.{Member, get_below, member_of_filter}
use Rattle.un_model.proofs.Placed.{Placed, placed, Region, region_placed}
use Rattle.un_model.proofs.PlacedSchedules.{all}
use Rattle.un_model.proofs.RegionEnds.{all_regions, region_member, filter_one}
use Rattle.un_post.proofs.Facts.{Given, good}
use Rattle.un_model.proofs.Regions.{placed_regions, region_is, region_of, of_region}

pub filter_map : {A B : Type 0} (t : B → Bool) (f : A → B) (xs : List A) → filter t (map f xs) ≡ map f (filter (λ x. t (f x)) xs)
filter_map t f [] = refl
filter_map t f (x ∷ xs) =
    let k = filter_map t f xs in
    elim (t (f x)) as (λ b. cond b (f x ∷ filter t (map f xs)) (filter t (map f xs)) ≡ map f
    (cond b (x ∷ filter (λ x. t (f x)) xs) (filter (λ x. t (f x)) xs)))
    [ true ↦ ap (λ ys. f x ∷ ys) k | false ↦ k ]

placed_ops : (b : ℕ) (owner : ExtBlock) (close : VarId) (n first : ℕ) (ops : List ExtOp)
    → map (λ (q : Placed). q.op) (placed b owner close n first ops) ≡ ops
placed_ops b owner close n first [] = refl
placed_ops b owner close n first (op ∷ ops) = ap (λ os. op ∷ os) (placed_ops b owner close (n + 1) (first + var_count op) ops)

abbrev pub enters : Placed → Bool
enters q = is_enter q.op.kind

empty_list : {A : Type 0} (xs : List A) → length xs ≡ 0 → xs ≡ []
empty_list [] n = refl
empty_list (x ∷ xs) n = absurd (omega arith)

one_list : {A : Type 0} (xs : List A) → length xs ≡ 1 → (x : A) × (xs ≡ x ∷ [])
one_list [] n = absurd (omega arith)
one_list (x ∷ []) n = (x, refl)
one_list (x ∷ y ∷ xs) n = absurd (omega arith)

module _ (e : Ext) (o : Options) (x : List ℕ) (given : Given e o x) where
  -- how many there are in a block
  pub entered : (k : ℕ) (r : Region) → slice_get (all_regions e o x given.extended) k ≡ Some r
      → length (filter enters (region_placed r)) ≡ one_if (k == 0)
  entered k r at =
      let own : ExtBlock = r.owner in
      let ext = given.extended in
      let frames = ext.frames in
      let t = λ (op : ExtOp). is_enter op.kind in
      let op_of = λ (q : Placed). q.op in
      sym (length-map (filter enters (region_placed r)) op_of)
      ∙ ap length (sym (filter_map t op_of (region_placed r))
      ∙ ap (filter t) (placed_ops r.block own (var_at (r.first + ops_count own.ops)) r.number r.first own.ops))
      ∙ length-filter t own.ops ∙ frames.enters k own (region_is 0 0 0 e.blocks k r at).0

  pub record OneEnter : Type 0 where
    pub enter : Placed
    pub member : Member enter (all e o x)
    pub is : is_enter enter.op.kind ≡ true
    pub block : enter.block ≡ 0
    pub alone : filter enters (all e o x) ≡ enter ∷ []

  pub one_enter : OneEnter
  one_enter =
      let g = good e o x given in
      let entry = get_below e.blocks 0 g.entry in
      let found = region_of 0 0 0 e.blocks 0 entry.0 entry.1 in
      let r = found.0 in
      let one = one_list (filter enters (region_placed r)) (entered 0 r found.1) in
      let m = subst (Member one.0) (sym one.1) (inl refl) in
      let own = member_of_filter enters (region_placed r) one.0 m in
      let block = of_region r one.0 own.0 in
      let start = (region_is 0 0 0 e.blocks 0 r found.1).1 in
      record {
        enter = one.0;
        member = region_member e o x given.extended 0 r one.0 found.1 own.0;
        is = own.1;
        block = omega arith;
        alone =
            ap (filter enters) (placed_regions 0 0 0 e.blocks)
            ∙ filter_one enters region_placed (all_regions e o x given.extended) 0 r found.1
            (λ i s at n. empty_list (filter enters (region_placed s)) (entered i s at ∙ other i n))
            ∙ one.1;
      }
    where
      other : (i : ℕ) → (i ≡ 0 → ⊥) → one_if (i == 0) ≡ 0
      other zero n = absurd (n refl)
      other (suc i) n = let f : (suc i == 0) ≡ false = grind (arith, nat_tests) in ap one_if f
