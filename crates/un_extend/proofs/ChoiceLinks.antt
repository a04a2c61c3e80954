-- The value that a temporary of an extended function carries, and its kind, by the operation that defines it.
use Rattle.std.proofs.Common.{◌≡◌, ℕ, zero, suc, ◌+◌, ◌++◌, List, [], ◌∷◌, Option, Some, map, length, take, slice_get, unwrap_or, refl, sym}
use Rattle.std.proofs.Common.{ap}
use Rattle.std.proofs.Common.{◌∙◌, arith, subst}
use Rattle.std.specs.List.{flat_map}
use Rattle.std.specs.Option.{option_map}
use Rattle.std.proofs.lemmas.List.{length-append}
use Rattle.std.proofs.lemmas.Option.{slice_get_within, slice_get-map, get_or_from_slice_get}
use Rattle.un_base.specs.declared.ids.TempId.{TempId}
use Rattle.un_ir.specs.declared.function.Kind.{Kind}
use Rattle.un_ir.specs.declared.extended.ExtKind.{ExtKind}
use Rattle.un_ir.specs.declared.extended.ExtKind.TheVariants.{Copy}
use Rattle.un_ir.specs.declared.extended.ExtOp.{ExtOp}
use Rattle.un_ir.specs.declared.extended.ExtBlock.{ExtBlock}
use Rattle.un_ir.specs.declared.extended.Ext.{Ext}
use Rattle.un_ir.specs.Extended.{temp, first_read, carried, carried_by, all_carried, defined_kinds, all_kinds, results_of, all_results}
use Rattle.un_ir.specs.Extended.{IsGoodExtBlock, IsExtended}
use Rattle.un_ir.proofs.GoodOps.{got_left, got_right}
use Rattle.un_extend.proofs.ExtendFunction.{defined_length}
use Rattle.un_extend.proofs.RunTails.{temps}

-- the value that a result of an operation carries
abbrev pub value_by : ExtKind → ExtOp → TempId → TempId
value_by (Copy node) op y = first_read op.operands
value_by _ op y = y

-- what the operations of a block define has its value and its kind
pub record Linked (e : Ext) (block : ExtBlock) : Type 0 where
  pub value : (k : ℕ) (op : ExtOp) → slice_get block.ops k ≡ Some op → (j : ℕ) (y : TempId) → slice_get op.results j ≡ Some y
      → carried e.blocks y ≡ value_by op.kind op y
  pub kind : (k : ℕ) (op : ExtOp) → slice_get block.ops k ≡ Some op → (j : ℕ) (y : TempId) → slice_get op.results j ≡ Some y
      → (kind : Kind) → slice_get (defined_kinds e.names block op.kind op) j ≡ Some kind
      → slice_get (all_kinds e.names e.blocks) y.0 ≡ Some kind

flat_at : {X Y : Type 0} (f : X → List Y) (xs : List X) (k : ℕ) (x : X) (j : ℕ) (y : Y) → slice_get xs k ≡ Some x
    → slice_get (f x) j ≡ Some y → slice_get (flat_map f xs) (length (flat_map f (take k xs)) + j) ≡ Some y
flat_at f [] k x j y h got = absurd (cc h)
flat_at {X} {Y} f (w ∷ xs) zero x j y h got =
    let e : w ≡ x = cc h in
    let z : 0 + j ≡ j = omega arith in
    ap (slice_get (f w ++ flat_map f xs)) z
    ∙ got_left (f w) (flat_map f xs) j y (subst (λ (v : X). slice_get (f v) j ≡ Some y) (sym e) got)
flat_at f (w ∷ xs) (suc k) x j y h got =
    let l = length-append (f w) (flat_map f (take k xs)) in
    let z : length (f w ++ flat_map f (take k xs)) + j ≡ length (f w) + (length (flat_map f (take k xs)) + j) = omega (arith, l) in
    ap (slice_get (f w ++ flat_map f xs)) z
    ∙ got_right (f w) (flat_map f xs) (length (flat_map f (take k xs)) + j) ∙ flat_at f xs k x j y h got

same_length : {X Y Z : Type 0} (f : X → List Y) (g : X → List Z) (xs : List X)
    → ((i : ℕ) (x : X) → slice_get xs i ≡ Some x → length (f x) ≡ length (g x)) → length (flat_map f xs) ≡ length (flat_map g xs)
same_length f g [] h = refl
same_length f g (x ∷ xs) h =
    let a = length-append (f x) (flat_map f xs) in
    let b = length-append (g x) (flat_map g xs) in
    let c = h 0 x refl in
    let r = same_length f g xs (λ i w got. h (suc i) w got) in
    omega (arith, a, b, c, r)

same_before : {X Y Z : Type 0} (f : X → List Y) (g : X → List Z) (xs : List X) (k : ℕ)
    → ((i : ℕ) (x : X) → slice_get xs i ≡ Some x → length (f x) ≡ length (g x))
    → length (flat_map f (take k xs)) ≡ length (flat_map g (take k xs))
same_before f g xs zero h = refl
same_before f g [] (suc k) h = refl
same_before f g (x ∷ xs) (suc k) h =
    let a = length-append (f x) (flat_map f (take k xs)) in
    let b = length-append (g x) (flat_map g (take k xs)) in
    let c = h 0 x refl in
    let r = same_before f g xs k (λ i w got. h (suc i) w got) in
    omega (arith, a, b, c, r)

pub temps_got : (n count i : ℕ) (y : TempId) → slice_get (temps n count) i ≡ Some y → y ≡ temp (n + i)
temps_got n zero i y h = absurd (cc h)
temps_got n (suc count) zero y h =
    let a : temp n ≡ y = cc h in
    let z : n ≡ n + 0 = omega arith in
    sym a ∙ ap temp z
temps_got n (suc count) (suc i) y h =
    let z : (n + 1) + i ≡ n + suc i = omega arith in
    temps_got (n + 1) count i y h ∙ ap temp z

carried_length : (kind : ExtKind) (op : ExtOp) → length (carried_by kind op) ≡ length op.results
carried_length (Copy node) op = each op.results
  where
    each : (ys : List TempId) → length (map (λ (y : TempId). first_read op.operands) ys) ≡ length ys
    each [] = refl
    each (y ∷ ys) = ap suc (each ys)
carried_length _ op = refl

carried_got : (kind : ExtKind) (op : ExtOp) (j : ℕ) (y : TempId) → slice_get op.results j ≡ Some y
    → slice_get (carried_by kind op) j ≡ Some (value_by kind op y)
carried_got (Copy node) op j y h =
    slice_get-map (λ (y : TempId). first_read op.operands) op.results j ∙ ap (option_map (λ (y : TempId). first_read op.operands)) h
carried_got _ op j y h = h

module _ (e : Ext) (kept : IsExtended e) (b : ℕ) (block : ExtBlock) (at : slice_get e.blocks b ≡ Some block) where
  abbrev results : ExtOp → List TempId
  results op = op.results

  abbrev values : ExtOp → List TempId
  values op = carried_by op.kind op

  abbrev kinds : ExtBlock → ExtOp → List Kind
  kinds owner op = defined_kinds e.names owner op.kind op

  good_block : (i : ℕ) (x : ExtBlock) → slice_get e.blocks i ≡ Some x → IsGoodExtBlock e.table e.names e.blocks x
  good_block i x h =
      let g = kept.good in
      subst (IsGoodExtBlock e.table e.names e.blocks) (get_or_from_slice_get e.blocks i x x h)
      (g.each i x (slice_get_within e.blocks i x h))

  kinds_same : (i : ℕ) (x : ExtBlock) → slice_get e.blocks i ≡ Some x → (k : ℕ) (op : ExtOp) → slice_get x.ops k ≡ Some op
      → length (kinds x op) ≡ length op.results
  kinds_same i x h k op got =
      let g = good_block i x h in
      let o = g.ops k op got in
      defined_length e.table e.names x op.kind op o.results

  -- the number of a result
  number : (k : ℕ) (op : ExtOp) → slice_get block.ops k ≡ Some op → (j : ℕ) (y : TempId) → slice_get op.results j ≡ Some y
      → y.0 ≡ length (flat_map (λ (x : ExtBlock). results_of x.ops) (take b e.blocks)) + (length (flat_map results (take k block.ops)) + j)
  number k op got j y here =
      let g = kept.good in
      let p = length (flat_map (λ (x : ExtBlock). results_of x.ops) (take b e.blocks)) in
      let q = length (flat_map results (take k block.ops)) in
      let inner = flat_at results block.ops k op j y got here in
      let outer = flat_at (λ (x : ExtBlock). results_of x.ops) e.blocks b block (q + j) y at inner in
      let is = temps_got 0 (length (all_results e.blocks)) (p + (q + j)) y
      (ap (λ (xs : List TempId). slice_get xs (p + (q + j))) (sym g.numbered) ∙ outer) in
      let z : 0 + (p + (q + j)) ≡ p + (q + j) = omega arith in
      ap (λ (x : TempId). x.0) is ∙ z

  pub linked : Linked e block
  linked = record {
    value = λ k op got j y here. (
        let n = number k op got j y here in
        let p = same_before (λ (x : ExtBlock). flat_map values x.ops) (λ (x : ExtBlock). results_of x.ops) e.blocks b
        (λ i x h. same_length values results x.ops (λ k o g. carried_length o.kind o)) in
        let q = same_before values results block.ops k (λ k o g. carried_length o.kind o) in
        let inner = flat_at values block.ops k op j (value_by op.kind op y) got (carried_got op.kind op j y here) in
        let outer = flat_at (λ (x : ExtBlock). flat_map values x.ops) e.blocks b block _ (value_by op.kind op y) at inner in
        let same : length (flat_map (λ (x : ExtBlock). flat_map values x.ops) (take b e.blocks))
        + (length (flat_map values (take k block.ops)) + j) ≡ y.0 = omega (arith, n, p, q) in
        ap (λ (o : Option TempId). unwrap_or o y) (ap (slice_get (all_carried e.blocks)) (sym same) ∙ outer)
        );
    kind = λ k op got j y here kind is. (
        let n = number k op got j y here in
        let p = same_before (λ (x : ExtBlock). flat_map (kinds x) x.ops) (λ (x : ExtBlock). results_of x.ops) e.blocks b
        (λ i x h. same_length (kinds x) results x.ops (λ k o g. kinds_same i x h k o g)) in
        let q = same_before (kinds block) results block.ops k (λ k o g. kinds_same b block at k o g) in
        let inner = flat_at (kinds block) block.ops k op j kind got is in
        let outer = flat_at (λ (x : ExtBlock). flat_map (kinds x) x.ops) e.blocks b block _ kind at inner in
        let same : length (flat_map (λ (x : ExtBlock). flat_map (kinds x) x.ops) (take b e.blocks))
        + (length (flat_map (kinds block) (take k block.ops)) + j) ≡ y.0 = omega (arith, n, p, q) in
        ap (slice_get (all_kinds e.names e.blocks)) (sym same) ∙ outer
        );
  }
