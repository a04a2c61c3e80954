-- The operations of a block, one after another, and lists that meet.
use Rattle.std.proofs.Common.{◌≡◌, ℕ, zero, suc, ◌+◌, ◌-◌, ◌<◌, ◌≤◌, ◌++◌, List, [], ◌∷◌, Some, map, length, take}
use Rattle.std.proofs.Common.{slice_get, Contains, refl, sym, ap, ◌∙◌, arith, subst, append_assoc, append-nil}
use Rattle.std.specs.List.{range_with_len, AllZip}
use Rattle.std.proofs.lemmas.Grind.{flat_map-append}
use Rattle.std.proofs.lemmas.List.FromFn.{length-map-range_with_len, get_or-map-range_with_len}
use Rattle.un_base.specs.declared.ids.TempId.{TempId}
use Rattle.un_isa.specs.declared.table.Table.{Table}
use Rattle.un_ir.specs.declared.function.Kind.{Kind}
use Rattle.un_ir.specs.declared.extended.ExtOp.{ExtOp}
use Rattle.un_ir.specs.declared.extended.ExtBlock.{ExtBlock}
use Rattle.un_ir.specs.Extended.{temp, results_of, IsGoodExtOp}

-- ---- lists

pub zip_append : {A B : Type 0} (R : A → B → Type 0) (xs xs' : List A) (ys ys' : List B) → AllZip R xs ys → AllZip R xs' ys'
    → AllZip R (xs ++ xs') (ys ++ ys')
zip_append R [] xs' [] ys' h k = k
zip_append R [] xs' (y ∷ ys) ys' h k = absurd h
zip_append R (x ∷ xs) xs' [] ys' h k = absurd h
zip_append R (x ∷ xs) xs' (y ∷ ys) ys' h k = (h.0, zip_append R xs xs' ys ys' h.1 k)

pub got_left : {X : Type 0} (xs ys : List X) (i : ℕ) (x : X) → slice_get xs i ≡ Some x → slice_get (xs ++ ys) i ≡ Some x
got_left [] ys i x h = absurd (cc h)
got_left (y ∷ xs) ys zero x h = h
got_left (y ∷ xs) ys (suc i) x h = got_left xs ys i x h

pub got_right : {X : Type 0} (xs ys : List X) (i : ℕ) → slice_get (xs ++ ys) (length xs + i) ≡ slice_get ys i
got_right [] ys i = ap (slice_get ys) (let z : 0 + i ≡ i = omega arith in z)
got_right (x ∷ xs) ys i = ap (slice_get (x ∷ (xs ++ ys))) (let z : suc (length xs) + i ≡ suc (length xs + i) = omega arith in z)
    ∙ got_right xs ys i

-- ---- temporaries in a row

abbrev pub temps : ℕ → ℕ → List TempId
temps n count = map temp (range_with_len n count)

pub temps_append : (n a b : ℕ) → temps n a ++ temps (n + a) b ≡ temps n (a + b)
temps_append n zero b = ap (λ (k : ℕ). temps k b) (let z : n + 0 ≡ n = omega arith in z)
    ∙ ap (temps n) (let z : b ≡ 0 + b = omega arith in z)
temps_append n (suc a) b =
    let z : n + suc a ≡ (n + 1) + a = omega arith in
    let q : suc a + b ≡ suc (a + b) = omega arith in
    ap (λ (k : ℕ). temp n ∷ (temps (n + 1) a ++ temps k b)) z ∙ ap (λ (xs : List TempId). temp n ∷ xs) (temps_append (n + 1) a b)
    ∙ ap (temps n) (sym q)

pub temps_has : (n count x : ℕ) → n ≤ x → x < n + count → Contains (temps n count) (temp x)
temps_has n count x low high =
    let l = length-map-range_with_len temp n count in (
      x - n,
      omega (arith, l, low, high),
      get_or-map-range_with_len temp n count (x - n) x (temp x) (omega (arith, low, high))
          (omega (arith, low)),
    )

-- temporaries are those from n to before m
pub record Numbers (n : ℕ) (xs : List TempId) (m : ℕ) : Type 0 where
  pub count : ℕ
  pub are : xs ≡ temps n count
  pub reach : n + count ≡ m

pub numbers_none : (n : ℕ) → Numbers n [] n
numbers_none n = record { count = 0; are = refl; reach = omega arith }

pub numbers_row : (n count : ℕ) → Numbers n (temps n count) (n + count)
numbers_row n count = record { count = count; are = refl; reach = refl }

pub numbers_append : (n m p : ℕ) (xs ys : List TempId) → Numbers n xs m → Numbers m ys p → Numbers n (xs ++ ys) p
numbers_append n m p xs ys a b =
    let ra = a.reach in
    let rb = b.reach in
    record {
      count = a.count + b.count;
      are = ap (λ (zs : List TempId). zs ++ ys) a.are ∙ ap (λ (zs : List TempId). temps n a.count ++ zs) b.are
          ∙ ap (λ (k : ℕ). temps n a.count ++ temps k b.count) (sym ra) ∙ temps_append n a.count b.count;
      reach = omega (arith, ra, rb);
    }

pub numbers_has : (n m : ℕ) (xs : List TempId) (x : ℕ) → Numbers n xs m → n ≤ x → x < m → Contains xs (temp x)
numbers_has n m xs x a low high =
    let r = a.reach in subst (λ (zs : List TempId). Contains zs (temp x)) (sym a.are) (temps_has n a.count x low (omega (arith, r, high)))

pub numbers_length : (n m : ℕ) (xs : List TempId) → Numbers n xs m → n + length xs ≡ m
numbers_length n m xs a = ap (λ (zs : List TempId). n + length zs) a.are ∙ ap (λ (k : ℕ). n + k) (length-map-range_with_len temp n a.count)
    ∙ a.reach

pub numbers_whole : (m : ℕ) (xs : List TempId) → Numbers 0 xs m → xs ≡ temps 0 (length xs)
numbers_whole m xs a = a.are ∙ ap (temps 0) (sym (ap (λ (zs : List TempId). length zs) a.are ∙ length-map-range_with_len temp 0 a.count))

-- ---- operations

pub results_append : (xs ys : List ExtOp) → results_of (xs ++ ys) ≡ results_of xs ++ results_of ys
results_append xs ys = flat_map-append (λ (op : ExtOp). op.results) xs ys

-- the operations are good where these temporaries are defined before them
abbrev pub AreGoodOps : Table → List Kind → List ExtBlock → ExtBlock → List TempId → List ExtOp → Type 0
AreGoodOps t names blocks block before [] = Unit {0}
AreGoodOps t names blocks block before (op ∷ ops) = IsGoodExtOp t names blocks block before op
    × AreGoodOps t names blocks block (before ++ op.results) ops

module _ (t : Table) (names : List Kind) (blocks : List ExtBlock) (block : ExtBlock) where
  pub good_at : (before : List TempId) (ops : List ExtOp) (k : ℕ) (op : ExtOp) → AreGoodOps t names blocks block before ops
      → slice_get ops k ≡ Some op → IsGoodExtOp t names blocks block (before ++ results_of (take k ops)) op
  good_at before [] k op g h = absurd (cc h)
  good_at before (o ∷ ops) zero op g h =
      let e : o ≡ op = cc h in
      subst (IsGoodExtOp t names blocks block (before ++ [])) e (subst (λ (xs : List TempId). IsGoodExtOp t names blocks block xs o)
      (sym (append-nil before)) g.0)
  good_at before (o ∷ ops) (suc k) op g h =
      subst (λ (xs : List TempId). IsGoodExtOp t names blocks block xs op) (append_assoc before o.results (results_of (take k ops)))
      (good_at (before ++ o.results) ops k op g.1 h)

  pub all_good : (ops : List ExtOp) → AreGoodOps t names blocks block [] ops → (k : ℕ) (op : ExtOp) → slice_get ops k ≡ Some op
      → IsGoodExtOp t names blocks block (results_of (take k ops)) op
  all_good ops g k op h = good_at [] ops k op g h

  pub good_append : (before : List TempId) (xs ys : List ExtOp) → AreGoodOps t names blocks block before xs
      → AreGoodOps t names blocks block (before ++ results_of xs) ys → AreGoodOps t names blocks block before (xs ++ ys)
  good_append before [] ys g h = subst (λ (zs : List TempId). AreGoodOps t names blocks block zs ys) (append-nil before) h
  good_append before (op ∷ xs) ys g h = (
    g.0,
    good_append (before ++ op.results) xs ys g.1
        (subst (λ (zs : List TempId). AreGoodOps t names blocks block zs ys) (sym (append_assoc before op.results (results_of xs))) h),
  )
