-- The blocks of a linear function fit: what each operation reads is defined before, and temporaries are numbered in order.
use Rattle.std.proofs.Common.{◌≡◌, ℕ, suc, ◌+◌, ◌<◌, ◌≤◌, ◌++◌, true, false, List, [], ◌∷◌, Option, Some, None, map, take, length, get_or}
use Rattle.std.proofs.Common.{slice_get, All, Contains, refl, sym, ap, ◌∙◌, arith, subst, append_assoc, append-nil}
use Rattle.std.specs.List.{range_with_len, AllZip}
use Rattle.std.specs.Option.{option_to_list}
use Rattle.std.proofs.lemmas.List.{length-append}
use Rattle.std.proofs.lemmas.List.Elements.{All-head, All-tail, All-cons, All-nil, All-append, All-weaker}
use Rattle.std.proofs.lemmas.List.FromFn.{get_or-map-range_with_len}
use Rattle.un_base.specs.declared.ids.NameId.{NameId}
use Rattle.un_base.specs.declared.ids.TempId.{TempId}
use Rattle.un_isa.specs.declared.start.Start.{Start}
use Rattle.un_isa.specs.declared.table.Table.{Table}
use Rattle.un_ir.specs.declared.function.Kind.{Kind}
use Rattle.un_ir.specs.declared.extended.ExtKind.{ExtKind}
use Rattle.un_ir.specs.declared.extended.ExtKind.TheVariants.{In, Out, Body, End, Copy, Enter, Leave}
use Rattle.un_ir.specs.declared.extended.Operand.{Operand}
use Rattle.un_ir.specs.declared.extended.ExtOp.{ExtOp}
use Rattle.un_ir.specs.declared.extended.ExtBlock.{ExtBlock}
use Rattle.un_ir.specs.declared.extended.Lssa.{Lssa}
use Rattle.un_ir.specs.Linear.{first_of, is_in, is_out, linear_run}
use Rattle.un_ir.specs.Extended.{temp, Want, IsGoodOperand, IsGoodExtOp, IsGoodExtBlock, Parts, IsMadeOf, is_inner, is_end, is_copy}
use Rattle.un_ir.specs.Extended.{result_count, wants_of, results_of, all_results, IsPlainOp, IsLinear, is_linear_kind}
use Rattle.un_ir.specs.ExtendOf.{extended_blocks}
use Rattle.un_extend.proofs.RunGrowth.{AreWithin, Defines, FitsOps}
use Rattle.un_extend.proofs.RunBlocks.{FitsBlock, FitsBlocks, blocks_alike, run_alike}

-- ---- temporaries in order

abbrev Numbered : ℕ → List TempId → Type 0
Numbered m xs = xs ≡ map temp (range_with_len m (length xs))

record Split (m : ℕ) (xs ys : List TempId) : Type 0 where
  front : Numbered m xs
  back : Numbered (m + length xs) ys

split : (m : ℕ) (xs ys : List TempId) → Numbered m (xs ++ ys) → Split m xs ys
split m [] ys e =
    let z : m ≡ m + 0 = omega arith in
    record { front = refl; back = e ∙ ap (λ (k : ℕ). map temp (range_with_len k (length ys))) z }
split m (x ∷ xs) ys e =
    let first : x ≡ temp m = cc e in
    let rest : Numbered (m + 1) (xs ++ ys) = cc e in
    let s = split (m + 1) xs ys rest in
    let z : (m + 1) + length xs ≡ m + suc (length xs) = omega arith in
    record {
      front = ap (λ (y : TempId). y ∷ xs) first ∙ ap (λ (zs : List TempId). temp m ∷ zs) s.front;
      back = s.back ∙ ap (λ (k : ℕ). map temp (range_with_len k (length ys))) z;
    }

-- a temporary among those numbered
among : (m : ℕ) (xs : List TempId) (y : TempId) → Numbered m xs → Contains xs y → (m ≤ y.0) × (y.0 < m + length xs)
among m xs y e (k, below, is) =
    let c = length xs in
    let same : temp (m + k) ≡ y =
    sym (get_or-map-range_with_len temp m c k (m + k) y below refl) ∙ ap (λ (zs : List TempId). get_or zs k y) (sym e) ∙ is in
    let number : m + k ≡ y.0 = ap (λ (z : TempId). z.0) same in
    (omega (arith, number), omega (arith, number, below))

first_in : (P : TempId → Type 0) (xs : List TempId) → 0 < length xs → All P xs → (y : TempId) × P y × (first_of xs ≡ y.0)
first_in P [] some h = absurd (omega arith)
first_in P (x ∷ xs) some h = (x, All-head P x xs h, refl)

at_front : (front rest : List ExtOp) (op : ExtOp) → slice_get (front ++ op ∷ rest) (length front) ≡ Some op
at_front [] rest op = refl
at_front (x ∷ front) rest op = at_front front rest op

take_front : (front rest : List ExtOp) → take (length front) (front ++ rest) ≡ front
take_front [] rest = refl
take_front (x ∷ front) rest = ap (λ (xs : List ExtOp). x ∷ xs) (take_front front rest)

results_append : (xs ys : List ExtOp) → results_of (xs ++ ys) ≡ results_of xs ++ results_of ys
results_append [] ys = refl
results_append (x ∷ xs) ys =
    ap (λ (zs : List TempId). x.results ++ zs) (results_append xs ys) ∙ sym (append_assoc x.results (results_of xs) (results_of ys))

-- ---- the operations of a block

abbrev NotIn : ExtOp → Type 0
NotIn op = is_in op.kind ≡ false

few_results : (o : Option NameId) → length (option_to_list o) ≤ 1
few_results None = omega arith
few_results (Some name) = omega arith

defines : (t : Table) (block : ExtBlock) (kind : ExtKind) (c : ℕ) → is_linear_kind kind ≡ true → is_in kind ≡ false
    → c ≡ result_count t block kind → Defines kind c
defines t block In c plain other e = absurd (cc other)
defines t block Out c plain other e = e
defines t block (Body o) c plain other e = let few = few_results o.dst in omega (arith, few, e)
defines t block (End term) c plain other e = e
defines t block (Copy node) c plain other e = absurd (cc plain)
defines t block Enter c plain other e = absurd (cc plain)
defines t block Leave c plain other e = absurd (cc plain)

inner_not_in : (kind : ExtKind) → is_inner kind ≡ true → is_in kind ≡ false
inner_not_in In h = absurd (cc h)
inner_not_in _ h = refl

end_not_in : (kind : ExtKind) → is_end kind ≡ true → is_in kind ≡ false
end_not_in In h = absurd (cc h)
end_not_in _ h = refl

copy_not_in : (kind : ExtKind) → is_copy kind ≡ true → is_in kind ≡ false
copy_not_in In h = absurd (cc h)
copy_not_in _ h = refl

out_not_in : (kind : ExtKind) → is_out kind ≡ true → is_in kind ≡ false
out_not_in In h = absurd (cc h)
out_not_in _ h = refl

module _ (t : Table) (names : List Kind) (blocks : List ExtBlock) (block : ExtBlock) where
  within : (base m : ℕ) (before : List TempId) (xs : List Operand) (wants : List Want)
      → ((y : TempId) → Contains before y → (base ≤ y.0) × (y.0 < m))
      → AllZip (IsGoodOperand names blocks before) xs wants → AreWithin base m xs
  within base m before [] [] inside h = tt
  within base m before [] (want ∷ wants) inside h = absurd h
  within base m before (x ∷ xs) [] inside h = absurd h
  within base m before (x ∷ xs) (want ∷ wants) inside h =
      let good = h.0 in
      let f = first_in (Contains before) x.alts good.chooses good.known in
      let i = inside f.0 f.1 in
      let e = f.2 in
      let low = i.0 in
      let high = i.1 in
      (omega (arith, e, low), omega (arith, e, high), within base m before xs wants inside h.1)

  module _ (ops : List ExtOp)
      (good : (k : ℕ) (op : ExtOp) → slice_get ops k ≡ Some op → IsGoodExtOp t names blocks block (results_of (take k ops)) op) where
    good_at : (front rest : List ExtOp) (op : ExtOp) → front ++ op ∷ rest ≡ ops → IsGoodExtOp t names blocks block (results_of front) op
    good_at front rest op e =
        subst (λ (xs : List ExtOp). IsGoodExtOp t names blocks block (results_of xs) op)
        (ap (take (length front)) (sym e) ∙ take_front front (op ∷ rest))
        (good (length front) op (ap (λ (xs : List ExtOp). slice_get xs (length front)) (sym e) ∙ at_front front rest op))

    fits_ops : (front rest : List ExtOp) (m n : ℕ) → front ++ rest ≡ ops → n ≡ m + length (results_of front) → Numbered m (results_of front)
        → Numbered n (results_of rest) → All IsPlainOp rest → All NotIn rest → FitsOps m n rest
    fits_ops front [] m n e long before after plain other = tt
    fits_ops front (op ∷ rest) m n e long before after plain other =
        let g = good_at front rest op e in
        let s = split n op.results (results_of rest) after in
        let own = All-head IsPlainOp op rest plain in
        let kind = All-head NotIn op rest other in
        let inside : (y : TempId) → Contains (results_of front) y → (m ≤ y.0) × (y.0 < n) = λ y has.
        (let a = among m (results_of front) y before has in let low = a.0 in let high = a.1 in (low, omega (arith, high, long))) in
        let more = results_append front (op ∷ []) in
        let alone : op.results ++ [] ≡ op.results = append-nil op.results in
        let longer : length (results_of (front ++ op ∷ [])) ≡ length (results_of front) + length op.results =
        ap (λ (xs : List TempId). length xs) (more ∙ ap (λ (xs : List TempId). results_of front ++ xs) alone)
        ∙ length-append (results_of front) op.results in (
          record {
            read = within m n (results_of front) op.operands (wants_of t names blocks block op.kind op) inside g.operands;
            results = s.front;
            count = defines t block op.kind (length op.results) own.kind kind g.results;
          },
          fits_ops (front ++ op ∷ []) rest m (n + length op.results) (append_assoc front (op ∷ []) rest ∙ e) (omega (arith, longer, long))
              (joined front op m n long before s.front) s.back (All-tail IsPlainOp op rest plain) (All-tail NotIn op rest other),
        )
      where
        join : (m : ℕ) (xs ys : List TempId) → Numbered m xs → Numbered (m + length xs) ys → Numbered m (xs ++ ys)
        join m [] ys e f = let z : m + 0 ≡ m = omega arith in f ∙ ap (λ (k : ℕ). map temp (range_with_len k (length ys))) z
        join m (x ∷ xs) ys e f =
            let first : x ≡ temp m = cc e in
            let later : Numbered (m + 1) xs = cc e in
            let z : m + suc (length xs) ≡ (m + 1) + length xs = omega arith in
            let r = join (m + 1) xs ys later (f ∙ ap (λ (k : ℕ). map temp (range_with_len k (length ys))) z) in
            ap (λ (y : TempId). y ∷ (xs ++ ys)) first ∙ ap (λ (zs : List TempId). temp m ∷ zs) r

        joined : (front : List ExtOp) (op : ExtOp) (m n : ℕ) → n ≡ m + length (results_of front)
            → Numbered m (results_of front) → Numbered n op.results → Numbered m (results_of (front ++ op ∷ []))
        joined front op m n long before own =
            let e : results_of (front ++ op ∷ []) ≡ results_of front ++ op.results =
            results_append front (op ∷ []) ∙ ap (λ (xs : List TempId). results_of front ++ xs) (append-nil op.results) in
            subst (Numbered m) (sym e) (join m (results_of front) op.results before
            (own ∙ ap (λ (k : ℕ). map temp (range_with_len k (length op.results))) long))

  -- ---- a block

  -- the block's first operation
  starts : (kind : ExtKind) (xs : List Operand) (results before : List TempId) → is_in kind ≡ true
      → IsGoodExtOp t names blocks block before (record { kind = kind; operands = xs; results = results })
      → (xs ≡ []) × (kind ≡ In) × (length block.live_in ≤ length results)
  starts In [] results before is g = let e = g.results in (refl, refl, omega (arith, e))
  starts In (x ∷ xs) results before is g = absurd g.operands
  starts Out xs results before is g = absurd (cc is)
  starts (Body o) xs results before is g = absurd (cc is)
  starts (End term) xs results before is g = absurd (cc is)
  starts (Copy node) xs results before is g = absurd (cc is)
  starts Enter xs results before is g = absurd (cc is)
  starts Leave xs results before is g = absurd (cc is)

  fits_block : (m : ℕ) → IsGoodExtBlock t names blocks block → All IsPlainOp block.ops
      → Numbered m (results_of block.ops) → FitsBlock m block
  fits_block m good plain numbered =
      let p = good.parts.0 in
      let made = good.parts.1 in
      let tail = p.inner ++ (option_to_list p.ending ++ (p.late ++ p.out ∷ [])) in
      let start = p.start in
      let whole : block.ops ≡ start ∷ tail = made.whole in
      let g = good_at block.ops good.ops [] tail start (sym whole) in
      let s = starts start.kind start.operands start.results [] made.start g in
      let is : start ≡ record { kind = In; operands = []; results = start.results } =
      ap (λ (k : ExtKind). (let op : ExtOp = record { kind = k; operands = start.operands; results = start.results } in op)) s.1
      ∙ ap (λ (xs : List Operand). (let op : ExtOp = record { kind = In; operands = xs; results = start.results } in op)) s.0 in
      let halves = split m start.results (results_of tail) (subst (λ (ops : List ExtOp). Numbered m (results_of ops)) whole numbered) in
      let plain_tail = All-tail IsPlainOp start tail (subst (All IsPlainOp) whole plain) in
      let none : results_of (start ∷ []) ≡ start.results = append-nil start.results in
      record {
        results = start.results;
        rest = tail;
        whole = whole ∙ ap (λ (op : ExtOp). op ∷ tail) is;
        named = s.2;
        numbered = halves.front;
        later = fits_ops block.ops good.ops (start ∷ []) tail m (m + length start.results) (sym whole)
            (ap (λ (xs : List TempId). m + length xs) (sym none)) (subst (Numbered m) (sym none) halves.front)
            halves.back plain_tail (others p made);
      }
    where
      others : (p : Parts) → IsMadeOf block.ops p → All NotIn (p.inner ++ (option_to_list p.ending ++ (p.late ++ p.out ∷ [])))
      others p made =
          All-append NotIn p.inner (option_to_list p.ending ++ (p.late ++ p.out ∷ []))
          (All-weaker (λ (op : ExtOp). is_inner op.kind ≡ true) NotIn (λ op. inner_not_in op.kind) p.inner made.inner)
          (All-append NotIn (option_to_list p.ending) (p.late ++ p.out ∷ [])
          (All-weaker (λ (op : ExtOp). is_end op.kind ≡ true) NotIn (λ op. end_not_in op.kind) (option_to_list p.ending) made.ending)
          (All-append NotIn p.late (p.out ∷ [])
          (All-weaker (λ (op : ExtOp). is_copy op.kind ≡ true) NotIn (λ op. copy_not_in op.kind) p.late made.late)
          (All-cons NotIn p.out [] (let out = p.out in out_not_in out.kind made.out) (All-nil NotIn))))

-- ---- a function

abbrev HasPlainOps : ExtBlock → Type 0
HasPlainOps block = All IsPlainOp block.ops

pub fits_blocks : (t : Table) (names : List Kind) (all : List ExtBlock) (m : ℕ) (blocks : List ExtBlock)
    → All (IsGoodExtBlock t names all) blocks
    → All HasPlainOps blocks → Numbered m (all_results blocks) → FitsBlocks m blocks
fits_blocks t names all m [] good plain numbered = tt
fits_blocks t names all m (block ∷ blocks) good plain numbered =
    let s = split m (results_of block.ops) (all_results blocks) numbered in
    let good_blocks = All-tail (IsGoodExtBlock t names all) block blocks good in
    let plain_blocks = All-tail HasPlainOps block blocks plain in
    let first = All-head (IsGoodExtBlock t names all) block blocks good in
    let rest = fits_blocks t names all (m + length (results_of block.ops)) blocks good_blocks plain_blocks s.back in
    (fits_block t names all block m first (All-head HasPlainOps block blocks plain) s.front, rest)

-- extending changes no run
pub extend_runs : (l : Lssa) (s : Start) (n : ℕ) → IsLinear l
    → linear_run l.table (extended_blocks l.names true [] 0 l.blocks) s n ≡ linear_run l.table l.blocks s n
extend_runs l s n h =
    let good = h.good in
    let fits = fits_blocks l.table l.names l.blocks 0 l.blocks good.each h.plain good.numbered in
    run_alike (extended_blocks l.names true [] 0 l.blocks) l.blocks (blocks_alike l.names true [] 0 0 [] l.blocks refl fits tt) l.table s n
