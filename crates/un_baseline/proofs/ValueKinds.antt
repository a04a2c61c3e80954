-- What is read off all operations of a function at the number of a temporary is what the operation gives that defines it.
use Rattle.std.proofs.Common.{◌≡◌, ℕ, zero, suc, ◌+◌, ◌-◌, ◌<◌, ◌≤◌, List, [], ◌∷◌, ◌++◌, length, map, replicate, Option, Some, Contains}
use Rattle.std.proofs.Common.{refl, sym, ap, ◌∙◌, arith}
use Rattle.std.specs.Prelude.{slice_get, unwrap_or}
use Rattle.std.specs.List.{flat_map, range_with_len}
use Rattle.std.proofs.lemmas.List.{length-append, length-map, length-replicate}
use Rattle.std.proofs.lemmas.Option.{slice_get_within}
use Rattle.un_base.specs.declared.ids.TempId.{TempId}
use Rattle.un_ir.specs.declared.function.Kind.{Kind}
use Rattle.un_ir.specs.declared.function.Kind.TheVariants.{General}
use Rattle.un_ir.specs.declared.extended.ExtKind.{ExtKind}
use Rattle.un_ir.specs.declared.extended.ExtKind.TheVariants.{In, Out, Body, End, Copy, Enter, Leave}
use Rattle.un_ir.specs.declared.extended.ExtOp.{ExtOp}
use Rattle.un_ir.specs.declared.extended.ExtBlock.{ExtBlock}
use Rattle.un_ir.specs.Extended.{temp, results_of, all_results, carried_by, all_carried, carried, defined_kinds, all_kinds, kind_of_temp}
use Rattle.un_ir.specs.Extended.{name_kind, first_read}
use Rattle.un_ir.proofs.GoodOps.{got_right}
use Rattle.un_ir.specs.WellFormed.{result_kind}
use Rattle.un_baseline.proofs.Definers.{temp_number, contains_at}

-- ---- rows

within_row : {X : Type 0} (row rest : List X) (m : ℕ) → m < length row → slice_get (row ++ rest) m ≡ slice_get row m
within_row [] rest m lt = absurd (omega arith)
within_row (x ∷ row) rest zero lt = refl
within_row (x ∷ row) rest (suc m) lt = within_row row rest m (omega arith)

past_row : {X : Type 0} (row rest : List X) (n i : ℕ) → length row ≡ n → slice_get (row ++ rest) (n + i) ≡ slice_get rest i
past_row {X} row rest n i e = ap (λ (k : ℕ). slice_get (row ++ rest) (k + i)) (sym e) ∙ got_right row rest i

-- the place of item m of the row of thing k, by the lengths of rows
row_place : {A : Type 0} → (A → ℕ) → List A → ℕ → ℕ → ℕ
row_place size [] k m = m
row_place size (x ∷ xs) zero m = m
row_place size (x ∷ xs) (suc k) m = size x + row_place size xs k m

row_at : {A X : Type 0} (f : A → List X) (size : A → ℕ) (xs : List A) (k m : ℕ) (a : A) → ((x : A) → Contains xs x → length (f x) ≡ size x)
    → slice_get xs k ≡ Some a → m < size a → slice_get (flat_map f xs) (row_place size xs k m) ≡ slice_get (f a) m
unfolding row_place
row_at f size [] k m a same at lt = absurd (cc at)
row_at {X = X} f size (x ∷ xs) zero m a same at lt =
    let e : x ≡ a = cc at in
    let long = same x (0, omega arith, refl) in
    let lt' : m < length (f x) = (let z : size x ≡ size a = ap size e in omega arith) in
    within_row (f x) (flat_map f xs) m lt' ∙ ap (λ (y : _). slice_get (f y) m) e
row_at f size (x ∷ xs) (suc k) m a same at lt =
    past_row (f x) (flat_map f xs) (size x) (row_place size xs k m) (same x (0, omega arith, refl))
    ∙ row_at f size xs k m a (λ y c. same y (suc c.0, (let l = c.1 in omega arith), c.2)) at lt

rows_length : {A X : Type 0} (f : A → List X) (g : A → List TempId) (xs : List A) → ((x : A) → Contains xs x → length (f x) ≡ length (g x))
    → length (flat_map f xs) ≡ length (flat_map g xs)
rows_length f g [] same = refl
rows_length f g (x ∷ xs) same =
    let here = same x (0, omega arith, refl) in
    let rest = rows_length f g xs (λ y c. same y (suc c.0, (let l = c.1 in omega arith), c.2)) in
    let a = length-append (f x) (flat_map f xs) in
    let b = length-append (g x) (flat_map g xs) in
    omega arith

-- ---- temporaries and kinds

-- each operation has as many of these as results
abbrev Fits : {X : Type 0} → (ExtBlock → ExtOp → List X) → List ExtBlock → Type 0
Fits f blocks = (block : ExtBlock) → Contains blocks block → (op : ExtOp) → Contains block.ops op → length (f block op) ≡ length op.results

module _ (blocks : List ExtBlock) (numbered : all_results blocks ≡ map temp (range_with_len 0 (length (all_results blocks)))) where
  abbrev block_size : ExtBlock → ℕ
  block_size block = length (results_of block.ops)

  abbrev op_size : ExtOp → ℕ
  op_size op = length op.results

  abbrev row_of : {X : Type 0} → (ExtBlock → ExtOp → List X) → ExtBlock → List X
  row_of f block = flat_map (f block) block.ops

  pub at_number : {X : Type 0} (f : ExtBlock → ExtOp → List X) → Fits f blocks → (b k m : ℕ) (block : ExtBlock) (op : ExtOp) (y : TempId)
      → slice_get blocks b ≡ Some block → slice_get block.ops k ≡ Some op → slice_get op.results m ≡ Some y
      → slice_get (flat_map (row_of f) blocks) y.0 ≡ slice_get (f block op) m
  at_number {X} f fits b k m block op y at_b at_k at_m =
      let inner = row_place op_size block.ops k m in
      let place = row_place block_size blocks b inner in
      let lt = slice_get_within op.results m y at_m in
      let among : Contains blocks block = contains_at blocks b block at_b in
      let result : slice_get (results_of block.ops) inner ≡ Some y =
      row_at (λ (o : ExtOp). o.results) op_size block.ops k m op (λ o c. refl) at_k lt ∙ at_m in
      let lt' = slice_get_within (results_of block.ops) inner y result in
      let whole : slice_get (all_results blocks) place ≡ Some y =
      row_at (λ (c : ExtBlock). results_of c.ops) block_size blocks b inner block (λ c h. refl) at_b lt' ∙ result in
      let number = temp_number blocks numbered place y whole in
      ap (slice_get (flat_map (row_of f) blocks)) number
      ∙ row_at (row_of f) block_size blocks b inner block (λ c h. rows_length (f c) (λ (o : ExtOp). o.results) c.ops (fits c h)) at_b lt'
      ∙ row_at (f block) op_size block.ops k m op (fits block among) at_k lt

carried_size : (kind : ExtKind) (op : ExtOp) → length (carried_by kind op) ≡ length op.results
carried_size (Copy node) op = length-map op.results (λ (y : TempId). first_read op.operands)
carried_size In op = refl
carried_size Out op = refl
carried_size (Body o) op = refl
carried_size (End term) op = refl
carried_size Enter op = refl
carried_size Leave op = refl

kinds_size : (names : List Kind) (block : ExtBlock) (kind : ExtKind) (op : ExtOp) → (kind ≡ In → length block.live_in ≤ length op.results)
    → length (defined_kinds names block kind op) ≡ length op.results
kinds_size names block In op le =
    let a = length-append (map (name_kind names) block.live_in) (replicate (length op.results - length block.live_in) General) in
    let b = length-map block.live_in (name_kind names) in
    let c = length-replicate (length op.results - length block.live_in) General in
    let d = le refl in
    omega arith
kinds_size names block (Body o) op le = length-map op.results (λ (y : TempId). result_kind o.op)
kinds_size names block Out op le = length-map op.results (λ (y : TempId). General)
kinds_size names block (End term) op le = length-map op.results (λ (y : TempId). General)
kinds_size names block (Copy node) op le = length-map op.results (λ (y : TempId). General)
kinds_size names block Enter op le = length-map op.results (λ (y : TempId). General)
kinds_size names block Leave op le = length-map op.results (λ (y : TempId). General)

-- the kind of a temporary that no copy defines is that of its definer's result
pub kind_defined : (names : List Kind) (blocks : List ExtBlock) → all_results blocks ≡ map temp (range_with_len 0 (length (all_results
    blocks)))
    → ((block : ExtBlock) → Contains blocks block → (op : ExtOp) → Contains block.ops op → op.kind ≡ In
    → length block.live_in ≤ length op.results)
    → (b k m : ℕ) (block : ExtBlock) (op : ExtOp) (y : TempId) → slice_get blocks b ≡ Some block → slice_get block.ops k ≡ Some op
    → slice_get op.results m ≡ Some y → carried_by op.kind op ≡ op.results
    → kind_of_temp names blocks y ≡ slice_get (defined_kinds names block op.kind op) m
kind_defined names blocks numbered starts b k m block op y at_b at_k at_m own =
    let c : slice_get (all_carried blocks) y.0 ≡ Some y =
    at_number blocks numbered (λ (c : ExtBlock) (o : ExtOp). carried_by o.kind o) (λ c h o g. carried_size o.kind o) b k m block op y
    at_b at_k at_m
    ∙ ap (λ (xs : List TempId). slice_get xs m) own ∙ at_m in
    let same : carried blocks y ≡ y = ap (λ (x : Option TempId). unwrap_or x y) c in
    ap (λ (x : TempId). slice_get (all_kinds names blocks) x.0) same
    ∙ at_number blocks numbered (λ (c : ExtBlock) (o : ExtOp). defined_kinds names c o.kind o) (λ c h o g. kinds_size names c o.kind o
    (starts c h o g)) b k m block op y at_b at_k at_m
