-- The operations of an extended function one after another, each with its block, its number and the number of its first
-- variable: what a schedule lists, read by operations.
use Rattle.std.proofs.Common.{ℕ, zero, suc, ◌≡◌, ◌≤◌, ◌+◌, List, [], ◌∷◌, ◌++◌, length, map, inl, inr, refl, sym, ap, ◌∙◌, subst, arith}
use Rattle.std.proofs.Common.{append_assoc}
use Rattle.std.specs.Prelude.{Option, Some, None, slice_get}
use Rattle.un_base.specs.declared.ids.VarId.{VarId}
use Rattle.un_base.specs.declared.ids.TempId.{TempId}
use Rattle.un_ir.specs.declared.extended.ExtOp.{ExtOp}
use Rattle.un_ir.specs.declared.extended.ExtBlock.{ExtBlock}
use Rattle.un_ir.specs.Extended.{all_results, results_of}
use Rattle.un_model.specs.declared.model.TempVars.{TempVars}
use Rattle.un_model.specs.declared.model.OpVars.{OpVars}
use Rattle.un_model.specs.declared.schedule.Issue.{Issue}
use Rattle.un_model.specs.declared.schedule.Read.{Read}
use Rattle.un_model.specs.Cost.{value_of}
use Rattle.un_model.specs.Pairs.{places_from, pairs_from, joined, over_blocks}
use Rattle.un_model.specs.Schedules.{issue_of, block_issues, reads_at as op_reads, block_reads}
use Rattle.un_model.specs.Variables.{op_vars, ops_vars, var_count, var_at, ops_count, block_count, blocks_vars, carried, ops_temps}
use Rattle.un_model.specs.Variables.{blocks_temps, register_place}
use Rattle.un_lists.proofs.Lists.{Member, map-append}

-- an operation with the number of its block, that block and the variable of its end, its own number and that of its first variable
pub record Placed : Type 0 where
  pub block : ℕ
  pub owner : ExtBlock
  pub close : VarId
  pub number : ℕ
  pub first : ℕ
  pub op : ExtOp

abbrev pub vars_of : Placed → OpVars
vars_of p = op_vars p.first p.op

-- the operations of a block
abbrev pub placed : ℕ → ExtBlock → VarId → ℕ → ℕ → List ExtOp → List Placed
placed b owner close n first [] = []
placed b owner close n first (op ∷ ops) = record { block = b; owner = owner; close = close; number = n; first = first; op = op } ∷
    placed b owner close (n + 1) (first + var_count op) ops

-- those of block b, which is `block`, where n and `first` are the numbers of its first operation and variable
abbrev pub block_placed : ℕ → ℕ → ℕ → ExtBlock → List Placed
block_placed b n first block = placed b block (var_at (first + ops_count block.ops)) n first block.ops

abbrev pub blocks_placed : ℕ → ℕ → ℕ → List ExtBlock → List Placed
blocks_placed b n first [] = []
blocks_placed b n first (block ∷ blocks) = block_placed b n first block ++
    blocks_placed (b + 1) (n + length block.ops) (first + block_count block) blocks

abbrev pub end_of : List ℕ → Placed → ℕ
end_of values p = value_of values p.close

abbrev pub issue_at : List ℕ → Placed → Issue
issue_at values p = issue_of values p.block (end_of values p) p.number p.op (vars_of p)

abbrev pub reads_at : List ℕ → Placed → List Read
reads_at values p = op_reads values p.block (end_of values p) p.number p.op (vars_of p)

-- ---- issues

placed_issues : (values : List ℕ) (b : ℕ) (owner : ExtBlock) (close : VarId) (n first : ℕ) (ops : List ExtOp)
    → pairs_from (issue_of values b (value_of values close)) n ops (ops_vars first ops) ≡ map (issue_at values)
    (placed b owner close n first ops)
placed_issues values b owner close n first [] = refl
placed_issues values b owner close n first (op ∷ ops) = ap (λ is. issue_of values b (value_of values close) n op (op_vars first op) ∷ is)
    (placed_issues values b owner close (n + 1) (first + var_count op) ops)

pub issues_are : (values : List ℕ) (b n first : ℕ) (blocks : List ExtBlock)
    → over_blocks (block_issues values) b n blocks (blocks_vars first blocks) ≡ map (issue_at values) (blocks_placed b n first blocks)
issues_are values b n first [] = refl
issues_are values b n first (block ∷ blocks) =
    let rest = blocks_placed (b + 1) (n + length block.ops) (first + block_count block) blocks in
    ap (λ is. is ++ over_blocks (block_issues values) (b + 1) (n + length block.ops) blocks
    (blocks_vars (first + block_count block) blocks)) (placed_issues values b block (var_at (first + ops_count block.ops)) n first
    block.ops)
    ∙ ap (λ is. map (issue_at values) (block_placed b n first block) ++ is)
    (issues_are values (b + 1) (n + length block.ops) (first + block_count block) blocks)
    ∙ sym (map-append (issue_at values) (block_placed b n first block) rest)

-- ---- reads

joined-append : {A : Type 0} (xs ys : List (List A)) → joined (xs ++ ys) ≡ joined xs ++ joined ys
joined-append [] ys = refl
joined-append (x ∷ xs) ys = ap (λ zs. x ++ zs) (joined-append xs ys) ∙ sym (append_assoc x (joined xs) (joined ys))

pub joined_map-append : {A B : Type 0} (f : A → List B) (xs ys : List A)
    → joined (map f (xs ++ ys)) ≡ joined (map f xs) ++ joined (map f ys)
joined_map-append f xs ys = ap joined (map-append f xs ys) ∙ joined-append (map f xs) (map f ys)

placed_reads : (values : List ℕ) (b : ℕ) (owner : ExtBlock) (close : VarId) (n first : ℕ) (ops : List ExtOp)
    → pairs_from (op_reads values b (value_of values close)) n ops (ops_vars first ops) ≡ map (reads_at values)
    (placed b owner close n first ops)
placed_reads values b owner close n first [] = refl
placed_reads values b owner close n first (op ∷ ops) = ap (λ is. op_reads values b (value_of values close) n op (op_vars first op) ∷ is)
    (placed_reads values b owner close (n + 1) (first + var_count op) ops)

pub reads_are : (values : List ℕ) (b n first : ℕ) (blocks : List ExtBlock)
    → over_blocks (block_reads values) b n blocks (blocks_vars first blocks) ≡ joined
    (map (reads_at values) (blocks_placed b n first blocks))
reads_are values b n first [] = refl
reads_are values b n first (block ∷ blocks) =
    let rest = blocks_placed (b + 1) (n + length block.ops) (first + block_count block) blocks in
    ap (λ is. joined is ++ over_blocks (block_reads values) (b + 1) (n + length block.ops) blocks
    (blocks_vars (first + block_count block) blocks)) (placed_reads values b block (var_at (first + ops_count block.ops)) n first
    block.ops)
    ∙ ap (λ is. joined (map (reads_at values) (block_placed b n first block)) ++ is)
    (reads_are values (b + 1) (n + length block.ops) (first + block_count block) blocks)
    ∙ sym (joined_map-append (reads_at values) (block_placed b n first block) rest)

-- ---- temporaries

-- a result of an operation, at a place among its results
pub record Spot : Type 0 where
  pub definer : Placed
  pub place : ℕ
  pub temp : TempId

abbrev pub spot : Placed → ℕ → TempId → Spot
spot p k x = record { definer = p; place = k; temp = x }

abbrev pub spots_of : Placed → List Spot
spots_of p = places_from (spot p) 0 p.op.results

abbrev pub all_spots : List Placed → List Spot
all_spots ps = joined (map spots_of ps)

abbrev pub temp_vars : Spot → TempVars
temp_vars s = record {
  op = record { 0 = s.definer.number };
  value = carried s.definer.op s.temp;
  reg =
      var_at (s.definer.first + register_place s.definer.op + s.place);
}

spot_temps : (p : Placed) (reg k i : ℕ) (xs : List TempId) → reg ≡ p.first + register_place p.op + k → k ≡ i
    → places_from (λ (n : ℕ) (x : TempId). let v : TempVars = record {
      op = record { 0 = p.number };
      value = carried p.op x;
      reg =
          var_at n;
    } in v) reg xs ≡ map temp_vars (places_from (spot p) i xs)
spot_temps p reg k i [] e f = refl
spot_temps p reg k i (x ∷ xs) e f =
    let here : reg ≡ p.first + register_place p.op + i = omega arith in
    ap (λ (n : ℕ). let v : TempVars = record { op = record { 0 = p.number }; value = carried p.op x; reg = var_at n } in v ∷
    places_from (λ (n : ℕ) (x : TempId). let v : TempVars = record {
      op = record { 0 = p.number };
      value = carried p.op x;
      reg =
          var_at n;
    } in v) (reg + 1) xs) here
    ∙ ap (λ vs. temp_vars (spot p i x) ∷ vs) (spot_temps p (reg + 1) (k + 1) (i + 1) xs (omega arith) (omega arith))

placed_temps : (b : ℕ) (owner : ExtBlock) (close : VarId) (n first : ℕ) (ops : List ExtOp)
    → ops_temps n first ops ≡ map temp_vars (all_spots (placed b owner close n first ops))
placed_temps b owner close n first [] = refl
placed_temps b owner close n first (op ∷ ops) =
    let p : Placed = record { block = b; owner = owner; close = close; number = n; first = first; op = op } in
    let rest = placed b owner close (n + 1) (first + var_count op) ops in
    ap (λ vs. vs ++ ops_temps (n + 1) (first + var_count op) ops)
    (spot_temps p (first + register_place op) 0 0 op.results (omega arith) refl)
    ∙ ap (λ vs. map temp_vars (spots_of p) ++ vs) (placed_temps b owner close (n + 1) (first + var_count op) ops)
    ∙ sym (map-append temp_vars (spots_of p) (all_spots rest))

pub temps_are : (b n first : ℕ) (blocks : List ExtBlock) → blocks_temps n first blocks ≡ map temp_vars
    (all_spots (blocks_placed b n first blocks))
temps_are b n first [] = refl
temps_are b n first (block ∷ blocks) =
    let here = block_placed b n first block in
    let rest = blocks_placed (b + 1) (n + length block.ops) (first + block_count block) blocks in
    ap (λ vs. vs ++ blocks_temps (n + length block.ops) (first + block_count block) blocks)
    (placed_temps b block (var_at (first + ops_count block.ops)) n first block.ops)
    ∙ ap (λ vs. map temp_vars (all_spots here) ++ vs) (temps_are (b + 1) (n + length block.ops) (first + block_count block) blocks)
    ∙ sym (map-append temp_vars (all_spots here) (all_spots rest)) ∙ ap (map temp_vars) (sym (joined_map-append spots_of here rest))

spots_results : (p : Placed) (k : ℕ) (xs : List TempId) → map (λ (s : Spot). s.temp) (places_from (spot p) k xs) ≡ xs
spots_results p k [] = refl
spots_results p k (x ∷ xs) = ap (λ ys. x ∷ ys) (spots_results p (k + 1) xs)

placed_results : (b : ℕ) (owner : ExtBlock) (close : VarId) (n first : ℕ) (ops : List ExtOp)
    → map (λ (s : Spot). s.temp) (all_spots (placed b owner close n first ops)) ≡ results_of ops
placed_results b owner close n first [] = refl
placed_results b owner close n first (op ∷ ops) =
    let p : Placed = record { block = b; owner = owner; close = close; number = n; first = first; op = op } in
    let rest = placed b owner close (n + 1) (first + var_count op) ops in
    map-append (λ (s : Spot). s.temp) (spots_of p) (all_spots rest)
    ∙ ap (λ xs. xs ++ map (λ (s : Spot). s.temp) (all_spots rest)) (spots_results p 0 op.results)
    ∙ ap (λ xs. op.results ++ xs) (placed_results b owner close (n + 1) (first + var_count op) ops)

pub results_are : (b n first : ℕ) (blocks : List ExtBlock) → map (λ (s : Spot). s.temp) (all_spots (blocks_placed b n first blocks)) ≡
    all_results blocks
results_are b n first [] = refl
results_are b n first (block ∷ blocks) =
    let here = block_placed b n first block in
    let rest = blocks_placed (b + 1) (n + length block.ops) (first + block_count block) blocks in
    ap (map (λ (s : Spot). s.temp)) (joined_map-append spots_of here rest)
    ∙ map-append (λ (s : Spot). s.temp) (all_spots here) (all_spots rest)
    ∙ ap (λ xs. xs ++ map (λ (s : Spot). s.temp) (all_spots rest))
    (placed_results b block (var_at (first + ops_count block.ops)) n first block.ops)
    ∙ ap (λ xs. results_of block.ops ++ xs) (results_are (b + 1) (n + length block.ops) (first + block_count block) blocks)

-- ---- numbers

-- the numbers of operations count up
abbrev pub Counts : ℕ → List Placed → Type 0
Counts n [] = Unit {0}
Counts n (p ∷ ps) = (p.number ≡ n) × Counts (n + 1) ps

counts-append : (n : ℕ) (ps qs : List Placed) → Counts n ps → Counts (n + length ps) qs → Counts n (ps ++ qs)
counts-append n [] qs h k = let e : n + 0 ≡ n = omega arith in subst (λ m. Counts m qs) e k
counts-append n (p ∷ ps) qs h k = let e : n + length (p ∷ ps) ≡ n + 1 + length ps = omega arith in
    (h.0, counts-append (n + 1) ps qs h.1 (subst (λ m. Counts m qs) e k))

pub placed_count : (b : ℕ) (owner : ExtBlock) (close : VarId) (n first : ℕ) (ops : List ExtOp) → Counts n (placed b owner close n first ops)
placed_count b owner close n first [] = tt
placed_count b owner close n first (op ∷ ops) = (refl, placed_count b owner close (n + 1) (first + var_count op) ops)

length-placed : (b : ℕ) (owner : ExtBlock) (close : VarId) (n first : ℕ) (ops : List ExtOp)
    → length (placed b owner close n first ops) ≡ length ops
length-placed b owner close n first [] = refl
length-placed b owner close n first (op ∷ ops) = ap suc (length-placed b owner close (n + 1) (first + var_count op) ops)

pub all_count : (b n first : ℕ) (blocks : List ExtBlock) → Counts n (blocks_placed b n first blocks)
all_count b n first [] = tt
all_count b n first (block ∷ blocks) =
    let close = var_at (first + ops_count block.ops) in
    let rest = blocks_placed (b + 1) (n + length block.ops) (first + block_count block) blocks in
    let e : n + length block.ops ≡ n + length (block_placed b n first block) =
    ap (λ m. n + m) (sym (length-placed b block close n first block.ops)) in
    counts-append n (block_placed b n first block) rest (placed_count b block close n first block.ops)
    (subst (λ m. Counts m rest) e (all_count (b + 1) (n + length block.ops) (first + block_count block) blocks))

least_number : (n : ℕ) (ps : List Placed) (p : Placed) → Counts n ps → Member p ps → n ≤ p.number
least_number n [] p h m = elim m [ ]
least_number n (q ∷ qs) p h (inl e) = let a = h.0 in let b : q.number ≡ p.number = ap (λ (r : Placed). r.number) e in omega arith
least_number n (q ∷ qs) p h (inr m) = let a = least_number (n + 1) qs p h.1 m in omega arith

-- an operation stands at the place of its number
pub at_number : (n : ℕ) (ps : List Placed) (p : Placed) (k : ℕ) → Counts n ps → Member p ps → p.number ≡ n + k → slice_get ps k ≡ Some p
at_number n [] p k h m e = elim m [ ]
at_number n (q ∷ qs) p zero h (inl s) e = ap Some s
at_number n (q ∷ qs) p (suc k) h (inl s) e = let a = h.0 in let b : q.number ≡ p.number = ap (λ (r : Placed). r.number) s in
    absurd (omega arith)
at_number n (q ∷ qs) p zero h (inr m) e = let a = least_number (n + 1) qs p h.1 m in absurd (omega arith)
at_number n (q ∷ qs) p (suc k) h (inr m) e = at_number (n + 1) qs p k h.1 m (omega arith)

-- ---- blocks

-- the first numbers of block k's operations and variables
pub record Region : Type 0 where
  pub block : ℕ
  pub number : ℕ
  pub first : ℕ
  pub owner : ExtBlock

abbrev pub region_placed : Region → List Placed
region_placed r = block_placed r.block r.number r.first r.owner

abbrev pub region_at : ℕ → ℕ → ℕ → ℕ → List ExtBlock → Option Region
region_at b n first k [] = None
region_at b n first zero (block ∷ blocks) = Some (record { block = b; number = n; first = first; owner = block })
region_at b n first (suc k) (block ∷ blocks) = region_at (b + 1) (n + length block.ops) (first + block_count block) k blocks

-- the operations of all blocks are those before a block, its own, and those after it
pub record Parted (all : List Placed) (r : Region) : Type 0 where
  pub before : List Placed
  pub after : List Placed
  pub is : all ≡ before ++ (region_placed r ++ after)

pub parted : (b n first k : ℕ) (blocks : List ExtBlock) (block : ExtBlock) → slice_get blocks k ≡ Some block
    → (r : Region) × (r.block ≡ b + k) × (r.owner ≡ block) × Parted (blocks_placed b n first blocks) r
parted b n first k [] block e = absurd (cc e)
parted b n first zero (c ∷ cs) block e =
    let r : Region = record { block = b; number = n; first = first; owner = c } in
    (r, omega arith, cc e, record { before = []; after = blocks_placed (b + 1) (n + length c.ops) (first + block_count c) cs; is = refl })
parted b n first (suc k) (c ∷ cs) block e =
    let rest = parted (b + 1) (n + length c.ops) (first + block_count c) k cs block e in
    let p = rest.3 in let num = rest.1 in (
      rest.0,
      omega arith,
      rest.2,
      record {
        before = block_placed b n first c ++ p.before;
        after = p.after;
        is = ap (λ ps. block_placed b n first c ++ ps) p.is ∙ sym
            (append_assoc (block_placed b n first c) p.before (region_placed rest.0 ++ p.after));
      },
    )
