-- Which variables are cycles and ends, by their numbers, and what compacting makes of each variable.
use Rattle.std.proofs.Common.{ℕ, zero, suc, ◌≡◌, ◌+◌, ◌<◌, ◌≤◌, Bool, true, false, eqb, List, [], ◌∷◌, length, get_or}
use Rattle.std.proofs.Common.{Some, ◌⊎◌, inl, inr, ⊎_elim, refl, sym, ap, ◌∙◌, arith}
use Rattle.std.specs.Prelude.{◌||◌, ◌==◌, slice_get, fold, if◌then◌else◌}
use Rattle.std.specs.List.{list_any}
use Rattle.std.proofs.lemmas.Bool.{eqb-true, eq-eqb}
use Rattle.un_base.specs.declared.ids.VarId.{VarId}
use Rattle.un_ir.specs.declared.extended.ExtOp.{ExtOp}
use Rattle.un_ir.specs.declared.extended.ExtBlock.{ExtBlock}
use Rattle.un_model.specs.declared.model.OpVars.{OpVars}
use Rattle.un_model.specs.declared.model.BlockVars.{BlockVars}
use Rattle.un_model.specs.Cost.{value_of}
use Rattle.un_model.specs.Pairs.{places_from}
use Rattle.un_model.specs.Schedules.{value_by}
use Rattle.un_model.specs.Variables.{has_cycle, count_if, cycle_place, choice_place, var_count, var_at, var_if, ops_vars}
use Rattle.un_model.specs.Variables.{ops_count, block_vars, block_count, blocks_vars, blocks_count}
use Rattle.un_lists.proofs.Lists.{Each, Member, each_more, each_join, member_map, any_of}
use Rattle.un_model.proofs.Placed.{Placed, placed, block_placed, blocks_placed, vars_of}
use Rattle.un_violations.specs.Loose.{is_number, is_cycle, is_time_in}
use Rattle.un_compact.specs.Squeezes.{times_of, is_used, squeezed}
use Rattle.un_compact.specs.Retimed.{moved_in, moved_by}

-- ---- tests

pub or_cases : (a b : Bool) → (a || b) ≡ true → (a ≡ true) ⊎ (b ≡ true)
or_cases true b e = inl refl
or_cases false b e = inr e

or_left : (a b : Bool) → a ≡ true → (a || b) ≡ true
or_left true b e = refl
or_left false b e = absurd (cc e)

or_right : (a b : Bool) → b ≡ true → (a || b) ≡ true
or_right true b e = refl
or_right false b e = e

pub false_by : (b : Bool) → (b ≡ true → ⊥) → b ≡ false
false_by true h = absurd (h refl)
false_by false h = refl

pub any_in : {X : Type 0} (t : X → Bool) (xs : List X) (x : X) → Member x xs → t x ≡ true → list_any t xs ≡ true
any_in t [] x m e = elim m [ ]
any_in t (y ∷ ys) x (inl q) e = or_left (t y) (list_any t ys) (ap t q ∙ e)
any_in t (y ∷ ys) x (inr m) e = or_right (t y) (list_any t ys) (any_in t ys x m e)

-- ---- the cycles of operations

pub number_if : (b : Bool) (k n : ℕ) → is_number k (var_if b n) ≡ true → (b ≡ true) × (k ≡ n)
number_if true k n e = (refl, eqb-true k n e)
number_if false k n e = absurd (cc e)

cycle_inside : (op : ExtOp) → has_cycle op.kind ≡ true → cycle_place op < choice_place op
cycle_inside op e = let q = ap count_if e in omega (arith, q)

op_in : (first k : ℕ) (ops : List ExtOp) (o : OpVars) → Member o (ops_vars first ops) → is_number k o.cycle ≡ true
    → (first ≤ k) × (k < first + ops_count ops)
op_in first k [] o m e = elim m [ ]
op_in first k (op ∷ ops) o (inl q) e =
    let n = number_if (has_cycle op.kind) k (first + cycle_place op) (ap (λ (v : OpVars). is_number k v.cycle) q ∙ e) in
    let i = cycle_inside op n.0 in let at = n.1 in
    (omega (arith, at), omega (arith, at, i))
op_in first k (op ∷ ops) o (inr m) e =
    let r = op_in (first + var_count op) k ops o m e in let lo = r.0 in let hi = r.1 in
    (omega (arith, lo), omega (arith, hi))

block_in : (first k : ℕ) (block : ExtBlock) → is_time_in (block_vars first block) k ≡ true → (first ≤ k) × (k < first + block_count block)
block_in first k block e = ⊎_elim
    (λ (h : is_cycle (ops_vars first block.ops) k ≡ true).
    let r = any_of (λ (o : OpVars). is_number k o.cycle) (ops_vars first block.ops) h in
    let s = op_in first k block.ops r.0 r.1 r.2 in let lo = s.0 in let hi = s.1 in (lo, omega (arith, hi)))
    (λ (h : eqb k (first + ops_count block.ops) ≡ true). let q = eqb-true k (first + ops_count block.ops) h in
    (omega (arith, q), omega (arith, q)))
    (or_cases (is_cycle (ops_vars first block.ops) k) (eqb k (first + ops_count block.ops)) e)

blocks_in : (first k : ℕ) (blocks : List ExtBlock) (vars : BlockVars) → Member vars (blocks_vars first blocks) → is_time_in vars k ≡ true
    → (first ≤ k) × (k < first + blocks_count blocks)
blocks_in first k [] vars m e = elim m [ ]
blocks_in first k (block ∷ blocks) vars (inl q) e =
    let r = block_in first k block (ap (λ (v : BlockVars). is_time_in v k) q ∙ e) in let lo = r.0 in let hi = r.1 in
    (lo, omega (arith, hi))
blocks_in first k (block ∷ blocks) vars (inr m) e =
    let r = blocks_in (first + block_count block) k blocks vars m e in let lo = r.0 in let hi = r.1 in
    (omega (arith, lo), omega (arith, hi))

-- what comes after the variables of all blocks is no time
pub none_after : (first k : ℕ) (blocks : List ExtBlock) → first + blocks_count blocks ≤ k → (vars : BlockVars)
    → Member vars (blocks_vars first blocks) → is_time_in vars k ≡ false
none_after first k blocks past vars m = false_by (is_time_in vars k) (λ e. let r = blocks_in first k blocks vars m e in let hi = r.1 in
    omega (arith, past, hi))

-- ---- what becomes of a variable

pub stays : (old : List ℕ) (k x y : ℕ) (vs : List BlockVars) → ((v : BlockVars) → Member v vs → is_time_in v k ≡ false)
    → fold (moved_in old k x) y vs ≡ y
stays old k x y [] h = refl
stays old k x y (v ∷ vs) h =
    ap (λ (b : Bool). fold (moved_in old k x) (if b then squeezed (is_used old v) x else y) vs) (h v (inl refl))
    ∙ stays old k x y vs (λ w m. h w (inr m))

pub moves : (old : List ℕ) (k x y first : ℕ) (blocks : List ExtBlock) (vars : BlockVars) → Member vars (blocks_vars first blocks)
    → is_time_in vars k ≡ true → fold (moved_in old k x) y (blocks_vars first blocks) ≡ squeezed (is_used old vars) x
moves old k x y first [] vars m e = elim m [ ]
moves old k x y first (block ∷ blocks) vars (inl q) e =
    let rest = blocks_vars (first + block_count block) blocks in
    let r = block_in first k block (ap (λ (v : BlockVars). is_time_in v k) q ∙ e) in let hi = r.1 in
    ap (λ (v : BlockVars). fold (moved_in old k x) (moved_in old k x y v) rest) q
    ∙ ap (λ (b : Bool). fold (moved_in old k x) (if b then squeezed (is_used old vars) x else y) rest) e
    ∙ stays old k x (squeezed (is_used old vars) x) rest (λ v m. false_by (is_time_in v k) (λ f.
    let s = blocks_in (first + block_count block) k blocks v m f in let lo = s.0 in omega (arith, lo, hi)))
moves old k x y first (block ∷ blocks) vars (inr m) e =
    moves old k x (moved_in old k x y (block_vars first block)) (first + block_count block) blocks vars m e

zero_stays : (old : List ℕ) (k : ℕ) (vs : List BlockVars) → fold (moved_in old k 0) 0 vs ≡ 0
zero_stays old k [] = refl
zero_stays old k (v ∷ vs) = ap (λ (n : ℕ). fold (moved_in old k 0) n vs) (by (is_time_in v k)) ∙ zero_stays old k vs
  where
    by : (b : Bool) → (if b then squeezed (is_used old v) 0 else 0) ≡ 0
    by true = refl
    by false = refl

get-places : (f : ℕ → ℕ → ℕ) → ((k : ℕ) → f k 0 ≡ 0) → (i k : ℕ) (xs : List ℕ)
    → get_or (places_from f i xs) k 0 ≡ f (i + k) (get_or xs k 0)
get-places f z i k [] = sym (z (i + k))
get-places f z i zero (x ∷ xs) = let e : i ≡ i + 0 = omega arith in ap (λ n. f n x) e
get-places f z i (suc k) (x ∷ xs) =
    let e : (i + 1) + k ≡ i + suc k = omega arith in
    get-places f z (i + 1) k xs ∙ ap (λ n. f n (get_or xs k 0)) e

pub value_moved : (old : List ℕ) (vs : List BlockVars) (k : ℕ)
    → get_or (places_from (moved_by old vs) 0 old) k 0 ≡ moved_by old vs k (get_or old k 0)
value_moved old vs k = let e : 0 + k ≡ k = omega arith in
    get-places (moved_by old vs) (λ n. zero_stays old n vs) 0 k old ∙ ap (λ n. moved_by old vs n (get_or old k 0)) e

-- ---- operations

-- an operation among those of its block, of which the first variable has this number
record OwnedIn (b : ℕ) (close : VarId) (first : ℕ) (ops : List ExtOp) (p : Placed) : Type 0 where
  block : p.block ≡ b
  end : p.close ≡ close
  has : Member (vars_of p) (ops_vars first ops)
  low : first ≤ p.first
  high : p.first + var_count p.op ≤ first + ops_count ops
  others : (j : ℕ) → j < var_count p.op → (has_cycle p.op.kind ≡ true → j ≡ cycle_place p.op → ⊥) → (o : OpVars)
      → Member o (ops_vars first ops) → is_number (p.first + j) o.cycle ≡ true → ⊥

owned_in : (b : ℕ) (owner : ExtBlock) (close : VarId) (n first : ℕ) (ops : List ExtOp)
    → Each (OwnedIn b close first ops) (placed b owner close n first ops)
owned_in b owner close n first [] = tt
owned_in b owner close n first (op ∷ ops) = (
  record {
    block = refl;
    end = refl;
    has = inl refl;
    low = omega arith;
    high = omega arith;
    others = head_others;
  },
  each_more (OwnedIn b close (first + var_count op) ops) (OwnedIn b close first (op ∷ ops))
      (placed b owner close (n + 1) (first + var_count op) ops)
      (λ p h. record {
        block = h.block;
        end = h.end;
        has = inr h.has;
        low = let l = h.low in omega (arith, l);
        high = let l = h.high in omega (arith, l);
        others = tail_others p h;
      }) (owned_in b owner close (n + 1) (first + var_count op) ops),
)
  where
    head_others : (j : ℕ) → j < var_count op → (has_cycle op.kind ≡ true → j ≡ cycle_place op → ⊥) → (o : OpVars)
        → Member o (ops_vars first (op ∷ ops)) → is_number (first + j) o.cycle ≡ true → ⊥
    head_others j lt unlike o (inl q) e =
        let r = number_if (has_cycle op.kind) (first + j) (first + cycle_place op)
        (ap (λ (v : OpVars). is_number (first + j) v.cycle) q ∙ e) in
        let at = r.1 in unlike r.0 (omega (arith, at))
    head_others j lt unlike o (inr m) e =
        let r = op_in (first + var_count op) (first + j) ops o m e in let lo = r.0 in omega (arith, lo, lt)

    tail_others : (p : Placed) → OwnedIn b close (first + var_count op) ops p → (j : ℕ) → j < var_count p.op
        → (has_cycle p.op.kind ≡ true → j ≡ cycle_place p.op → ⊥) → (o : OpVars)
        → Member o (ops_vars first (op ∷ ops)) → is_number (p.first + j) o.cycle ≡ true → ⊥
    tail_others p h j lt unlike o (inl q) e =
        let r = number_if (has_cycle op.kind) (p.first + j) (first + cycle_place op)
        (ap (λ (v : OpVars). is_number (p.first + j) v.cycle) q ∙ e) in
        let at = r.1 in let i = cycle_inside op r.0 in let l = h.low in omega (arith, at, i, l)
    tail_others p h j lt unlike o (inr m) e = h.others j lt unlike o m e

-- an operation with the variables of its block, which is that many after block b
pub record Owned (b : ℕ) (vs : List BlockVars) (p : Placed) : Type 0 where
  pub vars : BlockVars
  pub member : Member vars vs
  pub place : ℕ
  pub number : p.block ≡ b + place
  pub at : slice_get vs place ≡ Some vars
  pub close : vars.end ≡ p.close
  pub has : Member (vars_of p) vars.ops
  pub others : (j : ℕ) → j < var_count p.op → (has_cycle p.op.kind ≡ true → j ≡ cycle_place p.op → ⊥) → (v : BlockVars) → Member v vs
      → is_time_in v (p.first + j) ≡ false
  pub low : 0 ≤ p.first

pub owned : (b n first : ℕ) (blocks : List ExtBlock)
    → Each (λ p. Owned b (blocks_vars first blocks) p × (first ≤ p.first)) (blocks_placed b n first blocks)
owned b n first [] = tt
owned b n first (block ∷ blocks) =
    let close = var_at (first + ops_count block.ops) in
    let next = first + block_count block in
    each_join (λ p. Owned b (blocks_vars first (block ∷ blocks)) p × (first ≤ p.first)) (block_placed b n first block)
    (blocks_placed (b + 1) (n + length block.ops) next blocks)
    (each_more (OwnedIn b close first block.ops) (λ p. Owned b (blocks_vars first (block ∷ blocks)) p × (first ≤ p.first))
    (block_placed b n first block) own (owned_in b block close n first block.ops))
    (each_more (λ p. Owned (b + 1) (blocks_vars next blocks) p × (next ≤ p.first))
    (λ p. Owned b (blocks_vars first (block ∷ blocks)) p × (first ≤ p.first))
    (blocks_placed (b + 1) (n + length block.ops) next blocks) later (owned (b + 1) (n + length block.ops) next blocks))
  where
    own : (p : Placed) → OwnedIn b (var_at (first + ops_count block.ops)) first block.ops p
        → Owned b (blocks_vars first (block ∷ blocks)) p × (first ≤ p.first)
    own p h = (
      record {
        vars = block_vars first block;
        member = inl refl;
        place = 0;
        number = let q = h.block in omega (arith, q);
        at = refl;
        close = sym h.end;
        has = h.has;
        others = λ j lt unlike v m. false_by (is_time_in v (p.first + j)) (own_others j lt unlike v m);
        low = omega arith;
      },
      h.low,
    )
      where
        own_others : (j : ℕ) → j < var_count p.op → (has_cycle p.op.kind ≡ true → j ≡ cycle_place p.op → ⊥) → (v : BlockVars)
            → Member v (blocks_vars first (block ∷ blocks)) → is_time_in v (p.first + j) ≡ true → ⊥
        own_others j lt unlike v (inl q) e = ⊎_elim
            (λ (c : is_cycle (ops_vars first block.ops) (p.first + j) ≡ true).
            let r = any_of (λ (o : OpVars). is_number (p.first + j) o.cycle) (ops_vars first block.ops) c in
            h.others j lt unlike r.0 r.1 r.2)
            (λ (c : eqb (p.first + j) (first + ops_count block.ops) ≡ true).
            let s = eqb-true (p.first + j) (first + ops_count block.ops) c in let hi = h.high in omega (arith, s, hi, lt))
            (or_cases (is_cycle (ops_vars first block.ops) (p.first + j)) (eqb (p.first + j) (first + ops_count block.ops))
            (ap (λ (w : BlockVars). is_time_in w (p.first + j)) q ∙ e))
        own_others j lt unlike v (inr m) e =
            let r = blocks_in (first + block_count block) (p.first + j) blocks v m e in
            let lo = r.0 in let hi = h.high in omega (arith, lo, hi, lt)

    later : (p : Placed) → Owned (b + 1) (blocks_vars (first + block_count block) blocks) p × (first + block_count block ≤ p.first)
        → Owned b (blocks_vars first (block ∷ blocks)) p × (first ≤ p.first)
    later p (h, lo) = (
      record {
        vars = h.vars;
        member = inr h.member;
        place = suc h.place;
        number = let q = h.number in omega (arith, q);
        at = h.at;
        close = h.close;
        has = h.has;
        others = λ j lt unlike v m. later_others j lt unlike v m;
        low = omega arith;
      },
      omega (arith, lo),
    )
      where
        later_others : (j : ℕ) → j < var_count p.op → (has_cycle p.op.kind ≡ true → j ≡ cycle_place p.op → ⊥) → (v : BlockVars)
            → Member v (blocks_vars first (block ∷ blocks)) → is_time_in v (p.first + j) ≡ false
        later_others j lt unlike v (inl q) = false_by (is_time_in v (p.first + j)) (λ e.
            let r = block_in first (p.first + j) block (ap (λ (w : BlockVars). is_time_in w (p.first + j)) q ∙ e) in
            let hi = r.1 in omega (arith, hi, lo))
        later_others j lt unlike v (inr m) = h.others j lt unlike v m

-- ---- cycles in use

pub in_use : (old : List ℕ) (vars : BlockVars) (c : ℕ) → Member c (times_of old vars) → is_used old vars c ≡ true
in_use old vars c m = any_in (λ (t : ℕ). t == c) (times_of old vars) c m (eq-eqb c c refl)

pub cycle_in_use : (old : List ℕ) (vars : BlockVars) (o : OpVars) → Member o vars.ops → is_used old vars (value_by old o.cycle) ≡ true
cycle_in_use old vars o m =
    in_use old vars (value_by old o.cycle) (inr (inr (member_map (λ (o : OpVars). value_by old o.cycle) vars.ops o m)))

pub end_in_use : (old : List ℕ) (vars : BlockVars) → is_used old vars (value_of old vars.end) ≡ true
end_in_use old vars = in_use old vars (value_of old vars.end) (inr (inl refl))

pub start_in_use : (old : List ℕ) (vars : BlockVars) → is_used old vars 0 ≡ true
start_in_use old vars = in_use old vars 0 (inl refl)

-- ---- the variables of times

pub cycle_is_time : (vars : BlockVars) (o : OpVars) (v : VarId) → Member o vars.ops → o.cycle ≡ Some v → is_time_in vars v.0 ≡ true
cycle_is_time vars o v m e =
    or_left (is_cycle vars.ops v.0) (eqb v.0 vars.end.0) (any_in (λ (o : OpVars). is_number v.0 o.cycle) vars.ops o m
    (ap (is_number v.0) e ∙ eq-eqb v.0 v.0 refl))

pub end_is_time : (vars : BlockVars) → is_time_in vars vars.end.0 ≡ true
end_is_time vars = or_right (is_cycle vars.ops vars.end.0) (eqb vars.end.0 vars.end.0) (eq-eqb vars.end.0 vars.end.0 refl)
