-- A solution has room in its packets for what operations take for sure in an interval of cycles.
use Rattle.std.proofs.Common.{ℕ, zero, suc, ◌≡◌, ◌<◌, ◌≤◌, ◌+◌, Bool, true, false, List, [], ◌∷◌, map, inl, inr, refl, sym, ap}
use Rattle.std.proofs.Common.{◌∙◌, subst, arith}
use Rattle.std.specs.Prelude.{Option, Some, None, ◌&&◌, ◌==◌, nat_le, nat_lt, not, sum_by, slice_get, if◌then◌else◌}
use Rattle.std.proofs.lemmas.Bool.Decides.{nat_tests}
use Rattle.std.proofs.lemmas.List.Sums.{sum_by-cons, sum_by-append}
use Rattle.un_base.specs.declared.ids.VarId.{VarId}
use Rattle.un_isa.specs.declared.packet_counts.Resource.{Resource}
use Rattle.un_ir.specs.declared.extended.Ext.{Ext}
use Rattle.un_ir.specs.declared.extended.ExtBlock.{ExtBlock}
use Rattle.un_ir.specs.declared.extended.ExtOp.{ExtOp}
use Rattle.un_domains.specs.Sets.{Sets, set_at, has, IsIn}
use Rattle.un_domains.specs.SetLaws.{has-cons, least-le}
use Rattle.un_model.specs.declared.model.BlockVars.{BlockVars}
use Rattle.un_model.specs.declared.model.OpVars.{OpVars}
use Rattle.un_model.specs.declared.model.Options.{Options}
use Rattle.un_model.specs.Instructions.{instruction_of}
use Rattle.un_model.specs.Pairs.{pairs_from}
use Rattle.un_model.specs.Schedules.{value_by}
use Rattle.un_model.specs.Solutions.{share_of}
use Rattle.un_model.specs.Variables.{model_of, blocks_vars}
use Rattle.un_lists.proofs.Lists.{Member}
use Rattle.un_model.proofs.Placed.{Placed, vars_of, issue_at}
use Rattle.un_model.proofs.PlacedSchedules.{all}
use Rattle.un_model.proofs.Readings.{Solved}
use Rattle.un_steps.specs.Rules.{are_among, issues_in, least_share, takes_in, IsTooFull}
use Rattle.un_steps.specs.Words.{Operation, operation, block_operations, operations_from, operations_by}
use Rattle.un_steps.specs.Words.{operations_in, operations_of, cycles}
use Rattle.un_steps.specs.Words.{instrs, least_of, greatest_of, IsNeverZero, is_never_zero, is_sure}
use Rattle.un_steps.proofs.Boxes.{least_below, greatest_above}
use Rattle.un_steps.proofs.Filled.{sum_mapped, sum_less, issued_in, interval_fits}
use Rattle.un_steps.proofs.Grounds.{sure_active, number_left, cycle_left}
use Rattle.un_steps.proofs.Looks.{both, has_first, has_later}
use Rattle.un_steps.proofs.Placing.{operation_of, operations_are}

-- ---- tests

pub sure_of : (s : Sets) (v : Option VarId) → is_never_zero s v ≡ true → IsNeverZero s v
sure_of s None h = tt
sure_of s (Some v) h = by (has (set_at s v.0) 0) h
  where
    by : (b : Bool) → not b ≡ true → b ≡ false
    by false t = refl
    by true t = absurd (cc t)

-- a cycle that is left to what has its least and its greatest among some
among_left : (cs : List ℕ) (a n c : ℕ) → are_among a n (least_of cs) (greatest_of cs) ≡ true → has cs c ≡ true → (a ≤ c) × (c < a + n)
among_left cs a n c h left = by (least_of cs) (greatest_of cs) refl refl h
  where
    by : (first last : Option ℕ) → least_of cs ≡ first → greatest_of cs ≡ last → are_among a n first last ≡ true → (a ≤ c) × (c < a + n)
    by (Some f) (Some l) p q t =
        let two = both (nat_le a f) (nat_lt l (a + n)) t in
        let lo = two.0 in let hi = two.1 in
        let from : a ≤ f = grind (arith, nat_tests, lo) in
        let to : l < a + n = grind (arith, nat_tests, hi) in
        let low = least_below cs c f left p in
        let high = greatest_above cs c l left q in
        (omega (arith, from, low), omega (arith, to, high))
    by (Some f) None p q t = absurd (cc t)
    by None last p q t = absurd (cc t)

pub has_map : (f : ℕ → ℕ) (xs : List ℕ) (i : ℕ) → has xs i ≡ true → has (map f xs) (f i) ≡ true
has_map f [] i h = absurd (cc h)
has_map f (x ∷ xs) i h = elim (has-cons x i xs h) [
  | inl e ↦ subst (λ (k : ℕ). has (f x ∷ map f xs) (f k) ≡ true) (sym e) (has_first (f x) (map f xs))
  | inr t ↦ has_later (f x) (f i) (map f xs) (has_map f xs i t)
]

-- ---- operations of a block

-- what those of one block have is no more than what all have
block_within : (f : Operation → ℕ) (b k : ℕ) (blocks : List ExtBlock) (vars : List BlockVars) (block : ExtBlock) (v : BlockVars)
    → slice_get blocks k ≡ Some block → slice_get vars k ≡ Some v
    → sum_by f (block_operations (b + k) block v) ≤ sum_by f (operations_from b blocks vars)
block_within f b k [] vars block v p q = absurd (cc p)
block_within f b k (c ∷ blocks) [] block v p q = absurd (cc q)
block_within f b zero (c ∷ blocks) (w ∷ vars) block v p q =
    let e : c ≡ block = cc p in
    let g : w ≡ v = cc q in
    let z : b ≡ b + 0 = omega arith in
    let parts = sum_by-append f (block_operations b c w) (operations_from (b + 1) blocks vars) in
    let same : sum_by f (block_operations b c w) ≡ sum_by f (block_operations (b + 0) block v) =
    ap (λ (k : ℕ). sum_by f (block_operations k c w)) z ∙ ap (λ (y : ExtBlock). sum_by f (block_operations (b + 0) y w)) e
    ∙ ap (λ (y : BlockVars). sum_by f (block_operations (b + 0) block y)) g in
    omega (arith, parts, same)
block_within f b (suc k) (c ∷ blocks) (w ∷ vars) block v p q =
    let rest = block_within f (b + 1) k blocks vars block v p q in
    let z : (b + 1) + k ≡ b + suc k = omega arith in
    let same = ap (λ (k : ℕ). sum_by f (block_operations k block v)) z in
    let parts = sum_by-append f (block_operations b c w) (operations_from (b + 1) blocks vars) in
    omega (arith, rest, same, parts)

-- those of block b are of block b
abbrev in_block : ℕ → (Operation → ℕ) → Operation → ℕ
in_block b f p = if p.block == b then f p else 0

own_block : (f : Operation → ℕ) (b n : ℕ) (block : ExtBlock) (end : VarId) (ops : List ExtOp) (vars : List OpVars)
    → sum_by f (pairs_from (operation b block end) n ops vars) ≡ sum_by (in_block b f) (pairs_from (operation b block end) n ops vars)
own_block f b n block end [] vars = refl
own_block f b n block end (op ∷ ops) [] = refl
own_block f b n block end (op ∷ ops) (v ∷ vars) =
    let p = operation b block end n op v in
    let ps = pairs_from (operation b block end) (n + 1) ops vars in
    let rest = own_block f b (n + 1) block end ops vars in
    let t : (b == b) ≡ true = grind (arith, nat_tests) in
    let here : in_block b f p ≡ f p = ap (λ (c : Bool). if c then f p else 0) t in
    let a = sum_by-cons f p ps in
    let c = sum_by-cons (in_block b f) p ps in
    omega (arith, rest, here, a, c)

module _ (e : Ext) (o : Options) (x : List ℕ) (h : Solved e o x) (s : Sets) (inside : IsIn x s) where
  -- what operations of a block have is no more than what all those that are of it have
  of_block : (f : Operation → ℕ) (b : ℕ)
      → sum_by f (operations_in (model_of e o) b) ≤ sum_by (λ (q : Placed). in_block b f (operation_of q)) (all e o x)
  of_block f b = by (slice_get e.blocks b) (slice_get (blocks_vars 0 e.blocks) b) refl refl
    where
      g : Operation → ℕ
      g = in_block b f

      whole : sum_by g (operations_of (model_of e o)) ≡ sum_by (λ (q : Placed). g (operation_of q)) (all e o x)
      whole = ap (sum_by g) (operations_are 0 0 0 e.blocks) ∙ sum_mapped g operation_of (all e o x)

      by : (block : Option ExtBlock) (vars : Option BlockVars) → slice_get e.blocks b ≡ block → slice_get (blocks_vars 0 e.blocks) b ≡ vars
          → sum_by f (operations_by b block vars) ≤ sum_by (λ (q : Placed). g (operation_of q)) (all e o x)
      by (Some block) (Some vars) p q =
          let own = own_block f b 0 block vars.end block.ops vars.ops in
          let part = block_within g 0 b e.blocks (blocks_vars 0 e.blocks) block vars p q in
          let z : 0 + b ≡ b = omega arith in
          let same = ap (λ (k : ℕ). sum_by g (block_operations k block vars)) z in
          omega (arith, own, part, same, whole)
      by (Some block) None p q = omega arith
      by None vars p q = omega arith

  -- an operation takes no less than what it takes for sure
  takes_least : (r : Resource) (b a n : ℕ) (q : Placed) → Member q (all e o x)
      → in_block b (takes_in (model_of e o) s r a n) (operation_of q) ≤ issued_in e o x h r b a n q
  takes_least r b a n q m = here (q.block == b) refl
    where
      share : ℕ
      share = share_of e.table r (issue_at x q).instr

      sure : Bool
      sure = issues_in s a n (operation_of q)

      inner : Bool
      inner = nat_le a (issue_at x q).cycle && nat_lt (issue_at x q).cycle (a + n)

      by : (c : Bool) → sure ≡ c → (if c then least_share (model_of e o) s r (operation_of q) else 0) ≤ (if true && inner then share else 0)
      by false f = omega arith
      by true f =
          let two = both (is_sure s (operation_of q)) _ f in
          let vars = vars_of q in
          let act = sure_active e o x h s inside q m (sure_of s vars.instr two.0) in
          let among = among_left (cycles s (operation_of q)) a n (issue_at x q).cycle two.1 (cycle_left e o x h s inside q m) in
          let lo = among.0 in let hi = among.1 in
          let p1 : nat_le a (issue_at x q).cycle ≡ true = grind (arith, nat_tests, lo) in
          let p2 : nat_lt (issue_at x q).cycle (a + n) ≡ true = grind (arith, nat_tests, hi) in
          let t : inner ≡ true = ap (λ (c : Bool). c && nat_lt (issue_at x q).cycle (a + n)) p1 ∙ p2 in
          let is : (if true && inner then share else 0) ≡ share = ap (λ (c : Bool). if true && c then share else 0) t in
          let f : ℕ → ℕ = λ (i : ℕ). share_of e.table r (instruction_of q.op.kind i) in
          let le : least_share (model_of e o) s r (operation_of q) ≤ share =
          least-le (map f (instrs s (operation_of q))) share
          (has_map f (instrs s (operation_of q)) (value_by x vars.instr) (number_left e o x h s inside q m act)) in
          omega (arith, is, le)

      here : (c : Bool) → (q.block == b) ≡ c
          → (if c then takes_in (model_of e o) s r a n (operation_of q) else 0) ≤ (if c && inner then share else 0)
      here false f = omega arith
      here true f = by sure refl

  pub too_full : (b v : ℕ) → IsTooFull (model_of e o) s (operations_in (model_of e o) b) v → ⊥
  too_full b v (time, (a, n, (r, over))) =
      let f = takes_in (model_of e o) s r a n in
      let part = of_block f b in
      let less = sum_less (λ (q : Placed). in_block b f (operation_of q)) (issued_in e o x h r b a n) (all e o x)
      (λ q m. takes_least r b a n q m) in
      let fits = interval_fits e o x h r b a n in
      omega (arith, over, part, less, fits)
