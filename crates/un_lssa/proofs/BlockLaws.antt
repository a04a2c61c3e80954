-- Blocks one after another, and how many temporaries they define.
use Rattle.std.proofs.Common.{◌≡◌, ℕ, suc, ◌+◌, ◌*◌, ◌<◌, ◌≤◌, ◌++◌, ◌^◌, List, [], ◌∷◌, Option, Some, None, length, drop, replicate}
use Rattle.std.proofs.Common.{get_or, All, AllPairs, refl, sym, ap, ◌∙◌, arith, append_assoc, mul-suc}
use Rattle.std.specs.List.{flat_map}
use Rattle.std.proofs.lemmas.List.{drop_more, drop_all, length-append}
use Rattle.std.proofs.lemmas.List.Elements.{All-head, All-tail}
use Rattle.un_base.specs.declared.ids.NameId.{NameId}
use Rattle.un_isa.specs.Registers.{callee_saved, saved_registers}
use Rattle.un_isa.specs.declared.table.Table.{Table}
use Rattle.un_ir.specs.declared.function.Block.{Block}
use Rattle.un_ir.specs.declared.function.SrcOp.{SrcOp}
use Rattle.un_ir.specs.declared.function.Term.{Term}
use Rattle.un_ir.specs.declared.function.Term.TheVariants.{Fall, Jump, Branch, Ret}
use Rattle.un_ir.specs.declared.extended.ExtOp.{ExtOp}
use Rattle.un_ir.specs.declared.extended.ExtBlock.{ExtBlock}
use Rattle.un_ir.specs.LinearOf.{live_at, live_after, block_of, first_temps, assigned, past, body_ops, current_after, in_op, end_ops}
use Rattle.un_ir.specs.LinearOf.{out_op, past_all, past_block, linear_ops, linear_block, linear_blocks}
use Rattle.un_lssa.specs.Making.{past_blocks}
use Rattle.un_lssa.proofs.Operands.{past_all_grows, saved_count}

-- ---- a block

module _ (t : Table) (names n : ℕ) (live_in live_out : List NameId) (block : Block) (registers : List ℕ)
    (kept : registers ≡ callee_saved t) where
  first_is : n + (length live_in + length registers + 1) ≡ n + length live_in + length (saved_registers t)
  first_is = let s = saved_count t in let k : length registers ≡ length (callee_saved t) = ap (λ (rs : List ℕ). length rs) kept in
      omega (arith, s, k)

  pub block_made : (cur after : List ℕ) (ops all : List ExtOp) → cur ≡ first_temps (replicate names 0) n live_in
      → ops ≡ in_op n (length live_in + length registers + 1) ∷ body_ops t cur (n + (length live_in + length registers + 1)) block.ops
      → after ≡ current_after cur (n + (length live_in + length registers + 1)) block.ops
      → all ≡ ops ++ (end_ops after (n + length live_in + length registers) block.term ++
      out_op t after (n + length live_in) live_out block.term ∷ [])
      → all ≡ linear_ops t names n live_in live_out block
  block_made cur after ops all e1 e2 e3 e4 =
      let s = saved_count t in
      let k : length registers ≡ length (callee_saved t) = ap (λ (rs : List ℕ). length rs) kept in
      let count : length live_in + length registers + 1 ≡ length live_in + length (saved_registers t) = omega (arith, s, k) in
      let first : n + (length live_in + length registers + 1) ≡ n + length live_in + length (saved_registers t) = first_is in
      e4 ∙ by (length live_in + length registers + 1) (n + (length live_in + length registers + 1)) (length registers) cur after ops count
      first k e1 e2 e3
    where
      by : (count first kept_count : ℕ) (cur after : List ℕ) (ops : List ExtOp) → count ≡ length live_in + length (saved_registers t)
          → first ≡ n + length live_in + length (saved_registers t)
          → kept_count ≡ length (callee_saved t) → cur ≡ first_temps (replicate names 0) n live_in
          → ops ≡ in_op n count ∷ body_ops t cur first block.ops → after ≡ current_after cur first block.ops
          → ops ++ (end_ops after (n + length live_in + kept_count) block.term ++
          out_op t after (n + length live_in) live_out block.term ∷ []) ≡ linear_ops t names n live_in live_out block
      by count first kept_count cur after ops c f k e1 e2 e3 = rw (e3, e2, e1, c, f, k) refl

  pub next_made : past_all (n + (length live_in + length registers + 1)) block.ops ≡ past_all
      (n + length live_in + length (saved_registers t)) block.ops
  next_made = ap (λ (k : ℕ). past_all k block.ops) first_is

body_length : (t : Table) (current : List ℕ) (n : ℕ) (ops : List SrcOp) → length (body_ops t current n ops) ≡ length ops
body_length t current n [] = refl
body_length t current n (o ∷ os) = ap suc (body_length t (assigned current o.dst n) (past o.dst n) os)

end_length : (current : List ℕ) (link : ℕ) (term : Term) → length (end_ops current link term) ≤ 1
end_length current link Fall = omega arith
end_length current link (Jump to) = omega arith
end_length current link (Branch pred sense to) = omega arith
end_length current link (Ret value) = omega arith

-- a block has few operations besides those of the source
pub ops_few : (t : Table) (names n : ℕ) (live_in live_out : List NameId) (block : Block) (ops : List ExtOp)
    → ops ≡ linear_ops t names n live_in live_out block → length ops ≤ length block.ops + 3
ops_few t names n live_in live_out block ops is =
    let saved = n + length live_in in
    let first = saved + length (saved_registers t) in
    let current = first_temps (replicate names 0) n live_in in
    let after = current_after current first block.ops in
    let out = out_op t after saved live_out block.term in
    let ends = end_ops after (saved + length (callee_saved t)) block.term in
    let a = length-append (body_ops t current first block.ops) (ends ++ out ∷ []) in
    let b = length-append ends (out ∷ []) in
    let c = body_length t current first block.ops in
    let d = end_length after (saved + length (callee_saved t)) block.term in
    rw is (omega (arith, a, b, c, d))

-- ---- blocks

block_grows : (t : Table) (lists : List (List NameId)) (b n : ℕ) (block : Block) → n ≤ past_block t lists b n block
block_grows t lists b n block = let g = past_all_grows (n + length (live_at lists b) + length (saved_registers t)) block.ops in
    omega (arith, g)

blocks_grow : (t : Table) (lists : List (List NameId)) (b n : ℕ) (blocks : List Block) → n ≤ past_blocks t lists b n blocks
blocks_grow t lists b n [] = omega arith
blocks_grow t lists b n (block ∷ blocks) =
    let a = block_grows t lists b n block in let r = blocks_grow t lists (b + 1) (past_block t lists b n block) blocks in
    omega (arith, a, r)

-- the next block's temporaries are below what all blocks do not define
pub block_below : (t : Table) (lists : List (List NameId)) (b n count : ℕ) (blocks : List Block) (d : Block) → b < length blocks
    → past_blocks t lists b n (drop b blocks) ≡ count → past_block t lists b n (get_or blocks b d) ≤ count
block_below t lists b n count blocks d h e =
    let same : past_blocks t lists (b + 1) (past_block t lists b n (get_or blocks b d)) (drop (b + 1) blocks) ≡ count =
    ap (past_blocks t lists b n) (sym (drop_more blocks b d h)) ∙ e in
    let r = blocks_grow t lists (b + 1) (past_block t lists b n (get_or blocks b d)) (drop (b + 1) blocks) in
    omega (arith, r, same)

pub blocks_step : (t : Table) (names : ℕ) (lists : List (List NameId)) (b n : ℕ) (blocks : List Block) (d : Block) → b < length blocks
    → linear_blocks t names lists b n (drop b blocks) ≡ linear_block t names lists b n (get_or blocks b d) ∷
    linear_blocks t names lists (b + 1) (past_block t lists b n (get_or blocks b d)) (drop (b + 1) blocks)
blocks_step t names lists b n blocks d h = rw (drop_more blocks b d h) refl

pub past_step : (t : Table) (lists : List (List NameId)) (b n : ℕ) (blocks : List Block) (d : Block) → b < length blocks
    → past_blocks t lists b n (drop b blocks) ≡ past_blocks t lists (b + 1) (past_block t lists b n (get_or blocks b d))
    (drop (b + 1) blocks)
past_step t lists b n blocks d h = rw (drop_more blocks b d h) refl

pub blocks_end : (t : Table) (names : ℕ) (lists : List (List NameId)) (b n : ℕ) (blocks : List Block) → length blocks ≤ b
    → linear_blocks t names lists b n (drop b blocks) ≡ []
blocks_end t names lists b n blocks h = rw (drop_all b blocks h) refl

-- ---- a block among others

module _ (t : Table) (lists : List (List NameId)) (b n : ℕ) (block : Block) (registers : List ℕ) (names_in : List NameId)
    (kept : registers ≡ callee_saved t) (live : names_in ≡ live_at lists b) where
  pub past_is : past_all (n + (length names_in + length registers + 1)) block.ops ≡ past_block t lists b n block
  past_is = next_made t 0 n names_in [] block registers kept
      ∙ ap (λ (xs : List NameId). past_all (n + length xs + length (saved_registers t)) block.ops) live

  pub block_fit : past_block t lists b n block < 2 ^ 32 → past_all (n + (length names_in + length registers + 1)) block.ops < 2 ^ 32
  block_fit h = rw past_is h

  pub block_room : past_block t lists b n block < 2 ^ 32 → n + (length names_in + length registers + 1) < 2 ^ 32
  block_room h = let f = block_fit h in let g = past_all_grows (n + (length names_in + length registers + 1)) block.ops in
      omega (arith, f, g)

pub linear_block_made : (t : Table) (names : ℕ) (lists : List (List NameId)) (b n : ℕ) (block : Block) (live_in live_out copy : List NameId)
    (ops : List ExtOp)
    → live_in ≡ live_at lists b → live_out ≡ live_after lists names b block.term → copy ≡ live_in
    → ops ≡ linear_ops t names n live_in live_out block
    → block_of block copy live_out ops ≡ linear_block t names lists b n block
linear_block_made t names lists b n block live_in live_out copy ops e1 e2 e3 e4 = rw (e3, e4, e1, e2) refl

pub blocks_more : (t : Table) (names : ℕ) (lists : List (List NameId)) (b n next : ℕ) (blocks : List Block) (own : Block)
    (made whole : List ExtBlock) (new : ExtBlock)
    → b < length blocks → own ≡ get_or blocks b own → made ++ linear_blocks t names lists b n (drop b blocks) ≡ whole
    → new ≡ linear_block t names lists b n own → next ≡ past_block t lists b n own
    → (made ++ new ∷ []) ++ linear_blocks t names lists (b + 1) next (drop (b + 1) blocks) ≡ whole
blocks_more t names lists b n next blocks own made whole new h is so_far e1 e2 =
    append_assoc made (new ∷ []) (linear_blocks t names lists (b + 1) next (drop (b + 1) blocks))
    ∙ ap (λ (x : ExtBlock). made ++ x ∷ linear_blocks t names lists (b + 1) next (drop (b + 1) blocks)) e1
    ∙ ap (λ (m : ℕ). made ++ linear_block t names lists b n own ∷ linear_blocks t names lists (b + 1) m (drop (b + 1) blocks)) e2
    ∙ ap (λ (x : Block). made ++ linear_block t names lists b n x ∷
    linear_blocks t names lists (b + 1) (past_block t lists b n x) (drop (b + 1) blocks)) is
    ∙ ap (λ (xs : List ExtBlock). made ++ xs) (sym (blocks_step t names lists b n blocks own h))
    ∙ so_far

pub past_more : (t : Table) (lists : List (List NameId)) (b n next count : ℕ) (blocks : List Block) (own : Block) → b < length blocks
    → own ≡ get_or blocks b own
    → past_blocks t lists b n (drop b blocks) ≡ count → next ≡ past_block t lists b n own
    → past_blocks t lists (b + 1) next (drop (b + 1) blocks) ≡ count
past_more t lists b n next count blocks own h is so_far e =
    ap (λ (m : ℕ). past_blocks t lists (b + 1) m (drop (b + 1) blocks)) (e ∙ ap (past_block t lists b n) is)
    ∙ sym (past_step t lists b n blocks own h) ∙ so_far

pub next_below : (t : Table) (lists : List (List NameId)) (b n limit : ℕ) (blocks : List Block) (own : Block) → b < length blocks
    → own ≡ get_or blocks b own
    → past_blocks t lists b n (drop b blocks) ≡ past_blocks t lists 0 0 blocks → past_blocks t lists 0 0 blocks < limit
    → past_block t lists b n own < limit
next_below t lists b n limit blocks own h is so_far small =
    let r = block_below t lists b n (past_blocks t lists 0 0 blocks) blocks own h so_far in
    let e : past_block t lists b n own ≡ past_block t lists b n (get_or blocks b own) = ap (past_block t lists b n) is in
    omega (arith, r, e)

-- ---- few temporaries

-- rising names below a number are at most so many
rising_length : (k n : ℕ) (names : List NameId) → AllPairs (λ (a b : NameId). a.0 < b.0) names → All (λ (a : NameId). k ≤ a.0) names
    → All (λ (a : NameId). a.0 < n) names → k ≤ n → k + length names ≤ n
rising_length k n [] rising low high h = omega arith
rising_length k n (a ∷ names) rising low high h =
    let first = All-head (λ (a : NameId). k ≤ a.0) a names low in
    let last = All-head (λ (a : NameId). a.0 < n) a names high in
    let above : All (λ (b : NameId). k + 1 ≤ b.0) names = λ j d below.
    (let r = rising 0 (suc j) d (omega arith) (omega arith) in omega (arith, r, first)) in
    let rest : AllPairs (λ (a b : NameId). a.0 < b.0) names = λ i j d lt below. rising (suc i) (suc j) d (omega arith) (omega arith) in
    let r = rising_length (k + 1) n names rest above (All-tail (λ (a : NameId). a.0 < n) a names high) (omega (arith, first, last)) in
    omega (arith, r)

pub few_names : (n : ℕ) (names : List NameId) → AllPairs (λ (a b : NameId). a.0 < b.0) names → All (λ (a : NameId). a.0 < n) names
    → length names ≤ n
few_names n names rising high = let r = rising_length 0 n names rising (λ j d below. omega arith) high (omega arith) in omega (arith, r)

past_few : (dst : Option NameId) (n : ℕ) → past dst n ≤ n + 1
past_few None n = omega arith
past_few (Some name) n = omega arith

past_all_few : (n : ℕ) (ops : List SrcOp) → past_all n ops ≤ n + length ops
past_all_few n [] = omega arith
past_all_few n (o ∷ os) = let a = past_few o.dst n in let r = past_all_few (past o.dst n) os in omega (arith, a, r)

-- blocks define few temporaries
pub past_blocks_few : (t : Table) (lists : List (List NameId)) (names saved : ℕ) → length (saved_registers t) ≤ saved
    → ((b : ℕ) → length (live_at lists b) ≤ names)
    → (b n : ℕ) (blocks : List Block)
    → past_blocks t lists b n blocks ≤ n + (names + saved) * length blocks + length (flat_map (λ (block : Block). block.ops) blocks)
past_blocks_few t lists names saved few live b n [] = omega arith
past_blocks_few t lists names saved few live b n (block ∷ blocks) =
    let l = live b in
    let a = past_all_few (n + length (live_at lists b) + length (saved_registers t)) block.ops in
    let r = past_blocks_few t lists names saved few live (b + 1) (past_block t lists b n block) blocks in
    let k = length-append block.ops (flat_map (λ (block : Block). block.ops) blocks) in
    let m : (names + saved) * suc (length blocks) ≡ (names + saved) * length blocks + (names + saved) =
    mul-suc (names + saved) (length blocks) in
    rw (m, k) (omega (arith, l, a, r, few))
