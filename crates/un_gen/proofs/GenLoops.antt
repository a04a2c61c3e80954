-- One operation more, and one block more.
use Rattle.std.proofs.Common.{◌≡◌, ℕ, suc, ◌+◌, ◌-◌, ◌<◌, List, [], ◌∷◌, ◌++◌, ap, ◌∙◌, subst, arith, append_assoc}
use Rattle.un_ir.specs.declared.function.SrcOp.{SrcOp}
use Rattle.un_ir.specs.declared.function.Block.{Block}
use Rattle.un_gen.specs.Draws.{after}
use Rattle.un_gen.specs.Generated.{op_after, ops_after, behind_ops, drawn_body, block_of, behind, blocks_after}

-- `done` of the four operations behind state s are drawn, and have led to state t
pub record OpsSoFar (s : ℕ) (ops : List SrcOp) (count t : ℕ) : Type 0 where
  pub whole : ops ++ ops_after (4 - count) t ≡ ops_after 4 s
  pub state : behind_ops (4 - count) t ≡ behind_ops 4 s

pub ops_more : (s t u i : ℕ) (ops new : List SrcOp) → i < 4 → OpsSoFar s ops i t → new ≡ ops ++ op_after t ∷ [] → u ≡ after 4 t
    → OpsSoFar s new (i + 1) u
ops_more s t u i ops new h so_far pushed drawn =
    let left : 4 - i ≡ suc (4 - (i + 1)) = omega arith in
    let whole : ops ++ op_after t ∷ ops_after (4 - (i + 1)) (after 4 t) ≡ ops_after 4 s =
    subst (λ (n : ℕ). ops ++ ops_after n t ≡ ops_after 4 s) left so_far.whole in
    let state : behind_ops (4 - (i + 1)) (after 4 t) ≡ behind_ops 4 s =
    subst (λ (n : ℕ). behind_ops n t ≡ behind_ops 4 s) left so_far.state in
    record {
      whole = ap (λ (os : List SrcOp). os ++ ops_after (4 - (i + 1)) u) pushed
          ∙ (append_assoc ops (op_after t ∷ []) (ops_after (4 - (i + 1)) u)
          ∙ (ap (λ (v : ℕ). ops ++ op_after t ∷ ops_after (4 - (i + 1)) v) drawn ∙ whole));
      state = ap (λ (v : ℕ). behind_ops (4 - (i + 1)) v) drawn ∙ state;
    }

pub blocks_more : (size b t u : ℕ) (blocks new all : List Block) → b < size → blocks ++ blocks_after size b (size - b) t ≡ all
    → new ≡ blocks ++ block_of size b (size - 1 - b) (drawn_body t) ∷ [] → u ≡ behind (size - 1 - b) (drawn_body t)
    → new ++ blocks_after size (b + 1) (size - (b + 1)) u ≡ all
blocks_more size b t u blocks new all h so_far pushed drawn =
    let more = size - 1 - b in
    let here : size - b ≡ suc more = omega arith in
    let next : size - (b + 1) ≡ more = omega arith in
    let whole : blocks ++ block_of size b more (drawn_body t) ∷ blocks_after size (b + 1) more (behind more (drawn_body t)) ≡ all =
    subst (λ (n : ℕ). blocks ++ blocks_after size b n t ≡ all) here so_far in
    ap (λ (n : ℕ). new ++ blocks_after size (b + 1) n u) next
    ∙ (ap (λ (v : ℕ). new ++ blocks_after size (b + 1) more v) drawn
    ∙ (ap (λ (bs : List Block). bs ++ blocks_after size (b + 1) more (behind more (drawn_body t))) pushed
    ∙ (append_assoc blocks (block_of size b more (drawn_body t) ∷ []) (blocks_after size (b + 1) more (behind more (drawn_body t))) ∙ whole)))
