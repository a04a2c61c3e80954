-- The packets of the emitted code, as often as their blocks run, are the cost of the solution; and rules of code that hold of it.
use Rattle.std.proofs.Common.{ℕ, zero, suc, ◌≡◌, ◌+◌, ◌-◌, ◌*◌, ◌%◌, Bool, true, false, List, [], ◌∷◌, length, map, refl, ap, ◌∙◌, arith}
use Rattle.std.specs.Prelude.{if◌then◌else◌, ◌==◌}
use Rattle.std.specs.List.{range_with_len, zip}
use Rattle.un_ir.specs.declared.extended.ExtBlock.{ExtBlock}
use Rattle.un_ir.specs.declared.extended.Ext.{Ext}
use Rattle.un_model.specs.declared.model.BlockVars.{BlockVars}
use Rattle.un_model.specs.declared.model.Model.{Model}
use Rattle.un_model.specs.declared.model.Options.{Options}
use Rattle.un_model.specs.Cost.{value_of, blocks_cost}
use Rattle.un_model.specs.Emission.{instrs_in, or_nop, block_packets, frame_of, frame_bytes, largest_slot}
use Rattle.un_model.specs.Schedules.{schedule_of}
use Rattle.un_model.specs.Variables.{model_of, block_vars, blocks_vars, block_count}
use Rattle.un_emit.specs.Emitted.{packet_with, code_block, code_blocks, packet_cost}

length-mapped : {A B : Type 0} (f : A → B) (xs : List A) → length (map f xs) ≡ length xs
length-mapped f [] = refl
length-mapped f (x ∷ xs) = ap suc (length-mapped f xs)

length-range : (a n : ℕ) → length (range_with_len a n) ≡ n
length-range a zero = refl
length-range a (suc n) = ap suc (length-range (a + 1) n)

pub packet_count : (m : Model) (values : List ℕ) (block : ExtBlock) (vars : BlockVars)
    → length (map packet_with (block_packets m values block vars)) ≡ value_of values vars.end - 1
packet_count m values block vars =
    let cs = range_with_len 1 (value_of values vars.end - 1) in
    length-mapped packet_with (block_packets m values block vars) ∙ length-mapped (λ (c : ℕ). or_nop (instrs_in m values block vars c)) cs
    ∙ length-range 1 (value_of values vars.end - 1)

pub costs : (m : Model) (values : List ℕ) (first : ℕ) (blocks : List ExtBlock)
    → packet_cost blocks (map (λ (b : ExtBlock × BlockVars). code_block m values b.0 b.1) (zip blocks (blocks_vars first blocks))) ≡
    blocks_cost values blocks (blocks_vars first blocks)
costs m values first [] = refl
costs m values first (block ∷ blocks) =
    ap (λ n. block.freq * n + packet_cost blocks (map (λ (b : ExtBlock × BlockVars). code_block m values b.0 b.1)
    (zip blocks (blocks_vars (first + block_count block) blocks)))) (packet_count m values block (block_vars first block))
    ∙ ap (λ n. block.freq * (value_of values (let v = block_vars first block in v.end) - 1) + n)
    (costs m values (first + block_count block) blocks)

module _ (e : Ext) (o : Options) (values : List ℕ) where
  -- the cost of the solution
  pub cost_is : packet_cost e.blocks (code_blocks (model_of e o) values) ≡ blocks_cost values e.blocks (blocks_vars 0 e.blocks)
  cost_is = costs (model_of e o) values 0 e.blocks

  -- ---- rules

  -- there are as many blocks as the function has
  pub block_number : length (code_blocks (model_of e o) values) ≡ length e.blocks
  block_number = go 0 e.blocks
    where
      go : (first : ℕ) (blocks : List ExtBlock) → length (map (λ (b : ExtBlock × BlockVars). code_block (model_of e o) values b.0 b.1)
          (zip blocks (blocks_vars first blocks))) ≡ length blocks
      go first [] = refl
      go first (block ∷ blocks) = ap suc (go (first + block_count block) blocks)

  -- the frame is a multiple of 8
  pub frame_whole : frame_of (model_of e o) values % 8 ≡ 0
  frame_whole = by (value_of values (let m = model_of e o in m.flag) == 0)
    where
      eights : (n : ℕ) → frame_bytes n % 8 ≡ 0
      eights n = omega arith

      by : (b : Bool) → (if b then 0 else frame_bytes (largest_slot (let m = schedule_of (model_of e o) values in m.ranges))) % 8 ≡ 0
      by true = refl
      by false = eights (largest_slot (let m = schedule_of (model_of e o) values in m.ranges))
