-- The linear function of every function is small.
use Rattle.std.proofs.Common.{ℕ, zero, suc, ◌+◌, ◌*◌, ◌<◌, ◌≤◌, ◌^◌, Bool, true, false, List, [], ◌∷◌, filter, length, get_or}
use Rattle.std.proofs.Common.{if◌then◌else◌, All, arith}
use Rattle.std.specs.List.{flat_map, range_with_len}
use Rattle.std.proofs.Math.Bridge.{le_prop}
use Rattle.std.proofs.Math.Logic.{∥∥₁_elim}
use Rattle.std.proofs.lemmas.List.{length-append, length_push}
use Rattle.std.proofs.lemmas.List.Elements.{Contains-get_or}
use Rattle.std.proofs.lemmas.List.FromFn.{length-range_with_len}
use Rattle.un_base.specs.declared.ids.NameId.{NameId}
use Rattle.un_isa.specs.Registers.{callee_saved, saved_registers}
use Rattle.un_isa.specs.Tables.{in_mask}
use Rattle.un_isa.specs.declared.reg.TheConstants.{LINK, GENERALS}
use Rattle.un_isa.specs.declared.table.Table.{Table}
use Rattle.un_ir.specs.declared.function.Block.{Block}
use Rattle.un_ir.specs.declared.function.Function.{Function}
use Rattle.un_ir.specs.declared.function.TheConstants.{BLOCKS, OPS, NAMES}
use Rattle.un_ir.specs.LinearOf.{AreLive, live_at}
use Rattle.un_ir.specs.WellFormed.{IsWellFormed}
use Rattle.un_ir.proofs.NameBounds.{live_name_small}
use Rattle.un_lssa.specs.Making.{past_blocks}
use Rattle.un_lssa.proofs.BlockLaws.{few_names, past_blocks_few}

pub filter_few : (p : ℕ → Bool) (xs : List ℕ) → length (filter p xs) ≤ length xs
filter_few p [] = omega arith
filter_few p (x ∷ xs) = by (filter_few p xs) (p x)
  where
    by : length (filter p xs) ≤ length xs → (v : Bool) → length (if v then x ∷ filter p xs else filter p xs) ≤ suc (length xs)
    by ih true = omega (arith, ih)
    by ih false = omega (arith, ih)

-- a table may have all general registers be kept, and there is the address to which a function returns
pub saved_few : (t : Table) → length (saved_registers t) ≤ GENERALS + 1
unfolding callee_saved
saved_few t =
    let a = filter_few (in_mask t.saved) (range_with_len 0 32) in
    let b = length_push (callee_saved t) LINK in
    let c = length-range_with_len 0 32 in
    omega (arith, a, b, c)

within_all : (blocks : List Block) (k : ℕ) (d : Block) → k < length blocks
    → (let block = get_or blocks k d in length block.ops) ≤ length (flat_map (λ (block : Block). block.ops) blocks)
within_all [] k d h = absurd (omega arith)
within_all (block ∷ blocks) zero d h = let e = length-append block.ops (flat_map (λ (block : Block). block.ops) blocks) in
    rw e (omega arith)
within_all (block ∷ blocks) (suc k) d h =
    let e = length-append block.ops (flat_map (λ (block : Block). block.ops) blocks) in let r = within_all blocks k d (omega arith) in
    rw e (omega (arith, r))

abbrev Kept : Function → Type 0
Kept f = IsWellFormed f.name f.params f.names f.blocks

pub all_ops_few : (f : Function) → length (flat_map (λ (block : Block). block.ops) f.blocks) ≤ OPS
all_ops_few f = ∥∥₁_elim f.well_formed le_prop (λ (w : Kept f). w.few_ops)

pub block_ops_few : (f : Function) → All (λ (block : Block). length block.ops ≤ OPS) f.blocks
block_ops_few f k d h = let a = all_ops_few f in let b = within_all f.blocks k d h in omega (arith, a, b)

pub ops_few : (f : Function) → All (λ (block : Block). length block.ops < 2 ^ 30) f.blocks
ops_few f k d h = let a = all_ops_few f in let b = within_all f.blocks k d h in omega (arith, a, b)

pub blocks_few : (f : Function) → length f.blocks ≤ BLOCKS
blocks_few f = ∥∥₁_elim f.well_formed le_prop (λ (w : Kept f). w.few_blocks)

pub names_few : (f : Function) → length f.names ≤ NAMES
names_few f = ∥∥₁_elim f.well_formed le_prop (λ (w : Kept f). w.few_names)

pub few_blocks : (f : Function) → length f.blocks < 2 ^ 32
few_blocks f = let a = blocks_few f in omega (arith, a)

pub few_function_names : (f : Function) → length f.names < 2 ^ 32
few_function_names f = let a = names_few f in omega (arith, a)

pub live_few : (f : Function) (lists : List (List NameId)) → AreLive f.blocks lists → (b : ℕ) → length (live_at lists b) ≤ NAMES
live_few f lists live b =
    let high : All (λ (name : NameId). name.0 < length f.names) (live_at lists b) = λ k d h.
    live_name_small f (get_or (live_at lists b) k d) b 0 ((live.exact b (get_or (live_at lists b) k d)).0
    (Contains-get_or (live_at lists b) k d h)) in
    let a = few_names (length f.names) (live_at lists b) (live.rising b) high in
    let c = names_few f in
    omega (arith, a, c)

pub few_temps : (f : Function) (lists : List (List NameId)) (t : Table) → AreLive f.blocks lists → past_blocks t lists 0 0 f.blocks < 2 ^ 32
few_temps f lists t live =
    let a = past_blocks_few t lists NAMES (GENERALS + 1) (saved_few t) (live_few f lists live) 0 0 f.blocks in
    let b = blocks_few f in
    let d = all_ops_few f in
    let p : past_blocks t lists 0 0 f.blocks ≤ 0 + (NAMES + (GENERALS + 1)) * length f.blocks + length
    (flat_map (λ (block : Block). block.ops) f.blocks) = a in
    omega (arith, p, b, d)
