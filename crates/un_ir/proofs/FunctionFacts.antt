-- What every function keeps, fact by fact.
use Rattle.std.proofs.Common.{◌≡◌, ℕ, ◌<◌, ℤ, List, Option, Some, None, IsSome, length, slice_get}
use Rattle.std.proofs.Common.{Contains, refl, subst}
use Rattle.std.proofs.Math.Bridge.{le_prop}
use Rattle.std.proofs.Math.Logic.{∥∥₁_elim}
use Rattle.std.proofs.lemmas.List.Elements.{All-contains}
use lib.Dec.{T_prop}
use Rattle.un_isa.specs.Facts.{literal_range}
use Rattle.un_isa.specs.Operands.{IsLiteralOf, IsShift, IsShiftOf, IsUnsigned5}
use Rattle.un_isa.specs.declared.facts.Range.{Range}
use Rattle.un_isa.specs.declared.facts.Range.TheVariants.{Unsigned5}
use Rattle.un_isa.specs.declared.op.Op.{Op}
use Rattle.un_isa.specs.declared.op.Op.TheVariants.{Call}
use Rattle.un_ir.specs.declared.function.SrcOp.{SrcOp}
use Rattle.un_ir.specs.declared.function.Block.{Block}
use Rattle.un_ir.specs.declared.function.Function.{Function}
use Rattle.un_ir.specs.Live.{targets_of}
use Rattle.un_ir.specs.WellFormed.{IsGoodOp, IsGoodBlock, IsWellFormed, NamesItsCallee}
use Rattle.un_ir.proofs.NameBounds.{at_all}

abbrev IsKept : Function → Type 0
IsKept f = IsWellFormed f.name f.params f.names f.blocks

-- the operation at a place of a block
op_good : (f : Function) → IsKept f → (b k : ℕ) (block : Block) (o : SrcOp) → slice_get f.blocks b ≡ Some block
    → slice_get block.ops k ≡ Some o → IsGoodOp f.names o
op_good f w b k block o at here = let g = at_all (IsGoodBlock f.names) f.blocks b block w.good_blocks at in
    at_all (IsGoodOp f.names) block.ops k o g.ops here

-- there is an entry
pub entry_there : (f : Function) → 0 < length f.blocks
entry_there f = ∥∥₁_elim f.well_formed le_prop (λ (w : IsKept f). w.entry)

-- a block leads to blocks of the function, and never to the entry
pub leads_inside : (f : Function) (b : ℕ) (block : Block) (c : ℕ) → slice_get f.blocks b ≡ Some block → Contains (targets_of b block.term) c
    → (0 < c) × (c < length f.blocks)
leads_inside f b block c at has =
    ∥∥₁_elim f.well_formed (hlevel (le_prop))
    (λ (w : IsKept f). All-contains (λ (c : ℕ). (0 < c) × (c < length f.blocks)) (targets_of b block.term) c (w.leads b block at) has)

five_prop : (n : ℤ) (x y : IsUnsigned5 n) → x ≡ y
five_prop n = hlevel (T_prop)

shift_prop : (r : Option Range) (n : ℤ) (x y : IsShiftOf r n) → x ≡ y
shift_prop None n x y = refl
shift_prop (Some Unsigned5) n x y = five_prop n x y
shift_prop (Some _) n x y = refl

shift_by : (r : Option Range) (n : ℤ) → IsLiteralOf r n → IsShiftOf r n
shift_by None n h = tt
shift_by (Some Unsigned5) n h = h
shift_by (Some _) n h = tt

-- a shift is by 0 to 31
pub shifts : (f : Function) (b k : ℕ) (block : Block) (o : SrcOp) → slice_get f.blocks b ≡ Some block → slice_get block.ops k ≡ Some o
    → IsShift o.op o.imm
shifts f b k block o at here =
    ∥∥₁_elim f.well_formed (shift_prop (literal_range o.op) o.imm)
    (λ (w : IsKept f). let g = op_good f w b k block o at here in shift_by (literal_range o.op) o.imm g.literal)

-- a call has a callee
pub calls_one : (f : Function) (b k : ℕ) (block : Block) (o : SrcOp) → slice_get f.blocks b ≡ Some block → slice_get block.ops k ≡ Some o
    → o.op ≡ Call → IsSome o.callee
calls_one f b k block o at here call = by o.callee refl
  where
    none : NamesItsCallee Call None → ⊥
    none h = h

    by : (c : Option (List ℕ)) → o.callee ≡ c → IsSome c
    by None e = absurd (∥∥₁_elim f.well_formed (λ (x y : ⊥). absurd x)
        (λ (w : IsKept f). let g = op_good f w b k block o at here in
        none (subst (λ (op : Op). NamesItsCallee op None) call (subst (NamesItsCallee o.op) e g.callee))))
    by (Some name) e = refl
