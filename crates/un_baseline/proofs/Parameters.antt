-- The parameters of a function are its first names, and only they are live at the start of the entry.
use Rattle.std.proofs.Common.{◌≡◌, ℕ, ◌<◌, ◌≤◌, Some, map, length}
use Rattle.std.proofs.Common.{slice_get, arith}
use Rattle.std.specs.List.{flat_map}
use Rattle.std.proofs.Math.Bridge.{le_prop}
use Rattle.std.proofs.Math.Logic.{∥∥₁_elim}
use Rattle.std.proofs.Props.{props}
use Rattle.std.proofs.lemmas.List.Elements.{All-contains}
use Rattle.un_base.specs.declared.ids.NameId.{NameId}
use Rattle.un_ir.specs.declared.function.Kind.TheVariants.{General}
use Rattle.un_ir.specs.declared.function.SrcOp.{SrcOp}
use Rattle.un_ir.specs.declared.function.Block.{Block}
use Rattle.un_ir.specs.declared.function.Function.{Function}
use Rattle.un_ir.specs.Extended.{name_kind}
use Rattle.un_ir.specs.LinearOf.{kind_of_pair}
use Rattle.un_ir.specs.Live.{IsLive}
use Rattle.un_ir.specs.Names.{names_in_block}
use Rattle.un_ir.specs.WellFormed.{IsWellFormed, IsOfKind}
use Rattle.un_ir.proofs.NameBounds.{names_small}
use Rattle.un_lssa.proofs.FunctionRuns.{numbered}
use Rattle.un_baseline.proofs.Sources.{kind_named}

abbrev Kept : Function → Type 0
Kept f = IsWellFormed f.name f.params f.names f.blocks

-- an operation assigns a name of the function
pub dst_small : (f : Function) (b k : ℕ) (block : Block) (o : SrcOp) (name : NameId) → slice_get f.blocks b ≡ Some block
    → slice_get block.ops k ≡ Some o
    → o.dst ≡ Some name → name.0 < length f.names
dst_small f b k block o name at here is =
    ∥∥₁_elim f.well_formed le_prop (λ (w : Kept f). (let small = names_small f.names f.blocks w.good_blocks in small.assigns b k block o
    name at here is))

-- ---- the parameters are the first names

pub params_few : (f : Function) → length f.params ≤ 6
params_few f = ∥∥₁_elim f.well_formed le_prop (λ (w : Kept f). w.few_params)

pub entry_param : (f : Function) (name : NameId) → IsLive f.blocks name 0 0 → name.0 < length f.params
entry_param f name l = ∥∥₁_elim f.well_formed le_prop
    (λ (w : Kept f). (let n = numbered f.params (flat_map names_in_block f.blocks)
    (length f.names) w.distinct_params w.numbered in n.below name (w.live name l)))

pub entry_low : (f : Function) (name : NameId) → IsLive f.blocks name 0 0 → name.0 < 6
entry_low f name l = let a = entry_param f name l in let b = params_few f in omega (arith, a, b)

pub entry_word : (f : Function) (name : NameId) → IsLive f.blocks name 0 0 → name_kind (map kind_of_pair f.names) name ≡ General
entry_word f name l = ∥∥₁_elim f.well_formed (hlevel (props))
    (λ (w : Kept f). kind_named f.names name General (All-contains (IsOfKind f.names General) f.params name w.params_are_words
    (w.live name l)))
