-- The list of arcs of a block of a model.
use Rattle.std.proofs.Common.{◌≡◌, ℕ, zero, suc, ◌+◌, List, [], ◌∷◌, length, Some, slice_get, refl, sym, ap, ◌∙◌, subst, arith}
use Rattle.std.specs.Prelude.{◌↔◌, AllPairs, Contains}
use Rattle.un_isa.specs.declared.table.Table.{Table}
use Rattle.un_ir.specs.declared.extended.ExtBlock.{ExtBlock}
use Rattle.un_model.specs.declared.model.Arc.{Arc}
use Rattle.un_model.specs.declared.model.Model.{Model}
use Rattle.un_model.specs.declared.model.TempVars.{TempVars}
use Rattle.un_model.specs.ArcLaws.{arc_told, arc_known, arcs_rise}
use Rattle.un_model.specs.Arcs.{block_arcs, blocks_arcs, IsArcOf, RisesTo, first_number}
use Rattle.un_model.specs.Variables.{IsModel}

-- a list of arcs, and the block of which it has them
record OfBlock (t : Table) (temps : List TempVars) (n : ℕ) (blocks : List ExtBlock) (b : ℕ) (arcs : List Arc) : Type 0 where
  block : ExtBlock
  here : slice_get blocks b ≡ Some block
  is : arcs ≡ block_arcs t temps (n + first_number blocks b) block.ops

of_block : (t : Table) (temps : List TempVars) (n : ℕ) (blocks : List ExtBlock) (b : ℕ) (arcs : List Arc)
    → slice_get (blocks_arcs t temps n blocks) b ≡ Some arcs → OfBlock t temps n blocks b arcs
of_block t temps n [] b arcs h = absurd (cc h)
of_block t temps n (c ∷ cs) zero arcs h =
    let same : block_arcs t temps n c.ops ≡ arcs = cc h in
    let at : n ≡ n + 0 = omega arith in
    record { block = c; here = refl; is = sym same ∙ ap (λ (m : ℕ). block_arcs t temps m c.ops) at }
of_block t temps n (c ∷ cs) (suc b) arcs h =
    let w = of_block t temps (n + length c.ops) cs b arcs h in
    let own = w.block in
    let at : n + length c.ops + first_number cs b ≡ n + (length c.ops + first_number cs b) = omega arith in
    record { block = own; here = w.here; is = w.is ∙ ap (λ (m : ℕ). block_arcs t temps m own.ops) at }

-- the list of a model's block
told : (m : Model) → IsModel m → (b : ℕ) (arcs : List Arc) → slice_get m.arcs b ≡ Some arcs
    → OfBlock m.ext.table m.temps 0 m.ext.blocks b arcs
told m own b arcs h =
    let temps = ap (λ (x : Model). x.temps) own in
    let here = sym (ap (λ (x : Model). slice_get x.arcs b) own) ∙ h in
    of_block m.ext.table m.temps 0 m.ext.blocks b arcs
    (subst (λ (ts : List TempVars). slice_get (blocks_arcs m.ext.table ts 0 m.ext.blocks) b ≡ Some arcs) (sym temps) here)

pub list_rises : (m : Model) (b : ℕ) (arcs : List Arc) → slice_get m.arcs b ≡ Some arcs → IsModel m → AllPairs RisesTo arcs
list_rises m b arcs h own =
    let w = told m own b arcs h in
    let block = w.block in
    subst (AllPairs RisesTo) (sym w.is) (arcs_rise m.ext.table m.temps (0 + first_number m.ext.blocks b) block.ops)

pub list_has_each : (m : Model) (b : ℕ) (arcs : List Arc) → slice_get m.arcs b ≡ Some arcs → IsModel m → (block : ExtBlock)
    → slice_get m.ext.blocks b ≡ Some block → (a : Arc) → Contains arcs a
    ↔ IsArcOf m.ext.table m.temps (first_number m.ext.blocks b) block.ops a
list_has_each m b arcs h own block at a =
    let w = told m own b arcs h in
    let own_block = w.block in
    let both : Some own_block ≡ Some block = sym w.here ∙ at in
    let same : own_block ≡ block = cc both in
    let is : arcs ≡ block_arcs m.ext.table m.temps (first_number m.ext.blocks b) block.ops =
    w.is ∙ ap (λ (c : ExtBlock). block_arcs m.ext.table m.temps (0 + first_number m.ext.blocks b) c.ops) same
    ∙ ap (λ (n : ℕ). block_arcs m.ext.table m.temps n block.ops) (omega arith) in (
      λ c. arc_told m.ext.table m.temps (first_number m.ext.blocks b) block.ops a (subst (λ (xs : List Arc). Contains xs a) is c),
      λ k. subst (λ (xs : List Arc). Contains xs a) (sym is)
          (arc_known m.ext.table m.temps (first_number m.ext.blocks b) block.ops a k),
    )
