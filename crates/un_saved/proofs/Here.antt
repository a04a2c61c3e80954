-- The region of a block, by its number.
use Rattle.std.proofs.Common.{ℕ, ◌≡◌, List, sym, ◌∙◌, arith}
use Rattle.std.specs.Prelude.{Some, slice_get}
use Rattle.un_ir.specs.declared.extended.ExtBlock.{ExtBlock}
use Rattle.un_ir.specs.declared.extended.Ext.{Ext}
use Rattle.un_model.specs.declared.model.Options.{Options}
use Rattle.un_model.proofs.Placed.{Region}
use Rattle.un_model.proofs.Readings.{Solved}
use Rattle.un_model.proofs.Regions.{region_is, region_of}
use Rattle.un_model.proofs.RegionEnds.{all_regions}

module _ (e : Ext) (o : Options) (values : List ℕ) (solved : Solved e o values) where
  pub record Here (k : ℕ) (b : ExtBlock) : Type 0 where
    pub region : Region
    pub at : slice_get (all_regions e o values solved.extended) k ≡ Some region
    pub owner : b ≡ region.owner
    pub number : region.block ≡ k

  pub here : (k : ℕ) (b : ExtBlock) → slice_get e.blocks k ≡ Some b → Here k b
  here k b at =
      let found = region_of 0 0 0 e.blocks k b at in
      let is = region_is 0 0 0 e.blocks k found.0 found.1 in
      let both : Some b ≡ Some (let r : Region = found.0 in r.owner) = sym at ∙ is.0 in
      let number = is.1 in
      record { region = found.0; at = found.1; owner = cc both; number = omega (arith, number) }
