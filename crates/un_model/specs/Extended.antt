-- What the numbers of a model rest on: counts of an extended function.
use Rattle.std.specs.Prelude.{◌≤◌, All, length}
use Rattle.un_ir.specs.declared.function.TheConstants.{BLOCKS, FREQUENCY}
use Rattle.un_ir.specs.declared.extended.ExtBlock.{ExtBlock}
use Rattle.un_ir.specs.declared.extended.Ext.{Ext}

abbrev pub IsRarelyRun : ExtBlock → Type 0
IsRarelyRun block = block.freq ≤ FREQUENCY

-- few blocks, of which none runs too often, so that costs fit a word of 64 bits
pub record HasSmallCounts (e : Ext) : Type 0 where
  pub blocks : length e.blocks ≤ BLOCKS
  pub frequencies : All IsRarelyRun e.blocks
