-- Names that cross a call, and are read in registers behind it.
use Rattle.std.specs.Prelude.{ℕ, ◌≡◌, false, List, Some, slice_get}
use Rattle.un_base.specs.declared.ids.TempId.{TempId}
use Rattle.un_ir.specs.Kinds.{is_delimiter}
use Rattle.un_ir.specs.declared.extended.Ext.{Ext}
use Rattle.un_model.specs.declared.model.Options.{Options}
use Rattle.un_lists.proofs.Lists.{Each}
use Rattle.un_model.proofs.Placed.{Placed}
use Rattle.un_model.proofs.Readings.{Solved}
use Rattle.un_press.proofs.Counting.{Differ}
use Rattle.un_press.proofs.Reloading.{Wanted}
use Rattle.un_saved.specs.Saved.{saved_in}

module _ (e : Ext) (o : Options) (values : List ℕ) (solved : Solved e o values) (c : Placed) where
  -- value v is there in the cycle of call c, and an operation before the block's end reads it in a register after that
  pub record IsName (v : TempId) : Type 0 where
    pub wanted : Wanted e o values solved c v
    pub inner : (let x = wanted.crossing in let q = x.reader in is_delimiter q.user.op.kind ≡ false)

  -- these are, each once, and none is a saved value that the block takes
  pub record AreNames (vs : List TempId) : Type 0 where
    pub each : Each IsName vs
    pub differ : Differ vs
    pub others : Each (λ (v : TempId). (j : ℕ) → slice_get (saved_in c.owner) j ≡ Some v → ⊥) vs
