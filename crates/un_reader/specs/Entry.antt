-- Liveness at the start of the entry.
use Rattle.std.specs.Prelude.{◌<◌, List, length, Contains}
use Rattle.un_faults.specs.Vocabulary.{NameId, Spelled}
use Rattle.un_ir.specs.declared.function.Block.{Block}
use Rattle.un_ir.specs.Live.{IsLive}

-- one of the names that is no parameter and is live at the start of the first block
pub record IsLiveAtEntry (params : List NameId) (names : List Spelled) (blocks : List Block) (name : NameId) : Type 0 where
  pub number : name.0 < length names
  pub is_local : Contains params name → ⊥
  pub live : IsLive blocks name 0 0

-- there is none
abbrev pub HasNoneLive : List NameId → List Spelled → List Block → Type 0
HasNoneLive params names blocks = (name : NameId) → IsLiveAtEntry params names blocks name → ⊥
