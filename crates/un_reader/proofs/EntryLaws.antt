-- A name is live at the start of the entry or not, by its marks.
use Rattle.std.proofs.Common.{◌≡◌, ◌∙◌, ◌<◌, Bool, true, false, List, length, sym}
use Rattle.un_ir.specs.declared.function.Block.{Block}
use Rattle.un_live.specs.Marks.{marked, IsColumn}
use Rattle.un_live.specs.Tables.{reads}
use Rattle.un_live.proofs.LiveLaws.{reads-Contains, Contains-reads}
use Rattle.un_reader.specs.Entry.{IsLiveAtEntry}
use Rattle.un_faults.specs.Vocabulary.{NameId, Spelled}

module _ (params : List NameId) (names : List Spelled) (blocks : List Block) (name : NameId) (marks : List Bool)
    (column : IsColumn blocks name marks) where
  pub live_entry : name.0 < length names → reads name params ≡ false → marked marks 0 ≡ true → IsLiveAtEntry params names blocks name
  live_entry below other is = record {
    number = below;
    is_local = λ has. cc (sym other ∙ Contains-reads name params has);
    live = (column.exact 0).0 is;
  }

  pub param_entry : reads name params ≡ true → IsLiveAtEntry params names blocks name → ⊥
  param_entry is live = live.is_local (reads-Contains name params is)

  pub dead_entry : marked marks 0 ≡ false → IsLiveAtEntry params names blocks name → ⊥
  dead_entry dead live = cc (sym dead ∙ (column.exact 0).1 live.live)
