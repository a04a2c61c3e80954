-- JSON texts, as `serde_json` reads them.
use Rattle.std.specs.Prelude.{ℕ, ◌≡◌, List, Some, IsUtf8}
use Rattle.serde_json.specs.Data.{Data}
use Rattle.serde_json.specs.Read.{read}

-- the text is this JSON value. An object has each key once, with the last of the values that stand under it
pub record IsJson (text : List ℕ) (d : Data) : Type 0 where
  pub utf8 : IsUtf8 text
  pub value : read text ≡ Some d
