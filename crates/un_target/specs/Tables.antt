-- Which table a text is, and why a text is none.
use Rattle.std.specs.Prelude.{ℕ, ◌≡◌, ◌<◌, ◌^◌, ◌&&◌, not, List, ⊤}
use Rattle.un_isa.specs.declared.reg.TheConstants.{REGISTERS}
use Rattle.un_isa.specs.declared.table.Needs.{Needs}
use Rattle.un_isa.specs.declared.table.Table.{Table}
use Rattle.un_isa.specs.Hexagon.{HEXAGON}
use Rattle.un_isa.specs.Starts.{is_clobbered}
use Rattle.un_isa.specs.Tables.{in_mask}
use Rattle.serde_json.specs.Data.{Data}
use Rattle.un_target.specs.declared.error.TableCause.{TableCause}
use Rattle.un_target.specs.declared.error.TableCause.TheVariants.{NotJson, BadShape, BadLatency, BadUse, BadSaved}
use Rattle.un_target.specs.declared.error.TableError.{TableError}
use Rattle.un_target.specs.declared.error.TableError.TheVariants.{NoMemory, Bad}
use Rattle.un_target.specs.Texts.{IsJson}
use Rattle.un_target.specs.Parts.{Parts, HasParts}
use Rattle.un_target.specs.Latencies.{AreLatencies}
use Rattle.un_target.specs.Uses.{AreUses}
use Rattle.un_target.specs.Saved.{AreSaved}

-- The table of these parts. A call clobbers what it clobbers on HEXAGON, but for what is saved; its arguments and its result are
-- those of HEXAGON.
pub record IsTableOf (p : Parts) (t : Table) : Type 0 where
  pub latencies : AreLatencies p t.lat
  pub uses : AreUses p t.uses
  pub saved : AreSaved p.saved t.saved
  pub clobbered : (r : ℕ) → r < REGISTERS → in_mask t.clobbered r ≡ (is_clobbered r && not (in_mask t.saved r))
  pub no_others : t.clobbered < 2 ^ REGISTERS
  pub args : t.args ≡ HEXAGON.args
  pub result : t.result ≡ HEXAGON.result
  pub fresh : t.fresh ≡ p.fresh

-- the text is a JSON value of these parts
pub record IsText (text : List ℕ) (p : Parts) : Type 0 where
  pub json : Data
  pub is : IsJson text json
  pub parts : HasParts json p

-- the text is that of the table
pub record IsTableText (text : List ℕ) (t : Table) : Type 0 where
  pub parts : Parts
  pub read : IsText text parts
  pub table : IsTableOf parts t

-- no table is of the parts, by the first cause that stands: there are no latencies, no needs, or no saved registers of theirs that fit
abbrev pub IsBadOf : Parts → TableCause → Type 0
IsBadOf p BadLatency = (lat : List ℕ) → AreLatencies p lat → ⊥
IsBadOf p BadUse = (lat : List ℕ) × AreLatencies p lat × ((uses : List Needs) → AreUses p uses → ⊥)
IsBadOf p BadSaved = (lat : List ℕ) × AreLatencies p lat × (uses : List Needs) × AreUses p uses × ((mask : ℕ) → AreSaved p.saved mask → ⊥)
IsBadOf p NotJson = ⊥
IsBadOf p BadShape = ⊥

-- no table is the text's, by the first cause that stands: it is no JSON value; the value has not the parts of a table; no table is
-- of its parts
abbrev pub IsBadTable : List ℕ → TableCause → Type 0
IsBadTable text NotJson = (d : Data) → IsJson text d → ⊥
IsBadTable text BadShape = (d : Data) × IsJson text d × ((p : Parts) → HasParts d p → ⊥)
IsBadTable text BadLatency = (p : Parts) × IsText text p × IsBadOf p BadLatency
IsBadTable text BadUse = (p : Parts) × IsText text p × IsBadOf p BadUse
IsBadTable text BadSaved = (p : Parts) × IsText text p × IsBadOf p BadSaved

-- a cause that stands, or want of memory
abbrev pub IsRefused : List ℕ → TableError → Type 0
IsRefused text NoMemory = ⊤
IsRefused text (Bad cause) = IsBadTable text cause
