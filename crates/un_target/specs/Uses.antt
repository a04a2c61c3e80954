-- What operations need of a packet by the text of a table.
use Rattle.std.specs.Prelude.{◌≡◌, List, length, slice_get, MatchOption, IsSomeAnd}
use Rattle.un_isa.specs.declared.op.Op.{Op}
use Rattle.un_isa.specs.declared.op.TheConstants.{OPERATIONS}
use Rattle.un_isa.specs.declared.table.Needs.{Needs}
use Rattle.un_isa.specs.Facts.{class_of}
use Rattle.un_isa.specs.Fit.{AreFitNeeds}
use Rattle.un_isa.specs.Hexagon.{needs_by}
use Rattle.un_isa.specs.Tables.{number_of}
use Rattle.serde_json.specs.Data.{unsigned, number, array, Items, no_items, item, Members}
use Rattle.serde_json.specs.Find.{get_member}
use Rattle.un_target.specs.Names.{name_of}
use Rattle.un_target.specs.Parts.{Parts}

-- four numbers in this order, each written as digits alone
abbrev pub four : Needs → Items
four n = item (number (unsigned n.mem))
    (item (number (unsigned n.store)) (item (number (unsigned n.xc)) (item (number (unsigned n.control)) no_items)))

-- what the entries say of an operation; what it needs on HEXAGON where they do not name it
abbrev pub HasNeeds : Members → Op → Needs → Type 0
HasNeeds entries op n = MatchOption (get_member (name_of op) entries) (n ≡ needs_by (class_of op)) (λ d. d ≡ array (four n))

-- it is as tables that fit want it
pub record IsUse (p : Parts) (op : Op) (n : Needs) : Type 0 where
  pub entered : HasNeeds p.uses op n
  pub fit : AreFitNeeds (needs_by (class_of op)) n

-- the needs of all operations, by their numbers
pub record AreUses (p : Parts) (uses : List Needs) : Type 0 where
  pub count : length uses ≡ OPERATIONS
  pub each : (op : Op) → IsSomeAnd (slice_get uses (number_of op)) (IsUse p op)
