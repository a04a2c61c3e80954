-- The latencies of the text of a table.
use Rattle.std.specs.Prelude.{ℕ, ◌≡◌, List, true, length, slice_index, MatchOption}
use Rattle.un_isa.specs.declared.op.Op.{Op}
use Rattle.un_isa.specs.declared.op.TheConstants.{OPERATIONS}
use Rattle.un_isa.specs.Does.{is_compare}
use Rattle.un_isa.specs.Facts.{latency_by}
use Rattle.un_isa.specs.Fit.{IsFitLatency}
use Rattle.un_isa.specs.Tables.{number_of}
use Rattle.serde_json.specs.Data.{unsigned, Data, number, Members}
use Rattle.serde_json.specs.Find.{get_member}
use Rattle.un_target.specs.Names.{name_of}
use Rattle.un_target.specs.Parts.{Parts}

-- a number that is written as digits alone
abbrev pub IsNumber : Data → ℕ → Type 0
IsNumber d n = d ≡ number (unsigned n)

-- what the entries say of an operation; the latency on HEXAGON where they do not name it
abbrev pub HasLatency : Members → Op → ℕ → Type 0
HasLatency entries op n = MatchOption (get_member (name_of op) entries) (n ≡ latency_by op) (λ d. IsNumber d n)

-- it is as tables that fit want it
pub record IsLatency (p : Parts) (op : Op) (n : ℕ) : Type 0 where
  pub entered : HasLatency p.latency op n
  pub fit : IsFitLatency op n
  pub quick_compare : p.fresh ≡ true → is_compare op ≡ true → n ≡ 1

-- the latencies of all operations, by their numbers
pub record AreLatencies (p : Parts) (lat : List ℕ) : Type 0 where
  pub count : length lat ≡ OPERATIONS
  pub each : (op : Op) → IsLatency p op (slice_index lat (number_of op))
