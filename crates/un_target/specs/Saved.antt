-- The saved registers of the text of a table.
use Rattle.std.specs.Prelude.{ℕ, ◌≡◌, ◌<◌, ◌^◌, ◌↔◌, List, map, true, All, Contains}
use Rattle.std.specs.List.Sorted.{IsStrictlyIncreasing}
use Rattle.un_isa.specs.declared.reg.TheConstants.{REGISTERS}
use Rattle.un_isa.specs.Fit.{may_be_saved}
use Rattle.un_isa.specs.Hexagon.{is_saved}
use Rattle.un_isa.specs.Tables.{in_mask}
use Rattle.serde_json.specs.Data.{unsigned, number, Items}
use Rattle.serde_json.specs.View.{items_of}

-- numbers, each written as digits alone
abbrev pub numbers : List ℕ → Items
numbers ns = items_of (map (λ n. number (unsigned n)) ns)

-- the mask has the registers that are listed
pub record IsMaskOf (registers : List ℕ) (mask : ℕ) : Type 0 where
  pub bits : (r : ℕ) → r < REGISTERS → (in_mask mask r ≡ true) ↔ Contains registers r
  pub small : mask < 2 ^ REGISTERS

-- The items are registers that rise, as tables that fit want them: r16 to r27 are among them, and each other may be saved. The
-- mask is theirs.
pub record AreSaved (items : Items) (mask : ℕ) : Type 0 where
  pub registers : List ℕ
  pub listed : items ≡ numbers registers
  pub rising : IsStrictlyIncreasing registers
  pub kept : (r : ℕ) → is_saved r ≡ true → Contains registers r
  pub allowed : All (λ r. may_be_saved r ≡ true) registers
  pub masked : IsMaskOf registers mask
