-- What a test of mirrors looks at: which variables are registers, and which decisions the values of a box pass.
use Rattle.std.specs.Prelude.{ℕ, ◌≡◌, ◌<◌, true, false, List, length, slice_index_or}
use Rattle.un_domains.specs.Sets.{Sets, set_at, has}
use Rattle.un_domains.specs.Sides.{side_test}
use Rattle.un_domains.specs.declared.side.Side.TheVariants.{AtMost}
use Rattle.un_model.specs.declared.model.Model.{Model}
use Rattle.un_model.specs.declared.model.TempVars.{TempVars}
use Rattle.un_tree.specs.declared.node.Decision.{Decision}
use Rattle.un_symm.specs.Exchanges.{is_register_of, exchanged_at}
use Rattle.un_mirrors.specs.declared.registers.Registers.{Registers}

-- the mark of each variable says whether it is the register of a temporary
pub record AreRegisters (m : Model) (r : Registers) : Type 0 where
  pub long : length r.marks.items ≡ length m.domains
  pub each : (v : ℕ) → v < length m.domains → slice_index_or r.marks.items v false ≡ is_register_of m.temps v

-- the decision for the left side, where one was taken for the right one
abbrev pub left_of : Decision → Decision
left_of d = record { var = d.var; val = d.val; side = AtMost }

-- each value that a decision's variable has in a box is on its side
abbrev pub Passes : Sets → Decision → Type 0
Passes box d = (x : ℕ) → has (set_at box d.var.0) x ≡ true → side_test d.side d.val x ≡ true

-- it is, with the registers a and b exchanged
abbrev pub PassesExchanged : List TempVars → ℕ → ℕ → Sets → Decision → Type 0
PassesExchanged temps a b box d = (x : ℕ) → has (set_at box d.var.0) x ≡ true
    → side_test d.side d.val (exchanged_at temps a b d.var.0 x) ≡ true
