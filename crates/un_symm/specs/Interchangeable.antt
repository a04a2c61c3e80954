-- Which registers are interchangeable in a model.
use Rattle.std.specs.Prelude.{ℕ, ◌≡◌, ◌<◌, Bool, false, ◌==◌, ◌||◌, List, All, map, length}
use Rattle.std.specs.List.{list_any, range_with_len}
use Rattle.un_base.specs.declared.ids.NameId.{NameId}
use Rattle.un_isa.specs.Registers.{space_of}
use Rattle.un_isa.specs.Tables.{in_mask}
use Rattle.un_isa.specs.declared.table.Table.{Table}
use Rattle.un_ir.specs.declared.extended.Operand.{Operand}
use Rattle.un_ir.specs.declared.extended.ExtOp.{ExtOp}
use Rattle.un_ir.specs.declared.extended.ExtBlock.{ExtBlock}
use Rattle.un_domains.specs.Domains.{values_of}
use Rattle.un_domains.specs.Sets.{Sets, set_at, has}
use Rattle.un_model.specs.declared.model.TempVars.{TempVars}
use Rattle.un_model.specs.declared.model.Model.{Model}
use Rattle.un_model.specs.Pairs.{any_from}
use Rattle.un_model.specs.Registers.{is_register, result_home}

-- ---- first domains

-- all values of each variable's domain
abbrev pub first_sets : Model → Sets
first_sets m = map values_of m.domains

-- whether variable v may have the value x
abbrev pub may_have : Model → ℕ → ℕ → Bool
may_have m v x = has (set_at (first_sets m) v) x

-- the register of a temporary may be both or neither
abbrev pub HasBothOrNeither : Model → ℕ → ℕ → TempVars → Type 0
HasBothOrNeither m a b t = may_have m t.reg.0 a ≡ may_have m t.reg.0 b

-- ---- homes

-- whether an operand of an operation has the home r
abbrev pub reads_home : ExtOp → ℕ → Bool
reads_home op r = list_any (λ (x : Operand). is_register x.home r) op.operands

-- whether a result of an operation has it, in a block that takes these names, which is the entry or another
abbrev pub gives_home : Table → Bool → List NameId → ExtOp → ℕ → Bool
gives_home t is_entry live_in op r =
    list_any (λ (j : ℕ). is_register (result_home t is_entry live_in op.kind j) r) (range_with_len 0 (length op.results))

abbrev pub is_home_at : Table → Bool → List NameId → ℕ → ExtOp → Bool
is_home_at t is_entry live_in r op = reads_home op r || gives_home t is_entry live_in op r

-- whether r is a home in block k
abbrev pub is_home_in_block : Table → ℕ → ℕ → ExtBlock → Bool
is_home_in_block t r k block = list_any (is_home_at t (k == 0) block.live_in r) block.ops

-- whether a value or an operand of a block has the home r
abbrev pub is_home_in : Model → ℕ → Bool
is_home_in m r = any_from (is_home_in_block m.ext.table r) 0 m.ext.blocks

-- ---- both

pub record AreInterchangeable (m : Model) (a b : ℕ) : Type 0 where
  pub nonzero : (0 < a) × (0 < b)
  pub domains : All (HasBothOrNeither m a b) m.temps
  pub homes : (is_home_in m a ≡ false) × (is_home_in m b ≡ false)
  pub kind : space_of a ≡ space_of b
  pub calls : in_mask m.ext.table.clobbered a ≡ in_mask m.ext.table.clobbered b
