-- the marks say which variables are registers of the temporaries so far
use Rattle.std.proofs.Common.{◌≡◌, ℕ, ◌<◌, false, length, take}
use Rattle.std.specs.Prelude.{slice_index_or}
use Rattle.un_symm.specs.Exchanges.{is_register_of}
use Rattle.un_mirrors.proofs.registers.registers_of.Given as goal

abbrev pub invariant-loop-t : goal.invariant-loop-t
invariant-loop-t l = record {
  long : length l.marks.items ≡ length l.m.domains;
  each : (v : ℕ) → v < length l.m.domains → slice_index_or l.marks.items v false ≡ is_register_of (take l.t-index l.m.temps) v;
}
