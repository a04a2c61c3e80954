-- those so far are entered
use Rattle.std.proofs.Common.{◌≡◌, ℕ, ◌<◌, ◌⊎◌, true, length, get_or}
use Rattle.un_base.specs.declared.ids.VarId.{VarId}
use Rattle.un_domains.specs.Sets.{set_at, has}
use Rattle.un_prop.proofs.readers.enter.Given as goal

abbrev pub invariant-loop-v : goal.invariant-loop-v
invariant-loop-v l = record {
  long : length l.rows.items ≡ length l.initial.rows.items;
  there : (k : ℕ) (d : VarId) → k < l.v-index → has (set_at l.rows.items (get_or l.vars k d).0) l.i ≡ true;
  grows : (v j : ℕ) → has (set_at l.initial.rows.items v) j ≡ true → has (set_at l.rows.items v) j ≡ true;
  alone : (v j : ℕ) → has (set_at l.rows.items v) j ≡ true → (has (set_at l.initial.rows.items v) j ≡ true) ⊎ (j ≡ l.i);
}
