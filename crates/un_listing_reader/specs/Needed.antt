-- Lists of registers.
use Rattle.std.specs.Prelude.{ℕ, ◌+◌, ◌==◌, ◌&&◌, Bool, true, not, List, [], ◌∷◌}
use Rattle.std.specs.List.{list_any}
use Rattle.un_isa.specs.declared.reg.Reg.{Reg}

-- the registers have the numbers from k on
abbrev pub counts_from : ℕ → List Reg → Bool
counts_from k [] = true
counts_from k (r ∷ rs) = r.0 == k && counts_from (k + 1) rs

-- no number is there twice
abbrev pub is_distinct : List ℕ → Bool
is_distinct [] = true
is_distinct (n ∷ ns) = not (list_any (λ m. m == n) ns) && is_distinct ns
