-- What a merge is of a small block: three operations, of which the second has no cycle, and the end.
use Rattle.std.proofs.Common.{◌≡◌, ℕ, List, [], ◌∷◌, Some, None, refl}
use Rattle.un_model.specs.declared.model.OpVars.{OpVars}
use Rattle.un_model.specs.declared.model.BlockVars.{BlockVars}
use Rattle.un_model.specs.declared.model.Solution.{Solution}
use Rattle.un_merges.specs.Merges.{merged}

abbrev issued : ℕ → OpVars
issued k = record { instr = None; cycle = Some (record { 0 = k }); choices = [] }

abbrev chosen : OpVars
chosen = record { instr = None; cycle = None; choices = (record { 0 = 1 }) ∷ [] }

abbrev small : BlockVars
small = record { ops = issued 0 ∷ chosen ∷ issued 2 ∷ []; end = record { 0 = 3 } }

abbrev pub with_values : List ℕ → Solution
with_values values = record { values = values }

-- the cycle 3 and the end 4 fall; the choice 7, the cycle 1 and what is no variable of the block stay
merge_pin : merged small 2 (with_values (1 ∷ 7 ∷ 3 ∷ 4 ∷ 9 ∷ [])) ≡ with_values (1 ∷ 7 ∷ 2 ∷ 3 ∷ 9 ∷ [])
unfolding merged
merge_pin = refl

-- a cycle that is t stays
least_pin : merged small 1 (with_values (1 ∷ 7 ∷ 3 ∷ 4 ∷ 9 ∷ [])) ≡ with_values (1 ∷ 7 ∷ 2 ∷ 3 ∷ 9 ∷ [])
unfolding merged
least_pin = refl
