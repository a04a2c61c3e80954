-- Lists read with the places of their items, and two lists read together.
use Rattle.std.specs.Prelude.{ℕ, ◌+◌, Bool, false, ◌||◌, List, [], ◌∷◌, ◌++◌, length}
use Rattle.un_ir.specs.declared.extended.ExtBlock.{ExtBlock}
use Rattle.un_model.specs.declared.model.BlockVars.{BlockVars}

-- what f gives at each place, counted from i
abbrev pub places_from : {A B : Type 0} → (ℕ → A → B) → ℕ → List A → List B
places_from f i [] = []
places_from f i (x ∷ xs) = f i x ∷ places_from f (i + 1) xs

-- whether some place, counted from i, passes
abbrev pub any_from : {A : Type 0} → (ℕ → A → Bool) → ℕ → List A → Bool
any_from p i [] = false
any_from p i (x ∷ xs) = p i x || any_from p (i + 1) xs

-- what f gives at each place, counted from i, of two lists
abbrev pub pairs_from : {A B C : Type 0} → (ℕ → A → B → C) → ℕ → List A → List B → List C
pairs_from f i [] ys = []
pairs_from f i (x ∷ xs) [] = []
pairs_from f i (x ∷ xs) (y ∷ ys) = f i x y ∷ pairs_from f (i + 1) xs ys

-- several lists, one after another
abbrev pub joined : {A : Type 0} → List (List A) → List A
joined [] = []
joined (xs ∷ xss) = xs ++ joined xss

-- what f gives of each block with its variables, one after another. f is given the number of the block, counted from b, and
-- that of its first operation, counted from n.
abbrev pub over_blocks : {A : Type 0} → (ℕ → ℕ → ExtBlock → BlockVars → List A) → ℕ → ℕ → List ExtBlock → List BlockVars → List A
over_blocks f b n [] vars = []
over_blocks f b n (block ∷ blocks) [] = []
over_blocks f b n (block ∷ blocks) (vars ∷ more) = f b n block vars ++ over_blocks f (b + 1) (n + length block.ops) blocks more
