-- Functions with equal parts are equal: what a function keeps holds in one way.
use Rattle.std.proofs.Common.{◌≡◌, ℕ, List, ap, subst}
use Rattle.std.proofs.Math.Logic.{∥∥₁_prop}
use Rattle.un_base.specs.declared.ids.NameId.{NameId}
use Rattle.un_ir.specs.declared.function.Block.{Block}
use Rattle.un_ir.specs.declared.function.Function.{Function}
use Rattle.un_ir.specs.WellFormed.{Names, IsWellFormed}

-- it is kept by these parts
abbrev Keeps : List ℕ → List NameId → Names → List Block → Type 0
Keeps name params names blocks = ∥ IsWellFormed name params names blocks ∥₁

abbrev made : (name : List ℕ) (params : List NameId) (names : Names) (blocks : List Block) → Keeps name params names blocks → Function
made name params names blocks kept = record { name = name; params = params; names = names; blocks = blocks; well_formed = kept }

-- one function is made of the parts, and another of equal ones
same_made : (name : List ℕ) (params : List NameId) (names : Names) (blocks : List Block) (name' : List ℕ) (params' : List NameId)
    (names' : Names) (blocks' : List Block)
    → name ≡ name' → params ≡ params' → names ≡ names' → blocks ≡ blocks'
    → (kept : Keeps name params names blocks) (kept' : Keeps name' params' names' blocks')
    → made name params names blocks kept ≡ made name' params' names' blocks' kept'
same_made name params names blocks name' params' names' blocks' n p m b kept =
    subst (λ (x : List ℕ). (k : Keeps x params' names' blocks') → made name params names blocks kept ≡ made x params' names' blocks' k) n
    (subst (λ (x : List NameId). (k : Keeps name x names' blocks') → made name params names blocks kept ≡ made name x names' blocks' k) p
    (subst (λ (x : Names). (k : Keeps name params x blocks') → made name params names blocks kept ≡ made name params x blocks' k) m
    (subst (λ (x : List Block). (k : Keeps name params names x) → made name params names blocks kept ≡ made name params names x k) b
    (λ k. ap (made name params names blocks) (∥∥₁_prop kept k)))))

pub same_function : (f g : Function) → f.name ≡ g.name → f.params ≡ g.params → f.names ≡ g.names → f.blocks ≡ g.blocks → f ≡ g
same_function f g n p m b = same_made f.name f.params f.names f.blocks g.name g.params g.names g.blocks n p m b f.well_formed g.well_formed
