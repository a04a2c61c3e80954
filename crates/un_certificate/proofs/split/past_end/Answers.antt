use Rattle.std.proofs.Common.{ℕ, zero, suc, ◌≡◌, ◌<◌, ◌≤◌, ◌∙◌, List, [], ◌∷◌, None, Some, length, get_or, refl, ap, sym, arith}
use Rattle.std.specs.Prelude.{slice_get}
use Rattle.un_model.specs.declared.model.BlockVars.{BlockVars}
use Rattle.un_certificate.specs.Joints.{past_end}
use Rattle.un_certificate.proofs.split.past_end.Goals as goal

none_at : (bs : List BlockVars) (k : ℕ) → length bs ≤ k → slice_get bs k ≡ None
none_at [] k le = refl
none_at (b ∷ bs) zero le = absurd (omega (arith, le))
none_at (b ∷ bs) (suc k) le = none_at bs k (omega (arith, le))

some_at : (bs : List BlockVars) (k : ℕ) (v : BlockVars) → k < length bs → v ≡ get_or bs k v → slice_get bs k ≡ Some v
some_at [] k v lt e = absurd (omega (arith, lt))
some_at (b ∷ bs) zero v lt e = ap Some (sym e)
some_at (b ∷ bs) (suc k) v lt e = some_at bs k v (omega (arith, lt)) e

pub returns-in-None : goal.returns-in-None
returns-in-None c = ap past_end (sym (none_at c.args.blocks.now c.args.k c.in-None.ensures.lookup.3))

pub returns-in-Some : goal.returns-in-Some
returns-in-Some c = c.next_to.ensures
    ∙ ap past_end (sym (some_at c.args.blocks.now c.args.k c.in-Some.vars.now c.in-Some.ensures.lookup.3.0 c.in-Some.ensures.lookup.1))
