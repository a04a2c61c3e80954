-- The greatest of several numbers, as a loop over a list finds it.
use Rattle.std.proofs.Common.{ℕ, ◌≡◌, ◌<◌, ◌+◌, cond, List, map, drop, max, sym, ap, ◌∙◌, arith}
use Rattle.std.specs.Prelude.{Some, fold, slice_get}
use Rattle.std.specs.Cmp.{ranks}
use Rattle.std.specs.Ordering.{nat_cmp, is_lt, ord_max, MatchOrdering}
use Rattle.std.specs.declared.cmp.Ordering.{Ordering}
use Rattle.std.specs.declared.cmp.Ordering.TheVariants.{Less, Equal, Greater}
use Rattle.un_model.proofs.Steps.{drop_at}

pub greatest_more : {A : Type 0} (f : A → ℕ) (i most next whole : ℕ) (xs : List A) (x : A) → fold max most (map f (drop i xs)) ≡ whole
    → slice_get xs i ≡ Some x → next ≡ max most (f x) → fold max next (map f (drop (i + 1) xs)) ≡ whole
greatest_more f i most next whole xs x h g e =
    ap (λ (m : ℕ). fold max m (map f (drop (i + 1) xs))) e
    ∙ sym (ap (λ ys. fold max most (map f ys)) (drop_at xs i x g)) ∙ h

-- the greater of two numbers, as the code finds it
pub greater_is : (a b : ℕ) → ord_max nat_cmp a b ≡ max a b
greater_is a b = by (nat_cmp b a) (ranks b a)
  where
    by : (o : Ordering) → MatchOrdering o (b < a) (b ≡ a) (a < b) → cond (is_lt o) a b ≡ max a b
    by Less h = omega (arith, h)
    by Equal h = omega (arith, h)
    by Greater h = omega (arith, h)
