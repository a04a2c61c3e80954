-- The least of a cost and of the least costs in the open leaves' boxes.
use Rattle.std.proofs.Common.{ℕ, ◌≡◌, ◌≢◌, ◌≤◌, List, All, min, inl, inr, refl, sym, subst, arith}
use Rattle.std.proofs.lemmas.Bool.{cases_lt}
use Rattle.std.proofs.lemmas.List.Elements.{All-contains, All-weaker}
use Rattle.un_model.specs.declared.model.Model.{Model}
use Rattle.un_bound.specs.Relaxations.{IsLeast}
use Rattle.un_tree.specs.Searched.{HasAtLeast, HasLeast, IsLowest}
use Rattle.un_tree.specs.Waits.{Waiting, Whole, Begins, Inside, Visit}
use Rattle.un_tree.specs.declared.node.Node.{Node}
use Rattle.un_tree.specs.declared.node.Node.TheVariants.{Branch, Closed, Open, Split, Part}
use Rattle.un_certificate.proofs.Numbers.{plain_one}
use Rattle.un_certificate.specs.Bounds.{IsBound, IsLowestUnder}

pub lower : (m : Model) (low k : ℕ) (n : Node) (w : Waiting) → low ≤ k → HasAtLeast (IsLeast m) k n w → HasAtLeast (IsLeast m) low n w
lower m low k (Branch v x) w le h = tt
lower m low k Closed w le h = tt
lower m low k Open (Whole b) le h = λ l is. (let e = h l is in omega (arith, e, le))
lower m low k Open (Begins j b) le h = tt
lower m low k Open (Inside j number b) le h = tt
lower m low k Split w le h = tt
lower m low k (Part number) w le h = tt

pub other_least : (m : Model) (low : ℕ) (n : Node) (w : Waiting) → n ≢ Open → HasAtLeast (IsLeast m) low n w
other_least m low (Branch v x) w never = tt
other_least m low Closed w never = tt
other_least m low Open w never = absurd (never refl)
other_least m low Split w never = tt
other_least m low (Part number) w never = tt

all_lower : (m : Model) (low k : ℕ) (ps : List Visit) → low ≤ k → All (λ (p : Visit). HasAtLeast (IsLeast m) k p.node p.waiting) ps
    → All (λ (p : Visit). HasAtLeast (IsLeast m) low p.node p.waiting) ps
all_lower m low k ps le h =
    All-weaker (λ (p : Visit). HasAtLeast (IsLeast m) k p.node p.waiting) (λ (p : Visit). HasAtLeast (IsLeast m) low p.node p.waiting)
    (λ p at. lower m low k p.node p.waiting le at) ps h

-- it is the cost where no leaf is open
pub lowest_none : (m : Model) (c : ℕ) (ps : List Visit) → All (λ (p : Visit). p.node ≢ Open) ps → IsLowestUnder m c ps c
lowest_none m c ps h = record {
  within = omega arith;
  below = All-weaker (λ (p : Visit). p.node ≢ Open) (λ (p : Visit). HasAtLeast (IsLeast m) c p.node p.waiting)
      (λ p never. other_least m c p.node p.waiting never) ps h;
  reached = inl refl;
}

pub lowest_some : (m : Model) (c low : ℕ) (ps : List Visit) → IsLowest (IsLeast m) ps low → IsLowestUnder m c ps (min c low)
lowest_some m c low ps h = elim (cases_lt low c) [
  | inl less ↦ (let e : min c low ≡ low = omega (arith, less) in record {
    within = omega (arith, less, e);
    below = all_lower m (min c low) low ps (omega (arith, e)) h.below;
    reached = inr (h.leaf, h.there, subst (λ (k : ℕ). HasLeast (IsLeast m) k h.leaf.node h.leaf.waiting) (sym e) h.has);
  })
  | inr ge ↦ (let e : min c low ≡ c = omega (arith, ge) in record {
    within = omega (arith, e);
    below = all_lower m (min c low) low ps (omega (arith, ge, e)) h.below;
    reached = inl e;
  })
]

below_least : (m : Model) (a b : ℕ) (n : Node) (w : Waiting) → HasAtLeast (IsLeast m) a n w → HasLeast (IsLeast m) b n w → a ≤ b
below_least m a b (Branch v x) w h k = absurd k
below_least m a b Closed w h k = absurd k
below_least m a b Open (Whole box) h k = h b k
below_least m a b Open (Begins j box) h k = absurd k
below_least m a b Open (Inside j number box) h k = absurd k
below_least m a b Split w h k = absurd k
below_least m a b (Part number) w h k = absurd k

lowest_below : (m : Model) (c a b : ℕ) (ps : List Visit) → IsLowestUnder m c ps a → IsLowestUnder m c ps b → a ≤ b
lowest_below m c a b ps x y = elim y.reached [
  | inl is ↦ (let le = x.within in omega (arith, le, is))
  | inr leaf ↦ below_least m a b leaf.0.node leaf.0.waiting
      (All-contains (λ (p : Visit). HasAtLeast (IsLeast m) a p.node p.waiting) ps leaf.0 x.below leaf.1) leaf.2
]

-- a tree has one bound
pub bound_one : (m : Model) (c : ℕ) (ps : List Visit) (a b : ℕ) → IsBound m c ps a → IsBound m c ps b → a ≡ b
bound_one m c ps a b x y =
    let plain = plain_one m x.plain y.plain x.is_plain y.is_plain in
    let le = lowest_below m c x.low y.low ps x.is_lowest y.is_lowest in
    let ge = lowest_below m c y.low x.low ps y.is_lowest x.is_lowest in
    let e = x.greatest in
    let f = y.greatest in
    omega (arith, plain, le, ge, e, f)
