-- Laws of predicates of one part, whose cut ends in the check of the last variable.
use Rattle.std.proofs.Common.{ℕ, zero, suc, ◌≡◌, ◌≢◌, Bool, true, false, ◌&&◌, List, [], ◌∷◌, length, get_or, None, Some}
use Rattle.std.proofs.Common.{option_and_then, MatchOption, All, refl, sym, ap, ◌∙◌, subst, arith}
use Rattle.std.specs.declared.option.Option.{Option}
use Rattle.std.specs.Bool.{⊤}
use Rattle.std.specs.List.{Contains}
use Rattle.un_base.specs.declared.ids.VarId.{VarId}
use Rattle.un_domains.specs.Sets.{Sets, set_at, IsIn, NoneEmpty, Kept}
use Rattle.un_domains.specs.Order.{Below}
use Rattle.un_domains.specs.OrderLaws.{single_below, Below-same}
use Rattle.un_domains.specs.Cuts.{Contents}
use Rattle.un_prop.specs.Pruning.{IsPrune}
use Rattle.un_prop.specs.Going.{Goes}
use Rattle.un_prop.specs.GoingLaws.{starts}
use Rattle.un_prop.specs.declared.propagator.Pruned.{Pruned}
use Rattle.un_prop.specs.declared.propagator.Pruned.TheVariants.{Same}
use Rattle.un_prop.specs.Rounds.{HasVars}
use Rattle.un_prop.specs.Parts.{Part, all_meet, SameAt, ChecksForward}
use Rattle.un_prop.specs.Lawful.{Lawful}
use Rattle.un_prop.specs.Steps.{lawful_then}
use Rattle.un_prop.specs.Last.{last_cut}
use Rattle.un_prop.specs.LastLaws.{Ascend, last_lawful, last_keeps, last_forward}

-- the one part of a predicate
abbrev pub one_part : List VarId → (List ℕ → Bool) → List Part
one_part vs t = record { vars = vs; meets = t } ∷ []

pub one_whole : (vs : List VarId) (t : List ℕ → Bool) (x : List ℕ) → t x ≡ all_meet (one_part vs t) x
one_whole vs t x = sym (and_true_right (t x))
  where
    and_true_right : (b : Bool) → (b && true) ≡ b
    and_true_right true = refl
    and_true_right false = refl

pub only_part : (q p : Part) → Contains (q ∷ []) p → q ≡ p
only_part q p (zero, lt, e) = e
only_part q p (suc i, lt, e) = absurd (omega (arith, lt))

module _ (vs : List VarId) (t : List ℕ → Bool) (looks : (x y : List ℕ) → SameAt vs x y → t x ≡ t y) (ascend : Ascend vs) where
  pub forward_one : (part : Part) → Contains (one_part vs t) part → ChecksForward part vs (last_cut vs t)
  forward_one part there = subst (λ (p : Part). ChecksForward p vs (last_cut vs t)) (only_part (record { vars = vs; meets = t }) part there)
      (λ s u v x k full grounded one is inside. last_forward vs t looks s u v x ascend (λ none. grounded none x) k full one is inside)

  -- a cut, and then the check
  module _ (f : Sets → Option Sets) (lawful : Lawful vs f) where
    pub lawful_checked : Lawful vs (λ s. option_and_then (last_cut vs t) (f s))
    lawful_checked = lawful_then vs f (last_cut vs t) lawful (last_lawful vs t looks)

    pub keeps_checked : (s : Sets) (x : List ℕ) → HasVars vs s → Kept x (f s) → length x ≡ length s → t x ≡ true
        → Kept x (option_and_then (last_cut vs t) (f s))
    keeps_checked s x k kept long holds = by (f s) kept
      where
        by : (c : Option Sets) → Kept x c → Kept x (option_and_then (last_cut vs t) c)
        by None h = absurd h
        by (Some m) h = last_keeps vs t looks m x (λ i d lt. (let below = k i d lt in let e = h.long in omega (arith, below, e, long))) h
            holds

    pub forward_checked : (part : Part) → Contains (one_part vs t) part → ChecksForward part vs (λ s. option_and_then (last_cut vs t) (f s))
    forward_checked part there = subst (λ (p : Part). ChecksForward p vs (λ s. option_and_then (last_cut vs t) (f s)))
        (only_part (record { vars = vs; meets = t }) part there)
        (λ s u v x k full grounded one is inside. by s u v x k full grounded one inside (f s) (lawful.shrinks s k full) is)
      where
        by : (s u : Sets) (v : ℕ) (x : List ℕ) → HasVars vs s → NoneEmpty s → (length vs ≡ 0 → (y : List ℕ) → t y ≡ true)
            → All (λ w. w.0 ≢ v → length (set_at s w.0) ≡ 1) vs → IsIn x u → (c : Option Sets)
            → MatchOption c ⊤ (λ m. Below m s × NoneEmpty m)
            → option_and_then (last_cut vs t) c ≡ Some u → t x ≡ true
        by s u v x k full grounded one inside None h is = absurd (cc is)
        by s u v x k full grounded one inside (Some m) h is =
            let km : HasVars vs m = λ i d lt. rw h.0.long (k i d lt) in
            last_forward vs t looks m u v x ascend (λ none. grounded none x) km h.1
            (λ i d lt ne. ap length (single_below m s (get_or vs i d).0 h.0 (h.1 (get_or vs i d).0 (km i d lt)) (one i d lt ne))
            ∙ one i d lt ne) is inside

  -- what stays through both stays through the first
  pub stable_first : (f : Sets → Option Sets) → Lawful vs f → (s : Sets) → HasVars vs s → NoneEmpty s
      → option_and_then (last_cut vs t) (f s) ≡ Some s → f s ≡ Some s
  stable_first f lawful s k full e = by (f s) (lawful.shrinks s k full) e
    where
      by : (c : Option Sets) → MatchOption c ⊤ (λ m. Below m s × NoneEmpty m) → option_and_then (last_cut vs t) c ≡ Some s → c ≡ Some s
      by None h is = absurd (cc is)
      by (Some m) h is =
          let km : HasVars vs m = λ i d lt. rw h.0.long (k i d lt) in
          let down : Below s m = (let less = (last_lawful vs t looks).shrinks m km h.1 in
          (subst (λ (c : Option Sets). MatchOption c ⊤ (λ u. Below u m × NoneEmpty u)) is less).0) in
          ap (λ (u : Sets). Some u) (Below-same m s h.0 down)

-- a pruning that is the check alone, or some steps and then the check
pub checked : (vs us : List VarId) (f : Sets → Option Sets) (old new : Contents) (answer : Pruned) → vs ≡ us → NoneEmpty old.sets
    → Goes vs f old new Same answer
    → IsPrune us (f old.sets) old new answer
checked vs us f old new answer e live goes = subst (λ (ws : List VarId). IsPrune ws (f old.sets) old new answer) e
    (goes (Some old.sets) old (starts vs old live))
