-- A run so far.
use Rattle.std.proofs.Common.{ℕ, ◌≡◌, ◌≢◌, ◌<◌, ◌≤◌, ◌+◌, ◌*◌, ◌⊎◌, Bool, true, false, List, [], ◌∷◌, length, get_or, set, None, Some}
use Rattle.std.proofs.Common.{MatchOption, All, sym, ap, ◌∙◌, subst, arith, inl, inr}
use Rattle.std.specs.declared.option.Option.{Option}
use Rattle.std.specs.Bool.{⊤}
use Rattle.std.specs.List.{sum_by}
use Rattle.std.proofs.lemmas.List.{get_or-set_other, get_or_default, length-set}
use Rattle.std.proofs.lemmas.List.Sums.{sum_by-cons, sum_by-set}
use Rattle.std.proofs.Math.Nat.{mul-le-mul_right}
use Rattle.std.proofs.lemmas.List.Elements.{recursion_from_All, All-from_recursion, All-contains}
use Rattle.un_base.specs.declared.ids.VarId.{VarId}
use Rattle.un_domains.specs.Sets.{Sets, set_at, total, NoneEmpty}
use Rattle.un_domains.specs.SetLaws.{same_or_not}
use Rattle.un_prop.specs.Rounds.{HasVars, fix_of}
use Rattle.un_domains.specs.Order.{Below}
use Rattle.un_prop.specs.Lawful.{BelowOption, Lawful}
use Rattle.un_domains.specs.OrderLaws.{Below-refl, Below-trans, set_same}
use Rattle.un_prop.specs.Steps.{find_var}
use Rattle.un_prop.specs.Fixes.{Stable, order_free, stays_below}
use Rattle.un_prop.specs.Queues.{IsTable, IsReady, IsSizes, waits, flag, Grows, AllWait}
use Rattle.un_prop.specs.QueueLaws.{ready_after}

module _ {P : Type 0} (scope : P → List VarId) (cut : P → Sets → Option Sets) (lawful : (p : P) → Lawful (scope p) (cut p)) (ps : List P)
    (first : Sets) where
  -- no stable store is lost, and what does not wait leaves the store as it is
  pub record SoFar (s : Sets) (ws : List Bool) (sizes : List ℕ) : Type 0 where
    pub full : NoneEmpty s
    pub below : Below s first
    pub above : (u : Sets) → Below u first → NoneEmpty u → Stable cut ps u → Below u s
    pub ready : IsReady cut ps ws s
    pub flags : length ws ≡ length ps
    pub noted : IsSizes sizes s

  module _ (known : All (λ p. HasVars (scope p) first) ps) (full : NoneEmpty first) where
    known_now : (s : Sets) (ws : List Bool) (sizes : List ℕ) → SoFar s ws sizes → All (λ p. HasVars (scope p) s) ps
    known_now s ws sizes h i d lt k x below = rw h.below.long (known i d lt k x below)

    pub run_first : (s : Sets) (ws : List Bool) (sizes : List ℕ) → s ≡ first → IsReady cut ps ws first → length ws ≡ length ps
        → IsSizes sizes first → SoFar s ws sizes
    run_first s ws sizes e ready flags counted = record {
      full = subst NoneEmpty (sym e) full;
      below = subst (λ (t : Sets). Below t first) (sym e) (Below-refl first);
      above = λ u b fu stable. subst (Below u) (sym e) b;
      ready = subst (IsReady cut ps ws) (sym e) ready;
      flags = flags;
      noted = subst (IsSizes sizes) (sym e) counted;
    }

    -- where none waits, the run has ended
    pub run_ends : (s : Sets) (ws : List Bool) (sizes : List ℕ) → SoFar s ws sizes → ((i : ℕ) → waits ws i ≡ false)
        → fix_of cut ps first ≡ Some s
    run_ends s ws sizes h rests = order_free scope cut lawful ps first (Some s) (recursion_from_All _ _ known) full (record {
      below = h.below;
      full = h.full;
      stable = recursion_from_All (λ p. cut p s ≡ Some s) ps (λ i d lt. h.ready i d lt (rests i));
      greatest = h.above;
    })

    stable_at : (u : Sets) (i : ℕ) (p : P) → i < length ps → p ≡ get_or ps i p → Stable cut ps u → cut p u ≡ Some u
    stable_at u i p lt at stable = subst (λ (q : P). cut q u ≡ Some u) (sym at)
        (All-from_recursion (λ q. cut q u ≡ Some u) ps stable i p lt)

    module _ (s : Sets) (ws : List Bool) (sizes : List ℕ) (h : SoFar s ws sizes) (i : ℕ) (p : P) (lt : i < length ps)
        (at : p ≡ get_or ps i p) where
      known_at : HasVars (scope p) s
      known_at = subst (λ (q : P). HasVars (scope q) s) (sym at) (known_now s ws sizes h i p lt)

      pub run_long : (t : Sets) → cut p s ≡ Some t → (length t ≡ length s) × (length t ≡ length first) × HasVars (scope p) t
      run_long t e =
          let less : Below t s × NoneEmpty t = subst (λ (c : Option Sets). MatchOption c ⊤ (λ x. Below x s × NoneEmpty x)) e
          ((lawful p).shrinks s known_at h.full) in
          (less.0.long, less.0.long ∙ h.below.long, λ k d below. rw less.0.long (known_at k d below))

      -- where one fails, the rounds fail
      pub run_fails : cut p s ≡ None → fix_of cut ps first ≡ None
      run_fails e = order_free scope cut lawful ps first None (recursion_from_All _ _ known) full
          (λ u b fu stable. subst (BelowOption (Some u)) e (stays_below scope cut lawful p u s known_at fu h.full (h.above u b fu stable)
          (stable_at u i p lt at stable)))

      -- one that changed nothing waits no more
      pub run_same : (t : Sets) → cut p s ≡ Some t → t ≡ s → SoFar t (set ws i false) sizes
      run_same t e same = record {
        full = subst NoneEmpty (sym same) h.full;
        below = subst (λ (x : Sets). Below x first) (sym same) h.below;
        above = λ u b fu stable. subst (Below u) (sym same) (h.above u b fu stable);
        ready = subst (IsReady cut ps (set ws i false)) (sym same) (λ j d below rests. elim (same_or_not j i) [
          | inl is ↦ subst (λ (k : ℕ). cut (get_or ps k d) s ≡ Some s) (sym is)
              (subst (λ (q : P). cut q s ≡ Some s) (at ∙ get_or_default ps i p d lt) (e ∙ ap (λ (x : Sets). Some x) same))
          | inr ne ↦ h.ready j d below (sym (get_or-set_other ws i j false false ne) ∙ rests)
        ]);
        flags = length-set ws i false ∙ h.flags;
        noted = subst (IsSizes sizes) (sym same) h.noted;
      }

      -- after one that changed something, those wait that read what changed
      pub run_tighter : (t : Sets) (table : Sets) (vs : List VarId) (ws' : List Bool) (sizes' : List ℕ) → cut p s ≡ Some t
          → IsTable scope ps (length first) table → vs ≡ scope p → length ws' ≡ length ws → length sizes' ≡ length sizes → Grows ws ws'
          → All (λ v. get_or sizes' v.0 0 ≡ length (set_at t v.0)) vs
          → ((w : ℕ) → All (λ v. (w ≡ v.0) → ⊥) vs → get_or sizes' w 0 ≡ get_or sizes w 0)
          → ((w : ℕ) → (get_or sizes' w 0 ≡ get_or sizes w 0) ⊎ AllWait table ws' w)
          → SoFar t ws' sizes'
      run_tighter t table vs ws' sizes' e tab is flags long grows counted others woken = record {
        full = less.1;
        below = Below-trans t s first less.0 h.below;
        above = λ u b fu stable. subst (BelowOption (Some u)) e (stays_below scope cut lawful p u s known_at fu h.full
            (h.above u b fu stable) (stable_at u i p lt at stable));
        ready = ready_after scope cut lawful ps (length first) table ws ws' s t tab (known_now s ws sizes h) h.full less.1 less.0.long
            (λ v below. elim (woken v) [
              | inl same ↦ inl (sym (set_same t s v less.0 (sym (noted_all v (omega (arith, below, less.0.long)))
                  ∙ (same ∙ h.noted.each v below))))
              | inr all ↦ inr all
            ]) grows h.ready;
        flags = flags ∙ h.flags;
        noted = record { long = long ∙ (h.noted.long ∙ sym less.0.long); each = noted_all };
      }
        where
          less : Below t s × NoneEmpty t
          less = subst (λ (c : Option Sets). MatchOption c ⊤ (λ x. Below x s × NoneEmpty x)) e ((lawful p).shrinks s known_at h.full)

          noted_all : (v : ℕ) → v < length t → get_or sizes' v 0 ≡ length (set_at t v)
          noted_all v below = elim (find_var vs v) [
            | inl there ↦ subst (λ (w : ℕ). get_or sizes' w 0 ≡ length (set_at t w)) (sym there.2)
                (All-contains (λ u. get_or sizes' u.0 0 ≡ length (set_at t u.0)) vs there.0 counted there.1)
            | inr all ↦ others v (All-from_recursion (λ u. v ≢ u.0) vs all)
                ∙ (h.noted.each v (omega (arith, below, less.0.long))
                ∙ ap length (sym (subst (λ (c : Option Sets). MatchOption c ⊤ (λ x. set_at x v ≡ set_at s v)) e
                ((lawful p).outside s v (subst (λ (us : List VarId). All (λ u. v ≢ u.0) us) is
                (All-from_recursion (λ u. v ≢ u.0) vs all))))))
          ]

-- the measure: values, and then flags
abbrev pub work : ℕ → Sets → List Bool → ℕ
work n s ws = total s * (n + 1) + sum_by flag ws

flag-le : (b : Bool) → flag b ≤ 1
flag-le true = omega arith
flag-le false = omega arith

pub flags-le : (ws : List Bool) → sum_by flag ws ≤ length ws
flags-le [] = omega arith
flags-le (w ∷ ws) = omega (arith, sum_by-cons flag w ws, flags-le ws, flag-le w)

-- fewer values are less work, however many wait
pub less_work : (n : ℕ) (t s : Sets) (ws ws' : List Bool) → total t < total s → length ws' ≡ n → work n t ws' < work n s ws
less_work n t s ws ws' lt e = let more : (total t + 1) * (n + 1) ≤ total s * (n + 1) = mul-le-mul_right (n + 1) (omega (arith, lt)) in
    omega (arith, more, flags-le ws', e)

-- and as many values with a flag less are
pub one_less : (n : ℕ) (t s : Sets) (ws : List Bool) (i : ℕ) → t ≡ s → i < length ws → waits ws i ≡ true
    → work n t (set ws i false) < work n s ws
one_less n t s ws i e lt is = subst (λ (x : Sets). work n x (set ws i false) < work n s ws) (sym e)
    (let sums : sum_by flag (set ws i false) + 1 ≡ sum_by flag ws + 0 =
    subst (λ (b : Bool). sum_by flag (set ws i false) + flag b ≡ sum_by flag ws + 0) is (sum_by-set flag ws i false false lt) in
    omega (arith, sums))
