-- Steps of a round, and of rounds.
use Rattle.std.proofs.Common.{ℕ, suc, ◌≡◌, ◌≢◌, ◌<◌, ◌≤◌, ◌+◌, Bool, true, false, List, ◌∷◌, length, get_or, drop, drop-cons, add-one}
use Rattle.std.proofs.Common.{None, Some, option_and_then, MatchOption, All, refl, sym, ap, ◌∙◌, subst, arith}
use Rattle.std.proofs.lemmas.List.{drop_all}
use Rattle.std.specs.declared.option.Option.{Option}
use Rattle.std.specs.Bool.{MatchBool, ⊤}
use Rattle.std.specs.List.{AllByRecursion}
use Rattle.un_base.specs.declared.ids.VarId.{VarId}
use Rattle.un_domains.specs.Sets.{Sets, NoneEmpty, IsIn, Kept, total}
use Rattle.un_domains.specs.Cuts.{Contents}
use Rattle.un_domains.specs.Order.{Below}
use Rattle.un_domains.specs.OrderLaws.{Below-trans, total_below}
use Rattle.un_prop.specs.Rounds.{round, fix_of, HasVars}
use Rattle.un_prop.specs.KeepLaws.{round_kept}
use Rattle.un_prop.specs.Lawful.{Lawful}
use Rattle.un_prop.specs.Fixes.{Known, known_long, Shrunk, round_shrunk, round_next}
use Rattle.un_prop.specs.Pruning.{IsPrune, Answers, Ends, HasRoom}
use Rattle.un_prop.specs.declared.propagator.Scratch.{Scratch}
use Rattle.un_prop.specs.declared.propagator.Pruned.{Pruned}
use Rattle.un_prop.specs.declared.propagator.Pruned.TheVariants.{Same, Tighter, Failed}

-- an answer other than Failed leaves what the cut leaves
pub left_of : (c : Option Sets) (old new : Sets) (answer : Pruned) → Ends c old new answer → answer ≢ Failed
    → (c ≡ Some new) × NoneEmpty new × Answers answer old new
left_of None old new answer h other = absurd (other h.0)
left_of (Some left) old new answer h other = (
  ap (λ (s : Sets). Some s) (sym h.sets),
  subst NoneEmpty (sym h.sets) h.live,
  subst (Answers answer old) (sym h.sets) h.answers,
)

-- where the answer is Failed, the cut leaves nothing
pub none_of : (c : Option Sets) (old new : Sets) → Ends c old new Failed → (c ≡ None) × (NoneEmpty new → ⊥)
none_of None old new h = (refl, h.1)
none_of (Some left) old new h = absurd h.answers

-- what a propagator reads is there while no variable goes
pub item_known : {P : Type 0} (scope : P → List VarId) (ps : List P) (i : ℕ) (p : P) (first s : Sets)
    → All (λ q. HasVars (scope q) first) ps
    → i < length ps → p ≡ get_or ps i p → length s ≡ length first → HasVars (scope p) s
item_known scope ps i p first s all below at long =
    let here : HasVars (scope p) first = subst (λ q. HasVars (scope q) first) (sym at) (all i p below) in
    λ k d lt. rw long (here k d lt)

module _ {P : Type 0} (scope : P → List VarId) (cut : P → Sets → Option Sets) (lawful : (p : P) → Lawful (scope p) (cut p)) where
  module _ (ps : List P) (first : Contents) where
    -- a round so far: what is left of it does to these sets what the whole does to the first
    pub record SoFar (i : ℕ) (s : Contents) (changed : Bool) : Type 0 where
      pub rest : round cut (drop i ps) s.sets ≡ round cut ps first.sets
      pub full : NoneEmpty s.sets
      pub below : Below s.sets first.sets
      pub marked : s.marked ≡ first.marked
      pub so_far : MatchBool changed (total s.sets < total first.sets) (s.sets ≡ first.sets)

    -- the rest of a round after the propagator at i
    pub round_step : (i : ℕ) (p : P) (s t : Sets) → i < length ps → p ≡ get_or ps i p → cut p s ≡ Some t
        → round cut (drop (i + 1) ps) t ≡ round cut (drop i ps) s
    round_step i p s t below at e =
        let cons : drop i ps ≡ p ∷ drop (i + 1) ps =
        subst (λ (n : ℕ). drop i ps ≡ p ∷ drop n ps) (sym (add-one i))
        (drop-cons ps i p below ∙ ap (λ (q : P). q ∷ drop (suc i) ps) (sym at)) in
        sym (ap (λ (qs : List P). round cut qs s) cons ∙ ap (option_and_then (round cut (drop (i + 1) ps))) e)

    pub round_failed : (i : ℕ) (p : P) (s : Contents) (changed : Bool) → SoFar i s changed → i < length ps → p ≡ get_or ps i p
        → cut p s.sets ≡ None → round cut ps first.sets ≡ None
    round_failed i p s changed sofar below at e =
        let cons : drop i ps ≡ p ∷ drop (i + 1) ps =
        subst (λ (n : ℕ). drop i ps ≡ p ∷ drop n ps) (sym (add-one i))
        (drop-cons ps i p below ∙ ap (λ (q : P). q ∷ drop (suc i) ps) (sym at)) in
        sym sofar.rest ∙ (ap (λ (qs : List P). round cut qs s.sets) cons ∙ ap (option_and_then (round cut (drop (i + 1) ps))) e)

    -- where one failed, the round did
    pub round_lost : (i : ℕ) (p : P) (s t : Contents) (changed : Bool) → SoFar i s changed → i < length ps → p ≡ get_or ps i p
        → Ends (cut p s.sets) s.sets t.sets Failed → Ends (round cut ps first.sets) first.sets t.sets Failed
    round_lost i p s t changed sofar below at lost =
        let none = none_of (cut p s.sets) s.sets t.sets lost in
        subst (λ (c : Option Sets). Ends c first.sets t.sets Failed) (sym (round_failed i p s changed sofar below at none.0)) (refl, none.1)

    -- after the last propagator
    round_over : (i : ℕ) (s : Contents) (changed : Bool) → SoFar i s changed → length ps ≤ i → (answer : Pruned)
        → Answers answer first.sets s.sets
        → Ends (round cut ps first.sets) first.sets s.sets answer
    round_over i s changed sofar all answer answers = subst (λ (c : Option Sets). Ends c first.sets s.sets answer)
        (ap (λ (qs : List P). round cut qs s.sets) (sym (drop_all i ps all)) ∙ sofar.rest)
        (record { sets = refl; live = sofar.full; answers = answers })

    pub round_same : (i : ℕ) (s : Contents) → SoFar i s false → length ps ≤ i → Ends (round cut ps first.sets) first.sets s.sets Same
    round_same i s sofar all = round_over i s false sofar all Same sofar.so_far

    pub round_tighter : (i : ℕ) (s : Contents) → SoFar i s true → length ps ≤ i → Ends (round cut ps first.sets) first.sets s.sets Tighter
    round_tighter i s sofar all = round_over i s true sofar all Tighter sofar.so_far

    module _ (i : ℕ) (p : P) (s t : Contents) (changed : Bool) (sofar : SoFar i s changed) (known : HasVars (scope p) s.sets)
        (below : i < length ps)
        (at : p ≡ get_or ps i p) where
      went : (answer : Pruned) → answer ≢ Failed → IsPrune (scope p) (cut p s.sets) s t answer → (changed' : Bool)
          → (Answers answer s.sets t.sets → MatchBool changed' (total t.sets < total first.sets) (t.sets ≡ first.sets))
          → SoFar (i + 1) t changed'
      went answer other h changed' f =
          let left = left_of (cut p s.sets) s.sets t.sets answer h.ends other in
          let fewer : Below t.sets s.sets × NoneEmpty t.sets =
          subst (λ (c : Option Sets). MatchOption c ⊤ (λ u. Below u s.sets × NoneEmpty u)) left.0
          ((lawful p).shrinks s.sets known sofar.full) in
          record {
            rest = round_step i p s.sets t.sets below at left.0 ∙ sofar.rest;
            full = left.1;
            below = Below-trans t.sets s.sets first.sets fewer.0 sofar.below;
            marked = h.untouched.marked ∙ sofar.marked;
            so_far = f left.2;
          }

      pub goes_same : IsPrune (scope p) (cut p s.sets) s t Same → SoFar (i + 1) t changed
      goes_same h = went Same (λ e. cc e) h changed (λ same. rw same sofar.so_far)

      pub goes_tighter : IsPrune (scope p) (cut p s.sets) s t Tighter → SoFar (i + 1) t true
      goes_tighter h = went Tighter (λ e. cc e) h true (λ fewer. omega (arith, fewer, total_below s.sets first.sets sofar.below))

  -- rounds so far
  pub record FixSoFar (holds : P → List ℕ → Bool) (ps : List P) (first s : Contents) : Type 0 where
    pub full : NoneEmpty s.sets
    pub below : Below s.sets first.sets
    pub rest : fix_of cut ps s.sets ≡ fix_of cut ps first.sets
    pub kept : (x : List ℕ) → IsIn x first.sets → AllByRecursion (λ p. holds p x ≡ true) ps → IsIn x s.sets
    pub marked : s.marked ≡ first.marked

  -- one more round, which took some value
  pub fix_goes : (holds : P → List ℕ → Bool)
      → ((p : P) (s : Sets) (x : List ℕ) → HasVars (scope p) s → NoneEmpty s → IsIn x s → holds p x ≡ true → Kept x (cut p s))
      → (ps : List P) (first s t : Contents) → FixSoFar holds ps first s → Known scope cut lawful ps first.sets
      → round cut ps s.sets ≡ Some t.sets
      → t.marked ≡ s.marked → FixSoFar holds ps first t
  fix_goes holds keeps ps first s t sofar k e marked =
      let known = known_long scope cut lawful ps first.sets s.sets sofar.below.long k in
      let h : Below t.sets s.sets × NoneEmpty t.sets = subst (Shrunk s.sets) e (round_shrunk scope cut lawful ps s.sets known sofar.full) in
      record {
        full = h.1;
        below = Below-trans t.sets s.sets first.sets h.0 sofar.below;
        rest = round_next scope cut lawful ps s.sets t.sets known sofar.full e ∙ sofar.rest;
        kept = λ x there all. subst (Kept x) e (round_kept scope cut lawful holds keeps ps s.sets x known (sofar.kept x there all) all);
        marked = marked ∙ sofar.marked;
      }

-- there is room while no variable goes and the scratch stays as long
pub room_kept : (vars vars' span : ℕ) (old new : Scratch) → vars' ≡ vars → length new.fixed.items ≡ length old.fixed.items
    → length new.cycles.items ≡ length old.cycles.items → HasRoom vars span old → HasRoom vars' span new
room_kept vars vars' span old new e f c room = record { fixed = omega (arith, e, f, room.fixed); cycles = omega (arith, c, room.cycles) }
