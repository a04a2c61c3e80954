-- How far the check of a tree has come, node after node.
use Rattle.std.proofs.Common.{ℕ, ◌≡◌, ◌≢◌, ◌≤◌, ◌+◌, cond, List, [], ◌∷◌, ◌++◌, length, None, Some, All, min}
use Rattle.std.proofs.Common.{Contains, refl, sym, ap, subst, ◌∙◌, append_assoc, length-append, inl, inr, arith}
use Rattle.std.specs.declared.option.Option.{Option}
use Rattle.std.proofs.lemmas.Bool.{cases_lt}
use Rattle.std.proofs.lemmas.List.{get_or_append_left, get_or_at}
use Rattle.std.proofs.lemmas.List.Elements.{All-push, All-same, All-weaker}
use Rattle.un_domains.specs.Sets.{Sets}
use Rattle.un_model.specs.declared.model.Model.{Model}
use Rattle.un_bound.specs.Relaxations.{IsLeast}
use Rattle.un_post.specs.PartPosts.{IsPartBelow}
use Rattle.un_tree.specs.Boxes.{reached}
use Rattle.un_tree.specs.Covered.{Stands, StandsIn}
use Rattle.un_tree.specs.Searched.{HasAtLeast, HasLeast, IsLowest}
use Rattle.un_tree.specs.Waits.{Waiting, Whole, Begins, Inside, Visit, HasSidesIn, IsStrictIn, IsWhole, IsStrict, MayStand, after, is_outside, outer_count, visits, open_count}
use Rattle.un_tree.specs.Parts.{IsRight}
use Rattle.un_tree.specs.declared.node.Node.{Node}
use Rattle.un_tree.specs.declared.node.Node.TheVariants.{Branch, Closed, Open, Split, Part}
use Rattle.un_certificate.proofs.Lowest.{lower, other_least}
use Rattle.un_certificate.specs.Bounds.{IsLeastOpen}
use Rattle.un_certificate.specs.Certificates.{IsAlive, IsStanding}
use Rattle.un_certificate.specs.Joints.{blocks_of, visits_in, IsTreeIn, IsOwn, AreJoined}
use Rattle.un_model.specs.Boxes.{IsBelow}
use Rattle.un_stand.specs.Rooms.{path_of}
use Rattle.un_check.specs.Judging.{IsFound, IsJudged}
use Rattle.un_check.specs.Seen.{IsSeen}
use Rattle.un_check.specs.Steps.{CanPass}
use Rattle.un_check.specs.Verdicts.{Keeps, KeepsIn, IsRightNode, BreaksIn, IsFirstBreak, IsNo, IsVerdict, OnYes}
use Rattle.un_check.specs.Walks.{IsWalk, behind, behind_of, box_of, here, here_of, lowered, outside_of, stage_waits, waiting_of}
use Rattle.un_check.specs.declared.judge.Judged.TheVariants.{Broken, Kept, Leaf}
use Rattle.un_check.specs.declared.stage.Stage.{Stage}
use Rattle.un_check.specs.declared.stage.Stage.TheVariants.{AtBox, AtPart, InPart, AtEnd}
use Rattle.un_check.specs.declared.verdict.TreeVerdict.{TreeVerdict}
use Rattle.un_check.specs.declared.verdict.TreeVerdict.TheVariants.{Yes, NotStrict, NotSplit, NotAlive, NotClosed, Short}
use Rattle.un_check.specs.declared.walk.Walk.{Walk}

append_nil : {A : Type 0} (xs : List A) → xs ++ [] ≡ xs
append_nil [] = refl
append_nil {A} (x ∷ xs) = ap (λ (ys : List A). x ∷ ys) (append_nil xs)

-- ---- the least of the open leaves' least costs

contains_more : (ps : List Visit) (p q : Visit) → Contains ps q → Contains (ps ++ p ∷ []) q
contains_more ps p q h = (
  h.0,
  (let lt = h.1 in omega (arith, lt, length-append ps (p ∷ []))),
  get_or_append_left ps (p ∷ []) q h.0 h.1 ∙ h.2,
)

contains_last : (ps : List Visit) (p : Visit) → Contains (ps ++ p ∷ []) p
contains_last ps p = (length ps, omega (arith, length-append ps (p ∷ [])), get_or_at ps p [] p (length ps) refl)

module _ (m : Model) where
  least_one : (b : Sets) (n l : ℕ) → IsLeast m b n → IsLeast m b l → n ≤ l
  least_one b n l h k = let le = h.least k.reached.0 k.reached.1 in let e = k.reached.2 in omega (arith, le, e)

  own_least : (k : ℕ) (n : Node) (w : Waiting) → HasLeast (IsLeast m) k n w → HasAtLeast (IsLeast m) k n w
  own_least k (Branch v x) w h = tt
  own_least k Closed w h = tt
  own_least k Open (Whole b) h = λ l is. least_one b k l h is
  own_least k Open (Begins j b) h = absurd h
  own_least k Open (Inside j number b) h = absurd h
  own_least k Split w h = absurd h
  own_least k (Part number) w h = absurd h

  pub lowest_other : (ps : List Visit) (p : Visit) (least : Option ℕ) → IsLeastOpen m ps least → p.node ≢ Open
      → IsLeastOpen m (ps ++ p ∷ []) least
  lowest_other ps p None h never = All-push (λ (q : Visit). q.node ≢ Open) ps p h never
  lowest_other ps p (Some low) h never = record {
    below = All-push (λ (q : Visit). HasAtLeast (IsLeast m) low q.node q.waiting) ps p h.below (other_least m low p.node p.waiting never);
    leaf = h.leaf;
    there = contains_more ps p h.leaf h.there;
    has = h.has;
  }

  pub lowest_open : (ps : List Visit) (p : Visit) (least : Option ℕ) (n : ℕ) → IsLeastOpen m ps least
      → HasLeast (IsLeast m) n p.node p.waiting → IsLowest (IsLeast m) (ps ++ p ∷ []) (lowered least n)
  lowest_open ps p None n h is = record {
    below = All-push (λ (q : Visit). HasAtLeast (IsLeast m) n q.node q.waiting) ps p
        (All-weaker (λ (q : Visit). q.node ≢ Open) (λ (q : Visit). HasAtLeast (IsLeast m) n q.node q.waiting)
        (λ q never. other_least m n q.node q.waiting never) ps h)
        (own_least n p.node p.waiting is);
    leaf = p;
    there = contains_last ps p;
    has = is;
  }
  lowest_open ps p (Some k) n h is = elim (cases_lt n k) [
    | inl lt ↦ (let low : min k n ≡ n = omega (arith, lt) in subst (IsLowest (IsLeast m) (ps ++ p ∷ [])) (sym low) (record {
      below = All-push (λ (q : Visit). HasAtLeast (IsLeast m) n q.node q.waiting) ps p
          (All-weaker (λ (q : Visit). HasAtLeast (IsLeast m) k q.node q.waiting) (λ (q : Visit). HasAtLeast (IsLeast m) n q.node q.waiting)
          (λ q at. lower m n k q.node q.waiting (omega (arith, lt)) at) ps h.below)
          (own_least n p.node p.waiting is);
      leaf = p;
      there = contains_last ps p;
      has = is;
    }))
    | inr ge ↦ (let low : min k n ≡ k = omega (arith, ge) in subst (IsLowest (IsLeast m) (ps ++ p ∷ [])) (sym low) (record {
      below = All-push (λ (q : Visit). HasAtLeast (IsLeast m) k q.node q.waiting) ps p h.below
          (lower m k n p.node p.waiting ge (own_least n p.node p.waiting is));
      leaf = h.leaf;
      there = contains_more ps p h.leaf h.there;
      has = h.has;
    }))
  ]

-- ---- a node more

open_cases : (n : Node) (ns : List Node) → n ≢ Open → open_count (n ∷ ns) ≡ open_count ns
open_cases (Branch v x) ns never = refl
open_cases Closed ns never = refl
open_cases Open ns never = absurd (never refl)
open_cases Split ns never = refl
open_cases (Part number) ns never = refl

open_more : (m : Model) (k : ℕ) (n : Node) (w : Waiting) (ns : List Node) → HasLeast (IsLeast m) k n w → open_count (n ∷ ns) ≡ 1 + open_count ns
open_more m k (Branch v x) w ns h = absurd h
open_more m k Closed w ns h = absurd h
open_more m k Open w ns h = refl
open_more m k Split w ns h = absurd h
open_more m k (Part number) w ns h = absurd h

outer_more : (ps : List Visit) (p : Visit) → outer_count (ps ++ p ∷ []) ≡ outer_count ps + cond (is_outside p.waiting) 1 0
outer_more [] p = omega arith
outer_more (q ∷ ps) p = let h = outer_more ps p in omega (arith, h)

-- an open leaf stands
open_stands : (m : Model) (limit : Option ℕ) (k : ℕ) (n : Node) (w : Waiting) → HasLeast (IsLeast m) k n w
    → StandsIn (IsBelow m limit) (IsPartBelow m) n w
open_stands m limit k (Branch v x) w h = absurd h
open_stands m limit k Closed w h = absurd h
open_stands m limit k Open w h = tt
open_stands m limit k Split w h = absurd h
open_stands m limit k (Part number) w h = absurd h

module _ (m : Model) (limit : Option ℕ) (nodes rest : List Node) (n : Node) (w : Walk) (h : IsWalk m limit nodes (n ∷ rest) w)
    (now : Waiting) (others : List Waiting) (more : waiting_of m w.at ≡ now ∷ others) where
  abbrev visit : Visit
  visit = record { node = n; waiting = now; place = w.place; rest = rest }

  split_here : visits_in m nodes ≡ h.done ++ visit ∷ visits (blocks_of m) (w.place + 1) rest (after (blocks_of m) n now others)
  split_here = h.split ∙ ap (λ (ws : List Waiting). h.done ++ visits (blocks_of m) w.place (n ∷ rest) ws) more

  first_break : (v : TreeVerdict) → BreaksIn m limit w.place n now rest v → IsFirstBreak m limit (visits_in m nodes) v
  first_break v breaks = record {
    before = h.done;
    at = visit;
    behind = visits (blocks_of m) (w.place + 1) rest (after (blocks_of m) n now others);
    split = split_here;
    kept = h.kept;
    breaks = breaks;
  }

  -- a node that breaks a point is the first one
  pub broken : (v : TreeVerdict) → BreaksIn m limit w.place n now rest v → IsNo m limit nodes v
  broken (Yes least count) breaks = absurd breaks
  broken Short breaks = absurd breaks
  broken (NotStrict i) breaks = (first_break (NotStrict i) breaks, tt)
  broken (NotSplit i) breaks = (first_break (NotSplit i) breaks, tt)
  broken (NotAlive i) breaks = (first_break (NotAlive i) breaks, tt)
  broken (NotClosed i) breaks = (first_break (NotClosed i) breaks, tt)

  module _ (q : Walk) (keeps : KeepsIn m limit n now rest) (stands : StandsIn (IsBelow m limit) (IsPartBelow m) n now)
      (next : after (blocks_of m) n now others ≡ waiting_of m q.at) (place : q.place ≡ w.place + 1)
      (outer : q.outer_nodes ≡ w.outer_nodes + cond (is_outside now) 1 0) where
    walk_on : open_count nodes ≡ q.open_leaves + open_count rest → IsLeastOpen m (h.done ++ visit ∷ []) q.least → IsWalk m limit nodes rest q
    walk_on counted lowest = record {
      done = h.done ++ visit ∷ [];
      split = split_here ∙ (sym (append_assoc h.done (visit ∷ []) (visits (blocks_of m) (w.place + 1) rest (after (blocks_of m) n now others)))
          ∙ (ap (λ (i : ℕ). (h.done ++ visit ∷ []) ++ visits (blocks_of m) i rest (after (blocks_of m) n now others)) (sym place)
          ∙ ap (λ (ws : List Waiting). (h.done ++ visit ∷ []) ++ visits (blocks_of m) q.place rest ws) next));
      kept = All-push (Keeps m limit) h.done visit h.kept keeps;
      stands = All-push (Stands (IsBelow m limit) (IsPartBelow m)) h.done visit h.stands stands;
      forth = λ whole. subst (IsWhole (blocks_of m) rest) next (subst (IsWhole (blocks_of m) (n ∷ rest)) more (h.forth whole));
      back = λ whole. h.back (subst (IsWhole (blocks_of m) (n ∷ rest)) (sym more) (subst (IsWhole (blocks_of m) rest) (sym next) whole));
      counted = counted;
      outer = (let e = h.outer in let f = outer_more h.done visit in omega (arith, outer, e, f));
      lowest = lowest;
    }

    -- a node that is no open leaf
    pub walk_other : n ≢ Open → q.open_leaves ≡ w.open_leaves → q.least ≡ w.least → IsWalk m limit nodes rest q
    walk_other never count least = walk_on
        (let e = h.counted in let f = open_cases n rest never in omega (arith, e, f, count))
        (subst (IsLeastOpen m (h.done ++ visit ∷ [])) (sym least) (lowest_other m h.done visit w.least h.lowest never))

    -- an open leaf
    pub walk_open : (k : ℕ) → HasLeast (IsLeast m) k n now → q.open_leaves ≡ w.open_leaves + 1 → q.least ≡ Some (lowered w.least k)
        → IsWalk m limit nodes rest q
    walk_open k is count least = walk_on
        (let e = h.counted in let f = open_more m k n now rest is in omega (arith, e, f, count))
        (subst (IsLeastOpen m (h.done ++ visit ∷ [])) (sym least) (lowest_open m h.done visit w.least k h.lowest is))

-- ---- by what was found of it

-- where a stage is, or behind the end
abbrev pub IsMore : ℕ → Sets → List Waiting → Stage → Type 0
IsMore k b ws s = stage_waits k b ws s ≡ here b s ∷ behind k b ws s

right_may : (m : Model) (limit : Option ℕ) (n : Node) (w : Waiting) (rest : List Node) → IsRightNode m limit n w rest → MayStand n w
right_may m limit (Branch v x) w rest h = h
right_may m limit Closed w rest h = h
right_may m limit Open w rest h = h
right_may m limit Split (Whole b) rest h = tt
right_may m limit Split (Begins k b) rest h = h
right_may m limit Split (Inside k number b) rest h = h
right_may m limit (Part number) w rest h = h

strict_has : (m : Model) (n : Node) (w : Waiting) → IsStrictIn (IsOwn m) n w → HasSidesIn n w
strict_has m (Branch v x) (Whole b) h = h
strict_has m (Branch v x) (Begins k b) h = tt
strict_has m (Branch v x) (Inside k number b) h = h.0
strict_has m Closed w h = tt
strict_has m Open w h = tt
strict_has m Split w h = tt
strict_has m (Part number) w h = tt

keeps_pass : (m : Model) (limit : Option ℕ) (n : Node) (w : Waiting) (rest : List Node) → KeepsIn m limit n w rest
    → HasSidesIn n w × MayStand n w
keeps_pass m limit n w rest k = (strict_has m n w k.strict, right_may m limit n w rest k.right)

module _ (m : Model) (limit : Option ℕ) (place : ℕ) (n : Node) (rest : List Node) where
  -- a node that keeps all points can be passed
  pub kept_pass : (b : Sets) (s : Stage) → IsFound m limit place n rest b s Kept → CanPass b n s
  kept_pass b AtBox f = keeps_pass m limit n (Whole b) rest f.0
  kept_pass b (AtPart k) f = keeps_pass m limit n (Begins k b) rest f.0
  kept_pass b (InPart k number room) f = keeps_pass m limit n (Inside k number (reached b (path_of room))) rest f.0
  kept_pass b AtEnd f = absurd (cc f)

  pub leaf_pass : (b : Sets) (s : Stage) (least : ℕ) → IsFound m limit place n rest b s (Leaf least) → CanPass b n s
  leaf_pass b AtBox least f = keeps_pass m limit n (Whole b) rest f.0
  leaf_pass b (AtPart k) least f = keeps_pass m limit n (Begins k b) rest f.0
  leaf_pass b (InPart k number room) least f = keeps_pass m limit n (Inside k number (reached b (path_of room))) rest f.0
  leaf_pass b AtEnd least f = absurd (cc f)

  -- and something waits for it
  pub kept_more : (k : ℕ) (b : Sets) (ws : List Waiting) (s : Stage) → IsFound m limit place n rest b s Kept
      → IsMore k b ws s × IsJudged m limit place n (here b s) rest Kept
  kept_more k b ws AtBox f = (refl, f)
  kept_more k b ws (AtPart j) f = (refl, f)
  kept_more k b ws (InPart j number room) f = (refl, f)
  kept_more k b ws AtEnd f = absurd (cc f)

  pub leaf_more : (k : ℕ) (b : Sets) (ws : List Waiting) (s : Stage) (least : ℕ) → IsFound m limit place n rest b s (Leaf least)
      → IsMore k b ws s × IsJudged m limit place n (here b s) rest (Leaf least)
  leaf_more k b ws AtBox least f = (refl, f)
  leaf_more k b ws (AtPart j) least f = (refl, f)
  leaf_more k b ws (InPart j number room) least f = (refl, f)
  leaf_more k b ws AtEnd least f = absurd (cc f)

module _ (m : Model) (limit : Option ℕ) (nodes rest : List Node) (n : Node) (w : Walk) (h : IsWalk m limit nodes (n ∷ rest) w) where
  -- a node behind the end of the tree
  past_end : waiting_of m w.at ≡ [] → IsNo m limit nodes Short
  past_end over = (
    record {
      torn = λ whole. subst (IsWhole (blocks_of m) (n ∷ rest)) over (h.forth whole);
      kept = All-same (Keeps m limit) (visits_in m nodes) h.done
          (h.split ∙ (ap (λ (ws : List Waiting). h.done ++ visits (blocks_of m) w.place (n ∷ rest) ws) over ∙ append_nil h.done)) h.kept;
    },
    tt,
  )

  pub no_more : (v : TreeVerdict) → IsFound m limit w.place n rest (box_of m w.at) w.at.stage (Broken v) → IsNo m limit nodes v
  no_more v found = by w.at.stage refl found
    where
      by : (s : Stage) → w.at.stage ≡ s → IsFound m limit w.place n rest (box_of m w.at) s (Broken v) → IsNo m limit nodes v
      by AtBox is f = broken m limit nodes rest n w h (Whole (box_of m w.at)) (behind (blocks_of m) (box_of m w.at) (outside_of m w.at) AtBox)
          (ap (stage_waits (blocks_of m) (box_of m w.at) (outside_of m w.at)) is) v f
      by (AtPart k) is f = broken m limit nodes rest n w h (Begins k (box_of m w.at))
          (behind (blocks_of m) (box_of m w.at) (outside_of m w.at) (AtPart k))
          (ap (stage_waits (blocks_of m) (box_of m w.at) (outside_of m w.at)) is) v f
      by (InPart k number room) is f = broken m limit nodes rest n w h (Inside k number (reached (box_of m w.at) (path_of room)))
          (behind (blocks_of m) (box_of m w.at) (outside_of m w.at) (InPart k number room))
          (ap (stage_waits (blocks_of m) (box_of m w.at) (outside_of m w.at)) is) v f
      by AtEnd is f =
          let e : v ≡ Short = cc f in
          subst (IsNo m limit nodes) (sym e) (past_end (ap (stage_waits (blocks_of m) (box_of m w.at) (outside_of m w.at)) is))

  module _ (q : Walk) (next : after (blocks_of m) n (here_of m w.at) (behind_of m w.at) ≡ waiting_of m q.at) (place : q.place ≡ w.place + 1)
      (outer : q.outer_nodes ≡ w.outer_nodes + cond (is_outside (here_of m w.at)) 1 0) where
    pub passed_other : IsFound m limit w.place n rest (box_of m w.at) w.at.stage Kept → q.open_leaves ≡ w.open_leaves → q.least ≡ w.least
        → IsWalk m limit nodes rest q
    passed_other found count least =
        let j = kept_more m limit w.place n rest (blocks_of m) (box_of m w.at) (outside_of m w.at) w.at.stage found in
        walk_other m limit nodes rest n w h (here_of m w.at) (behind_of m w.at) j.0 q j.1.0 j.1.2 next place outer j.1.1 count least

    pub passed_open : (k : ℕ) → IsFound m limit w.place n rest (box_of m w.at) w.at.stage (Leaf k) → q.open_leaves ≡ w.open_leaves + 1
        → q.least ≡ Some (lowered w.least k) → IsWalk m limit nodes rest q
    passed_open k found count least =
        let j = leaf_more m limit w.place n rest (blocks_of m) (box_of m w.at) (outside_of m w.at) w.at.stage k found in
        walk_open m limit nodes rest n w h (here_of m w.at) (behind_of m w.at) j.0 q j.1.0
        (open_stands m limit k n (here_of m w.at) j.1.1) next place outer k j.1.1 count least

-- ---- the end

module _ (m : Model) (limit : Option ℕ) (nodes : List Node) (w : Walk) (h : IsWalk m limit nodes [] w) where
  done_all : visits_in m nodes ≡ h.done
  done_all = h.split ∙ append_nil h.done

  all_kept : All (Keeps m limit) (visits_in m nodes)
  all_kept = All-same (Keeps m limit) (visits_in m nodes) h.done done_all h.kept

  -- the nodes end inside the tree
  pub ends_inside : (waiting_of m w.at ≡ [] → ⊥) → IsNo m limit nodes Short
  ends_inside some = (record { torn = λ whole. some (h.forth whole); kept = all_kept }, tt)

  -- they end with it
  module _ (over : waiting_of m w.at ≡ []) where
    whole_here : IsTreeIn m nodes
    whole_here = h.back over

    ends_well : IsVerdict m limit nodes (Yes w.least w.open_leaves)
    ends_well = record {
      whole = whole_here;
      kept = all_kept;
      lowest = subst (λ (ps : List Visit). IsLeastOpen m ps w.least) (sym done_all) h.lowest;
      counted = (let e = h.counted in omega (arith, e));
    }

    -- and a tree that keeps all points stands
    standing : IsStanding m limit nodes
    standing = record {
      whole = whole_here;
      strict = All-weaker (Keeps m limit) (IsStrict (IsOwn m)) (λ v k. k.strict) (visits_in m nodes) all_kept;
      right = All-weaker (Keeps m limit) (IsRight (AreJoined m) (blocks_of m) limit) (λ v k. k.right) (visits_in m nodes) all_kept;
      alive = All-weaker (Keeps m limit) (IsAlive m limit) (λ v k. k.alive) (visits_in m nodes) all_kept;
      stands = All-same (Stands (IsBelow m limit) (IsPartBelow m)) (visits_in m nodes) h.done done_all h.stands;
    }

    pub seen_well : IsSeen m limit nodes (record { verdict = Yes w.least w.open_leaves; outer_nodes = w.outer_nodes })
    seen_well = record {
      verdict = ends_well;
      standing = standing;
      outer = h.outer ∙ ap outer_count (sym done_all);
    }

-- what is so where all is well is asked of nothing else
no_asks : (P : Type 0) (v : TreeVerdict) → OnYes ⊥ v → OnYes P v
no_asks P (Yes least count) never = absurd never
no_asks P (NotStrict i) never = tt
no_asks P (NotSplit i) never = tt
no_asks P (NotAlive i) never = tt
no_asks P (NotClosed i) never = tt
no_asks P Short never = tt

pub no_seen : (m : Model) (limit : Option ℕ) (nodes : List Node) (v : TreeVerdict) (outer : ℕ) → IsNo m limit nodes v
    → IsSeen m limit nodes (record { verdict = v; outer_nodes = outer })
no_seen m limit nodes v outer h = record {
  verdict = h.0;
  standing = no_asks (IsStanding m limit nodes) v h.1;
  outer = no_asks (outer ≡ outer_count (visits_in m nodes)) v h.1;
}
