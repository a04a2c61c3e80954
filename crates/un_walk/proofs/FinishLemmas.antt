-- Where no leaf has a solution, none has one: each side that the walk leaves is finished.
use Rattle.std.proofs.Common.{ℕ, ◌≡◌, ◌+◌, ◌⊎◌, inl, inr, Bool, true, false, List, [], ◌∷◌, ◌++◌, get_or, nat_le, nat_lt, None, Some}
use Rattle.std.proofs.Common.{refl, sym, ap, subst, ◌∙◌, append_assoc, arith}
use Rattle.std.proofs.lemmas.Bool.{cases_lt}
use Rattle.std.proofs.lemmas.Bool.Decides.{nat_tests}
use Rattle.std.specs.List.{AllByRecursion}
use Rattle.std.specs.declared.option.Option.{Option}
use Rattle.un_base.specs.declared.ids.VarId.{VarId}
use Rattle.un_domains.specs.Sets.{Sets, IsIn}
use Rattle.un_domains.specs.SetLaws.{IsIn-kept}
use Rattle.un_domains.specs.declared.side.Side.{Side}
use Rattle.un_domains.specs.declared.side.Side.TheVariants.{AtMost, Above}
use Rattle.un_tree.specs.Boxes.{half, decided, reached, Splits}
use Rattle.un_tree.specs.declared.node.Decision.{Decision}
use Rattle.un_walk.proofs.Paths.{split_snoc}
use Rattle.un_walk.proofs.RouteLemmas.{branch_waits}
use Rattle.un_walk.specs.Finished.{AreFinished, IsFinishedAt, NoneIn}
use Rattle.un_walk.specs.Routes.{IsWholeBy, Route, paths_after, routes}
use Rattle.un_walk.specs.Stands.{AllSplit}
use Rattle.un_walk.specs.Turns.{other_path, paths_at, paths_behind}

-- each point of a box is in one of its sides
split_at : (x : List ℕ) (v : VarId) (y : ℕ) (b : Sets) → Splits b v y → IsIn x b → IsIn x (half b v y AtMost) ⊎ IsIn x (half b v y Above)
split_at x v y b s h = elim (cases_lt y (get_or x v.0 0)) [
  | inl above ↦ inr (IsIn-kept (λ z. nat_lt y z) x b v.0 s.0 h (grind (arith, nat_tests)))
  | inr below ↦ inl (IsIn-kept (λ z. nat_le z y) x b v.0 s.0 h (grind (arith, nat_tests)))
]

module _ (good : List ℕ → Type 0) where
  -- where both sides have none, the box has none
  both_sides : (b : Sets) (d : Decision) → Splits b d.var d.val → NoneIn good (half b d.var d.val AtMost)
      → NoneIn good (half b d.var d.val Above) → NoneIn good b
  both_sides b d s l r x is g = elim (split_at x d.var d.val b s is) [ inl low ↦ l x low g | inr high ↦ r x high g ]

  -- the left side of a decision on the way that keeps the right one
  pub finished_at : (b : Sets) (above : List Decision) (d : Decision) (below : List Decision) → AreFinished good b (above ++ d ∷ below)
      → d.side ≡ Above → NoneIn good (half (reached b above) d.var d.val AtMost)
  finished_at b [] d below h is = subst (IsFinishedAt good b d) is h.0
  finished_at b (e ∷ above) d below h is = finished_at (decided e b) above d below h.1 is

  -- down to the left side
  finished_left : (b : Sets) (ds : List Decision) (v : VarId) (x : ℕ) → AreFinished good b ds
      → AreFinished good b (ds ++ record { var = v; val = x; side = AtMost } ∷ [])
  finished_left b [] v x h = (tt, tt)
  finished_left b (d ∷ ds) v x h = (h.0, finished_left (decided d b) ds v x h.1)

  -- the next path that waits behind decisions below a path
  record Over (above : List Decision) (b : Sets) (ds : List Decision) : Type 0 where
    pub next : List Decision
    pub split : AllSplit b next
    pub finished : AreFinished good b next
    pub behind : paths_behind above ds ≡ (above ++ next) ∷ paths_behind above next

  -- none waits, and there was no solution
  abbrev IsOver : List Decision → Sets → List Decision → Type 0
  IsOver above b ds = (paths_behind above ds ≡ []) × NoneIn good b

  longer : (above : List Decision) (b : Sets) (d : Decision) (ds : List Decision) → Splits b d.var d.val → IsFinishedAt good b d d.side
      → Over (above ++ d ∷ []) (decided d b) ds → Over above b (d ∷ ds)
  longer above b d ds s f h = record {
    next = d ∷ h.next;
    split = (s, h.split);
    finished = (f, h.finished);
    behind = ap (λ (ps : List (List Decision)). ps ++ other_path above d d.side) h.behind
        ∙ ap (λ (p : List Decision). p ∷ (paths_behind (above ++ d ∷ []) h.next ++ other_path above d d.side))
        (append_assoc above (d ∷ []) h.next);
  }

  -- up from a side
  up : (above : List Decision) (b : Sets) (d : Decision) (ds : List Decision) (side : Side) → Splits b d.var d.val → IsFinishedAt good b d side
      → paths_behind (above ++ d ∷ []) ds ≡ [] → NoneIn good (half b d.var d.val side)
      → (o : List (List Decision)) → o ≡ paths_behind (above ++ d ∷ []) ds ++ other_path above d side
      → ((next : List Decision) × AllSplit b next × AreFinished good b next × (o ≡ (above ++ next) ∷ paths_behind above next))
      ⊎ ((o ≡ []) × NoneIn good b)
  up above b d ds AtMost s f none empty o e =
      let right : Decision = record { var = d.var; val = d.val; side = Above } in
      inl (right ∷ [], (s, tt), (empty, tt), e ∙ ap (λ (ps : List (List Decision)). ps ++ (above ++ right ∷ []) ∷ []) none)
  up above b d ds Above s f none empty o e =
      inr (e ∙ ap (λ (ps : List (List Decision)). ps ++ []) none, both_sides b d s f empty)

  -- up and over
  over : (above : List Decision) (b : Sets) (ds : List Decision) → AllSplit b ds → AreFinished good b ds → NoneIn good (reached b ds)
      → Over above b ds ⊎ IsOver above b ds
  over above b [] s f empty = inr (refl, empty)
  over above b (d ∷ ds) s f empty = elim (over (above ++ d ∷ []) (decided d b) ds s.1 f.1 empty) [
    | inl h ↦ inl (longer above b d ds s.0 f.0 h)
    | inr h ↦ elim (up above b d ds d.side s.0 f.0 h.0 h.1 (paths_behind above (d ∷ ds)) refl) [
      | inl n ↦ inl (record { next = n.0; split = n.1; finished = n.2; behind = n.3 })
      | inr n ↦ inr n
    ]
  ]

  -- where the walk stands, all on the way is finished; behind the end there was no solution
  abbrev IsDone : Sets → List Decision → Bool → Type 0
  IsDone root p true = AllSplit root p × AreFinished good root p
  IsDone root p false = NoneIn good root

  -- a tree each of whose branches splits its box, and of whose leaves none has a solution where all on the way is finished
  module _ {N : Type 0} (branch : N → Option (VarId × ℕ)) (root : Sets) (keeps : Route N → Type 0)
      (strict : (r : Route N) (b : VarId × ℕ) → keeps r → branch r.node ≡ Some b → Splits (reached root r.path) b.0 b.1)
      (leaf : (r : Route N) → keeps r → branch r.node ≡ None → AllSplit root r.path → AreFinished good root r.path
      → NoneIn good (reached root r.path)) where
    -- behind a node, where the walk has gone over the nodes before it
    next : (i : ℕ) (n : N) (ns : List N) (p : List Decision) → keeps (record { node = n; path = p; place = i; rest = ns })
        → IsWholeBy branch ns (paths_after (branch n) p (paths_behind [] p))
        → AllByRecursion keeps (routes branch (i + 1) ns (paths_after (branch n) p (paths_behind [] p)))
        → AllSplit root p → AreFinished good root p
        → ((q : List Decision) (more : Bool) (paths : List (List Decision)) → paths ≡ paths_at q more → IsWholeBy branch ns paths
        → AllByRecursion keeps (routes branch (i + 1) ns paths) → IsDone root q more → NoneIn good root)
        → (o : Option (VarId × ℕ)) → branch n ≡ o → NoneIn good root
    next i n ns p k whole all s f go (Some (v, x)) is =
        let left : Decision = record { var = v; val = x; side = AtMost } in
        go (p ++ left ∷ []) true (paths_after (branch n) p (paths_behind [] p))
        (ap (λ (o : Option (VarId × ℕ)). paths_after o p (paths_behind [] p)) is ∙ branch_waits p (p ++ left ∷ []) v x refl) whole all
        (split_snoc root p left s (strict (record { node = n; path = p; place = i; rest = ns }) (v, x) k is), finished_left root p v x f)
    next i n ns p k whole all s f go None is =
        let behind = ap (λ (o : Option (VarId × ℕ)). paths_after o p (paths_behind [] p)) is in
        elim (over [] root p s f (leaf (record { node = n; path = p; place = i; rest = ns }) k is s f)) [
          | inl o ↦ go o.next true (paths_after (branch n) p (paths_behind [] p)) (behind ∙ o.behind) whole all (o.split, o.finished)
          | inr o ↦ go p false (paths_after (branch n) p (paths_behind [] p)) (behind ∙ o.0) whole all o.1
        ]

    done : (i : ℕ) (ns : List N) (p : List Decision) (more : Bool) (paths : List (List Decision)) → paths ≡ paths_at p more
        → IsWholeBy branch ns paths → AllByRecursion keeps (routes branch i ns paths) → IsDone root p more → NoneIn good root
    done i [] p true paths e whole all h = absurd (let empty : p ∷ paths_behind [] p ≡ [] = sym e ∙ whole in cc empty)
    done i ns p false paths e whole all h = h
    done i (n ∷ ns) p true paths e whole all h =
        let w = subst (IsWholeBy branch (n ∷ ns)) e whole in
        let k = subst (λ (ps : List (List Decision)). AllByRecursion keeps (routes branch i (n ∷ ns) ps)) e all in
        next i n ns p k.0 w k.1 h.0 h.1 (done (i + 1) ns) (branch n) refl

    pub refuted : (ns : List N) → IsWholeBy branch ns ([] ∷ []) → AllByRecursion keeps (routes branch 0 ns ([] ∷ [])) → NoneIn good root
    refuted ns whole all = done 0 ns [] true ([] ∷ []) refl whole all (tt, tt)
