-- Lists of nodes that are whole trees, cut in two, and their routes.
use Rattle.std.proofs.Common.{ℕ, zero, suc, ◌≡◌, ◌+◌, List, [], ◌∷◌, ◌++◌, length, Option, Some, None, Contains}
use Rattle.std.proofs.Common.{refl, sym, ap, subst, ◌∙◌, append_assoc, arith}
use Rattle.std.specs.List.{AllByRecursion}
use Rattle.un_base.specs.declared.ids.VarId.{VarId}
use Rattle.un_tree.specs.declared.node.Decision.{Decision}
use Rattle.un_tree.specs.declared.node.Node.{Node}
use Rattle.un_walk.specs.Routes.{IsWholeBy, Route, paths_after, routes}
use Rattle.un_symtree.specs.declared.node.SymNode.{SymNode}
use Rattle.un_symtree.specs.declared.node.SymNode.TheVariants.{Branch as SymBranch, Closed as SymClosed, Mirror}
use Rattle.un_mirrors.specs.Shortened.{IsShortOf}
use Rattle.un_mirrors.specs.Works.{Leads}

contains_later : {X : Type 0} (xs : List X) (y x : X) → Contains xs x → Contains (y ∷ xs) x
contains_later xs y x h = let lt = h.1 in (suc h.0, omega (arith, lt), h.2)

pub contains_first : {X : Type 0} (xs : List X) (x : X) → Contains (x ∷ xs) x
contains_first xs x = (zero, omega arith, refl)

-- ---- paths

after_more : (o : Option (VarId × ℕ)) (path : List Decision) (paths rest : List (List Decision))
    → paths_after o path (paths ++ rest) ≡ paths_after o path paths ++ rest
after_more None path paths rest = refl
after_more (Some b) path paths rest = refl

after_long : (o : Option (VarId × ℕ)) (p q : List Decision) (ps qs : List (List Decision)) → length ps ≡ length qs
    → length (paths_after o p ps) ≡ length (paths_after o q qs)
after_long None p q ps qs e = e
after_long (Some b) p q ps qs e = ap (λ (n : ℕ). suc (suc n)) e

zero_nil : {X : Type 0} (xs : List X) → length xs ≡ 0 → xs ≡ []
zero_nil [] e = refl
zero_nil (x ∷ xs) e = absurd (omega (arith, e))

module _ {N : Type 0} (branch : N → Option (VarId × ℕ)) where
  -- one node more
  pub leads_more : (ns : List N) (n : N) (before ps : List (List Decision)) (p : List Decision) → Leads branch ns before (p ∷ ps)
      → Leads branch (ns ++ n ∷ []) before (paths_after (branch n) p ps)
  leads_more [] n before ps p h =
      subst (λ (qs : List (List Decision)). Leads branch (n ∷ []) qs (paths_after (branch n) p ps)) (sym h) refl
  leads_more (k ∷ ns) n [] ps p h = absurd h
  leads_more (k ∷ ns) n (q ∷ qs) ps p h = leads_more ns n (paths_after (branch k) q qs) ps p h

  -- where none waits behind, the nodes are whole
  pub leads_whole : (ns : List N) (before : List (List Decision)) → Leads branch ns before [] → IsWholeBy branch ns before
  leads_whole [] before h = h
  leads_whole (n ∷ ns) [] h = absurd h
  leads_whole (n ∷ ns) (p ∷ ps) h = leads_whole ns (paths_after (branch n) p ps) h

  -- whole trees lead past as many paths, whatever these are
  pub whole_leads : (ns : List N) (qs ps rest : List (List Decision)) → IsWholeBy branch ns qs → length ps ≡ length qs
      → Leads branch ns (ps ++ rest) rest
  whole_leads [] qs ps rest h e =
      let none : length ps ≡ 0 = e ∙ ap length h in ap (λ (rs : List (List Decision)). rs ++ rest) (zero_nil ps none)
  whole_leads (n ∷ ns) [] ps rest h e = absurd h
  whole_leads (n ∷ ns) (q ∷ qs) [] rest h e = absurd (omega (arith, e))
  whole_leads (n ∷ ns) (q ∷ qs) (p ∷ ps) rest h e =
      subst (λ (rs : List (List Decision)). Leads branch ns rs rest) (sym (after_more (branch n) p ps rest))
      (whole_leads ns (paths_after (branch n) q qs) (paths_after (branch n) p ps) rest h
      (after_long (branch n) p q ps qs (omega (arith, e))))

  -- what is behind nodes of whole trees
  pub whole_behind : (ns rest : List N) (before behind : List (List Decision)) → Leads branch ns before behind
      → IsWholeBy branch (ns ++ rest) before → IsWholeBy branch rest behind
  whole_behind [] rest before behind h whole = subst (IsWholeBy branch rest) h whole
  whole_behind (n ∷ ns) rest [] behind h whole = absurd h
  whole_behind (n ∷ ns) rest (p ∷ ps) behind h whole = whole_behind ns rest (paths_after (branch n) p ps) behind h whole

  -- their routes are among all
  pub routes_behind : (i j : ℕ) (ns rest : List N) (before behind : List (List Decision)) → Leads branch ns before behind
      → j ≡ i + length ns → (r : Route N) → Contains (routes branch j rest behind) r → Contains (routes branch i (ns ++ rest) before) r
  routes_behind i j [] rest before behind h e r at =
      subst (λ (ps : List (List Decision)). Contains (routes branch i rest ps) r) (sym h)
      (subst (λ (k : ℕ). Contains (routes branch k rest behind) r) (omega (arith, e)) at)
  routes_behind i j (n ∷ ns) rest [] behind h e r at = absurd h
  routes_behind i j (n ∷ ns) rest (p ∷ ps) behind h e r at =
      contains_later (routes branch (i + 1) (ns ++ rest) (paths_after (branch n) p ps))
      (record { node = n; path = p; place = i; rest = ns ++ rest }) r
      (routes_behind (i + 1) j ns rest (paths_after (branch n) p ps) behind h (omega (arith, e)) r at)

  -- one node more that is as it has to be
  pub all_more : (good : N → List Decision → Type 0) (i : ℕ) (ns : List N) (n : N) (before ps : List (List Decision)) (p : List Decision)
      → Leads branch ns before (p ∷ ps) → AllByRecursion (λ (r : Route N). good r.node r.path) (routes branch i ns before) → good n p
      → AllByRecursion (λ (r : Route N). good r.node r.path) (routes branch i (ns ++ n ∷ []) before)
  all_more good i [] n before ps p h all is =
      subst (λ (qs : List (List Decision)). AllByRecursion (λ (r : Route N). good r.node r.path) (routes branch i (n ∷ []) qs)) (sym h) (is, tt)
  all_more good i (k ∷ ns) n [] ps p h all is = absurd h
  all_more good i (k ∷ ns) n (q ∷ qs) ps p h all is =
      (all.0, all_more good (i + 1) ns n (paths_after (branch k) q qs) ps p h all.1 is)

-- ---- shortened trees

-- nodes more on both sides
pub short_more : (short : List SymNode) (nodes tree : List Node) (n : SymNode) → IsShortOf nodes short → IsShortOf tree (n ∷ [])
    → IsShortOf (nodes ++ tree) (short ++ n ∷ [])
short_more [] nodes tree n h one =
    subst (λ (ns : List Node). IsShortOf (ns ++ tree) (n ∷ [])) (sym h) one
short_more (SymBranch v x ∷ short) nodes tree n h one = (
  h.0 ++ tree,
  ap (λ (ns : List Node). ns ++ tree) h.1,
  short_more short h.0 tree n h.2 one,
)
short_more (SymClosed ∷ short) nodes tree n h one = (
  h.0 ++ tree,
  ap (λ (ns : List Node). ns ++ tree) h.1,
  short_more short h.0 tree n h.2 one,
)
short_more (Mirror a b d ∷ short) nodes tree n h one = (
  h.0,
  h.1 ++ tree,
  ap (λ (ns : List Node). ns ++ tree) h.2 ∙ append_assoc h.0 h.1 tree,
  h.3,
  short_more short h.1 tree n h.4 one,
)
