-- A shortened tree of a search is one that the check accepts.
use Rattle.std.proofs.Common.{ℕ, ◌≡◌, ◌≤◌, List, [], ◌∷◌, length, length-append, map, None, Some, All, ap, subst, arith}
use Rattle.std.specs.Prelude.{IfOk}
use Rattle.std.specs.declared.result.Result.{Result}
use Rattle.std.specs.declared.result.Result.TheVariants.{Ok, Err}
use Rattle.un_base.specs.declared.memory_error.NoMemory.{NoMemory}
use Rattle.std.specs.declared.option.Option.{Option}
use Rattle.std.specs.List.{AllByRecursion}
use Rattle.std.proofs.lemmas.List.Elements.{recursion_from_All, All-from_recursion, All-contains}
use Rattle.un_model.specs.Boxes.{root_of}
use Rattle.un_model.specs.declared.model.Model.{Model}
use Rattle.un_post.specs.Posts.{fix_at}
use Rattle.un_tree.specs.Boxes.{reached}
use Rattle.un_tree.specs.Searched.{IsSearched}
use Rattle.un_tree.specs.Waits.{Visit, IsPlain}
use Rattle.un_tree.specs.declared.node.Decision.{Decision}
use Rattle.un_tree.specs.declared.node.Node.{Node}
use Rattle.un_tree.specs.declared.node.Node.TheVariants.{Closed}
use Rattle.un_walk.specs.Routes.{IsWholeBy, Route, visit_at}
use Rattle.un_walk.proofs.RouteLemmas.{visits_are}
use Rattle.un_symtree.specs.declared.node.SymNode.{SymNode}
use Rattle.un_symtree.specs.declared.node.SymNode.TheVariants.{Branch as SymBranch, Closed as SymClosed, Mirror}
use Rattle.un_mirrors.specs.Mirrors.{sym_branch_at}
use Rattle.un_mirrors.specs.Shortened.{IsKept, IsOneTree, IsShortOf, SplitsAt, MirrorsAt, StandsAt, sym_routes, tree_routes}
use Rattle.un_symtree.specs.declared.node.SymTree.{SymTree}
use Rattle.un_certificate.specs.Joints.{blocks_of, visits_in}
use Rattle.un_refutes.specs.SymVerdicts.{IsSymVerdict, Keeps, KeepsAt}
use Rattle.un_refutes.specs.declared.verdict.SymVerdict.TheVariants.{Yes}

-- what holds of the visits of routes holds of the routes
unmapped : (P : Visit → Type 0) (f : Route Node → Visit) (rs : List (Route Node)) → AllByRecursion P (map f rs)
    → AllByRecursion (λ (r : Route Node). P (f r)) rs
unmapped P f [] h = tt
unmapped P f (r ∷ rs) h = (h.0, unmapped P f rs h.1)

module _ (m : Model) (limit : Option ℕ) (t : List Node) (plain : All IsPlain t)
    (searched : All (IsSearched (fix_at m limit)) (visits_in m t)) where
  by_routes : All (λ (r : Route Node). IsSearched (fix_at m limit) (visit_at (root_of m) r)) (tree_routes t)
  by_routes = All-from_recursion _ (tree_routes t) (unmapped (IsSearched (fix_at m limit)) (visit_at (root_of m)) (tree_routes t)
      (recursion_from_All (IsSearched (fix_at m limit)) (map (visit_at (root_of m)) (tree_routes t))
      (subst (All (IsSearched (fix_at m limit)))
      (visits_are (blocks_of m) (root_of m) 0 t ([] ∷ []) (recursion_from_All IsPlain t plain)) searched)))

  -- the rounds fail at a closed leaf of a search's tree
  leaf_lost : (path : List Decision) → StandsAt t Closed path → fix_at m limit (reached (root_of m) path) ≡ None
  leaf_lost path h = All-contains (λ (r : Route Node). IsSearched (fix_at m limit) (visit_at (root_of m) r)) (tree_routes t)
      (record { node = Closed; path = path; place = h.place; rest = h.rest }) by_routes h.there

  node_keeps : (n : SymNode) (path : List Decision) → IsKept t n path → SplitsAt (root_of m) n path → MirrorsAt m n path → KeepsAt m limit n path
  node_keeps (SymBranch v x) path kept splits mirrors = splits
  node_keeps SymClosed path kept splits mirrors = leaf_lost path kept
  node_keeps (Mirror a b d) path kept splits mirrors = mirrors

  routes_keep : (rs : List (Route SymNode)) → AllByRecursion (λ (r : Route SymNode). IsKept t r.node r.path) rs
      → AllByRecursion (λ (r : Route SymNode). SplitsAt (root_of m) r.node r.path) rs
      → AllByRecursion (λ (r : Route SymNode). MirrorsAt m r.node r.path) rs → AllByRecursion (Keeps m limit) rs
  routes_keep [] kept splits mirrors = tt
  routes_keep (r ∷ rs) kept splits mirrors =
      (node_keeps r.node r.path kept.0 splits.0 mirrors.0, routes_keep rs kept.1 splits.1 mirrors.1)

  -- each node of the shortened tree keeps its point
  pub all_keep : (u : List SymNode) → All (λ (r : Route SymNode). IsKept t r.node r.path) (sym_routes u)
      → All (λ (r : Route SymNode). SplitsAt (root_of m) r.node r.path) (sym_routes u)
      → All (λ (r : Route SymNode). MirrorsAt m r.node r.path) (sym_routes u) → All (Keeps m limit) (sym_routes u)
  all_keep u kept splits mirrors = All-from_recursion (Keeps m limit) (sym_routes u) (routes_keep (sym_routes u)
      (recursion_from_All _ (sym_routes u) kept) (recursion_from_All _ (sym_routes u) splits) (recursion_from_All _ (sym_routes u) mirrors))

-- ---- how many nodes there are

tree_some : (tree : List Node) → IsOneTree tree → 1 ≤ length tree
tree_some [] whole = absurd (cc whole)
tree_some (n ∷ ns) whole = omega arith

-- a shortened tree has no more nodes
pub short_few : (t : List Node) (u : List SymNode) → IsShortOf t u → length u ≤ length t
short_few t [] h = omega arith
short_few t (SymBranch v x ∷ short) h = let next = short_few h.0 short h.2 in omega (arith, next, ap length h.1)
short_few t (SymClosed ∷ short) h = let next = short_few h.0 short h.2 in omega (arith, next, ap length h.1)
short_few t (Mirror a b d ∷ short) h =
    let next = short_few h.1 short h.4 in
    omega (arith, next, tree_some h.0 h.3, ap length h.2, length-append h.0 h.1)

-- a whole tree has one
pub sym_some : (u : List SymNode) → IsWholeBy sym_branch_at u ([] ∷ []) → 1 ≤ length u
sym_some [] whole = absurd (cc whole)
sym_some (n ∷ ns) whole = omega arith

-- ---- what shortening answers

pub yes_of : (m : Model) (limit : ℕ) (t : List Node) (result : Result SymTree NoMemory)
    → All IsPlain t → All (IsSearched (fix_at m (Some limit))) (visits_in m t)
    → IfOk result (λ u. IsWholeBy sym_branch_at u.nodes.items ([] ∷ []))
    → IfOk result (λ u. All (λ (r : Route SymNode). IsKept t r.node r.path) (sym_routes u.nodes.items))
    → IfOk result (λ u. All (λ (r : Route SymNode). SplitsAt (root_of m) r.node r.path) (sym_routes u.nodes.items))
    → IfOk result (λ u. All (λ (r : Route SymNode). MirrorsAt m r.node r.path) (sym_routes u.nodes.items))
    → IfOk result (λ u. IsSymVerdict m limit u.nodes.items Yes)
yes_of m limit t (Err e) plain searched whole kept splits mirrors = tt
yes_of m limit t (Ok u) plain searched whole kept splits mirrors =
    record { whole = whole; kept = all_keep m (Some limit) t plain searched u.nodes.items kept splits mirrors }

pub few_of : (t : List Node) (result : Result SymTree NoMemory) → IfOk result (λ u. IsShortOf t u.nodes.items)
    → IfOk result (λ u. length u.nodes.items ≤ length t)
few_of t (Err e) cuts = tt
few_of t (Ok u) cuts = short_few t u.nodes.items cuts
