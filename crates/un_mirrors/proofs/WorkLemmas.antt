-- How far the shortening of a tree has come, node after node.
use Rattle.std.proofs.Common.{ℕ, zero, suc, ◌≡◌, ◌+◌, ◌-◌, ◌<◌, ◌≤◌, Bool, true, false, List, [], ◌∷◌, ◌++◌, length, get_or, drop, map}
use Rattle.std.proofs.Common.{Option, None, IfSome, All, Contains, refl, sym, ap, subst, ◌∙◌, append_assoc, arith}
use Rattle.std.specs.List.{AllByRecursion}
use Rattle.std.proofs.Math.Seq.{drop-cons}
use Rattle.std.proofs.Math.Numerals.{add-one}
use Rattle.std.proofs.lemmas.List.{append-nil, length-drop}
use Rattle.std.proofs.lemmas.List.Elements.{All-contains, All-from_recursion, All-push, All-nil, recursion_from_All}
use Rattle.un_base.specs.declared.ids.VarId.{VarId}
use Rattle.un_domains.specs.Sets.{Sets}
use Rattle.un_model.specs.Boxes.{root_of}
use Rattle.un_model.specs.declared.model.Model.{Model}
use Rattle.un_tree.specs.Boxes.{Splits, reached}
use Rattle.un_tree.specs.Waits.{HasSides, HasSidesIn, IsPlain, Visit, Whole, visits_of}
use Rattle.un_tree.specs.declared.node.Decision.{Decision}
use Rattle.un_tree.specs.declared.node.Node.{Node}
use Rattle.un_tree.specs.declared.node.Node.TheVariants.{Branch, Closed, Open, Split, Part}
use Rattle.un_walk.specs.Routes.{IsWholeBy, Route, branch_at, paths_after, routes, visit_at}
use Rattle.un_walk.specs.Stands.{IsStandAt}
use Rattle.un_walk.specs.Turns.{paths_at, paths_behind}
use Rattle.un_walk.proofs.RouteLemmas.{strict_by, visits_are, whole_are}
use Rattle.un_symtree.specs.SymTexts.{SymFits}
use Rattle.un_symtree.specs.declared.node.SymNode.{SymNode}
use Rattle.un_symtree.specs.declared.node.SymNode.TheVariants.{Branch as SymBranch, Closed as SymClosed, Mirror}
use Rattle.un_mirrors.specs.Mirrors.{sym_branch_at}
use Rattle.un_mirrors.specs.Shortened.{IsMirrorOnNearest, IsOneTree, IsShortOf, StandsAt}
use Rattle.un_mirrors.specs.Shortened.{sym_routes, tree_routes}
use Rattle.un_mirrors.specs.Works.{IsMade, IsMirrorHere, IsSameNode, IsShortenable, IsTreeTo, IsWork, Leads}
use Rattle.un_mirrors.specs.declared.shorten.Work.{Work}
use Rattle.un_mirrors.proofs.Trees.{all_more, contains_first, leads_more, leads_whole, routes_behind, short_more, whole_behind, whole_leads}

-- ---- the tree

contains_map : {X Y : Type 0} (f : X → Y) (xs : List X) (x : X) → Contains xs x → Contains (map f xs) (f x)
contains_map f [] x h = absurd (let lt = h.1 in omega (arith, lt))
contains_map {X} {Y} f (y ∷ ys) x (zero, lt, e) = (zero, omega arith, ap f e)
contains_map {X} {Y} f (y ∷ ys) x (suc k, lt, e) =
    let rest = contains_map f ys x (k, omega (arith, lt), e) in let less = rest.1 in (suc rest.0, omega (arith, less), rest.2)

-- a node of the tree is strict in the box at the end of its path
pub strict_at : (blocks : ℕ) (root : Sets) (nodes : List Node) → All IsPlain nodes → All HasSides (visits_of blocks root nodes)
    → (r : Route Node) → Contains (tree_routes nodes) r → HasSidesIn r.node (Whole (reached root r.path))
strict_at blocks root nodes plain strict r h = All-contains HasSides (visits_of blocks root nodes) (visit_at root r) strict
    (subst (λ (vs : List Visit). Contains vs (visit_at root r))
    (sym (visits_are blocks root 0 nodes ([] ∷ []) (recursion_from_All IsPlain nodes plain)))
    (contains_map (visit_at root) (tree_routes nodes) r h))

-- ---- nodes of the shortened tree

module _ (m : Model) (nodes : List Node) (path : List Decision) where
  -- one that is kept
  pub made_same : (n : Node) (s : SymNode) → IsSameNode n s → StandsAt nodes n path → HasSidesIn n (Whole (reached (root_of m) path))
      → ((a : ℕ) → IsMirrorOnNearest m a path → ⊥) → IsMade m nodes s path
  made_same (Branch v x) s same stands strict none = subst (λ (k : SymNode). IsMade m nodes k path) (sym same) (record {
    kept = stands;
    splits = strict;
    mirrors = tt;
    no_more = λ a is h. none a h;
  })
  made_same Closed s same stands strict none = subst (λ (k : SymNode). IsMade m nodes k path) (sym same) (record {
    kept = stands;
    splits = tt;
    mirrors = tt;
    no_more = λ a is h. none a h;
  })
  made_same Open s same stands strict none = absurd same
  made_same Split s same stands strict none = absurd same
  made_same (Part number) s same stands strict none = absurd same

  -- a mirror
  pub made_mirror : (s : SymNode) → IsMirrorHere m path s → IsMade m nodes s path
  made_mirror (SymBranch v x) h = absurd h
  made_mirror SymClosed h = absurd h
  made_mirror (Mirror a b d) h = record { kept = tt; splits = tt; mirrors = h; no_more = λ k is near. is }

pub same_branch : (n : Node) (s : SymNode) → IsSameNode n s → sym_branch_at s ≡ branch_at n
same_branch (Branch v x) s same = ap sym_branch_at same
same_branch Closed s same = ap sym_branch_at same
same_branch Open s same = absurd same
same_branch Split s same = absurd same
same_branch (Part number) s same = absurd same

pub mirror_branch : (m : Model) (path : List Decision) (s : SymNode) → IsMirrorHere m path s → sym_branch_at s ≡ None
mirror_branch m path (SymBranch v x) h = absurd h
mirror_branch m path SymClosed h = absurd h
mirror_branch m path (Mirror a b d) h = refl

-- one node, kept
pub short_same : (n : Node) (s : SymNode) → IsSameNode n s → IsShortOf (n ∷ []) (s ∷ [])
short_same (Branch v x) s same = subst (λ (k : SymNode). IsShortOf (Branch v x ∷ []) (k ∷ [])) (sym same) ([], refl, refl)
short_same Closed s same = subst (λ (k : SymNode). IsShortOf (Closed ∷ []) (k ∷ [])) (sym same) ([], refl, refl)
short_same Open s same = absurd same
short_same Split s same = absurd same
short_same (Part number) s same = absurd same

-- a tree, put as a mirror
pub short_mirror : (m : Model) (path : List Decision) (tree : List Node) (s : SymNode) → IsMirrorHere m path s → IsOneTree tree
    → IsShortOf tree (s ∷ [])
short_mirror m path tree (SymBranch v x) h one = absurd h
short_mirror m path tree SymClosed h one = absurd h
short_mirror m path tree (Mirror a b d) h one = (tree, [], sym (append-nil tree), one, refl)

-- ---- one node more

module _ (m : Model) (nodes : List Node) (w q : Work) (h : IsWork m nodes w) (more : w.more ≡ true) where
  abbrev path : List Decision
  path = w.stand.path.items

  abbrev behind : List (List Decision)
  behind = paths_behind [] path

  pub waits_here : IsWholeBy branch_at (drop w.place nodes) (path ∷ behind)
  waits_here = subst (λ (b : Bool). IsWholeBy branch_at (drop w.place nodes) (paths_at path b)) more h.waits

  seen_here : (r : Route Node) → Contains (routes branch_at h.number (drop w.place nodes) (path ∷ behind)) r → Contains (tree_routes nodes) r
  seen_here = subst (λ (b : Bool). (r : Route Node) → Contains (routes branch_at h.number (drop w.place nodes) (paths_at path b)) r
      → Contains (tree_routes nodes) r) more h.seen

  leads_here : Leads sym_branch_at w.nodes.items ([] ∷ []) (path ∷ behind)
  leads_here = subst (λ (b : Bool). Leads sym_branch_at w.nodes.items ([] ∷ []) (paths_at path b)) more h.leads

  -- the next node stands in the tree
  pub stands_here : (n : Node) (rest : List Node) → drop w.place nodes ≡ n ∷ rest → StandsAt nodes n path
  stands_here n rest e = record {
    place = h.number;
    rest = rest;
    there = seen_here (record { node = n; path = path; place = h.number; rest = rest })
        (subst (λ (ns : List Node). Contains (routes branch_at h.number ns (path ∷ behind))
        (record { node = n; path = path; place = h.number; rest = rest })) (sym e)
        (contains_first (routes branch_at (h.number + 1) rest (paths_after (branch_at n) path behind))
        (record { node = n; path = path; place = h.number; rest = rest })));
  }

  pub work_more : (s : SymNode) (tree : List Node) → drop w.place nodes ≡ tree ++ drop q.place nodes
      → Leads branch_at tree (path ∷ behind) (paths_at q.stand.path.items q.more)
      → paths_after (sym_branch_at s) path behind ≡ paths_at q.stand.path.items q.more → IsShortOf tree (s ∷ [])
      → IsMade m nodes s path → q.nodes.items ≡ w.nodes.items ++ s ∷ [] → IsStandAt (root_of m) q.stand → q.place ≤ length nodes
      → SymFits s → IsWork m nodes q
  work_more s tree split leads after short made pushed at within fits = record {
    at = at;
    within = within;
    waits = whole_behind branch_at tree (drop q.place nodes) (path ∷ behind) (paths_at q.stand.path.items q.more) leads
        (subst (λ (ns : List Node). IsWholeBy branch_at ns (path ∷ behind)) split waits_here);
    number = h.number + length tree;
    seen = λ r there. seen_here r (subst (λ (ns : List Node). Contains (routes branch_at h.number ns (path ∷ behind)) r) (sym split)
        (routes_behind branch_at h.number (h.number + length tree) tree (drop q.place nodes) (path ∷ behind)
        (paths_at q.stand.path.items q.more) leads refl r there));
    done = h.done ++ tree;
    all = h.all ∙ (ap (λ (ns : List Node). h.done ++ ns) split ∙ sym (append_assoc h.done tree (drop q.place nodes)));
    short = subst (IsShortOf (h.done ++ tree)) (sym pushed) (short_more w.nodes.items h.done tree s h.short short);
    leads = subst (λ (ns : List SymNode). Leads sym_branch_at ns ([] ∷ []) (paths_at q.stand.path.items q.more)) (sym pushed)
        (subst (Leads sym_branch_at (w.nodes.items ++ s ∷ []) ([] ∷ [])) after
        (leads_more sym_branch_at w.nodes.items s ([] ∷ []) behind path leads_here));
    made = subst (λ (ns : List SymNode). AllByRecursion (λ (r : Route SymNode). IsMade m nodes r.node r.path) (sym_routes ns)) (sym pushed)
        (all_more sym_branch_at (IsMade m nodes) 0 w.nodes.items s ([] ∷ []) behind path leads_here h.made made);
    fit = subst (All SymFits) (sym pushed) (All-push SymFits w.nodes.items s h.fit fits);
  }

  -- there is one
  pub next_inside : w.place < length nodes
  next_inside = some (drop w.place nodes) waits_here (length-drop w.place nodes)
    where
      some : (ns : List Node) → IsWholeBy branch_at ns (path ∷ behind) → length ns ≡ length nodes - w.place → w.place < length nodes
      some [] whole e = absurd (cc whole)
      some (n ∷ ns) whole e = omega (arith, e)

  module _ (d : Node) where
    abbrev next : Node
    next = get_or nodes w.place d

    next_is : drop w.place nodes ≡ next ∷ drop (w.place + 1) nodes
    next_is = drop-cons nodes w.place d next_inside ∙ ap (λ (k : ℕ). next ∷ drop k nodes) (sym (add-one w.place))

    next_stands : StandsAt nodes next path
    next_stands = stands_here next (drop (w.place + 1) nodes) next_is

    next_strict : IsShortenable m nodes → HasSidesIn next (Whole (reached (root_of m) path))
    next_strict tree = strict_at (length m.ext.blocks) (root_of m) nodes tree.plain tree.strict
        (record { node = next; path = path; place = next_stands.place; rest = next_stands.rest }) next_stands.there

    -- the branch of it splits the box
    pub next_splits : (b : Option (VarId × ℕ)) → IsShortenable m nodes → b ≡ branch_at next
        → IfSome b (λ x. Splits w.stand.cuts.sets x.0 x.1)
    next_splits b tree is = subst (λ (box : Sets). IfSome b (λ x. Splits box x.0 x.1)) (sym h.at.sets)
        (strict_by (root_of m) next path b is (next_strict tree))

    -- kept
    pub work_kept : (s : SymNode) (b : Option (VarId × ℕ)) → IsShortenable m nodes → ((a : ℕ) → IsMirrorOnNearest m a path → ⊥)
        → IsSameNode next s → b ≡ branch_at next → paths_after b path behind ≡ paths_at q.stand.path.items q.more
        → q.nodes.items ≡ w.nodes.items ++ s ∷ [] → IsStandAt (root_of m) q.stand → q.place ≡ w.place + 1 → SymFits s
        → IsWork m nodes q
    work_kept s b tree none same is after pushed at place fits =
        let leads : paths_after (branch_at next) path behind ≡ paths_at q.stand.path.items q.more =
        ap (λ (o : Option (VarId × ℕ)). paths_after o path behind) (sym is) ∙ after in
        work_more s (next ∷ []) (next_is ∙ ap (λ (k : ℕ). next ∷ drop k nodes) (sym place)) leads
        (ap (λ (o : Option (VarId × ℕ)). paths_after o path behind) (same_branch next s same) ∙ leads) (short_same next s same)
        (made_same m nodes path next s same next_stands (next_strict tree) none) pushed at (let lt = next_inside in omega (arith, lt, place)) fits

  -- put as a mirror
  pub work_put : (s : SymNode) → IsMirrorHere m path s → IsTreeTo nodes w.place q.place → behind ≡ paths_at q.stand.path.items q.more
      → q.nodes.items ≡ w.nodes.items ++ s ∷ [] → IsStandAt (root_of m) q.stand → q.place ≤ length nodes → SymFits s
      → IsWork m nodes q
  work_put s here to after pushed at within fits = work_more s to.tree to.split
      (subst (Leads branch_at to.tree (path ∷ behind)) after (whole_leads branch_at to.tree ([] ∷ []) (path ∷ []) behind to.one refl))
      (ap (λ (o : Option (VarId × ℕ)). paths_after o path behind) (mirror_branch m path s here) ∙ after)
      (short_mirror m path to.tree s here to.one) (made_mirror m nodes path s here) pushed at within fits

-- ---- the first and the last

pub first_is : (m : Model) (nodes : List Node) (w : Work) → IsShortenable m nodes → IsStandAt (root_of m) w.stand
    → w.stand.path.items ≡ [] → w.more ≡ true → w.place ≡ 0 → w.nodes.items ≡ [] → IsWork m nodes w
first_is m nodes w tree at path more place none = record {
  at = at;
  within = omega (arith, place);
  waits = subst (IsWholeBy branch_at (drop w.place nodes)) paths (subst (λ (ns : List Node). IsWholeBy branch_at ns ([] ∷ [])) all whole);
  number = 0;
  seen = λ r. subst (λ (ps : List (List Decision)). Contains (routes branch_at 0 (drop w.place nodes) ps) r → Contains (tree_routes nodes) r) paths
      (subst (λ (ns : List Node). Contains (routes branch_at 0 ns ([] ∷ [])) r → Contains (tree_routes nodes) r) all (λ there. there));
  done = [];
  all = all;
  short = subst (IsShortOf []) (sym none) refl;
  leads = subst (λ (ns : List SymNode). Leads sym_branch_at ns ([] ∷ []) (paths_at w.stand.path.items w.more)) (sym none) paths;
  made = subst (λ (ns : List SymNode). AllByRecursion (λ (r : Route SymNode). IsMade m nodes r.node r.path) (sym_routes ns)) (sym none) tt;
  fit = subst (All SymFits) (sym none) (All-nil SymFits);
}
  where
    whole : IsWholeBy branch_at nodes ([] ∷ [])
    whole = whole_are (length m.ext.blocks) (root_of m) nodes ([] ∷ []) (recursion_from_All IsPlain nodes tree.plain) tree.whole

    all : nodes ≡ drop w.place nodes
    all = ap (λ (k : ℕ). drop k nodes) (sym place)

    paths : [] ∷ [] ≡ paths_at w.stand.path.items w.more
    paths = ap (λ (ds : List Decision). ds ∷ paths_behind [] ds) (sym path)
        ∙ ap (paths_at w.stand.path.items) (sym more)

module _ (m : Model) (nodes : List Node) (w : Work) (h : IsWork m nodes w) (over : w.more ≡ false) where
  none_left : drop w.place nodes ≡ []
  none_left = by (drop w.place nodes) (subst (λ (b : Bool). IsWholeBy branch_at (drop w.place nodes) (paths_at w.stand.path.items b)) over h.waits)
    where
      by : (ns : List Node) → IsWholeBy branch_at ns [] → ns ≡ []
      by [] whole = refl
      by (n ∷ ns) whole = absurd whole

  pub short_whole : IsShortOf nodes w.nodes.items
  short_whole = subst (λ (ns : List Node). IsShortOf ns w.nodes.items)
      (sym (h.all ∙ (ap (λ (ns : List Node). h.done ++ ns) none_left ∙ append-nil h.done))) h.short

  pub nodes_whole : IsWholeBy sym_branch_at w.nodes.items ([] ∷ [])
  nodes_whole = leads_whole sym_branch_at w.nodes.items ([] ∷ [])
      (subst (λ (b : Bool). Leads sym_branch_at w.nodes.items ([] ∷ []) (paths_at w.stand.path.items b)) over h.leads)

  pub all_made : All (λ (r : Route SymNode). IsMade m nodes r.node r.path) (sym_routes w.nodes.items)
  all_made = All-from_recursion (λ (r : Route SymNode). IsMade m nodes r.node r.path) (sym_routes w.nodes.items) h.made
