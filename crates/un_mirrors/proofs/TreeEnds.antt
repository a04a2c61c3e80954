-- Where a whole tree in a list of nodes ends, by the number of trees that are owed.
use Rattle.std.proofs.Common.{ℕ, zero, suc, ◌≡◌, ◌+◌, ◌-◌, ◌<◌, List, [], ◌∷◌, ◌++◌, length, get_or, drop, Option, Some, None}
use Rattle.std.proofs.Common.{refl, sym, ap, subst, ◌∙◌, append_assoc, arith}
use Rattle.std.proofs.Math.Seq.{drop-cons}
use Rattle.std.proofs.Math.Numerals.{add-one}
use Rattle.std.proofs.lemmas.List.{append-nil, get_or_default}
use Rattle.un_base.specs.declared.ids.VarId.{VarId}
use Rattle.un_tree.specs.declared.node.Decision.{Decision}
use Rattle.un_tree.specs.declared.node.Node.{Node}
use Rattle.un_tree.specs.declared.node.Node.TheVariants.{Branch, Closed, Open, Split, Part}
use Rattle.un_walk.specs.Routes.{IsWholeBy, branch_at, paths_after}
use Rattle.un_mirrors.specs.Works.{BeginsWithTree, IsTreeTo, Leads}
use Rattle.un_mirrors.proofs.Trees.{leads_more, leads_whole, whole_leads}

-- so many trees are owed at a place
pub record IsOwed (nodes : List Node) (from to owed : ℕ) : Type 0 where
  pub tree : List Node
  pub paths : List (List Decision)
  pub behind : List (List Decision)
  pub split : drop from nodes ≡ tree ++ drop to nodes
  pub leads : Leads branch_at tree ([] ∷ []) paths
  pub whole : IsWholeBy branch_at (drop to nodes) (paths ++ behind)
  pub count : length paths ≡ owed

-- at first one is
pub one_owed : (nodes : List Node) (from : ℕ) → BeginsWithTree (drop from nodes) → IsOwed nodes from from 1
one_owed nodes from h = record {
  tree = [];
  paths = [] ∷ [];
  behind = h.behind;
  split = refl;
  leads = refl;
  whole = leads_whole branch_at (drop from nodes) ([] ∷ h.behind)
      (subst (Leads branch_at (drop from nodes) ([] ∷ h.behind)) refl (again (drop from nodes) (h.path ∷ h.behind) ([] ∷ h.behind) h.whole refl));
  count = refl;
}
  where
    again : (ns : List Node) (qs ps : List (List Decision)) → IsWholeBy branch_at ns qs → length ps ≡ length qs → Leads branch_at ns ps []
    again ns qs ps h e = subst (λ (rs : List (List Decision)). Leads branch_at ns rs []) (append-nil ps) (whole_leads branch_at ns qs ps [] h e)

-- where some are, there is a node more
some_node : (ns : List Node) (paths behind : List (List Decision)) → IsWholeBy branch_at ns (paths ++ behind) → 0 < length paths → 0 < length ns
some_node [] [] behind whole some = absurd (omega (arith, some))
some_node [] (p ∷ ps) behind whole some = absurd (cc whole)
some_node (n ∷ ns) paths behind whole some = omega arith

pub owed_inside : (nodes : List Node) (from to owed : ℕ) → IsOwed nodes from to owed → 0 < owed → to < length nodes
owed_inside nodes from to owed h some =
    inside nodes to (some_node (drop to nodes) h.paths h.behind h.whole (let e = h.count in omega (arith, e, some)))
  where
    inside : (ns : List Node) (k : ℕ) → 0 < length (drop k ns) → k < length ns
    inside [] zero lt = lt
    inside [] (suc k) lt = absurd (omega (arith, lt))
    inside (n ∷ ns) zero lt = omega arith
    inside (n ∷ ns) (suc k) lt = let less = inside ns k lt in omega (arith, less)

-- a node more: a branch is owed one tree more than before, and a leaf one less
after_owed : (o : Option (VarId × ℕ)) (path : List Decision) (paths behind : List (List Decision))
    → paths_after o path (paths ++ behind) ≡ paths_after o path paths ++ behind
after_owed None path paths behind = refl
after_owed (Some b) path paths behind = refl

module _ (nodes : List Node) (from to owed next : ℕ) (n : Node) (lt : to < length nodes) (is : n ≡ get_or nodes to n)
    (counts : (p : List Decision) (ps : List (List Decision)) → length (p ∷ ps) ≡ owed → length (paths_after (branch_at n) p ps) ≡ next) where
  here : drop to nodes ≡ n ∷ drop (to + 1) nodes
  here = drop-cons nodes to n lt ∙ (ap (λ (m : Node). m ∷ drop (suc to) nodes) (sym is)
      ∙ ap (λ (k : ℕ). n ∷ drop k nodes) (sym (add-one to)))

  by : (tree : List Node) (paths behind : List (List Decision)) → drop from nodes ≡ tree ++ drop to nodes
      → Leads branch_at tree ([] ∷ []) paths → IsWholeBy branch_at (drop to nodes) (paths ++ behind) → length paths ≡ owed → 0 < owed
      → IsOwed nodes from (to + 1) next
  by tree [] behind split leads whole e some = absurd (omega (arith, e, some))
  by tree (p ∷ ps) behind split leads whole e some = record {
    tree = tree ++ n ∷ [];
    paths = paths_after (branch_at n) p ps;
    behind = behind;
    split = split ∙ (ap (λ (ns : List Node). tree ++ ns) here ∙ sym (append_assoc tree (n ∷ []) (drop (to + 1) nodes)));
    leads = leads_more branch_at tree n ([] ∷ []) ps p leads;
    whole = subst (IsWholeBy branch_at (drop (to + 1) nodes)) (after_owed (branch_at n) p ps behind)
        (subst (λ (ns : List Node). IsWholeBy branch_at ns (p ∷ (ps ++ behind))) here whole);
    count = counts p ps e;
  }

  owed_more : IsOwed nodes from to owed → 0 < owed → IsOwed nodes from (to + 1) next
  owed_more h some = by h.tree h.paths h.behind h.split h.leads h.whole h.count some

branch_owes : (n : Node) (v : VarId) (x owed : ℕ) → n ≡ Branch v x → (p : List Decision) (ps : List (List Decision))
    → length (p ∷ ps) ≡ owed → length (paths_after (branch_at n) p ps) ≡ owed + 1
branch_owes n v x owed e p ps long =
    subst (λ (k : Node). length (paths_after (branch_at k) p ps) ≡ owed + 1) (sym e) (omega (arith, long))

-- the other nodes are leaves
leaf_owes : (n : Node) (owed : ℕ) → ((v : VarId) (x : ℕ) → n ≡ Branch v x → ⊥) → (p : List Decision) (ps : List (List Decision))
    → length (p ∷ ps) ≡ owed → length (paths_after (branch_at n) p ps) ≡ owed - 1
leaf_owes (Branch v x) owed never p ps long = absurd (never v x refl)
leaf_owes Closed owed never p ps long = omega (arith, long)
leaf_owes Open owed never p ps long = omega (arith, long)
leaf_owes Split owed never p ps long = omega (arith, long)
leaf_owes (Part number) owed never p ps long = omega (arith, long)

module _ (nodes : List Node) (from to owed : ℕ) (d : Node) (lt : to < length nodes) (h : IsOwed nodes from to owed) (some : 0 < owed) where
  abbrev at : Node
  at = get_or nodes to d

  read : at ≡ get_or nodes to at
  read = get_or_default nodes to d at lt

  pub owed_branch : (v : VarId) (x : ℕ) → at ≡ Branch v x → IsOwed nodes from (to + 1) (owed + 1)
  owed_branch v x e = owed_more nodes from to owed (owed + 1) at lt read (branch_owes at v x owed e) h some

  pub owed_leaf : ((v : VarId) (x : ℕ) → at ≡ Branch v x → ⊥) → IsOwed nodes from (to + 1) (owed - 1)
  owed_leaf never = owed_more nodes from to owed (owed - 1) at lt read (leaf_owes at owed never) h some

-- at the end none is
pub none_owed : (nodes : List Node) (from to : ℕ) → IsOwed nodes from to 0 → IsTreeTo nodes from to
none_owed nodes from to h = record {
  tree = h.tree;
  split = h.split;
  one = leads_whole branch_at h.tree ([] ∷ [])
      (subst (Leads branch_at h.tree ([] ∷ [])) (nothing h.paths h.count) h.leads);
}
  where
    nothing : (ps : List (List Decision)) → length ps ≡ 0 → ps ≡ []
    nothing [] e = refl
    nothing (p ∷ ps) e = absurd (omega (arith, e))
