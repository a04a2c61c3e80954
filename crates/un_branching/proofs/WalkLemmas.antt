-- Walks along a tree that grows.
use Rattle.std.proofs.Common.{◌≡◌, ℕ, zero, suc, ◌+◌, ◌-◌, ◌<◌, List, [], ◌∷◌, ◌++◌, length, map, reverse, get_or, refl, sym, ap, subst}
use Rattle.std.proofs.Common.{Option, Some, None}
use Rattle.std.proofs.Common.{◌∙◌, append_assoc, arith}
use Rattle.std.proofs.lemmas.List.{get_or_default, reverse-append}
use Rattle.std.specs.Bool.{⊤}
use Rattle.un_domains.specs.Sets.{Sets}
use Rattle.un_tree.specs.declared.node.Node.{Node}
use Rattle.un_tree.specs.declared.node.Decision.{Decision}
use Rattle.un_branching.specs.declared.growth.Entry.{Entry}
use Rattle.un_branching.specs.declared.growth.Link.{Link}
use Rattle.un_tree.specs.Boxes.{Splits, reached, decided}
use Rattle.un_walk.proofs.Paths.{reached-push, split_snoc}
use Rattle.un_walk.specs.Stands.{AllSplit}
use Rattle.un_branching.proofs.LinkLemmas.{earlier_more}
use Rattle.un_branching.specs.Growths.{link_at, box_under, IsEarlier, IsSplit, node_of, next_of, follow, Stays, blank}

-- the box after decisions, the last one first
abbrev pub back : Sets → List Decision → Sets
back b [] = b
back b (d ∷ ds) = decided d (back b ds)

-- each of them splits the box that it finds
abbrev pub AllSplitBack : Sets → List Decision → Type 0
AllSplitBack b [] = ⊤
AllSplitBack b (d ∷ ds) = Splits (back b ds) d.var d.val × AllSplitBack b ds

reached-reverse : (b : Sets) (ds : List Decision) → reached b (reverse ds) ≡ back b ds
reached-reverse b [] = refl
reached-reverse b (d ∷ ds) = ap (reached b) (reverse-append (d ∷ []) ds)
    ∙ (reached-push b (reverse ds) d ∙ ap (decided d) (reached-reverse b ds))

split-reverse : (b : Sets) (ds : List Decision) → AllSplitBack b ds → AllSplit b (reverse ds)
split-reverse b [] all = tt
split-reverse b (d ∷ ds) all = subst (AllSplit b) (sym (reverse-append (d ∷ []) ds))
    (split_snoc b (reverse ds) d (split-reverse b ds all.1)
    (subst (λ (c : Sets). Splits c d.var d.val) (sym (reached-reverse b ds)) all.0))

-- the decisions so far lead from the node with the link `at` to the one with the link `link`
pub record Leads (bs : List (Option Link)) (link at : Option Link) (ds : List Decision) : Type 0 where
  pub there : IsEarlier (length bs) at
  pub leads : (root : Sets) (box : ℕ → Sets) → ((i : ℕ) → i < length bs → box i ≡ box_under root box (link_at bs i))
      → back (box_under root box at) ds ≡ box_under root box link
  pub split : (root : Sets) (box : ℕ → Sets) → ((i : ℕ) → i < length bs → box i ≡ box_under root box (link_at bs i))
      → ((i : ℕ) → i < length bs → IsSplit box (link_at bs i)) → IsSplit box link
      → AllSplitBack (box_under root box at) ds × IsSplit box at

-- how far it is to the root, at most
abbrev pub far : Option Link → ℕ
far None = 0
far (Some l) = l.parent + 1

pub far_less : (n : ℕ) (link : Option Link) → IsEarlier n link → far link < n + 1
far_less n None h = omega arith
far_less n (Some l) h = omega (arith, h)

back-push : (b : Sets) (ds : List Decision) (d : Decision) → back b (ds ++ d ∷ []) ≡ back (decided d b) ds
back-push b [] d = refl
back-push b (e ∷ ds) d = ap (decided e) (back-push b ds d)

split-push : (b : Sets) (ds : List Decision) (d : Decision) → AllSplitBack (decided d b) ds → Splits b d.var d.val
    → AllSplitBack b (ds ++ d ∷ [])
split-push b [] d all one = (one, tt)
split-push b (e ∷ ds) d all one =
    (subst (λ (c : Sets). Splits c e.var e.val) (sym (back-push b ds d)) all.0, split-push b ds d all.1 one)

pub leads_more : (bs : List (Option Link)) (link at : Option Link) (l : Link) (ds es : List Decision) (d : Option Link)
    → ((i : ℕ) → i < length bs → IsEarlier i (link_at bs i)) → at ≡ Some l → Leads bs link at ds → es ≡ ds ++ l.decision ∷ []
    → Leads bs link (get_or bs l.parent d) es
leads_more bs link at l ds es d earlier is h e =
    let h' : Leads bs link (Some l) ds = subst (λ (o : Option Link). Leads bs link o ds) is h in
    rw (get_or_default bs l.parent d None h'.there) (record {
      there = earlier_more l.parent (length bs) (link_at bs l.parent) (omega (arith, h'.there)) (earlier l.parent h'.there);
      leads = λ root box all.
          ap (back (box_under root box (link_at bs l.parent))) e ∙ (back-push (box_under root box (link_at bs l.parent)) ds l.decision
          ∙ (ap (λ (b : Sets). back (decided l.decision b) ds) (sym (all l.parent h'.there)) ∙ h'.leads root box all));
      split = λ root box all each mine.
          let so = h'.split root box all each mine in
          let above = all l.parent h'.there in (
            subst (AllSplitBack (box_under root box (link_at bs l.parent))) (sym e)
                (split-push (box_under root box (link_at bs l.parent)) ds l.decision
                (subst (λ (b : Sets). AllSplitBack (decided l.decision b) ds) above so.0)
                (subst (λ (b : Sets). Splits b l.decision.var l.decision.val) above so.1)),
            each l.parent h'.there,
          );
    })

pub leads_all : (bs : List (Option Link)) (link at : Option Link) (ds ps : List Decision) → ((l : Link) → at ≡ Some l → ⊥)
    → Leads bs link at ds → ps ≡ reverse ds → (root : Sets) (box : ℕ → Sets)
    → ((i : ℕ) → i < length bs → box i ≡ box_under root box (link_at bs i)) → reached root ps ≡ box_under root box link
leads_all bs link (Some l) ds ps last h turned root box all = absurd (last l refl)
leads_all bs link None ds ps last h turned root box all = ap (reached root) turned ∙ (reached-reverse root ds ∙ h.leads root box all)

pub split_all : (bs : List (Option Link)) (link at : Option Link) (ds ps : List Decision) → ((l : Link) → at ≡ Some l → ⊥)
    → Leads bs link at ds → ps ≡ reverse ds → (root : Sets) (box : ℕ → Sets)
    → ((i : ℕ) → i < length bs → box i ≡ box_under root box (link_at bs i)) → ((i : ℕ) → i < length bs → IsSplit box (link_at bs i))
    → IsSplit box link → AllSplit root ps
split_all bs link (Some l) ds ps last h turned root box all each mine = absurd (last l refl)
split_all bs link None ds ps last h turned root box all each mine =
    subst (AllSplit root) (sym turned) (split-reverse root ds (h.split root box all each mine).0)

-- the nodes so far and those that are left are all
pub record Lists (tree : List Entry) (left at : ℕ) (nodes : List Node) : Type 0 where
  pub stays : Stays tree left at
  pub all : nodes ++ map (node_of tree) (follow (next_of tree) left at) ≡ map (node_of tree) (follow (next_of tree) (length tree) 0)

pub lists_there : (tree : List Entry) (left at : ℕ) → 0 < left → Stays tree left at → at < length tree
lists_there tree zero at some h = absurd (omega arith)
lists_there tree (suc n) at some h = h.0

pub lists_more : (tree : List Entry) (left at : ℕ) (ns ms : List Node) (d : Entry) → 0 < left → Lists tree left at ns → ms
    ≡ ns ++ (get_or tree at d).node ∷ [] → Lists tree (left - 1) (get_or tree at d).next ms
lists_more tree zero at ns ms d some h e = absurd (omega arith)
lists_more tree (suc n) at ns ms d some h e =
    let less : suc n - 1 ≡ n = omega arith in
    let same = get_or_default tree at d blank h.stays.0 in
    rw (less, same) (record {
      stays = h.stays.1;
      all = ap (λ (xs : List Node). xs ++ map (node_of tree) (follow (next_of tree) n (next_of tree at))) (subst (λ (w : Entry). ms
          ≡ ns ++ w.node ∷ []) same e)
          ∙ (append_assoc ns (node_of tree at ∷ []) (map (node_of tree) (follow (next_of tree) n (next_of tree at))) ∙ h.all);
    })

append-nil : (xs : List Node) → xs ++ [] ≡ xs
append-nil [] = refl
append-nil (x ∷ xs) = ap (λ (ys : List Node). x ∷ ys) (append-nil xs)

pub lists_all : (tree : List Entry) (left at : ℕ) (ns : List Node) → left ≡ 0 → Lists tree left at ns → ns
    ≡ map (node_of tree) (follow (next_of tree) (length tree) 0)
lists_all tree zero at ns none h = sym (append-nil ns) ∙ h.all
lists_all tree (suc n) at ns none h = absurd (omega arith)
