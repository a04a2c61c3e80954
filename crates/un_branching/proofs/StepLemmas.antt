-- An open node becomes a branch.
use Rattle.std.proofs.Common.{◌≡◌, ◌≢◌, ℕ, ◌+◌, ◌<◌, ◌≤◌, List, [], ◌∷◌, ◌++◌, length, get_or, All, Some, MatchOption, refl}
use Rattle.std.proofs.Common.{sym, ap, subst, ◌∙◌, inl, inr, arith}
use Rattle.std.specs.declared.option.Option.{Option}
use Rattle.std.proofs.lemmas.Bool.{cases_lt}
use Rattle.std.proofs.lemmas.List.{get_or_past}
use Rattle.un_base.specs.declared.ids.VarId.{VarId}
use Rattle.un_domains.specs.Sets.{Sets, NoneEmpty}
use Rattle.un_domains.specs.Order.{Below}
use Rattle.un_domains.specs.OrderLaws.{Below-refl, Below-trans}
use Rattle.un_domains.specs.declared.side.Side.{Side}
use Rattle.un_domains.specs.declared.side.Side.TheVariants.{AtMost, Above}
use Rattle.un_tree.specs.declared.node.Node.{Node}
use Rattle.un_tree.specs.declared.node.Node.TheVariants.{Branch, Closed, Open, Split, Part}
use Rattle.un_branching.specs.declared.growth.Entry.{Entry}
use Rattle.un_branching.specs.declared.growth.Link.{Link}
use Rattle.un_branching.specs.declared.open_nodes.OpenNode.{OpenNode}
use Rattle.un_tree.specs.declared.node.Decision.{Decision}
use Rattle.un_branching.specs.declared.problem.Look.{Look}
use Rattle.un_branching.specs.declared.problem.Expansion.{Expansion}
use Rattle.un_branching.specs.declared.attempt.Entered.{Entered}
use Rattle.un_branching.specs.declared.attempt.Entered.TheVariants.{Leaf}
use Rattle.un_tree.specs.Boxes.{IsBox, half, Splits, reached}
use Rattle.un_branching.specs.Growths.{Grown, Listed, node_of, next_of, branched, blank, count}
use Rattle.un_branching.specs.Growths.{HaveParents, IsSplit, box_under, link_at, link_to}
use Rattle.un_walk.specs.Stands.{AllSplit}
use Rattle.un_tree.specs.Searched.{IsSearchedAt, IsOpenBox, IsBefore}
use Rattle.un_branching.specs.Searched.{IsLook, IsExpansion}
use Rattle.un_branching.specs.Searching.{times, is_open, Noted, Searching, Taken, Enters}
use Rattle.un_branching.proofs.ListedLemmas.{IsLeaf, one_same, one_other, put, length-put, count-put, listed_fresh, listed_put}
use Rattle.un_branching.proofs.BranchedLemmas.{cases, new_long, new_old, new_branch, new_right, new_left, new_past, boxes, boxes_old}
use Rattle.un_branching.proofs.BranchedLemmas.{boxes_right, boxes_left}
use Rattle.un_branching.proofs.LinkLemmas.{earlier_more, pushed, pushed_long, pushed_under, pushed_split, pushed_box}
use Rattle.un_branching.proofs.BoxLemmas.{some_of, half_box, splits_box}
use Rattle.un_branching.proofs.HeapLemmas.{Adds, adds, adds_from}

abbrev pub is_branch : Node → ℕ
is_branch Open = 0
is_branch Closed = 0
is_branch (Branch v x) = 1
is_branch Split = 0
is_branch (Part number) = 0

pub open_is : (m : Node) → 0 < is_open m → m ≡ Open
open_is Open h = refl
open_is Closed h = absurd (omega (arith, h))
open_is (Branch v x) h = absurd (omega (arith, h))
open_is Split h = absurd (omega (arith, h))
open_is (Part number) h = absurd (omega (arith, h))

leaf_no_branch : (m : Node) → IsLeaf m → is_branch m ≡ 0
leaf_no_branch Open h = refl
leaf_no_branch Closed h = refl
leaf_no_branch (Branch v x) h = absurd h
leaf_no_branch Split h = absurd h
leaf_no_branch (Part number) h = absurd h

pub before_from : (bound : Sets → ℕ → Type 0) (m : Node) (b : Sets) (m' : Node) (c : Sets)
    → (is_branch m ≡ 1 → is_open m' ≡ 1 → (n k : ℕ) → bound b n → bound c k → n ≤ k) → IsBefore bound m b m' c
before_from bound (Branch v x) b (Branch w y) c h = tt
before_from bound (Branch v x) b Closed c h = tt
before_from bound (Branch v x) b Open c h = h refl refl
before_from bound (Branch v x) b Split c h = tt
before_from bound (Branch v x) b (Part number) c h = tt
before_from bound Closed b m' c h = tt
before_from bound Open b m' c h = tt
before_from bound Split b m' c h = tt
before_from bound (Part number) b m' c h = tt

before_at : (bound : Sets → ℕ → Type 0) (m : Node) (b : Sets) (m' : Node) (c : Sets) → IsBefore bound m b m' c → is_branch m ≡ 1 → m'
    ≡ Open → (n k : ℕ) → bound b n → bound c k → n ≤ k
before_at bound (Branch v x) b m' c h is e = subst (λ (o : Node). IsBefore bound (Branch v x) b o c) e h
before_at bound Closed b m' c h is e = absurd (omega (arith, is))
before_at bound Open b m' c h is e = absurd (omega (arith, is))
before_at bound Split b m' c h is e = absurd (omega (arith, is))
before_at bound (Part number) b m' c h is e = absurd (omega (arith, is))

adds_self : (i : ℕ) (m : Node) → adds i i m ≡ is_open m
adds_self i Open = one_same i
adds_self i Closed = refl
adds_self i (Branch v x) = refl
adds_self i Split = refl
adds_self i (Part number) = refl

adds_other : (j i : ℕ) (m : Node) → j ≢ i → adds j i m ≡ 0
adds_other j i Open h = one_other j i h
adds_other j i Closed h = refl
adds_other j i (Branch v x) h = refl
adds_other j i Split h = refl
adds_other j i (Part number) h = refl

-- a fact on a node and its box, at equals
at_same : (P : Node → Sets → Type 0) (m m' : Node) (b b' : Sets) → m' ≡ m → b' ≡ b → P m b → P m' b'
at_same P m m' b b' e f h = subst (λ (n : Node). P n b') (sym e) (subst (P m) (sym f) h)

module _ (root : Sets) (fix : Sets → Option Sets) (bound : Sets → ℕ → Type 0) (good : List ℕ → Type 0)
    (inside : (b f : Sets) → IsBox root b → fix b ≡ Some f → Below f b × NoneEmpty f)
    (rises : (b c : Sets) (n m : ℕ) → IsBox root b → IsBox root c → Below c b → bound b n → bound c m → n ≤ m) where
  module _ (es : List Entry) (bs : List (Option Link)) (ws ws1 ws2 : List OpenNode) (top : OpenNode)
      (t : Taken root fix bound es bs ws top) (v : VarId) (x : ℕ) (l r : Node)
      (splits : MatchOption (fix (t.tree.grown.box top.place)) ⊥ (λ f. Splits f v x))
      (right : Adds fix bound good (length es) (link_to (length bs) v x Above) (half (t.tree.grown.box top.place) v x Above) ws ws1 r)
      (left : Adds fix bound good (length es + 1) (link_to (length bs) v x AtMost) (half (t.tree.grown.box top.place) v x AtMost) ws1 ws2
      l) where
    abbrev k : ℕ
    k = top.place

    abbrev n : ℕ
    n = length es

    abbrev box : ℕ → Sets
    box = t.tree.grown.box

    abbrev New : List Entry
    New = branched es k v x l r

    abbrev to : Side → Sets
    to side = half (box k) v x side

    abbrev box' : ℕ → Sets
    box' = boxes box n (to AtMost) (to Above)

    long' : length New ≡ n + 2
    long' = new_long es k v x l r t.own.there

    was : node_of es k ≡ Open
    was = open_is (node_of es k) (omega (arith, t.counted k, one_same k))

    node_old : (j : ℕ) → j < n → j ≢ k → node_of New j ≡ node_of es j
    node_old j lt apart = ap (λ (e : Entry). e.node) (new_old es k v x l r t.own.there j lt apart)

    node_branch : node_of New k ≡ Branch v x
    node_branch = ap (λ (e : Entry). e.node) (new_branch es k v x l r t.own.there)

    node_right : node_of New n ≡ r
    node_right = ap (λ (e : Entry). e.node) (new_right es k v x l r t.own.there)

    node_left : node_of New (n + 1) ≡ l
    node_left = ap (λ (e : Entry). e.node) (new_left es k v x l r t.own.there)

    box_k : box' k ≡ box k
    box_k = boxes_old box n (to AtMost) (to Above) k t.own.there

    side_box : (side : Side) → Below (to side) (box k) × NoneEmpty (to side)
    side_box side =
        let f = some_of (fix (box k)) splits in
        let b = t.tree.inside k t.own.there in
        let le = inside (box k) f.0 b f.1 in
        half_box (box k) f.0 v x side b.1 le.0 le.1 f.2

    in_side : (side : Side) → IsBox root (to side)
    in_side side = (Below-trans (to side) (box k) root (side_box side).0 (t.tree.inside k t.own.there).0, (side_box side).1)

    inside' : (j : ℕ) → j < n + 2 → IsBox root (box' j)
    inside' = cases (λ j. IsBox root (box' j)) n k
        (λ j lt apart. subst (IsBox root) (sym (boxes_old box n (to AtMost) (to Above) j lt)) (t.tree.inside j lt))
        (subst (IsBox root) (sym box_k) (t.tree.inside k t.own.there))
        (subst (IsBox root) (sym (boxes_right box n (to AtMost) (to Above))) (in_side Above))
        (subst (IsBox root) (sym (boxes_left box n (to AtMost) (to Above))) (in_side AtMost))

    -- a fact on each node and its box
    each : (P : Node → Sets → Type 0) → ((j : ℕ) → j < n → j ≢ k → P (node_of es j) (box j)) → P (Branch v x) (box k) → P r (to Above)
        → P l (to AtMost) → (j : ℕ) → j < n + 2 → P (node_of New j) (box' j)
    each P old at new new1 = cases (λ j. P (node_of New j) (box' j)) n k
        (λ j lt apart. at_same P (node_of es j) (node_of New j) (box j) (box' j) (node_old j lt apart)
        (boxes_old box n (to AtMost) (to Above) j lt) (old j lt apart))
        (at_same P (Branch v x) (node_of New k) (box k) (box' k) node_branch box_k at)
        (at_same P r (node_of New n) (to Above) (box' n) node_right (boxes_right box n (to AtMost) (to Above)) new)
        (at_same P l (node_of New (n + 1)) (to AtMost) (box' (n + 1)) node_left (boxes_left box n (to AtMost) (to Above)) new1)

    searched' : (j : ℕ) → j < n + 2 → IsSearchedAt fix (node_of New j) (box' j)
    searched' = each (IsSearchedAt fix) (λ j lt apart. t.tree.searched j lt) splits right.searched left.searched

    up : (j : ℕ) → j < n + 2 → is_branch (node_of New j) ≡ 1 → (m : ℕ) → bound (box' j) m → m ≤ top.least
    up = each (λ m b. is_branch m ≡ 1 → (a : ℕ) → bound b a → a ≤ top.least)
        (λ j lt apart is a h. before_at bound (node_of es j) (box j) (node_of es k) (box k) (t.tree.best j k lt t.own.there) is was a
        top.least
        h t.own.cost)
        (λ is a h. (let i = t.tree.inside k t.own.there in rises (box k) (box k) a top.least i i (Below-refl (box k)) h t.own.cost))
        (λ is a h. absurd (omega (arith, is, leaf_no_branch r right.leaf)))
        (λ is a h. absurd (omega (arith, is, leaf_no_branch l left.leaf)))

    rises_to : (side : Side) (m : Node) → is_open m ≡ 1 → (a : ℕ) → bound (to side) a → top.least ≤ a
    rises_to side m is a h = rises (box k) (to side) top.least a (t.tree.inside k t.own.there) (in_side side) (side_box side).0 t.own.cost h

    down : (j : ℕ) → j < n + 2 → is_open (node_of New j) ≡ 1 → (a : ℕ) → bound (box' j) a → top.least ≤ a
    down = each (λ m b. is_open m ≡ 1 → (a : ℕ) → bound b a → top.least ≤ a)
        (λ j lt apart is a h. t.lowest j a lt is h)
        (λ is. absurd (omega (arith, is)))
        (rises_to Above r)
        (rises_to AtMost l)

    once_k : count k t.tree.grown.order ≡ 1
    once_k = t.tree.grown.once k t.own.there

    fresh : (j : ℕ) → n ≤ j → count j t.tree.grown.order ≡ 0
    fresh j far = listed_fresh (node_of es) (next_of es) box n j 0 t.tree.grown.order (root ∷ []) (omega (
      arith,
      far,
    )) t.tree.grown.listed

    once' : (j : ℕ) → j < n + 2 → count j (put k (n + 1) n t.tree.grown.order) ≡ 1
    once' = cases (λ j. count j (put k (n + 1) n t.tree.grown.order) ≡ 1) n k
        (λ j lt apart. old j lt)
        (old k t.own.there)
        (let h = count-put n k (n + 1) n t.tree.grown.order once_k in
        omega (arith, h, fresh n (omega arith), one_same n, one_other n (n + 1) (λ e. omega (arith, e))))
        (let h = count-put (n + 1) k (n + 1) n t.tree.grown.order once_k in
        omega (arith, h, fresh (n + 1) (omega arith), one_same (n + 1), one_other (n + 1) n (λ e. omega (arith, e))))
      where
        old : (j : ℕ) → j < n → count j (put k (n + 1) n t.tree.grown.order) ≡ 1
        old j lt = let h = count-put j k (n + 1) n t.tree.grown.order once_k in
            omega (
              arith,
              h,
              t.tree.grown.once j lt,
              one_other j n (λ e. omega (arith, e, lt)),
              one_other j (n + 1) (λ e. omega (arith, e, lt)),
            )

    listed' : Listed (node_of New) (next_of New) box' (n + 2) 0 (put k (n + 1) n t.tree.grown.order) (root ∷ [])
    listed' = listed_put (node_of es) (next_of es) box n (node_of New) (next_of New) box' k
        (λ j lt apart. (node_old j lt apart, ap (λ (e : Entry). e.next) (new_old es k v x l r t.own.there j lt apart)))
        (λ j lt. boxes_old box n (to AtMost) (to Above) j lt)
        v x was node_branch (ap (λ (e : Entry). e.next) (new_branch es k v x l r t.own.there))
        (ap (λ (e : Entry). e.next) (new_left es k v x l r t.own.there)) (ap (λ (e : Entry). e.next) (new_right es k v x l r t.own.there))
        (boxes_left box n (to AtMost) (to Above)) (boxes_right box n (to AtMost) (to Above)) (subst IsLeaf (sym node_right) right.leaf)
        (subst IsLeaf (sym node_left) left.leaf)
        0 t.tree.grown.order (root ∷ []) once_k t.tree.grown.listed

    below' : (j : ℕ) → j < length New → j < n + 2
    below' j lt = omega (arith, lt, long')

    grown' : Grown root New
    grown' = record {
      box = box';
      order = put k (n + 1) n t.tree.grown.order;
      listed = subst (λ (m : ℕ). Listed (node_of New) (next_of New) box' m 0 (put k (n + 1) n t.tree.grown.order) (root ∷ []))
          (sym long') listed';
      long = length-put k (n + 1) n t.tree.grown.order once_k ∙ (ap (λ (m : ℕ). m + 2) t.tree.grown.long ∙ sym long');
      once = λ i lt. once' i (below' i lt);
    }

    total : (j : ℕ) → times j ws2 ≡ times j ws + (adds j n r + adds j (n + 1) l)
    total j = omega (arith, right.counted j, left.counted j)

    past : (j : ℕ) → n ≤ j → times j ws ≡ 0
    past j far = (let h = t.counted j in let e : is_open (node_of es j) ≡ 0 = blank_past j far in omega (arith, h, e))
      where
        blank_past : (j : ℕ) → n ≤ j → is_open (node_of es j) ≡ 0
        blank_past j far = ap (λ (e : Entry). is_open e.node) (get_or_past es j blank far)

    counted_within : (j : ℕ) → j < n + 2 → times j ws2 ≡ is_open (node_of New j)
    counted_within = cases (λ j. times j ws2 ≡ is_open (node_of New j)) n k
        (λ j lt apart. (let h : times j ws2 ≡ is_open (node_of es j) = omega (
          arith,
          total j,
          t.counted j,
          one_other j k apart,
          adds_other j n r (λ e. omega (arith, e, lt)),
          adds_other j (n + 1) l (λ e. omega (arith, e, lt)),
        ) in h
        ∙ ap is_open (sym (node_old j lt apart))))
        (let h : times k ws2 ≡ 0 = omega (
          arith,
          total k,
          t.counted k,
          ap is_open was,
          one_same k,
          adds_other k n r (λ e. omega (arith, e, t.own.there)),
          adds_other k (n + 1) l (λ e. omega (arith, e, t.own.there)),
        ) in h
        ∙ ap is_open (sym node_branch))
        (let h : times n ws2 ≡ is_open r = omega (
          arith,
          total n,
          past n (omega arith),
          adds_self n r,
          adds_other n (n + 1) l (λ e. omega (arith, e)),
        ) in h ∙ ap is_open (sym node_right))
        (let h : times (n + 1) ws2 ≡ is_open l = omega (
          arith,
          total (n + 1),
          past (n + 1) (omega arith),
          adds_self (n + 1) l,
          adds_other (n + 1) n r (λ e. omega (arith, e)),
        ) in h ∙ ap is_open (sym node_left))

    counted' : (j : ℕ) → times j ws2 ≡ is_open (node_of New j)
    counted' j = elim (cases_lt j (n + 2)) [
      | inl lt ↦ counted_within j lt
      | inr far ↦ (let h : times j ws2 ≡ 0 = omega (
        arith,
        total j,
        past j (omega (arith, far)),
        adds_other j n r (λ e. omega (arith, e, far)),
        adds_other j (n + 1) l (λ e. omega (arith, e, far)),
      ) in h
          ∙ ap (λ (e : Entry). is_open e.node) (sym (new_past es k v x l r t.own.there j far)))
    ]

    split' : Splits (box k) v x
    split' =
        let f = some_of (fix (box k)) splits in
        let le = inside (box k) f.0 (t.tree.inside k t.own.there) f.1 in
        splits_box (box k) f.0 v x le.0 le.1 f.2

    abbrev bs' : List (Option Link)
    bs' = bs ++ top.link ∷ []

    branches' : HaveParents root bs'
    branches' = pushed root bs t.branches top.link (box k) t.own.earlier t.own.split t.own.led

    abbrev above' : ℕ → Sets
    above' = boxes t.branches.box (length bs) (box k) (box k)

    longer : length bs' ≡ length bs + 1
    longer = pushed_long root bs t.branches top.link (box k) t.own.earlier t.own.split t.own.led

    abbrev Note : OpenNode → Type 0
    Note = Noted root fix bound (length New) box' bs' above'

    old_note : (w : OpenNode) → Noted root fix bound n box bs t.branches.box w → Note w
    old_note w h =
        let place : box' w.place ≡ box w.place = boxes_old box n (to AtMost) (to Above) w.place h.there in
        record {
          there = omega (arith, h.there, long');
          cost = subst (λ (c : Sets). bound c w.least) (sym place) h.cost;
          earlier = earlier_more (length bs) (length bs') w.link (omega (arith, longer)) h.earlier;
          split = pushed_split root bs t.branches top.link (box k) t.own.earlier t.own.split t.own.led w.link h.earlier h.split;
          led = place ∙ (h.led ∙ sym (pushed_under root bs t.branches top.link (box k) t.own.earlier t.own.split t.own.led w.link
              h.earlier));
        }

    side_note : (side : Side) (j : ℕ) → j < n + 2 → box' j ≡ to side → (w : OpenNode) → w.place ≡ j
        → w.link ≡ Some (link_to (length bs) v x side) → bound (to side) w.least → Note w
    side_note side j lt is w at link cost =
        let place : box' w.place ≡ to side = ap box' at ∙ is in
        let under : box_under root above' (Some (link_to (length bs) v x side)) ≡ to side
        = ap (λ (b : Sets). half b v x side) (boxes_right t.branches.box (length bs) (box k) (box k)) in
        record {
          there = omega (arith, at, lt, long');
          cost = subst (λ (c : Sets). bound c w.least) (sym place) cost;
          earlier = rw link (omega (arith, longer));
          split = rw link (subst (λ (b : Sets). Splits b v x) (sym (boxes_right t.branches.box (length bs) (box k) (box k))) split');
          led = place ∙ (sym under ∙ ap (box_under root above') (sym link));
        }

    noted' : All Note ws2
    noted' = left.each Note (right.each Note (λ i d lt. old_note (get_or ws i d) (t.noted i d lt))
        (side_note Above n (omega arith) (boxes_right box n (to AtMost) (to Above))))
        (side_note AtMost (n + 1) (omega arith) (boxes_left box n (to AtMost) (to Above)))

    above_is : branches'.box ≡ above'
    unfolding branches'
    above_is = pushed_box root bs t.branches top.link (box k) t.own.earlier t.own.split t.own.led

    -- **the search goes on**
    pub went : Searching root fix bound New bs' ws2
    unfolding grown' branches'
    went = record {
      tree = record {
        grown = grown';
        inside = λ i lt. inside' i (below' i lt);
        searched = λ i lt. searched' i (below' i lt);
        best = λ i j lt lt'. before_from bound (node_of New i) (box' i) (node_of New j) (box' j)
            (λ is is' a a' g g'. (let h = up i (below' i lt) is a g in let h' = down j (below' j lt') is' a' g' in omega (arith, h, h')));
        odd = (let h = t.tree.odd in omega (arith, h, long'));
      };
      branches = branches';
      counted = counted';
      noted = subst (λ (above : ℕ → Sets). All (Noted root fix bound (length New) box' bs' above) ws2) (sym above_is) noted';
    }

module _ (root : Sets) (fix : Sets → Option Sets) (bound : Sets → ℕ → Type 0) (es : List Entry) (bs : List (Option Link))
    (ws : List OpenNode) (top : OpenNode) (t : Taken root fix bound es bs ws top) where
  pub taken_path : (us : List (Option Link)) (ds ps : List Decision) → us ≡ bs → ps ≡ ds
      → ((r : Sets) (box : ℕ → Sets) → ((i : ℕ) → i < length us → box i ≡ box_under r box (link_at us i))
      → reached r ds ≡ box_under r box top.link)
      → reached root ps ≡ t.tree.grown.box top.place
  taken_path us ds ps e p h = ap (reached root) p ∙ (h root t.branches.box (subst (λ (vs : List (Option Link)). (i : ℕ)
      → i < length vs → t.branches.box i ≡ box_under root t.branches.box (link_at vs i)) (sym e) t.branches.boxes) ∙ sym t.own.led)

  pub taken_split : (us : List (Option Link)) (ds ps : List Decision) → us ≡ bs → ps ≡ ds
      → ((r : Sets) (box : ℕ → Sets) → ((i : ℕ) → i < length us → box i ≡ box_under r box (link_at us i))
      → ((i : ℕ) → i < length us → IsSplit box (link_at us i)) → IsSplit box top.link → AllSplit r ds)
      → AllSplit root ps
  taken_split us ds ps e p h = subst (AllSplit root) (sym p)
      (h root t.branches.box
      (subst (λ (vs : List (Option Link)). (i : ℕ) → i < length vs → t.branches.box i ≡ box_under root t.branches.box (link_at vs i)) (sym e)
      t.branches.boxes)
      (subst (λ (vs : List (Option Link)). (i : ℕ) → i < length vs → IsSplit t.branches.box (link_at vs i)) (sym e) t.branches.split)
      t.own.split)

  pub taken_open : IsOpenBox fix (t.tree.grown.box top.place)
  taken_open = subst (λ (m : Node). IsSearchedAt fix m (t.tree.grown.box top.place)) (open_is (node_of es top.place) (omega (
    arith,
    t.counted top.place,
    one_same top.place,
  ))) (t.tree.searched top.place t.own.there)

  pub step_goes : (good : List ℕ → Type 0)
      → ((b f : Sets) → IsBox root b → fix b ≡ Some f → Below f b × NoneEmpty f)
      → ((b c : Sets) (n m : ℕ) → IsBox root b → IsBox root c → Below c b → bound b n → bound c m → n ≤ m)
      → (ws1 ws2 : List OpenNode) (b : Sets) (e : Expansion) (v : VarId) (x : ℕ) (left right : Look) (l r : Node) (el er : Entered)
      (ll lr : Link) (es' : List Entry) (bs' : List (Option Link)) (n p : ℕ)
      → b ≡ t.tree.grown.box top.place → IsExpansion fix bound good b e → v ≡ e.var → x ≡ e.val → left ≡ e.left → right ≡ e.right
      → n ≡ length es → p ≡ length bs → lr ≡ link_to p v x Above → ll ≡ link_to p v x AtMost
      → er ≡ Leaf r → Enters right n lr ws ws1 er → el ≡ Leaf l → Enters left (n + 1) ll ws1 ws2 el
      → es' ≡ branched es top.place v x l r → bs' ≡ bs ++ top.link ∷ []
      → Searching root fix bound es' bs' ws2 × (length es' ≡ length es + 2)
  step_goes good inside rises ws1 ws2 b e v x left right l r el er ll lr es' bs' n p at is ve xe le re ne pe lre lle erl er_in ell el_in new
      new_bs =
      let box = t.tree.grown.box in
      let sides : IsExpansion fix bound good (box top.place) e = subst (λ (c : Sets). IsExpansion fix bound good c e) at is in
      let splits : MatchOption (fix (box top.place)) ⊥ (λ f. Splits f v x) = rw (ve, xe) sides.splits in
      let on_right : IsLook fix bound good (half (box top.place) v x Above) right = rw (ve, xe, re) sides.right in
      let on_left : IsLook fix bound good (half (box top.place) v x AtMost) left = rw (ve, xe, le) sides.left in
      let right_link : lr ≡ link_to (length bs) v x Above = lre ∙ ap (λ (i : ℕ). link_to i v x Above) pe in
      let left_link : ll ≡ link_to (length bs) v x AtMost = lle ∙ ap (λ (i : ℕ). link_to i v x AtMost) pe in
      let added : Adds fix bound good (length es) (link_to (length bs) v x Above) (half (box top.place) v x Above) ws ws1 r
      = adds_from fix bound good (length es) (link_to (length bs) v x Above) (half (box top.place) v x Above) right ws ws1 r on_right
      (subst (λ (o : Entered). Enters right (length es) (link_to (length bs) v x Above) ws ws1 o) erl
      (subst (λ (i : ℕ). Enters right i (link_to (length bs) v x Above) ws ws1 er) ne
      (subst (λ (w : Link). Enters right n w ws ws1 er) right_link er_in))) in
      let added1 : Adds fix bound good (length es + 1) (link_to (length bs) v x AtMost) (half (box top.place) v x AtMost) ws1 ws2 l
      = adds_from fix bound good (length es + 1) (link_to (length bs) v x AtMost) (half (box top.place) v x AtMost) left ws1 ws2 l on_left
      (subst (λ (o : Entered). Enters left (length es + 1) (link_to (length bs) v x AtMost) ws1 ws2 o) ell
      (subst (λ (i : ℕ). Enters left (i + 1) (link_to (length bs) v x AtMost) ws1 ws2 el) ne
      (subst (λ (w : Link). Enters left (n + 1) w ws1 ws2 el) left_link el_in))) in (
        subst (λ (us : List Entry). Searching root fix bound us bs' ws2) (sym new)
            (subst (λ (vs : List (Option Link)). Searching root fix bound (branched es top.place v x l r) vs ws2) (sym new_bs)
            (went root fix bound good inside rises es bs ws ws1 ws2 top t v x l r splits added added1)),
        ap length new ∙ new_long es top.place v x l r t.own.there,
      )
