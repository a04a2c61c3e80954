-- The first tree, and what the last one is.
use Rattle.std.proofs.Common.{◌≡◌, ◌≢◌, ℕ, suc, ◌+◌, ◌<◌, ◌≤◌, List, [], ◌∷◌, length, map, All, Some, None, refl, sym, ap, subst}
use Rattle.std.proofs.Common.{◌∙◌, inl, inr, arith}
use Rattle.std.specs.Prelude.{Contains}
use Rattle.std.specs.declared.option.Option.{Option}
use Rattle.std.specs.List.Sorted.{IsPermutation}
use Rattle.std.proofs.lemmas.Bool.{cases_eq}
use Rattle.std.proofs.lemmas.List.{get_or_past, length-map}
use Rattle.std.proofs.lemmas.List.Elements.{All-from_recursion, All-cons, All-nil}
use Rattle.std.proofs.lemmas.List.Sorted.{All-permutation, sum_by_pushed}
use Rattle.un_domains.specs.Sets.{Sets, NoneEmpty, IsIn}
use Rattle.un_domains.specs.Order.{Below}
use Rattle.un_domains.specs.OrderLaws.{Below-refl}
use Rattle.un_tree.specs.declared.node.Node.{Node}
use Rattle.un_tree.specs.declared.node.Node.TheVariants.{Branch, Closed, Open, Split, Part}
use Rattle.un_branching.specs.declared.growth.Entry.{Entry}
use Rattle.un_branching.specs.declared.growth.Link.{Link}
use Rattle.un_branching.specs.declared.open_nodes.OpenNode.{OpenNode}
use Rattle.un_branching.specs.declared.problem.Look.{Look}
use Rattle.un_branching.specs.declared.problem.Look.TheVariants.{Failed}
use Rattle.un_tree.specs.Boxes.{IsBox}
use Rattle.un_tree.specs.Covered.{OuterStands, OuterStandsIn}
use Rattle.un_tree.specs.Waits.{Waiting, Whole, Visit, visits_of, IsPlain, HasSides, HasSidesIn}
use Rattle.un_branching.specs.Growths.{HaveParents, Listed, Stays, boxes_after, node_of, next_of, follow, listing, opened, one, count, blank}
use Rattle.un_tree.specs.Searched.{IsSearchedAt, IsSearched, IsOpenBox, IsBefore, IsBeforeIn, IsTree, HasAtLeast, HasLeast}
use Rattle.un_branching.specs.Searched.{IsLook}
use Rattle.un_tree.specs.Searched.{IsLowest, IsRefutation, IsStopped}
use Rattle.un_branching.specs.Queues.{order}
use Rattle.un_branching.specs.Searching.{times, is_open, root_node, Nodes, Noted, Searching, Taken}
use Rattle.un_branching.proofs.ListedLemmas.{one_same, one_other, listed_follow, listed_whole, listed_all, listed_some, listed_nodes}
use Rattle.un_branching.proofs.BoxLemmas.{some_of, splits_box}
use Rattle.un_branching.proofs.HeapLemmas.{take_out}
use Rattle.un_branching.proofs.StepLemmas.{open_is}
use Rattle.std.specs.BinaryHeap.{IsUpperBound}

contains_map : (node : ℕ → Node) (k : ℕ) (xs : List ℕ) → node k ≡ Open → 0 < count k xs → Contains (map node xs) Open
contains_map node k [] is some = absurd (omega (arith, some))
contains_map node k (x ∷ xs) is some = elim (cases_eq k x) [
  | inl e ↦ (0, omega arith, sym (ap node e) ∙ is)
  | inr apart ↦ (let no = one_other k x apart in let rest = contains_map node k xs is (omega (arith, some, no)) in
      (suc rest.0, omega (arith, rest.1), rest.2))
]

stays_listed : (es : List Entry) (box : ℕ → Sets) (i : ℕ) (xs : List ℕ) (ws : List Sets)
    → Listed (node_of es) (next_of es) box (length es) i xs ws → Stays es (length xs) i
stays_listed es box i [] ws h = tt
stays_listed es box i (x ∷ xs) [] h = absurd h
stays_listed es box i (x ∷ xs) (b ∷ ws) h = (
  omega (arith, h.0, h.1),
  subst (Stays es (length xs)) (sym (ap (next_of es) h.0)) (stays_listed es box (next_of es x) xs (boxes_after (node_of es x) b ws)
      h.3),
)

module _ (root : Sets) (fix : Sets → Option Sets) (bound : Sets → ℕ → Type 0) where
  -- there is no Branch yet
  no_branches : HaveParents root []
  no_branches = record {
    box = λ i. root;
    earlier = λ i lt. absurd (omega (arith, lt));
    split = λ i lt. absurd (omega (arith, lt));
    boxes = λ i lt. absurd (omega (arith, lt));
  }

  abbrev Note : OpenNode → Type 0
  Note = Noted root fix bound 1 (λ i. root) [] no_branches.box

  pub begin : (e : Entry) (ws : List OpenNode) (w : OpenNode) → NoneEmpty root → IsOpenBox fix root → e.node ≡ Open → bound root w.least
      → w.place ≡ 0 → w.link ≡ None → IsPermutation (w ∷ []) ws → Searching root fix bound (e ∷ []) [] ws
  begin e ws w full choice is note at link perm = record {
    tree = record {
      grown = record {
        box = λ i. root;
        order = 0 ∷ [];
        listed = (refl, omega arith, refl, subst (λ (m : Node). boxes_after m root [] ≡ []) (sym is) refl);
        long = refl;
        once = λ i lt. (let z : i ≡ 0 = omega (arith, lt) in subst (λ (j : ℕ). count j (0 ∷ []) ≡ 1) (sym z) (omega (arith, one_same 0)));
      };
      inside = λ i lt. (Below-refl root, full);
      searched = λ i lt. subst (λ (m : Node). IsSearchedAt fix m root) (sym (node_is i lt)) choice;
      best = λ i j lt lt'. subst (λ (m : Node). IsBefore bound m root (node_of (e ∷ []) j) root) (sym (node_is i lt)) tt;
      odd = refl;
    };
    branches = no_branches;
    counted = λ i. elim (cases_eq i 0) [
      | inl z ↦ subst (λ (j : ℕ). times j ws
          ≡ is_open (node_of (e ∷ []) j)) (sym z) (let s = sum_by_pushed (λ (y : OpenNode). one 0 y.place) w [] ws perm in
          let o : one 0 w.place ≡ 1 = subst (λ (j : ℕ). one 0 j ≡ 1) (sym at) (one_same 0) in
          let h : times 0 ws ≡ 1 = omega (arith, s, o) in h ∙ ap is_open (sym is))
      | inr apart ↦ (let s = sum_by_pushed (λ (y : OpenNode). one i y.place) w [] ws perm in let o : one i w.place
          ≡ 0 = one_other i w.place (λ q. apart (q ∙ at)) in let h : times i ws ≡ 0 = omega (arith, s, o) in h
          ∙ ap (λ (y : Entry). is_open y.node) (sym (get_or_past (e ∷ []) i blank (omega (arith, apart)))))
    ];
    noted = All-permutation Note (w ∷ []) ws perm (All-cons Note w [] (record {
      there = omega (arith, at);
      cost = note;
      earlier = rw link tt;
      split = rw link tt;
      led = rw link refl;
    }) (All-nil Note));
  }
    where
      node_is : (i : ℕ) → i < 1 → node_of (e ∷ []) i ≡ Open
      node_is i lt = let z : i ≡ 0 = omega (arith, lt) in ap (node_of (e ∷ [])) z ∙ is

  module _ (es : List Entry) (t : Nodes root fix bound es) where
    in_order : listing es ≡ map (node_of es) t.grown.order
    in_order = ap (map (node_of es)) (ap (λ (n : ℕ). follow (next_of es) n 0) (sym t.grown.long)
        ∙ listed_follow (node_of es) (next_of es) t.grown.box (length es) 0 t.grown.order (root ∷ []) t.grown.listed)

    pub tree_stays : Stays es (length es) 0
    tree_stays = subst (λ (n : ℕ). Stays es n 0) t.grown.long (stays_listed es t.grown.box 0 t.grown.order (root ∷ []) t.grown.listed)

    pub tree_long : length (listing es) ≡ length es
    tree_long = ap length in_order ∙ (length-map t.grown.order (node_of es) ∙ t.grown.long)

    pub tree_open : (k : ℕ) → k < length es → node_of es k ≡ Open → Contains (listing es) Open
    tree_open k lt is = subst (λ (ns : List Node). Contains ns Open) (sym in_order)
        (contains_map (node_of es) k t.grown.order is (omega (arith, t.grown.once k lt)))

    pub tree_closed : ((i : ℕ) → is_open (node_of es i) ≡ 0) → All (λ m. m ≢ Open) (listing es)
    tree_closed none = subst (All (λ m. m ≢ Open)) (sym in_order) (All-from_recursion (λ m. m ≢ Open) (map (node_of es) t.grown.order)
        (listed_nodes (node_of es) (next_of es) t.grown.box (length es) (λ m. m ≢ Open) (λ i lt e. (let h = ap is_open e in
        let h' = none i in omega (arith, h, h'))) 0 t.grown.order (root ∷ []) t.grown.listed))

    -- a search makes no Split
    plain_by : (m : Node) (b : Sets) → IsSearchedAt fix m b → IsPlain m
    plain_by (Branch v x) b h = tt
    plain_by Closed b h = tt
    plain_by Open b h = tt
    plain_by Split b h = h
    plain_by (Part number) b h = h

    plain_at : (i : ℕ) → i < length es → IsPlain (node_of es i)
    plain_at i lt = plain_by (node_of es i) (t.grown.box i) (t.searched i lt)

    tree_plain : All IsPlain (map (node_of es) t.grown.order)
    tree_plain = All-from_recursion IsPlain (map (node_of es) t.grown.order)
        (listed_nodes (node_of es) (next_of es) t.grown.box (length es) IsPlain plain_at 0 t.grown.order (root ∷ []) t.grown.listed)

    module _ (blocks : ℕ) (good : List ℕ → Type 0)
        (inside : (b f : Sets) → IsBox root b → fix b ≡ Some f → Below f b × NoneEmpty f)
        (keeps : (b : Sets) (x : List ℕ) → IsBox root b → IsIn x b → good x → fix b ≡ None → ⊥) where
      made_at : (m : Node) (b : Sets) → IsBox root b → IsSearchedAt fix m b → HasSidesIn m (Whole b)
      made_at Open b i h = tt
      made_at Closed b i h = tt
      made_at (Branch v x) b i h = let f = some_of (fix b) h in let le = inside b f.0 i f.1 in splits_box b f.0 v x le.0 le.1 f.2
      made_at Split b i h = absurd h
      made_at (Part number) b i h = absurd h

      stands_at : (m : Node) (b : Sets) → IsBox root b → IsSearchedAt fix m b → OuterStandsIn good m (Whole b)
      stands_at Open b i h = tt
      stands_at Closed b i h = λ x there g. keeps b x i there g h
      stands_at (Branch v x) b i h = tt
      stands_at Split b i h = absurd h
      stands_at (Part number) b i h = absurd h

      all_nodes : (P : Visit → Type 0) → ((i : ℕ) → i < length es → (place : ℕ) (rest : List Node)
          → P (record { node = node_of es i; waiting = Whole (t.grown.box i); place = place; rest = rest }))
          → All P (visits_of blocks root (map (node_of es) t.grown.order))
      all_nodes P each = All-from_recursion P (visits_of blocks root (map (node_of es) t.grown.order))
          (listed_all (node_of es) (next_of es) t.grown.box (length es) blocks plain_at P each 0 0 t.grown.order (root ∷ []) t.grown.listed)

      -- **the tree is as it should be**
      pub tree_is : IsTree blocks root fix bound good (listing es)
      tree_is = subst (IsTree blocks root fix bound good) (sym in_order) (record {
        whole = listed_whole (node_of es) (next_of es) t.grown.box (length es) blocks plain_at 0 t.grown.order (root ∷ []) t.grown.listed;
        plain = tree_plain;
        strict = all_nodes HasSides (λ i lt place rest. made_at (node_of es i) (t.grown.box i) (t.inside i lt) (t.searched i lt));
        stands = all_nodes (OuterStands good) (λ i lt place rest. stands_at (node_of es i) (t.grown.box i) (t.inside i lt) (t.searched i lt));
        searched = all_nodes (IsSearched fix) (λ i lt place rest. t.searched i lt);
        best = all_nodes (λ p. All (λ q. IsBeforeIn bound p.node p.waiting q.node q.waiting)
            (visits_of blocks root (map (node_of es) t.grown.order)))
            (λ i lt place rest. all_nodes (λ q. IsBeforeIn bound (node_of es i) (Whole (t.grown.box i)) q.node q.waiting)
            (λ j lt' place' rest'. t.best i j lt lt'));
      })

      at_least : (low : ℕ) (m : Node) (b : Sets) → (is_open m ≡ 1 → (n : ℕ) → bound b n → low ≤ n) → HasAtLeast bound low m (Whole b)
      at_least low Open b h = h refl
      at_least low Closed b h = tt
      at_least low (Branch v x) b h = tt
      at_least low Split b h = tt
      at_least low (Part number) b h = tt

      has_least : (low : ℕ) (m : Node) (b : Sets) (w : Waiting) → m ≡ Open → w ≡ Whole b → bound b low → HasLeast bound low m w
      has_least low m b w is at h =
          subst (λ (u : Waiting). HasLeast bound low m u) (sym at) (subst (λ (n : Node). HasLeast bound low n (Whole b)) (sym is) h)

      -- an open node whose least cost no other open one is below has the lowest
      pub tree_lowest : (k low : ℕ) → k < length es → node_of es k ≡ Open → bound (t.grown.box k) low
          → ((j n : ℕ) → j < length es → is_open (node_of es j) ≡ 1 → bound (t.grown.box j) n → low ≤ n)
          → IsLowest bound (visits_of blocks root (listing es)) low
      tree_lowest k low lt is own least =
          subst (λ (ns : List Node). IsLowest bound (visits_of blocks root ns) low) (sym in_order) (
          let at = listed_some (node_of es) (next_of es) t.grown.box (length es) blocks plain_at k 0 0 t.grown.order (root ∷ []) t.grown.listed
          (omega (arith, t.grown.once k lt)) in
          record {
            below = all_nodes (λ p. HasAtLeast bound low p.node p.waiting)
                (λ i lt' place rest. at_least low (node_of es i) (t.grown.box i) (λ op n h. least i n lt' op h));
            leaf = at.0;
            there = at.1;
            has = has_least low at.0.node (t.grown.box k) at.0.waiting (at.2 ∙ is) at.3 own;
          }
          )

    pub fresh_closed : (length es ≡ 1 → node_of es 0 ≡ Open) → length es < 3 → ((i : ℕ) → is_open (node_of es i) ≡ 0) → ⊥
    fresh_closed fresh few none =
        let one_left : length es ≡ 1 = omega (arith, t.odd, few) in
        let h : is_open (node_of es 0) ≡ 1 = ap is_open (fresh one_left) in
        omega (arith, h, none 0)

  module _ (blocks : ℕ) (good : List ℕ → Type 0)
      (inside : (b f : Sets) → IsBox root b → fix b ≡ Some f → Below f b × NoneEmpty f)
      (keeps : (b : Sets) (x : List ℕ) → IsBox root b → IsIn x b → good x → fix b ≡ None → ⊥) where
    pub none_open : (es : List Entry) (bs : List (Option Link)) (ws : List OpenNode) → Searching root fix bound es bs ws → ws ≡ []
        → (i : ℕ) → is_open (node_of es i) ≡ 0
    none_open es bs ws h none i = sym (h.counted i) ∙ ap (times i) none

    pub refutes : (es ts : List Entry) (bs : List (Option Link)) (ws : List OpenNode) (ns : List Node) (n : ℕ)
        → Searching root fix bound es bs ws → ts ≡ es → ns ≡ listing ts → ws ≡ [] → length es ≤ n
        → IsRefutation blocks root fix bound good n ns
    refutes es ts bs ws ns n h same is none few =
        let e : listing es ≡ ns = sym (is ∙ ap listing same) in
        record {
          tree = subst (IsTree blocks root fix bound good) e (tree_is es h.tree blocks good inside keeps);
          closed = subst (All (λ m. m ≢ Open)) e (tree_closed es h.tree (none_open es bs ws h none));
          few = (let l = ap length e in omega (arith, l, tree_long es h.tree, few));
        }

    cuts : (es ts : List Entry) (bs : List (Option Link)) (ws : List OpenNode) (k : OpenNode) (ns : List Node) (n : ℕ)
        → Taken root fix bound es bs ws k → ts ≡ es → ns ≡ listing ts → length es ≤ n → n < length es + 2
        → IsStopped blocks root fix bound good n ns k.least
    cuts es ts bs ws k ns n t same is few most =
        let e : listing es ≡ ns = sym (is ∙ ap listing same) in
        let long : length ns ≡ length es = sym (ap length e) ∙ tree_long es t.tree in
        let here : node_of es k.place ≡ Open = open_is (node_of es k.place) (omega (arith, t.counted k.place, one_same k.place)) in
        record {
          tree = subst (IsTree blocks root fix bound good) e (tree_is es t.tree blocks good inside keeps);
          some = subst (λ (ms : List Node). Contains ms Open) e (tree_open es t.tree k.place t.own.there here);
          many = record {
            odd = (let h = t.tree.odd in rw long h);
            within = omega (arith, long, few);
            greatest = omega (
              arith,
              long,
              most,
            );
          };
          lowest = subst (λ (ms : List Node). IsLowest bound (visits_of blocks root ms) k.least) e
              (tree_lowest es t.tree blocks good inside keeps k.place k.least t.own.there here t.own.cost t.lowest);
        }

    -- a search that stops takes its lowest cost from what it took out
    pub stops : ((b c : Sets) (n m : ℕ) → IsBox root b → IsBox root c → Below c b → bound b n → bound c m → n ≤ m)
        → (es ts : List Entry) (bs : List (Option Link)) (ws rest : List OpenNode) (k : OpenNode) (ns : List Node) (n : ℕ)
        → Searching root fix bound es bs ws → IsPermutation ws (k ∷ rest) → IsUpperBound order k ws → ts ≡ es → ns ≡ listing ts
        → length es ≤ n → n < length es + 2 → IsStopped blocks root fix bound good n ns k.least
    stops rises es ts bs ws rest k ns n h perm up same is few most =
        cuts es ts bs rest k ns n (take_out root fix bound rises es bs ws rest k h perm up) same is few most

  pub begins : (es : List Entry) (bs : List (Option Link)) (ws : List OpenNode) (low : ℕ) → NoneEmpty root → IsOpenBox fix root
      → es ≡ opened ∷ [] → bs ≡ [] → bound root low → IsPermutation (root_node low ∷ []) ws
      → Searching root fix bound es bs ws × (length es ≡ 1) × (node_of es 0 ≡ Open)
  begins es bs ws low full choice is none note perm =
      subst (λ (us : List Entry). Searching root fix bound us bs ws × (length us ≡ 1) × (node_of us 0 ≡ Open)) (sym is) (
        subst (λ (vs : List (Option Link)). Searching root fix bound (opened ∷ []) vs ws) (sym none)
            (begin opened ws (root_node low) full choice refl note refl refl perm),
        refl,
        refl,
      )

  -- the tree of a root that fails
  pub fails : (blocks : ℕ) (good : List ℕ → Type 0) (ns : List Node) (n : ℕ) (look : Look)
      → ((b : Sets) (x : List ℕ) → IsBox root b → IsIn x b → good x → fix b ≡ None → ⊥) → NoneEmpty root → look ≡ Failed
      → IsLook fix bound good root look → ns ≡ Closed ∷ [] → 0 < n → IsRefutation blocks root fix bound good n ns
  fails blocks good ns n look keeps full is h new some =
      let lost : fix root ≡ None = subst (IsLook fix bound good root) is h in
      subst (IsRefutation blocks root fix bound good n) (sym new) (record {
        tree = record {
          whole = refl;
          plain = All-cons IsPlain Closed [] tt (All-nil IsPlain);
          strict = at_one HasSides tt;
          stands = at_one (OuterStands good) (λ x there g. keeps root x (Below-refl root, full) there g lost);
          searched = at_one (IsSearched fix) lost;
          best = at_one (λ p. All {X = Visit} (λ q. IsBeforeIn bound p.node p.waiting q.node q.waiting)
              (record { node = Closed; waiting = Whole root; place = 0; rest = [] } ∷ []))
              (at_one (λ q. IsBeforeIn bound Closed (Whole root) q.node q.waiting) tt);
        };
        closed = All-cons (λ m. m ≢ Open) Closed [] (λ q. cc q) (All-nil (λ m. m ≢ Open));
        few = omega (arith, some);
      })
    where
      at_one : (P : Visit → Type 0) → P (record { node = Closed; waiting = Whole root; place = 0; rest = [] })
          → All P (record { node = Closed; waiting = Whole root; place = 0; rest = [] } ∷ [])
      at_one P h = All-cons P (record { node = Closed; waiting = Whole root; place = 0; rest = [] }) [] h (All-nil P)
