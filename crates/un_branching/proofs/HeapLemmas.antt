-- What waits.
use Rattle.std.proofs.Common.{◌≡◌, ℕ, ◌+◌, ◌<◌, ◌≤◌, false, List, [], ◌∷◌, length, Some, All, refl, sym, subst, ◌∙◌, inl, inr, arith}
use Rattle.std.specs.declared.option.Option.{Option}
use Rattle.std.specs.List.{AllByRecursion}
use Rattle.std.specs.List.Sorted.{IsPermutation}
use Rattle.std.specs.BinaryHeap.{IsUpperBound}
use Rattle.std.specs.declared.cmp.Ordering.{Ordering}
use Rattle.std.specs.declared.cmp.Ordering.TheVariants.{Less, Equal, Greater}
use Rattle.std.specs.Ordering.{nat_cmp, is_lt, ordering_then}
use Rattle.std.proofs.lemmas.Bool.{cases_eq}
use Rattle.std.proofs.lemmas.List.Sorted.{All-permutation, sum_by_pushed, sum_by_popped}
use Rattle.std.proofs.lemmas.List.Elements.{All-tail, All-cons, recursion_from_All}
use Rattle.std.proofs.lemmas.List.Sums.{sum_by-cons}
use Rattle.std.proofs.lemmas.Map.Keys.{ge_from_not_lt}
use Rattle.un_domains.specs.Sets.{Sets}
use Rattle.un_tree.specs.declared.node.Node.{Node}
use Rattle.un_tree.specs.declared.node.Node.TheVariants.{Branch, Closed, Open, Split, Part}
use Rattle.un_branching.specs.declared.growth.Entry.{Entry}
use Rattle.un_branching.specs.declared.growth.Link.{Link}
use Rattle.un_branching.specs.declared.open_nodes.OpenNode.{OpenNode}
use Rattle.un_branching.specs.declared.problem.Look.{Look}
use Rattle.un_branching.specs.declared.problem.Look.TheVariants.{Failed, Found, Open as Alive}
use Rattle.un_branching.specs.declared.attempt.Entered.TheVariants.{Leaf}
use Rattle.un_tree.specs.Boxes.{IsBox}
use Rattle.un_domains.specs.Order.{Below}
use Rattle.un_domains.specs.OrderLaws.{Below-refl}
use Rattle.un_branching.specs.Growths.{one}
use Rattle.un_tree.specs.Searched.{IsSearchedAt}
use Rattle.un_branching.specs.Searched.{IsLook}
use Rattle.un_branching.specs.Queues.{order}
use Rattle.un_branching.specs.Searching.{times, Enters, Noted, Searching, Taken}
use Rattle.un_branching.proofs.ListedLemmas.{IsLeaf, one_other}

at_most : (x y : OpenNode) → is_lt (order x y) ≡ false → x.least ≤ y.least
at_most x y h = ge_from_not_lt y.least x.least (by (nat_cmp y.least x.least) (nat_cmp x.place y.place) h)
  where
    by : (o p : Ordering) → is_lt (ordering_then o p) ≡ false → is_lt o ≡ false
    by Less p h = h
    by Equal p h = refl
    by Greater p h = refl

-- what adding a leaf adds
abbrev pub adds : ℕ → ℕ → Node → ℕ
adds j i Open = one j i
adds j i Closed = 0
adds j i (Branch v x) = 0
adds j i Split = 0
adds j i (Part number) = 0

module _ (fix : Sets → Option Sets) (bound : Sets → ℕ → Type 0) (good : List ℕ → Type 0) where
  pub record Adds (i : ℕ) (link : Link) (b : Sets) (old new : List OpenNode) (m : Node) : Type 1 where
    pub searched : IsSearchedAt fix m b
    pub leaf : IsLeaf m
    pub counted : (j : ℕ) → times j new ≡ times j old + adds j i m
    pub each : (Q : OpenNode → Type 0) → All Q old → ((w : OpenNode) → w.place ≡ i → w.link ≡ Some link → bound b w.least → Q w) → All Q new

  pub adds_from : (i : ℕ) (link : Link) (b : Sets) (look : Look) (old new : List OpenNode) (m : Node) → IsLook fix bound good b look
      → Enters look i link old new (Leaf m) → Adds i link b old new m
  adds_from i link b Failed old new m h e = rw (e.0, e.1) (record {
    searched = h;
    leaf = tt;
    counted = λ j. omega arith;
    each = λ Q all q. all;
  })
  adds_from i link b (Found x) old new m h e = absurd e
  adds_from i link b (Alive l) old new m h e =
      let w : OpenNode = record { least = l; place = i; link = Some link } in
      rw e.0 (record {
        searched = h.0;
        leaf = tt;
        counted = λ j. omega (arith, sum_by_pushed (λ (w : OpenNode). one j w.place) w old new e.1);
        each = λ Q all q. All-permutation Q (w ∷ old) new e.1 (All-cons Q w old (q w refl refl h.1) all);
      })

module _ (root : Sets) (fix : Sets → Option Sets) (bound : Sets → ℕ → Type 0) where
  -- an open node has a bound that none of what waits is below
  found : (size : ℕ) (box : ℕ → Sets) (bs : List (Option Link)) (above : ℕ → Sets) (k : OpenNode) (ws : List OpenNode) (j n : ℕ)
      → ((m : ℕ) → bound (box j) m → m ≤ n) → AllByRecursion (λ w. is_lt (order k w) ≡ false) ws
      → AllByRecursion (Noted root fix bound size box bs above) ws → 0 < times j ws → k.least ≤ n
  found size box bs above k [] j n at_least up noted some = absurd (omega (arith, some))
  found size box bs above k (w ∷ ws) j n at_least up noted some = elim (cases_eq w.place j) [
    | inl same ↦ (let le = at_most k w up.0 in
        let at : bound (box j) w.least = subst (λ (i : ℕ). bound (box i) w.least) same noted.0.cost in
        let h = at_least w.least at in omega (arith, le, h))
    | inr apart ↦ (let no : one j w.place ≡ 0 = one_other j w.place (λ q. apart (sym q)) in
        found size box bs above k ws j n at_least up.1 noted.1 (omega (
          arith,
          some,
          no,
          sum_by-cons (λ (y : OpenNode). one j y.place) w ws,
        )))
  ]

  pub take_out : ((b c : Sets) (n m : ℕ) → IsBox root b → IsBox root c → Below c b → bound b n → bound c m → n ≤ m)
      → (es : List Entry) (bs : List (Option Link)) (ws rest : List OpenNode) (k : OpenNode) → Searching root fix bound es bs ws
      → IsPermutation ws (k ∷ rest) → IsUpperBound order k ws → Taken root fix bound es bs rest k
  take_out rises es bs ws rest k h perm up =
      let noted : OpenNode → Type 0 = Noted root fix bound (length es) h.tree.grown.box bs h.branches.box in
      let all = All-permutation noted ws (k ∷ rest) perm h.noted in
      record {
        tree = h.tree;
        branches = h.branches;
        counted = λ i. sum_by_popped (λ (w : OpenNode). one i w.place) k ws rest perm ∙ h.counted i;
        noted = All-tail noted k rest all;
        own = all 0 k (omega arith);
        lowest = λ j n below is least. (let inside = h.tree.inside j below in
            found (length es) h.tree.grown.box bs h.branches.box k ws j n (λ m other. rises (h.tree.grown.box j) (h.tree.grown.box j) m n
            inside inside (Below-refl (h.tree.grown.box j)) other least) up (recursion_from_All _ _ h.noted)
            (omega (arith, is, h.counted j)));
      }
