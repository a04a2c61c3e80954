-- One Branch more.
use Rattle.std.proofs.Common.{◌≡◌, ℕ, ◌+◌, ◌<◌, ◌≤◌, List, [], ◌∷◌, ◌++◌, length, Option, Some, None, refl, sym, ap, subst, ◌∙◌}
use Rattle.std.proofs.Common.{inl, inr, length-append, arith}
use Rattle.std.proofs.lemmas.Bool.{cases_lt}
use Rattle.std.proofs.lemmas.List.{get_or_append_left, get_or_push}
use Rattle.un_domains.specs.Sets.{Sets}
use Rattle.un_branching.specs.declared.growth.Link.{Link}
use Rattle.un_tree.specs.Boxes.{Splits, decided}
use Rattle.un_branching.specs.Growths.{link_at, box_under, IsEarlier, IsSplit, HaveParents}
use Rattle.un_branching.proofs.BranchedLemmas.{boxes, boxes_old, boxes_right}

pub earlier_more : (n m : ℕ) (link : Option Link) → n ≤ m → IsEarlier n link → IsEarlier m link
earlier_more n m None le h = h
earlier_more n m (Some l) le h = omega (arith, le, h)

under_same : (root : Sets) (box box' : ℕ → Sets) (n : ℕ) → ((j : ℕ) → j < n → box' j ≡ box j) → (link : Option Link) → IsEarlier n link
    → box_under root box' link ≡ box_under root box link
under_same root box box' n same None h = refl
under_same root box box' n same (Some l) h = ap (decided l.decision) (same l.parent h)

split_same : (box box' : ℕ → Sets) (n : ℕ) → ((j : ℕ) → j < n → box' j ≡ box j) → (link : Option Link) → IsEarlier n link → IsSplit box link
    → IsSplit box' link
split_same box box' n same None h s = tt
split_same box box' n same (Some l) h s =
    subst (λ (b : Sets). Splits b l.decision.var l.decision.val) (sym (same l.parent h)) s

module _ (root : Sets) (bs : List (Option Link)) (h : HaveParents root bs) (link : Option Link) (own : Sets)
    (earlier : IsEarlier (length bs) link) (split : IsSplit h.box link) (led : own ≡ box_under root h.box link) where
  abbrev n : ℕ
  n = length bs

  abbrev New : List (Option Link)
  New = bs ++ link ∷ []

  pub pushed_long : length New ≡ n + 1
  pushed_long = omega (arith, length-append bs (link ∷ []))

  abbrev new_box : ℕ → Sets
  new_box = boxes h.box n own own

  -- a child of an earlier Branch has its box as before
  pub pushed_under : (l : Option Link) → IsEarlier n l → box_under root (boxes h.box (length bs) own own) l ≡ box_under root h.box l
  pushed_under = under_same root h.box (boxes h.box n own own) n (λ j lt. boxes_old h.box n own own j lt)

  -- and its decision splits the same box
  pub pushed_split : (l : Option Link) → IsEarlier n l → IsSplit h.box l → IsSplit (boxes h.box (length bs) own own) l
  pushed_split = split_same h.box (boxes h.box n own own) n (λ j lt. boxes_old h.box n own own j lt)

  still : (j : ℕ) → j < n → box_under root new_box (link_at bs j) ≡ box_under root h.box (link_at bs j)
  still j lt = pushed_under (link_at bs j) (earlier_more j n (link_at bs j) (omega (arith, lt)) (h.earlier j lt))

  at_old : (j : ℕ) → j < n → link_at New j ≡ link_at bs j
  at_old j lt = get_or_append_left bs (link ∷ []) None j lt

  at_new : link_at New n ≡ link
  at_new = get_or_push bs link None n refl

  cases_pushed : (P : ℕ → Type 0) → ((j : ℕ) → j < n → P j) → P n → (j : ℕ) → j < length New → P j
  cases_pushed P old new j lt = elim (cases_lt j n) [
    | inl below ↦ old j below
    | inr ge ↦ subst P (let e : n ≡ j = omega (arith, ge, lt, pushed_long) in e) new
  ]

  -- **it has a parent as the others do**
  pub pushed : HaveParents root (bs ++ link ∷ [])
  pushed = record {
    box = new_box;
    earlier = cases_pushed (λ j. IsEarlier j (link_at New j)) (λ j lt. subst (IsEarlier j) (sym (at_old j lt)) (h.earlier j lt))
        (subst (IsEarlier n) (sym at_new) earlier);
    split = cases_pushed (λ j. IsSplit new_box (link_at New j))
        (λ j lt. subst (IsSplit new_box) (sym (at_old j lt)) (pushed_split (link_at bs j)
        (earlier_more j n (link_at bs j) (omega (arith, lt)) (h.earlier j lt)) (h.split j lt)))
        (subst (IsSplit new_box) (sym at_new) (pushed_split link earlier split));
    boxes = cases_pushed (λ j. new_box j ≡ box_under root new_box (link_at New j))
        (λ j lt. boxes_old h.box n own own j lt ∙ (h.boxes j lt ∙ (sym (still j lt) ∙ ap (box_under root new_box) (sym (at_old j lt)))))
        (boxes_right h.box n own own ∙ (led ∙ (sym (pushed_under link earlier) ∙ ap (box_under root new_box) (sym at_new))));
  }

  pub pushed_box : pushed.box ≡ boxes h.box (length bs) own own
  unfolding pushed
  pushed_box = refl
