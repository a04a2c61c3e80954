-- What the looks, the expansions and the end of a search say.
use Rattle.std.specs.Prelude.{ℕ, ◌≡◌, List, None, MatchOption}
use Rattle.std.specs.declared.option.Option.{Option}
use Rattle.un_domains.specs.Sets.{Sets, IsSingle}
use Rattle.un_domains.specs.declared.side.Side.TheVariants.{AtMost, Above}
use Rattle.un_tree.specs.Boxes.{half, Splits}
use Rattle.un_tree.specs.Searched.{IsOpenBox, IsRefutation, IsStopped}
use Rattle.un_branching.specs.declared.problem.Look.{Look}
use Rattle.un_branching.specs.declared.problem.Look.TheVariants.{Failed, Found, Open as Alive}
use Rattle.un_branching.specs.declared.problem.Expansion.{Expansion}
use Rattle.un_branching.specs.declared.attempt.Tried.{Tried}
use Rattle.un_branching.specs.declared.attempt.Tried.TheVariants.{Found as Good, Refuted, Cut}

module _ (blocks : ℕ) (root : Sets) (fix : Sets → Option Sets) (least : Sets → ℕ → Type 0) (good : List ℕ → Type 0) where
  abbrev pub IsTried : ℕ → Tried → Type 0
  IsTried n (Good x) = good x.items
  IsTried n (Refuted t) = IsRefutation blocks root fix least good n t.nodes.items
  IsTried n (Cut t low) = IsStopped blocks root fix least good n t.nodes.items low

module _ (root : Sets) (fix : Sets → Option Sets) (least : Sets → ℕ → Type 0) (good : List ℕ → Type 0) where
  -- by the first box alone
  abbrev pub IsByRoot : Tried → Type 0
  IsByRoot (Good x) = MatchOption (fix root) ⊥ (IsSingle x.items)
  IsByRoot (Refuted t) = fix root ≡ None
  IsByRoot (Cut t low) = IsOpenBox fix root

module _ (fix : Sets → Option Sets) (least : Sets → ℕ → Type 0) (good : List ℕ → Type 0) where
  -- how the rounds end on a box: a solution stands in single values, and an open box has this least cost
  abbrev pub IsLook : Sets → Look → Type 0
  IsLook b Failed = fix b ≡ None
  IsLook b (Found x) = MatchOption (fix b) ⊥ (IsSingle x.items) × good x.items
  IsLook b (Alive l) = IsOpenBox fix b × least b l

  pub record IsExpansion (b : Sets) (e : Expansion) : Type 0 where
    pub splits : MatchOption (fix b) ⊥ (λ f. Splits f e.var e.val)
    pub left : IsLook (half b e.var e.val AtMost) e.left
    pub right : IsLook (half b e.var e.val Above) e.right
