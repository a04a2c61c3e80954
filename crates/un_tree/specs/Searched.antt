-- What a search says of its tree, which has no parts. How rounds end on a box, the least cost in a box, what a solution is and the number
-- of blocks are parameters.
use Rattle.std.specs.Prelude.{ℕ, ◌≡◌, ◌≢◌, ◌<◌, ◌≤◌, List, length, None, MatchOption, ⊤, All, Contains}
use Rattle.std.specs.declared.option.Option.{Option}
use Rattle.un_domains.specs.Sets.{Sets, set_at}
use Rattle.un_tree.specs.Boxes.{Splits}
use Rattle.un_tree.specs.Covered.{OuterStands}
use Rattle.un_tree.specs.Waits.{Waiting, Whole, Begins, Inside, Visit, visits_of, IsTreeOf, HasSides, IsOdd, IsPlain}
use Rattle.un_tree.specs.declared.node.Node.{Node}
use Rattle.un_tree.specs.declared.node.Node.TheVariants.{Branch, Closed, Open, Split, Part}

-- some variable has two values
pub record HasTwo (b : Sets) : Type 0 where
  pub var : ℕ
  pub there : var < length b
  pub two : 1 < length (set_at b var)

-- the rounds are stable, and some variable has two values left
abbrev pub IsOpenBox : (Sets → Option Sets) → Sets → Type 0
IsOpenBox fix b = MatchOption (fix b) ⊥ HasTwo

-- the rounds fail on a closed leaf alone, a branch has both sides in what they left, and an open leaf has a choice left; no search makes
-- a Split or its parts
abbrev pub IsSearchedAt : (Sets → Option Sets) → Node → Sets → Type 0
IsSearchedAt fix (Branch v x) b = MatchOption (fix b) ⊥ (λ f. Splits f v x)
IsSearchedAt fix Closed b = fix b ≡ None
IsSearchedAt fix Open b = IsOpenBox fix b
IsSearchedAt fix Split b = ⊥
IsSearchedAt fix (Part number) b = ⊥

abbrev pub IsSearchedIn : (Sets → Option Sets) → Node → Waiting → Type 0
IsSearchedIn fix n (Whole b) = IsSearchedAt fix n b
IsSearchedIn fix n (Begins k b) = ⊥
IsSearchedIn fix n (Inside k number b) = ⊥

abbrev pub IsSearched : (Sets → Option Sets) → Visit → Type 0
IsSearched fix p = IsSearchedIn fix p.node p.waiting

-- the least cost in a branch's box is at most that in an open leaf's
abbrev pub IsBefore : (Sets → ℕ → Type 0) → Node → Sets → Node → Sets → Type 0
IsBefore least (Branch v x) b Open c = (n m : ℕ) → least b n → least c m → n ≤ m
IsBefore least _ b _ c = ⊤

abbrev pub IsBeforeIn : (Sets → ℕ → Type 0) → Node → Waiting → Node → Waiting → Type 0
IsBeforeIn least n (Whole b) m (Whole c) = IsBefore least n b m c
IsBeforeIn least n _ m _ = ⊤

abbrev pub IsBestFirst : (Sets → ℕ → Type 0) → List Visit → Type 0
IsBestFirst least ps = All (λ p. All (λ q. IsBeforeIn least p.node p.waiting q.node q.waiting) ps) ps

-- one whole tree without parts in a function of n blocks, whose branches have both sides, that stands and is searched, best first
pub record IsTree (n : ℕ) (root : Sets) (fix : Sets → Option Sets) (least : Sets → ℕ → Type 0) (good : List ℕ
    → Type 0) (t : List Node) : Type 0 where
  pub whole : IsTreeOf n root t
  pub plain : All IsPlain t
  pub strict : All HasSides (visits_of n root t)
  pub stands : All (OuterStands good) (visits_of n root t)
  pub searched : All (IsSearched fix) (visits_of n root t)
  pub best : IsBestFirst least (visits_of n root t)

-- a node that is an open leaf has no lower least cost than this
abbrev pub HasAtLeast : (Sets → ℕ → Type 0) → ℕ → Node → Waiting → Type 0
HasAtLeast least low (Branch v x) w = ⊤
HasAtLeast least low Closed w = ⊤
HasAtLeast least low Open (Whole b) = (n : ℕ) → least b n → low ≤ n
HasAtLeast least low Open (Begins k b) = ⊤
HasAtLeast least low Open (Inside k number b) = ⊤
HasAtLeast least low Split w = ⊤
HasAtLeast least low (Part number) w = ⊤

-- a node is an open leaf with this least cost
abbrev pub HasLeast : (Sets → ℕ → Type 0) → ℕ → Node → Waiting → Type 0
HasLeast least low (Branch v x) w = ⊥
HasLeast least low Closed w = ⊥
HasLeast least low Open (Whole b) = least b low
HasLeast least low Open (Begins k b) = ⊥
HasLeast least low Open (Inside k number b) = ⊥
HasLeast least low Split w = ⊥
HasLeast least low (Part number) w = ⊥

-- the least of the least costs of open leaves
pub record IsLowest (least : Sets → ℕ → Type 0) (ps : List Visit) (low : ℕ) : Type 0 where
  pub below : All (λ p. HasAtLeast least low p.node p.waiting) ps
  pub leaf : Visit
  pub there : Contains ps leaf
  pub has : HasLeast least low leaf.node leaf.waiting

module _ (n : ℕ) (root : Sets) (fix : Sets → Option Sets) (least : Sets → ℕ → Type 0) (good : List ℕ → Type 0) where
  -- the tree of a search that ended: no leaf is open, and there are at most so many nodes
  pub record IsRefutation (most : ℕ) (t : List Node) : Type 0 where
    pub tree : IsTree n root fix least good t
    pub closed : All (λ m. m ≢ Open) t
    pub few : length t ≤ most

  -- the tree of a search that stopped at so many nodes
  pub record IsStopped (most : ℕ) (t : List Node) (low : ℕ) : Type 0 where
    pub tree : IsTree n root fix least good t
    pub some : Contains t Open
    pub many : IsOdd (length t) most
    pub lowest : IsLowest least (visits_of n root t) low
