-- What an attempt says of its answer.
use Rattle.std.specs.Prelude.{ℕ, ◌≡◌, ◌≢◌, ◌≤◌, ◌+◌, ◌*◌, List, Option, None, MatchOption, ⊤, All, Contains, length}
use Rattle.un_domains.specs.Sets.{IsSingle}
use Rattle.un_model.specs.declared.model.Model.{Model}
use Rattle.un_model.specs.declared.model.Solution.{Solution}
use Rattle.un_bound.specs.Relaxations.{IsLeast}
use Rattle.un_post.specs.Posts.{fix_at}
use Rattle.un_tree.specs.Boxes.{volume}
use Rattle.un_tree.specs.declared.node.Node.{Node}
use Rattle.un_tree.specs.declared.node.Node.TheVariants.{Open}
use Rattle.un_tree.specs.Searched.{IsLowest, IsOpenBox}
use Rattle.un_tree.specs.Waits.{IsOdd}
use Rattle.un_certificate.specs.Certificates.{IsCertificate}
use Rattle.un_certificate.specs.Joints.{visits_in}
use Rattle.un_model.specs.Boxes.{root_of}
use Rattle.un_branching.specs.declared.attempt.Tried.{Tried as Answer}
use Rattle.un_branching.specs.declared.attempt.Tried.TheVariants.{Found as Good, Refuted as Gone, Cut as Short}
use Rattle.un_search.specs.declared.attempt.Tried.{Tried}
use Rattle.un_search.specs.declared.attempt.Tried.TheVariants.{Found, Refuted, Cut}

-- what is so of a solution, of a tree without an open leaf, of one that was cut off with its least open cost
abbrev pub OnFound : (Solution → Type 0) → Tried → Type 0
OnFound P (Found s) = P s
OnFound P (Refuted t) = ⊤
OnFound P (Cut t low) = ⊤

abbrev pub OnRefuted : (List Node → Type 0) → Tried → Type 0
OnRefuted P (Found s) = ⊤
OnRefuted P (Refuted t) = P t.nodes.items
OnRefuted P (Cut t low) = ⊤

abbrev pub OnCut : (List Node → ℕ → Type 0) → Tried → Type 0
OnCut P (Found s) = ⊤
OnCut P (Refuted t) = ⊤
OnCut P (Cut t low) = P t.nodes.items low

-- a certificate of at most n nodes without an open leaf
pub record IsRefuted (m : Model) (limit : Option ℕ) (n : ℕ) (t : List Node) : Type 0 where
  pub certificate : IsCertificate m limit t
  pub closed : All (λ k. k ≢ Open) t
  pub few : length t ≤ n

-- a certificate with an open leaf and as many of n nodes as there can be, and the least of the least costs of its open leaves
pub record IsCutOff (m : Model) (limit : Option ℕ) (n : ℕ) (t : List Node) (low : ℕ) : Type 0 where
  pub certificate : IsCertificate m limit t
  pub some : Contains t Open
  pub many : IsOdd (length t) n
  pub lowest : IsLowest (IsLeast m) (visits_in m t) low

-- more than twice as many nodes as the first box has assignments
abbrev pub AreEnough : Model → ℕ → Type 0
AreEnough m n = 2 * volume (root_of m) + 1 ≤ n

-- the rounds under a limit leave of the first box one assignment, and this is it
abbrev pub IsLeftOfRoot : Model → Option ℕ → Solution → Type 0
IsLeftOfRoot m limit s = MatchOption (fix_at m limit (root_of m)) ⊥ (IsSingle s.values)

-- the answer follows from what the rounds leave of the first box alone
abbrev pub IsByRoot : Model → Option ℕ → Tried → Type 0
IsByRoot m limit (Found s) = IsLeftOfRoot m limit s
IsByRoot m limit (Refuted t) = fix_at m limit (root_of m) ≡ None
IsByRoot m limit (Cut t low) = IsOpenBox (fix_at m limit) (root_of m)

-- the same answer, with the values of a solution
abbrev pub IsAnswerOf : Answer → Tried → Type 0
IsAnswerOf (Good x) (Found s) = s.values ≡ x.items
IsAnswerOf (Good x) (Refuted u) = ⊥
IsAnswerOf (Good x) (Cut u k) = ⊥
IsAnswerOf (Gone t) (Found s) = ⊥
IsAnswerOf (Gone t) (Refuted u) = u.nodes.items ≡ t.nodes.items
IsAnswerOf (Gone t) (Cut u k) = ⊥
IsAnswerOf (Short t low) (Found s) = ⊥
IsAnswerOf (Short t low) (Refuted u) = ⊥
IsAnswerOf (Short t low) (Cut u k) = (u.nodes.items ≡ t.nodes.items) × (k ≡ low)
