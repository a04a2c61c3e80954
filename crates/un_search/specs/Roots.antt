-- Stores at the first box of a model, under a limit that may fall.
use Rattle.std.specs.Prelude.{ℕ, ◌≡◌, [], Option, Some, None, ⊤}
use Rattle.un_domains.specs.Sets.{NoneEmpty}
use Rattle.un_model.specs.declared.model.Model.{Model}
use Rattle.un_post.specs.Lowered.{limit_place}
use Rattle.un_post.specs.Postable.{IsPostable}
use Rattle.un_post.specs.Posts.{fix_at}
use Rattle.un_model.specs.Boxes.{root_of}
use Rattle.un_certificate.specs.Posted.{IsPosted}
use Rattle.un_search.specs.Solved.{IsBest}
use Rattle.un_search.specs.Stores.{AreStores}
use Rattle.un_search.specs.declared.root.Begun.{Begun}
use Rattle.un_search.specs.declared.root.Incumbent.{Incumbent}
use Rattle.un_search.specs.declared.root.Posting.{Posting}
use Rattle.un_search.specs.declared.root.Posting.TheVariants.{Nothing, Begun as Run}
use Rattle.un_search.specs.declared.root.Root.{Root}
use Rattle.un_search.specs.declared.rounds.ModelStores.{ModelStores}

-- stores of a model at what the rounds leave of its first box, without marks
pub record AreAtRoot (m : Model) (limit : Option ℕ) (s : ModelStores) : Type 0 where
  pub postable : IsPostable m
  pub stores : AreStores m limit s.engine.props s.engine.store.sets s.cuts.sets s.scratch
  pub full : NoneEmpty (root_of m)
  pub cuts : s.cuts.sets ≡ root_of m
  pub unmarked : s.cuts.marked ≡ []
  pub ends : fix_at m limit (root_of m) ≡ Some s.engine.store.sets
  pub fresh : s.engine.store.marked ≡ []

-- the rounds of what is posted fail on the first box
pub record IsLost (m : Model) (limit : Option ℕ) : Type 0 where
  pub posted : IsPosted m limit
  pub full : NoneEmpty (root_of m)
  pub fails : fix_at m limit (root_of m) ≡ None

-- and the limit may fall: its propagator stands at its place
pub record IsRoot (m : Model) (r : Root) : Type 0 where
  pub at : AreAtRoot m (Some r.limit) r.stores
  pub place : r.limit_at ≡ limit_place m

abbrev pub IsBegun : Model → Option ℕ → Option Begun → Type 0
IsBegun m limit None = IsLost m limit
IsBegun m limit (Some b) = AreAtRoot m limit b.stores × (b.limit_at ≡ limit_place m)

abbrev pub IsRooted : Model → ℕ → Option Root → Type 0
IsRooted m limit None = IsLost m (Some limit)
IsRooted m limit (Some r) = IsRoot m r × (r.limit ≡ limit)

abbrev pub IsPosting : Model → ℕ → Posting → Type 0
IsPosting m limit Nothing = ⊤
IsPosting m limit (Run r) = IsRooted m limit r

-- the best solution so far of a search with n nodes, with what is posted for those that cost less
pub record IsIncumbent (m : Model) (n : ℕ) (i : Incumbent) : Type 0 where
  pub best : IsBest m n i.best
  pub posting : IsPosting m i.best.cost i.posting
