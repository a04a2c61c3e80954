-- What posting says of its propagators, for a model and for a block of it.
use Rattle.std.specs.Prelude.{ℕ, ◌≡◌, List, Option, All, map}
use Rattle.un_domains.specs.Sets.{Sets}
use Rattle.un_model.specs.declared.model.Model.{Model}
use Rattle.un_prop.specs.Rounds.{fix_of}
use Rattle.un_kinds.specs.AnyProps.{constraint_of, cut_of}
use Rattle.un_kinds.specs.Scopes.{IsTight}
use Rattle.un_kinds.specs.declared.any.AnyProp.{AnyProp}
use Rattle.un_post.specs.Listed.{all_postings_of}
use Rattle.un_post.specs.PartPostings.{part_postings}
use Rattle.un_post.specs.PartPosts.{IsPartExact, fix_part}
use Rattle.un_post.specs.Posts.{IsExact, ReadsFrom, IsGrounded, FailsWhereEmpty, fix_at}
use Rattle.un_model.specs.Boxes.{root_of}

-- propagators over a box, whose rounds leave of each box what this function says
pub record AreRounds (root : Sets) (fix : Sets → Option Sets) (ps : List AnyProp) : Type 0 where
  pub reads : All (ReadsFrom root) ps
  pub fixed : (box : Sets) → fix_of cut_of ps box ≡ fix box

-- propagators as they are posted for a model under a limit
pub record ArePosted (m : Model) (limit : Option ℕ) (ps : List AnyProp) : Type 0 where
  pub asks : map constraint_of ps ≡ all_postings_of m limit
  pub tight : All IsTight ps
  pub exact : IsExact m limit (root_of m) ps
  pub grounded : All IsGrounded ps
  pub fails : FailsWhereEmpty m limit (root_of m) ps
  pub rounds : AreRounds (root_of m) (fix_at m limit) ps

-- there are such
pub record IsPosted (m : Model) (limit : Option ℕ) : Type 0 where
  pub props : List AnyProp
  pub are : ArePosted m limit props

-- propagators as they are posted for block k of a model under a limit on its own cost
pub record ArePartPosted (m : Model) (k : ℕ) (limit : Option ℕ) (ps : List AnyProp) : Type 0 where
  pub asks : map constraint_of ps ≡ part_postings m k limit
  pub exact : IsPartExact m k limit (root_of m) ps
  pub rounds : AreRounds (root_of m) (fix_part m k limit) ps
