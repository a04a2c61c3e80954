-- What follows of propagators that ask for what is posted for a model, or for a block of it.
use Rattle.std.proofs.Common.{ℕ, ◌≡◌, List, Option, All, map, refl, subst}
use Rattle.un_domains.specs.Sets.{Sets}
use Rattle.un_model.specs.declared.model.Model.{Model}
use Rattle.un_prop.specs.Rounds.{fix_of}
use Rattle.un_kinds.specs.AnyProps.{constraint_of, cut_of}
use Rattle.un_kinds.specs.FixingLaws.{fix_is}
use Rattle.un_kinds.specs.Scopes.{IsTight}
use Rattle.un_kinds.specs.declared.any.AnyProp.{AnyProp}
use Rattle.un_post.specs.Listed.{all_postings_of}
use Rattle.un_post.proofs.ExactProps.{exact_props}
use Rattle.un_post.proofs.Ready.{posted_reads, posted_grounded, posted_fails}
use Rattle.un_post.specs.PartPostings.{part_postings}
use Rattle.un_post.specs.PartPosts.{IsPartExact, fix_part}
use Rattle.un_post.specs.Posts.{ReadsFrom}
use Rattle.un_post.specs.Postable.{IsPostable}
use Rattle.un_model.specs.Boxes.{root_of}
use Rattle.un_certificate.specs.Posted.{ArePosted, ArePartPosted}

pub are_posted : (m : Model) (limit : Option ℕ) (ps : List AnyProp) → IsPostable m → map constraint_of ps ≡ all_postings_of m limit
    → All IsTight ps → ArePosted m limit ps
are_posted m limit ps p asks tight = record {
  asks = asks;
  tight = tight;
  exact = exact_props m limit (root_of m) ps p.model p.extended p.fit p.options refl asks;
  grounded = posted_grounded m limit (root_of m) ps p.model p.extended p.fit p.options refl asks tight;
  fails = posted_fails m limit (root_of m) ps p.model p.extended p.fit p.options refl asks tight;
  rounds = record {
    reads = posted_reads m limit (root_of m) ps p.model p.extended p.fit p.options refl asks tight;
    fixed = fix_is ps (all_postings_of m limit) asks tight;
  };
}

-- the store that they were posted with has the model's first box
pub are_part_posted : (m : Model) (k : ℕ) (limit : Option ℕ) (s : Sets) (ps : List AnyProp) → s ≡ root_of m
    → map constraint_of ps ≡ part_postings m k limit → IsPartExact m k limit s ps → All (ReadsFrom s) ps
    → ((box : Sets) → fix_of cut_of ps box ≡ fix_part m k limit box) → ArePartPosted m k limit ps
are_part_posted m k limit s ps same asks exact reads fixed = record {
  asks = asks;
  exact = subst (λ (b : Sets). IsPartExact m k limit b ps) same exact;
  rounds = record { reads = subst (λ (b : Sets). All (ReadsFrom b) ps) same reads; fixed = fixed };
}
