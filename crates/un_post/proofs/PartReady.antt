-- Propagators for all that is posted for one block of a model are ready for rounds over its store.
use Rattle.std.proofs.Common.{ℕ, ◌≡◌, ◌+◌, ◌<◌, List, [], ◌∷◌, length, map, sym, ap, ◌∙◌, subst, All, Option, None, Some}
use Rattle.un_isa.specs.Fit.{IsFit}
use Rattle.un_ir.specs.declared.extended.Ext.{Ext}
use Rattle.un_ir.specs.Extended.{IsExtended}
use Rattle.un_domains.specs.Domains.{values_of}
use Rattle.un_domains.specs.OrderLaws.{has_below, Below-trans}
use Rattle.un_domains.specs.Sets.{Sets}
use Rattle.un_model.specs.declared.model.Model.{Model}
use Rattle.un_model.specs.declared.model.Options.{Options}
use Rattle.un_model.specs.Options.{AreOptions}
use Rattle.un_model.specs.Variables.{IsModel, model_of, blocks_count}
use Rattle.un_lists.proofs.Lists.{Each, Member, each_of, each_member, each_map, each_of_map, each_all}
use Rattle.un_prop.specs.Fixes.{Known, order_free}
use Rattle.un_kinds.specs.AnyProps.{constraint_of, scope_of, cut_of, any_lawful, any_strength}
use Rattle.un_kinds.specs.Scopes.{IsTight}
use Rattle.un_kinds.specs.declared.any.AnyProp.{AnyProp}
use Rattle.un_root.proofs.Eaches.{all_each}
use Rattle.un_post.specs.PartPostings.{part_postings}
use Rattle.un_post.specs.PartPosts.{FailsWherePartEmpty}
use Rattle.un_post.specs.Posts.{largest_horizon, ReadsFrom, IsGrounded, SpansAtMost}
use Rattle.un_post.specs.Strength.{Strong}
use Rattle.un_post.proofs.Failing.{each_stable}
use Rattle.un_post.proofs.ModelDomains.{domains_in_words}
use Rattle.un_post.proofs.PartFails.{part_member, member_more}
use Rattle.un_post.proofs.PartReading.{part_sound}
use Rattle.un_post.proofs.Reading.{IsSound}
use Rattle.un_post.proofs.Ready.{one_reads, one_grounded, one_spans, model_long, strong_as}

module _ (e : Ext) (o : Options) (k : ℕ) (limit : Option ℕ) (ps : List AnyProp) (extended : IsExtended e)
    (asks : map constraint_of ps ≡ part_postings (model_of e o) k limit) (tight : All IsTight ps) where
  abbrev most : ℕ
  most = largest_horizon e.blocks

  abbrev SoundAt : AnyProp → Type 0
  SoundAt p = IsSound (blocks_count e.blocks + 1) (largest_horizon e.blocks) (constraint_of p)

  sound_at : (p : AnyProp) → Member p ps → SoundAt p
  sound_at p m = each_member SoundAt ps p (each_of_map (IsSound (blocks_count e.blocks + 1) (largest_horizon e.blocks)) constraint_of ps
      (subst (Each (IsSound (blocks_count e.blocks + 1) (largest_horizon e.blocks))) (sym asks) (part_sound e o extended k limit))) m

  tight_at : (p : AnyProp) → Member p ps → IsTight p
  tight_at p m = each_member IsTight ps p (each_all IsTight ps tight) m

  reads_each : (s : Sets) → s ≡ map values_of (model_of e o).domains → All (ReadsFrom s) ps
  reads_each s same = all_each (ReadsFrom s) ps (each_of (ReadsFrom s) ps (λ p m.
      one_reads (blocks_count e.blocks + 1) (largest_horizon e.blocks) p s (ap length same ∙ model_long e o) (sound_at p m) (tight_at p m)))

  grounded_each : All IsGrounded ps
  grounded_each = all_each IsGrounded ps (each_of IsGrounded ps (λ p m.
      one_grounded (blocks_count e.blocks + 1) (largest_horizon e.blocks) p (sound_at p m) (tight_at p m)))

  spans_each : All (SpansAtMost (largest_horizon e.blocks)) ps
  spans_each = all_each (SpansAtMost (largest_horizon e.blocks)) ps (each_of (SpansAtMost (largest_horizon e.blocks)) ps (λ p m.
      one_spans (blocks_count e.blocks + 1) (largest_horizon e.blocks) p (sound_at p m)))

  known_each : (s : Sets) → length s ≡ blocks_count e.blocks + 1 → (qs : List AnyProp) → Each (λ (p : AnyProp). Member p ps) qs
      → Known scope_of cut_of any_lawful qs s
  known_each s same [] h = tt
  known_each s same (q ∷ qs) h =
      (one_reads (blocks_count e.blocks + 1) (largest_horizon e.blocks) q s same (sound_at q h.0) (tight_at q h.0), known_each s same qs h.1)

  fails : IsFit e.table → AreOptions o → k < length e.blocks
      → FailsWherePartEmpty (model_of e o) k limit (map values_of (model_of e o).domains) ps
  fails fit options lt = unfold FailsWherePartEmpty in λ s below live none.
      let n = blocks_count e.blocks + 1 in
      let high = largest_horizon e.blocks in
      let first = map values_of (model_of e o).domains in
      let long = model_long e o in
      order_free scope_of cut_of any_lawful ps s None
      (known_each s (below.long ∙ long) ps (each_of (λ (p : AnyProp). Member p ps) ps (λ p mp. mp))) live (λ t lower some stable.
      let each = each_stable (λ (p : AnyProp). cut_of p t ≡ Some t) ps stable in
      let strong = each_of (λ (p : AnyProp). Strong t (constraint_of p)) ps (λ p mp. strong_as p t (any_strength p t
      (one_reads n high p t (lower.long ∙ below.long ∙ long) (sound_at p mp) (tight_at p mp)) some
      (λ v y there. domains_in_words e o extended fit options v y (has_below s first v y below (has_below t s v y lower there)))
      (one_grounded n high p (sound_at p mp) (tight_at p mp)) (each_member (λ (p : AnyProp). cut_of p t ≡ Some t) ps p each mp))) in
      let all = subst (Each (Strong t)) asks (each_map (Strong t) constraint_of ps strong) in
      let found = part_member e o limit t k lt extended fit options (Below-trans t s first lower below) some all in
      none found.0 (member_more t s lower limit (model_of e o) k found.0 found.1))

-- ---- as the clauses of posting say it

module _ (m : Model) (k : ℕ) (limit : Option ℕ) (s : Sets) (ps : List AnyProp) (model : IsModel m) (extended : IsExtended m.ext)
    (same : s ≡ map values_of m.domains) (asks : map constraint_of ps ≡ part_postings m k limit) (tight : All IsTight ps) where
  own : map constraint_of ps ≡ part_postings (model_of m.ext m.options) k limit
  own = asks ∙ ap (λ (w : Model). part_postings w k limit) model

  pub part_reads : All (ReadsFrom s) ps
  part_reads = reads_each m.ext m.options k limit ps extended own tight s (same ∙ ap (λ (w : Model). map values_of w.domains) model)

  pub part_grounded : All IsGrounded ps
  part_grounded = grounded_each m.ext m.options k limit ps extended own tight

  pub part_spans : (horizon : ℕ) → horizon ≡ largest_horizon m.ext.blocks → All (SpansAtMost horizon) ps
  part_spans horizon is =
      subst (λ (h : ℕ). All (SpansAtMost h) ps) (sym is) (spans_each m.ext m.options k limit ps extended own tight)

  pub part_fails : IsFit m.ext.table → AreOptions m.options → k < length m.ext.blocks → FailsWherePartEmpty m k limit s ps
  part_fails fit options lt =
      subst (λ (w : Model). FailsWherePartEmpty w k limit s ps) (sym model)
      (subst (λ (t : Sets). FailsWherePartEmpty (model_of m.ext m.options) k limit t ps)
      (sym (same ∙ ap (λ (w : Model). map values_of w.domains) model))
      (fails m.ext m.options k limit ps extended own tight fit options lt))
