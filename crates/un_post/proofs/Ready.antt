-- Propagators for all that is posted for a model are ready for rounds over its store, and fail where its relaxation has no member.
use Rattle.std.proofs.Common.{ℕ, ◌≡◌, ◌+◌, ◌<◌, ◌≤◌, Bool, true, false, List, [], ◌∷◌, ◌++◌, length, map, get_or, nat_eq, ◌||◌, None}
use Rattle.std.proofs.Common.{refl, sym, ap, ◌∙◌, subst, arith, All}
use Rattle.std.specs.Prelude.{Option, Some}
use Rattle.std.proofs.lemmas.Bool.Decides.{nat_tests}
use Rattle.std.proofs.lemmas.List.{length-append, length-map}
use Rattle.un_base.specs.declared.ids.VarId.{VarId}
use Rattle.un_isa.specs.Fit.{IsFit}
use Rattle.un_ir.specs.declared.extended.Ext.{Ext}
use Rattle.un_ir.specs.Extended.{IsExtended}
use Rattle.un_domains.specs.Domains.{values_of}
use Rattle.un_domains.specs.Order.{Below}
use Rattle.un_domains.specs.OrderLaws.{has_below}
use Rattle.un_domains.specs.Sets.{Sets, NoneEmpty}
use Rattle.un_domains.specs.declared.domain.Domain.TheVariants.{Range}
use Rattle.un_model.specs.declared.model.Model.{Model}
use Rattle.un_model.specs.declared.model.Options.{Options}
use Rattle.un_model.specs.Options.{AreOptions}
use Rattle.un_model.specs.Variables.{IsModel, model_of, domains_of, own_horizon, blocks_domains, blocks_count}
use Rattle.un_lists.proofs.Lists.{Each, Member, each_of, each_member, each_more, each_of_map, each_all, member_map_of}
use Rattle.un_lists.proofs.Lists.{member_append_right}
use Rattle.un_model.proofs.Numbering.{length-blocks_domains}
use Rattle.un_prop.specs.Among.{among}
use Rattle.un_prop.specs.AmongLaws.{in_list}
use Rattle.un_prop.specs.Fixes.{Known, order_free}
use Rattle.un_prop.specs.Looks.{InWords}
use Rattle.un_prop.specs.Rounds.{HasVars}
use Rattle.un_kinds.specs.AnyProps.{constraint_of, scope_of, cut_of, strong_of, span_of, any_lawful, any_strength}
use Rattle.un_sites.specs.Befores.{befores_of, lengths_of}
use Rattle.un_sites.specs.Postings.{postings_of}
use Rattle.un_sites.specs.Pressures.{pressures_of}
use Rattle.un_sites.specs.Rooms.{rooms_of}
use Rattle.un_post.specs.Listed.{counts_of, all_postings_of}
use Rattle.un_post.specs.Posts.{largest_horizon, ReadsFrom, IsGrounded, SpansAtMost, FailsWhereEmpty, FailsWhereOverfull}
use Rattle.un_kinds.specs.Constraints.{Constraint}
use Rattle.un_kinds.specs.Scopes.{IsScope, IsTight, vars_of}
use Rattle.un_post.specs.Strength.{Strong}
use Rattle.un_kinds.specs.declared.any.AnyProp.{AnyProp}
use Rattle.un_kinds.specs.declared.any.AnyProp.TheVariants.{Before, Reads, Inside, Last, Below as BelowProp, Chosen}
use Rattle.un_kinds.specs.declared.any.AnyProp.TheVariants.{Zeros, Spaces, Same, Home}
use Rattle.un_kinds.specs.declared.any.AnyProp.TheVariants.{Frame, Apart, Clobber, Operands, PerCycle, Length, Live, Across, Counted}
use Rattle.un_post.proofs.Failing.{each_stable, rounds_fail}
use Rattle.un_root.proofs.Eaches.{all_each}
use Rattle.un_post.proofs.Memory.{contains_member}
use Rattle.un_post.proofs.ModelDomains.{domains_in_words, domains_live}
use Rattle.un_post.proofs.Overfull.{not_overfull}
use Rattle.un_post.proofs.Reading.{IsSound, cycles_of}
use Rattle.un_post.proofs.ReadingModel.{all_sound}
use Rattle.un_kinds.proofs.Rising.{among_own}

-- ---- the list that a propagator keeps, and the variables of its fields

scope_within : (n : ℕ) (vs us : List VarId) → IsScope vs us → Each (λ (v : VarId). v.0 < n) us → All (λ (v : VarId). v.0 < n) vs
scope_within n vs us s h i d lt =
    let v = get_or vs i d in
    each_member (λ (v : VarId). v.0 < n) us v h (contains_member us v (in_list us v (sym (s.same v) ∙ among_own vs i d lt)))

first_among : (u : VarId) (us : List VarId) → among (u ∷ us) u ≡ true
first_among u us = let t : nat_eq u.0 u.0 ≡ true = grind (arith, nat_tests) in ap (λ (b : Bool). b || among us u) t

scope_none : (vs us : List VarId) → IsScope vs us → length vs ≡ 0 → us ≡ []
scope_none (v ∷ vs) us s z = absurd (omega arith)
scope_none [] [] s z = refl
scope_none [] (u ∷ us) s z = let h : false ≡ true = s.same u ∙ first_among u us in absurd (cc h)

-- ---- one propagator

pub span_is : (p : AnyProp) → span_of p ≡ cycles_of (constraint_of p)
span_is (Before p) = refl
span_is (Reads p) = refl
span_is (Inside p) = refl
span_is (Last p) = refl
span_is (BelowProp p) = refl
span_is (Chosen p) = refl
span_is (Zeros p) = refl
span_is (Spaces p) = refl
span_is (Same p) = refl
span_is (Home p) = refl
span_is (Frame p) = refl
span_is (Apart p) = refl
span_is (Clobber p) = refl
span_is (Operands p) = refl
span_is (PerCycle p) = refl
span_is (Length p) = refl
span_is (Live p) = refl
span_is (Across p) = refl
span_is (Counted p) = refl

pub strong_as : (p : AnyProp) (s : Sets) → strong_of p s → Strong s (constraint_of p)
strong_as (Before p) s h = h
strong_as (Reads p) s h = tt
strong_as (Inside p) s h = h
strong_as (Last p) s h = h
strong_as (BelowProp p) s h = h
strong_as (Chosen p) s h = tt
strong_as (Zeros p) s h = tt
strong_as (Spaces p) s h = tt
strong_as (Same p) s h = tt
strong_as (Home p) s h = tt
strong_as (Frame p) s h = tt
strong_as (Apart p) s h = tt
strong_as (Clobber p) s h = tt
strong_as (Operands p) s h = tt
strong_as (PerCycle p) s h = tt
strong_as (Length p) s h = tt
strong_as (Live p) s h = tt
strong_as (Across p) s h = tt
strong_as (Counted p) s h = tt

-- one that asks for what is sound reads the first variables alone, holds where it reads none, and counts over few cycles
pub one_reads : (n most : ℕ) (p : AnyProp) (s : Sets) → length s ≡ n → IsSound n most (constraint_of p) → IsTight p → HasVars (scope_of p) s
one_reads n most p s same sound tight =
    subst (λ (k : ℕ). All (λ (v : VarId). v.0 < k) (scope_of p)) (sym same)
    (scope_within n (scope_of p) (vars_of (constraint_of p)) tight sound.within)

pub one_grounded : (n most : ℕ) (p : AnyProp) → IsSound n most (constraint_of p) → IsTight p → IsGrounded p
one_grounded n most p sound tight none = sound.grounded (scope_none (scope_of p) (vars_of (constraint_of p)) tight none)

pub one_spans : (n most : ℕ) (p : AnyProp) → IsSound n most (constraint_of p) → SpansAtMost most p
one_spans n most p sound = subst (λ (k : ℕ). k ≤ most) (sym (span_is p)) sound.spans

-- how many variables a model has
pub model_long : (e : Ext) (o : Options) → length (map values_of (model_of e o).domains) ≡ blocks_count e.blocks + 1
model_long e o = length-map (domains_of own_horizon e o) values_of
    ∙ length-append (blocks_domains e o own_horizon true e.blocks) (Range 0 1 ∷ [])
    ∙ ap (λ (k : ℕ). k + 1) (length-blocks_domains e o true e.blocks)

-- ---- those of a model

module _ (e : Ext) (o : Options) (limit : Option ℕ) (ps : List AnyProp) (extended : IsExtended e)
    (asks : map constraint_of ps ≡ all_postings_of (model_of e o) limit) (tight : All IsTight ps) where
  abbrev n : ℕ
  n = blocks_count e.blocks + 1

  long : length (map values_of (model_of e o).domains) ≡ n
  long = model_long e o

  each_tight : Each IsTight ps
  each_tight = each_all IsTight ps tight

  each_sound : Each (λ (p : AnyProp). IsSound n (largest_horizon e.blocks) (constraint_of p)) ps
  each_sound = each_of_map (IsSound n (largest_horizon e.blocks)) constraint_of ps
      (subst (Each (IsSound n (largest_horizon e.blocks))) (sym asks) (all_sound e o extended limit))

  abbrev SoundAt : AnyProp → Type 0
  SoundAt p = IsSound n (largest_horizon e.blocks) (constraint_of p)

  reads_one : (s : Sets) (p : AnyProp) → length s ≡ n → Member p ps → HasVars (scope_of p) s
  reads_one s p same mp = one_reads n (largest_horizon e.blocks) p s same (each_member SoundAt ps p each_sound mp)
      (each_member IsTight ps p each_tight mp)

  grounded_one : (p : AnyProp) → Member p ps → IsGrounded p
  grounded_one p mp = one_grounded n (largest_horizon e.blocks) p (each_member SoundAt ps p each_sound mp)
      (each_member IsTight ps p each_tight mp)

  reads_each : (s : Sets) → length s ≡ n → All (ReadsFrom s) ps
  reads_each s same = all_each (ReadsFrom s) ps (each_of (ReadsFrom s) ps (λ p mp. reads_one s p same mp))

  grounded_each : All IsGrounded ps
  grounded_each = all_each IsGrounded ps (each_of IsGrounded ps grounded_one)

  spans_each : All (SpansAtMost (largest_horizon e.blocks)) ps
  spans_each = all_each (SpansAtMost (largest_horizon e.blocks)) ps (each_more SoundAt (SpansAtMost (largest_horizon e.blocks)) ps
      (one_spans n (largest_horizon e.blocks)) each_sound)

  known_each : (s : Sets) → length s ≡ n → (qs : List AnyProp) → Each (λ (p : AnyProp). Member p ps) qs
      → Known scope_of cut_of any_lawful qs s
  known_each s same [] h = tt
  known_each s same (q ∷ qs) h = (reads_one s q same h.0, known_each s same qs h.1)

  fails : IsFit e.table → AreOptions o → FailsWhereEmpty (model_of e o) limit (map values_of (model_of e o).domains) ps
  fails fit options = unfold FailsWhereEmpty in λ s below live none.
      rounds_fail scope_of cut_of any_lawful constraint_of e o limit ps s extended fit options asks
      (known_each s (below.long ∙ long) ps (each_of (λ (p : AnyProp). Member p ps) ps (λ p mp. mp))) live below
      (λ p t mp lower some stable. strong_as p t (any_strength p t (reads_one t p (lower.long ∙ below.long ∙ long) mp) some
      (words t s below lower) (grounded_one p mp) stable)) none
    where
      words : (t s : Sets) → Below s (map values_of (model_of e o).domains) → Below t s → InWords t
      words t s below lower v y h = domains_in_words e o extended fit options v y
          (has_below s (map values_of (model_of e o).domains) v y below (has_below t s v y lower h))

  -- what is posted of pressure is among the propagators
  asked : (c : Constraint) → Member c (pressures_of (model_of e o)) → (p : AnyProp) × (Member p ps) × (constraint_of p ≡ c)
  asked c mc =
      let m = model_of e o in
      member_map_of constraint_of ps c (subst (Member c) (sym asks)
      (member_append_right (postings_of m limit) (counts_of m limit ++ (befores_of m ++ (rooms_of m ++ (lengths_of m ++ pressures_of m)))) c
      (member_append_right (counts_of m limit) (befores_of m ++ (rooms_of m ++ (lengths_of m ++ pressures_of m))) c
      (member_append_right (befores_of m) (rooms_of m ++ (lengths_of m ++ pressures_of m)) c
      (member_append_right (rooms_of m) (lengths_of m ++ pressures_of m) c
      (member_append_right (lengths_of m) (pressures_of m) c mc))))))

  overfull : FailsWhereOverfull (model_of e o) (map values_of (model_of e o).domains) ps
  overfull = unfold FailsWhereOverfull in λ s c below live there full.
      let p = asked c (contains_member (pressures_of (model_of e o)) c there) in
      order_free scope_of cut_of any_lawful ps s None
      (known_each s (below.long ∙ long) ps (each_of (λ (p : AnyProp). Member p ps) ps (λ p mp. mp))) live (λ u lower some stable.
      not_overfull p.0 u (reads_one u p.0 (lower.long ∙ below.long ∙ long) p.1) some (grounded_one p.0 p.1)
      (each_member (λ (p : AnyProp). cut_of p u ≡ Some u) ps p.0 (each_stable (λ (p : AnyProp). cut_of p u ≡ Some u) ps stable) p.1)
      s lower c p.2
      (subst (λ (d : Constraint). IsScope (scope_of p.0) (vars_of d)) p.2 (each_member IsTight ps p.0 each_tight p.1)) full)

-- ---- as the clauses of posting say it

module _ (m : Model) (limit : Option ℕ) (s : Sets) (ps : List AnyProp) where
  of_model : (goal : Model → Type 0) → ((e : Ext) (o : Options) → IsExtended e → IsFit e.table → AreOptions o
      → s ≡ map values_of (model_of e o).domains → map constraint_of ps ≡ all_postings_of (model_of e o) limit → All IsTight ps
      → goal (model_of e o)) → IsModel m → IsExtended m.ext → IsFit m.ext.table → AreOptions m.options → s ≡ map values_of m.domains
      → map constraint_of ps ≡ all_postings_of m limit → All IsTight ps → goal m
  of_model goal h model extended fit options =
      subst (λ (k : Model). s ≡ map values_of k.domains → map constraint_of ps ≡ all_postings_of k limit → All IsTight ps → goal k)
      (sym model) (h m.ext m.options extended fit options)

  pub posted_reads : IsModel m → IsExtended m.ext → IsFit m.ext.table → AreOptions m.options → s ≡ map values_of m.domains
      → map constraint_of ps ≡ all_postings_of m limit → All IsTight ps → All (ReadsFrom s) ps
  posted_reads = of_model (λ k. All (ReadsFrom s) ps) (λ e o extended fit options same asks tight.
      reads_each e o limit ps extended asks tight s (ap length same ∙ long e o limit ps extended asks tight))

  pub posted_grounded : IsModel m → IsExtended m.ext → IsFit m.ext.table → AreOptions m.options → s ≡ map values_of m.domains
      → map constraint_of ps ≡ all_postings_of m limit → All IsTight ps → All IsGrounded ps
  posted_grounded = of_model (λ k. All IsGrounded ps) (λ e o extended fit options same asks tight.
      grounded_each e o limit ps extended asks tight)

  pub posted_spans : (horizon : ℕ) → horizon ≡ largest_horizon m.ext.blocks → IsModel m → IsExtended m.ext → IsFit m.ext.table
      → AreOptions m.options → s ≡ map values_of m.domains
      → map constraint_of ps ≡ all_postings_of m limit → All IsTight ps → All (SpansAtMost horizon) ps
  posted_spans horizon is model extended fit options same asks tight =
      subst (λ (h : ℕ). All (SpansAtMost h) ps) (sym is)
      (of_model (λ k. All (SpansAtMost (largest_horizon k.ext.blocks)) ps) (λ e o extended fit options same asks tight.
      spans_each e o limit ps extended asks tight) model extended fit options same asks tight)

  pub posted_fails : IsModel m → IsExtended m.ext → IsFit m.ext.table → AreOptions m.options → s ≡ map values_of m.domains
      → map constraint_of ps ≡ all_postings_of m limit → All IsTight ps → FailsWhereEmpty m limit s ps
  posted_fails = of_model (λ k. FailsWhereEmpty k limit s ps) (λ e o extended fit options same asks tight.
      subst (λ (t : Sets). FailsWhereEmpty (model_of e o) limit t ps) (sym same) (fails e o limit ps extended asks tight fit options))

  pub posted_overfull : IsModel m → IsExtended m.ext → IsFit m.ext.table → AreOptions m.options → s ≡ map values_of m.domains
      → map constraint_of ps ≡ all_postings_of m limit → All IsTight ps → FailsWhereOverfull m s ps
  posted_overfull = of_model (λ k. FailsWhereOverfull k s ps) (λ e o extended fit options same asks tight.
      subst (λ (t : Sets). FailsWhereOverfull (model_of e o) t ps) (sym same) (overfull e o limit ps extended asks tight))

pub posted_live : (m : Model) (s : Sets) → IsModel m → IsExtended m.ext → IsFit m.ext.table → AreOptions m.options
    → s ≡ map values_of m.domains → NoneEmpty s
posted_live m s model extended fit options =
    subst (λ (k : Model). s ≡ map values_of k.domains → NoneEmpty s) (sym model)
    (λ same. subst NoneEmpty (sym same) (domains_live m.ext m.options extended fit options))
