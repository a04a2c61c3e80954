-- Propagators that ask for all that is posted for a model hold for exactly its solutions that cost less than the limit.
use Rattle.std.proofs.Common.{ℕ, ◌≡◌, true, List, [], ◌∷◌, All, map, Option, sym, subst}
use Rattle.std.proofs.lemmas.List.Elements.{All-nil, All-cons, All-head, All-tail, All-map}
use Rattle.un_isa.specs.Fit.{IsFit}
use Rattle.un_domains.specs.Domains.{values_of}
use Rattle.un_domains.specs.Sets.{Sets}
use Rattle.un_ir.specs.declared.extended.Ext.{Ext}
use Rattle.un_ir.specs.Extended.{IsExtended}
use Rattle.un_model.specs.declared.model.Options.{Options}
use Rattle.un_model.specs.declared.model.Model.{Model}
use Rattle.un_model.specs.Options.{AreOptions}
use Rattle.un_model.specs.Variables.{IsModel, model_of}
use Rattle.un_kinds.specs.AnyProps.{constraint_of}
use Rattle.un_kinds.specs.Constraints.{Constraint, AllMet, meets}
use Rattle.un_post.specs.Listed.{all_postings_of}
use Rattle.un_post.specs.Posts.{IsExact}
use Rattle.un_kinds.specs.declared.any.AnyProp.{AnyProp}
use Rattle.un_post.proofs.Exact.{exact_in}

pub map_all : {A B : Type 0} (P : B → Type 0) (f : A → B) (xs : List A) → All P (map f xs) → All (λ (a : A). P (f a)) xs
map_all P f [] h = All-nil (λ a. P (f a))
map_all P f (x ∷ xs) h =
    All-cons (λ a. P (f a)) x xs (All-head P (f x) (map f xs) h) (map_all P f xs (All-tail P (f x) (map f xs) h))

exact_of : (e : Ext) (o : Options) (limit : Option ℕ) (s : Sets) (ps : List AnyProp) → IsExtended e → IsFit e.table → AreOptions o
    → s ≡ map values_of (model_of e o).domains → map constraint_of ps ≡ all_postings_of (model_of e o) limit
    → IsExact (model_of e o) limit s ps
exact_of e o limit s ps extended fit options same asks = unfold IsExact in λ x.
    let own = exact_in e o limit s x extended fit options same in
    let P : Constraint → Type 0 = λ c. meets c x ≡ true in (
      λ h. let r = own.0 h in (r.0, map_all P constraint_of ps (subst (λ cs. AllMet cs x) (sym asks) r.1)),
      λ h. own.1 (h.0, subst (λ cs. AllMet cs x) asks (All-map P constraint_of ps h.1)),
    )

pub exact_props : (m : Model) (limit : Option ℕ) (s : Sets) (ps : List AnyProp) → IsModel m → IsExtended m.ext → IsFit m.ext.table
    → AreOptions m.options → s ≡ map values_of m.domains → map constraint_of ps ≡ all_postings_of m limit → IsExact m limit s ps
exact_props m limit s ps model extended fit options =
    subst (λ (k : Model). s ≡ map values_of k.domains → map constraint_of ps ≡ all_postings_of k limit → IsExact k limit s ps) (sym model)
    (exact_of m.ext m.options limit s ps extended fit options)
