-- The words of the names of a function.
use Rattle.std.proofs.Common.{◌≡◌, ℕ, List, ◌∷◌, Option, Some, None, slice_get, option_map, refl, subst, All}
use Rattle.std.proofs.lemmas.Option.{slice_get_within, get_or_from_slice_get}
use Rattle.un_faults.specs.Vocabulary.{NameId, Kind}
use Rattle.un_ir.specs.Text.{Names, name_text}
use Rattle.un_ir.specs.WellFormed.{IsName, IsOfKind}
use Rattle.un_words.specs.declared.token.Token.TheVariants.{Named, Negated}
use Rattle.un_reread.specs.Printed.{spelled_at}
use Rattle.un_reread.proofs.WordsOf.{Says}
use Rattle.un_reread.proofs.NameWords.{name_says, negated_says}

-- each name of a function is one
abbrev pub AreNames : Names → Type 0
AreNames names = All (λ (n : List ℕ × Kind). IsName n.0) names

-- the name at a number
record Stands (names : Names) (name : NameId) : Type 0 where
  its : List ℕ × Kind
  got : slice_get names name.0 ≡ Some its
  is : IsName its.0

stands : (names : Names) (kind : Kind) (name : NameId) → AreNames names → IsOfKind names kind name → Stands names name
stands names kind name all h = by (slice_get names name.0) refl h
  where
    by : (o : Option (List ℕ × Kind)) → slice_get names name.0 ≡ o → option_map (λ (n : List ℕ × Kind). n.1) o ≡ Some kind
        → Stands names name
    by None e k = absurd (cc k)
    by (Some n) e k = record {
      its = n;
      got = e;
      is = subst (λ (x : List ℕ × Kind). IsName x.0) (get_or_from_slice_get names name.0 n n e)
          (all name.0 n (slice_get_within names name.0 n e));
    }

-- the word of a name of a kind
pub name_at_says : (names : Names) (kind : Kind) (name : NameId) → AreNames names → IsOfKind names kind name
    → Says (name_text names name) (Named (spelled_at names name))
name_at_says names kind name all h =
    let s = stands names kind name all h in let got = s.got in rw got (name_says s.its.0 s.its.1 s.is)

-- and behind an exclamation mark
pub negated_at_says : (names : Names) (kind : Kind) (name : NameId) → AreNames names → IsOfKind names kind name
    → Says (33 ∷ name_text names name) (Negated (spelled_at names name))
negated_at_says names kind name all h =
    let s = stands names kind name all h in let got = s.got in rw got (negated_says s.its.0 s.its.1 s.is)
