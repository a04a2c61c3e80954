-- The words that names are: without a sigil, with one, and behind an exclamation mark.
use Rattle.std.proofs.Common.{◌≡◌, ℕ, ◌<◌, ◌≤◌, ◌==◌, Bool, true, false, nat_lt, nat_le, List, [], ◌∷◌, ◌++◌, length, slice_index, refl}
use Rattle.std.proofs.Common.{sym, ap, ◌∙◌, arith, ne_eqb, true≢false}
use Rattle.std.specs.List.{list_all}
use Rattle.std.proofs.lemmas.Bool.{and_parts, leb-true, ltb-true}
use Rattle.std.proofs.lemmas.Bool.Decides.{nat_tests}
use Rattle.std.proofs.lemmas.List.{length-append}
use Rattle.std.proofs.lemmas.List.Folds.{list_all-append}
use Rattle.un_base.specs.Names.{is_first, is_rest}
use Rattle.un_faults.specs.Vocabulary.{Kind, General, Pred}
use Rattle.un_ir.specs.Text.{with_sigil}
use Rattle.un_ir.specs.WellFormed.{IsName}
use Rattle.un_words.specs.declared.token.Token.{Token}
use Rattle.un_words.specs.declared.token.Token.TheVariants.{Named, Negated, Word}
use Rattle.un_words.specs.Tokens.{token_of}
use Rattle.un_words.specs.Words.{is_inner}
use Rattle.un_reread.proofs.Bytes.{is_clean_byte, IsClean, clean_append}
use Rattle.un_reread.proofs.WordsOf.{Says}

-- ---- tests of bytes

-- a byte that passes a test is none that fails it
pub other_byte : (test : ℕ → Bool) (b k : ℕ) → test b ≡ true → test k ≡ false → (b == k) ≡ false
other_byte test b k passes fails = ne_eqb b k (λ e. true≢false (sym passes ∙ (ap test e ∙ fails)))

pub all_weaker : (p q : ℕ → Bool) → ((b : ℕ) → p b ≡ true → q b ≡ true) → (bs : List ℕ) → list_all p bs ≡ true → list_all q bs ≡ true
all_weaker p q h [] e = refl
all_weaker p q h (b ∷ bs) e = let t = and_parts (p b) (list_all p bs) e in rw (h b t.0, all_weaker p q h bs t.1) refl

rest_inner : (b : ℕ) → is_rest b ≡ true → is_inner b ≡ true
rest_inner b h =
    rw (other_byte is_rest b 9 h refl, other_byte is_rest b 32 h refl, other_byte is_rest b 44 h refl, other_byte is_rest b 61 h refl) refl

rest_clean : (b : ℕ) → is_rest b ≡ true → is_clean_byte b ≡ true
rest_clean b h =
    let low : nat_le 32 b ≡ true = grind (arith, nat_tests) in
    let high : nat_le b 126 ≡ true = grind (arith, nat_tests) in
    rw (low, high, other_byte is_rest b 59 h refl) refl

-- ---- names

pub record NameParts (name : List ℕ) : Type 0 where
  pub some : 0 < length name
  pub short : length name ≤ 32
  pub first : is_first (slice_index name 0) ≡ true
  pub rest : list_all is_rest name ≡ true

pub name_parts : (name : List ℕ) → IsName name → NameParts name
name_parts name h =
    let c = and_parts _ (list_all is_rest name) h in
    let b = and_parts _ (is_first (slice_index name 0)) c.0 in
    let a = and_parts (nat_lt 0 (length name)) (nat_le (length name) 32) b.0 in
    record { some = ltb-true 0 (length name) a.0; short = leb-true (length name) 32 a.1; first = b.1; rest = c.1 }

pub name_clean : (name : List ℕ) → IsName name → IsClean name
name_clean name h = all_weaker is_rest is_clean_byte rest_clean name (name_parts name h).rest

pub name_inner : (name : List ℕ) → IsName name → list_all is_inner name ≡ true
name_inner name h = all_weaker is_rest is_inner rest_inner name (name_parts name h).rest

-- a name without a sigil
pub word_says : (name : List ℕ) → IsName name → Says name (Word name)
word_says [] h = absurd (cc h)
word_says (b ∷ bs) h =
    let p = name_parts (b ∷ bs) h in
    record {
      some = p.some;
      inner = name_inner (b ∷ bs) h;
      neat = record { clean = name_clean (b ∷ bs) h; short = omega (arith, p.short) };
      spelt =
          rw (
            other_byte is_first b 44 p.first refl,
            other_byte is_first b 61 p.first refl,
            other_byte is_first b 35 p.first refl,
            other_byte is_first b 33 p.first refl,
            other_byte is_first b 37 p.first refl,
            other_byte is_first b 36 p.first refl,
            h,
          ) refl;
    }

-- a name behind other bytes
behind : (front name : List ℕ) (token : Token) → (0 < length front) × (length front ≤ 2) → list_all is_inner front ≡ true → IsClean front
    → IsName name → token_of (front ++ name) ≡ token → Says (front ++ name) token
behind front name token size inner clean h spelt = record {
  some = let all = length-append front name in omega (arith, size.0, all);
  inner = list_all-append is_inner front name ∙ rw (inner, name_inner name h) refl;
  neat = record {
    clean = clean_append front name clean (name_clean name h);
    short = let all = length-append front name in let few = (name_parts name h).short in omega (arith, size.1, all, few);
  };
  spelt = spelt;
}

-- a name with its sigil
pub name_says : (name : List ℕ) (kind : Kind) → IsName name → Says (with_sigil kind name) (Named (name, kind))
name_says name General h = behind (37 ∷ []) name (Named (name, General)) (omega arith, omega arith) refl refl h (rw h refl)
name_says name Pred h = behind (36 ∷ []) name (Named (name, Pred)) (omega arith, omega arith) refl refl h (rw h refl)

-- a name behind an exclamation mark
pub negated_says : (name : List ℕ) (kind : Kind) → IsName name → Says (33 ∷ with_sigil kind name) (Negated (name, kind))
negated_says name General h = behind (33 ∷ 37 ∷ []) name (Negated (name, General)) (omega arith, omega arith) refl refl h (rw h refl)
negated_says name Pred h = behind (33 ∷ 36 ∷ []) name (Negated (name, Pred)) (omega arith, omega arith) refl refl h (rw h refl)
