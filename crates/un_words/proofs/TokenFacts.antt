-- Words of a line that have a form: names and labels are spelled as such.
use Rattle.std.proofs.Common.{◌≡◌, ℕ, zero, suc, ◌||◌, ◌==◌, Bool, true, false, List, [], ◌∷◌, Option, Some, None, map, drop, slice_get}
use Rattle.std.proofs.Common.{if◌then◌else◌, refl}
use Rattle.std.specs.List.{AllByRecursion as Each, cons_option}
use Rattle.std.specs.Option.{option_and_then}
use Rattle.un_base.specs.Names.{is_name}
use Rattle.un_ir.specs.declared.function.Kind.{Kind}
use Rattle.un_ir.specs.declared.function.Kind.TheVariants.{General, Pred}
use Rattle.un_words.specs.declared.token.Number.{Number}
use Rattle.un_words.specs.declared.token.Token.{Token}
use Rattle.un_words.specs.declared.token.Token.TheVariants.{Comma, Equals, Named, Negated, Literal, Plain, Word}
use Rattle.un_words.specs.Words.{words_of}
use Rattle.un_words.specs.Tokens.{Spelled, number_of, with_kind, named_of, token_by, plain_of, token_of, tokens_of}
use Rattle.un_words.specs.Shapes.{word_in, word_at, name_in, name_at, condition_in, condition_at, names_at}

-- what holds of a value, where there is one
abbrev pub IfThere : {X : Type 0} → (X → Type 0) → Option X → Type 0
IfThere P None = Unit {0}
IfThere P (Some x) = P x

pub IfThere-then : {X Y : Type 0} (P : X → Type 0) (Q : Y → Type 0) (f : X → Option Y) (o : Option X) → IfThere P o
    → ((x : X) → P x → IfThere Q (f x)) → IfThere Q (option_and_then f o)
IfThere-then P Q f None h g = tt
IfThere-then P Q f (Some x) h g = g x h

pub IfThere-if : {X : Type 0} (P : X → Type 0) (v : Bool) (o : Option X) → IfThere P o → IfThere P (if v then o else None)
IfThere-if P true o h = h
IfThere-if P false o h = tt

abbrev pub IsSpelled : Spelled → Type 0
IsSpelled name = is_name name.0 ≡ true

abbrev pub IsNameWord : List ℕ → Type 0
IsNameWord word = is_name word ≡ true

abbrev pub IsGoodToken : Token → Type 0
IsGoodToken (Named name) = IsSpelled name
IsGoodToken (Negated name) = IsSpelled name
IsGoodToken (Word word) = IsNameWord word
IsGoodToken _ = Unit {0}

-- ---- from the words of a line

kind_spelled : (kind : Kind) (name : List ℕ) → IfThere IsSpelled (with_kind kind name)
kind_spelled kind name = by (is_name name) refl
  where
    by : (v : Bool) → is_name name ≡ v → IfThere IsSpelled (if v then Some (let r : Spelled = (name, kind) in r) else None)
    by true e = e
    by false e = tt

named_spelled : (word : List ℕ) → IfThere IsSpelled (named_of word)
named_spelled [] = tt
named_spelled (b ∷ bs) = by (b == 37) (b == 36)
  where
    by : (v w : Bool) → IfThere IsSpelled (if v then with_kind General bs else (if w then with_kind Pred bs else None))
    by true w = kind_spelled General bs
    by false true = kind_spelled Pred bs
    by false false = tt

named_good : (o : Option Spelled) → IfThere IsSpelled o → IsGoodToken (token_by Named o)
named_good None h = tt
named_good (Some name) h = h

negated_good : (o : Option Spelled) → IfThere IsSpelled o → IsGoodToken (token_by Negated o)
negated_good None h = tt
negated_good (Some name) h = h

literal_good : (o : Option Number) → IsGoodToken (token_by Literal o)
literal_good None = tt
literal_good (Some n) = tt

number_good : (o : Option Number) → IsGoodToken (token_by Plain o)
number_good None = tt
number_good (Some n) = tt

plain_good : (word : List ℕ) → IsGoodToken (plain_of word)
plain_good word = by (is_name word) refl
  where
    by : (v : Bool) → is_name word ≡ v → IsGoodToken (if v then Word word else token_by Plain (number_of word))
    by true e = e
    by false e = number_good (number_of word)

token_good : (word : List ℕ) → IsGoodToken (token_of word)
token_good [] = tt
token_good (b ∷ bs) = by (b == 44) (b == 61) (b == 35) (b == 33) (b == 37 || b == 36)
  where
    by : (v w x y z : Bool) → IsGoodToken (if v then Comma
        else (if w then Equals
        else (if x then token_by Literal (number_of bs)
        else (if y then token_by Negated (named_of bs)
        else (if z then token_by Named (named_of (b ∷ bs))
        else plain_of (b ∷ bs))))))
    by true w x y z = tt
    by false true x y z = tt
    by false false true y z = literal_good (number_of bs)
    by false false false true z = negated_good (named_of bs) (named_spelled bs)
    by false false false false true = named_good (named_of (b ∷ bs)) (named_spelled (b ∷ bs))
    by false false false false false = plain_good (b ∷ bs)

pub tokens_good : (line : List ℕ) → Each IsGoodToken (tokens_of line)
tokens_good line = each (words_of line)
  where
    each : (words : List (List ℕ)) → Each IsGoodToken (map token_of words)
    each [] = tt
    each (word ∷ words) = (token_good word, each words)

-- ---- what stands at a word

pub good_drop : (n : ℕ) (ts : List Token) → Each IsGoodToken ts → Each IsGoodToken (drop n ts)
good_drop zero ts g = g
good_drop (suc n) [] g = tt
good_drop (suc n) (t ∷ ts) g = good_drop n ts g.1

good_at : (i : ℕ) (ts : List Token) → Each IsGoodToken ts → IfThere IsGoodToken (slice_get ts i)
good_at i [] g = tt
good_at zero (t ∷ ts) g = g.0
good_at (suc i) (t ∷ ts) g = good_at i ts g.1

word_good : (t : Token) → IsGoodToken t → IfThere IsNameWord (word_in t)
word_good (Word word) g = g
word_good _ g = tt

pub name_good : (t : Token) → IsGoodToken t → IfThere IsSpelled (name_in t)
name_good (Named name) g = g
name_good _ g = tt

abbrev pub IsSpelledCondition : Spelled × Bool → Type 0
IsSpelledCondition c = IsSpelled c.0

condition_good : (t : Token) → IsGoodToken t → IfThere IsSpelledCondition (condition_in t)
condition_good (Named name) g = g
condition_good (Negated name) g = g
condition_good _ g = tt

pub word_there : (i : ℕ) (ts : List Token) → Each IsGoodToken ts → IfThere IsNameWord (word_at i ts)
word_there i ts g = IfThere-then IsGoodToken IsNameWord word_in (slice_get ts i) (good_at i ts g) word_good

pub name_there : (i : ℕ) (ts : List Token) → Each IsGoodToken ts → IfThere IsSpelled (name_at i ts)
name_there i ts g = IfThere-then IsGoodToken IsSpelled name_in (slice_get ts i) (good_at i ts g) name_good

pub condition_there : (i : ℕ) (ts : List Token) → Each IsGoodToken ts → IfThere IsSpelledCondition (condition_at i ts)
condition_there i ts g = IfThere-then IsGoodToken IsSpelledCondition condition_in (slice_get ts i) (good_at i ts g) condition_good

pub names_there : (ts : List Token) → Each IsGoodToken ts → Each IsSpelled (names_at ts)
names_there [] g = tt
names_there (t ∷ ts) (here, later) = by (name_in t) (name_good t here) (names_there ts later)
  where
    by : (o : Option Spelled) → IfThere IsSpelled o → Each IsSpelled (names_at ts) → Each IsSpelled (cons_option o (names_at ts))
    by None h more = more
    by (Some name) h more = (h, more)
