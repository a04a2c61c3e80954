-- Words by their form.
use Rattle.std.specs.Prelude.{ℕ, Bool, true, false, ◌&&◌, ◌||◌, ◌==◌, ◌-◌, ◌^◌, min, nat_lt, List, [], ◌∷◌, length, Option, Some, None, map}
use Rattle.std.specs.Prelude.{if◌then◌else◌}
use Rattle.std.specs.Option.{option_map_or}
use Rattle.std.specs.Str.{all_ascii_digits}
use Rattle.un_base.specs.Names.{is_name}
use Rattle.un_base.specs.Decimals.{value_of}
use Rattle.un_ir.specs.declared.function.Kind.{Kind}
use Rattle.un_ir.specs.declared.function.Kind.TheVariants.{General, Pred}
use Rattle.un_words.specs.declared.token.Number.{Number}
use Rattle.un_words.specs.declared.token.Token.{Token}
use Rattle.un_words.specs.declared.token.Token.TheVariants.{Comma, Equals, Named, Negated, Literal, Plain, Word, Other}
use Rattle.un_words.specs.Words.{words_of}

-- a name of a text: its bytes without the sigil, and its kind
abbrev pub Spelled : Type 0
Spelled = List ℕ × Kind

-- ---- numbers

-- one digit or more; a number that is too large for 32 bits is kept as the largest
abbrev pub digits_of : Bool → List ℕ → Option Number
digits_of negative digits =
    if nat_lt 0 (length digits) && all_ascii_digits digits
    then Some (record { negative = negative; size = min (value_of digits) (2 ^ 32 - 1) })
    else None

-- an optional minus sign, and digits
abbrev pub number_of : List ℕ → Option Number
number_of [] = None
number_of (b ∷ bs) = if b == 45 then digits_of true bs else digits_of false (b ∷ bs)

-- ---- names

abbrev pub with_kind : Kind → List ℕ → Option Spelled
with_kind kind name = if is_name name then Some (name, kind) else None

-- `%` and a name, or `$` and a name
abbrev pub named_of : List ℕ → Option Spelled
named_of [] = None
named_of (b ∷ bs) = if b == 37 then with_kind General bs else (if b == 36 then with_kind Pred bs else None)

-- ---- words

-- what the word is by a reading of it, or else Other
abbrev pub token_by : {A : Type 0} → (A → Token) → Option A → Token
token_by make read = option_map_or make read Other

-- a name without a sigil, or a number
abbrev pub plain_of : List ℕ → Token
plain_of word = if is_name word then Word word else token_by Plain (number_of word)

abbrev pub token_of : List ℕ → Token
token_of [] = Other
token_of (b ∷ bs) =
    if b == 44 then Comma
    else (if b == 61 then Equals
    else (if b == 35 then token_by Literal (number_of bs)
    else (if b == 33 then token_by Negated (named_of bs)
    else (if b == 37 || b == 36 then token_by Named (named_of (b ∷ bs))
    else plain_of (b ∷ bs)))))

-- the words of a line by their form
abbrev pub tokens_of : List ℕ → List Token
tokens_of line = map token_of (words_of line)
