-- The words of a line that is put together from words, blanks and marks.
use Rattle.std.proofs.Common.{◌≡◌, ℕ, ◌+◌, ◌<◌, Bool, true, false, ◌&&◌, ◌||◌, List, [], ◌∷◌, ◌++◌, map, length, Some, ◌≤◌, refl}
use Rattle.std.proofs.Common.{sym, ap, ◌∙◌, arith}
use Rattle.std.proofs.Common.{append-nil}
use Rattle.std.specs.List.{list_all, onto_first}
use Rattle.std.proofs.lemmas.Bool.{and_parts, or_parts, not-true}
use Rattle.un_words.specs.declared.token.Token.{Token}
use Rattle.un_words.specs.Words.{is_blank, is_mark, is_inner, goes_on, words_of}
use Rattle.un_words.specs.Tokens.{token_of, tokens_of}
use Rattle.un_words.specs.Shapes.{shape_of}
use Rattle.un_words.specs.declared.line.Line.{Line}
use Rattle.un_reread.proofs.Bytes.{IsNeat, neat_append, neat_more}

-- a longer word, which a reader takes for this token; a name with its sigil behind an exclamation mark is the longest
pub record Says (word : List ℕ) (token : Token) : Type 0 where
  pub some : 0 < length word
  pub inner : list_all is_inner word ≡ true
  pub neat : IsNeat 34 word
  pub spelt : token_of word ≡ token

abbrev pub AllSay : List (List ℕ) → List Token → Type 0
AllSay [] [] = Unit {0}
AllSay (word ∷ words) (token ∷ tokens) = Says word token × AllSay words tokens
AllSay _ _ = ⊥

record Inner (b : ℕ) : Type 0 where
  blank : is_blank b ≡ false
  mark : is_mark b ≡ false

inner_byte : (b : ℕ) (v : Bool) → (is_inner b && v) ≡ true → Inner b × (v ≡ true)
inner_byte b v h =
    let p = and_parts (is_inner b) v h in
    let q = or_parts (is_blank b) (is_mark b) (not-true (is_blank b || is_mark b) p.0) in
    (record { blank = q.0; mark = q.1 }, p.1)

one_more : (b c : ℕ) (bs : List ℕ) → Inner b → is_inner c ≡ true → words_of (b ∷ c ∷ bs) ≡ onto_first b (words_of (c ∷ bs))
one_more b c bs i e = rw (i.blank, i.mark, e) refl

goes_in : (c : ℕ) → Inner c → is_inner c ≡ true
goes_in c i = rw (i.blank, i.mark) refl

-- a word ends where no byte of a word follows
pub first_word : (word rest : List ℕ) → 0 < length word → list_all is_inner word ≡ true → goes_on rest ≡ false
    → words_of (word ++ rest) ≡ word ∷ words_of rest
first_word [] rest some inner stops = absurd (omega arith)
first_word (b ∷ []) rest some inner stops =
    let i = inner_byte b true inner in
    rw (i.0.blank, i.0.mark, stops) refl
first_word (b ∷ c ∷ more) rest some inner stops =
    let i = inner_byte b (is_inner c && list_all is_inner more) inner in
    let j = inner_byte c (list_all is_inner more) i.1 in
    one_more b c (more ++ rest) i.0 (goes_in c j.0) ∙ ap (onto_first b) (first_word (c ∷ more) rest (omega arith) i.1 stops)

-- ---- texts that are put together

-- a clean text of so many bytes at most, which is read as these tokens
pub record Reads (most : ℕ) (text : List ℕ) (tokens : List Token) : Type 0 where
  pub neat : IsNeat most text
  pub told : tokens_of text ≡ tokens

-- a word before a text that does not go on with it
pub first : (word : List ℕ) (token : Token) (most : ℕ) (rest : List ℕ) (tokens : List Token) → Says word token → Reads most rest tokens
    → goes_on rest ≡ false → Reads (34 + most) (word ++ rest) (token ∷ tokens)
first word token most rest tokens says r stops = record {
  neat = neat_append 34 most word rest says.neat r.neat;
  told =
      ap (map token_of) (first_word word rest says.some says.inner stops) ∙ ap (λ (t : Token). t ∷ tokens_of rest) says.spelt
      ∙ ap (λ (ts : List Token). token ∷ ts) r.told;
}

-- the text is a word
pub only : (word : List ℕ) (token : Token) → Says word token → Reads 34 word (token ∷ [])
only word token says = record {
  neat = says.neat;
  told = sym (ap tokens_of (append-nil word)) ∙ ap (map token_of) (first_word word [] says.some says.inner refl)
      ∙ ap (λ (t : Token). t ∷ []) says.spelt;
}

-- bytes that are read as some tokens, before a text
pub before : (front : List ℕ) (own : List Token) (few most : ℕ) (rest : List ℕ) (tokens : List Token) → IsNeat few front
    → ((after : List ℕ) → tokens_of (front ++ after) ≡ own ++ tokens_of after) → Reads most rest tokens
    → Reads (few + most) (front ++ rest) (own ++ tokens)
before front own few most rest tokens neat told r = record {
  neat = neat_append few most front rest neat r.neat;
  told = told rest ∙ ap (λ (ts : List Token). own ++ ts) r.told;
}

-- ---- lines

-- the text is a neat line, and is read as this one
pub record IsLine (text : List ℕ) (line : Line) : Type 0 where
  pub neat : IsNeat 330 text
  pub shape : shape_of (tokens_of text) ≡ Some line

pub is_line : (most : ℕ) (text : List ℕ) (tokens : List Token) (line : Line) → most ≤ 330 → Reads most text tokens
    → shape_of tokens ≡ Some line → IsLine text line
is_line most text tokens line few r shape =
    record { neat = neat_more most 330 text few r.neat; shape = ap shape_of r.told ∙ shape }

-- the texts are these lines, one for one
abbrev pub AreLines : List (List ℕ) → List Line → Type 0
AreLines [] [] = Unit {0}
AreLines (text ∷ texts) (line ∷ lines) = IsLine text line × AreLines texts lines
AreLines _ _ = ⊥
