-- The words that registers, names and literals are.
use Rattle.std.proofs.Common.{◌≡◌, ℕ, ℤ, pos, negsuc, suc, ◌+◌, ◌-◌, ◌^◌, ◌<◌, ◌≤◌, Bool, true, false, not, ◌&&◌, ◌||◌, ◌==◌}
use Rattle.std.proofs.Common.{nat_eq, nat_lt, nat_le, List, [], ◌∷◌, ◌++◌, if◌then◌else◌, map, filter, length, slice_index, codes}
use Rattle.std.proofs.Common.{Some, None, refl, sym, ap, ◌∙◌, subst, append-nil, arith, lt-ltb, ne_eqb, true≢false, zero-add, decimal}
use Rattle.std.proofs.Common.{unsigned_abs, length-append}
use Rattle.std.proofs.Math.Seq.{take-append_seam, drop-append_seam}
use Rattle.std.specs.Fmt.{signed_decimal}
use Rattle.std.specs.Char.{is_ascii_digit}
use Rattle.std.specs.List.{list_all, slice_split}
use Rattle.std.specs.Str.{all_ascii_digits}
use Rattle.std.proofs.lemmas.Bool.{and_parts}
use Rattle.std.proofs.lemmas.Bool.Decides.{nat_tests}
use Rattle.std.proofs.lemmas.Fmt.{length-decimal-le}
use Rattle.un_base.specs.Names.{is_first, is_rest, is_name}
use Rattle.un_isa.specs.declared.reg.Reg.{Reg}
use Rattle.un_isa.specs.declared.reg.TheConstants.{REGISTERS}
use Rattle.un_words.specs.Tokens.{digits_of, number_of}
use Rattle.un_words.proofs.DigitTexts.{Writes, decimal_writes, digits_read, all_digits}
use Rattle.un_listing.specs.declared.word.Word.{Word}
use Rattle.un_listing.specs.declared.word.Word.TheVariants.{Named, Literal, Negated, NegatedFresh}
use Rattle.un_listing.specs.Listing.{reg_text}
use Rattle.un_listing.specs.ListingWords.{reg_of, fresh_of, signed as signed_by, word_of, is_between, is_some_text, words_of}

-- ---- words in a text

-- bytes that are one word, which has this form
pub record Says (text : List ℕ) (w : Word) : Type 0 where
  pub some : is_some_text text ≡ true
  pub inner : list_all (λ b. not (is_between b)) text ≡ true
  pub spelt : word_of text ≡ w

-- no byte of a word comes first
abbrev pub stops : List ℕ → Bool
stops [] = true
stops (b ∷ bs) = is_between b

inside : (b : ℕ) (v : Bool) → (not (is_between b) && v) ≡ true → (is_between b ≡ false) × (v ≡ true)
inside b v h = by (is_between b) refl v h
  where
    by : (u : Bool) → is_between b ≡ u → (v : Bool) → (not u && v) ≡ true → (is_between b ≡ false) × (v ≡ true)
    by false e v k = (e, k)
    by true e v k = absurd (cc k)

split_whole : (text : List ℕ) → list_all (λ b. not (is_between b)) text ≡ true → slice_split is_between text ≡ text ∷ []
split_whole [] inner = refl
split_whole (b ∷ bs) inner =
    let h = inside b (list_all (λ b. not (is_between b)) bs) inner in
    rw (h.0, split_whole bs h.1) refl

split_here : (text : List ℕ) (b : ℕ) (rest : List ℕ) → list_all (λ b. not (is_between b)) text ≡ true → is_between b ≡ true
    → slice_split is_between (text ++ b ∷ rest) ≡ text ∷ slice_split is_between rest
split_here [] b rest inner stop = rw stop refl
split_here (c ∷ cs) b rest inner stop =
    let h = inside c (list_all (λ b. not (is_between b)) cs) inner in
    rw (h.0, split_here cs b rest h.1 stop) refl

kept_first : (text : List ℕ) (parts : List (List ℕ)) → is_some_text text ≡ true
    → filter is_some_text (text ∷ parts) ≡ text ∷ filter is_some_text parts
kept_first text parts some = rw some refl

between_first : (b : ℕ) (rest : List ℕ) → is_between b ≡ true → words_of (b ∷ rest) ≡ words_of rest
between_first b rest stop = rw stop refl

-- a word ends where no byte of a word follows
pub first_word : (text : List ℕ) (w : Word) → Says text w → (rest : List ℕ) → stops rest ≡ true
    → words_of (text ++ rest) ≡ w ∷ words_of rest
first_word text w says [] stop =
    ap words_of (append-nil text)
    ∙ ap (λ (ps : List (List ℕ)). map word_of (filter is_some_text ps)) (split_whole text says.inner)
    ∙ ap (map word_of) (kept_first text [] says.some)
    ∙ ap (λ (v : Word). v ∷ []) says.spelt
first_word text w says (b ∷ rest) stop =
    ap (λ (ps : List (List ℕ)). map word_of (filter is_some_text ps)) (split_here text b rest says.inner stop)
    ∙ ap (map word_of) (kept_first text (slice_split is_between rest) says.some)
    ∙ ap (λ (v : Word). v ∷ words_of rest) says.spelt
    ∙ ap (λ (vs : List Word). w ∷ vs) (sym (between_first b rest stop))

-- ---- tests of bytes

-- a byte that passes a test is none that fails it
pub other_byte : (test : ℕ → Bool) (b k : ℕ) → test b ≡ true → test k ≡ false → (b == k) ≡ false
other_byte test b k passes fails = ne_eqb b k (λ e. true≢false (sym passes ∙ (ap test e ∙ fails)))

pub all_weaker : (p q : ℕ → Bool) → ((b : ℕ) → p b ≡ true → q b ≡ true) → (bs : List ℕ) → list_all p bs ≡ true → list_all q bs ≡ true
all_weaker p q h [] e = refl
all_weaker p q h (b ∷ bs) e = let k = and_parts (p b) (list_all p bs) e in rw (h b k.0, all_weaker p q h bs k.1) refl

rest_inner : (b : ℕ) → is_rest b ≡ true → not (is_between b) ≡ true
rest_inner b h = rw h refl

digit_rest : (b : ℕ) → is_ascii_digit b ≡ true → is_rest b ≡ true
digit_rest b h = by (is_first b)
  where
    by : (v : Bool) → (v || is_ascii_digit b || b == 46) ≡ true
    by true = refl
    by false = rw h refl

-- ---- names

pub record NameParts (name : List ℕ) : Type 0 where
  pub some : 0 < length name
  pub short : length name ≤ 32
  pub first : is_first (slice_index name 0) ≡ true
  pub rest : list_all is_rest name ≡ true

name_parts : (name : List ℕ) → is_name name ≡ true → NameParts name
name_parts name h =
    let a = and_parts (nat_lt 0 (length name) && nat_le (length name) 32 && is_first (slice_index name 0)) (list_all is_rest name) h in
    let b = and_parts (nat_lt 0 (length name) && nat_le (length name) 32) (is_first (slice_index name 0)) a.0 in
    let d = and_parts (nat_lt 0 (length name)) (nat_le (length name) 32) b.0 in
    let e = d.0 in
    let f = d.1 in
    let some : 0 < length name = grind (arith, nat_tests) in
    let short : length name ≤ 32 = grind (arith, nat_tests) in
    record { some = some; short = short; first = b.1; rest = a.1 }

is_name_by : (name : List ℕ) → NameParts name → is_name name ≡ true
is_name_by name p =
    let some : nat_lt 0 (length name) ≡ true = lt-ltb _ _ p.some in
    let short : nat_le (length name) 32 ≡ true = grind (arith, nat_tests, p.short) in
    rw (some, short, p.first, p.rest) refl

pub name_says : (name : List ℕ) → is_name name ≡ true → Says name (Named name)
name_says [] h = absurd (cc h)
name_says (b ∷ bs) h =
    let p = name_parts (b ∷ bs) h in
    record {
      some = refl;
      inner = all_weaker is_rest (λ b. not (is_between b)) rest_inner (b ∷ bs) p.rest;
      spelt = rw (other_byte is_first b 35 p.first refl, other_byte is_first b 33 p.first refl, h) refl;
    }

-- ---- digits

number_read : (text : List ℕ) (n : ℕ) → Writes text n → number_of text ≡ Some (record { negative = false; size = n })
number_read [] n w = absurd (omega (arith, w.some))
number_read (b ∷ bs) n w =
    let d = and_parts (is_ascii_digit b) (all_ascii_digits bs) w.digits in
    rw (other_byte is_ascii_digit b 45 d.0 refl) (digits_read false (b ∷ bs) n w)

digits_rest : (text : List ℕ) (n : ℕ) → Writes text n → list_all is_rest text ≡ true
digits_rest text n w = all_weaker is_ascii_digit is_rest digit_rest text (all_digits text w.digits)

-- ---- registers

-- a word that is read as this register
pub record IsRegText (text : List ℕ) (r : Reg) : Type 0 where
  pub says : Says text (Named text)
  pub reg : reg_of text ≡ Some r

sigil_name : (c n : ℕ) → is_first c ≡ true → is_rest c ≡ true → n < 2 ^ 32 → is_name (c ∷ decimal n) ≡ true
sigil_name c n first rest h =
    let w = decimal_writes n h in
    is_name_by (c ∷ decimal n) (record {
      some = omega arith;
      short = omega (arith, w.few);
      first = first;
      rest = rw (rest, digits_rest (decimal n) n w) refl;
    })

general_text : (n : ℕ) → n < 32 → IsRegText (114 ∷ decimal n) (record { 0 = n })
general_text n h =
    let w = decimal_writes n (omega arith) in
    let below : nat_lt n 32 ≡ true = lt-ltb _ _ h in
    record {
      says = name_says (114 ∷ decimal n) (sigil_name 114 n refl refl (omega arith));
      reg = rw (number_read (decimal n) n w, below, zero-add n) refl;
    }

predicate_text : (n : ℕ) → n < 4 → IsRegText (112 ∷ decimal n) (record { 0 = 32 + n })
predicate_text n h =
    let w = decimal_writes n (omega arith) in
    let below : nat_lt n 4 ≡ true = lt-ltb _ _ h in
    record {
      says = name_says (112 ∷ decimal n) (sigil_name 112 n refl refl (omega arith));
      reg = rw (number_read (decimal n) n w, below) refl;
    }

-- a register is read back
pub reg_back : (r : Reg) → r.0 < REGISTERS → IsRegText (reg_text r) r
reg_back r h = by (nat_lt r.0 32) refl
  where
    by : (v : Bool) → nat_lt r.0 32 ≡ v → IsRegText (if v then 114 ∷ decimal r.0 else 112 ∷ decimal (r.0 - 32)) r
    by true e = general_text r.0 (grind (arith, nat_tests))
    by false e =
        let low : 32 ≤ r.0 = grind (arith, nat_tests) in
        let n : 32 + (r.0 - 32) ≡ r.0 = omega arith in
        let t = predicate_text (r.0 - 32) (omega arith) in
        subst (λ (k : ℕ). IsRegText (112 ∷ decimal (r.0 - 32)) (record { 0 = k })) n t

-- and behind an exclamation mark too
pub negated_says : (text : List ℕ) (r : Reg) → IsRegText text r → Says (33 ∷ text) (Negated r)
negated_says text r t = record { some = refl; inner = t.says.inner; spelt = rw t.reg refl }

-- ---- registers with `.new` behind them

-- a word that is read as this register with `.new` behind it, and as no register
pub record IsFreshText (text : List ℕ) (r : Reg) : Type 0 where
  pub says : Says text (Named text)
  pub fresh : fresh_of text ≡ Some r
  pub other : reg_of text ≡ None

-- a text with `.new` behind it
abbrev new_text : List ℕ → List ℕ
new_text text = text ++ codes ".new"

ends_new : (text : List ℕ) → fresh_of (new_text text) ≡ reg_of text
ends_new text =
    let long = length-append text (codes ".new") in
    let cut : length (new_text text) - 4 ≡ length text = omega (arith, long) in
    rw (cut, drop-append_seam text (codes ".new"), take-append_seam text (codes ".new")) refl

no_digits : (text : List ℕ) → all_ascii_digits (new_text text) ≡ false
no_digits [] = refl
no_digits (b ∷ bs) = by (is_ascii_digit b) (no_digits bs)
  where
    by : (v : Bool) → all_ascii_digits (new_text bs) ≡ false → (v && all_ascii_digits (new_text bs)) ≡ false
    by false h = refl
    by true h = h

and_false : (b : Bool) → (b && false) ≡ false
and_false true = refl
and_false false = refl

no_digits_of : (negative : Bool) (text : List ℕ) → digits_of negative (new_text text) ≡ None
no_digits_of negative text = rw (no_digits text, and_false (nat_lt 0 (length (new_text text)))) refl

no_number : (text : List ℕ) → number_of (new_text text) ≡ None
no_number [] = refl
no_number (b ∷ bs) = by (b == 45)
  where
    by : (v : Bool) → (if v then digits_of true (new_text bs) else digits_of false (new_text (b ∷ bs))) ≡ None
    by true = no_digits_of true bs
    by false = no_digits_of false (b ∷ bs)

rest_new : (text : List ℕ) → list_all is_rest text ≡ true → list_all is_rest (new_text text) ≡ true
rest_new [] h = refl
rest_new (b ∷ bs) h = let k = and_parts (is_rest b) (list_all is_rest bs) h in rw (k.0, rest_new bs k.1) refl

sigil_new_name : (c n : ℕ) → is_first c ≡ true → is_rest c ≡ true → n < 2 ^ 32 → is_name (new_text (c ∷ decimal n)) ≡ true
sigil_new_name c n first rest h =
    let w = decimal_writes n h in
    let long = length-append (decimal n) (codes ".new") in
    is_name_by (new_text (c ∷ decimal n)) (record {
      some = omega arith;
      short = omega (arith, w.few, long);
      first = first;
      rest = rw (rest, rest_new (decimal n) (digits_rest (decimal n) n w)) refl;
    })

general_new_text : (n : ℕ) → n < 32 → IsFreshText (new_text (114 ∷ decimal n)) (record { 0 = n })
general_new_text n h = record {
  says = name_says (new_text (114 ∷ decimal n)) (sigil_new_name 114 n refl refl (omega arith));
  fresh = ends_new (114 ∷ decimal n) ∙ (general_text n h).reg;
  other = rw (no_number (decimal n)) refl;
}

predicate_new_text : (n : ℕ) → n < 4 → IsFreshText (new_text (112 ∷ decimal n)) (record { 0 = 32 + n })
predicate_new_text n h = record {
  says = name_says (new_text (112 ∷ decimal n)) (sigil_new_name 112 n refl refl (omega arith));
  fresh = ends_new (112 ∷ decimal n) ∙ (predicate_text n h).reg;
  other = rw (no_number (decimal n)) refl;
}

-- a register before `.new` is read back
pub fresh_back : (r : Reg) → r.0 < REGISTERS → IsFreshText (reg_text r ++ codes ".new") r
fresh_back r h = by (nat_lt r.0 32) refl
  where
    by : (v : Bool) → nat_lt r.0 32 ≡ v → IsFreshText (new_text (if v then 114 ∷ decimal r.0 else 112 ∷ decimal (r.0 - 32))) r
    by true e = general_new_text r.0 (grind (arith, nat_tests))
    by false e =
        let low : 32 ≤ r.0 = grind (arith, nat_tests) in
        let n : 32 + (r.0 - 32) ≡ r.0 = omega arith in
        let t = predicate_new_text (r.0 - 32) (omega arith) in
        subst (λ (k : ℕ). IsFreshText (new_text (112 ∷ decimal (r.0 - 32))) (record { 0 = k })) n t

-- a text of three bytes at most has none behind it
short_text : (c n : ℕ) → nat_eq 46 c ≡ false → n < 100 → fresh_of (c ∷ decimal n) ≡ None
short_text c n other h =
    let few = length-decimal-le 2 n (omega arith) (omega arith) (omega arith) in
    let cut : length (c ∷ decimal n) - 4 ≡ 0 = omega (arith, few) in
    rw (cut, other) refl

-- and so no register has
pub stale_back : (r : Reg) → r.0 < REGISTERS → fresh_of (reg_text r) ≡ None
stale_back r h = by (nat_lt r.0 32)
  where
    by : (v : Bool) → fresh_of (if v then 114 ∷ decimal r.0 else 112 ∷ decimal (r.0 - 32)) ≡ None
    by true = short_text 114 r.0 refl (omega arith)
    by false = short_text 112 (r.0 - 32) refl (omega arith)

-- what is before `.new` is read behind an exclamation mark too
pub negated_fresh_says : (r : Reg) → r.0 < REGISTERS → Says (33 ∷ (reg_text r ++ codes ".new")) (NegatedFresh r)
negated_fresh_says r h =
    let t = fresh_back r h in
    record { some = refl; inner = t.says.inner; spelt = rw (t.other, t.fresh) refl }

-- ---- literals

literal_digits : (negative : Bool) (n : ℕ) (text : List ℕ) → n ≤ 65535 → number_of text ≡ Some (record { negative = negative; size = n })
    → word_of (35 ∷ text) ≡ Literal (signed_by negative n)
literal_digits negative n text h read =
    let low : nat_le n 65535 ≡ true = grind (arith, nat_tests) in
    rw (read, low) refl

pub literal_says : (z : ℤ) → unsigned_abs z ≤ 65535 → Says (35 ∷ signed_decimal z) (Literal z)
literal_says (pos n) h =
    let w = decimal_writes n (omega arith) in
    record {
      some = refl;
      inner = all_weaker is_rest (λ b. not (is_between b)) rest_inner (decimal n) (digits_rest (decimal n) n w);
      spelt = literal_digits false n (decimal n) h (number_read (decimal n) n w);
    }
literal_says (negsuc n) h =
    let w = decimal_writes (suc n) (omega arith) in
    record {
      some = refl;
      inner = all_weaker is_rest (λ b. not (is_between b)) rest_inner (decimal (suc n)) (digits_rest (decimal (suc n)) (suc n) w);
      spelt = literal_digits true (suc n) (45 ∷ decimal (suc n)) (omega arith) (digits_read true (decimal (suc n)) (suc n) w);
    }
