-- The names of a generated function and the labels of its blocks.
use Rattle.std.proofs.Common.{◌≡◌, ◌≢◌, ℕ, zero, suc, ◌+◌, ◌%◌, ◌^◌, ◌<◌, ◌≤◌, ◌&&◌, Bool, true, false, not, List, [], ◌∷◌, ◌++◌, length, Some}
use Rattle.std.proofs.Common.{decimal, All, refl, sym, ap, ◌∙◌, arith, nat_le, nat_lt}
use Rattle.std.specs.List.{AllPairs, list_all}
use Rattle.std.specs.Str.{bytes_eq}
use Rattle.std.proofs.lemmas.Bool.{and_parts, and_from, le-leb, lt-ltb, not-true, true≢false}
use Rattle.std.proofs.lemmas.Fmt.{decimal_by_steps, decimal_injective, length-decimal-le}
use Rattle.std.proofs.lemmas.List.Elements.{All-nil, All-cons}
use Rattle.std.proofs.lemmas.List.Kept.{AllPairs-cons}
use Rattle.std.proofs.lemmas.Slice.Eq.{bytes_eq-Decides}
use Rattle.un_base.specs.Names.{is_name, is_rest}
use Rattle.un_ir.specs.declared.function.Kind.{Kind}
use Rattle.un_ir.specs.declared.function.Kind.TheVariants.{General}
use Rattle.un_ir.specs.declared.function.TheConstants.{BLOCKS}
use Rattle.un_ir.specs.Names.{kind_of}
use Rattle.un_ir.specs.WellFormed.{IsName, Names}
use Rattle.un_gen.specs.Generated.{all_names, word, label_of}

abbrev Spelled : Type 0
Spelled = List ℕ × Kind

pub word_kind : (n : ℕ) → n < 8 → kind_of all_names (word n) ≡ Some General
word_kind zero h = refl
word_kind (suc zero) h = refl
word_kind (suc (suc zero)) h = refl
word_kind (suc (suc (suc zero))) h = refl
word_kind (suc (suc (suc (suc zero)))) h = refl
word_kind (suc (suc (suc (suc (suc zero))))) h = refl
word_kind (suc (suc (suc (suc (suc (suc zero)))))) h = refl
word_kind (suc (suc (suc (suc (suc (suc (suc zero))))))) h = refl
word_kind (suc (suc (suc (suc (suc (suc (suc (suc n)))))))) h = absurd (omega arith)

-- ---- the names are spelled as names, and each in another way

named_by : (ns : Names) → list_all (λ (n : Spelled). is_name n.0) ns ≡ true → All (λ (n : Spelled). IsName n.0) ns
named_by [] h = All-nil (λ (n : Spelled). IsName n.0)
named_by (n ∷ ns) h =
    let parts = and_parts (is_name n.0) (list_all (λ (m : Spelled). is_name m.0) ns) h in
    All-cons (λ (m : Spelled). IsName m.0) n ns parts.0 (named_by ns parts.1)

pub names_named : All (λ (n : Spelled). IsName n.0) all_names
names_named = named_by all_names refl

apart_by : (n : Spelled) (ns : Names) → list_all (λ (m : Spelled). not (bytes_eq n.0 m.0)) ns ≡ true → All (λ (m : Spelled). n ≢ m) ns
apart_by n [] h = All-nil (λ (m : Spelled). n ≢ m)
apart_by n (m ∷ ns) h =
    let parts = and_parts (not (bytes_eq n.0 m.0)) (list_all (λ (o : Spelled). not (bytes_eq n.0 o.0)) ns) h in
    let differs : bytes_eq n.0 m.0 ≡ false = not-true (bytes_eq n.0 m.0) parts.0 in
    All-cons (λ (o : Spelled). n ≢ o) m ns
    (λ e. true≢false (sym ((bytes_eq-Decides n.0 m.0).1 (ap (λ (o : Spelled). o.0) e)) ∙ differs)) (apart_by n ns parts.1)

abbrev are_apart : Names → Bool
are_apart [] = true
are_apart (n ∷ ns) = list_all (λ (m : Spelled). not (bytes_eq n.0 m.0)) ns && are_apart ns

pairs_by : (ns : Names) → are_apart ns ≡ true → AllPairs (λ (a b : Spelled). a ≢ b) ns
pairs_by [] h = λ i j d low high. absurd (omega arith)
pairs_by (n ∷ ns) h =
    let parts = and_parts (list_all (λ (m : Spelled). not (bytes_eq n.0 m.0)) ns) (are_apart ns) h in
    AllPairs-cons (λ (a b : Spelled). a ≢ b) n ns (apart_by n ns parts.0) (pairs_by ns parts.1)

pub names_apart : AllPairs (λ (a b : Spelled). a ≢ b) all_names
names_apart = pairs_by all_names refl

-- ---- labels

rest_digit : (n : ℕ) → n < 10 → is_rest (48 + n) ≡ true
rest_digit zero h = refl
rest_digit (suc zero) h = refl
rest_digit (suc (suc zero)) h = refl
rest_digit (suc (suc (suc zero))) h = refl
rest_digit (suc (suc (suc (suc zero)))) h = refl
rest_digit (suc (suc (suc (suc (suc zero))))) h = refl
rest_digit (suc (suc (suc (suc (suc (suc zero)))))) h = refl
rest_digit (suc (suc (suc (suc (suc (suc (suc zero))))))) h = refl
rest_digit (suc (suc (suc (suc (suc (suc (suc (suc zero)))))))) h = refl
rest_digit (suc (suc (suc (suc (suc (suc (suc (suc (suc zero))))))))) h = refl
rest_digit (suc (suc (suc (suc (suc (suc (suc (suc (suc (suc n)))))))))) h = absurd (omega arith)

rest_more : (ds : List ℕ) (n : ℕ) → n < 10 → list_all is_rest ds ≡ true → list_all is_rest (ds ++ (48 + n) ∷ []) ≡ true
rest_more [] n h e = and_from (is_rest (48 + n)) true (rest_digit n h) refl
rest_more (d ∷ ds) n h e =
    let parts = and_parts (is_rest d) (list_all is_rest ds) e in
    and_from (is_rest d) (list_all is_rest (ds ++ (48 + n) ∷ [])) parts.0 (rest_more ds n h parts.1)

rest_digits : (n : ℕ) → n < 2 ^ 64 → list_all is_rest (decimal n) ≡ true
rest_digits = decimal_by_steps (λ n ds. list_all is_rest ds ≡ true) (λ n lt. rest_more [] n lt refl)
    (λ n ds ge h. rest_more ds (n % 10) (omega arith) h)

is_label : (ds : List ℕ) → length ds ≤ 2 → list_all is_rest ds ≡ true → IsName (98 ∷ ds)
is_label ds short rest =
    let some : nat_lt 0 (suc (length ds)) ≡ true = lt-ltb 0 (suc (length ds)) (omega arith) in
    let fits : nat_le (suc (length ds)) 32 ≡ true = le-leb (suc (length ds)) 32 (omega arith) in
    rw (some, fits, rest) refl

pub label_named : (b : ℕ) → b < BLOCKS → IsName (label_of b)
label_named b h =
    is_label (decimal b) (length-decimal-le 2 b (omega arith) (omega arith) (omega arith)) (rest_digits b (omega arith))

pub labels_apart : (a b : ℕ) → a < b → b < BLOCKS → label_of a ≢ label_of b
labels_apart a b low high e =
    let digits : decimal a ≡ decimal b = cc e in
    let same : a ≡ b = decimal_injective a b (omega arith) (omega arith) digits in
    omega (arith, same)
