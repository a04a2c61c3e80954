-- What is read of operands that are printed with commas between them, and with a literal at its place.
use Rattle.std.proofs.Common.{◌≡◌, ℕ, ◌+◌, ◌≤◌, ◌++◌, true, List, [], ◌∷◌, map, length, Option, Some, None, refl, ap, arith}
use Rattle.std.proofs.lemmas.Bool.{or_right}
use Rattle.un_isa.specs.declared.reg.Space.{Space}
use Rattle.un_isa.specs.declared.facts.Range.{Range}
use Rattle.un_isa.specs.declared.facts.Range.TheVariants.{Offset}
use Rattle.un_ir.specs.Text.{with_literal}
use Rattle.un_faults.specs.Vocabulary.{Number, Token, Spelled}
use Rattle.un_words.specs.declared.token.Token.TheVariants.{Named, Literal}
use Rattle.un_words.specs.declared.slot.Slot.{Slot}
use Rattle.un_words.specs.declared.slot.Slot.TheVariants.{Literal as LiteralSlot}
use Rattle.std.specs.List.{cons_option}
use Rattle.un_words.specs.Shapes.{alternate, is_list, name_in, names_at, literal_or, literal_at, zero_number, have_forms, separated}
use Rattle.un_words.specs.Shapes.{slots_by}
use Rattle.un_words.proofs.SlotFacts.{AreFormed, formed_fit, places}
use Rattle.un_reread.proofs.WordsOf.{Says, AllSay}
use Rattle.un_reread.proofs.OpTokens.{joined}

-- ---- words

says_last : (words : List (List ℕ)) (ts : List Token) (word : List ℕ) (t : Token) → AllSay words ts → Says word t
    → AllSay (words ++ word ∷ []) (ts ++ t ∷ [])
says_last [] [] word t says last = (last, tt)
says_last [] (u ∷ ts) word t says last = absurd says
says_last (x ∷ words) [] word t says last = absurd says
says_last (x ∷ words) (u ∷ ts) word t says last = (says.0, says_last words ts word t says.1 last)

pub says_literal : (literal : Option Range) (words : List (List ℕ)) (ts : List Token) (word : List ℕ) (t : Token) → AllSay words ts
    → Says word t
    → AllSay (with_literal literal word words) (with_literal literal t ts)
says_literal None words ts word t says last = says
says_literal (Some Offset) [] [] word t says last = (last, tt)
says_literal (Some Offset) [] (u ∷ ts) word t says last = absurd says
says_literal (Some Offset) (x ∷ words) [] word t says last = absurd says
says_literal (Some Offset) (x ∷ words) (u ∷ ts) word t says last = (says.0, (last, says.1))
says_literal (Some _) words ts word t says last = says_last words ts word t says last

-- ---- forms

formed_last : (slots : List Slot) (ts : List Token) (n : Number) → AreFormed slots ts
    → AreFormed (slots ++ LiteralSlot ∷ []) (ts ++ Literal n ∷ [])
formed_last [] [] n f = (refl, tt)
formed_last [] (t ∷ ts) n f = absurd f
formed_last (s ∷ slots) [] n f = absurd f
formed_last (s ∷ slots) (t ∷ ts) n f = (f.0, formed_last slots ts n f.1)

formed_literal : (literal : Option Range) (slots : List Slot) (ts : List Token) (n : Number) → AreFormed slots ts
    → AreFormed (with_literal literal LiteralSlot slots) (with_literal literal (Literal n) ts)
formed_literal None slots ts n f = f
formed_literal (Some Offset) [] [] n f = (refl, tt)
formed_literal (Some Offset) [] (t ∷ ts) n f = absurd f
formed_literal (Some Offset) (s ∷ slots) [] n f = absurd f
formed_literal (Some Offset) (s ∷ slots) (t ∷ ts) n f = (f.0, (refl, f.1))
formed_literal (Some _) slots ts n f = formed_last slots ts n f

formed_joined : (slots : List Slot) (ts : List Token) → AreFormed slots ts → AreFormed (separated slots) (joined ts)
formed_joined [] [] f = tt
formed_joined [] (t ∷ ts) f = absurd f
formed_joined (s ∷ slots) [] f = absurd f
formed_joined (s ∷ []) (t ∷ []) f = f
formed_joined (s ∷ []) (t ∷ u ∷ ts) f = absurd f.1
formed_joined (s ∷ r ∷ slots) (t ∷ []) f = absurd f.1
formed_joined (s ∷ r ∷ slots) (t ∷ u ∷ ts) f = (f.0, (refl, formed_joined (r ∷ slots) (u ∷ ts) f.1))

formed_names : (spaces : List Space) (ns : List Spelled) → length ns ≡ length spaces → AreFormed (places spaces) (map Named ns)
formed_names [] [] e = tt
formed_names [] (a ∷ ns) e = absurd (omega arith)
formed_names (s ∷ spaces) [] e = absurd (omega arith)
formed_names (s ∷ spaces) (a ∷ ns) e = (refl, formed_names spaces ns (omega arith))

pub slots_fit : (spaces : List Space) (literal : Option Range) (ns : List Spelled) (n : Number) → length ns ≡ length spaces
    → have_forms (slots_by spaces literal) (joined (with_literal literal (Literal n) (map Named ns))) ≡ true
slots_fit spaces literal ns n e =
    formed_fit (slots_by spaces literal) (joined (with_literal literal (Literal n) (map Named ns)))
    (formed_joined (with_literal literal LiteralSlot (places spaces)) (with_literal literal (Literal n) (map Named ns))
    (formed_literal literal (places spaces) (map Named ns) n (formed_names spaces ns e)))

in_turn : (a : Spelled) (ns : List Spelled) → alternate true (joined (map Named (a ∷ ns))) ≡ true
in_turn a [] = refl
in_turn a (b ∷ ns) = in_turn b ns

pub are_list : (ns : List Spelled) → is_list (joined (map Named ns)) ≡ true
are_list [] = refl
are_list (a ∷ ns) = or_right _ _ (in_turn a ns)

-- ---- what stands there

pub names_joined : (ts : List Token) → names_at (joined ts) ≡ names_at ts
names_joined [] = refl
names_joined (t ∷ []) = refl
names_joined (t ∷ u ∷ ts) = ap (cons_option (name_in t)) (names_joined (u ∷ ts))

pub literal_joined : (ts : List Token) → literal_at (joined ts) ≡ literal_at ts
literal_joined [] = refl
literal_joined (t ∷ []) = refl
literal_joined (t ∷ u ∷ ts) = ap (λ (n : Number). literal_or n t) (literal_joined (u ∷ ts))

names_back : (ns : List Spelled) → names_at (map Named ns) ≡ ns
names_back [] = refl
names_back (a ∷ ns) = ap (λ (rest : List Spelled). a ∷ rest) (names_back ns)

names_last : (ns : List Spelled) (n : Number) → names_at (map Named ns ++ Literal n ∷ []) ≡ ns
names_last [] n = refl
names_last (a ∷ ns) n = ap (λ (rest : List Spelled). a ∷ rest) (names_last ns n)

pub names_there : (literal : Option Range) (ns : List Spelled) (n : Number)
    → names_at (with_literal literal (Literal n) (map Named ns)) ≡ ns
names_there None ns n = names_back ns
names_there (Some Offset) [] n = refl
names_there (Some Offset) (a ∷ ns) n = ap (λ (rest : List Spelled). a ∷ rest) (names_back ns)
names_there (Some _) ns n = names_last ns n

pub no_literal : (ns : List Spelled) → literal_at (map Named ns) ≡ zero_number
no_literal [] = refl
no_literal (a ∷ ns) = no_literal ns

literal_last : (ns : List Spelled) (n : Number) → literal_at (map Named ns ++ Literal n ∷ []) ≡ n
literal_last [] n = refl
literal_last (a ∷ ns) n = literal_last ns n

pub literal_there : (range : Range) (ns : List Spelled) (n : Number) → literal_at (with_literal (Some range) (Literal n) (map Named ns)) ≡ n
literal_there Offset [] n = refl
literal_there Offset (a ∷ ns) n = refl
literal_there _ ns n = literal_last ns n

length_last : {X : Type 0} (x : X) (xs : List X) → length (xs ++ x ∷ []) ≤ length xs + 1
length_last x [] = omega arith
length_last x (y ∷ xs) = let more = length_last x xs in omega (arith, more)

pub length_literal : {X : Type 0} (literal : Option Range) (x : X) (xs : List X) → length (with_literal literal x xs) ≤ length xs + 1
length_literal None x xs = omega arith
length_literal (Some Offset) x [] = omega arith
length_literal (Some Offset) x (y ∷ xs) = omega arith
length_literal (Some _) x xs = length_last x xs
