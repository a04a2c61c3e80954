-- Whether a list has a name twice, with the names before a place seen.
use Rattle.std.proofs.Common.{◌≡◌, ℕ, ◌+◌, ◌<◌, ◌++◌, ◌||◌, Bool, true, false, List, [], ◌∷◌, length, drop, get_or, add-one, refl}
use Rattle.std.proofs.Common.{sym, ap, ◌∙◌, subst}
use Rattle.std.specs.List.{list_any}
use Rattle.std.proofs.Math.Seq.{drop-cons}
use Rattle.std.proofs.lemmas.List.Folds.{list_any-append}
use Rattle.un_faults.specs.Vocabulary.{Spelled}
use Rattle.un_faults.specs.Before.{same_name, add_name}
use Rattle.un_faults.specs.LineFaults.{has_repeat}
use Rattle.un_faults.proofs.FirstNames.{name_equal, name_itself}
use Rattle.un_words.proofs.NameBytes.{same_truth}

-- the name has been seen
abbrev pub is_seen : List Spelled → Spelled → Bool
is_seen seen name = list_any (same_name name) seen

-- one of the names has been seen, or stands twice among them
abbrev pub repeats_after : List Spelled → List Spelled → Bool
repeats_after seen names = list_any (is_seen seen) names || has_repeat names

same_name_swap : (a b : Spelled) → same_name a b ≡ same_name b a
same_name_swap a b = same_truth _ _ (λ h. turned a b (name_equal a b h)) (λ h. turned b a (name_equal b a h))
  where
    turned : (a b : Spelled) → a ≡ b → same_name b a ≡ true
    turned a b e = subst (λ (x : Spelled). same_name x a ≡ true) e (name_itself a)

none_seen : (names : List Spelled) → list_any (is_seen []) names ≡ false
none_seen [] = refl
none_seen (n ∷ names) = none_seen names

pub nothing_seen : (names : List Spelled) → has_repeat names ≡ repeats_after [] names
nothing_seen names = ap (λ (x : Bool). x || has_repeat names) (sym (none_seen names))

-- ---- one name more

regroup : (p q r s : Bool) → ((p || (q || false)) || (r || s)) ≡ ((p || r) || (q || s))
regroup true q r s = refl
regroup false true true s = refl
regroup false true false s = refl
regroup false false true s = refl
regroup false false false s = refl

with_more : (seen : List Spelled) (n : Spelled) (names : List Spelled)
    → list_any (is_seen (seen ++ n ∷ [])) names ≡ (list_any (is_seen seen) names || list_any (same_name n) names)
with_more seen n [] = refl
with_more seen n (m ∷ names) =
    ap (λ (x : Bool). x || list_any (is_seen (seen ++ n ∷ [])) names) (list_any-append (same_name m) seen (n ∷ []))
    ∙ ap (λ (x : Bool). (list_any (same_name m) seen || (x || false)) || list_any (is_seen (seen ++ n ∷ [])) names) (same_name_swap m n)
    ∙ ap (λ (x : Bool). (list_any (same_name m) seen || (same_name n m || false)) || x) (with_more seen n names)
    ∙ regroup (list_any (same_name m) seen) (same_name n m) (list_any (is_seen seen) names) (list_any (same_name n) names)

or_again : (a b c : Bool) → ((a || b) || c) ≡ (a || (b || c))
or_again true b c = refl
or_again false b c = refl

pub one_more : (seen : List Spelled) (n : Spelled) (names : List Spelled) → is_seen seen n ≡ false
    → repeats_after seen (n ∷ names) ≡ repeats_after (add_name seen n) names
one_more seen n names new =
    rw new (sym (ap (λ (x : Bool). x || has_repeat names) (with_more seen n names)
    ∙ or_again (list_any (is_seen seen) names) (list_any (same_name n) names) (has_repeat names)))

pub found : (seen : List Spelled) (n : Spelled) (names : List Spelled) → is_seen seen n ≡ true → repeats_after seen (n ∷ names) ≡ true
found seen n names old = rw old refl

pub go_on : (names seen : List Spelled) (i : ℕ) (n : Spelled) → i < length names → n ≡ get_or names i n → is_seen seen n ≡ false
    → has_repeat names ≡ repeats_after seen (drop i names) → has_repeat names ≡ repeats_after (add_name seen n) (drop (i + 1) names)
go_on names seen i n below at new so_far =
    so_far ∙ ap (repeats_after seen) (cut ∙ ap (λ (x : Spelled). x ∷ drop (i + 1) names) (sym at))
    ∙ one_more seen n (drop (i + 1) names) new
  where
    cut : drop i names ≡ get_or names i n ∷ drop (i + 1) names
    cut = rw add-one (drop-cons names i n below)
