-- One line more among lines: what they give then.
use Rattle.std.proofs.Common.{◌≡◌, ℕ, List, [], ◌∷◌, ◌++◌, Option, Some, None, length, replicate, refl, sym, ap, ◌∙◌, append-nil, arith}
use Rattle.std.specs.List.{fold, filter_map}
use Rattle.std.specs.Option.{option_to_list}
use Rattle.std.proofs.lemmas.List.Elements.{filter_map-append}
use Rattle.std.proofs.lemmas.List.Sums.{fold_push}
use Rattle.un_isa.specs.declared.reg.TheConstants.{REGISTERS}
use Rattle.un_isa.specs.declared.start.Reply.{Reply as ReplyValue}
use Rattle.un_start.specs.declared.line.Line.{Line}
use Rattle.un_start.specs.declared.line.Line.TheVariants.{Reg, Mem, Reply, Set, Junk, Blocks}
use Rattle.un_start.specs.Places.{registers_in, with_register, word_on, words_in, own_lines, change_on, with_junk, reply_of, replies_in, last_of}
use Rattle.un_start.specs.Drafts.{with_last, with_own, with_line}

pub last_push : (ls : List Line) (l : Line) → last_of (ls ++ l ∷ []) ≡ Some l
last_push [] l = refl
last_push (k ∷ []) l = refl
last_push (k ∷ m ∷ ls) l = last_push (m ∷ ls) l

pub map_push : {X : Type 0} (f : Line → Option X) (ls : List Line) (l : Line)
    → filter_map f (ls ++ l ∷ []) ≡ filter_map f ls ++ option_to_list (f l)
map_push f ls l = filter_map-append f ls (l ∷ []) ∙ ap (λ (xs : List _). filter_map f ls ++ xs) (alone (f l) refl)
  where
    alone : (o : Option _) → f l ≡ o → filter_map f (l ∷ []) ≡ option_to_list (f l)
    alone None e = rw e refl
    alone (Some x) e = rw e refl

-- ---- the last item

pub last_with : {X : Type 0} (f : X → X) (xs : List X) (x : X) → with_last f (xs ++ x ∷ []) ≡ xs ++ f x ∷ []
last_with f [] x = refl
last_with f (y ∷ []) x = refl
last_with f (y ∷ z ∷ xs) x = ap (λ ys. y ∷ ys) (last_with f (z ∷ xs) x)

-- the last reply with one line more
pub own_pushed : (old front new : List ReplyValue) (r with_it : ReplyValue) (l : Line) → old ≡ front ++ r ∷ [] → with_it ≡ with_own l r
    → new ≡ front ++ with_it ∷ [] → new ≡ with_last (with_own l) old
own_pushed old front new r with_it l is made pushed =
    pushed ∙ (ap (λ (x : ReplyValue). front ++ x ∷ []) made ∙ (sym (last_with (with_own l) front r) ∙ ap (with_last (with_own l)) (sym is)))

-- a list without items has no last one
pub last_none : {X : Type 0} (f : X → X) (old new : List X) → old ≡ new ++ [] → length old ≡ 0 → new ≡ with_last f old
last_none f [] new is none = sym (append-nil new) ∙ sym is
last_none f (x ∷ xs) new is none = absurd (omega arith)

last_same : {X : Type 0} (f : X → X) → ((x : X) → f x ≡ x) → (xs : List X) → with_last f xs ≡ xs
last_same f e [] = refl
last_same f e (x ∷ []) = ap (λ y. y ∷ []) (e x)
last_same f e (x ∷ y ∷ xs) = ap (λ ys. x ∷ ys) (last_same f e (y ∷ xs))

-- ---- replies

abbrev zeros : List ℕ
zeros = replicate REGISTERS 0

reply_push : (n : ℕ) (own : List Line) (l : Line) → reply_of n (own ++ l ∷ []) ≡ with_own l (reply_of n own)
reply_push n own l =
    ap (λ (cs : List (ℕ × ℕ)). record { result = n; changed = cs; junk = fold with_junk zeros (own ++ l ∷ []) }) (map_push change_on own l)
    ∙ ap (λ (js : List ℕ). record { result = n; changed = filter_map change_on own ++ option_to_list (change_on l); junk = js })
    (fold_push with_junk zeros own l)

-- lines behind a reply's first are its own, up to the next reply
own_push : (l : Line) → own_lines (l ∷ []) ≡ l ∷ [] → (ls : List Line) → replies_in ls ≡ [] → own_lines (ls ++ l ∷ []) ≡ own_lines ls ++ l ∷ []
own_push l alone [] none = alone
own_push l alone (Reply n ∷ ls) none = absurd (cc none)
own_push l alone (k ∷ ls) none = ap (λ (ks : List Line). k ∷ ks) (own_push l alone ls none)

own_stays : (l : Line) (ls : List Line) (r : ReplyValue) (rs : List ReplyValue) → replies_in ls ≡ r ∷ rs → own_lines (ls ++ l ∷ []) ≡ own_lines ls
own_stays l [] r rs some = absurd (cc some)
own_stays l (Reply n ∷ ls) r rs some = refl
own_stays l (k ∷ ls) r rs some = ap (λ (ks : List Line). k ∷ ks) (own_stays l ls r rs some)

-- a line that begins no reply is one of the last one's own
own_last : (l : Line) → own_lines (l ∷ []) ≡ l ∷ [] → replies_in (l ∷ []) ≡ [] → (ls : List Line)
    → replies_in (ls ++ l ∷ []) ≡ with_last (with_own l) (replies_in ls)
own_last l alone none [] = none
own_last l alone none (Reply n ∷ ls) =
    ap (λ (rs : List ReplyValue). reply_of n (own_lines (ls ++ l ∷ [])) ∷ rs) (own_last l alone none ls) ∙ by (replies_in ls) refl
  where
    by : (rs : List ReplyValue) → replies_in ls ≡ rs
        → reply_of n (own_lines (ls ++ l ∷ [])) ∷ with_last (with_own l) rs ≡ with_last (with_own l) (reply_of n (own_lines ls) ∷ rs)
    by [] e = ap (λ (own : List Line). reply_of n own ∷ []) (own_push l alone ls e)
        ∙ ap (λ (r : ReplyValue). r ∷ []) (reply_push n (own_lines ls) l)
    by (r ∷ rs) e = ap (λ (own : List Line). reply_of n own ∷ with_last (with_own l) (r ∷ rs)) (own_stays l ls r rs e)
own_last l alone none (k ∷ ls) = own_last l alone none ls

-- a line that begins a reply ends the one before it
first_push : (n : ℕ) (ls : List Line) → replies_in (ls ++ Reply n ∷ []) ≡ replies_in ls ++ reply_of n [] ∷ []
first_push n [] = refl
first_push n (Reply m ∷ ls) =
    ap (λ (own : List Line). reply_of m own ∷ replies_in (ls ++ Reply n ∷ [])) (ends ls)
    ∙ ap (λ (rs : List ReplyValue). reply_of m (own_lines ls) ∷ rs) (first_push n ls)
  where
    ends : (ks : List Line) → own_lines (ks ++ Reply n ∷ []) ≡ own_lines ks
    ends [] = refl
    ends (Reply k ∷ ks) = refl
    ends (k ∷ ks) = ap (λ (own : List Line). k ∷ own) (ends ks)
first_push n (k ∷ ls) = first_push n ls

-- what changes no reply
own_nothing : (l : Line) → change_on l ≡ None → ((js : List ℕ) → with_junk js l ≡ js) → (r : ReplyValue) → with_own l r ≡ r
own_nothing l none same r =
    ap (λ (o : Option (ℕ × ℕ)). record r { changed = r.changed ++ option_to_list o; junk = with_junk r.junk l }) none
    ∙ (ap (λ (cs : List (ℕ × ℕ)). record r { changed = cs; junk = with_junk r.junk l }) (append-nil r.changed)
    ∙ ap (λ (js : List ℕ). record r { junk = js }) (same r.junk))

pub replies_push : (ls : List Line) (l : Line) → replies_in (ls ++ l ∷ []) ≡ with_line (replies_in ls) l
replies_push ls (Reg r n) = own_last (Reg r n) refl refl ls ∙ last_same (with_own (Reg r n)) (own_nothing (Reg r n) refl (λ js. refl)) (replies_in ls)
replies_push ls (Mem a w) = own_last (Mem a w) refl refl ls ∙ last_same (with_own (Mem a w)) (own_nothing (Mem a w) refl (λ js. refl)) (replies_in ls)
replies_push ls (Reply n) = first_push n ls
replies_push ls (Set a w) = own_last (Set a w) refl refl ls
replies_push ls (Junk r n) = own_last (Junk r n) refl refl ls
replies_push ls (Blocks n) = own_last (Blocks n) refl refl ls ∙ last_same (with_own (Blocks n)) (own_nothing (Blocks n) refl (λ js. refl)) (replies_in ls)

pub registers_push : (ls : List Line) (l : Line) → registers_in (ls ++ l ∷ []) ≡ with_register (registers_in ls) l
registers_push ls l = fold_push with_register zeros ls l

pub words_push : (ls : List Line) (l : Line) → words_in (ls ++ l ∷ []) ≡ words_in ls ++ option_to_list (word_on l)
words_push ls l = map_push word_on ls l
