-- Laws of saved words.
use Rattle.std.proofs.Common.{ℕ, zero, suc, take, drop, ◌≡◌, ◌≢◌, ◌<◌, ◌≤◌, ◌+◌, ◌^◌, true, false, cond, List, [], ◌∷◌, ◌++◌, length, get_or, set}
use Rattle.std.proofs.Common.{sum_by, nat_eq, Bool}
use Rattle.std.proofs.Common.{All, vec_capacity, refl, sym, ap, ◌∙◌, subst, arith, inl, inr}
use Rattle.std.specs.List.{AllByRecursion}
use Rattle.std.proofs.lemmas.Bool.Decides.{nat_tests}
use Rattle.std.proofs.lemmas.List.{set-set, set_comm, set-get_or, get_or-set_same, get_or-set_other, get_or_append_left, get_or_push}
use Rattle.std.proofs.lemmas.List.{length-set, length-drop, length-take-le, length_push, map-append, take_all, drop_all}
use Rattle.std.proofs.lemmas.List.{take-append-le, drop-append-le}
use Rattle.std.proofs.lemmas.List.Sums.{sum_by-cons, sum_by-set}
use Rattle.std.proofs.lemmas.List.Elements.{recursion_from_All, All-from_recursion}
use Rattle.un_domains.specs.Sets.{has}
use Rattle.un_domains.specs.SetLaws.{has-cons, same_or_not}
use Rattle.un_domains.specs.OrderLaws.{has_here, has_later}
use Rattle.un_domains.specs.declared.levels.Saved.{Saved}
use Rattle.un_domains.specs.declared.levels.Saves.{Saves}
use Rattle.un_domains.specs.Levels.{unwind, unstamp, marked_from, marked_of, places, flag, IsLevel, AreLevels, AreSaves}

pub length-unwind : (es : List Saved) (ws : List ℕ) → length (unwind es ws) ≡ length ws
length-unwind [] ws = refl
length-unwind (e ∷ es) ws = length-set (unwind es ws) e.at e.old ∙ length-unwind es ws

pub unwind_one : (es : List Saved) (e : Saved) (ws : List ℕ) → unwind (es ++ e ∷ []) ws ≡ unwind es (set ws e.at e.old)
unwind_one [] e ws = refl
unwind_one (x ∷ es) e ws = ap (λ (vs : List ℕ). set vs x.at x.old) (unwind_one es e ws)

pub unstamp_one : (es : List Saved) (e : Saved) (st : List ℕ) → unstamp (es ++ e ∷ []) st ≡ unstamp es (set st e.at e.stamp)
unstamp_one [] e st = refl
unstamp_one (x ∷ es) e st = ap (λ (vs : List ℕ). set vs x.at x.stamp) (unstamp_one es e st)

-- a word that is saved now
same_new : (es : List Saved) (e : Saved) (ws : List ℕ) (w : ℕ) → get_or ws e.at 0 ≡ e.old
    → unwind (es ++ e ∷ []) (set ws e.at w) ≡ unwind es ws
same_new es e ws w is =
    unwind_one es e (set ws e.at w)
    ∙ ap (unwind es) (set-set ws e.at w e.old ∙ (ap (λ (o : ℕ). set ws e.at o) (sym is) ∙ set-get_or ws e.at 0))

-- its stamp
stamp_new : (es : List Saved) (e : Saved) (st : List ℕ) (d : ℕ) → get_or st e.at 0 ≡ e.stamp
    → unstamp (es ++ e ∷ []) (set st e.at d) ≡ unstamp es st
stamp_new es e st d is =
    unstamp_one es e (set st e.at d)
    ∙ ap (unstamp es) (set-set st e.at d e.stamp ∙ (ap (λ (o : ℕ). set st e.at o) (sym is) ∙ set-get_or st e.at 0))

set_over : (es : List Saved) (ws : List ℕ) (i w v : ℕ) → set (unwind es (set ws i w)) i v ≡ set (unwind es ws) i v
set_over [] ws i w v = set-set ws i w v
set_over (e ∷ es) ws i w v = elim (same_or_not e.at i) [
  | inl is ↦ subst (λ (k : ℕ). set (set (unwind es (set ws i w)) k e.old) i v ≡ set (set (unwind es ws) k e.old) i v) (sym is)
      (set-set (unwind es (set ws i w)) i e.old v ∙ (set_over es ws i w v ∙ sym (set-set (unwind es ws) i e.old v)))
  | inr ne ↦ set_comm (unwind es (set ws i w)) e.at i e.old v ne
      ∙ (ap (λ (vs : List ℕ). set vs e.at e.old) (set_over es ws i w v) ∙ sym (set_comm (unwind es ws) e.at i e.old v ne))
]

-- a word that was saved before
same_saved : (es : List Saved) (ws : List ℕ) (i w : ℕ) → has (places es) i ≡ true → unwind es (set ws i w) ≡ unwind es ws
same_saved [] ws i w h = absurd (cc h)
same_saved (e ∷ es) ws i w h = elim (has-cons e.at i (places es) h) [
  | inl is ↦ subst (λ (k : ℕ). set (unwind es (set ws i w)) k e.old ≡ set (unwind es ws) k e.old) is (set_over es ws i w e.old)
  | inr later ↦ ap (λ (vs : List ℕ). set vs e.at e.old) (same_saved es ws i w later)
]

-- Counts of stamps

flag_here : (d : ℕ) → flag d d ≡ 1
flag_here d = let e : nat_eq d d ≡ true = grind (arith, nat_tests) in rw e refl

flag_other : (d s : ℕ) → s ≢ d → flag d s ≡ 0
flag_other d s ne = by (nat_eq s d) refl
  where
    by : (b : Bool) → nat_eq s d ≡ b → ◌≡◌ {A = ℕ} (cond b 1 0) 0
    by true e = absurd (ne (grind (arith, nat_tests)))
    by false e = refl

flag-le : (d s : ℕ) → flag d s ≤ 1
flag-le d s = by (nat_eq s d)
  where
    by : (b : Bool) → cond b 1 0 ≤ 1
    by true = omega arith
    by false = omega arith

flags-le : (d : ℕ) (st : List ℕ) → sum_by (flag d) st ≤ length st
flags-le d [] = omega arith
flags-le d (s ∷ st) = omega (arith, sum_by-cons (flag d) s st, flags-le d st, flag-le d s)

one_more : (d : ℕ) (st : List ℕ) (i : ℕ) → i < length st → get_or st i 0 ≢ d → sum_by (flag d) (set st i d) ≡ sum_by (flag d) st + 1
one_more d st i lt off =
    omega (arith, sum_by-set (flag d) st i d 0 lt, flag_here d, flag_other d (get_or st i 0) off)

none_up : (d : ℕ) (st : List ℕ) → ((i : ℕ) → get_or st i 0 ≡ d → ⊥) → sum_by (flag d) st ≡ 0
none_up d [] off = refl
none_up d (s ∷ st) off =
    let rest = none_up d st (λ i on. off (suc i) on) in omega (arith, sum_by-cons (flag d) s st, rest, flag_other d s (off zero))

-- A word more in the last level

has_last : (xs : List ℕ) (i : ℕ) → has (xs ++ i ∷ []) i ≡ true
has_last [] i = has_here i []
has_last (x ∷ xs) i = has_later x i (xs ++ i ∷ []) (has_last xs i)

has_before : (xs : List ℕ) (i j : ℕ) → has xs j ≡ true → has (xs ++ i ∷ []) j ≡ true
has_before [] i j h = absurd (cc h)
has_before (x ∷ xs) i j h = elim (has-cons x j xs h) [
  | inl e ↦ subst (λ (k : ℕ). has (k ∷ (xs ++ i ∷ [])) j ≡ true) e (has_here j (xs ++ i ∷ []))
  | inr k ↦ has_later x j (xs ++ i ∷ []) (has_before xs i j k)
]

within_one : (n : ℕ) (es : List Saved) (e : Saved) → AllByRecursion (λ (x : Saved). x.at < n) es → e.at < n
    → AllByRecursion (λ (x : Saved). x.at < n) (es ++ e ∷ [])
within_one n [] e all lt = (lt, tt)
within_one n (x ∷ es) e all lt = (all.0, within_one n es e all.1 lt)

level_saved : (n d : ℕ) (es : List Saved) (st : List ℕ) (e : Saved) → IsLevel n d es st → e.at < n → get_or st e.at 0 ≢ d
    → IsLevel n d (es ++ e ∷ []) (set st e.at d)
level_saved n d es st e h lt off =
    let at : places (es ++ e ∷ []) ≡ places es ++ e.at ∷ [] = map-append (λ (x : Saved). x.at) es (e ∷ []) in
    let below : e.at < length st = omega (arith, lt, h.flags) in
    record {
      flags = length-set st e.at d ∙ h.flags;
      most = λ i. elim (same_or_not i e.at) [
        | inl same ↦ subst (λ (k : ℕ). get_or (set st e.at d) k 0 ≤ d) (sym same) (omega (arith, get_or-set_same st e.at d 0 below))
        | inr ne ↦ omega (arith, get_or-set_other st e.at i d 0 ne, h.most i)
      ];
      there = λ j is. subst (λ (xs : List ℕ). has xs j ≡ true) (sym at) (elim (same_or_not j e.at) [
        | inl same ↦ subst (λ (k : ℕ). has (places es ++ e.at ∷ []) k ≡ true) (sym same) (has_last (places es) e.at)
        | inr ne ↦ has_before (places es) e.at j (h.there j (sym (get_or-set_other st e.at j d 0 ne) ∙ is))
      ]);
      within = All-from_recursion _ _ (within_one n es e (recursion_from_All _ _ h.within) lt);
      count = one_more d st e.at below off ∙ (ap (λ (k : ℕ). k + 1) h.count ∙ sym (length_push es e));
    }

-- there is room for a word that is not saved
pub has_room : (n d i : ℕ) (s : Saves) → AreSaves n s → length s.starts.items ≡ suc d → i < n → get_or s.stamps.items i 0 ≢ suc d
    → length s.entries.items < vec_capacity s.entries
has_room n d i s h deep lt off =
    let l = subst (λ (k : ℕ). AreLevels n k s.starts.items s.entries.items s.stamps.items) deep h.levels in
    let more = one_more (suc d) s.stamps.items i (omega (arith, lt, l.1.flags)) off in
    let most = flags-le (suc d) (set s.stamps.items i (suc d)) in
    omega (
      arith,
      more,
      most,
      length-set s.stamps.items i (suc d),
      l.1.flags,
      l.1.count,
      length-drop (get_or s.starts.items d 0) s.entries.items,
      l.0,
      h.room d deep,
    )

pub levels_saved : (n d : ℕ) (starts : List ℕ) (es : List Saved) (st : List ℕ) (e : Saved) → AreLevels n (suc d) starts es st → e.at < n
    → get_or st e.at 0 ≢ suc d → get_or st e.at 0 ≡ e.stamp → AreLevels n (suc d) starts (es ++ e ∷ []) (set st e.at (suc d))
levels_saved n d starts es st e h lt off is =
    let s = get_or starts d 0 in
    let parted = drop-append-le s es (e ∷ []) h.0 in (
      omega (arith, length_push es e, h.0),
      subst (λ (xs : List Saved). IsLevel n (suc d) xs (set st e.at (suc d))) (sym parted)
          (level_saved n (suc d) (drop s es) st e h.1 lt off),
      subst (λ (xs : List Saved). AreLevels n d starts xs (unstamp (drop s (es ++ e ∷ [])) (set st e.at (suc d))))
          (sym (take-append-le s es (e ∷ []) h.0))
          (subst (AreLevels n d starts (take s es))
          (sym (ap (λ (xs : List Saved). unstamp xs (set st e.at (suc d))) parted ∙ stamp_new (drop s es) e st (suc d) is)) h.2),
    )

-- the words at the marks, where those at the last one are the same
marked_same : (d : ℕ) (starts : List ℕ) (es es' : List Saved) (ws ws' : List ℕ) → take (get_or starts d 0) es' ≡ take (get_or starts d 0) es
    → unwind (drop (get_or starts d 0) es') ws' ≡ unwind (drop (get_or starts d 0) es) ws
    → marked_from (suc d) starts es' ws' ≡ marked_from (suc d) starts es ws
marked_same d starts es es' ws ws' front back =
    ap (λ (xs : List Saved). marked_from d starts xs (unwind (drop (get_or starts d 0) es') ws')
    ++ unwind (drop (get_or starts d 0) es') ws' ∷ []) front
    ∙ ap (λ (us : List ℕ). marked_from d starts (take (get_or starts d 0) es) us ++ us ∷ []) back

pub marked_saved : (n d : ℕ) (starts : List ℕ) (es : List Saved) (st : List ℕ) (e : Saved) (ws : List ℕ) (w : ℕ)
    → AreLevels n (suc d) starts es st → get_or ws e.at 0 ≡ e.old
    → marked_from (suc d) starts (es ++ e ∷ []) (set ws e.at w) ≡ marked_from (suc d) starts es ws
marked_saved n d starts es st e ws w h is =
    let s = get_or starts d 0 in
    marked_same d starts es (es ++ e ∷ []) ws (set ws e.at w) (take-append-le s es (e ∷ []) h.0)
    (ap (λ (xs : List Saved). unwind xs (set ws e.at w)) (drop-append-le s es (e ∷ []) h.0) ∙ same_new (drop s es) e ws w is)

pub marked_kept : (n d i : ℕ) (starts : List ℕ) (es : List Saved) (st ws : List ℕ) (w : ℕ)
    → AreLevels n (suc d) starts es st → get_or st i 0 ≡ suc d
    → marked_from (suc d) starts es (set ws i w) ≡ marked_from (suc d) starts es ws
marked_kept n d i starts es st ws w h on =
    marked_same d starts es es ws (set ws i w) refl (same_saved (drop (get_or starts d 0) es) ws i w (h.1.there i on))

-- A mark more, and a mark less

-- the first d of these starts alone count
levels_agree : (n d : ℕ) (a b : List ℕ) (es : List Saved) (st : List ℕ) → ((k : ℕ) → k < d → get_or a k 0 ≡ get_or b k 0)
    → AreLevels n d a es st → AreLevels n d b es st
levels_agree n zero a b es st same h = h
levels_agree n (suc d) a b es st same h =
    subst (λ (s : ℕ). (s ≤ length es) × IsLevel n (suc d) (drop s es) st × AreLevels n d b (take s es) (unstamp (drop s es) st))
    (same d (omega arith)) (
      h.0,
      h.1,
      levels_agree n d a b (take (get_or a d 0) es) (unstamp (drop (get_or a d 0) es) st) (λ k lt. same k (omega (arith, lt))) h.2,
    )

marked_agree : (d : ℕ) (a b : List ℕ) (es : List Saved) (ws : List ℕ) → ((k : ℕ) → k < d → get_or a k 0 ≡ get_or b k 0)
    → marked_from d a es ws ≡ marked_from d b es ws
marked_agree zero a b es ws same = refl
marked_agree (suc d) a b es ws same =
    let s = get_or a d 0 in
    ap (λ (m : List (List ℕ)). m ++ unwind (drop s es) ws ∷ [])
    (marked_agree d a b (take s es) (unwind (drop s es) ws) (λ k lt. same k (omega (arith, lt))))
    ∙ ap (λ (t : ℕ). marked_from d b (take t es) (unwind (drop t es) ws) ++ unwind (drop t es) ws ∷ []) (same d (omega arith))

stamps-le : (n d : ℕ) (starts : List ℕ) (es : List Saved) (st : List ℕ) → AreLevels n d starts es st → (i : ℕ) → get_or st i 0 ≤ d
stamps-le n zero starts es st h i = omega (arith, h i)
stamps-le n (suc d) starts es st h i = h.1.most i

none_within : (n : ℕ) (es : List Saved) → es ≡ [] → All (λ (x : Saved). x.at < n) es
none_within n es none = subst (All (λ (x : Saved). x.at < n)) (sym none) (λ k d lt. absurd (omega (arith, lt)))

level_new : (n d : ℕ) (es : List Saved) (st : List ℕ) → es ≡ [] → length st ≡ n → ((i : ℕ) → get_or st i 0 ≤ d) → IsLevel n (suc d) es st
level_new n d es st none long le = record {
  flags = long;
  most = λ i. omega (arith, le i);
  there = λ i on. absurd (omega (arith, le i, on));
  within = none_within n es none;
  count = none_up (suc d) st (λ i on. omega (arith, le i, on)) ∙ sym (ap length none);
}

start_same : (starts : List ℕ) (s k : ℕ) → k < length starts → get_or starts k 0 ≡ get_or (starts ++ s ∷ []) k 0
start_same starts s k lt = sym (get_or_append_left starts (s ∷ []) 0 k lt)

-- what is saved with one mark more
pub saves_marked : (n : ℕ) (s t : Saves) → AreSaves n s → t.starts.items ≡ s.starts.items ++ length s.entries.items ∷ []
    → t.entries.items ≡ s.entries.items → t.stamps.items ≡ s.stamps.items → length s.stamps.items ≡ n
    → length s.entries.items + n ≤ vec_capacity t.entries → length s.starts.items + 1 < 2 ^ 32 → AreSaves n t
saves_marked n s t h starts entries stamps long room few =
    let es = s.entries.items in
    let d = length s.starts.items in
    let more = s.starts.items ++ length es ∷ [] in
    let deep : length t.starts.items ≡ suc d = ap length starts ∙ (length_push s.starts.items (length es) ∙ omega arith) in
    let at : get_or more d 0 ≡ length es = get_or_push s.starts.items (length es) 0 d refl in
    let nothing : drop (get_or more d 0) es ≡ [] = drop_all (get_or more d 0) es (omega (arith, at)) in
    let all : take (get_or more d 0) es ≡ es = take_all (get_or more d 0) es (omega (arith, at)) in
    let before = levels_agree n d s.starts.items more es s.stamps.items (start_same s.starts.items (length es)) h.levels in
    let levels : AreLevels n (suc d) more es s.stamps.items = (
      omega (arith, at),
      level_new n d (drop (get_or more d 0) es) s.stamps.items nothing long (stamps-le n d s.starts.items es s.stamps.items h.levels),
      subst (λ (xs : List Saved). AreLevels n d more xs (unstamp (drop (get_or more d 0) es) s.stamps.items)) (sym all)
          (subst (λ (xs : List Saved). AreLevels n d more es (unstamp xs s.stamps.items)) (sym nothing) before),
    ) in
    record {
      levels = subst (λ (k : ℕ). AreLevels n k t.starts.items t.entries.items t.stamps.items) (sym deep)
          (subst (λ (xs : List ℕ). AreLevels n (suc d) xs t.entries.items t.stamps.items) (sym starts)
          (subst (λ (xs : List Saved). AreLevels n (suc d) more xs t.stamps.items) (sym entries)
          (subst (AreLevels n (suc d) more es) (sym stamps) levels)));
      room = λ k is. let same : k ≡ d = omega (arith, is, deep) in
          let start : get_or t.starts.items k 0 ≡ length es =
          ap (λ (xs : List ℕ). get_or xs k 0) starts ∙ (ap (λ (j : ℕ). get_or more j 0) same ∙ at) in omega (arith, start, room);
      deep = omega (arith, deep, few);
    }

pub marked_more : (s t : Saves) → t.starts.items ≡ s.starts.items ++ length s.entries.items ∷ [] → t.entries.items ≡ s.entries.items
    → (ws : List ℕ) → marked_of t ws ≡ marked_of s ws ++ ws ∷ []
marked_more s t starts entries ws =
    let es = s.entries.items in
    let d = length s.starts.items in
    let more = s.starts.items ++ length es ∷ [] in
    let deep : length t.starts.items ≡ suc d = ap length starts ∙ (length_push s.starts.items (length es) ∙ omega arith) in
    let at : get_or more d 0 ≡ length es = get_or_push s.starts.items (length es) 0 d refl in
    let nothing : drop (get_or more d 0) es ≡ [] = drop_all (get_or more d 0) es (omega (arith, at)) in
    let all : take (get_or more d 0) es ≡ es = take_all (get_or more d 0) es (omega (arith, at)) in
    ap (λ (k : ℕ). marked_from k t.starts.items t.entries.items ws) deep
    ∙ (ap (λ (xs : List ℕ). marked_from (suc d) xs t.entries.items ws) starts
    ∙ (ap (λ (xs : List Saved). marked_from (suc d) more xs ws) entries
    ∙ (ap (λ (xs : List Saved). marked_from d more xs (unwind (drop (get_or more d 0) es) ws) ++ unwind (drop (get_or more d 0) es) ws ∷ []) all
    ∙ (ap (λ (xs : List Saved). marked_from d more es (unwind xs ws) ++ unwind xs ws ∷ []) nothing
    ∙ ap (λ (m : List (List ℕ)). m ++ ws ∷ [])
    (sym (marked_agree d s.starts.items more es ws (start_same s.starts.items (length es))))))))

pub marked_by : (s t : Saves) → t.starts.items ≡ s.starts.items → t.entries.items ≡ s.entries.items → (ws : List ℕ)
    → marked_of t ws ≡ marked_of s ws
marked_by s t starts entries ws =
    ap (λ (xs : List ℕ). marked_from (length xs) xs t.entries.items ws) starts
    ∙ ap (λ (es : List Saved). marked_from (length s.starts.items) s.starts.items es ws) entries

-- what is left when the last mark is taken back
pub saves_back : (n s : ℕ) (old new : Saves) → AreSaves n old → old.starts.items ≡ new.starts.items ++ s ∷ []
    → new.entries.items ≡ take s old.entries.items → new.stamps.items ≡ unstamp (drop s old.entries.items) old.stamps.items
    → vec_capacity new.entries ≡ vec_capacity old.entries → AreSaves n new
saves_back n s old new h starts entries stamps capacity =
    let d = length new.starts.items in
    let es = old.entries.items in
    let deep : length old.starts.items ≡ suc d = ap length starts ∙ (length_push new.starts.items s ∙ omega arith) in
    let l = subst (λ (k : ℕ). AreLevels n k old.starts.items es old.stamps.items) deep h.levels in
    let at : get_or old.starts.items d 0 ≡ s = ap (λ (xs : List ℕ). get_or xs d 0) starts ∙ get_or_push new.starts.items s 0 d refl in
    let rest : AreLevels n d old.starts.items (take s es) (unstamp (drop s es) old.stamps.items) =
    subst (λ (k : ℕ). AreLevels n d old.starts.items (take k es) (unstamp (drop k es) old.stamps.items)) at l.2 in
    let left = levels_agree n d old.starts.items new.starts.items (take s es) (unstamp (drop s es) old.stamps.items)
    (λ k lt. ap (λ (xs : List ℕ). get_or xs k 0) starts ∙ sym (start_same new.starts.items s k lt)) rest in
    let levels : AreLevels n d new.starts.items new.entries.items new.stamps.items =
    subst (λ (xs : List Saved). AreLevels n d new.starts.items xs new.stamps.items) (sym entries)
    (subst (AreLevels n d new.starts.items (take s es)) (sym stamps) left) in
    let whole = h.room d deep in
    record {
      levels = levels;
      room = λ k is. let below = subst (λ (j : ℕ). AreLevels n j new.starts.items new.entries.items new.stamps.items) is levels in
          omega (arith, below.0, ap length entries, length-take-le s es (omega (arith, at, l.0)), at, whole, capacity);
      deep = omega (arith, deep, h.deep);
    }

pub marked_less : (s : ℕ) (old new : Saves) → old.starts.items ≡ new.starts.items ++ s ∷ [] → new.entries.items ≡ take s old.entries.items
    → (ws us : List ℕ) → us ≡ unwind (drop s old.entries.items) ws → marked_of old ws ≡ marked_of new us ++ us ∷ []
marked_less s old new starts entries ws us back =
    let d = length new.starts.items in
    let es = old.entries.items in
    let deep : length old.starts.items ≡ suc d = ap length starts ∙ (length_push new.starts.items s ∙ omega arith) in
    let at : get_or old.starts.items d 0 ≡ s = ap (λ (xs : List ℕ). get_or xs d 0) starts ∙ get_or_push new.starts.items s 0 d refl in
    ap (λ (k : ℕ). marked_from k old.starts.items es ws) deep
    ∙ (ap (λ (k : ℕ). marked_from d old.starts.items (take k es) (unwind (drop k es) ws) ++ unwind (drop k es) ws ∷ []) at
    ∙ (ap (λ (vs : List ℕ). marked_from d old.starts.items (take s es) vs ++ vs ∷ []) (sym back)
    ∙ (ap (λ (xs : List Saved). marked_from d old.starts.items xs us ++ us ∷ []) (sym entries)
    ∙ ap (λ (m : List (List ℕ)). m ++ us ∷ []) (marked_agree d old.starts.items new.starts.items new.entries.items us
    (λ k lt. ap (λ (xs : List ℕ). get_or xs k 0) starts ∙ sym (start_same new.starts.items s k lt))))))

-- what the last mark says of its entries
pub last_level : (n s : ℕ) (old : Saves) (starts : List ℕ) → AreSaves n old → old.starts.items ≡ starts ++ s ∷ []
    → (s ≤ length old.entries.items) × IsLevel n (length starts + 1) (drop s old.entries.items) old.stamps.items
last_level n s old starts h is =
    let d = length starts in
    let deep : length old.starts.items ≡ suc d = ap length is ∙ (length_push starts s ∙ omega arith) in
    let l = subst (λ (k : ℕ). AreLevels n k old.starts.items old.entries.items old.stamps.items) deep h.levels in
    let at : get_or old.starts.items d 0 ≡ s = ap (λ (xs : List ℕ). get_or xs d 0) is ∙ get_or_push starts s 0 d refl in
    let next : suc d ≡ d + 1 = omega arith in (
      omega (arith, l.0, at),
      subst (λ (k : ℕ). IsLevel n k (drop s old.entries.items) old.stamps.items) next
          (subst (λ (k : ℕ). IsLevel n (suc d) (drop k old.entries.items) old.stamps.items) at l.1),
    )

-- Entries that are given back, one by one

pub last_within : (n : ℕ) (old new : List Saved) (e : Saved) → old ≡ new ++ e ∷ [] → All (λ (x : Saved). x.at < n) old → e.at < n
last_within n old new e is all = by new (recursion_from_All _ _ (subst (All (λ (x : Saved). x.at < n)) is all))
  where
    by : (es : List Saved) → AllByRecursion (λ (x : Saved). x.at < n) (es ++ e ∷ []) → e.at < n
    by [] h = h.0
    by (x ∷ es) h = by es h.1

within_but_last : (n : ℕ) (es : List Saved) (e : Saved) → AllByRecursion (λ (x : Saved). x.at < n) (es ++ e ∷ [])
    → AllByRecursion (λ (x : Saved). x.at < n) es
within_but_last n [] e all = tt
within_but_last n (x ∷ es) e all = (all.0, within_but_last n es e all.1)

pub there_popped : (n : ℕ) (old new : List Saved) (e : Saved) → old ≡ new ++ e ∷ [] → All (λ (x : Saved). x.at < n) old
    → All (λ (x : Saved). x.at < n) new
there_popped n old new e is all =
    All-from_recursion _ _ (within_but_last n new e (recursion_from_All _ _ (subst (All (λ (x : Saved). x.at < n)) is all)))

pub length-marked_from : (d : ℕ) (starts : List ℕ) (es : List Saved) (ws : List ℕ) → length (marked_from d starts es ws) ≡ d
length-marked_from zero starts es ws = refl
length-marked_from (suc d) starts es ws =
    let s = get_or starts d 0 in
    let us = unwind (drop s es) ws in
    omega (arith, length_push (marked_from d starts (take s es) us) us, length-marked_from d starts (take s es) us)
