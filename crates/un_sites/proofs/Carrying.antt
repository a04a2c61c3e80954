-- Of the values that cross a call, read behind it or stood for by a result that crosses it, each comes to one that is there in the call's
-- cycle and is read after it: to itself, or to what its result comes to. No two that no result stands for come to the same one.
use Rattle.std.proofs.Common.{ℕ, suc, ◌≡◌, ◌⊎◌, Bool, true, false, List, [], ◌∷◌, ◌++◌, inl, inr, refl, sym, ap, ◌∙◌, subst}
use Rattle.std.proofs.Common.{eq-eqb}
use Rattle.std.specs.Prelude.{Option, Some, None, ◌||◌, ◌==◌, slice_get, if◌then◌else◌}
use Rattle.std.specs.List.{list_any}
use Rattle.std.specs.Option.{option_to_list}
use Rattle.std.proofs.lemmas.Bool.{eqb-true}
use Rattle.std.proofs.lemmas.List.Folds.{list_any-append}
use Rattle.un_base.specs.declared.ids.TempId.{TempId}
use Rattle.un_ir.specs.declared.extended.Operand.{Operand}
use Rattle.un_ir.specs.Linear.{first_of}
use Rattle.un_lists.proofs.Lists.{Each, Pairwise, Member, any_of}
use Rattle.un_sites.specs.Crossings.{reads_value, is_carried, first_new, handed_by, handed}
use Rattle.un_sites.specs.Places.{Place}

-- ---- tests

or_cases : (a b : Bool) → (a || b) ≡ true → (a ≡ true) ⊎ (b ≡ true)
or_cases true b h = inl refl
or_cases false b h = inr h

or_left : (a b : Bool) → a ≡ true → (a || b) ≡ true
or_left true b h = refl
or_left false b h = absurd (cc h)

or_right : (a b : Bool) → b ≡ true → (a || b) ≡ true
or_right true b h = refl
or_right false b h = h

or_again : (a b c : Bool) → (a || (b || c)) ≡ ((a || b) || c)
or_again true b c = refl
or_again false b c = refl

true_false : (a : Bool) → a ≡ true → a ≡ false → ⊥
true_false a h k = let z : true ≡ false = sym h ∙ k in cc z

-- ---- what an operation hands on

-- a value that some operand reads, and that does not cross already
pub record IsNew (crosses : ℕ → Bool) (xs : List Operand) (n : ℕ) : Type 0 where
  pub place : ℕ
  pub operand : Operand
  pub at : slice_get xs place ≡ Some operand
  pub reads : first_of operand.alts ≡ n
  pub fresh : crosses n ≡ false

new_is : (crosses : ℕ → Bool) (xs : List Operand) (n : ℕ) → first_new crosses xs ≡ Some n → IsNew crosses xs n
new_is crosses [] n h = absurd (cc h)
new_is crosses (x ∷ xs) n h = by (crosses (first_of x.alts)) refl h (new_is crosses xs n)
  where
    by : (b : Bool) → crosses (first_of x.alts) ≡ b → (if b then first_new crosses xs else Some (first_of x.alts)) ≡ Some n
        → (first_new crosses xs ≡ Some n → IsNew crosses xs n) → IsNew crosses (x ∷ xs) n
    by true e k rest =
        let r = rest k in
        record { place = suc r.place; operand = r.operand; at = r.at; reads = r.reads; fresh = r.fresh }
    by false e k rest =
        let same : first_of x.alts ≡ n = cc k in
        record { place = 0; operand = x; at = refl; reads = same; fresh = sym (ap crosses same) ∙ e }

-- an operation that hands a value on gives a result that crosses
pub record IsHanded (crosses : ℕ → Bool) (p : Place) (n : ℕ) : Type 0 where
  pub result : TempId
  pub gives : Member result p.it.results
  pub crosses_on : crosses result.0 ≡ true
  pub new : IsNew crosses p.it.operands n

handed_is : (crosses : ℕ → Bool) (p : Place) (n : ℕ) → handed_by crosses p ≡ Some n → IsHanded crosses p n
handed_is crosses p n h = by (list_any (λ (t : TempId). crosses t.0) p.it.results) refl h
  where
    by : (b : Bool) → list_any (λ (t : TempId). crosses t.0) p.it.results ≡ b
        → (if b then first_new crosses p.it.operands else None) ≡ Some n → IsHanded crosses p n
    by true e k =
        let t = any_of (λ (t : TempId). crosses t.0) p.it.results e in
        record { result = t.0; gives = t.1; crosses_on = t.2; new = new_is crosses p.it.operands n k }
    by false e k = absurd (cc k)

-- ---- what values come to

-- no result of p is one of q
abbrev pub GivesOthers : Place → Place → Type 0
GivesOthers p q = (t u : TempId) → Member t p.it.results → Member u q.it.results → t.0 ≡ u.0 → ⊥

-- no operation gives value n
abbrev pub GiveNone : List Place → ℕ → Type 0
GiveNone ps n = Each (λ (p : Place). (t : TempId) → Member t p.it.results → t.0 ≡ n → ⊥) ps

module _ (b : Bool) (behind : List Place) (There After : ℕ → Type 0)
    (base : (n : ℕ) → list_any (reads_value b n) behind ≡ true → After n) where
  -- what an operation gives is there in the call's cycle, or what it reads is read after that
  abbrev pub IsEarlyOrLate : Place → Type 0
  IsEarlyOrLate p = ((t : TempId) → Member t p.it.results → There t.0)
      ⊎ ((k : ℕ) (y : Operand) → slice_get p.it.operands k ≡ Some y → After (first_of y.alts))

  abbrev pub crosses : List Place → ℕ → Bool
  crosses ps n = is_carried b behind (handed b behind ps) n

  -- what each value comes to
  pub record Carrying (ps : List Place) : Type 0 where
    pub last : ℕ → ℕ
    pub closed : (n : ℕ) → crosses ps n ≡ true → crosses ps (last n) ≡ true
    pub apart : (n m : ℕ) → crosses ps n ≡ true → crosses ps m ≡ true → GiveNone ps n → GiveNone ps m → last n ≡ last m → n ≡ m
    pub there : (n : ℕ) → crosses ps n ≡ true → There n → There (last n) × After (last n)

  none_yet : Carrying []
  none_yet = record {
    last = λ n. n;
    closed = λ n h. h;
    apart = λ n m h k f g same. same;
    there = λ n h t. (t, elim (or_cases (list_any (reads_value b n) behind) false h) [ inl e ↦ base n e | inr e ↦ absurd (cc e) ]);
  }

  module _ (p : Place) (ps : List Place) (rest : Carrying ps) (good : IsEarlyOrLate p) (others : Each (GivesOthers p) ps) where
    abbrev ns : List ℕ
    ns = handed b behind ps

    -- one more value crosses, if any
    more : (o : Option ℕ) → handed_by (crosses ps) p ≡ o → (n : ℕ)
        → crosses (p ∷ ps) n ≡ (crosses ps n || list_any (λ (m : ℕ). m == n) (option_to_list o))
    more o e n =
        ap (λ (o : Option ℕ). is_carried b behind (ns ++ option_to_list o) n) e
        ∙ ap (λ (t : Bool). list_any (reads_value b n) behind || t) (list_any-append (λ (m : ℕ). m == n) ns (option_to_list o))
        ∙ or_again (list_any (reads_value b n) behind) (list_any (λ (m : ℕ). m == n) ns)
        (list_any (λ (m : ℕ). m == n) (option_to_list o))

    no_more : handed_by (crosses ps) p ≡ None → Carrying (p ∷ ps)
    no_more e = record {
      last = rest.last;
      closed = λ n h. up (rest.last n) (rest.closed n (down n h));
      apart = λ n m h k f g same. rest.apart n m (down n h) (down m k) f.1 g.1 same;
      there = λ n h t. rest.there n (down n h) t;
    }
      where
        down : (n : ℕ) → crosses (p ∷ ps) n ≡ true → crosses ps n ≡ true
        down n h = elim (or_cases (crosses ps n) false (sym (more None e n) ∙ h)) [ inl k ↦ k | inr k ↦ absurd (cc k) ]

        up : (n : ℕ) → crosses ps n ≡ true → crosses (p ∷ ps) n ≡ true
        up n h = more None e n ∙ or_left (crosses ps n) false h

    module _ (v : ℕ) (e : handed_by (crosses ps) p ≡ Some v) where
      is : IsHanded (crosses ps) p v
      is = handed_is (crosses ps) p v e

      up : (n : ℕ) → crosses ps n ≡ true → crosses (p ∷ ps) n ≡ true
      up n h = more (Some v) e n ∙ or_left (crosses ps n) ((v == n) || false) h

      own : crosses (p ∷ ps) v ≡ true
      own = more (Some v) e v ∙ or_right (crosses ps v) ((v == v) || false) (or_left (v == v) false (eq-eqb v v refl))

      down : (n : ℕ) → crosses (p ∷ ps) n ≡ true → (v == n) ≡ false → crosses ps n ≡ true
      down n h ne = elim (or_cases (crosses ps n) ((v == n) || false) (sym (more (Some v) e n) ∙ h)) [
        | inl k ↦ k
        | inr k ↦ elim (or_cases (v == n) false k) [ inl s ↦ absurd (true_false (v == n) s ne) | inr s ↦ absurd (cc s) ]
      ]

      -- no operation behind it gives its result
      alone : (qs : List Place) → Each (GivesOthers p) qs → GiveNone qs (is.result).0
      alone [] h = tt
      alone (q ∷ qs) h = ((λ t m same. h.0 is.result t is.gives m (sym same)), alone qs h.1)

      -- with what the new value comes to
      with_last : (to : ℕ) → crosses (p ∷ ps) to ≡ true
          → ((m : ℕ) → crosses ps m ≡ true → GiveNone (p ∷ ps) m → to ≡ rest.last m → ⊥)
          → (There v → There to × After to) → Carrying (p ∷ ps)
      with_last to inside off reads = record {
        last = next;
        closed = λ n h. closed n h (v == n) refl;
        apart = λ n m h k f g same. apart n m h k f g (v == n) (v == m) refl refl same;
        there = λ n h t. there n h t (v == n) refl;
      }
        where
          next : ℕ → ℕ
          next n = if v == n then to else rest.last n

          at : (n : ℕ) (t : Bool) → (v == n) ≡ t → next n ≡ (if t then to else rest.last n)
          at n t s = ap (λ (t : Bool). if t then to else rest.last n) s

          closed : (n : ℕ) → crosses (p ∷ ps) n ≡ true → (t : Bool) → (v == n) ≡ t → crosses (p ∷ ps) (next n) ≡ true
          closed n h true s = ap (crosses (p ∷ ps)) (at n true s) ∙ inside
          closed n h false s = ap (crosses (p ∷ ps)) (at n false s) ∙ up (rest.last n) (rest.closed n (down n h s))

          apart : (n m : ℕ) → crosses (p ∷ ps) n ≡ true → crosses (p ∷ ps) m ≡ true → GiveNone (p ∷ ps) n → GiveNone (p ∷ ps) m
              → (t u : Bool) → (v == n) ≡ t → (v == m) ≡ u → next n ≡ next m → n ≡ m
          apart n m h k f g true true s z same = sym (eqb-true v n s) ∙ eqb-true v m z
          apart n m h k f g true false s z same = absurd (off m (down m k z) g (sym (at n true s) ∙ same ∙ at m false z))
          apart n m h k f g false true s z same = absurd (off n (down n h s) f (sym (at m true z) ∙ sym same ∙ at n false s))
          apart n m h k f g false false s z same =
              rest.apart n m (down n h s) (down m k z) f.1 g.1 (sym (at n false s) ∙ same ∙ at m false z)

          there : (n : ℕ) → crosses (p ∷ ps) n ≡ true → There n → (t : Bool) → (v == n) ≡ t → There (next n) × After (next n)
          there n h t true s = subst (λ (k : ℕ). There k × After k) (sym (at n true s)) (reads (subst There (sym (eqb-true v n s)) t))
          there n h t false s = subst (λ (k : ℕ). There k × After k) (sym (at n false s)) (rest.there n (down n h s) t)

      one_more : Carrying (p ∷ ps)
      one_more = elim good [
        | inl early ↦ (
            let t = is.result in
            with_last (rest.last t.0) (up (rest.last t.0) (rest.closed t.0 is.crosses_on))
            (λ m k g same. g.0 t is.gives (rest.apart t.0 m is.crosses_on k (alone ps others) g.1 same))
            (λ there. rest.there t.0 is.crosses_on (early t is.gives)))
        | inr late ↦ (
            let n = is.new in
            with_last v own
            (λ m k g same. true_false (crosses ps v) (ap (crosses ps) same ∙ rest.closed m k) n.fresh)
            (λ there. (there, subst After n.reads (late n.place n.operand n.at))))
      ]

    next_one : (o : Option ℕ) → handed_by (crosses ps) p ≡ o → Carrying (p ∷ ps)
    next_one None e = no_more e
    next_one (Some v) e = one_more v e

  pub carrying : (ps : List Place) → Each IsEarlyOrLate ps → Pairwise GivesOthers ps → Carrying ps
  carrying [] good others = none_yet
  carrying (p ∷ ps) good others =
      next_one p ps (carrying ps good.1 others.1) good.0 others.0 (handed_by (crosses ps) p) refl
