-- Laws of steps.
use Rattle.std.proofs.Common.{ℕ, ◌≡◌, ◌≢◌, ◌<◌, Bool, true, false, cond, List, [], ◌∷◌, length, filter, set, nat_eq, nat_le, nat_lt, None}
use Rattle.std.proofs.Common.{Some, option_and_then, refl, sym, ap, ◌∙◌, subst, arith}
use Rattle.std.specs.declared.option.Option.{Option}
use Rattle.std.specs.List.{Contains}
use Rattle.std.proofs.lemmas.Bool.Decides.{nat_tests}
use Rattle.std.proofs.lemmas.List.{get_or-set_same, get_or-set_other, set-get_or, length-set}
use Rattle.std.proofs.lemmas.List.Elements.{All-contains}
use Rattle.un_base.specs.declared.ids.VarId.{VarId}
use Rattle.un_domains.specs.Sets.{Sets, set_at, cut_by, kept, total, NoneEmpty}
use Rattle.un_domains.specs.Cuts.{Contents, IsCut}
use Rattle.un_domains.specs.CutLaws.{filter_whole, kept_full}
use Rattle.un_domains.specs.OrderLaws.{total_below, total_same}
use Rattle.un_domains.specs.declared.cut.Cut.{Cut}
use Rattle.un_domains.specs.declared.cut.Cut.TheVariants.{Same as CutSame, Changed, Emptied}
use Rattle.un_prop.specs.Going.{Goes, Stepped, answer_of}
use Rattle.un_prop.specs.Steps.{kept_below}
use Rattle.un_prop.specs.Pruning.{IsPrune, Ends, Answers, Untouched, join}
use Rattle.un_prop.specs.declared.propagator.Pruned.{Pruned}
use Rattle.un_prop.specs.declared.propagator.Pruned.TheVariants.{Same, Tighter, Failed}

module _ (p : ℕ → Bool) (v : ℕ) (old new : Contents) (within : v < length old.sets) (live : NoneEmpty old.sets) where
  at_new : new.sets ≡ kept p old.sets v → set_at new.sets v ≡ filter p (set_at old.sets v)
  at_new e = ap (λ (s : Sets). set_at s v) e ∙ get_or-set_same old.sets v _ [] within

  some_left : (answer : Pruned) → new.sets ≡ kept p old.sets v → 0 < length (set_at new.sets v) → Answers answer old.sets new.sets
      → Ends (cut_by p v old.sets) old.sets new.sets answer
  some_left answer e some answers =
      let no : nat_eq (length (set_at new.sets v)) 0 ≡ false = grind (arith, nat_tests) in
      let there : nat_eq (length (filter p (set_at old.sets v))) 0 ≡ false =
      subst (λ (xs : List ℕ). nat_eq (length xs) 0 ≡ false) (at_new e) no in
      let more : 0 < length (filter p (set_at old.sets v)) = subst (λ (xs : List ℕ). 0 < length xs) (at_new e) some in
      rw there (record { sets = e; live = kept_full p old.sets v within live more; answers = subst (Answers answer old.sets) e answers })

  -- a cut ends as a pruning does
  pub cut_ends : (cut : Cut) → IsCut p v old new cut → Ends (cut_by p v old.sets) old.sets new.sets (answer_of cut)
  cut_ends CutSame h =
      let as_many = (h.same.0 refl).1 in
      let whole : filter p (set_at old.sets v) ≡ set_at old.sets v =
      filter_whole p (set_at old.sets v) (sym (ap length (at_new h.sets)) ∙ as_many) in
      some_left Same h.sets (h.same.0 refl).0 (h.sets ∙ (ap (λ (xs : List ℕ). set old.sets v xs) whole ∙ set-get_or old.sets v []))
  cut_ends Changed h =
      let ne : length (set_at new.sets v) ≢ 0 = λ z. cc (h.emptied.1 z) in
      let some : 0 < length (set_at new.sets v) = omega (arith, ne) in
      let below = kept_below p old.sets v within in
      let other : total new.sets ≢ total old.sets = λ e. cc (h.same.1 (
        some,
        ap (λ (s : Sets). length (set_at s v)) (h.sets ∙
            total_same (kept p old.sets v) old.sets below (sym (ap total h.sets) ∙ e)),
      )) in
      let less = total_below (kept p old.sets v) old.sets below in
      some_left Tighter h.sets some (omega (arith, other, less, ap total h.sets))
  cut_ends Emptied h =
      let none : length (set_at new.sets v) ≡ 0 = h.emptied.0 refl in
      let gone : nat_eq (length (filter p (set_at old.sets v))) 0 ≡ true = sym (ap (λ (xs : List ℕ). nat_eq (length xs) 0) (at_new h.sets))
      ∙ ap (λ (n : ℕ). nat_eq n 0) none in
      rw gone (
        refl,
        λ full. (let some = full v (omega (
          arith,
          within,
          ap length h.sets,
          length-set old.sets v (filter p (set_at old.sets v)),
        )) in omega (arith, some, none)),
      )

  pub cut_untouched : (vs : List VarId) (x : VarId) (cut : Cut) → x.0 ≡ v → Contains vs x → IsCut p v old new cut → Untouched vs old new
  cut_untouched vs x cut e there h = record {
    long = ap length h.sets ∙ length-set old.sets v (filter p (set_at old.sets v));
    marked = h.marked;
    others = λ w other. ap (λ (s : Sets). set_at s w) h.sets ∙ get_or-set_other old.sets v w (filter p (set_at old.sets v)) []
        (λ same. All-contains (λ u. w ≢ u.0) vs x other there (same ∙ sym e));
  }

pub untouched_then : (vs : List VarId) (a b c : Contents) → Untouched vs a b → Untouched vs b c → Untouched vs a c
untouched_then vs a b c p q = record {
  long = q.long ∙ p.long;
  marked = q.marked ∙ p.marked;
  others = λ w other. q.others w other ∙ p.others w other;
}

pub untouched_refl : (vs : List VarId) (a : Contents) → Untouched vs a a
untouched_refl vs a = record { long = refl; marked = refl; others = λ w other. refl }

pub join_failed : (first : Pruned) → join first Failed ≡ Failed
join_failed Same = refl
join_failed Tighter = refl
join_failed Failed = refl

join_answers : (first second : Pruned) (a b c : Sets) → Answers first a b → Answers second b c → Answers (join first second) a c
join_answers Same Same a b c h k = k ∙ h
join_answers Same Tighter a b c h k = omega (arith, k, ap total h)
join_answers Same Failed a b c h k = k
join_answers Tighter Same a b c h k = omega (arith, h, ap total k)
join_answers Tighter Tighter a b c h k = omega (arith, h, k)
join_answers Tighter Failed a b c h k = k
join_answers Failed second a b c h k = absurd h

ends_then : (f : Sets → Option Sets) (c : Option Sets) (old mid new : Sets) (first second : Pruned) → Ends c old mid first → first ≢ Failed
    → Ends (f mid) mid new second → Ends (option_and_then f c) old new (join first second)
ends_then f None old mid new first second a other b = absurd (other a.0)
ends_then f (Some left) old mid new first second a other b = both (f left) (subst (λ (s : Sets). Ends (f s) mid new second) a.sets b)
  where
    both : (d : Option Sets) → Ends d mid new second → Ends d old new (join first second)
    both None h = (ap (join first) h.0 ∙ join_failed first, h.1)
    both (Some u) h = record {
      sets = h.sets;
      live = h.live;
      answers = join_answers first second old left u a.answers (subst (λ (s : Sets). Answers second s u) a.sets h.answers);
    }

-- one step more
pub goes_then : (vs : List VarId) (f : Sets → Option Sets) (old new : Contents) (before did : Pruned) → before ≢ Failed
    → (NoneEmpty old.sets → Ends (f old.sets) old.sets new.sets did × Untouched vs old new) → Goes vs f old new before (join before did)
goes_then vs f old new before did other h c start so_far =
    let live : NoneEmpty old.sets = live_of c so_far.ends in
    let did_all = h live in
    record {
      ends = ends_then f c start.sets old.sets new.sets before did so_far.ends other did_all.0;
      untouched = untouched_then vs start old new so_far.untouched did_all.1;
    }
  where
    live_of : (c : Option Sets) → Ends c start.sets old.sets before → NoneEmpty old.sets
    live_of None e = absurd (other e.0)
    live_of (Some left) e = subst NoneEmpty (sym e.sets) e.live

-- after a failure nothing more is done
pub goes_failed : (vs : List VarId) (f : Sets → Option Sets) (old : Contents) → Goes vs f old old Failed Failed
goes_failed vs f old c start so_far = record { ends = by c so_far.ends; untouched = so_far.untouched }
  where
    by : (c : Option Sets) → Ends c start.sets old.sets Failed → Ends (option_and_then f c) start.sets old.sets Failed
    by None e = e
    by (Some left) e = absurd e.answers

-- a cut that leaves the store as it is, or that does there what another does
pub goes_by : (vs : List VarId) (f g : Sets → Option Sets) (old new : Contents) (before after : Pruned)
    → (NoneEmpty old.sets → f old.sets ≡ g old.sets)
    → Goes vs g old new before after → Goes vs f old new before after
goes_by vs f g old new before after e h c start so_far = by c so_far (h c start so_far)
  where
    by : (c : Option Sets) → IsPrune vs c start old before → IsPrune vs (option_and_then g c) start new after
        → IsPrune vs (option_and_then f c) start new after
    by None a b = b
    by (Some left) a b = subst (λ (o : Option Sets). IsPrune vs o start new after)
        (sym (subst (λ (s : Sets). f s ≡ g s) a.ends.sets (e (subst NoneEmpty (sym a.ends.sets) a.ends.live)))) b

pub goes_same : (vs : List VarId) (f : Sets → Option Sets) (old : Contents) (before : Pruned)
    → (NoneEmpty old.sets → f old.sets ≡ Some old.sets) → Goes vs f old old before before
goes_same vs f old before e = goes_by vs f (λ s. Some s) old old before before e (λ c start so_far. by c start so_far)
  where
    by : (c : Option Sets) (start : Contents) → IsPrune vs c start old before
        → IsPrune vs (option_and_then (λ s. Some s) c) start old before
    by None start a = a
    by (Some left) start a = a

-- where a pruning starts
pub starts : (vs : List VarId) (s : Contents) → NoneEmpty s.sets → IsPrune vs (Some s.sets) s s Same
starts vs s live = record { ends = record { sets = refl; live = live; answers = refl }; untouched = untouched_refl vs s }

-- Steps

ends_live : (c : Option Sets) (old new : Sets) (answer : Pruned) → Ends c old new answer → answer ≢ Failed → NoneEmpty new
ends_live None old new answer e other = absurd (other e.0)
ends_live (Some left) old new answer e other = subst NoneEmpty (sym e.sets) e.live

pub stepped_then : (vs : List VarId) (f : Sets → Option Sets) (old new : Contents) (before did after : Pruned) → before ≢ Failed
    → after ≡ join before did
    → length new.sets ≡ length old.sets → (NoneEmpty old.sets → Ends (f old.sets) old.sets new.sets did × Untouched vs old new)
    → Stepped vs f old new before after
stepped_then vs f old new before did after other is long h = record {
  goes = subst (λ (a : Pruned). Goes vs f old new before a) (sym is) (goes_then vs f old new before did other h);
  long = long;
  live = λ full still. ends_live (f old.sets) old.sets new.sets did ((h (full other)).0)
      (λ e. still (is ∙ (ap (join before) e ∙ join_failed before)));
}

pub stepped_failed : (vs : List VarId) (f : Sets → Option Sets) (old : Contents) (before : Pruned) → before ≡ Failed
    → Stepped vs f old old before before
stepped_failed vs f old before e = record {
  goes = subst (λ (a : Pruned). Goes vs f old old a a) (sym e) (goes_failed vs f old);
  long = refl;
  live = λ full still. absurd (still e);
}

pub stepped_same : (vs : List VarId) (f : Sets → Option Sets) (old : Contents) (before : Pruned)
    → (NoneEmpty old.sets → f old.sets ≡ Some old.sets)
    → Stepped vs f old old before before
stepped_same vs f old before e = record { goes = goes_same vs f old before e; long = refl; live = λ full still. full still }

pub stepped_by : (vs : List VarId) (f g : Sets → Option Sets) (old new : Contents) (before after : Pruned)
    → (NoneEmpty old.sets → f old.sets ≡ g old.sets)
    → Stepped vs g old new before after → Stepped vs f old new before after
stepped_by vs f g old new before after e h = record { goes = goes_by vs f g old new before after e h.goes; long = h.long; live = h.live }

pub stepped_chain : (vs : List VarId) (f g : Sets → Option Sets) (old mid new : Contents) (a b c : Pruned) → Stepped vs f old mid a b
    → Stepped vs g mid new b c
    → Stepped vs (λ s. option_and_then g (f s)) old new a c
stepped_chain vs f g old mid new a b c p q = record {
  goes = λ o start so_far. by o start (q.goes (option_and_then f o) start (p.goes o start so_far));
  long = q.long ∙ p.long;
  live = λ full still. q.live (p.live full) still;
}
  where
    by : (o : Option Sets) (start : Contents) → IsPrune vs (option_and_then g (option_and_then f o)) start new c
        → IsPrune vs (option_and_then (λ s. option_and_then g (f s)) o) start new c
    by None start h = h
    by (Some s) start h = h

-- some steps, and then the check of the last variable
pub goes_chain : (vs : List VarId) (f g : Sets → Option Sets) (old mid new : Contents) (a b c : Pruned) → Stepped vs f old mid a b
    → Goes vs g mid new b c
    → Goes vs (λ s. option_and_then g (f s)) old new a c
goes_chain vs f g old mid new a b c p q o start so_far = by o (q (option_and_then f o) start (p.goes o start so_far))
  where
    by : (o : Option Sets) → IsPrune vs (option_and_then g (option_and_then f o)) start new c
        → IsPrune vs (option_and_then (λ s. option_and_then g (f s)) o) start new c
    by None h = h
    by (Some s) h = h

-- Failing

pub untouched_cut : (p : ℕ → Bool) (vs : List VarId) (v : VarId) (old new : Contents) → Contains vs v → new.sets ≡ kept p old.sets v.0
    → new.marked ≡ old.marked → Untouched vs old new
untouched_cut p vs v old new there sets marked = record {
  long = ap length sets ∙ length-set old.sets v.0 (filter p (set_at old.sets v.0));
  marked = marked;
  others = λ w other. ap (λ (s : Sets). set_at s w) sets ∙ get_or-set_other old.sets v.0 w (filter p (set_at old.sets v.0)) []
      (λ same. All-contains (λ u. w ≢ u.0) vs v other there same);
}

-- no number is both
none_both : (xs : List ℕ) → filter (λ y. nat_lt 0 y) (filter (λ y. nat_le y 0) xs) ≡ []
none_both [] = refl
none_both (x ∷ xs) = by (nat_le x 0) refl (none_both xs)
  where
    by : (b : Bool) → nat_le x 0 ≡ b → filter (λ y. nat_lt 0 y) (filter (λ y. nat_le y 0) xs) ≡ []
        → filter (λ y. nat_lt 0 y) (cond b (x ∷ filter (λ y. nat_le y 0) xs) (filter (λ y. nat_le y 0) xs)) ≡ []
    by true e rest = let no : nat_lt 0 x ≡ false = grind (arith, nat_tests) in
        ap (λ (b : Bool). cond b (x ∷ filter (λ y. nat_lt 0 y) (filter (λ y. nat_le y 0) xs))
        (filter (λ y. nat_lt 0 y) (filter (λ y. nat_le y 0) xs))) no ∙ rest
    by false e rest = rest

none_left : (xs : List ℕ) → filter (λ y. false) xs ≡ []
none_left [] = refl
none_left (x ∷ xs) = none_left xs

-- one variable without a value
pub all_cut : (vs : List VarId) (v : VarId) (old mid new : Contents) → Contains vs v → v.0 < length old.sets
    → mid.sets ≡ kept (λ y. nat_le y 0) old.sets v.0 → mid.marked ≡ old.marked
    → new.sets ≡ kept (λ y. nat_lt 0 y) mid.sets v.0 → new.marked ≡ mid.marked
    → Ends (cut_by (λ y. false) v.0 old.sets) old.sets new.sets Failed × Untouched vs old new
all_cut vs v old mid new there within sets marked sets' marked' = (
  ends,
  untouched_then vs old mid new (untouched_cut (λ y. nat_le y 0) vs v old mid there sets marked)
      (untouched_cut (λ y. nat_lt 0 y) vs v mid new there sets' marked'),
)
  where
    long : v.0 < length mid.sets
    long = let e = ap length sets in let f = length-set old.sets v.0 (filter (λ y. nat_le y 0) (set_at old.sets v.0)) in
        omega (arith, within, e, f)

    at_mid : set_at mid.sets v.0 ≡ filter (λ y. nat_le y 0) (set_at old.sets v.0)
    at_mid = ap (λ (s : Sets). set_at s v.0) sets ∙ get_or-set_same old.sets v.0 (filter (λ y. nat_le y 0) (set_at old.sets v.0)) [] within

    at_new : set_at new.sets v.0 ≡ []
    at_new = ap (λ (s : Sets). set_at s v.0) sets' ∙ (get_or-set_same mid.sets v.0 (filter (λ y. nat_lt 0 y) (set_at mid.sets v.0)) [] long
        ∙ (ap (filter (λ y. nat_lt 0 y)) at_mid ∙ none_both (set_at old.sets v.0)))

    ends : Ends (cut_by (λ y. false) v.0 old.sets) old.sets new.sets Failed
    ends = subst (λ (xs : List ℕ). Ends (cond (nat_eq (length xs) 0) None (Some (set old.sets v.0 xs))) old.sets new.sets Failed)
        (sym (none_left (set_at old.sets v.0))) (
          refl,
          λ full. (let some = full v.0 (let e = ap length sets' in let f =
              length-set mid.sets v.0 (filter (λ y. nat_lt 0 y) (set_at mid.sets v.0)) in omega (arith, long, e, f)) in let none =
              ap length at_new in omega (arith, some, none)),
        )
