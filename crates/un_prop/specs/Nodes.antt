-- What a search may take for the box of a node: its parent's end, cut by the decision.
use Rattle.std.proofs.Common.{ℕ, ◌≡◌, ◌<◌, Bool, true, false, cond, List, [], ◌∷◌, length, set, filter, nat_eq, None, Some, option_and_then}
use Rattle.std.proofs.Common.{refl, sym, ap, ◌∙◌, subst, arith}
use Rattle.std.specs.declared.option.Option.{Option}
use Rattle.std.specs.List.{AllByRecursion}
use Rattle.std.proofs.lemmas.Bool.Decides.{nat_tests}
use Rattle.std.proofs.lemmas.List.{get_or-set_same, set-get_or, length-set}
use Rattle.un_base.specs.declared.ids.VarId.{VarId}
use Rattle.un_domains.specs.Sets.{Sets, set_at, has, kept, cut_by, NoneEmpty}
use Rattle.un_domains.specs.SetLaws.{has-filter}
use Rattle.un_prop.specs.Rounds.{HasVars, fix_of}
use Rattle.un_domains.specs.Order.{Below}
use Rattle.un_prop.specs.Lawful.{BelowOption, Lawful}
use Rattle.un_domains.specs.OrderLaws.{Below-trans, has_below, filter_all, and_true}
use Rattle.un_prop.specs.Steps.{lawful_cut_by, lawful_then}
use Rattle.un_prop.specs.Fixes.{Stable, IsGreatest, IsFixOf, Shrunk, fix_greatest, fix_between, order_free, known_long}

-- a lawful cut that leaves alone whatever lies below what it leaves: tests that do not read the store
pub record Decision (vs : List VarId) (d : Sets → Option Sets) : Type 0 where
  pub lawful : Lawful vs d
  pub passes : (s t u : Sets) → HasVars vs s → NoneEmpty s → NoneEmpty u → d s ≡ Some t → Below u t → d u ≡ Some u

some_is : (s t : Sets) → Some s ≡ Some t → s ≡ t
some_is s t e = cc

-- the values of one variable that pass a test
pub decide_by : (v : VarId) (q : ℕ → Bool) → Decision (v ∷ []) (cut_by q v.0)
decide_by v q = record {
  lawful = lawful_cut_by (v ∷ []) v (λ s. q) (0, omega arith, refl) (record { monotone = λ t s y k f b h. h; local = λ s t y a. refl });
  passes = λ s t u k fs fu e b. here s t u (k 0 v (omega arith)) fu e b (nat_eq (length (filter q (set_at s v.0))) 0) refl;
}
  where
    here : (s t u : Sets) → v.0 < length s → NoneEmpty u → cut_by q v.0 s ≡ Some t → Below u t → (b : Bool)
        → nat_eq (length (filter q (set_at s v.0))) 0 ≡ b → cut_by q v.0 u ≡ Some u
    here s t u within fu e below true is = absurd (let none : None ≡ Some t = sym (ap (λ (b : Bool). cond b None (Some (kept q s v.0))) is)
        ∙ e in cc none)
    here s t u within fu e below false is =
        let left : kept q s v.0 ≡ t = some_is (kept q s v.0) t (sym (ap (λ (b : Bool). cond b None (Some (kept q s v.0))) is) ∙ e) in
        let at : set_at t v.0 ≡ filter q (set_at s v.0) = sym (ap (λ (w : Sets). set_at w v.0) left)
        ∙ get_or-set_same s v.0 (filter q (set_at s v.0)) [] within in
        let whole : filter q (set_at u v.0) ≡ set_at u v.0 = filter_all (set_at u v.0) q
        (λ x h. (and_true (q x) (has (set_at s v.0) x) (sym (has-filter q x (set_at s v.0))
        ∙ subst (λ (ys : List ℕ). has ys x ≡ true) at (has_below u t v.0 x below h))).0) in
        let long : length u ≡ length s = below.long ∙ (sym (ap length left) ∙ length-set s v.0 (filter q (set_at s v.0))) in
        let some : 0 < length (set_at u v.0) = fu v.0 (omega (arith, within, long)) in
        let no : nat_eq (length (filter q (set_at u v.0))) 0 ≡ false =
        subst (λ (ys : List ℕ). nat_eq (length ys) 0 ≡ false) (sym whole) (grind (arith, nat_tests, some)) in
        ap (λ (b : Bool). cond b None (Some (kept q u v.0))) no ∙
        ap (λ (w : Sets). Some w) (ap (λ (ys : List ℕ). set u v.0 ys) whole ∙ set-get_or u v.0 [])

module _ {P : Type 0} (scope : P → List VarId) (cut : P → Sets → Option Sets) (lawful : (p : P) → Lawful (scope p) (cut p)) where
  abbrev pub AllKnown : List P → Sets → Type 0
  AllKnown ps s = AllByRecursion (λ p. HasVars (scope p) s) ps

  module _ (ps : List P) (b f : Sets) (vs : List VarId) (d : Sets → Option Sets) (h : Decision vs d) (k : HasVars vs b)
      (known : AllKnown ps b) (full : NoneEmpty b) (end : fix_of cut ps b ≡ Some f) where
    top : IsGreatest cut ps b f
    top = subst (IsFixOf cut ps b) end (fix_greatest scope cut lawful ps b known full)

    known_end : HasVars vs f
    known_end i x lt = rw (top.below.long) (k i x lt)

    -- a stable store below the cut box is below the cut end
    below_cut : (b1 u : Sets) (c : Option Sets) → d b ≡ Some b1 → d f ≡ c → Below b1 b → Below u b1 → NoneEmpty u → Stable cut ps u
        → BelowOption (Some u) c
    below_cut b1 u c e is le below fu stable =
        subst (BelowOption (Some u)) is
        (subst (λ (x : Option Sets). BelowOption x (d f)) (h.passes b b1 u k full fu e below)
        (h.lawful.monotone u f known_end fu top.full (top.greatest u (Below-trans u b1 b below le) fu stable)))

    -- **the end of the cut end is the end of the cut box**
    pub fix_child : option_and_then (fix_of cut ps) (d f) ≡ option_and_then (fix_of cut ps) (d b)
    fix_child = by (d f) (d b) refl refl (h.lawful.monotone f b k top.full full top.below) (h.lawful.shrinks f known_end top.full)
        (h.lawful.shrinks b k full)
      where
        by : (c e : Option Sets) → d f ≡ c → d b ≡ e → BelowOption c e → Shrunk f c → Shrunk b e
            → option_and_then (fix_of cut ps) c ≡ option_and_then (fix_of cut ps) e
        by None None is is' le hc he = refl
        by (Some f1) None is is' le hc he = absurd le
        by None (Some b1) is is' le hc he = sym (order_free scope cut lawful ps b1 None
            (known_long scope cut lawful ps b b1 he.0.long known) he.1
            (λ u below fu stable. below_cut b1 u None is' is he.0 below fu stable))
        by (Some f1) (Some b1) is is' le hc he =
            let known1 = known_long scope cut lawful ps b b1 he.0.long known in
            fix_between scope cut lawful ps f1 b1 known1 hc.1 he.1 le
            (under (fix_of cut ps b1) (fix_greatest scope cut lawful ps b1 known1 he.1))
          where
            under : (r : Option Sets) → IsFixOf cut ps b1 r → BelowOption r (Some f1)
            under None g = tt
            under (Some r) g = below_cut b1 r (Some f1) is' is he.0 g.below g.full g.stable

  -- a box that fails has no part that does not
  pub fix_part_fails : (ps : List P) (b b1 : Sets) → AllKnown ps b → NoneEmpty b → NoneEmpty b1 → Below b1 b → fix_of cut ps b ≡ None
      → fix_of cut ps b1 ≡ None
  fix_part_fails ps b b1 known full full1 le e =
      let none : IsFixOf cut ps b None = subst (IsFixOf cut ps b) e (fix_greatest scope cut lawful ps b known full) in
      order_free scope cut lawful ps b1 None (known_long scope cut lawful ps b b1 le.long known) full1
      (λ u below. none u (Below-trans u b1 b below le))

  -- the end of a weaker list is as good a start as the box, as where a limit was larger
  pub fix_weaker : (ps qs : List P) (s f : Sets) → AllKnown ps s → AllKnown qs s → NoneEmpty s
      → ((u : Sets) → Stable cut qs u → Stable cut ps u) → fix_of cut ps s ≡ Some f → fix_of cut qs f ≡ fix_of cut qs s
  fix_weaker ps qs s f known_ps known_qs full weak e =
      let g : IsGreatest cut ps s f = subst (IsFixOf cut ps s) e (fix_greatest scope cut lawful ps s known_ps full) in
      fix_between scope cut lawful qs f s known_qs g.full full g.below
      (under g (fix_of cut qs s) (fix_greatest scope cut lawful qs s known_qs full))
    where
      under : IsGreatest cut ps s f → (c : Option Sets) → IsFixOf cut qs s c → BelowOption c (Some f)
      under g None h = tt
      under g (Some t) h = g.greatest t h.below h.full (weak t h.stable)

  -- Fix(Fix(r) ∩ b) is Fix(b) for a box b within r, where m is the common part
  pub fix_meet : (ps : List P) (r f b m : Sets) → AllKnown ps r → NoneEmpty r → NoneEmpty b → NoneEmpty m → fix_of cut ps r ≡ Some f
      → Below b r → Below m b → ((u : Sets) → Below u f → Below u b → Below u m) → fix_of cut ps m ≡ fix_of cut ps b
  fix_meet ps r f b m known fr fb fm e le mb common =
      let known_b = known_long scope cut lawful ps r b le.long known in
      fix_between scope cut lawful ps m b known_b fm fb mb (by (fix_of cut ps b) (fix_greatest scope cut lawful ps b known_b fb)
      (subst (IsFixOf cut ps r) e (fix_greatest scope cut lawful ps r known fr)))
    where
      by : (c : Option Sets) → IsFixOf cut ps b c → IsGreatest cut ps r f → BelowOption c (Some m)
      by None g there = tt
      by (Some t) g there = common t (there.greatest t (Below-trans t b r g.below le) g.full g.stable) g.below

-- decisions one after another
pub decide_then : (vs : List VarId) (d e : Sets → Option Sets) → Decision vs d → Decision vs e → Decision vs (λ s. option_and_then e (d s))
decide_then vs d e hd he = record {
  lawful = lawful_then vs d e hd.lawful he.lawful;
  passes = λ s t u k fs fu is b. by s t u k fs fu b (d s) refl (hd.lawful.shrinks s k fs) is;
}
  where
    long : (s t : Sets) → length t ≡ length s → HasVars vs s → HasVars vs t
    long s t h k i x lt = rw h (k i x lt)

    by : (s t u : Sets) → HasVars vs s → NoneEmpty s → NoneEmpty u → Below u t → (c : Option Sets) → d s ≡ c → Shrunk s c
        → option_and_then e c ≡ Some t → option_and_then e (d u) ≡ Some u
    by s t u k fs fu b None is h end = absurd (cc end)
    by s t u k fs fu b (Some m) is h end =
        let km = long s m h.0.long k in
        let tm : Shrunk m (Some t) = subst (Shrunk m) end (he.lawful.shrinks m km h.1) in
        ap (option_and_then e) (hd.passes s m u k fs fu is (Below-trans u t m b tm.0)) ∙ he.passes m t u km h.1 fu end b
