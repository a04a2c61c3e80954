use Rattle.std.proofs.Common.{ℕ, ◌≡◌, ◌<◌, ◌+◌, ◌-◌, ◌^◌, ◌⊎◌, ◌∙◌, Bool, true, false, ◌&&◌, not, nat_eq, nat_lt, refl, sym, ap, subst}
use Rattle.std.proofs.Common.{List, get_or, arith, inl, inr}
use Rattle.std.proofs.lemmas.Bool.Decides.{nat_tests}
use Rattle.std.proofs.lemmas.Bool.{cases_lt}
use Rattle.un_domains.specs.Sets.{set_at, has}
use Rattle.un_domains.specs.SetLaws.{least-le, has-fold_max}
use Rattle.un_prop.specs.AmongLaws.{has_among}
use Rattle.un_slots.specs.Loads.{others, can_issue}
use Rattle.un_slots.specs.Listings.{is_unmarked, listable}
use Rattle.un_slots.specs.ListingLaws.{free_unmarked}
use Rattle.un_slots.proofs.issue.mark.Goals as goal
use Rattle.un_slots.proofs.issue.mark.Goals.{then-any, else-any}

pub min-low-requires-clause-there : goal.min-low-requires-clause-there
min-low-requires-clause-there c = has_among c.args.w.now.vars.now c.args.item.now.at c.args.w.now.store.now.sets
    c.requires.of_item.of_at c.requires.known

pub min-low-requires-clause-some : goal.min-low-requires-clause-some
min-low-requires-clause-some c = c.requires.live c.args.item.now.at.0
    (has_among c.args.w.now.vars.now c.args.item.now.at c.args.w.now.store.now.sets c.requires.of_item.of_at c.requires.known)

pub max-high-requires-clause-there : goal.max-high-requires-clause-there
max-high-requires-clause-there c = has_among c.args.w.now.vars.now c.args.item.now.at c.args.w.now.store.now.sets
    c.requires.of_item.of_at c.requires.known

pub max-high-requires-clause-some : goal.max-high-requires-clause-some
max-high-requires-clause-some c = c.requires.live c.args.item.now.at.0
    (has_among c.args.w.now.vars.now c.args.item.now.at c.args.w.now.store.now.sets c.requires.of_item.of_at c.requires.known)

pub loop-c-init : goal.loop-c-init
loop-c-init c =
    let xs = set_at c.args.w.now.store.now.sets c.args.item.now.at.0 in
    record {
      marked = λ e lt own. (let le = least-le xs e own in let is = c.min-low.ensures in absurd (omega (arith, le, is, lt)));
      rest = λ e le. refl;
      none = λ off e lt own. (let le = least-le xs e own in let is = c.min-low.ensures in absurd (omega (arith, le, is, lt)));
      same = λ off. refl;
      early = λ off. grind (arith, nat_tests, off);
      fixed = refl;
      cycles = refl;
    }

less_or : (e n : ℕ) → e < n + 1 → (e < n) ⊎ (e ≡ n)
less_or e n lt = grind (arith, lt)

pub loop-c-preserved : goal.loop-c-preserved
loop-c-preserved c =
    let items = c.args.items.now in
    let s = c.args.w.now.store.now.sets in
    let i = c.args.item.now in
    let os = others c.args.k items in
    let inv = c.loop-c.invariant in
    let n = c.loop-c.c in
    let did = c.mark_at-here.ensures in
    let now = c.mark_at-here.new.scratch.cycles.items in
    let neither : c.if-any.any ≡ false → (c.loop-c.any ≡ false) × (c.mark_at-here.result ≡ false) =
    λ off. (elim c.if-any.branch [
      | then-any w ↦ absurd (let bad : true ≡ false = sym w.if-any.true ∙ (sym w.any-is ∙ off) in cc bad)
      | else-any w ↦ (w.if-any.false, sym w.any-is ∙ off)
    ]) in
    record {
      marked = λ e lt own. elim (less_or e n lt) [
        | inl below ↦ ap (λ (y : ℕ). not (nat_eq y (2 ^ 32 - 1))) (did.elsewhere e (λ is. omega (arith, below, is)))
            ∙ inv.marked e below own
        | inr is ↦ subst (λ (y : ℕ). is_unmarked now y ≡ can_issue os i s y) (sym is) (did.here (subst (λ (y : ℕ). has
            (set_at s i.at.0) y ≡ true) is own))
      ];
      rest = λ e le. did.elsewhere e (λ is. omega (arith, le, is)) ∙ inv.rest e (omega (arith, le));
      none = λ off e lt own. elim (less_or e n lt) [
        | inl below ↦ inv.none (neither off).0 e below own
        | inr is ↦ subst (λ (y : ℕ). can_issue os i s y ≡ true) (sym is) (did.none (neither off).1 (subst (λ (y : ℕ). has
            (set_at s i.at.0) y ≡ true) is own))
      ];
      same = λ off. did.same (neither off).1 ∙ inv.same (neither off).0;
      early = λ off. inv.early (neither off).0;
      fixed = did.fixed ∙ inv.fixed;
      cycles = did.cycles ∙ inv.cycles;
    }

pub returns-clause-marks : goal.returns-clause-marks
returns-clause-marks c e own =
    let items = c.args.items.now in
    let s = c.args.w.now.store.now.sets in
    let i = c.args.item.now in
    let xs = set_at s i.at.0 in
    let cycles = c.args.scratch.now.cycles.items in
    elim (cases_lt e c.args.horizon) [
      | inl early ↦ ap (λ (b : Bool). nat_lt e c.args.horizon && b) (elim (cases_lt e c.loop-c.c) [
        | inl below ↦ c.loop-c.invariant.marked e below own
        | inr past ↦ (
            let high = has-fold_max 0 xs e own in
            let top = c.max-high.ensures in
            let low = least-le xs e own in
            let first = c.min-low.ensures in
            let done = c.loop-c-test.false in
            let idle = c.last_taken-last.ensures.idle e (omega (arith, low, first)) (omega (arith, done, past))
            (omega (arith, early, high, top, c.min-end.ensures, c.saturating_add.ensures, c.ranges.horizon)) in
            let two = free_unmarked items s e c.args.k i (listable items c.args.scratch.now.fixed.items) cycles c.requires.item
            (omega arith) (ap (listable items) (sym c.as_slice.ensures.value) ∙ c.is_free-free.ensures.whole idle.0)
            (c.requires.listed.heads e early) (ap (λ (ys : List ℕ). get_or ys e 0) (sym c.as_slice-2.ensures.value) ∙ idle.1)
            (c.is_free-free.ensures.alone idle.0) in
            ap (λ (y : ℕ). not (nat_eq y (2 ^ 32 - 1))) (c.loop-c.invariant.rest e past) ∙ (two.0 ∙ sym two.1))
      ])
      | inr late ↦ (
          let no : nat_lt e c.args.horizon ≡ false = grind (arith, nat_tests, late) in
          ap (λ (b : Bool). b && is_unmarked c.loop-c.scratch.cycles.items e) no
          ∙ sym (ap (λ (b : Bool). b && can_issue (others c.args.k items) i s e) no))
    ]

pub returns-clause-none : goal.returns-clause-none
returns-clause-none c off e own =
    let items = c.args.items.now in
    let s = c.args.w.now.store.now.sets in
    let i = c.args.item.now in
    let xs = set_at s i.at.0 in
    let cycles = c.args.scratch.now.cycles.items in
    let high = has-fold_max 0 xs e own in
    let top = c.max-high.ensures in
    let before = c.loop-c.invariant.early off in
    let early : e < c.args.horizon = omega (arith, high, top, before) in
    let yes_lt : nat_lt e c.args.horizon ≡ true = grind (arith, nat_tests, early) in
    ap (λ (b : Bool). b && can_issue (others c.args.k items) i s e) yes_lt ∙ elim (cases_lt e c.loop-c.c) [
      | inl below ↦ c.loop-c.invariant.none off e below own
      | inr past ↦ (
          let low = least-le xs e own in
          let first = c.min-low.ensures in
          let done = c.loop-c-test.false in
          let idle = c.last_taken-last.ensures.idle e (omega (arith, low, first)) (omega (arith, done, past))
          (omega (arith, early, high, top, c.min-end.ensures, c.saturating_add.ensures, c.ranges.horizon)) in
          (free_unmarked items s e c.args.k i (listable items c.args.scratch.now.fixed.items) cycles c.requires.item
          (omega arith) (ap (listable items) (sym c.as_slice.ensures.value) ∙ c.is_free-free.ensures.whole idle.0)
          (c.requires.listed.heads e early) (ap (λ (ys : List ℕ). get_or ys e 0) (sym c.as_slice-2.ensures.value) ∙ idle.1)
          (c.is_free-free.ensures.alone idle.0)).1)
    ]
