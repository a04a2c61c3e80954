use Rattle.std.proofs.Common.{ℕ, ◌≡◌, ◌≤◌, ◌∙◌, false, not, ◌&&◌, nat_le, nat_lt, sym, ap, arith, inl, inr}
use Rattle.std.proofs.lemmas.Bool.{cases_lt}
use Rattle.std.proofs.lemmas.Bool.Decides.{nat_tests}
use Rattle.un_domains.specs.Sets.{cut_by}
use Rattle.un_prop.specs.Acts.{act_vars, at_vars}
use Rattle.un_prop.specs.AmongLaws.{has_among}
use Rattle.un_prop.specs.Looks.{sure}
use Rattle.un_prop.specs.LookLaws.{both, known_of}
use Rattle.un_prop.specs.LastLaws.{cut_all, cut_same}
use Rattle.un_prop.specs.GoingLaws.{stepped_same, stepped_by}
use Rattle.un_rect.specs.Spans.{greatest_start, least_end}
use Rattle.un_rect.specs.Clobber.{may_survive, cycle_test, cycle_cut}
use Rattle.un_rect.proofs.Refusals.{no_left, no_right, passes_unmet, refuses_met}
use Rattle.un_rect.proofs.Going.{going}
use Rattle.un_rect.proofs.clobber.keep_cycle.Goals as goal

empty_time : (start end y : ℕ) → end ≤ start → (nat_le start y && nat_lt y end) ≡ false
empty_time start end y le = elim (cases_lt y end) [
  | inl less ↦ (let no : nat_le start y ≡ false = grind (arith, nat_tests, le, less) in no_left (nat_le start y) (nat_lt y end) no)
  | inr more ↦ (let no : nat_lt y end ≡ false = grind (arith, nat_tests, more) in no_right (nat_le start y) (nat_lt y end) no)
]

pub is_sure-requires : goal.is_sure-requires
is_sure-requires c = known_of c.args.w.now.vars.now (act_vars c.args.a.now.on) c.args.w.now.store.now.sets c.requires.of_temp.of_on
    c.requires.known

pub returns-then-not-is_sure-clause-step : goal.returns-then-not-is_sure-clause-step
returns-then-not-is_sure-clause-step c =
    let w = c.args.w.now in
    let s = w.store.now in
    let a = c.args.a.now in
    stepped_same w.vars.now (cycle_cut c.args.mask a c.args.c.now) s c.args.before
    (λ live. cut_all (cycle_test c.args.mask a s.sets) c.args.c.now.at.0 s.sets
    (has_among w.vars.now c.args.c.now.at s.sets c.requires.of_call.of_at c.requires.known) live
    (λ y there. passes_unmet _ (no_right (nat_le (greatest_start a s.sets) y && nat_lt y (least_end a s.sets)) _
    (no_left (sure a.on s.sets) (not (may_survive c.args.mask a s.sets)) (sym c.is_sure.ensures ∙ c.if-not-is_sure.true)))))

pub may_survive-requires-clause-there : goal.may_survive-requires-clause-there
may_survive-requires-clause-there c = has_among c.args.w.now.vars.now c.args.a.now.reg c.args.w.now.store.now.sets
    c.requires.of_temp.of_reg c.requires.known

pub returns-then-may_survive-clause-step : goal.returns-then-may_survive-clause-step
returns-then-may_survive-clause-step c =
    let w = c.args.w.now in
    let s = w.store.now in
    let a = c.args.a.now in
    stepped_same w.vars.now (cycle_cut c.args.mask a c.args.c.now) s c.args.before
    (λ live. cut_all (cycle_test c.args.mask a s.sets) c.args.c.now.at.0 s.sets
    (has_among w.vars.now c.args.c.now.at s.sets c.requires.of_call.of_at c.requires.known) live
    (λ y there. passes_unmet _ (no_right (nat_le (greatest_start a s.sets) y && nat_lt y (least_end a s.sets)) _
    (no_right (sure a.on s.sets) (not (may_survive c.args.mask a s.sets)) (ap not (sym c.may_survive.ensures ∙ c.if-may_survive.true))))))

pub greatest_time-start-requires-clause-known : goal.greatest_time-start-requires-clause-known
greatest_time-start-requires-clause-known c = known_of c.args.w.now.vars.now (at_vars c.args.a.now.at) c.args.w.now.store.now.sets
    c.requires.of_temp.of_at c.requires.known

pub returns-then-end-from-clause-step : goal.returns-then-end-from-clause-step
returns-then-end-from-clause-step c =
    let w = c.args.w.now in
    let s = w.store.now in
    let a = c.args.a.now in
    let none : least_end a s.sets ≤ greatest_start a s.sets =
    omega (arith, c.if-end-from.true, c.from.ensures, c.greatest_time-start.ensures, c.least_end-end.ensures) in
    stepped_same w.vars.now (cycle_cut c.args.mask a c.args.c.now) s c.args.before
    (λ live. cut_all (cycle_test c.args.mask a s.sets) c.args.c.now.at.0 s.sets
    (has_among w.vars.now c.args.c.now.at s.sets c.requires.of_call.of_at c.requires.known) live
    (λ y there. passes_unmet _ (no_left (nat_le (greatest_start a s.sets) y && nat_lt y (least_end a s.sets)) _
    (empty_time (greatest_start a s.sets) (least_end a s.sets) y none))))

pub returns-clause-step : goal.returns-clause-step
returns-clause-step c =
    let w = c.args.w.now in
    let s = w.store.now in
    let a = c.args.a.now in
    let start = c.greatest_time-start.result in
    let end = c.least_end-end.result in
    stepped_by w.vars.now (cycle_cut c.args.mask a c.args.c.now) (cut_by (λ y. not (nat_le start y && nat_lt y end)) c.args.c.now.at.0) s
    c.keep_passing.new.w.store.now c.args.before c.keep_passing.result
    (λ live. cut_same (cycle_test c.args.mask a s.sets) (λ y. not (nat_le start y && nat_lt y end)) c.args.c.now.at.0 s.sets
    (λ y there. refuses_met (nat_le (greatest_start a s.sets) y && nat_lt y (least_end a s.sets)) _
    (both (sure a.on s.sets) (not (may_survive c.args.mask a s.sets)) (sym c.is_sure.ensures ∙ c.if-not-is_sure.false)
    (ap not (sym c.may_survive.ensures ∙ c.if-may_survive.false)))
    ∙ (ap (λ (n : ℕ). not (nat_le n y && nat_lt y (least_end a s.sets))) (sym c.greatest_time-start.ensures)
    ∙ ap (λ (n : ℕ). not (nat_le start y && nat_lt y n)) (sym c.least_end-end.ensures))))
    c.keep_passing.ensures.step

pub may_survive-requires-clause-live : goal.may_survive-requires-clause-live
may_survive-requires-clause-live c = c.requires.live (going c.args.before c.if-eq.ensures)

pub greatest_time-start-requires-clause-live : goal.greatest_time-start-requires-clause-live
greatest_time-start-requires-clause-live c = c.requires.live (going c.args.before c.if-eq.ensures)

pub least_end-end-requires-clause-vars : goal.least_end-end-requires-clause-vars
least_end-end-requires-clause-vars c = c.requires.of_temp

pub least_end-end-requires-clause-known : goal.least_end-end-requires-clause-known
least_end-end-requires-clause-known c = c.requires.known

pub least_end-end-requires-clause-live : goal.least_end-end-requires-clause-live
least_end-end-requires-clause-live c = c.requires.live (going c.args.before c.if-eq.ensures)

pub keep_passing-requires-clause-lent : goal.keep_passing-requires-clause-lent
keep_passing-requires-clause-lent c = c.requires.of_call.of_at

pub keep_passing-requires-clause-known : goal.keep_passing-requires-clause-known
keep_passing-requires-clause-known c = c.requires.known

pub keep_passing-requires-clause-live : goal.keep_passing-requires-clause-live
keep_passing-requires-clause-live c = c.requires.live
