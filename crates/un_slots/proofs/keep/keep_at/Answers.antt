use Rattle.std.proofs.Common.{◌||◌, ◌∙◌, not, nat_eq, sym}
use Rattle.un_domains.specs.Sets.{cut_by}
use Rattle.un_prop.specs.GoingLaws.{goes_same, goes_by}
use Rattle.un_prop.specs.LastLaws.{cut_same, cut_all, passes_tested, dropped_tested}
use Rattle.un_slots.specs.Listings.{is_left}
use Rattle.un_slots.proofs.keep.keep_at.Goals as goal

pub returns-then-is_left-clause-goes : goal.returns-then-is_left-clause-goes
returns-then-is_left-clause-goes c =
    let w = c.args.w.now in
    let v = c.args.v in
    let t = is_left c.args.marks.now c.args.horizon c.args.c in
    goes_same w.vars.now (cut_by (λ z. not (nat_eq z c.args.c) || t) v.0) w.store.now c.args.before
    (λ live. cut_all (λ z. not (nat_eq z c.args.c) || t) v.0 w.store.now.sets c.requires.there live
    (λ y there. passes_tested (not (nat_eq y c.args.c)) t (sym c.is_left.ensures ∙ c.if-is_left.true)))

pub returns-clause-goes : goal.returns-clause-goes
returns-clause-goes c =
    let w = c.args.w.now in
    let v = c.args.v in
    let t = is_left c.args.marks.now c.args.horizon c.args.c in
    goes_by w.vars.now (cut_by (λ z. not (nat_eq z c.args.c) || t) v.0) (cut_by (λ z. not (nat_eq z c.args.c)) v.0) w.store.now
    c.drop_value.new.w.store.now c.args.before c.drop_value.result
    (λ live. cut_same (λ z. not (nat_eq z c.args.c) || t) (λ z. not (nat_eq z c.args.c)) v.0 w.store.now.sets
    (λ y there. dropped_tested (not (nat_eq y c.args.c)) t (sym c.is_left.ensures ∙ c.if-is_left.false)))
    c.drop_value.ensures.step.goes
