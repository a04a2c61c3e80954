use Rattle.std.proofs.Common.{List, ◌+◌, ◌∙◌, All, sym, ap, subst}
use Rattle.un_base.specs.declared.ids.VarId.{VarId}
use Rattle.un_prop.specs.GoingLaws.{join_failed}
use Rattle.un_prop.specs.Pruning.{join}
use Rattle.un_rect.specs.Spans.{TempVars}
use Rattle.un_rect.specs.Apart.{clash_pair}
use Rattle.un_rect.specs.Pairs.{each_before}
use Rattle.std.proofs.Common.{get_or}
use Rattle.un_rect.proofs.ExtentLaws.{same_sets, some_temp}
use Rattle.un_rect.proofs.CheckSteps.{step_after}
use Rattle.un_rect.specs.Extents.{AreExtentsBefore}
use Rattle.un_domains.specs.Sets.{Sets}
use Rattle.un_rect.proofs.Going.{going}
use Rattle.un_rect.proofs.Rows.{same_known}
use Rattle.un_rect.proofs.clashes.keep_next.Goals as goal

pub before_again-requires-clause-of_temps : goal.before_again-requires-clause-of_temps
before_again-requires-clause-of_temps c = subst (λ (us : List VarId). All (TempVars us) c.args.temps.now)
    (sym (ap (λ r. r.now) c.keep_row-did.ensures.vars)) c.requires.of_temps

pub before_again-requires-clause-known : goal.before_again-requires-clause-known
before_again-requires-clause-known c = same_known c.args.w.now.vars.now c.keep_row-did.new.w.vars.now c.args.w.now.store.now.sets
    c.keep_row-did.new.w.store.now.sets (ap (λ r. r.now) c.keep_row-did.ensures.vars) (c.keep_row-did.ensures.step some_temp).long
    c.requires.known

pub before_again-requires-clause-live : goal.before_again-requires-clause-live
before_again-requires-clause-live c = (c.keep_row-did.ensures.step some_temp).live
    (λ still. c.requires.live (going c.args.before c.if-eq.ensures))

pub before_again-requires-clause-are : goal.before_again-requires-clause-are
before_again-requires-clause-are c = λ e.
    (let other = going c.args.before c.if-eq.ensures in
    let temps = c.args.temps.now in
    subst (λ (s : Sets). AreExtentsBefore (c.args.j + 1) temps s c.note_next.new.extents)
    (sym (same_sets c.args.w.now.vars.now (each_before clash_pair temps (get_or temps c.args.j some_temp) c.args.j) c.args.w.now.store.now
    c.keep_row-did.new.w.store.now c.keep_row-did.result (c.keep_row-did.ensures.step some_temp) (c.requires.live other) e))
    c.note_next.ensures)

pub returns-clause-step : goal.returns-clause-step
returns-clause-step c = λ b.
    (let temps = c.args.temps.now in
    step_after c.args.w.now.vars.now (each_before clash_pair temps (get_or temps c.args.j b) c.args.j) c.args.w.now.store.now
    c.keep_row-did.new.w.store.now c.args.before c.keep_row-did.result c.joined.result
    (going c.args.before c.if-eq.ensures) c.joined.ensures (c.keep_row-did.ensures.step b))

pub returns-clause-are : goal.returns-clause-are
returns-clause-are c = λ still. c.before_again.ensures (λ e. still (c.joined.ensures ∙ (ap (join c.args.before) e
    ∙ join_failed c.args.before)))
