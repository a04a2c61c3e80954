use Rattle.std.proofs.Common.{◌∙◌, not, sym}
use Rattle.un_domains.specs.Sets.{cut_by}
use Rattle.un_isa.specs.Tables.{in_mask}
use Rattle.un_prop.specs.Acts.{act_vars}
use Rattle.un_prop.specs.LookLaws.{known_of}
use Rattle.un_prop.specs.GoingLaws.{stepped_same, stepped_by}
use Rattle.un_rect.specs.Clobber.{call_steps}
use Rattle.un_rect.specs.Entries.{each_entry}
use Rattle.un_rect.proofs.Going.{going}
use Rattle.un_rect.proofs.Taken.{taken, unsure_idle, brief_idle}
use Rattle.un_rect.proofs.clobber.keep_survivor.Goals as goal

pub is_sure-requires : goal.is_sure-requires
is_sure-requires c = known_of c.args.w.now.vars.now (act_vars c.args.a.now.on) c.args.w.now.store.now.sets c.requires.of_temp.of_on
    c.requires.known

pub returns-then-not-is_sure-clause-step : goal.returns-then-not-is_sure-clause-step
returns-then-not-is_sure-clause-step c =
    let w = c.args.w.now in
    let a = c.args.a.now in
    stepped_same w.vars.now (each_entry (call_steps c.args.mask a) c.args.calls.now) w.store.now c.args.before
    (λ live. unsure_idle w.vars.now c.args.mask a c.requires.of_temp w.store.now.sets c.requires.known live c.requires.survives
    c.args.calls.now c.requires.of_calls (sym c.is_sure.ensures ∙ c.if-not-is_sure.true))

pub returns-then-not-any_lasts-clause-step : goal.returns-then-not-any_lasts-clause-step
returns-then-not-any_lasts-clause-step c =
    let w = c.args.w.now in
    let a = c.args.a.now in
    stepped_same w.vars.now (each_entry (call_steps c.args.mask a) c.args.calls.now) w.store.now c.args.before
    (λ live. brief_idle w.vars.now c.args.mask a c.requires.of_temp w.store.now.sets c.requires.known live c.requires.survives
    c.args.calls.now c.requires.of_calls (sym c.any_lasts.ensures ∙ c.if-not-any_lasts.true))

pub returns-clause-step : goal.returns-clause-step
returns-clause-step c =
    let w = c.args.w.now in
    let a = c.args.a.now in
    stepped_by w.vars.now (each_entry (call_steps c.args.mask a) c.args.calls.now) (cut_by (λ y. not (in_mask c.args.mask y)) a.reg.0)
    w.store.now c.keep_passing.new.w.store.now c.args.before c.keep_passing.result
    (λ live. taken w.vars.now c.args.mask a c.requires.of_temp w.store.now.sets c.requires.known live c.requires.survives
    c.args.calls.now c.requires.of_calls (sym c.is_sure.ensures ∙ c.if-not-is_sure.false)
    (sym c.any_lasts.ensures ∙ c.if-not-any_lasts.false))
    c.keep_passing.ensures.step

pub any_lasts-requires-clause-of_temp : goal.any_lasts-requires-clause-of_temp
any_lasts-requires-clause-of_temp c = c.requires.of_temp

pub any_lasts-requires-clause-of_calls : goal.any_lasts-requires-clause-of_calls
any_lasts-requires-clause-of_calls c = c.requires.of_calls

pub any_lasts-requires-clause-known : goal.any_lasts-requires-clause-known
any_lasts-requires-clause-known c = c.requires.known

pub any_lasts-requires-clause-live : goal.any_lasts-requires-clause-live
any_lasts-requires-clause-live c = c.requires.live (going c.args.before c.if-eq.ensures)

pub keep_passing-requires-clause-lent : goal.keep_passing-requires-clause-lent
keep_passing-requires-clause-lent c = c.requires.of_temp.of_reg

pub keep_passing-requires-clause-known : goal.keep_passing-requires-clause-known
keep_passing-requires-clause-known c = c.requires.known

pub keep_passing-requires-clause-live : goal.keep_passing-requires-clause-live
keep_passing-requires-clause-live c = c.requires.live
