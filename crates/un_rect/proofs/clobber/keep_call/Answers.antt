use Rattle.std.proofs.Common.{List, ◌∙◌, option_and_then, ap, subst}
use Rattle.un_base.specs.declared.ids.VarId.{VarId}
use Rattle.un_prop.specs.Going.{Stepped}
use Rattle.un_prop.specs.GoingLaws.{stepped_chain}
use Rattle.un_rect.specs.Entries.{each_entry}
use Rattle.un_rect.specs.Clobber.{hit_cut, off_cut, cycle_cut, reader_cut}
use Rattle.un_rect.proofs.Rows.{same_known, same_temp}
use Rattle.std.proofs.Common.{sym}
use Rattle.un_rect.specs.Clobber.{CallVars}
use Rattle.un_rect.proofs.clobber.keep_call.Goals as goal

pub keep_readers-requires-clause-live : goal.keep_readers-requires-clause-live
keep_readers-requires-clause-live c = c.keep_cycle-third.ensures.step.live
    (c.keep_off-second.ensures.step.live (c.keep_register-first.ensures.step.live c.requires.live))

pub returns-clause-step : goal.returns-clause-step
returns-clause-step c =
    let w = c.args.w.now in
    let vs = w.vars.now in
    let m = c.args.mask in
    let a = c.args.a.now in
    let call = c.args.c.now in
    let one = c.keep_register-first in
    let two = c.keep_off-second in
    let three = c.keep_cycle-third in
    let four = c.keep_readers in
    let v1 = ap (λ r. r.now) one.ensures.vars in
    let v2 = ap (λ r. r.now) two.ensures.vars ∙ v1 in
    let v3 = ap (λ r. r.now) three.ensures.vars ∙ v2 in
    let s = w.store.now in
    let s1 = one.new.w.store.now in
    let s2 = two.new.w.store.now in
    let s3 = three.new.w.store.now in
    let s4 = four.new.w.store.now in
    let f12 = stepped_chain vs (hit_cut m a call) (off_cut m a call) s s1 s2 c.args.before one.result two.result one.ensures.step
    (subst (λ (us : List VarId). Stepped us (off_cut m a call) s1 s2 one.result two.result) v1 two.ensures.step) in
    let f123 = stepped_chain vs (λ t. option_and_then (off_cut m a call) (hit_cut m a call t)) (cycle_cut m a call) s s2 s3 c.args.before
    two.result three.result f12
    (subst (λ (us : List VarId). Stepped us (cycle_cut m a call) s2 s3 two.result three.result) v2 three.ensures.step) in
    stepped_chain vs (λ t. option_and_then (cycle_cut m a call) (option_and_then (off_cut m a call) (hit_cut m a call t)))
    (each_entry (reader_cut m a call) call.behind) s s3 s4
    c.args.before three.result four.result f123
    (subst (λ (us : List VarId). Stepped us (each_entry (reader_cut m a call) call.behind) s3 s4 three.result four.result) v3
    four.ensures.step)

pub keep_register-first-requires-clause-of_temp : goal.keep_register-first-requires-clause-of_temp
keep_register-first-requires-clause-of_temp c = c.requires.of_temp

pub keep_register-first-requires-clause-of_call : goal.keep_register-first-requires-clause-of_call
keep_register-first-requires-clause-of_call c = c.requires.of_call

pub keep_register-first-requires-clause-known : goal.keep_register-first-requires-clause-known
keep_register-first-requires-clause-known c = c.requires.known

pub keep_register-first-requires-clause-live : goal.keep_register-first-requires-clause-live
keep_register-first-requires-clause-live c = c.requires.live

pub keep_off-second-requires-clause-of_temp : goal.keep_off-second-requires-clause-of_temp
keep_off-second-requires-clause-of_temp c = same_temp c.args.w.now.vars.now c.keep_register-first.new.w.vars.now c.args.a.now
    (ap (λ r. r.now) c.keep_register-first.ensures.vars) c.requires.of_temp

pub keep_off-second-requires-clause-known : goal.keep_off-second-requires-clause-known
keep_off-second-requires-clause-known c = same_known c.args.w.now.vars.now c.keep_register-first.new.w.vars.now c.args.w.now.store.now.sets
    c.keep_register-first.new.w.store.now.sets (ap (λ r. r.now) c.keep_register-first.ensures.vars)
    (c.keep_register-first.ensures.step.long) c.requires.known

pub keep_off-second-requires-clause-live : goal.keep_off-second-requires-clause-live
keep_off-second-requires-clause-live c = c.keep_register-first.ensures.step.live c.requires.live

pub keep_off-second-requires-clause-of_call : goal.keep_off-second-requires-clause-of_call
keep_off-second-requires-clause-of_call c = subst (λ (us : List VarId). CallVars us c.args.c.now)
    (sym (ap (λ r. r.now) c.keep_register-first.ensures.vars))
    c.requires.of_call

pub keep_cycle-third-requires-clause-of_temp : goal.keep_cycle-third-requires-clause-of_temp
keep_cycle-third-requires-clause-of_temp c = same_temp c.args.w.now.vars.now c.keep_off-second.new.w.vars.now c.args.a.now
    (ap (λ r. r.now) (c.keep_off-second.ensures.vars ∙ c.keep_register-first.ensures.vars)) c.requires.of_temp

pub keep_cycle-third-requires-clause-known : goal.keep_cycle-third-requires-clause-known
keep_cycle-third-requires-clause-known c = same_known c.args.w.now.vars.now c.keep_off-second.new.w.vars.now c.args.w.now.store.now.sets
    c.keep_off-second.new.w.store.now.sets (ap (λ r. r.now) (c.keep_off-second.ensures.vars ∙ c.keep_register-first.ensures.vars))
    (c.keep_off-second.ensures.step.long ∙ c.keep_register-first.ensures.step.long) c.requires.known

pub keep_cycle-third-requires-clause-live : goal.keep_cycle-third-requires-clause-live
keep_cycle-third-requires-clause-live c = c.keep_off-second.ensures.step.live (c.keep_register-first.ensures.step.live c.requires.live)

pub keep_cycle-third-requires-clause-of_call : goal.keep_cycle-third-requires-clause-of_call
keep_cycle-third-requires-clause-of_call c = subst (λ (us : List VarId). CallVars us c.args.c.now)
    (sym (ap (λ r. r.now) (c.keep_off-second.ensures.vars ∙ c.keep_register-first.ensures.vars)))
    c.requires.of_call

pub keep_readers-requires-clause-of_temp : goal.keep_readers-requires-clause-of_temp
keep_readers-requires-clause-of_temp c = same_temp c.args.w.now.vars.now c.keep_cycle-third.new.w.vars.now c.args.a.now
    (ap (λ r. r.now) (c.keep_cycle-third.ensures.vars ∙ (c.keep_off-second.ensures.vars ∙ c.keep_register-first.ensures.vars)))
    c.requires.of_temp

pub keep_readers-requires-clause-known : goal.keep_readers-requires-clause-known
keep_readers-requires-clause-known c = same_known c.args.w.now.vars.now c.keep_cycle-third.new.w.vars.now c.args.w.now.store.now.sets
    c.keep_cycle-third.new.w.store.now.sets (ap (λ r. r.now)
    (c.keep_cycle-third.ensures.vars ∙ (c.keep_off-second.ensures.vars ∙ c.keep_register-first.ensures.vars)))
    (c.keep_cycle-third.ensures.step.long ∙ (c.keep_off-second.ensures.step.long ∙ c.keep_register-first.ensures.step.long))
    c.requires.known

pub keep_readers-requires-clause-of_call : goal.keep_readers-requires-clause-of_call
keep_readers-requires-clause-of_call c = subst (λ (us : List VarId). CallVars us c.args.c.now)
    (sym (ap (λ r. r.now) (c.keep_cycle-third.ensures.vars ∙ (c.keep_off-second.ensures.vars ∙ c.keep_register-first.ensures.vars))))
    c.requires.of_call
