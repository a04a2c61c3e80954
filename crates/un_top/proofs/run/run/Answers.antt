use Rattle.std.proofs.Common.{Some}
use Rattle.un_outside.specs.Causes.{Rose}
use Rattle.un_outside.specs.declared.status.Status.TheVariants.{TextFault, Usage, ReadFault}
use Rattle.un_top.specs.Runs.{RefusesWords}
use Rattle.un_top.proofs.Answered.{only_of, refusal_at, from_before, answers_fault, answers_late, late_is, answers_accepted, out_after}
use Rattle.un_top.proofs.Answered.{kept_and_answered, when_whole, made_over, made_well, status_of, line_written, line_whole}
use Rattle.un_top.proofs.Completed.{completes}
use Rattle.un_top.proofs.run.run.Goals as goal

pub returns-clause-out : goal.returns-clause-out
returns-clause-out g c =
    let f = c.finish-status.ensures in
    let p = c.produce-outcome.ensures in
    out_after c.args.words.now (g.S.Source.left c.args.src.now) c.produce-outcome.result c.finish-status.result (g.K.Sink.held
    c.args.out.now) (g.K.Sink.held c.finish-status.new.out)
    (only_of c.args.words.now (g.S.Source.left c.args.src.now) (g.S.Source.faults c.args.src.now)
    (g.S.Source.faults c.produce-outcome.new.src) c.produce-outcome.result c.produce-outcome.ensures.refused) f.err f.kept p.written
    f.wrote p.ok

pub returns-clause-kept : goal.returns-clause-kept
returns-clause-kept g c =
    let f = c.finish-status.ensures in
    let p = c.produce-outcome.ensures in
    (kept_and_answered c.args.words.now c.produce-outcome.result c.finish-status.result (g.K.Sink.held c.args.out.now)
    (g.K.Sink.held c.finish-status.new.out)
    (only_of c.args.words.now (g.S.Source.left c.args.src.now) (g.S.Source.faults c.args.src.now)
    (g.S.Source.faults c.produce-outcome.new.src) c.produce-outcome.result c.produce-outcome.ensures.refused) f.err f.kept p.written
    p.ends f.wrote).0

pub returns-clause-answers : goal.returns-clause-answers
returns-clause-answers g c =
    let f = c.finish-status.ensures in
    let p = c.produce-outcome.ensures in
    (kept_and_answered c.args.words.now c.produce-outcome.result c.finish-status.result (g.K.Sink.held c.args.out.now)
    (g.K.Sink.held c.finish-status.new.out)
    (only_of c.args.words.now (g.S.Source.left c.args.src.now) (g.S.Source.faults c.args.src.now)
    (g.S.Source.faults c.produce-outcome.new.src) c.produce-outcome.result c.produce-outcome.ensures.refused) f.err f.kept p.written
    p.ends f.wrote).1

pub returns-clause-made : goal.returns-clause-made
returns-clause-made g c = λ command asked text.
    let f = c.finish-status.ensures in
    let p = c.produce-outcome.ensures in
    out_after c.args.words.now (Some text) c.produce-outcome.result c.finish-status.result (g.K.Sink.held c.args.out.now)
    (g.K.Sink.held c.finish-status.new.out)
    (only_of c.args.words.now (g.S.Source.left c.args.src.now) (g.S.Source.faults c.args.src.now)
    (g.S.Source.faults c.produce-outcome.new.src) c.produce-outcome.result c.produce-outcome.ensures.refused) f.err f.kept p.written
    f.wrote (made_over c.args.words.now c.produce-outcome.result text (p.made command asked))

pub returns-clause-made_well : goal.returns-clause-made_well
returns-clause-made_well g c = λ command asked.
    let f = c.finish-status.ensures in
    let p = c.produce-outcome.ensures in
    made_well c.args.words.now command c.produce-outcome.result c.finish-status.result (g.K.Sink.held c.args.out.now)
    (g.K.Sink.held c.finish-status.new.out) asked (p.made command asked) (p.short command asked) f.err f.wrote

pub returns-clause-read_whole : goal.returns-clause-read_whole
returns-clause-read_whole g c = λ command asked whole.
    when_whole c.produce-outcome.result c.finish-status.result _ (only_of c.args.words.now (g.S.Source.left c.args.src.now)
    (g.S.Source.faults c.args.src.now) (g.S.Source.faults c.produce-outcome.new.src) c.produce-outcome.result
    c.produce-outcome.ensures.refused)
    c.finish-status.ensures.err (c.produce-outcome.ensures.end command asked) (c.produce-outcome.ensures.end_late command asked) whole

pub returns-clause-left : goal.returns-clause-left
returns-clause-left g c = c.produce-outcome.ensures.left

pub returns-clause-calls : goal.returns-clause-calls
returns-clause-calls g c = c.produce-outcome.ensures.calls

pub returns-clause-usage : goal.returns-clause-usage
returns-clause-usage g c = λ place e.
    refusal_at c.produce-outcome.result (Usage place) (RefusesWords c.args.words.now (g.S.Source.left c.args.src.now)
    (g.S.Source.faults c.args.src.now) (g.S.Source.faults c.produce-outcome.new.src)) c.produce-outcome.ensures.refused
    (from_before c.produce-outcome.result c.finish-status.result (Usage place) (g.K.Sink.held c.args.out.now)
    (g.K.Sink.held c.finish-status.new.out) c.finish-status.ensures.err
    c.produce-outcome.ensures.written c.finish-status.ensures.wrote e (λ h. h) (λ h. cc h))

pub returns-clause-unread : goal.returns-clause-unread
returns-clause-unread g c = λ place e. c.produce-outcome.ensures.unread place (returns-clause-usage g c place e)

pub returns-clause-not_called : goal.returns-clause-not_called
returns-clause-not_called g c = λ place e. c.produce-outcome.ensures.not_called place (returns-clause-usage g c place e)

pub returns-clause-exactly_usage : goal.returns-clause-exactly_usage
returns-clause-exactly_usage g c = λ place bad.
    status_of c.produce-outcome.result c.finish-status.result (Usage place) c.finish-status.ensures.err
    (c.produce-outcome.ensures.exactly_usage place bad)

pub returns-clause-read : goal.returns-clause-read
returns-clause-read g c = λ e.
    refusal_at c.produce-outcome.result ReadFault (RefusesWords c.args.words.now (g.S.Source.left c.args.src.now)
    (g.S.Source.faults c.args.src.now) (g.S.Source.faults c.produce-outcome.new.src)) c.produce-outcome.ensures.refused
    (from_before c.produce-outcome.result c.finish-status.result ReadFault (g.K.Sink.held c.args.out.now)
    (g.K.Sink.held c.finish-status.new.out) c.finish-status.ensures.err
    c.produce-outcome.ensures.written c.finish-status.ensures.wrote e (λ h. h) (λ h. cc h))

pub returns-clause-fault : goal.returns-clause-fault
returns-clause-fault g c = λ line code e.
    refusal_at c.produce-outcome.result (TextFault line code) (RefusesWords c.args.words.now (g.S.Source.left c.args.src.now)
    (g.S.Source.faults c.args.src.now) (g.S.Source.faults c.produce-outcome.new.src)) c.produce-outcome.ensures.refused
    (from_before c.produce-outcome.result c.finish-status.result (TextFault line code) (g.K.Sink.held c.args.out.now)
    (g.K.Sink.held c.finish-status.new.out) c.finish-status.ensures.err
    c.produce-outcome.ensures.written c.finish-status.ensures.wrote e (λ h. h) (λ h. cc h))

pub returns-clause-late : goal.returns-clause-late
returns-clause-late g c = λ late.
    late_is c.args.words.now (g.S.Source.left c.args.src.now) (g.S.Source.faults c.args.src.now)
    (g.S.Source.faults c.produce-outcome.new.src) c.produce-outcome.result c.finish-status.result (g.K.Sink.held c.args.out.now)
    (g.K.Sink.held c.finish-status.new.out) c.produce-outcome.ensures.refused c.finish-status.ensures.err
    c.produce-outcome.ensures.written c.finish-status.ensures.wrote late

pub returns-clause-exactly_fault : goal.returns-clause-exactly_fault
returns-clause-exactly_fault g c =
    answers_fault c.args.words.now (g.S.Source.left c.args.src.now) (g.S.Source.faults c.args.src.now) (g.S.Source.faults
    c.produce-outcome.new.src)
    c.produce-outcome.result c.finish-status.result c.produce-outcome.ensures.refused c.finish-status.ensures.err
    c.produce-outcome.ensures.ok

pub returns-clause-exactly_late : goal.returns-clause-exactly_late
returns-clause-exactly_late g c =
    answers_late c.args.words.now (g.S.Source.left c.args.src.now) (g.S.Source.faults c.args.src.now) (g.S.Source.faults
    c.produce-outcome.new.src)
    c.produce-outcome.result c.finish-status.result c.produce-outcome.ensures.refused c.finish-status.ensures.err
    c.produce-outcome.ensures.ok

pub returns-clause-accepted : goal.returns-clause-accepted
returns-clause-accepted g c =
    answers_accepted c.args.words.now (g.S.Source.left c.args.src.now) c.finish-status.result (returns-clause-fault g c)

pub returns-clause-complete : goal.returns-clause-complete
returns-clause-complete g c =
    completes c.args.words.now (g.S.Source.left c.args.src.now) c.finish-status.result (g.K.Sink.held c.args.out.now) (g.K.Sink.held
    c.finish-status.new.out)
    (Rose (g.S.Source.faults c.args.src.now) (g.S.Source.faults c.produce-outcome.new.src))
    (Rose (g.K.Sink.faults c.args.out.now) (g.K.Sink.faults c.finish-status.new.out))
    (returns-clause-usage g c) (returns-clause-fault g c) (returns-clause-late g c) (returns-clause-read g c)
    c.finish-status.ensures.fault (returns-clause-out g c)

pub returns-clause-write : goal.returns-clause-write
returns-clause-write g c = c.finish-status.ensures.fault

pub returns-clause-err_line : goal.returns-clause-err_line
returns-clause-err_line g c =
    line_written c.write_line.result _ _ _ c.write_line.ensures.all c.write_line.ensures.prefix

pub returns-clause-err_whole : goal.returns-clause-err_whole
returns-clause-err_whole g c =
    line_whole c.write_line.result _ _ c.write_line.ensures.all c.write_line.ensures.failed
