use Rattle.std.proofs.Common.{refl, subst}
use Rattle.un_commands.proofs.WordLaws.{command_is_good}
use Rattle.un_commands.specs.Commands.{IsCommand}
use Rattle.un_commands.specs.declared.command.Command.TheVariants.{Reads, Makes}
use Rattle.un_top.proofs.Answered.{output_by, refused_by, made_by, made_told, short_words, other_kind, reading_so, making_so}
use Rattle.un_top.proofs.produce.produce.Goals as goal

-- ---- a command over an input

pub returns-in-Ok-Reads-clause-ok : goal.returns-in-Ok-Reads-clause-ok
returns-in-Ok-Reads-clause-ok g c =
    let asked = subst (IsCommand c.args.words.now) c.in-Ok-Reads.field-0-is c.in-Ok-Reads.ensures.ok in
    output_by c.args.words.now c.in-Ok-Reads.command (g.S.Source.left c.args.src.now) c.read_and_run.result asked c.read_and_run.ensures.ok

pub returns-in-Ok-Reads-clause-ends : goal.returns-in-Ok-Reads-clause-ends
returns-in-Ok-Reads-clause-ends g c =
    let asked = subst (IsCommand c.args.words.now) c.in-Ok-Reads.field-0-is c.in-Ok-Reads.ensures.ok in
    reading_so c.args.words.now c.in-Ok-Reads.command c.read_and_run.result asked c.read_and_run.ensures.ends

pub returns-in-Ok-Reads-clause-refused : goal.returns-in-Ok-Reads-clause-refused
returns-in-Ok-Reads-clause-refused g c =
    let asked = subst (IsCommand c.args.words.now) c.in-Ok-Reads.field-0-is c.in-Ok-Reads.ensures.ok in
    refused_by c.args.words.now c.in-Ok-Reads.command (g.S.Source.left c.args.src.now)
    (g.S.Source.faults c.args.src.now) (g.S.Source.faults c.read_and_run.new.src) c.read_and_run.result asked c.read_and_run.ensures.refused

pub returns-in-Ok-Reads-clause-exactly_usage : goal.returns-in-Ok-Reads-clause-exactly_usage
returns-in-Ok-Reads-clause-exactly_usage g c =
    let asked = subst (IsCommand c.args.words.now) c.in-Ok-Reads.field-0-is c.in-Ok-Reads.ensures.ok in
    λ place bad. absurd (command_is_good c.args.words.now (Reads c.in-Ok-Reads.command) place asked bad)

pub returns-in-Ok-Reads-clause-made : goal.returns-in-Ok-Reads-clause-made
returns-in-Ok-Reads-clause-made g c =
    let asked = subst (IsCommand c.args.words.now) c.in-Ok-Reads.field-0-is c.in-Ok-Reads.ensures.ok in
    λ command is. absurd (other_kind c.args.words.now c.in-Ok-Reads.command command asked is)

pub returns-in-Ok-Reads-clause-short : goal.returns-in-Ok-Reads-clause-short
returns-in-Ok-Reads-clause-short g c =
    let asked = subst (IsCommand c.args.words.now) c.in-Ok-Reads.field-0-is c.in-Ok-Reads.ensures.ok in
    λ command is. absurd (other_kind c.args.words.now c.in-Ok-Reads.command command asked is)

pub returns-in-Ok-Reads-clause-left : goal.returns-in-Ok-Reads-clause-left
returns-in-Ok-Reads-clause-left g c =
    let asked = subst (IsCommand c.args.words.now) c.in-Ok-Reads.field-0-is c.in-Ok-Reads.ensures.ok in
    λ command is. absurd (other_kind c.args.words.now c.in-Ok-Reads.command command asked is)

pub returns-in-Ok-Reads-clause-calls : goal.returns-in-Ok-Reads-clause-calls
returns-in-Ok-Reads-clause-calls g c =
    let asked = subst (IsCommand c.args.words.now) c.in-Ok-Reads.field-0-is c.in-Ok-Reads.ensures.ok in
    λ command is. absurd (other_kind c.args.words.now c.in-Ok-Reads.command command asked is)

pub returns-in-Ok-Reads-clause-end : goal.returns-in-Ok-Reads-clause-end
returns-in-Ok-Reads-clause-end g c =
    λ command is. c.read_and_run.ensures.end

pub returns-in-Ok-Reads-clause-end_late : goal.returns-in-Ok-Reads-clause-end_late
returns-in-Ok-Reads-clause-end_late g c =
    λ command is. c.read_and_run.ensures.end_late

pub returns-in-Ok-Reads-clause-unread : goal.returns-in-Ok-Reads-clause-unread
returns-in-Ok-Reads-clause-unread g c =
    let asked = subst (IsCommand c.args.words.now) c.in-Ok-Reads.field-0-is c.in-Ok-Reads.ensures.ok in
    λ place bad. absurd (command_is_good c.args.words.now (Reads c.in-Ok-Reads.command) place asked bad)

pub returns-in-Ok-Reads-clause-not_called : goal.returns-in-Ok-Reads-clause-not_called
returns-in-Ok-Reads-clause-not_called g c =
    let asked = subst (IsCommand c.args.words.now) c.in-Ok-Reads.field-0-is c.in-Ok-Reads.ensures.ok in
    λ place bad. absurd (command_is_good c.args.words.now (Reads c.in-Ok-Reads.command) place asked bad)

-- ---- a command without one

pub returns-in-Ok-Makes-clause-ok : goal.returns-in-Ok-Makes-clause-ok
returns-in-Ok-Makes-clause-ok g c =
    let asked = subst (IsCommand c.args.words.now) c.in-Ok-Makes.field-0-is c.in-Ok-Makes.ensures.ok in
    made_told c.args.words.now (g.S.Source.left c.args.src.now) c.make.result (made_by c.args.words.now c.in-Ok-Makes.command c.make.result asked c.make.ensures.output)

pub returns-in-Ok-Makes-clause-ends : goal.returns-in-Ok-Makes-clause-ends
returns-in-Ok-Makes-clause-ends g c =
    let asked = subst (IsCommand c.args.words.now) c.in-Ok-Makes.field-0-is c.in-Ok-Makes.ensures.ok in
    making_so c.args.words.now c.in-Ok-Makes.command c.make.result asked c.make.ensures.output

pub returns-in-Ok-Makes-clause-refused : goal.returns-in-Ok-Makes-clause-refused
returns-in-Ok-Makes-clause-refused g c =
    short_words c.args.words.now (g.S.Source.left c.args.src.now) (g.S.Source.faults c.args.src.now)
    (g.S.Source.faults c.args.src.now) c.make.result c.make.ensures.short

pub returns-in-Ok-Makes-clause-exactly_usage : goal.returns-in-Ok-Makes-clause-exactly_usage
returns-in-Ok-Makes-clause-exactly_usage g c =
    let asked = subst (IsCommand c.args.words.now) c.in-Ok-Makes.field-0-is c.in-Ok-Makes.ensures.ok in
    λ place bad. absurd (command_is_good c.args.words.now (Makes c.in-Ok-Makes.command) place asked bad)

pub returns-in-Ok-Makes-clause-made : goal.returns-in-Ok-Makes-clause-made
returns-in-Ok-Makes-clause-made g c =
    let asked = subst (IsCommand c.args.words.now) c.in-Ok-Makes.field-0-is c.in-Ok-Makes.ensures.ok in
    λ command is. made_by c.args.words.now c.in-Ok-Makes.command c.make.result asked c.make.ensures.output

pub returns-in-Ok-Makes-clause-short : goal.returns-in-Ok-Makes-clause-short
returns-in-Ok-Makes-clause-short g c =
    λ command is. c.make.ensures.short

pub returns-in-Ok-Makes-clause-end : goal.returns-in-Ok-Makes-clause-end
returns-in-Ok-Makes-clause-end g c =
    let asked = subst (IsCommand c.args.words.now) c.in-Ok-Makes.field-0-is c.in-Ok-Makes.ensures.ok in
    λ command is. absurd (other_kind c.args.words.now command c.in-Ok-Makes.command is asked)

pub returns-in-Ok-Makes-clause-end_late : goal.returns-in-Ok-Makes-clause-end_late
returns-in-Ok-Makes-clause-end_late g c =
    let asked = subst (IsCommand c.args.words.now) c.in-Ok-Makes.field-0-is c.in-Ok-Makes.ensures.ok in
    λ command is. absurd (other_kind c.args.words.now command c.in-Ok-Makes.command is asked)

-- ---- no command

pub returns-in-Err-clause-refused : goal.returns-in-Err-clause-refused
returns-in-Err-clause-refused g c =
    c.in-Err.ensures.bad c.in-Err.word refl

pub returns-in-Err-clause-short : goal.returns-in-Err-clause-short
returns-in-Err-clause-short g c =
    λ command asked. absurd (command_is_good c.args.words.now (Makes command) c.in-Err.word asked (c.in-Err.ensures.bad c.in-Err.word refl))
