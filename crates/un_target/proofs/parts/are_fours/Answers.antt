use Rattle.std.proofs.Common.{IfSome, arith}
use Rattle.un_isa.specs.declared.op.Op.{Op}
use Rattle.serde_json.specs.Find.{get_member}
use Rattle.serde_json.specs.View.{members_view}
use Rattle.un_target.specs.Names.{name_of}
use Rattle.un_target.specs.Parts.{IsFour}
use Rattle.un_target.proofs.NameLaws.{small, one_more}
use Rattle.un_target.proofs.Verdicts.{always, never, not_so}
use Rattle.un_target.proofs.parts.are_fours.Goals as goal

pub loop-number-preserved : goal.loop-number-preserved
loop-number-preserved c = one_more (λ (op : Op). IfSome (get_member (name_of op) (members_view c.args.entries.now.entries)) IsFour)
    c.loop-number.number c.op_at.result c.op_at.ensures c.loop-number.invariant (c.has_four.ensures.0 c.if-not-has_four.false)

pub returns-then-not-has_four : goal.returns-then-not-has_four
returns-then-not-has_four c = never (λ each. not_so c.has_four.ensures c.if-not-has_four.true (each c.op_at.result))

pub returns : goal.returns
returns c = always (λ op. c.loop-number.invariant op (omega (arith, small op, c.loop-number-test.false)))
