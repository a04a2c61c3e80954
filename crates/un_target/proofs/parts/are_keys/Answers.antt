use Rattle.std.proofs.Common.{sym, subst}
use Rattle.std.specs.Map.Iter.{deref}
use Rattle.std.proofs.lemmas.Map.Iter.{rest_more, rest_all}
use Rattle.un_target.specs.Parts.{IsKey}
use Rattle.un_target.proofs.EntryLaws.{one_ahead, each_so, not_each}
use Rattle.un_target.proofs.Verdicts.{always, never, not_so}
use Rattle.un_target.proofs.parts.are_keys.Goals as goal

pub loop-key-preserved : goal.loop-key-preserved
loop-key-preserved c = one_ahead IsKey c.args.entries.now.entries c.loop-key.key-iterator c.next.new.self c.in-Some.key.now
    (rest_more deref c.loop-key.key-iterator c.next.new.self c.next.result c.in-Some.key c.in-Some.is c.next.ensures.steps)
    c.loop-key.invariant (subst IsKey c.as_str.ensures.value (c.is_key.ensures.0 c.if-not-is_key.false))

pub returns-then-not-is_key : goal.returns-then-not-is_key
returns-then-not-is_key c = never (not_each IsKey c.args.entries.now.entries c.loop-key.key-iterator c.next.new.self c.in-Some.key.now
    (rest_more deref c.loop-key.key-iterator c.next.new.self c.next.result c.in-Some.key c.in-Some.is c.next.ensures.steps)
    c.loop-key.invariant (λ is. not_so c.is_key.ensures c.if-not-is_key.true (subst IsKey (sym c.as_str.ensures.value) is)))

pub returns : goal.returns
returns c = always (each_so IsKey c.args.entries.now.entries c.loop-key.key-iterator
    (rest_all deref c.loop-key.key-iterator c.next.new.self c.next.result c.in-None.is c.next.ensures.steps) c.loop-key.invariant)
