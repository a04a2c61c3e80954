use Rattle.std.proofs.Common.{sym, codes}
use Rattle.serde_json.specs.Data.{array, boolean, object}
use Rattle.serde_json.specs.View.{view, members_view}
use Rattle.un_target.proofs.EntryLaws.{an_object, no_parts, lacks, not_right}
use Rattle.un_target.proofs.Verdicts.{not_so}
use Rattle.un_target.proofs.parts.parts.Goals as goal

pub returns-in_default-clause-none : goal.returns-in_default-clause-none
returns-in_default-clause-none c = λ p h. no_parts (view c.args.value.now) p c.in_default.ensures h

pub returns-in_default-object_at-clause-none : goal.returns-in_default-object_at-clause-none
returns-in_default-object_at-clause-none c = λ p h. lacks (view c.args.value.now) (members_view c.in-Some.entries.now.entries) p
    (codes "latency") (object p.latency) c.in-Some.ensures (c.in_default-object_at.ensures.none p.latency) h h.latency

pub returns-in_default-object_at-2-clause-none : goal.returns-in_default-object_at-2-clause-none
returns-in_default-object_at-2-clause-none c = λ p h. lacks (view c.args.value.now) (members_view c.in-Some.entries.now.entries) p
    (codes "uses") (object p.uses) c.in-Some.ensures (c.in_default-object_at-2.ensures.none p.uses) h h.uses

pub returns-in_default-list_at-clause-none : goal.returns-in_default-list_at-clause-none
returns-in_default-list_at-clause-none c = λ p h. lacks (view c.args.value.now) (members_view c.in-Some.entries.now.entries) p
    (codes "saved") (array p.saved) c.in-Some.ensures (c.in_default-list_at.ensures.none p.saved) h h.saved

pub returns-in_default-truth_at-clause-none : goal.returns-in_default-truth_at-clause-none
returns-in_default-truth_at-clause-none c = λ p h. lacks (view c.args.value.now) (members_view c.in-Some.entries.now.entries) p
    (codes "fresh") (boolean p.fresh) c.in-Some.ensures (c.in_default-truth_at.ensures.none p.fresh) h h.fresh

pub returns-then-are_right-clause-some : goal.returns-then-are_right-clause-some
returns-then-are_right-clause-some c = record {
  entries = members_view c.in-Some.entries.now.entries;
  is = an_object (view c.args.value.now) (members_view c.in-Some.entries.now.entries) (sym c.in-Some.ensures);
  latency = c.in-Some-object_at.ensures.some;
  uses = c.in-Some-object_at-2.ensures.some;
  saved = c.in-Some-list_at.ensures.some;
  fresh = c.in-Some-truth_at.ensures.some;
  right = c.are_right.ensures.0 c.if-are_right.true;
}

pub returns-else-are_right-clause-none : goal.returns-else-are_right-clause-none
returns-else-are_right-clause-none c = λ p h. not_right (view c.args.value.now) (members_view c.in-Some.entries.now.entries)
    (members_view c.in-Some-object_at.latency.now.entries) (members_view c.in-Some-object_at-2.uses.now.entries) p c.in-Some.ensures
    c.in-Some-object_at.ensures.some c.in-Some-object_at-2.ensures.some (not_so c.are_right.ensures c.if-are_right.false) h
