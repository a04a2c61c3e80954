use Rattle.std.proofs.Common.{refl, arith, inl, inr}
use Rattle.un_commands.proofs.PlaceLaws.{none_within}
use Rattle.un_commands.proofs.place.number_within.Goals as goal

pub returns-in_default-clause-bad : goal.returns-in_default-clause-bad
returns-in_default-clause-bad c = (
  refl,
  none_within c.args.words.now c.args.place c.in_ok-n.n c.args.least c.args.most (omega arith)
      c.in_ok-n.ensures.ok.1 c.in_ok-n.ensures.ok.0 (inr (omega arith)),
)

pub returns-in_default-2-clause-bad : goal.returns-in_default-2-clause-bad
returns-in_default-2-clause-bad c = (
  refl,
  none_within c.args.words.now c.args.place c.in_ok-n.n c.args.least c.args.most (omega arith)
      c.in_ok-n.ensures.ok.1 c.in_ok-n.ensures.ok.0 (inl (omega arith)),
)

pub returns-in_default-3-clause-bad : goal.returns-in_default-3-clause-bad
returns-in_default-3-clause-bad c = (
  refl,
  none_within c.args.words.now c.args.place c.in_ok-n.n c.args.least c.args.most (omega arith)
      c.in_ok-n.ensures.ok.1 c.in_ok-n.ensures.ok.0 (inr (omega arith)),
)
