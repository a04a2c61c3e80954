use Rattle.std.proofs.Common.{sym, arith}
use Rattle.std.specs.Prelude.{◌==◌}
use Rattle.std.proofs.lemmas.Bool.{eq-eqb}
use Rattle.std.proofs.lemmas.List.Sums.{position_or_len_is}
use Rattle.un_base.specs.declared.ids.NameId.{NameId}
use Rattle.un_model.proofs.ends.position.Goals as goal

abbrev zero_name : NameId
zero_name = record { 0 = 0 }

pub returns-then-names-k : goal.returns-then-names-k
returns-then-names-k c =
    sym (position_or_len_is (λ (n : NameId). n.0 == c.args.name.0) c.args.names.now c.loop-k.k zero_name
    (omega (arith, c.loop-k-test.true)) (λ n lt. c.loop-k.invariant n zero_name lt) (λ lt. eq-eqb _ _ c.if-names-k.true))

pub returns : goal.returns
returns c =
    sym (position_or_len_is (λ (n : NameId). n.0 == c.args.name.0) c.args.names.now _ zero_name (omega arith)
    (λ n lt. c.loop-k.invariant n zero_name (omega (arith, lt, c.loop-k-test.false))) (λ lt. absurd (omega (arith, lt))))
