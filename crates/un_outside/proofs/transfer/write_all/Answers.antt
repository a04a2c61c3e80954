use Rattle.std.proofs.Common.{ℕ, ◌≡◌, ◌≤◌, ◌⊎◌, true, min, IfSome, arith, ◌∙◌, subst, take_all}
use Rattle.std.specs.Io.KnownBytes.{Appends}
use Rattle.un_outside.proofs.Pieces.{prefix_kept, prefix_longer, front_longer, length-rest_of}
use Rattle.un_outside.proofs.Paces.{paces_on, paced_whole}
use Rattle.un_outside.proofs.transfer.write_all.Goals as goal

pub loop-at-preserved : goal.loop-at-preserved
loop-at-preserved g c =
    let long = length-rest_of c.loop-at.at c.args.bytes.now in
    record {
      quiet = c.in-Ok.ensures.cause.went (λ none. absurd (c.in-Ok.count-test.1 none)) ∙ c.loop-at.invariant.quiet;
      calls = omega (arith, c.in-Ok.ensures.call, c.loop-at.invariant.calls, c.in-Ok.count-test);
      within = omega (arith, c.in-Ok.ensures.bound, c.loop-at.invariant.within, long);
      front = front_longer _ _ _ c.loop-at.at c.in-Ok.count c.args.bytes.now c.loop-at.invariant.front c.in-Ok.ensures.bytes;
      same_piece = c.in-Ok.ensures.same_piece ∙ c.loop-at.invariant.same_piece;
      paced = paces_on c.loop-at.at c.in-Ok.count _ _ _ _ _ _ c.loop-at-test.true (omega (arith, c.in-Ok.ensures.bound, long))
          c.in-Ok.ensures.call
          (λ stuck. cc (c.in-Ok.ensures.full stuck (omega (arith, long, c.loop-at-test.true)))) _ _ c.loop-at.invariant.same_piece
          c.loop-at.invariant.paced
          (subst (λ (m : ℕ). IfSome (g.K.Sink.piece c.loop-at.sink)
          (λ p. (min m p ≤ c.in-Ok.count) ⊎ (g.K.Sink.is_full c.write.new.self ≡ true))) long c.in-Ok.ensures.paced);
    }

pub returns-in-Ok-eq0-clause-prefix : goal.returns-in-Ok-eq0-clause-prefix
returns-in-Ok-eq0-clause-prefix g c = prefix_longer _ _ _ c.loop-at.at c.in-Ok-eq0.field-0 c.args.bytes.now c.loop-at.invariant.front
    c.in-Ok-eq0.ensures.bytes

pub returns-in-Err-clause-prefix : goal.returns-in-Err-clause-prefix
returns-in-Err-clause-prefix g c = prefix_kept _ _ _ c.loop-at.at c.args.bytes.now c.loop-at.invariant.front c.in-Err.ensures.bytes

pub returns-clause-whole_rest : goal.returns-clause-whole_rest
returns-clause-whole_rest g c = paced_whole c.loop-at.at _ _ _ _ _ (omega (arith, c.loop-at-test.false)) c.loop-at.invariant.within
    c.loop-at.invariant.paced

pub returns-clause-all : goal.returns-clause-all
returns-clause-all g c = subst (Appends _ _) (take_all c.loop-at.at c.args.bytes.now (omega (arith, c.loop-at-test.false)))
    c.loop-at.invariant.front
