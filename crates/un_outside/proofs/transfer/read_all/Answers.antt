use Rattle.std.proofs.Common.{ℕ, ◌<◌, List, ◌++◌, ◌∙◌, ap, arith, length, length-append, Option, Some, None, IfSome, Err}
use Rattle.std.proofs.lemmas.Result.{err_from_is_err_and}
use Rattle.std.specs.Io.KnownBytes.{Consumes}
use Rattle.std.proofs.KnownBytes.{Consumes-trans}
use Rattle.un_outside.proofs.transfer.read_all.Goals as goal

pub returns-in_err-count-clause-err : goal.returns-in_err-count-clause-err
returns-in_err-count-clause-err g c =
    let p = err_from_is_err_and c.from_residual.result c.from_residual.ensures.1 in
    let more = c.in_err-count.ensures.err in
    rw p.1 (c.loop-bytes.bytes.items ++ more.0, Consumes-trans _ _ _ _ _ c.loop-bytes.invariant.taken more.1)

pub returns-in_err-count-clause-quiet : goal.returns-in_err-count-clause-quiet
returns-in_err-count-clause-quiet g c = λ other.
    let p = err_from_is_err_and c.from_residual.result c.from_residual.ensures.1 in
    c.in_err-count.ensures.quiet (λ fault. other (p.1 ∙ ap Err (p.2 ∙ cc))) ∙ c.loop-bytes.invariant.quiet

pub loop-bytes-smaller : goal.loop-bytes-smaller
loop-bytes-smaller g c =
    let read = c.in_ok-count.ensures.ok in
    let long = ap length read.1 ∙ length-append c.loop-bytes.bytes.items read.0 in
    omega (arith, long, read.2, read.3)

pub loop-bytes-preserved : goal.loop-bytes-preserved
loop-bytes-preserved g c =
    let read = c.in_ok-count.ensures.ok in
    let long = ap length read.1 ∙ length-append c.loop-bytes.bytes.items read.0 in
    record {
      quiet = c.in_ok-count.ensures.quiet (λ fault. cc) ∙ c.loop-bytes.invariant.quiet;
      room = omega (arith, long, read.2, read.3);
      calls = omega (arith, long, read.2, c.in_ok-count.ensures.call);
      taken = rw read.1 (Consumes-trans _ _ _ _ _ c.loop-bytes.invariant.taken read.4);
    }

pub returns-then-count-eq0-clause-short : goal.returns-then-count-eq0-clause-short
returns-then-count-eq0-clause-short g c =
    let read = c.in_ok-count.ensures.ok in
    let long = ap length read.1 ∙ length-append c.loop-bytes.bytes.items read.0 in
    omega (arith, long, read.2)

-- a source that gave more than so many bytes had more
had_more : (before after : Option (List ℕ)) (taken : List ℕ) (max : ℕ) → Consumes before after taken → max < length taken
    → IfSome before (λ bs. max < length bs)
had_more None after taken max gave more = tt
had_more (Some bs) None taken max gave more = absurd gave
had_more (Some bs) (Some rest) taken max gave more = omega (arith, ap length gave, length-append taken rest)

pub returns-clause-too_long : goal.returns-clause-too_long
returns-clause-too_long g c = λ _. had_more _ _ _ _ c.loop-bytes.invariant.taken (omega arith)
