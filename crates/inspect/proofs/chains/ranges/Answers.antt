use Rattle.std.proofs.Common.{◌≡◌, ◌++◌, List, [], ◌∷◌, All, length, length-append, sym, ap, subst, arith}
use Rattle.std.proofs.lemmas.List.Elements.{All-append, All-from_recursion}
use Rattle.un_domains.specs.declared.domain.Domain.{Domain}
use Rattle.un_domains.specs.declared.domain.Domain.TheVariants.{Range}
use Rattle.un_domains.specs.Domains.{IsDomain}
use Rattle.inspect.proofs.StoreLaws.{range_is}
use Rattle.inspect.proofs.chains.ranges.Goals as goal

pub loop-preserved : goal.loop-preserved
loop-preserved c =
    let e : c.push.new.self.items ≡ c.loop.domains.items ++ Range 0 999 ∷ [] = c.in_ok-push.ensures.items in
    let one : All IsDomain (Range 0 999 ∷ []) = All-from_recursion IsDomain (Range 0 999 ∷ [])
    (range_is 0 999 (omega arith) (omega arith), tt) in
    record {
      each = subst (λ (ds : List Domain). All IsDomain ds) (sym e)
          (All-append IsDomain c.loop.domains.items (Range 0 999 ∷ []) c.loop.invariant.each one);
      long = omega (arith, ap length e, length-append c.loop.domains.items (Range 0 999 ∷ []), c.loop.invariant.long);
    }
