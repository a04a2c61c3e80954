use Rattle.std.proofs.Common.{◌≡◌, ◌∙◌, length, nat_eq, true, sym, arith}
use Rattle.std.proofs.lemmas.Bool.Decides.{nat_tests}
use Rattle.un_domains.specs.Sets.{set_at}
use Rattle.un_prop.proofs.queue.count.Goals as goal

pub returns-then-is_single : goal.returns-then-is_single
returns-then-is_single c =
    let one : nat_eq (length (set_at c.args.store.now.sets c.args.v.0)) 1 ≡ true = sym c.is_single.ensures ∙ c.if-is_single.true in
    grind (arith, nat_tests, one)
