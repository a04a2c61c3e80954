use Rattle.std.proofs.Common.{◌≡◌, arith}
use Rattle.std.proofs.lemmas.Bool.Decides.{nat_tests}
use Rattle.un_domains.specs.Sets.{set_at, greatest}
use Rattle.un_prec.proofs.Idle.{off_idle}
use Rattle.un_prec.proofs.before.is_off.Goals as goal

pub returns-in-Var : goal.returns-in-Var
returns-in-Var c e x there =
    let s = c.args.w.now.store.now.sets in
    let v = c.in-Var.v in
    let none : greatest (set_at s v.0) ≡ 0 = (let is = c.max.ensures in grind (arith, nat_tests, e, is)) in
    off_idle s x c.args.on v c.in-Var.is c.requires.known there none
