use Rattle.std.proofs.Common.{ℕ, ◌≡◌, ◌≤◌, true, sym, subst, ◌∙◌, arith}
use Rattle.un_domains.specs.Sets.{set_at, least, greatest}
use Rattle.un_domains.specs.SetLaws.{has-fold_max}
use Rattle.un_domains.specs.OrderLaws.{has_least}
use Rattle.un_symm.specs.Exchanges.{exchanged, is_register_of}
use Rattle.un_mirrors.proofs.Moves.{turns_by, turned_register, turned_one, turned_moves}
use Rattle.un_mirrors.proofs.mirror.turns_left.Goals as goal

pub moves_below-requires : goal.moves_below-requires
moves_below-requires c =
    let xs = set_at c.args.stand.now.cuts.sets c.args.at.var.0 in
    let lt = c.requires.above (least xs) (has_least xs (c.requires.full c.args.at.var.0 c.requires.there)) in
    omega (arith, lt, c.min-x.ensures)

pub returns-then-not-has : goal.returns-then-not-has
returns-then-not-has c = (
  λ t. absurd (cc t),
  λ all. absurd (let v = c.args.at.var.0 in
      let is = turned_register c.args.m.now.temps c.args.a.0 c.args.b.0 c.args.stand.now.cuts.sets c.args.at
      (c.requires.full v c.requires.there) c.requires.above all in
      let each = c.requires.registers.each v (let lt = c.requires.there in let long = c.requires.same in omega (arith, lt, long)) in
      let was = c.has.ensures in
      let no = c.if-not-has.true in cc (is, each, was, no)),
)

pub returns-then-x-max : goal.returns-then-x-max
returns-then-x-max c = (
  λ t. absurd (cc t),
  λ all. absurd (let one = turned_one c.args.m.now.temps c.args.a.0 c.args.b.0 c.args.stand.now.cuts.sets c.args.at
      (c.requires.full c.args.at.var.0 c.requires.there) c.requires.above all in
      omega (arith, one, c.min-x.ensures, c.max.ensures, c.if-x-max.true)),
)

pub returns : goal.returns
returns c =
    let v = c.args.at.var.0 in
    let box = c.args.stand.now.cuts.sets in
    let xs = set_at box v in
    let some = c.requires.full v c.requires.there in
    let low = c.min-x.ensures in
    let each = c.requires.registers.each v (let lt = c.requires.there in let long = c.requires.same in omega (arith, lt, long)) in
    let is : is_register_of c.args.m.now.temps v ≡ true = sym each ∙ (sym c.has.ensures ∙ c.if-not-has.false) in
    let one : least xs ≡ greatest xs = omega (arith, has-fold_max 0 xs (least xs) (has_least xs some), low, c.max.ensures, c.if-x-max.false) in (
      λ t. turns_by c.args.m.now.temps c.args.a.0 c.args.b.0 box c.args.at is one
          (subst (λ (x : ℕ). exchanged c.args.a.0 c.args.b.0 x ≤ c.args.at.val) low (c.moves_below.ensures.0 t)),
      λ all. c.moves_below.ensures.1 (subst (λ (x : ℕ). exchanged c.args.a.0 c.args.b.0 x ≤ c.args.at.val) (sym low)
          (turned_moves c.args.m.now.temps c.args.a.0 c.args.b.0 box c.args.at some c.requires.above all)),
    )
