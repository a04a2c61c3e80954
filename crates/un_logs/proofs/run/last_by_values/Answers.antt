use Rattle.std.proofs.Common.{ℕ, ◌≡◌, true, sym, ◌∙◌, subst, arith}
use Rattle.un_domains.specs.Sets.{set_at, has}
use Rattle.un_logs.specs.Rounds.{AllGo}
use Rattle.un_logs.proofs.Turning.{each_to, none_to}
use Rattle.un_logs.proofs.run.last_by_values.Goals as goal
use Rattle.un_logs.proofs.run.last_by_values.Goals.{then-has+else-not-is_free, else-has}

pub loop-y-preserved : goal.loop-y-preserved
loop-y-preserved c =
    let r = c.args.r.now in
    let t = c.args.t.now in
    let s = c.args.s.now.sets in
    let i = c.loop-y.invariant in
    let o = i.order in
    let b = i.below in
    let y = c.loop-y.y in
    elim c.if-has.branch [
      | then-has+else-not-is_free w ↦
          let e = w.last-is in
          let free = w.is_free.ensures.0 w.if-not-is_free.false in
          record {
            order = omega (arith, o, b, e);
            below = omega (arith, e);
            left = subst (λ (k : ℕ). has (set_at s t.var.0) k ≡ true) (sym e) (sym c.has.ensures ∙ w.if-has.true);
            each = subst (AllGo r.m.now r.limit t s c.args.first) (sym e)
                (each_to r.m.now r.limit t s c.args.first c.loop-y.last y i.none i.each free);
            none = λ z lo hi h. omega (arith, e, lo, hi);
          }
      | else-has w ↦
          let e = w.last-is in
          record {
            order = omega (arith, o, e);
            below = omega (arith, b, e);
            left = subst (λ (k : ℕ). has (set_at s t.var.0) k ≡ true) (sym e) i.left;
            each = subst (AllGo r.m.now r.limit t s c.args.first) (sym e) i.each;
            none = λ z lo hi h.
                none_to r.m.now r.limit t s c.args.first c.loop-y.last y i.none (sym c.has.ensures ∙ w.if-has.false) z (omega (arith, e, lo)) hi h;
          }
    ]
