use Rattle.std.proofs.Common.{ℕ, List, Bool, ◌≡◌, ◌<◌, ◌+◌, ◌||◌, ◌∙◌, not, nat_eq, nat_le, set, arith, refl, sym, ap, subst}
use Rattle.std.proofs.Common.{option_and_then}
use Rattle.std.specs.declared.option.Option.{Option}
use Rattle.un_base.specs.declared.ids.VarId.{VarId}
use Rattle.un_domains.specs.Sets.{Sets, set_at, cut_by, least, greatest}
use Rattle.un_prop.specs.Steps.{has_var}
use Rattle.un_prop.specs.Last.{point}
use Rattle.un_prop.specs.GoingLaws.{starts}
use Rattle.un_prop.specs.LastLaws.{try_first, try_next, try_last, same_tried}
use Rattle.un_prop.specs.Pruning.{IsPrune}
use Rattle.un_prop.specs.declared.propagator.Pruned.TheVariants.{Same}
use Rattle.un_prop.proofs.last.try_all.Goals as goal

pub loop-y-init : goal.loop-y-init
loop-y-init g c =
    let P = g.P.Predicate in
    let s = c.args.w.now.store.now in
    let vs = c.args.w.now.vars.now in
    let v = c.args.v in
    let p = c.args.p.now in
    let q = λ (z : ℕ). P.holds p (set (point s.sets) v.0 z) in
    let looks = g.met.P.Predicate.looks p in
    let within = has_var (P.scope p) v s.sets c.requires.lent c.requires.known in
    let from : c.from-low.result ≡ least (set_at s.sets v.0) = c.from-low.ensures ∙ c.min.ensures in
    record {
      prune = subst (λ (n : ℕ). IsPrune vs (cut_by (λ z. nat_le n z || q z) v.0 s.sets) s s Same) (sym from)
          (subst (λ (o : Option Sets). IsPrune vs o s s Same) (sym
          (try_first (P.scope p) (P.holds p) looks s.sets v q within c.requires.live)) (starts vs s c.requires.live));
      written = λ i d lt ne. c.requires.written i d lt;
      same_reference = refl;
      vars = refl;
    }

pub loop-y-preserved : goal.loop-y-preserved
loop-y-preserved g c =
    let P = g.P.Predicate in
    let s = c.args.w.now.store.now in
    let vs = c.args.w.now.vars.now in
    let v = c.args.v in
    let p = c.args.p.now in
    let q = λ (z : ℕ). P.holds p (set (point s.sets) v.0 z) in
    let looks = g.met.P.Predicate.looks p in
    let within = has_var (P.scope p) v s.sets c.requires.lent c.requires.known in
    let inv = c.loop-y.invariant in
    let y = c.loop-y.y in
    let did = c.try_value-did in
    let e = ap (λ r. r.now) inv.vars in
    let tried = P.holds p (set c.loop-y.fixed v.0 y) in
    let now = cut_by (λ z. nat_le y z || q z) v.0 s.sets in
    let step = did.ensures.goes now s (subst (λ (us : List VarId). IsPrune us now s c.loop-y.w.store.now c.loop-y.did) (sym e) inv.prune) in
    let is : tried ≡ q y = same_tried (P.scope p) (P.holds p) looks s.sets v y c.loop-y.fixed c.requires.known within
    (omega (arith, within, c.requires.room, c.loop-y.auto.fixed)) inv.written in
    let next : option_and_then (cut_by (λ z. not (nat_eq z y) || tried) v.0) now ≡ cut_by (λ z. nat_le (y + 1) z || q z) v.0 s.sets =
    ap (λ (b : Bool). option_and_then (cut_by (λ z. not (nat_eq z y) || b) v.0) now) is
    ∙ try_next (P.scope p) (P.holds p) looks s.sets v y q within in
    record {
      prune = subst (λ (o : Option Sets). IsPrune vs o s did.new.w.store.now did.result) next
          (subst (λ (us : List VarId). IsPrune us (option_and_then (cut_by (λ z. not (nat_eq z y) || tried) v.0) now) s did.new.w.store.now
          did.result) e step);
      written = λ i d lt ne. did.ensures.fixed _ ne ∙ inv.written i d lt ne;
      same_reference = did.ensures.same_reference ∙ inv.same_reference;
      vars = did.ensures.vars ∙ inv.vars;
    }

pub returns-clause-prune : goal.returns-clause-prune
returns-clause-prune g c =
    let P = g.P.Predicate in
    let s = c.args.w.now.store.now in
    let vs = c.args.w.now.vars.now in
    let v = c.args.v in
    let p = c.args.p.now in
    let q = λ (z : ℕ). P.holds p (set (point s.sets) v.0 z) in
    let looks = g.met.P.Predicate.looks p in
    let within = has_var (P.scope p) v s.sets c.requires.lent c.requires.known in
    let high : greatest (set_at s.sets v.0) < c.loop-y.y = omega (arith, c.loop-y-test.false, c.from-end.ensures, c.max.ensures) in
    subst (λ (o : Option Sets). IsPrune vs o s c.loop-y.w.store.now c.loop-y.did)
    (try_last (P.scope p) (P.holds p) looks s.sets v q c.loop-y.y high) c.loop-y.invariant.prune
