use Rattle.std.proofs.Common.{ℕ, List, true, ◌≡◌, ◌<◌, ◌+◌, ◌||◌, ◌∙◌, not, nat_eq, nat_le, arith, refl, sym, ap, subst, option_and_then}
use Rattle.std.specs.declared.option.Option.{Option}
use Rattle.un_base.specs.declared.ids.VarId.{VarId}
use Rattle.un_domains.specs.Sets.{Sets, set_at, cut_by, least, greatest}
use Rattle.un_prop.specs.GoingLaws.{starts}
use Rattle.un_prop.specs.LastLaws.{try_first, try_next, try_last}
use Rattle.un_prop.specs.Pruning.{IsPrune}
use Rattle.un_prop.specs.declared.propagator.Pruned.TheVariants.{Same}
use Rattle.un_slots.specs.Listings.{is_left}
use Rattle.un_slots.proofs.keep.keep_left.Goals as goal

pub loop-c-init : goal.loop-c-init
loop-c-init c =
    let s = c.args.w.now.store.now in
    let vs = c.args.w.now.vars.now in
    let v = c.args.v in
    let q = is_left c.args.marks.now c.args.horizon in
    let from : c.from-low.result ≡ least (set_at s.sets v.0) = c.from-low.ensures ∙ c.min.ensures in
    record {
      prune = subst (λ (n : ℕ). IsPrune vs (cut_by (λ z. nat_le n z || q z) v.0 s.sets) s s Same) (sym from)
          (subst (λ (o : Option Sets). IsPrune vs o s s Same)
          (sym (try_first vs (λ x. true) (λ x y same. refl) s.sets v q c.requires.there c.requires.live)) (starts vs s c.requires.live));
      same_reference = refl;
      vars = refl;
    }

pub loop-c-preserved : goal.loop-c-preserved
loop-c-preserved c =
    let s = c.args.w.now.store.now in
    let vs = c.args.w.now.vars.now in
    let v = c.args.v in
    let q = is_left c.args.marks.now c.args.horizon in
    let inv = c.loop-c.invariant in
    let y = c.loop-c.c in
    let did = c.keep_at-did in
    let e = ap (λ r. r.now) inv.vars in
    let now = cut_by (λ z. nat_le y z || q z) v.0 s.sets in
    let step = did.ensures.goes now s (subst (λ (us : List VarId). IsPrune us now s c.loop-c.w.store.now c.loop-c.did) (sym e) inv.prune) in
    let next : option_and_then (cut_by (λ z. not (nat_eq z y) || q y) v.0) now ≡ cut_by (λ z. nat_le (y + 1) z || q z) v.0 s.sets =
    try_next vs (λ x. true) (λ x y same. refl) s.sets v y q c.requires.there in
    record {
      prune = subst (λ (o : Option Sets). IsPrune vs o s did.new.w.store.now did.result) next
          (subst (λ (us : List VarId). IsPrune us (option_and_then (cut_by (λ z. not
          (nat_eq z y) || q y) v.0) now) s did.new.w.store.now did.result) e step);
      same_reference = did.ensures.same_reference ∙ inv.same_reference;
      vars = did.ensures.vars ∙ inv.vars;
    }

pub returns-clause-prune : goal.returns-clause-prune
returns-clause-prune c =
    let s = c.args.w.now.store.now in
    let vs = c.args.w.now.vars.now in
    let v = c.args.v in
    let q = is_left c.args.marks.now c.args.horizon in
    let high : greatest (set_at s.sets v.0) < c.loop-c.c = omega (arith, c.loop-c-test.false, c.from-end.ensures, c.max.ensures) in
    subst (λ (o : Option Sets). IsPrune vs o s c.loop-c.w.store.now c.loop-c.did)
    (try_last vs (λ x. true) (λ x y same. refl) s.sets v q c.loop-c.c high) c.loop-c.invariant.prune
