use Rattle.std.proofs.Common.{ℕ, ◌≡◌, ◌<◌, ◌+◌, ◌||◌, ◌∙◌, Bool, true, List, not, nat_eq, nat_le, Some, option_and_then, refl, sym, ap}
use Rattle.std.proofs.Common.{subst, arith}
use Rattle.un_base.specs.declared.ids.VarId.{VarId}
use Rattle.un_domains.specs.Sets.{set_at, cut_by, least, greatest}
use Rattle.un_prop.specs.AmongLaws.{has_among}
use Rattle.un_prop.specs.Parts.{SameAt}
use Rattle.un_prop.specs.Going.{Stepped}
use Rattle.un_prop.specs.GoingLaws.{stepped_same, stepped_by, stepped_chain}
use Rattle.un_prop.specs.LastLaws.{try_first, try_next, try_last}
use Rattle.un_rect.proofs.Going.{going}
use Rattle.un_rect.proofs.Rows.{same_among, same_known}
use Rattle.un_rect.proofs.values.keep_passing.Goals as goal

pub min-requires-clause-there : goal.min-requires-clause-there
min-requires-clause-there g c = has_among c.args.w.now.vars.now c.args.v c.args.w.now.store.now.sets c.requires.lent c.requires.known

pub min-requires-clause-some : goal.min-requires-clause-some
min-requires-clause-some g c = c.requires.live (going c.args.before c.if-eq.ensures) c.args.v.0
    (has_among c.args.w.now.vars.now c.args.v c.args.w.now.store.now.sets c.requires.lent c.requires.known)

pub max-requires-clause-there : goal.max-requires-clause-there
max-requires-clause-there g c = has_among c.args.w.now.vars.now c.args.v c.args.w.now.store.now.sets c.requires.lent c.requires.known

pub max-requires-clause-some : goal.max-requires-clause-some
max-requires-clause-some g c = c.requires.live (going c.args.before c.if-eq.ensures) c.args.v.0
    (has_among c.args.w.now.vars.now c.args.v c.args.w.now.store.now.sets c.requires.lent c.requires.known)

-- what holds for each assignment looks at none
yes_to_all : List ℕ → Bool
yes_to_all x = true

alike : (vs : List VarId) (x y : List ℕ) → SameAt vs x y → yes_to_all x ≡ yes_to_all y
unfolding yes_to_all
alike vs x y same = refl

pub loop-y-init : goal.loop-y-init
loop-y-init g c =
    let w = c.args.w.now in
    let vs = w.vars.now in
    let s = w.store.now in
    let v = c.args.v in
    let q = g.T.ValueTest.lets c.args.t.now in
    let within = has_among vs v s.sets c.requires.lent c.requires.known in
    let from : c.from-low.result ≡ least (set_at s.sets v.0) = c.from-low.ensures ∙ c.min.ensures in
    record {
      step = stepped_same vs (cut_by (λ z. nat_le c.from-low.result z || q z) v.0) s c.args.before
          (λ live. subst (λ (n : ℕ). cut_by (λ z. nat_le n z || q z) v.0 s.sets ≡ Some s.sets) (sym from)
          (try_first vs yes_to_all (alike vs) s.sets v q within live));
      same_reference = refl;
      vars = refl;
    }

pub loop-y-preserved : goal.loop-y-preserved
loop-y-preserved g c =
    let w = c.args.w.now in
    let vs = w.vars.now in
    let s = w.store.now in
    let v = c.args.v in
    let q = g.T.ValueTest.lets c.args.t.now in
    let within = has_among vs v s.sets c.requires.lent c.requires.known in
    let inv = c.loop-y.invariant in
    let y = c.loop-y.y in
    let did = c.keep_value-did in
    let e = ap (λ r. r.now) inv.vars in
    let f = λ (n : ℕ). cut_by (λ z. nat_le n z || q z) v.0 in
    let here = cut_by (λ z. not (nat_eq z y) || q y) v.0 in
    let step = subst (λ (us : List VarId). Stepped us here c.loop-y.w.store.now did.new.w.store.now c.loop-y.did did.result) e
    did.ensures.step in
    record {
      step = stepped_by vs (f (y + 1)) (λ t. option_and_then here (f y t)) s did.new.w.store.now c.args.before did.result
          (λ live. sym (try_next vs yes_to_all (alike vs) s.sets v y q within))
          (stepped_chain vs (f y) here s c.loop-y.w.store.now did.new.w.store.now c.args.before c.loop-y.did did.result inv.step step);
      same_reference = did.ensures.same_reference ∙ inv.same_reference;
      vars = did.ensures.vars ∙ inv.vars;
    }

pub returns-clause-step : goal.returns-clause-step
returns-clause-step g c =
    let w = c.args.w.now in
    let vs = w.vars.now in
    let s = w.store.now in
    let v = c.args.v in
    let q = g.T.ValueTest.lets c.args.t.now in
    let high : greatest (set_at s.sets v.0) < c.loop-y.y = omega (arith, c.loop-y-test.false, c.from-end.ensures, c.max.ensures) in
    stepped_by vs (cut_by q v.0) (cut_by (λ z. nat_le c.loop-y.y z || q z) v.0) s c.loop-y.w.store.now c.args.before c.loop-y.did
    (λ live. sym (try_last vs yes_to_all (alike vs) s.sets v q c.loop-y.y high)) c.loop-y.invariant.step

pub keep_value-did-requires-clause-lent : goal.keep_value-did-requires-clause-lent
keep_value-did-requires-clause-lent g c = same_among c.args.w.now.vars.now c.loop-y.w.vars.now c.args.v
    (ap (λ r. r.now) c.loop-y.invariant.vars) c.requires.lent

pub keep_value-did-requires-clause-known : goal.keep_value-did-requires-clause-known
keep_value-did-requires-clause-known g c = same_known c.args.w.now.vars.now c.loop-y.w.vars.now c.args.w.now.store.now.sets
    c.loop-y.w.store.now.sets (ap (λ r. r.now) c.loop-y.invariant.vars)
    (c.loop-y.invariant.step.long) c.requires.known

pub keep_value-did-requires-clause-live : goal.keep_value-did-requires-clause-live
keep_value-did-requires-clause-live g c = c.loop-y.invariant.step.live c.requires.live
