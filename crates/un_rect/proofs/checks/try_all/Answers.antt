use Rattle.std.proofs.Common.{ℕ, List, Bool, ◌≡◌, ◌<◌, ◌+◌, ◌||◌, ◌∙◌, not, nat_eq, nat_le, set, arith, refl, sym, ap, subst}
use Rattle.std.proofs.Common.{option_and_then}
use Rattle.un_base.specs.declared.ids.VarId.{VarId}
use Rattle.un_domains.specs.Sets.{set_at, cut_by, least, greatest}
use Rattle.un_prop.specs.AmongLaws.{has_among}
use Rattle.un_prop.specs.Going.{Stepped}
use Rattle.un_prop.specs.GoingLaws.{stepped_same, stepped_by, stepped_chain}
use Rattle.un_prop.specs.Last.{point}
use Rattle.un_prop.specs.LastLaws.{try_first, try_next, try_last, same_tried}
use Rattle.un_prop.specs.declared.propagator.Pruned.TheVariants.{Same}
use Rattle.un_rect.specs.Apart.{pair_holds}
use Rattle.un_rect.specs.ApartLaws.{pair_looks}
use Rattle.un_rect.proofs.Rows.{same_among, same_known}
use Rattle.un_rect.proofs.checks.try_all.Goals as goal

pub min-requires-clause-there : goal.min-requires-clause-there
min-requires-clause-there c = has_among c.args.w.now.vars.now c.args.v c.args.w.now.store.now.sets c.requires.lent c.requires.known

pub min-requires-clause-some : goal.min-requires-clause-some
min-requires-clause-some c = c.requires.live c.args.v.0 (has_among c.args.w.now.vars.now c.args.v c.args.w.now.store.now.sets
    c.requires.lent c.requires.known)

pub max-requires-clause-there : goal.max-requires-clause-there
max-requires-clause-there c = has_among c.args.w.now.vars.now c.args.v c.args.w.now.store.now.sets c.requires.lent c.requires.known

pub max-requires-clause-some : goal.max-requires-clause-some
max-requires-clause-some c = c.requires.live c.args.v.0 (has_among c.args.w.now.vars.now c.args.v c.args.w.now.store.now.sets
    c.requires.lent c.requires.known)

pub loop-y-init : goal.loop-y-init
loop-y-init c =
    let s = c.args.w.now.store.now in
    let vs = c.args.w.now.vars.now in
    let v = c.args.v in
    let t = pair_holds c.args.a.now c.args.b.now in
    let q = λ (z : ℕ). t (set (point s.sets) v.0 z) in
    let looks = pair_looks vs c.args.a.now c.args.b.now c.requires.of_a c.requires.of_b in
    let within = has_among vs v s.sets c.requires.lent c.requires.known in
    let from : c.from-low.result ≡ least (set_at s.sets v.0) = c.from-low.ensures ∙ c.min.ensures in
    record {
      step = subst (λ (n : ℕ). Stepped vs (cut_by (λ z. nat_le n z || q z) v.0) s s Same Same) (sym from)
          (stepped_same vs (cut_by (λ z. nat_le (least (set_at s.sets v.0)) z || q z) v.0) s Same (λ live. try_first vs t looks s.sets v q
          within live));
      others = λ u ne. refl;
      same_reference = refl;
      vars = refl;
    }

pub loop-y-preserved : goal.loop-y-preserved
loop-y-preserved c =
    let s = c.args.w.now.store.now in
    let vs = c.args.w.now.vars.now in
    let v = c.args.v in
    let t = pair_holds c.args.a.now c.args.b.now in
    let q = λ (z : ℕ). t (set (point s.sets) v.0 z) in
    let looks = pair_looks vs c.args.a.now c.args.b.now c.requires.of_a c.requires.of_b in
    let within = has_among vs v s.sets c.requires.lent c.requires.known in
    let inv = c.loop-y.invariant in
    let y = c.loop-y.y in
    let did = c.try_value-did in
    let e = ap (λ r. r.now) inv.vars in
    let tried = t (set c.loop-y.fixed v.0 y) in
    let f = cut_by (λ z. nat_le y z || q z) v.0 in
    let g = cut_by (λ z. not (nat_eq z y) || tried) v.0 in
    let is : tried ≡ q y = same_tried vs t looks s.sets v y c.loop-y.fixed c.requires.known within
    (omega (arith, within, c.requires.room, c.loop-y.auto.fixed)) (λ i d lt ne. inv.others _ ne ∙ c.requires.written i d lt) in
    let next : option_and_then g (f s.sets) ≡ cut_by (λ z. nat_le (y + 1) z || q z) v.0 s.sets =
    ap (λ (b : Bool). option_and_then (cut_by (λ z. not (nat_eq z y) || b) v.0) (f s.sets)) is ∙ try_next vs t looks s.sets v y q within in
    record {
      step = stepped_by vs (cut_by (λ z. nat_le (y + 1) z || q z) v.0) (λ u. option_and_then g (f u)) s did.new.w.store.now Same did.result
          (λ live. sym next)
          (stepped_chain vs f g s c.loop-y.w.store.now did.new.w.store.now Same c.loop-y.did did.result inv.step
          (subst (λ (us : List VarId). Stepped us g c.loop-y.w.store.now did.new.w.store.now c.loop-y.did did.result) e did.ensures.step));
      others = λ u ne. did.ensures.others u ne ∙ inv.others u ne;
      same_reference = did.ensures.same_reference ∙ inv.same_reference;
      vars = did.ensures.vars ∙ inv.vars;
    }

pub returns-clause-step : goal.returns-clause-step
returns-clause-step c =
    let s = c.args.w.now.store.now in
    let vs = c.args.w.now.vars.now in
    let v = c.args.v in
    let t = pair_holds c.args.a.now c.args.b.now in
    let q = λ (z : ℕ). t (set (point s.sets) v.0 z) in
    let looks = pair_looks vs c.args.a.now c.args.b.now c.requires.of_a c.requires.of_b in
    let high : greatest (set_at s.sets v.0) < c.loop-y.y = omega (arith, c.loop-y-test.false, c.from-last.ensures, c.max.ensures) in
    stepped_by vs (cut_by q v.0) (cut_by (λ z. nat_le c.loop-y.y z || q z) v.0) s c.loop-y.w.store.now Same c.loop-y.did
    (λ live. sym (try_last vs t looks s.sets v q c.loop-y.y high)) c.loop-y.invariant.step

pub try_value-did-requires-clause-lent : goal.try_value-did-requires-clause-lent
try_value-did-requires-clause-lent c = same_among c.args.w.now.vars.now c.loop-y.w.vars.now c.args.v
    (ap (λ r. r.now) c.loop-y.invariant.vars) c.requires.lent

pub try_value-did-requires-clause-known : goal.try_value-did-requires-clause-known
try_value-did-requires-clause-known c = same_known c.args.w.now.vars.now c.loop-y.w.vars.now c.args.w.now.store.now.sets
    c.loop-y.w.store.now.sets (ap (λ r. r.now) c.loop-y.invariant.vars)
    (c.loop-y.invariant.step.long) c.requires.known

pub try_value-did-requires-clause-live : goal.try_value-did-requires-clause-live
try_value-did-requires-clause-live c = c.loop-y.invariant.step.live (λ still. c.requires.live)
