use Rattle.std.proofs.Common.{ℕ, ◌≡◌, ◌∙◌, ◌||◌, not, nat_eq, get_or, set, arith}
use Rattle.std.proofs.lemmas.List.Elements.{All-contains}
use Rattle.un_domains.specs.Sets.{set_at, cut_by, least}
use Rattle.un_prop.specs.AmongLaws.{has_among, in_list}
use Rattle.un_prop.specs.GoingLaws.{stepped_by}
use Rattle.un_prop.specs.Last.{point}
use Rattle.un_prop.specs.LastLaws.{cut_same, same_tried}
use Rattle.un_prop.specs.declared.propagator.Pruned.TheVariants.{Same}
use Rattle.un_rect.specs.Apart.{pair_holds}
use Rattle.un_rect.specs.ApartLaws.{pair_looks}
use Rattle.un_rect.proofs.CheckSteps.{tried_only}
use Rattle.un_rect.proofs.checks.try_other.Goals as goal

pub returns-clause-step : goal.returns-clause-step
returns-clause-step c =
    let s = c.args.w.now.store.now in
    let vs = c.args.w.now.vars.now in
    let v = c.args.v in
    let fixed = c.args.fixed.now in
    let y = c.value-y.result in
    let t = pair_holds c.args.a.now c.args.b.now in
    let q = λ (z : ℕ). t (set (point s.sets) v.0 z) in
    let looks = pair_looks vs c.args.a.now c.args.b.now c.requires.of_a c.requires.of_b in
    let within = has_among vs v s.sets c.requires.lent c.requires.known in
    let same : y ≡ least (set_at s.sets c.args.other.0) = c.value-y.ensures
    ∙ All-contains (λ u. get_or fixed u.0 0 ≡ least (set_at s.sets u.0)) vs c.args.other c.requires.written
    (in_list vs c.args.other c.requires.there) in
    let tried = t (set fixed v.0 y) in
    let is : tried ≡ q y = same_tried vs t looks s.sets v y fixed c.requires.known within (omega (arith, within, c.requires.room))
    (λ i d lt ne. c.requires.written i d lt) in
    stepped_by vs (cut_by q v.0) (cut_by (λ z. not (nat_eq z y) || tried) v.0) s c.try_value.new.w.store.now Same c.try_value.result
    (λ live. cut_same q (λ z. not (nat_eq z y) || tried) v.0 s.sets
    (λ z there. tried_only q y (least (set_at s.sets c.args.other.0)) tried is same c.requires.apart z))
    c.try_value.ensures.step
