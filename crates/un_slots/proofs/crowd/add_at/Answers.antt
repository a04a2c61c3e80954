use Rattle.std.proofs.Common.{◌≡◌, ◌∙◌, true, sym, arith}
use Rattle.un_domains.specs.Sets.{set_at, least}
use Rattle.un_prop.specs.AmongLaws.{has_among}
use Rattle.un_slots.specs.Counts.{ends_at}
use Rattle.un_slots.specs.CountLaws.{least_most, end_is, adds_one}
use Rattle.un_slots.proofs.crowd.add_at.Goals as goal

pub add-requires-clause-room : goal.add-requires-clause-room
add-requires-clause-room c =
    let s = c.args.w.now.store.now.sets in
    let i = c.args.item.now in
    let here : ends_at c.args.r s c.args.high i ≡ true = sym c.ends_at.ensures ∙ c.if-not-ends_at.false in
    let last = end_is c.args.r s c.args.high i here in
    let le = least_most (set_at s i.at.0) (c.requires.live i.at.0 (has_among c.args.w.now.vars.now i.at s c.requires.vars.of_at
    c.requires.known)) in
    omega (arith, last, le, c.requires.room)

pub add-requires-clause-small : goal.add-requires-clause-small
add-requires-clause-small c =
    let s = c.args.w.now.store.now.sets in
    let i = c.args.item.now in
    let here : ends_at c.args.r s c.args.high i ≡ true = sym c.ends_at.ensures ∙ c.if-not-ends_at.false in
    let last = end_is c.args.r s c.args.high i here in
    let le = least_most (set_at s i.at.0) (c.requires.live i.at.0 (has_among c.args.w.now.vars.now i.at s c.requires.vars.of_at
    c.requires.known)) in
    let small = c.requires.small (least (set_at s i.at.0)) (omega (arith, last, le)) in
    let one = adds_one c.args.r s c.args.high i here in
    omega (arith, small, one)
