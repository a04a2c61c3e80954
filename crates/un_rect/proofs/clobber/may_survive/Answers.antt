use Rattle.std.proofs.Common.{◌∙◌, not, sym, ap}
use Rattle.un_domains.specs.OrderLaws.{has_greatest}
use Rattle.un_domains.specs.Sets.{set_at, has}
use Rattle.un_isa.specs.Tables.{in_mask}
use Rattle.un_prop.specs.SomewhereLaws.{any_has}
use Rattle.un_rect.proofs.clobber.may_survive.Goals as goal

pub returns-then-not-is_in_mask : goal.returns-then-not-is_in_mask
returns-then-not-is_in_mask c =
    let xs = set_at c.args.w.now.store.now.sets c.args.a.now.reg.0 in
    let top = has_greatest xs (c.requires.live c.args.a.now.reg.0 c.requires.there) in
    sym (any_has (λ r. not (in_mask c.args.mask r)) xs c.max-most.result (ap (has xs) c.max-most.ensures ∙ top)
    (ap not (sym c.is_in_mask.ensures ∙ c.if-not-is_in_mask.true)))
