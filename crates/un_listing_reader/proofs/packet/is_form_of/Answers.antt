-- Instructions with their form, by their line.
use Rattle.std.proofs.Common.{All, subst, sym, ◌∙◌}
use Rattle.un_listing_reader.specs.PacketForms.{IsFormed}
use Rattle.un_listing_reader.proofs.packet.is_form_of.Goals as goal

pub returns-then-not-are_formed : goal.returns-then-not-are_formed
returns-then-not-are_formed c = (
  λ h. absurd (cc h),
  λ p. sym c.if-not-are_formed.true ∙ c.are_formed.ensures.1 (subst (All IsFormed) (sym c.as_slice.ensures) p.0),
)

pub returns : goal.returns
returns c = (
  λ h. (subst (All IsFormed) c.as_slice.ensures (c.are_formed.ensures.0 c.if-not-are_formed.false), c.in_ok-same.ensures.0 h),
  λ p. c.in_ok-same.ensures.1 p.1,
)
