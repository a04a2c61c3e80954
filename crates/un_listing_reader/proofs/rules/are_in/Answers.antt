-- One register more, the last, and one that lies in another space.
use Rattle.std.proofs.Common.{sym, ◌∙◌, refl}
use Rattle.un_listing_reader.proofs.NeedLaws.{space_at, one_more, all_of_them, other_length}
use Rattle.un_listing_reader.proofs.rules.are_in.Goals as goal

pub returns-then-regs-spaces : goal.returns-then-regs-spaces
returns-then-regs-spaces c = (
  λ h. absurd (cc h),
  λ same. absurd (other_length c.args.regs.now c.args.spaces.now c.if-regs-spaces.true same),
)

pub loop-i-preserved : goal.loop-i-preserved
loop-i-preserved c =
    one_more c.args.regs.now c.args.spaces.now c.loop-i.i _ _ c.if-regs-spaces.false c.loop-i-test.true
    (c.is_in.ensures.0 c.if-not-is_in.false) c.loop-i.invariant

pub returns-then-not-is_in : goal.returns-then-not-is_in
returns-then-not-is_in c = (
  λ h. absurd (cc h),
  λ same. sym c.if-not-is_in.true ∙ c.is_in.ensures.1 (space_at c.args.regs.now c.args.spaces.now c.loop-i.i _ _ c.loop-i-test.true same),
)

pub returns : goal.returns
returns c = (
  λ h. all_of_them c.args.regs.now c.args.spaces.now c.loop-i.i c.if-regs-spaces.false c.loop-i-test.false c.loop-i.invariant,
  λ same. refl,
)
