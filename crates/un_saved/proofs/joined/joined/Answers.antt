use Rattle.std.proofs.Common.{◌≡◌, sym, subst}
use Rattle.un_saved.specs.Joined.{AreJoined, joined_in}
use Rattle.un_saved.proofs.Marking.{joined_known}
use Rattle.un_saved.proofs.joined.joined.Goals as goal

pub returns-clause-joined : goal.returns-clause-joined
returns-clause-joined c =
    let is : c.mark_all.new.m ≡ joined_in c.args.blocks.now =
    cc (
      c.mark_all.ensures,
      c.in_ok-count.ensures.number,
      c.len.ensures,
      c.len-2.ensures,
      c.as_slice.ensures,
      c.in_ok-links.ensures,
      c.in_ok-m.ensures,
    ) in
    subst (AreJoined c.args.blocks.now) (sym is) (joined_known c.args.blocks.now)
