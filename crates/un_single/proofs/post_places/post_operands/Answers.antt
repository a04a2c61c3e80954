use Rattle.un_sites.specs.Places.{asked}
use Rattle.un_sites.specs.Postings.{of_operand}
use Rattle.un_sites.specs.Sites.{place_of, definers_in}
use Rattle.un_sites.proofs.Appends.{placed_added}
use Rattle.un_single.proofs.post_places.post_operands.Goals as goal

pub loop-i-preserved : goal.loop-i-preserved
loop-i-preserved c =
    placed_added (of_operand c.args.t.now c.args.slots) (asked (definers_in c.args.sites.now) (place_of c.args.p.now)) c.loop-i.i
    c.args.p.now.it.now.operands c.get.result.now c.loop-i.props _ c.post_operand.new.props c.loop-i.invariant c.get.ensures
    (rw c.in_ok-j.ensures.number at c.in_ok-post_operand.ensures)
