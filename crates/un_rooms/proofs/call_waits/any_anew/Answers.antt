use Rattle.std.proofs.Common.{◌∙◌, sym}
use Rattle.un_sites.specs.CallBefores.{reads_anew}
use Rattle.un_sites.specs.Sites.{place_of}
use Rattle.un_rooms.proofs.CallWalks.{any_found, any_next}
use Rattle.un_rooms.proofs.call_waits.any_anew.Goals as goal

pub returns-then-reads_anew : goal.returns-then-reads_anew
returns-then-reads_anew c =
    let is = rw c.in_ok-at.ensures.number at c.reads_anew.ensures in
    any_found (reads_anew c.args.t.now (place_of c.args.call.now) c.args.u.now.it.now.kind) c.loop-j.j c.args.u.now.it.now.operands
    c.get.result.now _ c.loop-j.invariant c.get.ensures (sym is ∙ c.if-reads_anew.true)

pub loop-j-preserved : goal.loop-j-preserved
loop-j-preserved c =
    let is = rw c.in_ok-at.ensures.number at c.reads_anew.ensures in
    any_next (reads_anew c.args.t.now (place_of c.args.call.now) c.args.u.now.it.now.kind) c.loop-j.j c.args.u.now.it.now.operands
    c.get.result.now _ c.loop-j.invariant c.get.ensures (sym is ∙ c.if-reads_anew.false)
