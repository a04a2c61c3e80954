use Rattle.std.proofs.Common.{◌≡◌, ◌∙◌, sym, map}
use Rattle.un_sites.specs.CallBefores.{compares, reads_compared}
use Rattle.un_sites.specs.Sites.{place_of}
use Rattle.un_rooms.proofs.CallWalks.{any_found, any_mapped, any_next}
use Rattle.un_rooms.proofs.call_waits.any_compared.Goals as goal

pub returns-then-reads_compared : goal.returns-then-reads_compared
returns-then-reads_compared c =
    let is : c.reads_compared.result ≡ reads_compared (map place_of c.args.spots.now) c.loop-j.j c.get.result.now =
    c.reads_compared.ensures ∙ any_mapped (compares c.get.result.now) place_of c.args.spots.now in
    any_found (reads_compared (map place_of c.args.spots.now)) c.loop-j.j c.args.u.now.it.now.operands c.get.result.now _ c.loop-j.invariant
    c.get.ensures (sym is ∙ c.if-reads_compared.true)

pub loop-j-preserved : goal.loop-j-preserved
loop-j-preserved c =
    let is : c.reads_compared.result ≡ reads_compared (map place_of c.args.spots.now) c.loop-j.j c.get.result.now =
    c.reads_compared.ensures ∙ any_mapped (compares c.get.result.now) place_of c.args.spots.now in
    any_next (reads_compared (map place_of c.args.spots.now)) c.loop-j.j c.args.u.now.it.now.operands c.get.result.now _ c.loop-j.invariant
    c.get.ensures (sym is ∙ c.if-reads_compared.false)
