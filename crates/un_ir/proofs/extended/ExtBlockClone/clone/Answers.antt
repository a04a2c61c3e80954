use Rattle.std.proofs.Common.{refl}
use Rattle.std.specs.List.{each_same}
use Rattle.un_ir.proofs.extended.ExtBlockClone.clone.Goals as goal

pub returns : goal.returns
returns c =
    let a = c.args.self.now in
    let live_in = each_same a.live_in c.in_ok-live_in.live_in c.in_ok-live_in.ensures.cases in
    let live_out = each_same a.live_out c.in_ok-live_out.live_out c.in_ok-live_out.ensures.cases in
    let ops = each_same a.ops c.in_ok-ops.ops c.in_ok-ops.ensures.cases in
    record { cases = rw (live_in, live_out, ops) refl }
