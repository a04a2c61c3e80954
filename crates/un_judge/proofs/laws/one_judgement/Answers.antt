use Rattle.std.proofs.Common.{length}
use Rattle.un_base.specs.Lines.{pieces_of}
use Rattle.un_model.specs.Boxes.{root_of}
use Rattle.un_judge.specs.Judged.{closed_boxes}
use Rattle.un_judge.proofs.Comings.{comes_once}
use Rattle.un_judge.proofs.laws.one_judgement.Goals as goal

pub returns : goal.returns
returns c rules v w =
    let m = c.args.m.now in
    comes_once rules m c.args.limit 1 (closed_boxes (length m.ext.blocks) (root_of m) c.args.t.now.nodes.items) (pieces_of c.args.log.now) v w
