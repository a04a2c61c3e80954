use Rattle.un_check.specs.Verdicts.{IsNo}
use Rattle.un_check.specs.Walks.{IsWalk}
use Rattle.un_check.proofs.LineLemmas.{behind_lines, lines_end, lines_good, next_line, shorter}
use Rattle.un_check.proofs.TreeLemmas.{told, silent}
use Rattle.un_check.proofs.tree.visit_lines.Goals as goal

pub loop-node-init : goal.loop-node-init
loop-node-init c = let r = c.requires in record {
  at = r.at;
  room = r.room;
  lines = λ nodes fit is. record { rest = nodes; fit = fit; text = is; walk = r.first nodes };
}

pub unreachable-requires : goal.unreachable-requires
unreachable-requires c =
    let n = c.requires.lines in
    lines_good c.args.rules.now.m.now c.args.rules.now.limit n.nodes c.loop-node.left.now c.loop-node.walk
    (c.loop-node.invariant.lines n.nodes n.fit n.spelled) c.in-Bad.ensures.0 c.in-Bad.ensures.1

pub returns-in-End : goal.returns-in-End
returns-in-End c nodes fit is =
    let g = c.args.rules.now in
    lines_end g.m.now g.limit nodes c.loop-node.left.now c.loop-node.walk (c.loop-node.invariant.lines nodes fit is) c.in-End.ensures

pub visit-requires-clause-behind : goal.visit-requires-clause-behind
visit-requires-clause-behind c =
    let n = c.requires.lines in
    let h = next_line c.args.rules.now.m.now c.args.rules.now.limit n.nodes c.loop-node.left.now c.loop-node.walk
    (c.loop-node.invariant.lines n.nodes n.fit n.spelled) c.in-Node.node c.in-Node.line.now c.in-Node.rest.now c.in-Node.ensures in
    record {
      rest = h.behind;
      is = behind_lines c.args.rules.now.m.now c.in-Node.node h.behind c.len.result c.told_of-parts.result c.len.ensures
          (c.told_of-parts.ensures h.behind h.fit h.text);
    }

pub returns-in-Some : goal.returns-in-Some
returns-in-Some c nodes fit is =
    let h = next_line c.args.rules.now.m.now c.args.rules.now.limit nodes c.loop-node.left.now c.loop-node.walk (c.loop-node.invariant.lines nodes fit is)
    c.in-Node.node c.in-Node.line.now c.in-Node.rest.now c.in-Node.ensures in
    told (IsWalk c.args.rules.now.m.now c.args.rules.now.limit nodes h.behind c.visit.new.walk) (IsNo c.args.rules.now.m.now c.args.rules.now.limit nodes)
    c.in_ok-told-in-Node.told c.in-Some.verdict (c.in_ok-told-in-Node.ensures.visited nodes h.behind
    (behind_lines c.args.rules.now.m.now c.in-Node.node h.behind c.len.result c.told_of-parts.result c.len.ensures
    (c.told_of-parts.ensures h.behind h.fit h.text)) h.walk) c.in-Some.is

pub loop-node-preserved : goal.loop-node-preserved
loop-node-preserved c = record {
  at = c.in_ok-told-in-Node.ensures.at;
  room = c.in_ok-told-in-Node.ensures.room;
  lines = λ nodes fit is.
      (let h = next_line c.args.rules.now.m.now c.args.rules.now.limit nodes c.loop-node.left.now c.loop-node.walk (c.loop-node.invariant.lines nodes fit is)
      c.in-Node.node c.in-Node.line.now c.in-Node.rest.now c.in-Node.ensures in
      record {
        rest = h.behind;
        fit = h.fit;
        text = h.text;
        walk = silent (IsWalk c.args.rules.now.m.now c.args.rules.now.limit nodes h.behind c.visit.new.walk) (IsNo c.args.rules.now.m.now c.args.rules.now.limit nodes)
            c.in_ok-told-in-Node.told (c.in_ok-told-in-Node.ensures.visited nodes h.behind
            (behind_lines c.args.rules.now.m.now c.in-Node.node h.behind c.len.result c.told_of-parts.result c.len.ensures
            (c.told_of-parts.ensures h.behind h.fit h.text)) h.walk) c.in_default.is;
      });
}

pub loop-node-smaller : goal.loop-node-smaller
loop-node-smaller c = shorter c.loop-node.left.now c.in-Node.line.now c.in-Node.rest.now c.in-Node.ensures.whole
