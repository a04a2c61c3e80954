use Rattle.std.proofs.Common.{[]}
use Rattle.un_check.specs.Verdicts.{IsNo}
use Rattle.un_check.specs.Walks.{IsWalk}
use Rattle.un_check.proofs.TreeLemmas.{told, silent}
use Rattle.un_check.proofs.tree.seen_after.Goals as goal

pub returns-in-None : goal.returns-in-None
returns-in-None c m limit nodes h =
    c.seen_whole.ensures m limit nodes (silent (IsWalk m limit nodes [] c.args.walk.now) (IsNo m limit nodes) c.args.told h c.in-None.is)

pub returns-in-Some : goal.returns-in-Some
returns-in-Some c m limit nodes h =
    c.seen_no.ensures m limit nodes (told (IsWalk m limit nodes [] c.args.walk.now) (IsNo m limit nodes) c.args.told c.in-Some.verdict h c.in-Some.is)
