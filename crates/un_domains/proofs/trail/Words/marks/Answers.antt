use Rattle.std.proofs.Common.{ap, length, arith}
use Rattle.un_domains.specs.Levels.{MarkedWords}
use Rattle.un_domains.specs.LevelLaws.{length-marked_from}
use Rattle.un_domains.proofs.trail.Words.marks.Goals as goal

pub returns : goal.returns
returns c =
    let a = c.self.inside in
    omega (
      arith,
      c.len.ensures,
      length-marked_from (length a.saves.starts.items) a.saves.starts.items a.saves.entries.items a.words.items,
      ap (λ (s : MarkedWords). length s.marked) c.self.view_is,
    )
