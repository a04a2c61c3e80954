-- the greatest so far, and of the rest
use Rattle.std.proofs.Common.{◌≡◌, drop, map, max}
use Rattle.std.specs.Prelude.{fold}
use Rattle.un_rows.specs.Rows.{draft_end, ends_of}
use Rattle.un_rows.proofs.rows.ends_of.Given as goal

abbrev pub invariant-loop-d : goal.invariant-loop-d
invariant-loop-d l =
    fold max l.end (map (draft_end l.t l.known) (drop l.d-index l.drafts)) ≡ ends_of l.t l.known l.drafts
