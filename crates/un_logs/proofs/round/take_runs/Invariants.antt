-- the runs so far were taken and written
use Rattle.std.proofs.Common.{ℕ, ◌≡◌, ◌≢◌, ◌-◌, ◌<◌, ◌^◌, List, length}
use Rattle.std.specs.Bool.{OnTrue, OnFalse}
use Rattle.un_domains.specs.Sets.{Sets, set_at, total}
use Rattle.un_logs.specs.Goods.{Writes}
use Rattle.un_logs.specs.Rounds.{RunsGo}
use Rattle.un_logs.specs.declared.turn.Run.{Run}
use Rattle.un_logs.proofs.round.take_runs.Given as goal

abbrev pub invariant-loop-run : goal.invariant-loop-run
invariant-loop-run l = record {
  runs : (rs : List Run) (new : Sets) → RunsGo l.r.m.now l.r.limit l.t l.from rs l.cuts.sets new
      → (qs : List Run) × RunsGo l.r.m.now l.r.limit l.t 0 qs l.fn.cuts.sets new;
  writes : Writes l.r l.fn.cuts.sets l.cuts.sets l.fn.text.items l.text.items;
  long : length l.cuts.sets ≡ length l.fn.cuts.sets;
  others : (v : ℕ) → v ≢ l.t.var.0 → set_at l.cuts.sets v ≡ set_at l.fn.cuts.sets v;
  went : OnTrue l.went ((l.t.var.0 < length l.fn.cuts.sets) × (total l.cuts.sets < total l.fn.cuts.sets));
  stayed : OnFalse l.went (l.cuts.sets ≡ l.fn.cuts.sets);
  marked : l.cuts.marked ≡ l.fn.cuts.marked;
}

abbrev pub decreases-loop-run : goal.decreases-loop-run
decreases-loop-run l = 2 ^ 32 - l.from
