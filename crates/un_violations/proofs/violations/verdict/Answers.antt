use Rattle.std.proofs.Common.{ap, length}
use Rattle.un_violations.proofs.Places.{issues_placed}
use Rattle.un_violations.proofs.violations.verdict.Goals as goal

pub keeps_order-requires : goal.keeps_order-requires
keeps_order-requires c =
    let below = issues_placed c.args.m.now c.args.values.now c.args.t.now (length c.as_slice-blocks.result.now) c.requires
    (ap length c.as_slice-blocks.ensures) in
    rw c.as_slice-issues.ensures below

pub keeps_frame-requires : goal.keeps_frame-requires
keeps_frame-requires c =
    issues_placed c.args.m.now c.args.values.now c.args.t.now (length c.as_slice-blocks.result.now) c.requires
    (ap length c.as_slice-blocks.ensures)

pub returns : goal.returns
returns c = record {
  in_domains = c.keeps_domains.ensures;
  zeros = rw (c.as_slice-issues.ensures, c.as_slice-ranges.ensures) at c.keeps_zeros.ensures;
  choices = rw (c.as_slice-reads.ensures, c.as_slice-ranges.ensures) at c.keeps_choices.ensures;
  spaces = rw (c.as_slice-reads.ensures, c.as_slice-ranges.ensures) at c.keeps_spaces.ensures;
  latencies = rw (c.as_slice-issues.ensures, c.as_slice-reads.ensures, c.as_slice-ranges.ensures) at c.keeps_latencies.ensures;
  memory = rw (c.as_slice-issues.ensures) at c.in_ok-memory.ensures;
  registers = c.in_ok-registers.ensures;
  packets = rw (c.as_slice-issues.ensures) at c.in_ok-packets.ensures;
  homes = rw (c.as_slice-blocks.ensures) at c.in_ok-homes.ensures;
  frame = rw (c.value.ensures) at c.in_ok-frame.ensures;
}
