use Rattle.std.proofs.Common.{refl, length}
use Rattle.un_violations.proofs.Places.{issues_placed}
use Rattle.un_violations.proofs.solution.is_schedule.Goals as goal

pub keeps_clauses-requires : goal.keeps_clauses-requires
keeps_clauses-requires c =
    let m = c.args.m.now in
    record { issued = issues_placed m c.args.values.now c.args.t.now (length m.ext.blocks) c.requires refl }

pub returns : goal.returns
returns c =
    let h = rw (c.requires) at c.in_ok-kept.ensures in (
      λ is.
          let k = h.0 is in
          let alone = k.0 in
          let together = k.1 in
          let sharing = together.1 in
          let places = sharing.1 in
          record {
            in_domains = places.1.1;
            zeros = alone.1.1;
            choices = alone.0.1;
            spaces = alone.1.0;
            latencies = alone.0.0;
            memory = together.0.1;
            registers = sharing.0;
            packets = together.0.0;
            homes = places.0.0;
            congruences = places.0.1;
            frame = places.1.0;
          },
      λ s. h.1 (
        ((s.latencies, s.choices), (s.spaces, s.zeros)),
        (
          (s.packets, s.memory),
          (
            s.registers,
            (
              (s.homes, s.congruences),
              (s.frame, s.in_domains),
            ),
          ),
        ),
      ),
    )
