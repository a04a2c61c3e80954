use Rattle.un_violations.proofs.solution.is_solution.Goals as goal

pub is_schedule-requires : goal.is_schedule-requires
is_schedule-requires c = rw (c.as_slice.ensures) c.in_ok-t.ensures

pub returns : goal.returns
returns c = rw (c.as_slice.ensures) at c.in_ok-kept.ensures
