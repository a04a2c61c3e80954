use Rattle.un_runs.proofs.runs.generated_text.Goals as goal

pub returns : goal.returns
returns c = record { function = c.in_ok-f.f; is = c.in_ok-f.ensures; printed = c.in_ok-text.ensures }
