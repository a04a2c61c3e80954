use Rattle.un_check.proofs.AnswerLemmas.{first_clause}
use Rattle.un_top.proofs.improve.first_of.Goals as goal

pub returns-in-len1-up : goal.returns-in-len1-up
returns-in-len1-up c =
    first_clause c.as_slice.result.now c.args.broken.now.items (record { clause = 0 }) c.as_slice.ensures.value c.in-len1-up.len_at_least
