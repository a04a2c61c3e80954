use Rattle.un_report_reader.proofs.PartLaws.{word_is_name}
use Rattle.un_report_reader.proofs.head.name_of.Goals as goal

pub returns-in-None-clause-none : goal.returns-in-None-clause-none
returns-in-None-clause-none c =
    λ name rest good e. let no = c.in-None.ensures.named.1 (word_is_name c.args.text.now c.in_ok-name.name.now c.in_ok-name.rest.now
    c.in_ok-name.ensures.some name rest good e) in cc no
