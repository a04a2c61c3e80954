use Rattle.un_commands.specs.Alloc.{model_options}
use Rattle.un_isa.specs.Versions.{table_of}
use Rattle.un_isa.specs.declared.table.TheConstants.{LAST}
use Rattle.un_top.proofs.ImproveLaws.{improvement_for}
use Rattle.un_top.proofs.improve.answer_under.Goals as goal

pub returns-clause-answer : goal.returns-clause-answer
returns-clause-answer c =
    let out = c.in_ok-output.output in
    improvement_for c.table_of.result (table_of LAST) c.model_options.result (model_options c.args.options) c.args.options.nodes c.args.f.now
    c.args.text.now out.status out.text.items c.table_of.ensures.is c.model_options.ensures (record {
      numbers = c.args.s.now;
      read = c.requires.numbers;
      model = c.in_ok-model.model;
      is_model = c.in_ok-model.ensures.gives;
      answer = c.in_ok-output.ensures.answer;
    })
