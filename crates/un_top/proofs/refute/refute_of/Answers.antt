use Rattle.un_commands.specs.Alloc.{model_options}
use Rattle.un_isa.specs.Versions.{table_of}
use Rattle.un_isa.specs.declared.table.TheConstants.{LAST}
use Rattle.un_top.proofs.RefuteLaws.{refuting_for}
use Rattle.un_top.proofs.refute.refute_of.Goals as goal

pub returns-clause-answer : goal.returns-clause-answer
returns-clause-answer c =
    let out = c.in_ok-output.output in
    refuting_for c.table_of.result (table_of LAST) c.model_options.result (model_options c.args.options) c.args.options.nodes c.args.limit
    c.args.text.now out.status out.text.items c.table_of.ensures.is c.model_options.ensures (record {
      function = c.args.f.now;
      read = c.requires.read;
      model = c.in_ok-model.model;
      is_model = c.in_ok-model.ensures.gives;
      answer = c.in_ok-output.ensures.answer;
    })
