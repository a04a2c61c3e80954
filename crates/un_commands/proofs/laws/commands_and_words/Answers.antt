use Rattle.un_commands.proofs.CommandLaws.{one_command, words_for}
use Rattle.un_commands.proofs.laws.commands_and_words.Goals as goal

pub returns-clause-one : goal.returns-clause-one
returns-clause-one c = one_command c.args.words.now

pub returns-clause-every : goal.returns-clause-every
returns-clause-every c = words_for
