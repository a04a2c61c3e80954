-- What stands before a line, one line further on.
use Rattle.std.specs.Prelude.{◌+◌, ◌++◌, if◌then◌else◌}
use Rattle.std.specs.Option.{option_to_list, option_or}
use Rattle.un_words.specs.declared.line.Line.{Line}
use Rattle.un_faults.specs.declared.before.Before.{Before}
use Rattle.un_faults.specs.Before.{numbered, label_on, name_on, is_operation, ended_after}
use Rattle.un_words.specs.LineNames.{names_on}

abbrev pub noted : Before → Line → Before
noted before line = record {
  name = option_or before.name (name_on line);
  labels = before.labels ++ option_to_list (label_on line);
  names = numbered before.names (names_on line);
  ops = before.ops + (if is_operation line then 1 else 0);
  ended = ended_after before.ended line;
}
