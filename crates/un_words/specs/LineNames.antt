-- The names on a line, from left to right.
use Rattle.std.specs.Prelude.{List, [], ◌∷◌, ◌++◌, Some, None}
use Rattle.std.specs.Option.{option_to_list}
use Rattle.un_words.specs.declared.line.TermLine.{TermLine}
use Rattle.un_words.specs.declared.line.TermLine.TheVariants.{Jump, Branch, Ret}
use Rattle.un_words.specs.declared.line.Line.{Line}
use Rattle.un_words.specs.declared.line.Line.TheVariants.{Blank, Func, Block, Operation, Terminator}
use Rattle.un_words.specs.Tokens.{Spelled}

abbrev pub names_on_term : TermLine → List Spelled
names_on_term (Jump to) = []
names_on_term (Branch pred sense to) = pred ∷ []
names_on_term (Ret None) = []
names_on_term (Ret (Some name)) = name ∷ []

-- the names on a line, from left to right
abbrev pub names_on : Line → List Spelled
names_on Blank = []
names_on (Func name params) = params
names_on (Block label freq) = []
names_on (Operation o) = option_to_list o.dst ++ o.srcs
names_on (Terminator term) = names_on_term term
