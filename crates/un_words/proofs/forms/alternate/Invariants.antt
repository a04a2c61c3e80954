-- the words that are left decide
use Rattle.std.proofs.Common.{◌≡◌, drop, true}
use Rattle.un_words.specs.Shapes.{alternate}
use Rattle.un_words.proofs.forms.alternate.Given as goal

abbrev pub invariant-loop-token : goal.invariant-loop-token
invariant-loop-token l = alternate true l.tokens ≡ alternate l.named (drop l.token-index l.tokens)
