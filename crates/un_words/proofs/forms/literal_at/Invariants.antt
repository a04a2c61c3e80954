-- no literal so far
use Rattle.std.proofs.Common.{◌≡◌, drop}
use Rattle.un_words.specs.Shapes.{literal_at}
use Rattle.un_words.proofs.forms.literal_at.Given as goal

abbrev pub invariant-loop-token : goal.invariant-loop-token
invariant-loop-token l = literal_at l.tokens ≡ literal_at (drop l.token-index l.tokens)
