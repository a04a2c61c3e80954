use Rattle.std.proofs.Common.{◌≡◌, ◌+◌, ◌≢◌, ℕ, List, ◌++◌, Option, Some, None, Bor, MatchOption, IfSome, IfNone, length, take, drop, sym}
use Rattle.std.proofs.Common.{◌∙◌, ap, true, false}
use Rattle.std.specs.Str.{bytes_eq}
use Rattle.un_tree.proofs.Cuts.{begins, not_begins}
use Rattle.un_tree.proofs.line.behind.Goals as goal

some_behind : (answer : Option (Bor (List ℕ))) (line start : List ℕ)
    → MatchOption answer (bytes_eq (take (length start) line) start ≡ false) (λ x. (bytes_eq (take (length start) line) start ≡ true)
    × (x.now ≡ drop (length start) line) × (length x.now + length start ≡ length line))
    → IfSome answer (λ rest. line ≡ start ++ rest.now)
some_behind None line start h = tt
some_behind (Some x) line start h = begins line start h.0 ∙ ap (λ (t : List ℕ). start ++ t) (sym h.1)

none_behind : (answer : Option (Bor (List ℕ))) (line start : List ℕ)
    → MatchOption answer (bytes_eq (take (length start) line) start ≡ false) (λ x. (bytes_eq (take (length start) line) start ≡ true)
    × (x.now ≡ drop (length start) line) × (length x.now + length start ≡ length line))
    → IfNone answer ((rest : List ℕ) → line ≢ start ++ rest)
none_behind None line start h = not_begins line start h
none_behind (Some x) line start h = tt

pub returns-clause-some : goal.returns-clause-some
returns-clause-some c = some_behind c.strip_prefix.result c.args.line.now c.args.start.now c.strip_prefix.ensures.cases

pub returns-clause-none : goal.returns-clause-none
returns-clause-none c = none_behind c.strip_prefix.result c.args.line.now c.args.start.now c.strip_prefix.ensures.cases
