use Rattle.std.proofs.Common.{◌≡◌, Bool, ◌==◌, List, [], length, IsTrue, ◌↔◌, sym, ◌∙◌, ap, eqb-true}
use Rattle.std.proofs.lemmas.List.{nil_from_length}
use Rattle.un_lists.proofs.few.Few.is_empty.Goals as goal

-- a list is empty where its length is 0
nil_decides : {T : Type 0} (xs : List T) (b : Bool) → b ≡ (length xs == 0) → IsTrue b ↔ (xs ≡ [])
nil_decides xs b e = (λ yes. nil_from_length xs (eqb-true (length xs) 0 (sym e ∙ yes)), λ none. e ∙ ap (λ ys. length ys == 0) none)

pub returns : goal.returns
returns g c = nil_decides c.args.self.now c.is_empty.result
    (c.is_empty.ensures ∙ ap (λ xs. length xs == 0) (c.as_slice.ensures ∙ c.self.view_is))
