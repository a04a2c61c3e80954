use Rattle.std.proofs.Common.{ℕ, ◌≡◌, ◌∙◌, zero, suc, Bool, false, List, get_or, replicate, refl, ap, rules}
use Rattle.un_rooms.specs.Marked.{is_marked}
use Rattle.un_rooms.proofs.room.no_marks.Goals as goal

none : (n r : ℕ) → get_or (replicate n false) r false ≡ false
none zero r = refl
none (suc n) zero = refl
none (suc n) (suc r) = none n r

pub returns-clause-none : goal.returns-clause-none
returns-clause-none c =
    let same : c.in_ok-marks.marks.items ≡ replicate c.args.count false = search rules in
    λ r. ap (λ (ms : List Bool). is_marked ms r) same ∙ none c.args.count r
