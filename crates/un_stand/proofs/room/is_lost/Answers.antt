use Rattle.std.proofs.Common.{ℕ, ◌≡◌, ◌<◌, ◌≤◌, true, false, nat_lt, length, ap, ◌∙◌, arith}
use Rattle.std.proofs.lemmas.Bool.Decides.{nat_tests}
use Rattle.un_domains.specs.Cuts.{Contents}
use Rattle.un_stand.proofs.RoomLemmas.{lost_none, fewer_marks, all_marks}
use Rattle.un_stand.proofs.room.is_lost.Goals as goal

fewer : (i j a b : ℕ) → nat_lt i j ≡ true → i ≡ a → j ≡ b → a < b
fewer i j a b e f g = grind (arith, nat_tests, e, f, g)

all : (i j a b : ℕ) → nat_lt i j ≡ false → i ≡ a → j ≡ b → b ≤ a
all i j a b e f g = grind (arith, nat_tests, e, f, g)

pub returns-in-None-clause-lost : goal.returns-in-None-clause-lost
returns-in-None-clause-lost c e root fix ps h = lost_none root fix ps _ _ h.ends c.in-None.is

pub returns-in-Some-clause-lost : goal.returns-in-Some-clause-lost
returns-in-Some-clause-lost c e root fix ps h =
    fewer_marks root fix ps c.args.room.now h c.in-Some.engine c.in-Some.is
    (fewer c.marks.result c.marks-in-Some.result (length c.in-Some.engine.store.marked) (length c.args.room.now.stand.cuts.marked) e
    (c.marks.ensures ∙ ap (λ (k : Contents). length k.marked) c.store.ensures) c.marks-in-Some.ensures)

pub returns-in-Some-clause-rests : goal.returns-in-Some-clause-rests
returns-in-Some-clause-rests c e root fix ps h =
    all_marks root fix ps c.args.room.now h c.in-Some.engine c.in-Some.is
    (all c.marks.result c.marks-in-Some.result (length c.in-Some.engine.store.marked) (length c.args.room.now.stand.cuts.marked) e
    (c.marks.ensures ∙ ap (λ (k : Contents). length k.marked) c.store.ensures) c.marks-in-Some.ensures)
