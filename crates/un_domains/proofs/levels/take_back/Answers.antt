use Rattle.std.proofs.Common.{ℕ, List, [], ◌∷◌, ◌++◌, ◌≡◌, ◌∙◌, ap, sym, subst, drop, length}
use Rattle.un_domains.specs.Levels.{AreSaves}
use Rattle.un_domains.specs.LevelLaws.{last_level, length-unwind, saves_back, marked_less}
use Rattle.un_domains.proofs.levels.take_back.Goals as goal

pub give_back-requires-clause-there : goal.give_back-requires-clause-there
give_back-requires-clause-there c =
    (last_level (length c.args.words.now.items) c.in-Some.start c.args.saves.now c.pop.new.self.items c.requires.saves c.in-Some.ensures.items).0

pub give_back-requires-clause-within : goal.give_back-requires-clause-within
give_back-requires-clause-within c =
    (last_level (length c.args.words.now.items) c.in-Some.start c.args.saves.now c.pop.new.self.items c.requires.saves
    c.in-Some.ensures.items).1.within

pub give_back-requires-clause-flags : goal.give_back-requires-clause-flags
give_back-requires-clause-flags c =
    (last_level (length c.args.words.now.items) c.in-Some.start c.args.saves.now c.pop.new.self.items c.requires.saves
    c.in-Some.ensures.items).1.flags

pub returns-in-Some-clause-saves : goal.returns-in-Some-clause-saves
returns-in-Some-clause-saves c =
    let s = c.args.saves.now in
    let ws = c.args.words.now.items in
    let starts = c.in-Some.ensures.items ∙ ap (λ (xs : List ℕ). xs ++ c.in-Some.start ∷ []) (sym c.give_back.ensures.starts) in
    let long : length c.give_back.new.words.items ≡ length ws = ap length c.give_back.ensures.words ∙ length-unwind (drop c.in-Some.start s.entries.items) ws in
    subst (λ (n : ℕ). AreSaves n c.give_back.new.saves) (sym long)
    (saves_back (length ws) c.in-Some.start s c.give_back.new.saves c.requires.saves starts c.give_back.ensures.entries
    c.give_back.ensures.stamps c.give_back.ensures.capacity)

pub returns-in-Some-clause-marked : goal.returns-in-Some-clause-marked
returns-in-Some-clause-marked c =
    let starts = c.in-Some.ensures.items ∙ ap (λ (xs : List ℕ). xs ++ c.in-Some.start ∷ []) (sym c.give_back.ensures.starts) in
    marked_less c.in-Some.start c.args.saves.now c.give_back.new.saves starts c.give_back.ensures.entries c.args.words.now.items
    c.give_back.new.words.items c.give_back.ensures.words
