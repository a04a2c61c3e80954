use Rattle.std.proofs.Common.{ℕ, List, [], ◌∷◌, ◌++◌, ◌≡◌, ◌<◌, ◌≤◌, ◌∙◌, ap, sym, subst, arith, take, drop, length, All}
use Rattle.std.proofs.lemmas.List.{length-set, drop_all, take_all, drop-append-le, take-append-le, length_push}
use Rattle.un_domains.specs.declared.levels.Saved.{Saved}
use Rattle.un_domains.specs.Levels.{unwind, unstamp}
use Rattle.un_domains.specs.LevelLaws.{unwind_one, unstamp_one, there_popped}
use Rattle.un_domains.proofs.levels.give_back.Goals as goal

pub loop-saves-preserved : goal.loop-saves-preserved
loop-saves-preserved c =
    let start = c.args.start in
    let old = c.loop-saves.saves.entries.items in
    let left = c.pop.new.self.items in
    let e = c.in-Some.entry in
    let ws = c.loop-saves.words.items in
    let st = c.loop-saves.saves.stamps.items in
    let inv = c.loop-saves.invariant in
    let items : old ≡ left ++ e ∷ [] = c.in-Some.ensures.items in
    let le : start ≤ length left = omega (arith, c.loop-saves-test.true, c.len.ensures, ap length items, length_push left e) in
    let cut : drop start old ≡ drop start left ++ e ∷ [] = ap (drop start) items ∙ drop-append-le start left (e ∷ []) le in
    record {
      there = le;
      within = subst (λ (n : ℕ). All (λ (x : Saved). x.at < n) (drop start left)) (sym (length-set ws e.at e.old))
          (there_popped (length ws) (drop start old) (drop start left) e cut inv.within);
      flags = length-set st e.at e.stamp ∙ (inv.flags ∙ sym (length-set ws e.at e.old));
      words = sym (unwind_one (drop start left) e ws) ∙ (ap (λ (es : List Saved). unwind es ws) (sym cut) ∙ inv.words);
      stamps = sym (unstamp_one (drop start left) e st) ∙ (ap (λ (es : List Saved). unstamp es st) (sym cut) ∙ inv.stamps);
      entries = sym (take-append-le start left (e ∷ []) le) ∙ (ap (take start) (sym items) ∙ inv.entries);
      starts = inv.starts;
      capacity = omega (arith, inv.capacity, c.in-Some.ensures.capacity);
    }

pub returns-clause-words : goal.returns-clause-words
returns-clause-words c =
    let es = c.loop-saves.saves.entries.items in
    let none = drop_all c.args.start es (omega (arith, c.loop-saves-test.false, c.len.ensures)) in
    sym (ap (λ (xs : List Saved). unwind xs c.loop-saves.words.items) none) ∙ c.loop-saves.invariant.words

pub returns-clause-stamps : goal.returns-clause-stamps
returns-clause-stamps c =
    let es = c.loop-saves.saves.entries.items in
    let none = drop_all c.args.start es (omega (arith, c.loop-saves-test.false, c.len.ensures)) in
    sym (ap (λ (xs : List Saved). unstamp xs c.loop-saves.saves.stamps.items) none) ∙ c.loop-saves.invariant.stamps

pub returns-clause-entries : goal.returns-clause-entries
returns-clause-entries c =
    let es = c.loop-saves.saves.entries.items in
    sym (take_all c.args.start es (omega (arith, c.loop-saves-test.false, c.len.ensures))) ∙ c.loop-saves.invariant.entries
