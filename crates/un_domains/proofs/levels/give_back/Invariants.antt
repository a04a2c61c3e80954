-- what is left to give back comes to the whole
use Rattle.std.proofs.Common.{◌≡◌, ◌<◌, ◌≤◌, take, drop, length, All, vec_len, vec_capacity}
use Rattle.un_domains.specs.Levels.{unwind, unstamp}
use Rattle.un_domains.specs.declared.levels.Saved.{Saved}
use Rattle.un_domains.proofs.levels.give_back.Given as goal

abbrev pub invariant-loop-saves : goal.invariant-loop-saves
invariant-loop-saves l = record {
  there : l.start ≤ length l.saves.entries.items;
  within : All (λ (e : Saved). e.at < length l.words.items) (drop l.start l.saves.entries.items);
  flags : length l.saves.stamps.items ≡ length l.words.items;
  words : unwind (drop l.start l.saves.entries.items) l.words.items
      ≡ unwind (drop l.start l.initial.saves.entries.items) l.initial.words.items;
  stamps : unstamp (drop l.start l.saves.entries.items) l.saves.stamps.items
      ≡ unstamp (drop l.start l.initial.saves.entries.items) l.initial.saves.stamps.items;
  entries : take l.start l.saves.entries.items ≡ take l.start l.initial.saves.entries.items;
  starts : l.saves.starts.items ≡ l.initial.saves.starts.items;
  capacity : vec_capacity l.saves.entries ≡ vec_capacity l.initial.saves.entries;
}

abbrev pub decreases-loop-saves : goal.decreases-loop-saves
decreases-loop-saves l = vec_len l.saves.entries
