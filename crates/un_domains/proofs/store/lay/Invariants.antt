-- the variables so far, and what is left
use Rattle.std.proofs.Common.{◌≡◌, ◌+◌, ◌<◌, ◌^◌, ◌++◌, [], length, map, All}
use Rattle.std.specs.Vec.Iter.{into_iter_items}
use Rattle.un_domains.specs.Domains.{IsDomain, values_of}
use Rattle.un_domains.specs.Shapes.{IsStore, sets_of}
use Rattle.un_domains.proofs.store.lay.Given as goal

abbrev pub invariant-loop-domain : goal.invariant-loop-domain
invariant-loop-domain l = record {
  store : IsStore l.shapes.items l.words.items [];
  few : length l.shapes.items + length (into_iter_items l.domain-iterator) < 2 ^ 32;
  each : All IsDomain (into_iter_items l.domain-iterator);
  sets : sets_of l.shapes.items l.words.items ++ map values_of (into_iter_items l.domain-iterator) ≡ map values_of l.fn.domains.items;
}
