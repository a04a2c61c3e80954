use Rattle.std.proofs.Common.{ℕ, ◌≡◌, ◌<◌, subst, All, length, ap, arith}
use Rattle.std.proofs.lemmas.List.{length-map}
use Rattle.un_domains.specs.Sets.{Sets, NoneEmpty, set_at, least, greatest}
use Rattle.un_domains.specs.Cuts.{Contents}
use Rattle.un_domains.specs.Shapes.{set_of, sets_of}
use Rattle.un_domains.specs.ShapeLaws.{full_map, long_map, spread_all}
use Rattle.un_domains.proofs.store.Store.facts.Goals as goal

pub returns-clause-full : goal.returns-clause-full
returns-clause-full c =
    let a = c.self.inside in
    subst (All NoneEmpty) (ap (λ (s : Contents). s.marked) c.self.view_is) (full_map a.shapes.items a.words.marked c.self.invariant.store.full)

pub returns-clause-marks : goal.returns-clause-marks
returns-clause-marks c =
    let a = c.self.inside in
    omega (
      arith,
      ap (λ (s : Contents). length s.marked) c.self.view_is,
      length-map a.words.marked (sets_of a.shapes.items),
      c.self.invariant.store.deep,
    )

pub returns-clause-long : goal.returns-clause-long
returns-clause-long c =
    let a = c.self.inside in
    subst (λ (s : Contents). All (λ (m : Sets). length m ≡ length s.sets) s.marked) c.self.view_is
    (long_map a.shapes.items _ a.words.marked (length-map a.shapes.items (set_of a.words.words)))

pub returns-clause-spread : goal.returns-clause-spread
returns-clause-spread c =
    let a = c.self.inside in
    subst (λ (s : Contents). (v : ℕ) → 1 < length (set_at s.sets v) → least (set_at s.sets v) < greatest (set_at s.sets v)) c.self.view_is
    (spread_all a.shapes.items a.words.words a.words.marked c.self.invariant.store)
