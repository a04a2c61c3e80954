-- A verdict that finds nothing broken is one on a solution.
use Rattle.std.proofs.Common.{◌≡◌, ℕ, Bool, true, false, List, [], ◌∷◌, ◌++◌, map, if◌then◌else◌, refl}
use Rattle.un_model.specs.declared.model.Model.{Model}
use Rattle.un_model.specs.declared.schedule.Schedule.{Schedule}
use Rattle.un_model.specs.declared.verdict.Verdict.{Verdict}
use Rattle.un_domains.specs.declared.domain.Domain.{Domain}
use Rattle.un_model.specs.Solutions.{Gap, Tells, IsSchedule, broken, broken_after, broken_clauses}

both_empty : {A : Type 0} (xs ys : List A) → xs ++ ys ≡ [] → (xs ≡ []) × (ys ≡ [])
both_empty [] ys h = (refl, h)
both_empty (x ∷ xs) ys h = absurd (cc)

kept : (k : ℕ) (b : Bool) → broken k b ≡ [] → b ≡ true
kept k true h = refl
kept k false h = absurd (cc)

if_empty : (b : Bool) (xs : List ℕ) → (if b then xs else 1 ∷ []) ≡ [] → (b ≡ true) × (xs ≡ [])
if_empty true xs h = (refl, h)
if_empty false xs h = absurd (cc)

pub map_empty : {A B : Type 0} (f : A → B) (xs : List A) → map f xs ≡ [] → xs ≡ []
map_empty f [] h = refl
map_empty f (x ∷ xs) h = absurd (cc)

module _ (gap : Gap) (domains : List Domain) (m : Model) (values : List ℕ) (t : Schedule) where
  pub solves : (v : Verdict) → Tells gap domains m values t v → broken_clauses v ≡ [] → IsSchedule gap domains m values t
  solves v h e =
      let d = if_empty v.domains (broken_after v) e in
      let e10 = both_empty (broken 2 v.zeros ++ broken 3 v.choices ++ broken 4 v.spaces ++ broken 5 v.latencies ++ broken 6 v.memory ++
      broken 7 v.registers ++ broken 8 v.packets ++ broken 9 v.homes) (broken 10 v.frame) d.1 in
      let e9 = both_empty (broken 2 v.zeros ++ broken 3 v.choices ++ broken 4 v.spaces ++ broken 5 v.latencies ++ broken 6 v.memory ++
      broken 7 v.registers ++ broken 8 v.packets) (broken 9 v.homes) e10.0 in
      let e8 = both_empty (broken 2 v.zeros ++ broken 3 v.choices ++ broken 4 v.spaces ++ broken 5 v.latencies ++ broken 6 v.memory ++
      broken 7 v.registers) (broken 8 v.packets) e9.0 in
      let e7 = both_empty (broken 2 v.zeros ++ broken 3 v.choices ++ broken 4 v.spaces ++ broken 5 v.latencies ++ broken 6 v.memory)
      (broken 7 v.registers) e8.0 in
      let e6 = both_empty (broken 2 v.zeros ++ broken 3 v.choices ++ broken 4 v.spaces ++ broken 5 v.latencies) (broken 6 v.memory) e7.0 in
      let e5 = both_empty (broken 2 v.zeros ++ broken 3 v.choices ++ broken 4 v.spaces) (broken 5 v.latencies) e6.0 in
      let e4 = both_empty (broken 2 v.zeros ++ broken 3 v.choices) (broken 4 v.spaces) e5.0 in
      let e3 = both_empty (broken 2 v.zeros) (broken 3 v.choices) e4.0 in
      let homes = h.homes.0 (kept 9 v.homes e9.1) in
      record {
        in_domains = h.in_domains.0 d.0;
        zeros = h.zeros.0 (kept 2 v.zeros e3.0);
        choices = h.choices.0 (kept 3 v.choices e3.1);
        spaces = h.spaces.0 (kept 4 v.spaces e4.1);
        latencies = h.latencies.0 (kept 5 v.latencies e5.1);
        memory = h.memory.0 (kept 6 v.memory e6.1);
        registers = h.registers.0 (kept 7 v.registers e7.1);
        packets = h.packets.0 (kept 8 v.packets e8.1);
        homes = homes.0;
        congruences = homes.1;
        frame = h.frame.0 (kept 10 v.frame e10.1);
      }

  pub unbroken : (v : Verdict) → Tells gap domains m values t v → IsSchedule gap domains m values t → broken_clauses v ≡ []
  unbroken v h s =
      let a : v.domains ≡ true = h.in_domains.1 s.in_domains in
      let b : v.zeros ≡ true = h.zeros.1 s.zeros in
      let c : v.choices ≡ true = h.choices.1 s.choices in
      let d : v.spaces ≡ true = h.spaces.1 s.spaces in
      let e : v.latencies ≡ true = h.latencies.1 s.latencies in
      let f : v.memory ≡ true = h.memory.1 s.memory in
      let g : v.registers ≡ true = h.registers.1 s.registers in
      let i : v.packets ≡ true = h.packets.1 s.packets in
      let j : v.homes ≡ true = h.homes.1 (s.homes, s.congruences) in
      let k : v.frame ≡ true = h.frame.1 s.frame in
      rw (a, b, c, d, e, f, g, i, j, k) refl
