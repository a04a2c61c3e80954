-- Blocks whose operations are items of packets: where the items have room, so have the operations.
use Rattle.std.proofs.Common.{ℕ, ◌≡◌, ◌≤◌, ◌∙◌, Bool, true, false, ◌&&◌, if◌then◌else◌, cond, List, [], ◌∷◌, filter, map, nat_eq, get_or}
use Rattle.std.proofs.Common.{refl, ap, arith}
use Rattle.std.specs.List.{AllByRecursion}
use Rattle.std.proofs.lemmas.List.Sums.{sum_by-cons}
use Rattle.un_isa.specs.declared.packet_counts.Resource.{Resource}
use Rattle.un_isa.specs.PacketCounts.{share_of}
use Rattle.un_prop.specs.Acts.{act_number, is_active}
use Rattle.un_slots.specs.declared.item.Item.{Item}
use Rattle.un_slots.specs.Slots as slots
use Rattle.un_slots.specs.Slots.{share_at}
use Rattle.un_length.specs.declared.block.Task.{Task}
use Rattle.un_length.specs.Blocks.{cycle_of, taken_by, taken}

-- the item is active, issues in the operation's cycle and takes from it what the operation takes at least
pub record TakesAs (x : List ℕ) (i : Item) (t : Task) : Type 0 where
  pub active : is_active i.on x ≡ true
  pub cycle : get_or x i.at.0 0 ≡ cycle_of x t
  pub share : (r : Resource) → share_of r t.needs ≤ share_at r i.uses (act_number i.on x)

one_taken : (r : Resource) (c : ℕ) (x : List ℕ) (i : Item) (t : Task) → TakesAs x i t → taken_by r c x t ≤ slots.taken_by r c x i
one_taken r c x i t like = by (nat_eq (cycle_of x t) c) refl
  where
    by : (b : Bool) → nat_eq (cycle_of x t) c ≡ b → (if b then share_of r t.needs else 0) ≤ slots.taken_by r c x i
    by false e = omega arith
    by true e =
        let here : (is_active i.on x && nat_eq (get_or x i.at.0 0) c) ≡ true =
        ap (λ (b : Bool). b && nat_eq (get_or x i.at.0 0) c) like.active ∙ (ap (λ (n : ℕ). nat_eq n c) like.cycle ∙ e) in
        let all = ap (λ (b : Bool). if b then share_at r i.uses (act_number i.on x) else 0) here in
        let le = like.share r in
        omega (arith, all, le)

-- operations are the items of some of the things that have one
pub taken_of_items : {P : Type 0} (item : P → Item) (task : P → Task) (keep : P → Bool) (x : List ℕ) (ps : List P)
    → AllByRecursion (λ p. keep p ≡ true → TakesAs x (item p) (task p)) ps → (r : Resource) (c : ℕ)
    → taken r (map task (filter keep ps)) x c ≤ slots.taken r (map item ps) x c
taken_of_items item task keep x [] all r c = omega arith
taken_of_items item task keep x (p ∷ ps) all r c = by (keep p) refl (taken_of_items item task keep x ps all.1 r c)
  where
    by : (b : Bool) → keep p ≡ b → taken r (map task (filter keep ps)) x c ≤ slots.taken r (map item ps) x c
        → taken r (map task (cond b (p ∷ filter keep ps) (filter keep ps))) x c ≤ slots.taken r (map item (p ∷ ps)) x c
    by true e rest = (
        let one = one_taken r c x (item p) (task p) (all.0 e) in
        let ours = sum_by-cons (taken_by r c x) (task p) (map task (filter keep ps)) in
        let theirs = sum_by-cons (slots.taken_by r c x) (item p) (map item ps) in
        omega (arith, one, ours, theirs, rest))
    by false e rest = (
        let theirs = sum_by-cons (slots.taken_by r c x) (item p) (map item ps) in
        omega (arith, theirs, rest))
