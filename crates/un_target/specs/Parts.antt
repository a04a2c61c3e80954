-- The parts of the text of a table.
use Rattle.std.specs.Prelude.{ℕ, ◌≡◌, ◌⊎◌, Bool, List, Some, IsSome, IfSome, IsSomeAnd, codes}
use Rattle.un_isa.specs.declared.op.Op.{Op}
use Rattle.serde_json.specs.Data.{Data, boolean, array, object, Items, Members}
use Rattle.serde_json.specs.Events.{items_len}
use Rattle.serde_json.specs.Find.{get_member, as_array}
use Rattle.un_target.specs.Names.{name_of, IsNamed}

-- what stands under the four keys
pub record Parts : Type 0 where
  pub latency : Members
  pub uses : Members
  pub saved : Items
  pub fresh : Bool

-- the four keys
abbrev pub IsKey : List ℕ → Type 0
IsKey key = (key ≡ codes "latency") ⊎ (key ≡ codes "uses") ⊎ (key ≡ codes "saved") ⊎ (key ≡ codes "fresh")

-- each key is the name of an operation
abbrev pub AreNamed : Members → Type 0
AreNamed entries = (key : List ℕ) → IsSome (get_member key entries) → IsNamed key

-- a list of four
abbrev pub IsFour : Data → Type 0
IsFour d = IsSomeAnd (as_array d) (λ items. items_len items ≡ 4)

-- no key is another than the four; the keys of latency and uses are names of operations, and an entry of uses is a list of four
pub record AreRight (entries latency uses : Members) : Type 0 where
  pub no_others : (key : List ℕ) → IsSome (get_member key entries) → IsKey key
  pub latencies : AreNamed latency
  pub needs : AreNamed uses
  pub fours : (op : Op) → IfSome (get_member (name_of op) uses) IsFour

-- the value is an object that has under each of the four keys a value of its kind
pub record HasParts (d : Data) (p : Parts) : Type 0 where
  pub entries : Members
  pub is : d ≡ object entries
  pub latency : get_member (codes "latency") entries ≡ Some (object p.latency)
  pub uses : get_member (codes "uses") entries ≡ Some (object p.uses)
  pub saved : get_member (codes "saved") entries ≡ Some (array p.saved)
  pub fresh : get_member (codes "fresh") entries ≡ Some (boolean p.fresh)
  pub right : AreRight entries p.latency p.uses
