-- In each cycle the values that are there and are read later have different registers.
use Rattle.std.proofs.Common.{ℕ, ◌≡◌, ◌≤◌, true, List, [], ◌∷◌, length, map, refl, sym, ap, ◌∙◌, subst, arith}
use Rattle.un_base.specs.declared.ids.TempId.{TempId}
use Rattle.un_ir.specs.declared.extended.Ext.{Ext}
use Rattle.un_model.specs.declared.model.Options.{Options}
use Rattle.un_lists.proofs.Lists.{Each, Member, each_of, each_map, pairwise_more, pairwise_map, pairwise_of_map}
use Rattle.un_model.proofs.Placed.{Spot}
use Rattle.un_model.proofs.PlacedSchedules.{spots}
use Rattle.un_model.proofs.Readings.{Solved}
use Rattle.un_press.proofs.Counting.{Differ, pigeons, length_mapped}
use Rattle.un_press.proofs.Crossings.{reg_of, is_active, held_spot, held_member, held_active, held_block, held_differ}
use Rattle.un_press.proofs.Descent.{cycle_at, Reader, Held, held}

module _ (e : Ext) (o : Options) (values : List ℕ) (h : Solved e o values) (b t : ℕ) where
  -- value v is defined by cycle t, and an operation of block b reads it after that
  pub record Living (v : TempId) : Type 0 where
    pub own : Spot
    pub member : Member own (spots e o values)
    pub is : own.temp ≡ v
    pub early : cycle_at e o values h own.definer ≤ t
    pub reader : Reader e o values h v t
    pub block : reader.user.block ≡ b

  record Lasting : Type 0 where
    value : TempId
    living : Living value
    held : Held e o values h value t living.reader

  abbrev lasting : (v : TempId) → Living v → Lasting
  lasting v l = record { value = v; living = l; held = held e o values h v t l.own l.member l.is l.early l.reader }

  abbrev all_lasting : (vs : List TempId) → Each Living vs → List Lasting
  all_lasting [] each = []
  all_lasting (v ∷ vs) each = lasting v each.0 ∷ all_lasting vs each.1

  lasting_values : (vs : List TempId) (each : Each Living vs) → map (λ k. k.value) (all_lasting vs each) ≡ vs
  lasting_values [] each = refl
  lasting_values (v ∷ vs) each = ap (λ us. v ∷ us) (lasting_values vs each.1)

  abbrev spot_of : Lasting → Spot
  spot_of k = let l = k.living in held_spot e o values h k.value t l.reader k.held

  abbrev register : Lasting → ℕ
  register k = reg_of e o values h (spot_of k)

  -- the registers in which what is active in block b may be are among these
  abbrev pub HasAll : List ℕ → Type 0
  HasAll room = (s : Spot) → Member s (spots e o values) → s.definer.block ≡ b → is_active e o values h s ≡ true
      → Member (reg_of e o values h s) room

  -- no more values are there than there is room for
  pub living_fit : (room : List ℕ) → HasAll room → (vs : List TempId) → Each Living vs → Differ vs → length vs ≤ length room
  living_fit room has vs each differ =
      let ks = all_lasting vs each in
      let apart = pairwise_of_map (λ x y. x ≡ y → ⊥) (λ (k : Lasting). k.value) ks
      (subst (λ us. Differ us) (sym (lasting_values vs each)) differ) in
      let others : Differ (map register ks) = pairwise_map (λ x y. x ≡ y → ⊥) register ks
      (pairwise_more (λ k l. k.value ≡ l.value → ⊥) (λ k l. register k ≡ register l → ⊥) ks (λ k l mk ml ne. differs k l ne) apart) in
      let there = each_map (λ x. Member x room) register ks (each_of (λ k. Member (register k) room) ks (λ k m. in_room k)) in
      let le = pigeons (map register ks) room others there in
      let long = length_mapped register ks in
      let a = ap length (lasting_values vs each) in
      let c = length_mapped (λ (k : Lasting). k.value) ks in
      omega (arith, le, long, a, c)
    where
      differs : (k l : Lasting) → (k.value ≡ l.value → ⊥) → register k ≡ register l → ⊥
      differs k l ne =
          let x = k.living in
          let y = l.living in
          held_differ e o values h k.value l.value t x.reader y.reader k.held l.held (x.block ∙ sym y.block) ne

      in_room : (k : Lasting) → Member (register k) room
      in_room k =
          let x = k.living in
          has (spot_of k) (held_member e o values h k.value t x.reader k.held)
          (held_block e o values h k.value t x.reader k.held ∙ x.block) (held_active e o values h k.value t x.reader k.held)
