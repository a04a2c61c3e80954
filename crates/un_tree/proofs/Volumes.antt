-- A tree whose branches have both sides has at most as many leaves outside of parts as its box has assignments.
use Rattle.std.proofs.Common.{ℕ, zero, suc, ◌≡◌, ◌≤◌, ◌+◌, List, [], ◌∷◌, ◌++◌, refl, arith}
use Rattle.std.specs.List.{AllByRecursion}
use Rattle.un_domains.specs.Sets.{Sets, NoneEmpty}
use Rattle.un_domains.specs.declared.side.Side.TheVariants.{AtMost, Above}
use Rattle.un_tree.specs.Boxes.{half, volume}
use Rattle.un_tree.proofs.BoxLaws.{half_full, volume_halves, volume_some}
use Rattle.un_tree.specs.Waits.{Waiting, Whole, Begins, Inside, begins, visits, HasSides, leaves}
use Rattle.un_tree.specs.declared.node.Node.{Node}
use Rattle.un_tree.specs.declared.node.Node.TheVariants.{Branch, Closed, Open, Split, Part}

-- the assignments of the boxes that wait outside of parts
abbrev pub room : List Waiting → ℕ
room [] = 0
room (Whole b ∷ ws) = volume b + room ws
room (Begins k b ∷ ws) = room ws
room (Inside k number b ∷ ws) = room ws

abbrev pub AllFull : List Waiting → Type 0
AllFull [] = Unit {0}
AllFull (Whole b ∷ ws) = NoneEmpty b × AllFull ws
AllFull (Begins k b ∷ ws) = AllFull ws
AllFull (Inside k number b ∷ ws) = AllFull ws

begins_room : (k n : ℕ) (b : Sets) (ws : List Waiting) → room (begins k n b ++ ws) ≡ room ws
begins_room k zero b ws = refl
begins_room k (suc n) b ws = begins_room (k + 1) n b ws

begins_full : (k n : ℕ) (b : Sets) (ws : List Waiting) → AllFull ws → AllFull (begins k n b ++ ws)
begins_full k zero b ws h = h
begins_full k (suc n) b ws h = begins_full (k + 1) n b ws h

module _ (n : ℕ) where
  pub leaves_room : (ns : List Node) (ws : List Waiting) (i : ℕ) → AllByRecursion HasSides (visits n i ns ws) → AllFull ws
      → leaves (visits n i ns ws) ≤ room ws
  leaves_room [] ws i sides full = omega arith
  leaves_room (m ∷ ns) [] i sides full = omega arith
  leaves_room (Branch v x ∷ ns) (Whole b ∷ ws) i sides full =
      let h = leaves_room ns (Whole (half b v x AtMost) ∷ Whole (half b v x Above) ∷ ws) (i + 1) sides.1
      (half_full b v x AtMost full.0 sides.0, (half_full b v x Above full.0 sides.0, full.1)) in
      omega (arith, h, volume_halves b v x sides.0.0)
  leaves_room (Closed ∷ ns) (Whole b ∷ ws) i sides full =
      let h = leaves_room ns ws (i + 1) sides.1 full.1 in omega (arith, h, volume_some b full.0)
  leaves_room (Open ∷ ns) (Whole b ∷ ws) i sides full =
      let h = leaves_room ns ws (i + 1) sides.1 full.1 in omega (arith, h, volume_some b full.0)
  leaves_room (Split ∷ ns) (Whole b ∷ ws) i sides full =
      let h = leaves_room ns (begins 0 n b ++ ws) (i + 1) sides.1 (begins_full 0 n b ws full.1) in
      omega (arith, h, begins_room 0 n b ws, volume_some b full.0)
  leaves_room (Part number ∷ ns) (Whole b ∷ ws) i sides full =
      let h = leaves_room ns ws (i + 1) sides.1 full.1 in omega (arith, h)
  leaves_room (Branch v x ∷ ns) (Begins k b ∷ ws) i sides full =
      let h = leaves_room ns ws (i + 1) sides.1 full in omega (arith, h)
  leaves_room (Closed ∷ ns) (Begins k b ∷ ws) i sides full =
      let h = leaves_room ns ws (i + 1) sides.1 full in omega (arith, h)
  leaves_room (Open ∷ ns) (Begins k b ∷ ws) i sides full =
      let h = leaves_room ns ws (i + 1) sides.1 full in omega (arith, h)
  leaves_room (Split ∷ ns) (Begins k b ∷ ws) i sides full =
      let h = leaves_room ns ws (i + 1) sides.1 full in omega (arith, h)
  leaves_room (Part number ∷ ns) (Begins k b ∷ ws) i sides full =
      let h = leaves_room ns (Inside k number b ∷ ws) (i + 1) sides.1 full in omega (arith, h)
  leaves_room (Branch v x ∷ ns) (Inside k number b ∷ ws) i sides full =
      let h = leaves_room ns (Inside k number (half b v x AtMost) ∷ Inside k number (half b v x Above) ∷ ws) (i + 1) sides.1 full in
      omega (arith, h)
  leaves_room (Closed ∷ ns) (Inside k number b ∷ ws) i sides full =
      let h = leaves_room ns ws (i + 1) sides.1 full in omega (arith, h)
  leaves_room (Open ∷ ns) (Inside k number b ∷ ws) i sides full =
      let h = leaves_room ns ws (i + 1) sides.1 full in omega (arith, h)
  leaves_room (Split ∷ ns) (Inside k number b ∷ ws) i sides full =
      let h = leaves_room ns ws (i + 1) sides.1 full in omega (arith, h)
  leaves_room (Part other ∷ ns) (Inside k number b ∷ ws) i sides full =
      let h = leaves_room ns ws (i + 1) sides.1 full in omega (arith, h)
