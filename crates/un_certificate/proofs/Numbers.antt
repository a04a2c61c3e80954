-- The plain bound and the least cost of a relaxation are one number each.
use Rattle.std.proofs.Common.{ℕ, ◌≡◌, ◌+◌, ◌*◌, List, [], ◌∷◌, length, sym, ap, ◌∙◌, arith}
use Rattle.un_ir.specs.declared.extended.ExtOp.{ExtOp}
use Rattle.un_ir.specs.declared.extended.ExtBlock.{ExtBlock}
use Rattle.un_domains.specs.Sets.{Sets}
use Rattle.un_model.specs.declared.model.Arc.{Arc}
use Rattle.un_model.specs.declared.model.Model.{Model}
use Rattle.un_bound.specs.Plain.{IsPacketBound, IsPlainSum, packets_of}
use Rattle.un_bound.specs.Relaxations.{IsLeast}
use Rattle.un_bound.specs.Timings.{IsLeastLength}

length_one : (n : ℕ) (ops : List ExtOp) (arcs : List Arc) (a b : ℕ) → IsLeastLength n ops arcs a → IsLeastLength n ops arcs b → a ≡ b
length_one n ops arcs a b x y =
    let p = x.least y.reached.0 y.reached.1 y.reached.2 in
    let q = y.least x.reached.0 x.reached.1 x.reached.2 in
    omega (arith, p, q, x.reached.3, y.reached.3)

packet_one : (n : ℕ) (block : ExtBlock) (arcs : List Arc) (a b : ℕ) → IsPacketBound n block arcs a → IsPacketBound n block arcs b → a ≡ b
packet_one n block arcs a b x y =
    x.2 ∙ (ap (λ (len : ℕ). packets_of len block.ops) (length_one n block.ops arcs x.0 y.0 x.1 y.1) ∙ sym y.2)

sum_one : (n : ℕ) (blocks : List ExtBlock) (arcs : List (List Arc)) (a b : ℕ) → IsPlainSum n blocks arcs a → IsPlainSum n blocks arcs b
    → a ≡ b
sum_one n [] arcs a b x y = x ∙ sym y
sum_one n (block ∷ blocks) [] a b x y = x ∙ sym y
sum_one n (block ∷ blocks) (here ∷ arcs) a b x y =
    let p = packet_one n block here x.0 y.0 x.2 y.2 in
    let r = sum_one (n + length block.ops) blocks arcs x.1 y.1 x.3 y.3 in
    x.4 ∙ (ap (λ (k : ℕ). block.freq * k + x.1) p ∙ (ap (λ (k : ℕ). block.freq * y.0 + k) r ∙ sym y.4))

-- a model has one plain bound
pub plain_one : (m : Model) (a b : ℕ) → IsPlainSum 0 m.ext.blocks m.arcs a → IsPlainSum 0 m.ext.blocks m.arcs b → a ≡ b
plain_one m a b x y = sum_one 0 m.ext.blocks m.arcs a b x y

-- a box has one least cost
pub least_one : (m : Model) (s : Sets) (a b : ℕ) → IsLeast m s a → IsLeast m s b → a ≡ b
least_one m s a b x y =
    let p = x.least y.reached.0 y.reached.1 in
    let q = y.least x.reached.0 x.reached.1 in
    omega (arith, p, q, x.reached.2, y.reached.2)
