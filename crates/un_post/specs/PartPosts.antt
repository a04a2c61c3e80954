-- What posting a block gives: exactly the assignments of its part that cost less than the limit, and a failure of rounds where there is
-- no relaxed one.
use Rattle.std.specs.Prelude.{ℕ, ◌≡◌, ◌<◌, ◌-◌, ◌*◌, ◌↔◌, List, Option, Some, None, IfSome, length, slice_get, sum_by}
use Rattle.std.specs.List.{range_with_len}
use Rattle.un_domains.specs.Order.{Below}
use Rattle.un_domains.specs.Sets.{Sets, IsIn, NoneEmpty}
use Rattle.un_ir.specs.declared.extended.ExtBlock.{ExtBlock}
use Rattle.un_model.specs.declared.model.Arc.{Arc}
use Rattle.un_model.specs.declared.model.BlockVars.{BlockVars}
use Rattle.un_model.specs.declared.model.Model.{Model}
use Rattle.un_model.specs.declared.model.Solution.{Solution}
use Rattle.un_model.specs.Arcs.{first_number}
use Rattle.un_model.specs.Cost.{cost_of}
use Rattle.un_prop.specs.Rounds.{fix_of}
use Rattle.un_bound.specs.Relaxations.{Times, IsRelaxed}
use Rattle.un_kinds.specs.AnyProps.{cut_of}
use Rattle.un_kinds.specs.Fixing.{fix_by}
use Rattle.un_kinds.specs.declared.any.AnyProp.{AnyProp}
use Rattle.un_sites.specs.Rooms.{arcs_or}
use Rattle.un_post.specs.PartPostings.{part_postings}
use Rattle.un_post.specs.Parts.{IsPartOf, part_cost}
use Rattle.un_post.specs.Posts.{AllHold}

-- the values are of the part of block k, and cost less there than the limit
abbrev pub IsPartBelow : Model → ℕ → Option ℕ → List ℕ → Type 0
IsPartBelow m k limit values = IsPartOf m k values × IfSome limit (λ (n : ℕ). part_cost m k values < n)

-- such assignments are exactly those of the store for which each propagator holds
unfoldable pub IsPartExact : Model → ℕ → Option ℕ → Sets → List AnyProp → Type 0
IsPartExact m k limit s ps = (x : List ℕ) → IsPartBelow m k limit x ↔ (IsIn x s × AllHold ps x)

-- a timing of a block in these sets: a cycle of its set for each operation that every solution issues, and an end, with the block's
-- precedences and places alone
abbrev pub IsRelaxedIn : Sets → ℕ → Option ExtBlock → Option BlockVars → List Arc → Times → Type 0
IsRelaxedIn s n (Some block) (Some vars) arcs times = IsRelaxed s n vars.end block.ops vars.ops arcs times
IsRelaxedIn s n block vars arcs times = ⊥

-- frequency times the cycles before the end
abbrev pub part_times_cost : Option ExtBlock → Times → ℕ
part_times_cost None times = 0
part_times_cost (Some block) times = block.freq * (times.end - 1)

-- a member of the relaxation of block k, which costs less than the limit
abbrev pub IsPartMember : Option ℕ → Model → ℕ → Sets → Times → Type 0
IsPartMember limit m k s times =
    IsRelaxedIn s (first_number m.ext.blocks k) (slice_get m.ext.blocks k) (slice_get m.blocks k) (arcs_or (slice_get m.arcs k)) times
    × IfSome limit (λ (n : ℕ). part_times_cost (slice_get m.ext.blocks k) times < n)

-- on each store within the first one, rounds fail where the block's relaxation under the limit has no member
unfoldable pub FailsWherePartEmpty : Model → ℕ → Option ℕ → Sets → List AnyProp → Type 0
FailsWherePartEmpty m k limit first ps = (s : Sets) → Below s first → NoneEmpty s → ((times : Times) → IsPartMember limit m k s times → ⊥)
    → fix_of cut_of ps s ≡ None

-- what the rounds of all that is posted for a block leave of a box: it follows from the model, the block and the limit alone
abbrev pub fix_part : Model → ℕ → Option ℕ → Sets → Option Sets
fix_part m k limit box = fix_by (part_postings m k limit) box

-- a solution is of the part of each block, and costs the sum of what it costs there
pub record IsInParts (m : Model) (s : Solution) : Type 0 where
  pub parts : (k : ℕ) → k < length m.ext.blocks → IsPartOf m k s.values
  pub cost : cost_of m s ≡ sum_by (λ (k : ℕ). part_cost m k s.values) (range_with_len 0 (length m.ext.blocks))
