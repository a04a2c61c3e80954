use Rattle.std.proofs.Common.{◌≡◌, drop, map}
use Rattle.std.specs.Prelude.{fold, max}
use Rattle.un_model.specs.Variables.{own_horizon}
use Rattle.un_post.specs.Posts.{largest_horizon}
use Rattle.un_post.proofs.post_store.largest_horizon.Given as goal

abbrev pub invariant-loop-block : goal.invariant-loop-block
invariant-loop-block l = fold max l.largest (map own_horizon (drop l.block-index l.blocks)) ≡ largest_horizon l.blocks
