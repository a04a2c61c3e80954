use Rattle.std.proofs.Common.{◌<◌, ◌^◌, ◌∙◌, List, length, All, sym, subst}
use Rattle.un_ir.specs.declared.function.Block.{Block}
use Rattle.un_lssa.specs.Making.{past_blocks}
use Rattle.un_lssa.proofs.FunctionSizes.{ops_few, few_temps, few_blocks, few_function_names}
use Rattle.un_lssa.proofs.linearize.blocks_of.Goals as goal

pub linear_blocks-requires : goal.linear_blocks-requires
linear_blocks-requires c =
    let f = c.args.f.now in
    let lists = c.args.live.now.at_start in
    let same = sym c.as_slice.ensures in
    record {
      kept = c.deref.ensures.value ∙ c.in_ok-registers.ensures.registers;
      names = rw c.len.ensures (few_function_names f);
      blocks = subst (λ (bs : List Block). length bs < 2 ^ 32) same (few_blocks f);
      few = subst (λ (bs : List Block). All (λ (block : Block). length block.ops < 2 ^ 30) bs) same (ops_few f);
      fit = subst (λ (bs : List Block). past_blocks c.args.t.now lists 0 0 bs < 2 ^ 32) same (few_temps f lists c.args.t.now c.requires);
    }
