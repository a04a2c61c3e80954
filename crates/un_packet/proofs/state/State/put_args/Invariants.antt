-- those so far, and those that are left
use Rattle.std.proofs.Common.{◌≡◌, ◌≤◌, ◌++◌, map, drop, length, vec_len, vec_capacity}
use Rattle.un_packet.specs.Step.{reg_in}
use Rattle.un_packet.proofs.state.State.put_args.Given as goal

abbrev pub invariant-loop-r : goal.invariant-loop-r
invariant-loop-r l = record {
  sofar : l.args.items ++ map (reg_in l.self) (drop l.r-index l.srcs) ≡ map (reg_in l.self) l.srcs;
  len : vec_len l.args ≡ l.r-index;
  room : length l.srcs ≤ vec_capacity l.args;
}
