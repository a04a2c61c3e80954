-- What a propagator that asks for something leaves, by the list of its variables.
use Rattle.std.specs.Prelude.{List, Some, option_and_then}
use Rattle.std.specs.declared.option.Option.{Option}
use Rattle.un_base.specs.declared.ids.VarId.{VarId}
use Rattle.un_domains.specs.Sets.{Sets}
use Rattle.un_prop.specs.Last.{last_cut}
use Rattle.un_prop.specs.Places.{places_in}
use Rattle.un_prop.specs.declared.act.Act.TheVariants.{Always}
use Rattle.un_prec.specs.Before.{before_holds, before_steps}
use Rattle.un_prec.specs.Below.{below_holds, below_steps}
use Rattle.un_prec.specs.Inside.{inside_holds, inside_steps}
use Rattle.un_prec.specs.Last.{last_holds, last_steps}
use Rattle.un_prec.specs.Reads.{reads_holds, reads_steps}
use Rattle.un_alt.specs.Chosen.{chosen_holds, chosen_steps}
use Rattle.un_alt.specs.Filters.{choice_cut}
use Rattle.un_alt.specs.Frame.{frame_holds}
use Rattle.un_alt.specs.FrameCuts.{frame_steps}
use Rattle.un_alt.specs.Home.{home_can, home_holds}
use Rattle.un_alt.specs.Same.{same_can, same_holds}
use Rattle.un_alt.specs.Spaces.{spaces_can, spaces_holds}
use Rattle.un_alt.specs.Zeros.{zeros_holds, zeros_steps}
use Rattle.un_rect.specs.Apart.{apart_cut}
use Rattle.un_rect.specs.Clobber.{clobber_cut}
use Rattle.un_rect.specs.Operands.{operands_holds, operands_steps}
use Rattle.un_slots.specs.Crowds.{per_cycle_steps}
use Rattle.un_slots.specs.Slots.{per_cycle_holds}
use Rattle.un_length.specs.Blocks.{block_holds}
use Rattle.un_length.specs.Lengths.{length_cut}
use Rattle.un_press.specs.Pressures.{live_holds, across_holds}
use Rattle.un_counted.specs.Counted.{counted_holds, counted_cut}
use Rattle.un_kinds.specs.Constraints.{Constraint, Before, Reads, Inside, Last, Below, Chosen, Zeros, Spaces, Same, Home, Frame}
use Rattle.un_kinds.specs.Constraints.{Apart, Clobber, Operands, PerCycle, Length, Live, Across, Counted}

-- the sets that it leaves, or none where it fails
abbrev pub cut_with : Constraint → List VarId → Sets → Option Sets
cut_with (Before a a_on b b_on gap) vs s =
    option_and_then (last_cut vs (before_holds a a_on b b_on gap)) (before_steps vs a a_on b b_on gap s)
cut_with (Reads user on choice alts) vs s =
    option_and_then (last_cut vs (reads_holds user on choice alts)) (reads_steps user on choice alts s)
cut_with (Inside at on end) vs s = option_and_then (last_cut vs (inside_holds at on end)) (inside_steps vs at on end s)
cut_with (Last at end) vs s = option_and_then (last_cut vs (last_holds at end)) (last_steps vs at end s)
cut_with (Below ends limit) vs s = option_and_then (last_cut vs (below_holds ends limit)) (below_steps vs ends limit s)
cut_with (Chosen user choice alts) vs s = option_and_then (last_cut vs (chosen_holds user choice alts)) (chosen_steps user choice alts s)
cut_with (Zeros instr others) vs s = option_and_then (last_cut vs (zeros_holds instr others)) (zeros_steps instr others s)
cut_with (Spaces on choice regs sets) vs s =
    option_and_then (last_cut vs (spaces_holds on choice regs sets)) (choice_cut on choice (spaces_can on regs sets) (places_in regs) s)
cut_with (Same choice regs to) vs s =
    option_and_then (last_cut vs (same_holds choice regs to)) (choice_cut Always (Some choice) (same_can regs to) (places_in regs) s)
cut_with (Home choice regs home) vs s =
    option_and_then (last_cut vs (home_holds choice regs home)) (choice_cut Always choice (home_can regs home) (places_in regs) s)
cut_with (Frame whole flag touch ins enter entry leaves) vs s =
    option_and_then (last_cut vs (frame_holds whole flag touch ins enter entry leaves)) (frame_steps flag touch ins enter entry leaves s)
cut_with (Apart temps) vs s = apart_cut vs temps s
cut_with (Clobber mask temp calls) vs s = clobber_cut vs mask temp calls s
cut_with (Operands a b) vs s = option_and_then (last_cut vs (operands_holds a b)) (operands_steps a b s)
cut_with (PerCycle items horizon) vs s = option_and_then (last_cut vs (per_cycle_holds items horizon)) (per_cycle_steps vs items horizon s)
cut_with (Length ops arcs end horizon) vs s = option_and_then (last_cut vs (block_holds ops arcs end)) (length_cut vs ops arcs end horizon s)
cut_with (Live values room horizon) vs s = last_cut vs (live_holds values room horizon) s
cut_with (Across call sure room) vs s = last_cut vs (across_holds sure room) s
cut_with (Counted rows limit) vs s = option_and_then (last_cut vs (counted_holds rows limit)) (counted_cut vs rows limit s)
