-- What is posted of registers, calls, packets and two operands is met by each solution, and where it is met the clauses on registers
-- and packets hold.
use Rattle.std.proofs.Common.{ℕ, List}
use Rattle.un_ir.specs.declared.extended.Ext.{Ext}
use Rattle.un_model.specs.declared.model.Options.{Options}
use Rattle.un_model.specs.declared.model.Model.{Model}
use Rattle.un_model.specs.Schedules.{schedule_of}
use Rattle.un_model.specs.Solutions.{IsSchedule, KeepsRegisters, KeepsPackets, latency_gap}
use Rattle.un_model.specs.Variables.{model_of}
use Rattle.un_kinds.specs.Constraints.{AllMet}
use Rattle.un_sites.specs.Rooms.{aparts_of, clobbers_of, packets_of, twos_of, rooms_of}
use Rattle.un_post.proofs.CallOrder.{calls_met}
use Rattle.un_post.proofs.Facts.{Given}
use Rattle.un_post.proofs.Meeting.{met_all, all_met}
use Rattle.un_post.proofs.NoSharing.{no_sharing}
use Rattle.un_post.proofs.Packets.{packets}
use Rattle.un_post.proofs.Spared.{met_spared}
use Rattle.un_post.proofs.TwoOperands.{two_operands}
use Rattle.un_post.proofs.Whole.{met_append}

module _ (e : Ext) (o : Options) (x : List ℕ) (given : Given e o x) where
  abbrev m : Model
  m = model_of e o

  pub rooms_met : IsSchedule (latency_gap e.table) (model_of e o).domains (model_of e o) x (schedule_of (model_of e o) x)
      → AllMet (rooms_of m) x
  rooms_met h =
      let registers = h.registers in
      all_met x _ ((met_append x (aparts_of m) _).1 (
        met_all x _ ((no_sharing e o x given).0 registers.0),
        (met_append x (clobbers_of m) _).1 (
          met_all x _ (calls_met e o x given h),
          (met_append x (packets_of m) (twos_of m)).1 (
            met_all x _ ((packets e o x given).0 h.packets),
            met_all x _ (two_operands e o x given h),
          ),
        ),
      ))

  pub rooms_kept : AllMet (rooms_of m) x → (let t = e.table in KeepsRegisters t.clobbered (schedule_of (model_of e o) x))
      × KeepsPackets e.table (schedule_of (model_of e o) x)
  rooms_kept h =
      let a = (met_append x (aparts_of m) _).0 (met_all x _ h) in
      let b = (met_append x (clobbers_of m) _).0 a.1 in
      let c = (met_append x (packets_of m) (twos_of m)).0 b.1 in
      (((no_sharing e o x given).1 (all_met x _ a.0), met_spared e o x given (all_met x _ b.0)), (packets e o x given).1 (all_met x _ c.0))
