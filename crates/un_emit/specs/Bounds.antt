-- What emission rests on: where temporaries stand, and how large the frame is.
use Rattle.std.specs.Prelude.{ℕ, ◌≡◌, ◌+◌, ◌<◌, ◌≤◌, List}
use Rattle.un_base.specs.declared.ids.TempId.{TempId}
use Rattle.un_isa.specs.declared.reg.TheConstants.{FIRST_SLOT, SLOTS, FRAME}
use Rattle.un_isa.specs.declared.reg.Reg.{Reg}
use Rattle.un_model.specs.declared.model.Model.{Model}
use Rattle.un_model.specs.Emission.{temp_register, frame_of}

-- a register, or one of the slots that a frame may have
abbrev pub IsPlace : Reg → Type 0
IsPlace r = r.0 < FIRST_SLOT + SLOTS

-- each temporary has one
abbrev pub HavePlaces : Model → List ℕ → Type 0
HavePlaces m values = (x : TempId) → IsPlace (temp_register m values x)

-- the frame of these values has so many bytes, no more than code may have, and each temporary has its place
pub record FitFrame (m : Model) (values : List ℕ) (frame : ℕ) : Type 0 where
  pub is : frame ≡ frame_of m values
  pub small : frame ≤ FRAME
  pub places : HavePlaces m values
