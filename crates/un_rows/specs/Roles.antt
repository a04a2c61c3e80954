-- What each block is to the saved values of its function.
use Rattle.std.specs.Prelude.{ℕ, ◌==◌, Bool, true, false, ◌&&◌, if◌then◌else◌}
use Rattle.un_ir.specs.declared.extended.ExtBlock.{ExtBlock}
use Rattle.un_ir.specs.declared.function.Term.{Term}
use Rattle.un_ir.specs.declared.function.Term.TheVariants.{Ret}
use Rattle.un_model.specs.Congruences.{term_of}
use Rattle.un_saved.specs.Joined.{is_at}
use Rattle.un_saved.specs.Reads.{reads_saved}
use Rattle.un_saved.specs.Saved.{hands_own, keeps_places}
use Rattle.un_saved.specs.declared.boundary.Boundary.TheVariants.{StartOf}
use Rattle.un_saved.specs.declared.boundary.Marks.{Marks}
use Rattle.un_rows.specs.declared.role.Role.{Role}
use Rattle.un_rows.specs.declared.role.Role.TheVariants.{Entry, Middle, Return, Other}

-- a block hands values over to another
abbrev pub hands_on : Term → Bool
hands_on (Ret value) = false
hands_on term = true

abbrev pub entry_role : ExtBlock → Role
entry_role b = if hands_on (term_of b.ops) && hands_own b then Entry else Other

-- that of a block which takes the saved values where the entry leaves them
abbrev pub joined_role : ExtBlock → Role
joined_role b = if hands_on (term_of b.ops) && keeps_places b then Middle else (if reads_saved b then Return else Other)

-- that of block k, which is this one
abbrev pub role_of : Marks → ℕ → ExtBlock → Role
role_of marks k b = if k == 0 then entry_role b else (if is_at marks (StartOf k) then joined_role b else Other)
