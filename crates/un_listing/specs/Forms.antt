-- The forms in which instructions are printed.
use Rattle.std.specs.Prelude.{List, [], ◌∷◌, Option, Some, None}
use Rattle.un_isa.specs.declared.op.Op.{Op}
use Rattle.un_isa.specs.declared.does.Does.{Does}
use Rattle.un_isa.specs.declared.does.Does.TheVariants.{Computes, Compares, Moves, Loads, Stores, Spills, Reloads, Calls, Jumps, Returns}
use Rattle.un_isa.specs.declared.does.Does.TheVariants.{OpensFrame, ClosesFrame, Rests}
use Rattle.un_isa.specs.declared.does.When.TheVariants.{Always, IfTrue, IfFalse, IfNewTrue, IfNewFalse}
use Rattle.un_isa.specs.declared.facts.Range.{Range}
use Rattle.un_isa.specs.declared.reg.Space.{Space}
use Rattle.un_isa.specs.Facts.{does_of, operand_spaces, literal_range}
use Rattle.un_listing.specs.declared.form.Form.{Form}
use Rattle.un_listing.specs.declared.form.Form.TheVariants.{Literal, Copied, Computed, WithLiteral, Loaded, Stored, Reloaded, Spilled}
use Rattle.un_listing.specs.declared.form.Form.TheVariants.{StackMoved, Called, Jumped, JumpedIf, JumpedIfNot, JumpedIfNew, JumpedIfNotNew}
use Rattle.un_listing.specs.declared.form.Form.TheVariants.{Returned, Idle}

-- the form of what computes or compares, by its operands and its literal
abbrev pub computed_form : List Space → Option Range → Form
computed_form spaces None = Computed
computed_form [] (Some range) = Literal
computed_form (space ∷ spaces) (Some range) = WithLiteral

abbrev pub form_by : Does → Form → Form
form_by Computes own = own
form_by Compares own = own
form_by Moves _ = Copied
form_by Loads _ = Loaded
form_by Stores _ = Stored
form_by Reloads _ = Reloaded
form_by Spills _ = Spilled
form_by OpensFrame _ = StackMoved
form_by ClosesFrame _ = StackMoved
form_by Calls _ = Called
form_by (Jumps Always) _ = Jumped
form_by (Jumps IfTrue) _ = JumpedIf
form_by (Jumps IfFalse) _ = JumpedIfNot
form_by (Jumps IfNewTrue) _ = JumpedIfNew
form_by (Jumps IfNewFalse) _ = JumpedIfNotNew
form_by Returns _ = Returned
form_by Rests _ = Idle

-- the form of each operation
abbrev pub form_of : Op → Form
form_of op = form_by (does_of op) (computed_form (operand_spaces op) (literal_range op))
