-- What an operation of an extended block is.
use Rattle.std.specs.Prelude.{Bool, true, false}
use Rattle.un_isa.specs.Does.{is_call}
use Rattle.un_ir.specs.declared.function.Term.TheVariants.{Fall}
use Rattle.un_ir.specs.declared.extended.ExtKind.{ExtKind}
use Rattle.un_ir.specs.declared.extended.ExtKind.TheVariants.{In, Out, Body, End, Copy, Enter, Leave}
use Rattle.un_ir.specs.declared.extended.NodeCopy.TheVariants.{D}

-- a solution may leave it out
abbrev pub is_optional : ExtKind → Bool
is_optional (Copy node) = true
is_optional Enter = true
is_optional Leave = true
is_optional _ = false

-- every solution issues it
abbrev pub is_mandatory : ExtKind → Bool
is_mandatory In = true
is_mandatory Out = true
is_mandatory (Body o) = true
is_mandatory (End term) = true
is_mandatory _ = false

-- a block's start or its end
abbrev pub is_delimiter : ExtKind → Bool
is_delimiter In = true
is_delimiter Out = true
is_delimiter _ = false

-- Enter or Leave
abbrev pub is_frame_op : ExtKind → Bool
is_frame_op Enter = true
is_frame_op Leave = true
is_frame_op _ = false

-- its operands have choices; that of the first copy of a value has none
abbrev pub has_choices : ExtKind → Bool
has_choices (Copy D) = false
has_choices _ = true

-- an operation of the source
abbrev pub is_source : ExtKind → Bool
is_source (Body o) = true
is_source _ = false

-- a call of the source
abbrev pub is_call_kind : ExtKind → Bool
is_call_kind (Body o) = is_call o.op
is_call_kind _ = false

-- an end that falls through to the next block
abbrev pub is_fall : ExtKind → Bool
is_fall (End Fall) = true
is_fall _ = false

-- what stands last in its block: its end, and a terminator that is issued
abbrev pub ends_block : ExtKind → Bool
ends_block Out = true
ends_block (End Fall) = false
ends_block (End term) = true
ends_block _ = false

-- where it is active it issues an instruction
abbrev pub issues_kind : ExtKind → Bool
issues_kind In = false
issues_kind Out = false
issues_kind (End Fall) = false
issues_kind _ = true
