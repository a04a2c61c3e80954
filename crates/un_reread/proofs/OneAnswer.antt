-- A text that is a function is one function, and is read where there is memory.
use Rattle.std.proofs.Common.{ℕ, ◌≡◌, List, refl}
use Rattle.std.proofs.Math.Logic.{∥∥₁_elim}
use Rattle.std.specs.Coded.{Coded-set, coded_ℕ, coded_ℤ, coded_bool, coded_list, coded×, coded⊎, codes, le_prop}
use base.Stored.{coded_unit}
use Rattle.un_ir.specs.Text.{function_text}
use Rattle.un_reread.proofs.ReadAgain.{text_read}
use Rattle.un_ir.specs.declared.function.Function.{Function}
use Rattle.un_reader.specs.Lines.{shapes_in}
use Rattle.un_reader.proofs.PartLaws.{one_function as of_lines}
use Rattle.un_reader.proofs.OneAnswer.{language_or_fault}
use Rattle.un_reader.specs.Errors.{Tells}
use Rattle.un_reader.specs.Read.{IsRead, IsTextFault}
use Rattle.un_reader.specs.declared.error.ReadError.{ReadError}
use Rattle.un_reader.specs.declared.error.ReadError.TheVariants.{NoMemory, TextFault}

-- only want of memory keeps the function of a text from being read
pub only_memory : (text : List ℕ) (f : Function) (e : ReadError) → IsRead text f → Tells (IsTextFault text) e → e ≡ NoMemory
only_memory text f NoMemory h told = refl
only_memory text f (TextFault line code) h (fault, is, there) = absurd (language_or_fault text f line fault h there)

-- a text is one function
pub one_function : (text : List ℕ) (f g : Function) → IsRead text f → IsRead text g → g ≡ f
one_function text f g a b = of_lines (shapes_in text) g f b.is a.is

-- there is one way in which a text is a function
pub read_once : (text : List ℕ) (f : Function) → IsProp (IsRead text f)
read_once text f = hlevel (le_prop, Coded-set, coded_ℕ, coded_ℤ, coded_bool, coded_list, coded×, coded⊎, coded_unit, codes)

-- what is kept of a function may be taken as it is, to say that a text is it
pub read_kept : (text : List ℕ) (f : Function) → text ≡ function_text f → IsRead text f
read_kept text f e = ∥∥₁_elim f.well_formed (read_once text f) (λ w. text_read text f e w)
