-- Which refutations have a text that is read, and what is read.
use Rattle.std.specs.Prelude.{ℕ, ◌≡◌, ⊤, List, Result, Ok, Err, All, length}
use Rattle.un_commands.specs.Settings.{IsCountOfNodes}
use Rattle.un_model.specs.Options.{AreOptions}
use Rattle.un_report_reader.specs.Lines.{IsLong, IsName}
use Rattle.un_report_reader.specs.declared.error.ReportError.{ReportError}
use Rattle.un_report_reader.specs.declared.error.ReportError.TheVariants.{NoMemory, BadReport}
use Rattle.un_symtree.specs.SymTexts.{SymFits}
use Rattle.un_refutation.specs.FirstBad.{IsFirstBad}
use Rattle.un_refutation.specs.Refutations.{text_of}
use Rattle.un_refutation.specs.declared.refutation.Refutation.{Refutation}

-- the limit is of 64 bits, the options are those that a model may have, the tree has from one to 200,000 nodes, and their numbers fit
pub record IsRefutation (r : Refutation) : Type 0 where
  pub limit : IsLong r.limit
  pub name : IsName r.name
  pub options : AreOptions r.options
  pub count : IsCountOfNodes (length r.tree.nodes.items)
  pub fit : All SymFits r.tree.nodes.items

-- the text is that of a refutation
pub record IsRefutationRead (text : List ℕ) (r : Refutation) : Type 0 where
  pub is_refutation : IsRefutation r
  pub spelled : text ≡ text_of r

-- an error is an answer to a text: there was no memory, or the line is the first bad one
abbrev pub IsErrorOf : List ℕ → ReportError → Type 0
IsErrorOf text NoMemory = ⊤
IsErrorOf text (BadReport line) = IsFirstBad text line

-- two refutations have the same fields
pub record AreSame (r s : Refutation) : Type 0 where
  pub limit : s.limit ≡ r.limit
  pub name : s.name ≡ r.name
  pub options : s.options ≡ r.options
  pub tree : s.tree.nodes.items ≡ r.tree.nodes.items

-- an answer to the text of a refutation is that refutation, or there was no memory
abbrev pub IsRefutationBack : Refutation → Result Refutation ReportError → Type 0
IsRefutationBack r (Ok s) = AreSame r s
IsRefutationBack r (Err e) = e ≡ NoMemory
