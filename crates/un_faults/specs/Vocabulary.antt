-- The types of words, lines and functions, and their variants: what is said of a text is said with these.
pub use Rattle.un_base.specs.declared.ids.NameId.{NameId}
pub use Rattle.un_base.specs.declared.ids.BlockId.{BlockId}
pub use Rattle.un_ir.specs.declared.function.Kind.{Kind}
pub use Rattle.un_ir.specs.declared.function.Kind.TheVariants.{General, Pred}
pub use Rattle.un_ir.specs.declared.function.SrcOp.{SrcOp}
pub use Rattle.un_ir.specs.declared.function.Term.{Term}
pub use Rattle.un_ir.specs.declared.function.Term.TheVariants.{Fall, Jump as JumpTo, Branch as BranchTo, Ret as Return}
pub use Rattle.un_ir.specs.declared.function.Block.{Block as SourceBlock}
pub use Rattle.un_words.specs.declared.token.Number.{Number}
pub use Rattle.un_words.specs.declared.token.Token.{Token}
pub use Rattle.un_words.specs.declared.line.OpLine.{OpLine}
pub use Rattle.un_words.specs.declared.line.TermLine.{TermLine}
pub use Rattle.un_words.specs.declared.line.TermLine.TheVariants.{Jump, Branch, Ret}
pub use Rattle.un_words.specs.declared.line.Line.{Line}
pub use Rattle.un_words.specs.declared.line.Line.TheVariants.{Blank, Func, Block, Operation, Terminator}
pub use Rattle.un_words.specs.Tokens.{Spelled}
