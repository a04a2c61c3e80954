pub mod SymTexts
