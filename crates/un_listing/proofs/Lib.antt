pub mod InstrBack
pub mod InstrWords
pub mod Printed
pub mod WordCuts
pub mod WordTexts
