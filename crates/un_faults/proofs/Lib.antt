pub mod BeforeLaws
pub mod FirstNames
pub mod NameEq
pub mod RepeatLaws
pub mod Rules
mod FaultRows
