pub mod NodeLaws
pub mod OptionLaws
pub mod RefutationLaws
pub mod RefutationPins
