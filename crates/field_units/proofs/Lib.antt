pub mod BitFacts
pub mod FieldFacts
