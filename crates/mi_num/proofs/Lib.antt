pub mod SignLemmas
pub mod QuotientLemmas
pub mod AnswerLemmas
