pub mod FlagLemmas
pub mod NameLemmas
