pub mod NameLemmas
pub mod TableLemmas
