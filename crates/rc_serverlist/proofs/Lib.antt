pub mod IdLemmas
pub mod RowLemmas
