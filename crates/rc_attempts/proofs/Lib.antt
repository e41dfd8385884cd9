pub mod PairLemmas
pub mod TermLemmas
