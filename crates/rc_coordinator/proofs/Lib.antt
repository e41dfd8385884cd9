pub mod TableLemmas
pub mod TabletLemmas
pub mod PlanLemmas
pub mod RuleLemmas
pub mod GrantLemmas
pub mod AskedLemmas
pub mod NewLemmas
pub mod ListLemmas
pub mod CopyLemmas
mod ReadyLemmas
