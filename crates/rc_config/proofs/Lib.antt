pub mod MemberLemmas
mod NobodyLost
pub mod SegmentTables
