-- The lemmas of this crate.
pub mod WordLemmas
pub mod IntegerLemmas
pub mod CutLemmas
pub mod EncodingLemmas
pub mod AsciiLemmas
pub mod TableLemmas
pub mod NarrowLemmas
pub mod CommentLemmas
pub mod FamilyLemmas
pub mod FrontLemmas
pub mod ValueLemmas
pub mod TokenLemmas
pub mod StringLemmas
pub mod OneCutLemmas
pub mod SpanLemmas
pub mod ReadLemmas
pub mod ExistsLemmas
pub mod ScanLemmas
mod Walks
pub mod ContextLemmas
pub mod OneFaultLemmas
pub mod StringValueLemmas
