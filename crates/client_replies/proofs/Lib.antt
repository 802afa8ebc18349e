mod Members
pub mod HeadLemmas
pub mod ReplyLemmas
pub mod ListLemmas
