pub mod Holdings
pub mod Facts
pub mod Inside
