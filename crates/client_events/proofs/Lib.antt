pub mod AcceptLemmas
pub mod GreetingLemmas
