pub mod Rising
pub mod KeptLemmas
pub mod SlotsLemmas
