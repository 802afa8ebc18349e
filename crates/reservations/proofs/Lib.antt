pub mod LedgerLemmas
