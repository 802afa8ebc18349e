use Rattle.std.specs.Prelude.{◌-◌, vec_len, vec_capacity}
use Rattle.reservations.specs.declared.ledger.Ledger.TheInside.{Inside}
use Rattle.reservations.specs.Holdings.{Holdings}
use Rattle.reservations.specs.Facts.{AreHoldings}

-- what contracts see
abbrev pub holdings_in : Inside → Holdings
holdings_in ledger = record {
  held = ledger.holds.items;
  greatest = ledger.greatest;
  books = ledger.books;
  spare = vec_capacity ledger.holds - vec_len ledger.holds;
}

-- what is true of the fields
abbrev pub IsLedger : Inside → Type 0
IsLedger ledger = AreHoldings (holdings_in ledger)
