-- What contracts see of the fields of the operations of a draft, and what is true of them.
use Rattle.std.specs.Prelude.{◌≤◌, ◌-◌, length, vec_len, vec_capacity}
use Rattle.operations.specs.Limits.{most_ended}
use Rattle.core_drafts.specs.declared.background.Background.TheInside.{Inside}
use Rattle.core_drafts.specs.Background.{Background}

-- the operations, the shares, and what there is memory for
abbrev pub background_in : Inside → Background
background_in background = record {
  operations = record { live = background.live.items; ended = background.ended.items; next = background.next };
  held = background.ledger.held;
  books = background.ledger.books;
  backing = record {
    claim_room = vec_capacity background.live - vec_len background.live;
    hold_room = background.ledger.spare;
    greatest = background.ledger.greatest;
  };
}

-- there is room for all ended operations that are kept, and no more are
pub record HasRing (background : Inside) : Type 0 where
  pub room : most_ended ≤ vec_capacity background.ended
  pub few : length background.ended.items ≤ most_ended
