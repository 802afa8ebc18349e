-- What contracts see of the rows of the server, and what is true of the fields.
use Rattle.std.specs.Prelude.{◌≡◌, ◌<◌, ◌≤◌, [], map, vec_capacity}
use Rattle.row_machine.specs.facts.Whole.{IsWhole}
use Rattle.core_rows.specs.declared.estate.Estate.TheInside.{Inside}
use Rattle.core_judging.specs.core_reports.specs.Waiting.{IsSilent, untold_limit}
use Rattle.core_judging.specs.core_totals.specs.Totals.{AreTotals}
use Rattle.core_rows.specs.EstateView.{EstateView}
use Rattle.core_judging.specs.core_reports.specs.Waiting.{told_by}

-- the state, and the notices that wait
abbrev pub kept : Inside → EstateView
kept estate =
    record { state = estate.draft.state; untold = map (told_by estate.draft.state.operations) estate.untold.items }

-- the facts hold of the state, in which nothing was told; no change of it is left unsettled; there is room for the
-- notices of a step; each operation that ever held a share is below the next one; and what is known of projects is
-- what they use
pub record IsEstate (estate : Inside) : Type 0 where
  pub whole : IsWhole estate.draft.state
  pub silent : IsSilent estate.draft.state
  pub settled : estate.draft.log ≡ []
  pub room : untold_limit ≤ vec_capacity estate.untold
  pub above : estate.draft.backing.greatest < estate.draft.state.operations.next
  pub totals : AreTotals estate.draft.state estate.totals
