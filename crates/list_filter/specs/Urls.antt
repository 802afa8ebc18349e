-- The URLs of objects that are shown.
use Rattle.std.specs.Prelude.{◌≡◌, ℕ, List, [], Option, Some, None, map}
use Rattle.std.specs.Option.{option_map_or}
use Rattle.records.specs.declared.rows.Row.{Row}
use Rattle.records.specs.declared.rows.Row.TheVariants as row
use Rattle.records.specs.declared.replies.View.{View}
use Rattle.records.specs.declared.replies.View.TheVariants as shown
use Rattle.row_machine.specs.machine.State.{State}
use Rattle.row_machine.specs.shown.Views.{row_url, row_view}

-- the row that is shown; the server, an operation and the states of an instance and of a project are none
abbrev pub row_shown : View → Option Row
row_shown shown.Server = None
row_shown (shown.Project project used) = Some (row.Project project)
row_shown (shown.Profile profile used) = Some (row.Profile profile)
row_shown (shown.Network network used) = Some (row.Network network)
row_shown (shown.Pool pool used) = Some (row.Pool pool)
row_shown (shown.Volume volume used) = Some (row.Volume volume)
row_shown (shown.Instance instance config devices power) = Some (row.Instance instance)
row_shown (shown.Snapshot snapshot) = Some (row.Snapshot snapshot)
row_shown (shown.Power power) = None
row_shown (shown.Usage lines) = None
row_shown (shown.Op operation) = None

-- the URL of the row that is shown, and empty where none is
abbrev pub view_url : View → List ℕ
view_url view = option_map_or row_url (row_shown view) []

-- the objects of a list have the URLs that the list has without recursion
abbrev pub UrlsAreThoseOfRows : Type 0
UrlsAreThoseOfRows = (state : State) (rows : List Row) → map view_url (map (row_view state) rows) ≡ map row_url rows
