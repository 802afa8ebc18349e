-- Where fields lead, and the URLs of rows that are shown.
use Rattle.std.proofs.Common.{◌≡◌, [], ◌∷◌, refl, sym}
use Rattle.records.specs.declared.rows.Row.{Row}
use Rattle.records.specs.declared.rows.Row.TheVariants as row
use Rattle.row_machine.specs.machine.State.{State}
use Rattle.row_machine.specs.shown.Views.{row_url, row_view}
use Rattle.rest_json.specs.Settings.{settings_data, devices_data, texts_data}
use Rattle.rest_json.specs.Views.{instance_data}
use Rattle.list_filter.specs.Values.{value_of}
use Rattle.list_filter.specs.Urls.{view_url, UrlsAreThoseOfRows}
use Rattle.list_filter.specs.Laws.{MembersAreLookedUp, SettingsAreNamed, ListsHaveNoValue}
use Rattle.list_filter.proofs.Found.{got, setting_text}

pub members : MembersAreLookedUp
members name shown = sym (got name shown)

pub lists : ListsHaveNoValue
unfolding value_of instance_data settings_data devices_data texts_data
lists terms row config devices power = (refl, refl, refl, refl, refl)

pub settings : SettingsAreNamed
unfolding value_of instance_data
settings terms row config devices power key own_rise rise = (sym (setting_text key row.config own_rise), sym (setting_text key config rise))

pub url_of_row : (state : State) (r : Row) → view_url (row_view state r) ≡ row_url r
url_of_row state (row.Project project) = refl
url_of_row state (row.Profile profile) = refl
url_of_row state (row.Network network) = refl
url_of_row state (row.Pool pool) = refl
url_of_row state (row.Volume volume) = refl
url_of_row state (row.Instance instance) = refl
url_of_row state (row.Snapshot snapshot) = refl

pub urls : UrlsAreThoseOfRows
urls state [] = refl
urls state (r ∷ rows) = cc (url_of_row state r, urls state rows)
