-- The entity tag of what a reply shows (RFC 9110, section 8.8.3).
use Rattle.std.specs.Prelude.{ℕ, List, [], Option, Some, None, option_and_then}
use Rattle.std.specs.Option.{unwrap_or}
use Rattle.records.specs.declared.replies.Reply.{Reply}
use Rattle.records.specs.declared.replies.Reply.TheVariants as reply
use Rattle.records.specs.declared.replies.View.{View}
use Rattle.records.specs.declared.replies.View.TheVariants as view
use Rattle.records.specs.declared.rows.Row.{Row}
use Rattle.records.specs.declared.rows.Row.TheVariants as row
use Rattle.row_codec.specs.Tags.{tag_of}
use Rattle.rest_json.specs.declared.terms.Dialect.{Dialect}
use Rattle.rest_json.specs.declared.terms.Dialect.TheVariants as dialect

-- the row that is shown; what is made of other parts of the state has none
abbrev pub row_shown : View → Option Row
row_shown (view.Project project users) = Some (row.Project project)
row_shown (view.Profile profile users) = Some (row.Profile profile)
row_shown (view.Network network users) = Some (row.Network network)
row_shown (view.Pool pool users) = Some (row.Pool pool)
row_shown (view.Volume volume users) = Some (row.Volume volume)
row_shown (view.Instance instance config devices power) = Some (row.Instance instance)
row_shown (view.Snapshot snapshot) = Some (row.Snapshot snapshot)
row_shown other = None

-- the tag of what is shown; the plain dialect tells none
abbrev pub tag_in : Dialect → View → List ℕ
tag_in dialect.Plain shown = []
tag_in dialect.Client shown = unwrap_or (option_and_then tag_of (row_shown shown)) []

-- the tag of a reply, which only that of one object has
abbrev pub reply_tag : Dialect → Reply → List ℕ
reply_tag dialect (reply.One shown) = tag_in dialect shown
reply_tag dialect other = []
