use Rattle.std.proofs.Common.{◌≡◌, drop}
use Rattle.serde_json.specs.Data.{no_members}
use Rattle.rest_json.specs.Objects.{members_in}
use Rattle.rest_json.specs.Views.{put_lines}
use Rattle.rest_json.proofs.views.lines_value.Given as goal

abbrev pub invariant-loop-line : goal.invariant-loop-line
invariant-loop-line l = put_lines (drop l.line-index l.line-items) (members_in l.object) ≡ put_lines l.line-items no_members
