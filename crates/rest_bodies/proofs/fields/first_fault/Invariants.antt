use Rattle.std.proofs.Common.{◌≡◌, drop}
use Rattle.serde_json.specs.View.{view}
use Rattle.rest_bodies.specs.Fields.{first_fault}
use Rattle.rest_bodies.proofs.fields.first_fault.Given as goal

abbrev pub invariant-loop-field : goal.invariant-loop-field
invariant-loop-field l = first_fault (drop l.field-index l.fields) (view l.body) ≡ first_fault l.fields (view l.body)
