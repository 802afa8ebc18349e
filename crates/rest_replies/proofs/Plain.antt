-- What is made before it is written, and notices, have no number with a fraction, so each has the compact text.
use Rattle.std.proofs.Common.{◌≡◌, ℕ, List, [], ◌∷◌, false, codes, refl}
use Rattle.operations.specs.declared.status.Status.{Status}
use Rattle.records.specs.declared.refusals.Details.{Details}
use Rattle.records.specs.declared.refusals.Refusal.{Refusal}
use Rattle.records.specs.declared.replies.OpView.{OpView}
use Rattle.records.specs.declared.notices.EventBody.{EventBody}
use Rattle.records.specs.declared.notices.EventBody.TheVariants as body
use Rattle.records.specs.declared.notices.Notice.{Notice}
use Rattle.serde_json.specs.Data.{string, Members, no_members, put}
use Rattle.serde_json.specs.Written.{has_float, members_have_float}
use Rattle.rest_replies.specs.declared.refusals.Part.{Part}
use Rattle.rest_replies.specs.declared.refusals.Part.TheVariants as part
use Rattle.rest_json.specs.declared.terms.Dialect.{Dialect}
use Rattle.rest_json.specs.Words.{status_key}
use Rattle.rest_json.specs.Ids.{operation_url}
use Rattle.rest_json.specs.Operations.{operation_data}
use Rattle.rest_replies.specs.Refusals.{Phrase, rule_name, phrases_of, part_key, part_data, put_parts, details_data, refusal_data}
use Rattle.rest_replies.specs.Replies.{urls_data, put_urls, by_status, operations_data, put_operations, whole_by_status}
use Rattle.rest_replies.specs.Notices.{life_data, event_data, notice_data}
use Rattle.rest_json.proofs.Floatless.{put_plain, items_plain}
use Rattle.rest_json.proofs.ViewsPlain.{operation_plain}

-- ---- refusals

part_plain : (details : Details) (p : Part) → has_float (part_data details p) ≡ false
part_plain details part.Asked = refl
part_plain details part.Key = refl
part_plain details part.Kind = refl
part_plain details part.Limit = refl
part_plain details part.Name = refl
part_plain details part.Number = refl
part_plain details part.Project = refl
part_plain details part.Used = refl

put_parts_plain : (details : Details) (phrases : List Phrase) (ms : Members) → members_have_float ms ≡ false → members_have_float (put_parts details phrases ms) ≡ false
put_parts_plain details [] ms all = all
put_parts_plain details (x ∷ xs) ms all = put_parts_plain details xs (put (part_key x.1) (part_data details x.1) ms) (put_plain (part_key x.1) (part_data details x.1) ms (part_plain details x.1) all)

details_plain : (r : Refusal) → has_float (details_data r) ≡ false
unfolding details_data
details_plain r = put_parts_plain r.details (phrases_of r.rule) (put (codes "rule") (string (rule_name r.rule)) no_members) refl

pub refusal_plain : (dialect : Dialect) (r : Refusal) → has_float (refusal_data dialect r) ≡ false
unfolding refusal_data
refusal_plain dialect r = rw (details_plain r) refl

-- ---- replies

urls_plain : (boot : ℕ) (numbers : List ℕ) → has_float (urls_data boot numbers) ≡ false
unfolding urls_data
urls_plain boot numbers = items_plain (λ (number : ℕ). string (operation_url boot number)) numbers (λ number. refl)

put_urls_plain : (boot : ℕ) (groups : List (Status × List ℕ)) (ms : Members) → members_have_float ms ≡ false → members_have_float (put_urls boot groups ms) ≡ false
put_urls_plain boot [] ms all = all
put_urls_plain boot (x ∷ xs) ms all = put_urls_plain boot xs (put (status_key x.0) (urls_data boot x.1) ms) (put_plain (status_key x.0) (urls_data boot x.1) ms (urls_plain boot x.1) all)

pub by_status_plain : (boot : ℕ) (groups : List (Status × List ℕ)) → has_float (by_status boot groups) ≡ false
unfolding by_status
by_status_plain boot groups = put_urls_plain boot groups no_members refl

operations_plain : (boot : ℕ) (operations : List OpView) → has_float (operations_data boot operations) ≡ false
unfolding operations_data
operations_plain boot operations = items_plain (operation_data boot) operations (operation_plain boot)

put_operations_plain : (boot : ℕ) (groups : List (Status × List OpView)) (ms : Members) → members_have_float ms ≡ false → members_have_float (put_operations boot groups ms) ≡ false
put_operations_plain boot [] ms all = all
put_operations_plain boot (x ∷ xs) ms all = put_operations_plain boot xs (put (status_key x.0) (operations_data boot x.1) ms) (put_plain (status_key x.0) (operations_data boot x.1) ms (operations_plain boot x.1) all)

pub whole_by_status_plain : (boot : ℕ) (groups : List (Status × List OpView)) → has_float (whole_by_status boot groups) ≡ false
unfolding whole_by_status
whole_by_status_plain boot groups = put_operations_plain boot groups no_members refl

-- ---- notices

event_plain : (boot : ℕ) (t : EventBody) → has_float (event_data boot t) ≡ false
unfolding life_data
event_plain boot (body.Life action source) = refl
event_plain boot (body.Op operation) = operation_plain boot operation

pub notice_plain : (boot : ℕ) (n : Notice) → has_float (notice_data boot n) ≡ false
unfolding notice_data
notice_plain boot n = rw (event_plain boot n.body) refl
