-- Refusals in words, each by an example.
use Rattle.std.specs.Prelude.{◌≡◌, ℕ, List, [], ◌∷◌, map, codes}
use Rattle.records.specs.declared.refusals.Details.{Details}
use Rattle.records.specs.declared.refusals.Rule.{Rule}
use Rattle.records.specs.declared.refusals.Rule.TheVariants as rule
use Rattle.rest_json.specs.declared.terms.Dialect.TheVariants as dialect
use Rattle.rest_replies.specs.Refusals.{error_text}

-- what is kept of a refusal
abbrev pub kept : Details
kept = record {
  kind = codes "profile";
  project = codes "lab";
  name = codes "web";
  key = codes "limits.cpu";
  number = 5;
  used = 1;
  asked = 8;
  limit = 4;
}

-- what the rules say of it, in words
abbrev pub in_words : List (Rule × List ℕ)
in_words =
    (rule.H5, codes "origin is not allowed")
    ∷ (rule.A3, codes "query is malformed: limits.cpu")
    ∷ (rule.N1, codes "project is missing: lab")
    ∷ (rule.N4, codes "name is taken: profile web")
    ∷ (rule.E1, codes "object has changed: profile web of project lab")
    ∷ (rule.N5, codes "name is held by an operation: profile web, operation 5")
    ∷ (rule.B1, codes "instance is busy: web, operation 5")
    ∷ (rule.B2, codes "instance is in the wrong state: web, limits.cpu")
    ∷ (rule.B4, codes "object is in use: profile web, used by limits.cpu")
    ∷ (rule.B5, codes "project is not empty: web")
    ∷ (rule.V2, codes "value is malformed: limits.cpu, reason 5")
    ∷ (rule.V3, codes "device is malformed: web, key limits.cpu, reason 5")
    ∷ (rule.F1, codes "setting is forbidden: limits.cpu of web in project lab")
    ∷ (rule.L4, codes "limit is exceeded: limits.cpu of project lab, used 1, asked 8, limit 4")
    ∷ (rule.O1, codes "operation has ended: 5, limits.cpu")
    ∷ (rule.O2, codes "operation may not be cancelled: 5")
    ∷ (rule.C1, codes "table is full: profile, at most 5")
    ∷ (rule.C2, codes "row is too large: profile, bytes 5")
    ∷ []

-- each is said so
abbrev pub AreInWords : Type 0
AreInWords =
    map (λ example. error_text dialect.Client (record { rule = example.0; details = kept })) in_words
    ≡ map (λ example. example.1) in_words

-- nothing is said of a part that is empty
abbrev pub EmptyIsUnsaid : Type 0
EmptyIsUnsaid =
    error_text dialect.Client (record { rule = rule.V3; details = record kept { key = [] } })
    ≡ codes "device is malformed: web, reason 5"
