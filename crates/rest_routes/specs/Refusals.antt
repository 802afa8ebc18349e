-- Refusals of requests by their form: a rule, and the key that it tells.
use Rattle.std.specs.Prelude.{ℕ, List, [], codes}
use Rattle.records.specs.declared.refusals.Rule.{Rule}
use Rattle.records.specs.declared.refusals.Rule.TheVariants as rule
use Rattle.records.specs.declared.refusals.Details.{Details}
use Rattle.records.specs.declared.refusals.Refusal.{Refusal}

-- a rule alone, without details
abbrev pub no_details : Details
no_details = record { kind = []; project = []; name = []; key = []; number = 0; used = 0; asked = 0; limit = 0 }

-- the rule and a key
abbrev pub on_key : Rule → List ℕ → Refusal
on_key rule key = record { rule = rule; details = record no_details { key = key } }

-- the rule alone
abbrev pub plain_refusal : Rule → Refusal
plain_refusal rule = record { rule = rule; details = no_details }

-- no operation has this id
abbrev pub no_operation : List ℕ → Refusal
no_operation id = record { rule = rule.N2; details = record no_details { kind = codes "operation"; name = id } }
