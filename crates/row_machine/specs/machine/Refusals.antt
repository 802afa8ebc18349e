-- Refusals: a rule with what it tells.
use Rattle.row_machine.specs.Words.{ℕ, List, [], Rule, Refusal, ObjectKind, Details}
use Rattle.row_machine.specs.machine.Kinds.{kind_text}

-- a rule alone, without details
abbrev pub no_details : Details
no_details = record { kind = []; project = []; name = []; key = []; number = 0; used = 0; asked = 0; limit = 0 }

abbrev pub plain_refusal : Rule → Refusal
plain_refusal rule = record { rule = rule; details = no_details }

abbrev pub on_name : Rule → List ℕ → Refusal
on_name rule name = record { rule = rule; details = record no_details { name = name } }

abbrev pub on_number : Rule → ℕ → Refusal
on_number rule number = record { rule = rule; details = record no_details { number = number } }

abbrev pub on_object : Rule → ObjectKind → List ℕ → Refusal
on_object rule kind name = record { rule = rule; details = record no_details { kind = kind_text kind; name = name } }

abbrev pub on_held : Rule → ObjectKind → List ℕ → ℕ → Refusal
on_held rule kind name number =
    record { rule = rule; details = record no_details { kind = kind_text kind; name = name; number = number } }

abbrev pub on_project : Rule → List ℕ → Refusal
on_project rule project = record { rule = rule; details = record no_details { project = project } }

abbrev pub on_key_of : Rule → List ℕ → List ℕ → List ℕ → Refusal
on_key_of rule key name project =
    record { rule = rule; details = record no_details { key = key; name = name; project = project } }

abbrev pub on_object_of : Rule → ObjectKind → List ℕ → List ℕ → Refusal
on_object_of rule kind name project =
    record { rule = rule; details = record no_details { kind = kind_text kind; name = name; project = project } }
