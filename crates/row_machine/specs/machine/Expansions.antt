-- What an instance has: its profiles in their order, and then its own settings and devices.
use Rattle.std.specs.Prelude.{◌∷◌, ◌++◌}
use Rattle.row_machine.specs.Words.{ℕ, List, [], map, Option, Some, None, Expanded, expanded, ObjectKind as kind}
use Rattle.row_machine.specs.Words.{no_layer, Project, Profile, Instance}
use Rattle.row_machine.specs.machine.Rows.{profile_named}
use Rattle.row_machine.specs.machine.Homes.{home_of}

-- the layer of a profile; a profile that is missing counts as one without settings
abbrev pub layer_of : Option Profile → Expanded
layer_of None = no_layer
layer_of (Some profile) = record { config = profile.config; devices = profile.devices }

abbrev pub own_layer : Instance → Expanded
own_layer instance = record { config = instance.config; devices = instance.devices }

-- the layers of an instance, by a look-up of its profiles: the last one goes before all others
abbrev pub layers_by : (List ℕ → Option Profile) → Instance → List Expanded
layers_by profile instance = map (λ name. layer_of (profile name)) instance.profiles ++ own_layer instance ∷ []

-- The settings and devices of an instance: of each key the value in the last layer that has the key, of each name the
-- device in the last layer that has the name, whole.
unfoldable pub expanded_of : List Project → List Profile → Instance → Expanded
expanded_of projects profiles instance =
    expanded (layers_by (profile_named profiles (home_of projects instance.project kind.Profile)) instance)
