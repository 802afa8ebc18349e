use Rattle.config_lists.specs.Entries.{value_of}
use Rattle.config_lists.proofs.Keys.{KeysRise-nil}
use Rattle.config_lists.proofs.Lookups.{value_of-below}
use Rattle.std.proofs.Common.{ℕ, List, []}
use Rattle.std.proofs.lemmas.List.Elements.{All-nil}
use Rattle.config_lists.specs.Settings.{Settings, IsFull}
use Rattle.expansion.specs.Layers.{expanded, expanded_setting, expanded_device, nothing}
use Rattle.expansion.proofs.Searches.{read-expanded, setting-laid, device-laid, IsLayer-fold}
use Rattle.expansion.proofs.laws.layers_are_searched_backwards.Goals as goal

pub returns-clause-settings : goal.returns-clause-settings
unfolding expanded_setting
returns-clause-settings c layers key all = read-expanded (λ l. value_of l.config key) (setting-laid key) layers all (value_of-below [] key tt)

pub returns-clause-devices : goal.returns-clause-devices
unfolding expanded_device
returns-clause-devices c layers name all = read-expanded (λ l. value_of l.devices name) (device-laid name) layers all (value_of-below [] name tt)

pub returns-clause-layer : goal.returns-clause-layer
unfolding expanded
returns-clause-layer c layers all =
    IsLayer-fold nothing layers (record { config = record { rising = KeysRise-nil (List ℕ); full = All-nil IsFull }; devices = record { rising = KeysRise-nil Settings } }) all
