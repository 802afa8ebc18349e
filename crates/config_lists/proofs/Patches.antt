-- Changes of settings, one after the other.
use Rattle.std.proofs.Common.{◌≡◌, ℕ, ◌+◌, ◌≤◌, List, length, drop, slice_get, Some, ap}
use Rattle.std.specs.Map.{keys_of, values_of}
use Rattle.std.proofs.lemmas.List.{drop_all}
use Rattle.config_lists.specs.Settings.{Settings}
use Rattle.config_lists.specs.Changes.{changed, patched}
use Rattle.config_lists.proofs.Walks.{drop-read}

pub patched-next : (config changes : Settings) (i : ℕ) (key value : List ℕ) → slice_get (keys_of changes) i ≡ Some key → slice_get (values_of changes) i ≡ Some value → patched config (drop i changes) ≡ patched (changed config (key, value)) (drop (i + 1) changes)
unfolding patched
patched-next config changes i key value k v = ap (patched config) (drop-read changes i key value k v)

pub patched-all : (config changes : Settings) (i : ℕ) → length changes ≤ i → patched config (drop i changes) ≡ config
unfolding patched
patched-all config changes i past = ap (patched config) (drop_all i changes past)
