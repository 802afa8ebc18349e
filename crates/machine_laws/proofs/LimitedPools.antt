-- A pool whose limit is set is among the pools that have a key.
use Rattle.std.proofs.Common.{◌≡◌, ℕ, Bool, true, false, cond, Option, Some, None, List, [], ◌∷◌, ◌⊎◌, refl, inl, inr}
use Rattle.std.specs.List.{filter_map}
use Rattle.std.specs.Map.{keys_of}
use Rattle.std.specs.Option.{option_and_then}
use Rattle.std.specs.Result.{result_ok}
use Rattle.std.specs.Str.{bytes_eq}
use Rattle.plain_lists.specs.Members.{Mem}
use Rattle.plain_lists.proofs.Readings.{Mem-read}
use Rattle.config_lists.specs.Entries.{value_of}
use Rattle.config_lists.specs.Settings.{Settings}
use Rattle.config_lists.proofs.Keys.{same}
use Rattle.size_values.specs.Size.{size_of}
use Rattle.project_limits.specs.Limits.{size_in}
use Rattle.project_limits.specs.Pools.{pool_key, pool_of_key, pool_limit, limited_pools}

-- what is found under a key stands under it
found-key : (config : Settings) (key text : List ℕ) → value_of config key ≡ Some text → Mem key (keys_of config)
unfolding value_of
found-key [] key text found = absurd (cc)
found-key (e ∷ es) key text found = at (bytes_eq key e.0) refl found (found-key es key text) where
  at : (b : Bool) → bytes_eq key e.0 ≡ b → cond b (Some e.1) (value_of es key) ≡ Some text → (value_of es key ≡ Some text → Mem key (keys_of es)) → (key ≡ e.0) ⊎ Mem key (keys_of es)
  at true is h more = inl (same key e.0 is)
  at false is h more = inr (more h)

pub limited-there : (config : Settings) (pool : List ℕ) (limit : ℕ) → pool_limit config pool ≡ Some limit → Mem pool (limited_pools config)
unfolding pool_limit limited_pools size_in
limited-there config pool limit is = at (value_of config (pool_key pool)) refl is where
  at : (text : Option (List ℕ)) → value_of config (pool_key pool) ≡ text
      → option_and_then (λ (t : List ℕ). result_ok (size_of t)) text ≡ Some limit → Mem pool (filter_map pool_of_key (keys_of config))
  at None e h = absurd (cc)
  at (Some text) e h = Mem-read pool_of_key (pool_key pool) pool (keys_of config) (found-key config (pool_key pool) text e) refl
