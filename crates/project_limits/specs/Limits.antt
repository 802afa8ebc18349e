-- The limits of a project, as its settings set them.
use Rattle.std.specs.Prelude.{ℕ, ◌-◌, ◌^◌, Bool, List, Option, codes, nat_eq, option_and_then}
use Rattle.std.specs.List.{starts_with}
use Rattle.std.specs.Result.{result_ok}
use Rattle.size_values.specs.Count.{count_of}
use Rattle.size_values.specs.Size.{size_of}
use Rattle.config_lists.specs.Settings.{Settings, setting}
use Rattle.project_limits.specs.declared.limits.Limits.{Limits}

-- a key that begins as those of limits do
abbrev pub is_limit_key : List ℕ → Bool
is_limit_key key = starts_with nat_eq key (codes "limits.")

-- the number of a setting that is a count, if it is set and can be read
unfoldable pub count_in : Settings → List ℕ → Option ℕ
count_in config key = option_and_then (λ text. result_ok (count_of text 0 (2 ^ 63 - 1))) (setting config key)

-- the bytes of a setting that is a size, if it is set and can be read
unfoldable pub size_in : Settings → List ℕ → Option ℕ
size_in config key = option_and_then (λ text. result_ok (size_of text)) (setting config key)

-- the limits that a project's settings set
unfoldable pub limits_of : Settings → Limits
limits_of config = record {
  instances = count_in config (codes "limits.instances");
  containers = count_in config (codes "limits.containers");
  machines = count_in config (codes "limits.virtual-machines");
  networks = count_in config (codes "limits.networks");
  cpu = count_in config (codes "limits.cpu");
  memory = size_in config (codes "limits.memory");
  processes = count_in config (codes "limits.processes");
  disk = size_in config (codes "limits.disk");
}
