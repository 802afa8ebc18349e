-- What a row or a claim adds to one part of what a project uses.
use Rattle.std.specs.Prelude.{ℕ, List}
use Rattle.std.specs.Option.{option_map_or}
use Rattle.size_values.specs.declared.amounts.Part.{Part}
use Rattle.records.specs.declared.rows.Instance.{Instance}
use Rattle.records.specs.declared.rows.Volume.{Volume}
use Rattle.row_machine.specs.machine.Task.{Task}
use Rattle.row_machine.specs.machine.State.{State}
use Rattle.row_machine.specs.machine.Usage.{amount_for, instance_load, volume_load, claim_load}

abbrev pub instance_part : State → List ℕ → Part → Instance → ℕ
instance_part state project a_part row = amount_for project a_part (instance_load state row)

abbrev pub volume_part : List ℕ → Part → Volume → ℕ
volume_part project a_part row = amount_for project a_part (volume_load row)

-- nothing if no row is claimed
abbrev pub claim_part : State → List ℕ → Part → Task → ℕ
claim_part state project a_part task = option_map_or (amount_for project a_part) (claim_load state task) 0
