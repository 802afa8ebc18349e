-- The snapshots of an instance, sought among those of its project.
use Rattle.std.proofs.Common.{◌≡◌, ℕ, Bool, false, cond, List, filter, ap}
use Rattle.std.specs.Str.{bytes_eq}
use Rattle.records.specs.declared.rows.Snapshot.{Snapshot}
use Rattle.row_readings.proofs.Ranges.{filter-filter}

-- whether a snapshot is one of the instance of this project and name
abbrev pub is_its : List ℕ → List ℕ → Snapshot → Bool
is_its project instance r = cond (bytes_eq r.project project) (bytes_eq r.instance instance) false

pub own-snapshots : (project instance : List ℕ) (rows : List Snapshot)
    → filter (is_its project instance) (filter (λ r. bytes_eq r.project project) rows) ≡ filter (is_its project instance) rows
own-snapshots project instance rows = filter-filter (is_its project instance) (λ (r : Snapshot). bytes_eq r.project project) rows
    (λ r other. ap (λ b. cond b (bytes_eq r.instance instance) false) other)
