-- Many commits one after the other, each with whether it was answered Ok, and what a crash at any moment leaves.
use Rattle.std.specs.Prelude.{◌⊎◌, ℕ, Bool, true, false, List, [], ◌∷◌, ◌++◌}
use Rattle.disk_model.specs.Disk.{DiskState}
use Rattle.journal_keeper.specs.Texts.{Commit}
use Rattle.journal_keeper.specs.Keeping.{IsLeft, Stands, LeavesTold, LeavesNow}
use Rattle.journal_keeper.specs.declared.gate.Gate.{Gate}

-- the base after these commits: each that was answered Ok is behind it, in order
abbrev pub base_after : List Commit → List Commit → List Bool → List Commit
base_after base [] answers = base
base_after base (commit ∷ commits) [] = base
base_after base (commit ∷ commits) (true ∷ answers) = base_after (base ++ commit ∷ []) commits answers
base_after base (commit ∷ commits) (false ∷ answers) = base_after base commits answers

-- the commits that failed since the last that was answered Ok
abbrev pub doubts_after : List Commit → List Commit → List Bool → List Commit
doubts_after doubts [] answers = doubts
doubts_after doubts (commit ∷ commits) [] = doubts
doubts_after doubts (commit ∷ commits) (true ∷ answers) = doubts_after [] commits answers
doubts_after doubts (commit ∷ commits) (false ∷ answers) = doubts_after (doubts ++ commit ∷ []) commits answers

-- What a crash at some moment of these commits leaves. In the first one: the base, or that and one commit, which is in
-- progress or failed since the last that was answered Ok. In those after it: the same of what the base is by then.
abbrev pub LeftDuring : List Commit → List Commit → List Commit → List Bool → List ℕ → Type 0
LeftDuring base doubts [] answers file = IsLeft base doubts file
LeftDuring base doubts (commit ∷ commits) [] file = IsLeft base doubts file
LeftDuring base doubts (commit ∷ commits) (true ∷ answers) file =
    IsLeft base (doubts ++ commit ∷ []) file ⊎ LeftDuring (base ++ commit ∷ []) [] commits answers file
LeftDuring base doubts (commit ∷ commits) (false ∷ answers) file =
    IsLeft base (doubts ++ commit ∷ []) file ⊎ LeftDuring base (doubts ++ commit ∷ []) commits answers file

-- Commits that were made one after the other, on a journal that stood for the base. A crash at any moment left what is
-- said above, and the journal stands for the base and the commits that were answered Ok.
pub record Survives (old new : DiskState) (gate : Gate) (base doubts : List Commit) (commits : List Commit) (answers : List Bool) : Type 0 where
  pub any_moment : LeavesTold old new (LeftDuring base doubts commits answers)
  pub now : LeavesNow new (IsLeft (base_after base commits answers) (doubts_after doubts commits answers))
  pub stands : Stands new gate (base_after base commits answers) (doubts_after doubts commits answers)
