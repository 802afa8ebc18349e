-- What is told of a state: how many rows of each kind there are, and the books. Each line ends with LF, and its words
-- are joined by one space.
use Rattle.std.specs.Prelude.{ℕ, List, ◌++◌, length, codes, decimal}
use Rattle.size_values.specs.Amounts.{part}
use Rattle.size_values.specs.declared.amounts.Part.{Part}
use Rattle.size_values.specs.declared.amounts.Part.TheVariants.{Instances, Containers}
use Rattle.size_values.specs.declared.amounts.Part.TheVariants.{Machines, Cpu, Memory, Processes}
use Rattle.size_values.specs.declared.amounts.Part.TheVariants.{Disk}
use Rattle.reservations.specs.Holdings.{all_part}
use Rattle.row_machine.specs.machine.State.{State}

-- how many rows of a kind there are
abbrev pub count_line : List ℕ → ℕ → List ℕ
count_line kind count = kind ++ codes " " ++ decimal count ++ codes "\n"

-- a number after a space
abbrev pub number_at_end : ℕ → List ℕ
number_at_end number = codes " " ++ decimal number

-- the seven parts of an amount, in the order in which limits are judged
abbrev pub amounts_line : List ℕ → (Part → ℕ) → List ℕ
amounts_line name amount =
    name
    ++ number_at_end (amount Instances)
    ++ number_at_end (amount Containers)
    ++ number_at_end (amount Machines)
    ++ number_at_end (amount Cpu)
    ++ number_at_end (amount Memory)
    ++ number_at_end (amount Processes)
    ++ number_at_end (amount Disk)
    ++ codes "\n"

-- how many rows of each kind there are
unfoldable pub counts_of : State → List ℕ
counts_of state =
    count_line (codes "projects") (length state.projects)
    ++ count_line (codes "profiles") (length state.profiles)
    ++ count_line (codes "networks") (length state.networks)
    ++ count_line (codes "pools") (length state.pools)
    ++ count_line (codes "volumes") (length state.volumes)
    ++ count_line (codes "instances") (length state.instances)
    ++ count_line (codes "snapshots") (length state.snapshots)

-- the sums over all projects of what operations were granted, of what became their objects', of what went back, and of
-- what is still held
unfoldable pub books_of : State → List ℕ
books_of state =
    amounts_line (codes "granted") (λ a_part. part a_part state.books.granted)
    ++ amounts_line (codes "converted") (λ a_part. part a_part state.books.converted)
    ++ amounts_line (codes "returned") (λ a_part. part a_part state.books.returned)
    ++ amounts_line (codes "held") (λ a_part. all_part a_part state.held)

abbrev pub report_of : State → List ℕ
report_of state = counts_of state ++ books_of state
