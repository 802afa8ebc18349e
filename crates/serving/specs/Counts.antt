-- What a spawner begins, and what of it is still out.
use Rattle.std.specs.Prelude.{◌≡◌, ℕ, ◌+◌, ◌-◌, ◌^◌, ◌<◌, Bool, true, false, ◌||◌, Result, Ok, Err}
use Rattle.size_values.specs.Calls.{Calls}

-- How many link jobs and how many others were begun; how many were declined, since they could not be started; how many
-- tasks were given and not taken in again; whether any task was waited for, and whether a job was begun after that.
pub record Counts : Type 0 where
  pub links : ℕ
  pub others : ℕ
  pub declined : ℕ
  pub out : ℕ
  pub waited : Bool
  pub late : Bool

-- nothing was begun
abbrev pub none_begun : Counts
none_begun = record { links = 0; others = 0; declined = 0; out = 0; waited = false; late = false }

-- one more job was begun: a link job, or another one; it is late where a task was waited for before
abbrev pub begun : Bool → Counts → Counts
begun true counts = record counts { links = counts.links + 1; late = counts.late || counts.waited }
begun false counts = record counts { others = counts.others + 1; late = counts.late || counts.waited }

-- one more job was declined
abbrev pub declined : Counts → Counts
declined counts = record counts { declined = counts.declined + 1 }

-- one more task is out
abbrev pub with_task : Counts → Counts
with_task counts = record counts { out = counts.out + 1 }

-- one task was taken in, whose job had ended
abbrev pub without_ended : Counts → Counts
without_ended counts = record counts { out = counts.out - 1 }

-- one task was waited for and taken in
abbrev pub without_task : Counts → Counts
without_task counts = record counts { out = counts.out - 1; waited = true }

-- each number has room in 64 bits for very many more
pub record AreSmall (counts : Counts) : Type 0 where
  pub links : counts.links < 2 ^ 63
  pub others : counts.others < 2 ^ 63
  pub declined : counts.declined < 2 ^ 63
  pub out : counts.out < 2 ^ 63

-- A start begins the job and gives its task. One that is refused begins nothing.
abbrev pub Starts : {T E : Type 0} → Bool → Counts → Counts → Result T E → Type 0
Starts link old new (Ok task) = new ≡ with_task (begun link old)
Starts link old new (Err error) = new ≡ old

-- A start begins the job and gives its task. A job whose start is refused is declined, and this is what is left of it.
abbrev pub StartsOrDeclines : {T O : Type 0} → Bool → Counts → Counts → Result T O → Type 0
StartsOrDeclines link old new (Ok task) = new ≡ with_task (begun link old)
StartsOrDeclines link old new (Err out) = new ≡ declined old

-- A task whose job has ended is taken in; another one is given back.
abbrev pub TakesEnded : {T O : Type 0} → Counts → Counts → Result O T → Type 0
TakesEnded old new (Ok out) = new ≡ without_ended old
TakesEnded old new (Err task) = new ≡ old

-- A spawner without threads: its starts, of which the listed ones are refused, and what it began.
pub record KeptJobs : Type 0 where
  pub calls : Calls
  pub counts : Counts
