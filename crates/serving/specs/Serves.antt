-- What a server does with the links that its doors give, and with its workers.
use Rattle.std.specs.Prelude.{◌≡◌, ℕ, ◌+◌, ◌^◌, ◌<◌, ◌≤◌, ◌⊎◌, Bool, true, false}
use Rattle.std.specs.Prelude.{List, ◌++◌, length, Option, option_map, Result, Ok, Err}
use Rattle.serving.specs.Counts.{Counts}
use Rattle.serving.specs.Accepts.{Seen}

-- there is room in the counts for n more jobs
pub record HasRoom (counts : Counts) (n : ℕ) : Type 0 where
  pub links : counts.links + n < 2 ^ 63
  pub others : counts.others + n < 2 ^ 63
  pub declined : counts.declined + n < 2 ^ 63
  pub out : counts.out + n < 2 ^ 63

-- A number of workers were started, and as many tasks more are held. None was waited for.
pub record StartsWorkers (old new : Counts) (tasks tasks' : ℕ) : Type 0 where
  pub links : new.links ≡ old.links
  pub others : new.others + tasks ≡ old.others + tasks'
  pub declined : new.declined ≡ old.declined
  pub out : new.out + tasks ≡ old.out + tasks'
  pub more : tasks ≤ tasks'
  pub waited : new.waited ≡ old.waited
  pub late : old.waited ≡ false → new.late ≡ old.late

-- A link job was begun and its task is held, or it was declined. None was waited for.
pub record BeginsOne (old new : Counts) (tasks tasks' : ℕ) : Type 0 where
  pub which : ((new.links ≡ old.links + 1) × ((new.declined ≡ old.declined) × (tasks' ≡ tasks + 1)))
      ⊎ ((new.links ≡ old.links) × ((new.declined ≡ old.declined + 1) × (tasks' ≡ tasks)))
  pub others : new.others ≡ old.others
  pub out : new.out + tasks ≡ old.out + tasks'
  pub waited : new.waited ≡ old.waited
  pub late : old.waited ≡ false → new.late ≡ old.late

-- The same; or nothing was begun, and as many tasks are held as are served at once.
abbrev pub HandlesOne : ℕ → Counts → Counts → ℕ → ℕ → Type 0
HandlesOne at_once old new tasks tasks' =
    BeginsOne old new tasks tasks' ⊎ ((at_once ≤ tasks) × ((new ≡ old) × (tasks' ≡ tasks)))

-- Of the links that were given each one had its job begun, or its job was declined, or it was turned away, which happens
-- only where so many jobs are out. The tasks that are out of them are held. None was waited for.
pub record BeginsLinks (at_once : ℕ) (old new : Counts) (tasks tasks' given given' : ℕ) : Type 0 where
  pub away : ℕ
  pub links : new.links + new.declined + away + given ≡ old.links + old.declined + given'
  pub more : (old.links ≤ new.links) × (old.declined ≤ new.declined)
  pub full : (away ≡ 0) ⊎ (old.links + at_once ≤ new.links + tasks)
  pub others : new.others ≡ old.others
  pub out : new.out + tasks ≡ old.out + tasks'
  pub held : tasks' + old.links ≤ tasks + new.links
  pub waited : new.waited ≡ old.waited
  pub late : old.waited ≡ false → new.late ≡ old.late

-- where the links to come are told, the first of them were given, and no others
pub record GivesFirst {T : Type 0} (given given' : ℕ) (old new : Option (List T)) : Type 0 where
  pub links : List T
  pub count : given' ≡ given + length links
  pub first : old ≡ option_map (λ rest. links ++ rest) new

-- one link was given, or none is left, or the accept failed
abbrev pub AcceptsOne : {E : Type 0} → Seen → Seen → Result Bool E → Type 0
AcceptsOne old new (Ok true) = new.given ≡ old.given + 1
AcceptsOne old new (Ok false) = (new.given ≡ old.given) × (new.none_left ≡ true)
AcceptsOne old new (Err error) = new.given ≡ old.given

-- the doors gave so many links, or said that none is left
abbrev pub IsEnough : ℕ → ℕ → Seen → Type 0
IsEnough given count new = (new.given ≡ given + count) ⊎ (new.none_left ≡ true)

-- Each link that was given had its job begun, or declined since no thread could be had, or was turned away, which
-- happens only once so many links were begun as are served at once.
pub record AreHandled (at_once given : ℕ) (counts : Counts) : Type 0 where
  pub away : ℕ
  pub links : counts.links + counts.declined + away ≡ given
  pub full : (away ≡ 0) ⊎ (at_once ≤ counts.links)

-- The doors gave as many links as were asked for, or said that none is left. Each of them was handled, another job was
-- begun for each worker, and every task was taken in. No job was begun after one that had not ended had been waited
-- for, so all that were started ran beside each other.
pub record IsServed (connections at_once workers : ℕ) (seen : Seen) (counts : Counts) : Type 0 where
  pub enough : IsEnough 0 connections seen
  pub handled : AreHandled at_once seen.given counts
  pub others : counts.others ≡ workers
  pub out : counts.out ≡ 0
  pub beside : counts.late ≡ false

-- so many tasks were taken in, and nothing was begun
pub record TakesIn (n : ℕ) (old new : Counts) : Type 0 where
  pub links : new.links ≡ old.links
  pub others : new.others ≡ old.others
  pub declined : new.declined ≡ old.declined
  pub out : new.out + n ≡ old.out
  pub late : new.late ≡ old.late

-- tasks whose jobs had ended were taken in, none was waited for, and nothing was begun
pub record TakesEndedOnes (old new : Counts) (tasks tasks' : ℕ) : Type 0 where
  pub links : new.links ≡ old.links
  pub others : new.others ≡ old.others
  pub declined : new.declined ≡ old.declined
  pub out : new.out + tasks ≡ old.out + tasks'
  pub fewer : tasks' ≤ tasks
  pub waited : new.waited ≡ old.waited
  pub late : new.late ≡ old.late

-- Of a server that had begun nothing: the links that were given are handled, a worker was begun for each of those that
-- are held, all tasks that are out are held, and none was waited for yet.
pub record BeginsAll (at_once : ℕ) (counts : Counts) (link_tasks worker_tasks given : ℕ) : Type 0 where
  pub handled : AreHandled at_once given counts
  pub others : counts.others ≡ worker_tasks
  pub out : counts.out ≡ link_tasks + worker_tasks
  pub waited : counts.waited ≡ false
  pub late : counts.late ≡ false
