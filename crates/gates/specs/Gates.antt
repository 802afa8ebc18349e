-- What was done at a gate between two moments.
use Rattle.std.specs.Prelude.{ℕ, List, Option}
use Rattle.gates.specs.Chains.{Chain}
use Rattle.gates.specs.History.{Bears, Counts, Item, Contents, ContentsBy, failures_in, idles_in, turns_in}

-- what is seen of a gate at one moment: the server, where it shows it; how many turns were made at it, and how often
-- it idled until its time was up
pub record Seen : Type 0 where
  pub contents : Option Contents
  pub turned : ℕ
  pub idled : ℕ

-- what these members tell of a gate
abbrev pub seen : {G : Type 0} → (G → Option Contents) → (G → ℕ) → (G → ℕ) → G → Seen
seen contents turned idled gate = record { contents = contents gate; turned = turned gate; idled = idled gate }

-- A history leads from one moment of a gate to another. It has as many turns and as many idles as were counted, and the
-- keeper counted each of its failures.
pub record Between (history : List Item) (old new : Seen) : Type 0 where
  pub leads : Chain ContentsBy history old.contents new.contents
  pub turns : Counts (turns_in history) old.turned new.turned
  pub idles : Counts (idles_in history) old.idled new.idled
  pub failed : Bears (failures_in history) old.contents new.contents

-- A history leads from one moment of a gate to another, and each of its items is the one that is due at its place.
pub record Walk {P : Type 0} (Due : P → Item → P → Type 0) (old new : Seen) (from to : P) : Type 0 where
  pub history : List Item
  pub gate : Between history old new
  pub due : Chain Due history from to
