-- How far the search for the end of a head has come.
use Rattle.std.specs.Prelude.{◌≡◌, ℕ, ◌+◌, ◌≤◌, List, ◌∷◌, ◌++◌, length, drop, Option, Some, None, Result, Ok, Err}
use Rattle.std.specs.Option.{option_map}
use Rattle.http_heads.specs.declared.search.Search.{Search}
use Rattle.http_heads.specs.declared.search.Search.TheVariants.{Blank, Lines}
use Rattle.http_heads.specs.declared.search.After.{After}
use Rattle.http_heads.specs.declared.search.After.TheVariants.{LineEnd, Other, Open}
use Rattle.http_heads.specs.Heads.{line_end, empty_line_end, head_end}

-- the place that the search has come to
abbrev pub index_of : Search → ℕ
index_of (Blank n) = n
index_of (Lines n) = n

-- where the head ends, searched from there on
abbrev pub resumed : Search → List ℕ → Option ℕ
resumed (Blank n) bytes = option_map (λ count. n + count) (head_end (drop n bytes))
resumed (Lines n) bytes = option_map (λ count. n + count) (empty_line_end (drop n bytes))

-- whatever follows these bytes, the one search finds what the other does
pub record FindsSame (search other : Search) (bytes : List ℕ) : Type 0 where
  pub with : (more : List ℕ) → resumed search (bytes ++ more) ≡ resumed other (bytes ++ more)

-- the rest of a search finds where the head ends, or it goes on to another place and finds nothing on the way
abbrev pub GoesOn : List ℕ → Search → Result ℕ Search → Type 0
GoesOn bytes search (Ok len) = resumed search bytes ≡ Some len
GoesOn bytes search (Err reached) =
    (resumed search bytes ≡ None) × (index_of reached ≤ length bytes) × FindsSame search reached bytes

-- the search has come to a place in these bytes, and lost nothing on the way
pub record HasSearched (search : Search) (bytes : List ℕ) : Type 0 where
  pub within : index_of search ≤ length bytes
  pub same : (more : List ℕ) → head_end (bytes ++ more) ≡ resumed search (bytes ++ more)

-- the bytes after an LF begin with a line end, or with none, whatever follows them; or they are too few to tell
abbrev pub Follows : List ℕ → After → Type 0
Follows bytes (LineEnd n) = (n ≤ length bytes) × ((more : List ℕ) → line_end (bytes ++ more) ≡ Some n)
Follows bytes Other = (more : List ℕ) → line_end (bytes ++ more) ≡ None
Follows bytes Open = empty_line_end (10 ∷ bytes) ≡ None

-- an empty line begins at this place, or none, whatever follows these bytes; or none is whole there yet
abbrev pub StandsAt : List ℕ → ℕ → After → Type 0
StandsAt bytes at (LineEnd n) = (at + 1 + n ≤ length bytes) × (resumed (Lines at) bytes ≡ Some (at + 1 + n))
StandsAt bytes at Other = FindsSame (Lines at) (Lines (at + 1)) bytes
StandsAt bytes at Open = resumed (Lines at) bytes ≡ None
