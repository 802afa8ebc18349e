use Rattle.std.specs.Prelude.{ℕ, ◌-◌, List, [], ◌∷◌, ◌++◌, length, drop}

-- the last n elements of the list, or all where it has fewer
abbrev pub keep_last : {X : Type 0} → ℕ → List X → List X
keep_last n items = drop (length items - n) items

-- the list with the item at its end, without the oldest where it would have more than cap elements
abbrev pub ring_push : {X : Type 0} → ℕ → X → List X → List X
ring_push cap item items = keep_last cap (items ++ item ∷ [])
