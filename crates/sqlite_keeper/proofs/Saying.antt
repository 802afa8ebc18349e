-- Rows that say entries, one after the other.
use Rattle.std.proofs.Common.{◌≡◌, ℕ, ◌+◌, ◌<◌, List, [], ◌∷◌, ◌++◌, take, get_or, length, sym, subst}
use Rattle.std.proofs.lemmas.List.{take_more}
use Rattle.size_values.specs.declared.entry.Entry.{Entry}
use Rattle.sqlite.specs.Order.{Row}
use Rattle.sqlite_keeper.specs.Entries.{Says, SayEach}

-- one more of both
pub say-push : (rows : List Row) (entries : List Entry) (row : Row) (entry : Entry) → SayEach rows entries → Says row entry
    → SayEach (rows ++ row ∷ []) (entries ++ entry ∷ [])
say-push [] [] row entry said says = (says, tt)
say-push (first ∷ rows) (other ∷ entries) row entry said says = (said.0, say-push rows entries row entry said.1 says)
say-push [] (other ∷ entries) row entry said says = absurd said
say-push (first ∷ rows) [] row entry said says = absurd said

-- the rows up to an index, and the one at it
pub say-more : (rows : List Row) (i : ℕ) (d : Row) (entries : List Entry) → i < length rows
    → SayEach (take i rows ++ get_or rows i d ∷ []) entries → SayEach (take (i + 1) rows) entries
say-more rows i d entries within = subst (λ them. SayEach them entries) (sym (take_more rows i d within))
