use Rattle.http_heads.proofs.SearchLemmas.{HasSearched-ok, HasSearched-none, HasSearched-further}
use Rattle.http_heads.proofs.LengthLemmas.{found_within}
use Rattle.http_heads.proofs.search.end_of_head.Goals as goal

pub returns-in-Blank-clause-found : goal.returns-in-Blank-clause-found
returns-in-Blank-clause-found c = let h = rw c.in-Blank.is at c.requires in HasSearched-ok _ h c.end_after_blank.ensures

pub returns-in-Blank-clause-within : goal.returns-in-Blank-clause-within
returns-in-Blank-clause-within c =
    let h = rw c.in-Blank.is at c.requires in found_within _ _ (HasSearched-ok _ h c.end_after_blank.ensures)

pub returns-in-Blank-clause-none : goal.returns-in-Blank-clause-none
returns-in-Blank-clause-none c = let h = rw c.in-Blank.is at c.requires in HasSearched-none _ h c.end_after_blank.ensures

pub returns-in-Blank-clause-reached : goal.returns-in-Blank-clause-reached
returns-in-Blank-clause-reached c = let h = rw c.in-Blank.is at c.requires in HasSearched-further _ h c.end_after_blank.ensures

pub returns-in-Lines-clause-found : goal.returns-in-Lines-clause-found
returns-in-Lines-clause-found c = let h = rw c.in-Lines.is at c.requires in HasSearched-ok _ h c.end_in_lines.ensures

pub returns-in-Lines-clause-within : goal.returns-in-Lines-clause-within
returns-in-Lines-clause-within c =
    let h = rw c.in-Lines.is at c.requires in found_within _ _ (HasSearched-ok _ h c.end_in_lines.ensures)

pub returns-in-Lines-clause-none : goal.returns-in-Lines-clause-none
returns-in-Lines-clause-none c = let h = rw c.in-Lines.is at c.requires in HasSearched-none _ h c.end_in_lines.ensures

pub returns-in-Lines-clause-reached : goal.returns-in-Lines-clause-reached
returns-in-Lines-clause-reached c = let h = rw c.in-Lines.is at c.requires in HasSearched-further _ h c.end_in_lines.ensures
