use Rattle.http_heads.proofs.SearchLemmas.{rest_of_slice, StandsAt-follows}
use Rattle.http_heads.proofs.search.after_line_feed.Goals as goal

pub returns : goal.returns
returns c =
    StandsAt-follows _ _ _ c.requires.within c.requires.is (rw rest_of_slice at c.line_end.ensures)
