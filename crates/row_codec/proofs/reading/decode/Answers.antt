use Rattle.std.proofs.Common.{subst, rules}
use Rattle.row_codec.proofs.Fields.{IsBytes}
use Rattle.row_codec.proofs.Entries.{is_found, is_read}
use Rattle.row_codec.proofs.reading.decode.Goals as goal

pub returns-clause-found : goal.returns-clause-found
returns-clause-found c =
    let fits : IsBytes c.view-body.result.now = λ i. search rules in
    is_found c.args.entry.now c.row_at.result (subst IsBytes c.view-body.ensures fits) (rw (c.view-body.ensures, c.view.ensures.value) at c.row_at.ensures)

pub returns-clause-only : goal.returns-clause-only
returns-clause-only c = λ r spelled. is_read c.args.entry.now r c.row_at.result spelled (rw (c.view-body.ensures, c.view.ensures.value) at c.row_at.ensures)
