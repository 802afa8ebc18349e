use Rattle.std.proofs.Common.{◌≡◌, [], ◌∷◌, ◌++◌, take, get_or, rules, sym, subst}
use Rattle.sqlite_keeper.specs.Entries.{SayEach}
use Rattle.sqlite_keeper.proofs.Saying.{say-more}
use Rattle.sqlite_keeper.proofs.entries.push_rows.Goals as goal

pub rows-init : goal.rows-init
rows-init c = subst (λ found. SayEach [] found) (sym c.requires) tt

pub rows-preserved : goal.rows-preserved
rows-preserved c =
    let item = c.row-item.result in
    let at : item ≡ get_or c.args.rows.now c.rows.row-index item = search rules in
    let found = c.push_row.new.found.items in
    let before = take c.rows.row-index c.args.rows.now in
    say-more c.args.rows.now c.rows.row-index item found c.rows-test.true
    (subst (λ row. SayEach (before ++ row ∷ []) found) at (c.in_ok-push_row.ensures before c.rows.invariant))
