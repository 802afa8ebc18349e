use Rattle.std.proofs.Common.{◌≡◌, rules, string_bytes}
use Rattle.std.proofs.lemmas.Result.{IfOk-weaker}
use Rattle.serial_run.proofs.Books.{covered, lines_of_books}
use Rattle.serial_run.proofs.report.push_books.Goals as goal

pub held_of-requires : goal.held_of-requires
held_of-requires c =
    let is : c.view.inside.books ≡ c.args.view.now.books = search rules in
    covered c.args.view.now c.view.inside.books is c.requires

pub returns : goal.returns
returns c =
    let is : c.view.inside.books ≡ c.args.view.now.books = search rules in
    IfOk-weaker c.push_amounts-4.result _ _
    (λ _ last. lines_of_books c.args.view.now c.view.inside.books c.held_of.result (string_bytes c.args.text.now) _ _ _ _ is
    c.requires c.held_of.ensures c.in_ok-push_amounts.ensures c.in_ok-push_amounts-2.ensures
    c.in_ok-push_amounts-3.ensures last)
    c.push_amounts-4.ensures
