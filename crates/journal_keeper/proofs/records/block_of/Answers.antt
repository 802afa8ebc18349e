use Rattle.std.proofs.Common.{◌≡◌, ◌∙◌, ◌++◌, ap, subst, List, ℕ}
use Rattle.std.specs.List.{AllByRecursion}
use Rattle.journal_keeper.specs.Texts.{Commit, commit_text, IsTypedChange}
use Rattle.journal_keeper.proofs.Prefix.{block_if}
use Rattle.journal_keeper.proofs.records.block_of.Goals as goal

pub returns : goal.returns
returns c =
    let text : c.deref.result.now ≡ commit_text c.args.changes.now =
    c.deref.ensures.value ∙ c.in_ok-put_commit.ensures.bytes ∙ ap (λ (l : List ℕ). l ++ commit_text c.view.result.now) c.new-text.ensures.items ∙ ap commit_text c.view.ensures in
    let typed = subst (λ (l : Commit). AllByRecursion IsTypedChange l) c.view.ensures c.in_ok-put_commit.ensures.typed in
    block_if c.args.changes.now c.deref.result.now text c.requires typed c.block_around.ensures.fits c.block_around.result c.block_around.ensures.block
