use Rattle.std.proofs.Common.{set, ◌∙◌, ap}
use Rattle.core_drafts.proofs.Backs.{set-back}
use Rattle.core_drafts.proofs.edits.replace_at.Goals as goal

pub returns-clause-back : goal.returns-clause-back
returns-clause-back g c =
    ap (λ x. set (set c.args.items.now.items c.args.place c.replace.new.dest) c.args.place x) (c.replace.ensures.value ∙ c.index_mut.ensures.value)
    ∙ set-back c.args.items.now.items c.args.place c.replace.new.dest c.index_mut.result.now
