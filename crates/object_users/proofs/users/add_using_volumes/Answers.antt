use Rattle.std.proofs.Common.{◌++◌, map, sym, ap, ◌∙◌, append-nil}
use Rattle.records.specs.declared.rows.Row.TheVariants as row
use Rattle.object_users.proofs.Idle.{no-volume-uses}
use Rattle.object_users.proofs.users.add_using_volumes.Goals as goal

pub returns-in-Project : goal.returns-in-Project
returns-in-Project c =
    sym (append-nil _) ∙ ap (λ vs. c.args.all.now.items ++ map row.Volume vs) (sym (no-volume-uses c.args.of.now c.args.view.now.volumes c.in-Project.is))
