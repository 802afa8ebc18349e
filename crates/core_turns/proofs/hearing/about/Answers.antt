use Rattle.std.proofs.Common.{◌∙◌, ap, sym}
use Rattle.std.specs.Option.{option_copied}
use Rattle.core_turns.proofs.ShortKept.{short-kept}
use Rattle.core_turns.proofs.hearing.about.Goals as goal

pub about_work-requires : goal.about_work-requires
about_work-requires c = record {
  short = short-kept c.args.view.now c.args.number c.in-Some.operation.now c.requires.short
      (sym c.kept_at.ensures ∙ ap option_copied c.in-Some.is);
}
