use Rattle.std.proofs.Common.{◌∙◌, ap, List, count_by}
use Rattle.filter_texts.specs.declared.reader.Frame.{Frame}
use Rattle.filter_texts.specs.Reading.{is_nested}
use Rattle.filter_texts.proofs.Frames.{nested_pushed}
use Rattle.filter_texts.proofs.reader.Reader.nest.Goals as goal

pub returns : goal.returns
returns c =
    nested_pushed c.args.frame c.args.self.now.frames.items c.push.new.self.items _ _ c.nested_in.result
    (c.nested_in.ensures ∙ ap (λ (frames : List Frame). count_by is_nested frames) c.deref.ensures.value)
    c.if-nested_in-ge-MOST_NESTED.false c.in_ok-push.ensures.items
