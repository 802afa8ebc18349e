use Rattle.std.proofs.Common.{◌≡◌, take}
use Rattle.plans_tasks.proofs.making.copy_texts.Given as goal

abbrev pub invariant-loop-text : goal.invariant-loop-text
invariant-loop-text l = l.copy ≡ take l.text-index l.texts
