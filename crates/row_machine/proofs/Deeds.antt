-- Operations and their deeds: what may be entered, and what a success tells.
use Rattle.std.proofs.Common.{◌≡◌, List, [], ◌∷◌, map, refl, ap, inl}
use Rattle.plain_lists.proofs.Elements.{Mem-right}
use Rattle.records.specs.declared.notices.Life.{Life}
use Rattle.row_machine.specs.machine.Operations.{entered}
use Rattle.row_machine.specs.shown.Notices.{life_notice, deed_lives, object_told}
use Rattle.row_machine.specs.facts.Laws.{DeletesInstances, at_moment, SuccessIsFixed}

pub deletes-instances : DeletesInstances
unfolding entered
deletes-instances s project of moment other whole = other (whole.operations.deeds.at _ (Mem-right _ s.operations.live _ (inl refl))).target

pub success-is-fixed : SuccessIsFixed
success-is-fixed task calls undo done moment = at (deed_lives task.deed) where
  at : (lives : List Life) → map (life_notice moment task.project (object_told task)) lives ≡ map (at_moment moment) (map (life_notice 0 task.project (object_told task)) lives)
  at [] = refl
  at (l ∷ ls) = ap (λ rest. life_notice moment task.project (object_told task) l ∷ rest) (at ls)
