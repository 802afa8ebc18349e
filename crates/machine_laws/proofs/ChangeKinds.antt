-- The laws by kind of change, in the words of their public functions.
use Rattle.size_values.specs.declared.kinds.ObjectKind.{ObjectKind}
use Rattle.machine_laws.specs.KindsOfChange.{RowsKeep, EntriesKeep, FirstCallsKeep, NextCallsKeep, CancelsKeep, UndoCallsKeep, CancelledKeeps, FailureKeeps, SuccessKeeps, NoticesKeep, ClosingKeeps}
use Rattle.machine_laws.proofs.WholeKept.{whole-changes, whole-entered, whole-taken, whole-next, whole-undone, whole-cancelling, whole-cancelled, whole-failed, whole-succeeded, whole-telling, whole-closed}

pub rows-keep : (kind : ObjectKind) → RowsKeep kind
rows-keep kind s c of moment cs about is h = whole-changes h

pub entries-keep : EntriesKeep
entries-keep s c moment task h = whole-entered h

pub first_calls-keep : FirstCallsKeep
first_calls-keep s o call rest moment early h first calls = whole-taken s o moment early h first calls

pub next_calls-keep : NextCallsKeep
next_calls-keep s o call rest l calls = whole-next s o l calls

pub cancels-keep : CancelsKeep
cancels-keep = whole-cancelling

pub undo_calls-keep : UndoCallsKeep
undo_calls-keep s o call l undo = whole-undone s o l undo

pub cancelled-keeps : CancelledKeeps
cancelled-keeps = whole-cancelled

pub failure-keeps : FailureKeeps
failure-keeps = whole-failed

pub success-keeps : SuccessKeeps
success-keeps = whole-succeeded

pub notices-keep : NoticesKeep
notices-keep = whole-telling

pub closing-keeps : ClosingKeeps
closing-keeps = whole-closed
