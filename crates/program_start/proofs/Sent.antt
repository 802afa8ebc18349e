-- A keeper of rows may go to another thread.
use denote.Param.Send.{IsSend, sendable}
use denote.Param.SendFields.{declared_send, variants_send}
use Rattle.record_keeper.proofs.map_keeper.MapKeeper.TheSendSync as memory_crosses
use Rattle.record_keeper.specs.contracts.map_keeper.MapKeeper as memory
use Rattle.sqlite_keeper.proofs.Sent.{keeper_send}
use Rattle.file_disk.proofs.disk.FileDisk.TheSendSync as disk_crosses
use Rattle.file_disk.specs.contracts.disk.FileDisk as disk
use Rattle.file_disk.specs.contracts.disk.FileDiskDisk.TheImpl as disks
use Rattle.journal_keeper.proofs.keeper.JournalKeeper.TheSendSync as journal_crosses
use Rattle.journal_keeper.specs.contracts.keeper.JournalKeeper as journal
use Rattle.program_start.proofs.journal_trouble.JournalTrouble.TheSendSync as trouble_crosses
use Rattle.program_start.specs.contracts.journal_file.JournalFile as file
use Rattle.program_start.specs.contracts.journal_file.JournalFile.TheInside as inside
use Rattle.program_start.specs.contracts.rows_keeper.RowsKeeper as rows
use Rattle.size_values.proofs.text.Text.TheSendSync as text_crosses

-- one in memory
memory_send : IsSend memory.the_row
memory_send = search (sendable, memory_crosses.the_send) depth 9

-- one of a journal
disk_send : IsSend disk.the_row
disk_send = search (sendable, disk_crosses.the_send) depth 9

journal_send : IsSend (journal.the_row disk.the_row disks.ghosts)
journal_send = search (sendable, journal_crosses.the_send, disk_send) depth 9

inside_send : IsSend inside.the_row
inside_send = declared_send inside.the_type (
  search sendable depth 9,
  (
    search (sendable, text_crosses.the_send) depth 9,
    (
      search sendable depth 9,
      (
        search (sendable, journal_send) depth 9,
        (search sendable depth 9, (search sendable depth 9, (search (sendable, trouble_crosses.the_send) depth 9, tt))),
      ),
    ),
  ),
)

file_send : IsSend file.the_row
file_send = search (sendable, inside_send) depth 9

pub rows_send : IsSend rows.the_row
rows_send = variants_send rows.enum ((memory_send, tt), ((keeper_send, tt), ((file_send, tt), tt)))
