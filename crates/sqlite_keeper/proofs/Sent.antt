-- A keeper over a file may go to another thread.
use denote.RattleType.{RattleType}
use denote.Param.Send.{IsSend, sendable}
use denote.Param.SendFields.{declared_send}
use denote.Struct.Declared.{row}
use Rattle.size_values.proofs.text.Text.TheSendSync as text_crosses
use Rattle.sqlite_keeper.proofs.trouble.Trouble.TheSendSync as trouble_crosses
use Rattle.sqlite_keeper.proofs.rows_file.Identity.TheSendSync as identity_crosses
use Rattle.sqlite.proofs.connection.Connection.TheSendSync as connection_crosses
use Rattle.sqlite.below.sqlite_store.proofs.store.FileStore.TheSendSync as store_crosses
use Rattle.sqlite.below.sqlite_disk.proofs.modelled.Modelled.TheSendSync as disk_crosses
use Rattle.sqlite.specs.contracts.FileStore as store
use Rattle.sqlite.specs.contracts.Unknown as unknown
use Rattle.sqlite.below.sqlite_std_file.specs.contracts.host.Host as host
use Rattle.sqlite.below.sqlite_std_file.specs.contracts.host.HostCalls.TheImpl as calls
use Rattle.sqlite.below.sqlite_disk.specs.contracts.modelled.Modelled as modelled
use Rattle.sqlite.below.sqlite_disk.specs.contracts.modelled.ModelledDisk.TheImpl as disks
use Rattle.sqlite.below.sqlite_disk.specs.contracts.start.UnknownStart.TheImpl as starts
use Rattle.sqlite.below.sqlite_store.specs.contracts.store.FileStoreStore.TheImpl as stores
use Rattle.sqlite_keeper.specs.contracts.rows_file.RowsFile as rows
use Rattle.sqlite_keeper.specs.contracts.keeper.SqliteKeeper as keeper
use Rattle.sqlite_keeper.specs.contracts.keeper.SqliteKeeper.TheInside as inside

-- a file of the system
host_send : IsSend host.the_row
host_send = search sendable depth 9

-- what `sqlite` reads and writes of it
disk_send : IsSend (modelled.the_row host.the_row unknown.the_row calls.ghosts starts.ghosts)
disk_send = search (sendable, disk_crosses.the_send, host_send) depth 9

-- its tables, and the database over them
store_send : IsSend (store.the_row (modelled.the_row host.the_row unknown.the_row calls.ghosts starts.ghosts)
    (disks.ghosts host.the_row unknown.the_row calls.ghosts disks.no_dict starts.ghosts disks.no_dict disks.no_dict))
store_send = search (sendable, store_crosses.the_send, disk_send) depth 9

rows_send : IsSend (row rows.the_type)
rows_send = declared_send rows.the_type (
  connection_crosses.the_send
      (store.the_row (modelled.the_row host.the_row unknown.the_row calls.ghosts starts.ghosts)
      (disks.ghosts host.the_row unknown.the_row calls.ghosts disks.no_dict starts.ghosts disks.no_dict disks.no_dict))
      (stores.ghosts (modelled.the_row host.the_row unknown.the_row calls.ghosts starts.ghosts)
      (disks.ghosts host.the_row unknown.the_row calls.ghosts disks.no_dict starts.ghosts disks.no_dict disks.no_dict)
      stores.no_dict) store_send,
  (search sendable depth 9, (search (sendable, identity_crosses.the_send) depth 9, tt)),
)

inside_send : IsSend inside.the_row
inside_send = declared_send inside.the_type (
  search sendable depth 9,
  (
    search (sendable, text_crosses.the_send) depth 9,
    (
      search sendable depth 9,
      (
        search (sendable, rows_send) depth 9,
        (
          search sendable depth 9,
          (
            search sendable depth 9,
            (
              search (sendable, trouble_crosses.the_send) depth 9,
              (search (sendable, trouble_crosses.the_send) depth 9, (search sendable depth 9, tt)),
            ),
          ),
        ),
      ),
    ),
  ),
)

pub keeper_send : IsSend keeper.the_row
keeper_send = search (sendable, inside_send) depth 9
