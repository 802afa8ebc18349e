-- What contracts see of the fields, and what is true of them.
use Rattle.std.specs.Prelude.{◌≤◌, ◌-◌, length, min, vec_len, vec_capacity}
use Rattle.row_machine.specs.machine.State.{State, empty_state}
use Rattle.row_readings.specs.Rising.{AreRising}
use Rattle.core_drafts.specs.declared.lists.Lists.TheInside.{Inside as ListsInside}
use Rattle.core_drafts.specs.declared.draft.Draft.TheInside.{Inside as DraftInside}
use Rattle.core_drafts.specs.Background.{with_background}
use Rattle.core_drafts.specs.Drafted.{Listed, Drafted}
use Rattle.core_drafts.specs.Steps.{FitChanges, RoseBefore}

-- the state with these rows, statuses, operations and shares, which was told to close or not
abbrev pub state_in : ListsInside → State
state_in lists = with_background lists.background (record empty_state {
  projects = lists.projects.items;
  profiles = lists.profiles.items;
  networks = lists.networks.items;
  pools = lists.pools.items;
  volumes = lists.volumes.items;
  instances = lists.instances.items;
  snapshots = lists.snapshots.items;
  powers = lists.powers.items;
  closed = lists.closed;
})

-- the rows and operations, and the least room that a kind of rows has
abbrev pub listed : ListsInside → Listed
listed lists = record {
  state = state_in lists;
  room =
      min (vec_capacity lists.projects - vec_len lists.projects)
      (min (vec_capacity lists.profiles - vec_len lists.profiles)
      (min (vec_capacity lists.networks - vec_len lists.networks)
      (min (vec_capacity lists.pools - vec_len lists.pools)
      (min (vec_capacity lists.volumes - vec_len lists.volumes)
      (min (vec_capacity lists.instances - vec_len lists.instances)
      (min (vec_capacity lists.snapshots - vec_len lists.snapshots)
      (vec_capacity lists.powers - vec_len lists.powers)))))));
  backing = lists.background.backing;
}

-- the rows with the log of their changes
abbrev pub drafted : DraftInside → Drafted
drafted draft = record {
  state = draft.lists.state;
  log = draft.log.items;
  room = draft.lists.room;
  log_room = vec_capacity draft.log - vec_len draft.log;
  spares = draft.spares.items;
  backing = draft.lists.backing;
}

-- the log can be taken back, and there is room for it; and the rows rise, as they did before each of its changes
pub record IsDraft (draft : DraftInside) : Type 0 where
  pub fits : FitChanges draft.log.items draft.lists.state
  pub room : length draft.log.items ≤ draft.lists.room
  pub rises : AreRising draft.lists.state
  pub rose : RoseBefore draft.log.items draft.lists.state
