-- The policy of a project: the word of each restriction.
use Rattle.std.specs.Prelude.{ℕ, Bool, false, List, Option, codes}
use Rattle.std.specs.Option.{option_map_or, option_copied}
use Rattle.config_lists.specs.Settings.{Settings, setting}
use Rattle.restrictions.specs.declared.policy.Policy.{Policy}
use Rattle.restrictions.specs.declared.rows.Word.{Word}
use Rattle.restrictions.specs.declared.rows.Word.TheVariants.{Block, Managed, Unprivileged}
use Rattle.restrictions.specs.declared.rows.Restriction.{Restriction}
use Rattle.restrictions.specs.declared.rows.Restriction.TheVariants as restriction
use Rattle.restrictions.specs.Words.{word_of, is_true}

-- a policy, with the list of networks as its bytes
pub record Restrictions : Type 0 where
  pub restricted : Bool
  pub nesting : Word
  pub privilege : Word
  pub container_low : Word
  pub machine_low : Word
  pub interception : Word
  pub disk : Word
  pub nic : Word
  pub gpu : Word
  pub proxy : Word
  pub unix_block : Word
  pub unix_char : Word
  pub usb : Word
  pub snapshots : Word
  pub access : Option (List ℕ)

-- what a `Policy` says
abbrev pub seen : Policy → Restrictions
seen policy = record {
  restricted = policy.restricted;
  nesting = policy.nesting;
  privilege = policy.privilege;
  container_low = policy.container_low;
  machine_low = policy.machine_low;
  interception = policy.interception;
  disk = policy.disk;
  nic = policy.nic;
  gpu = policy.gpu;
  proxy = policy.proxy;
  unix_block = policy.unix_block;
  unix_char = policy.unix_char;
  usb = policy.usb;
  snapshots = policy.snapshots;
  access = option_copied policy.access;
}

-- the policy of a project's settings: each key with its default
unfoldable pub policy_of : Settings → Restrictions
policy_of project = record {
  restricted = option_map_or is_true (setting project (codes "restricted")) false;
  nesting = word_of project (codes "restricted.containers.nesting") Block;
  privilege = word_of project (codes "restricted.containers.privilege") Unprivileged;
  container_low = word_of project (codes "restricted.containers.lowlevel") Block;
  machine_low = word_of project (codes "restricted.virtual-machines.lowlevel") Block;
  interception = word_of project (codes "restricted.containers.interception") Block;
  disk = word_of project (codes "restricted.devices.disk") Managed;
  nic = word_of project (codes "restricted.devices.nic") Managed;
  gpu = word_of project (codes "restricted.devices.gpu") Block;
  proxy = word_of project (codes "restricted.devices.proxy") Block;
  unix_block = word_of project (codes "restricted.devices.unix-block") Block;
  unix_char = word_of project (codes "restricted.devices.unix-char") Block;
  usb = word_of project (codes "restricted.devices.usb") Block;
  snapshots = word_of project (codes "restricted.snapshots") Block;
  access = setting project (codes "restricted.networks.access");
}

-- the word of a restriction
abbrev pub word_in : Restrictions → Restriction → Word
word_in policy restriction.Nesting = policy.nesting
word_in policy restriction.Privilege = policy.privilege
word_in policy restriction.ContainerLow = policy.container_low
word_in policy restriction.MachineLow = policy.machine_low
word_in policy restriction.Interception = policy.interception
word_in policy restriction.Disk = policy.disk
word_in policy restriction.Nic = policy.nic
word_in policy restriction.Gpu = policy.gpu
word_in policy restriction.Proxy = policy.proxy
word_in policy restriction.UnixBlock = policy.unix_block
word_in policy restriction.UnixChar = policy.unix_char
word_in policy restriction.Usb = policy.usb
