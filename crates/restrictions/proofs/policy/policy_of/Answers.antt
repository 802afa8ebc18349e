use Rattle.restrictions.specs.Policies.{policy_of}
use Rattle.restrictions.proofs.policy.policy_of.Goals as goal

-- field by field
pub returns : goal.returns
unfolding policy_of
returns c = λ i. record {
  restricted = c.is_restricted.ensures i;
  nesting = c.word_of.ensures i;
  privilege = c.word_of-2.ensures i;
  container_low = c.word_of-3.ensures i;
  machine_low = c.word_of-4.ensures i;
  interception = c.word_of-5.ensures i;
  disk = c.word_of-6.ensures i;
  nic = c.word_of-7.ensures i;
  gpu = c.word_of-8.ensures i;
  proxy = c.word_of-9.ensures i;
  unix_block = c.word_of-10.ensures i;
  unix_char = c.word_of-11.ensures i;
  usb = c.word_of-12.ensures i;
  snapshots = c.word_of-13.ensures i;
  access = c.get.ensures i;
}
