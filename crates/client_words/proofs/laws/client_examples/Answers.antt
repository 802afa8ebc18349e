use Rattle.std.proofs.Common.{refl}
use Rattle.clap.proofs.OnLiterals.{clap_on_literals}
use Rattle.uuid.proofs.OnLiterals.{uuid_on_literals}
use Rattle.estate_rules.specs.Names.{is_instance_name, is_project_name}
use Rattle.client_words.specs.Examples.{AreWorked}
use Rattle.client_replies.specs.Forms.{is_id}
use Rattle.client_words.specs.Program.{client_program, parsed_command}
use Rattle.client_words.specs.Words.{client_words_of}
use Rattle.client_words.proofs.laws.client_examples.Goals as goal

worked : AreWorked
unfolding client_words_of parsed_command client_program is_id is_instance_name is_project_name clap_on_literals uuid_on_literals
worked = record {
  list = refl;
  filtered = refl;
  empty_filter = refl;
  launch = refl;
  start = refl;
  stop = refl;
  delete = refl;
  wait = refl;
  cancel = refl;
  limits = refl;
  all = refl;
  json = refl;
  plain = refl;
  nothing = refl;
  unknown = refl;
  more = refl;
  two_filters = refl;
  no_place = refl;
  fewer = refl;
  dash_at_end = refl;
  upper_case = refl;
  no_hyphens = refl;
  name_of_id = refl;
  project = refl;
  no_project = refl;
  no_door = refl;
  two_doors = refl;
  port_0 = refl;
  port_65536 = refl;
  no_path = refl;
  long_path = refl;
  longer_path = refl;
  format = refl;
  before = refl;
  twice = refl;
  help = refl;
  dash = refl;
  dashes = refl;
}

pub returns : goal.returns
returns c = worked
