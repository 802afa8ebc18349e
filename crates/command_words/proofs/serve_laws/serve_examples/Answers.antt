use Rattle.std.proofs.Common.{refl}
use Rattle.clap.proofs.OnLiterals.{clap_on_literals}
use Rattle.command_words.specs.ServeExamples.{AreWorked}
use Rattle.command_words.specs.ServeWords.{parsed_options, options_of, serve_program}
use Rattle.command_words.proofs.serve_laws.serve_examples.Goals as goal

worked : AreWorked
unfolding options_of parsed_options serve_program clap_on_literals
worked = record {
  plain = refl;
  counted = refl;
  plain_setup = refl;
  all = refl;
  nothing = refl;
  socket = refl;
  socket_setup = refl;
  no_socket = refl;
  two_sockets = refl;
  no_door = refl;
  port_0 = refl;
  connections_0 = refl;
  at_once_0 = refl;
  at_once_4097 = refl;
  idle_3601 = refl;
  workers_9 = refl;
  no_path = refl;
  journal = refl;
  no_journal = refl;
  two_files = refl;
  log_alone = refl;
  stop_alone = refl;
  log_value = refl;
  flag_value = refl;
  flag_twice = refl;
  twice = refl;
  help = refl;
  word = refl;
}

pub returns : goal.returns
returns c = worked
