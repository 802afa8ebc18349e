use Rattle.std.proofs.Common.{refl}
use Rattle.clap.proofs.OnLiterals.{clap_on_literals}
use Rattle.command_words.specs.RunExamples.{AreWorked}
use Rattle.command_words.specs.RunWords.{parsed_command, run_program, words_of}
use Rattle.command_words.proofs.run_laws.run_examples.Goals as goal

worked : AreWorked
unfolding words_of parsed_command run_program clap_on_literals
worked = record {
  alone = refl;
  apart = refl;
  joined = refl;
  mixed = refl;
  as_plain = refl;
  as_client = refl;
  no_dialect = refl;
  drilled_dialect = refl;
  make = refl;
  drill = refl;
  check = refl;
  nothing = refl;
  help = refl;
  second = refl;
  before = refl;
  twice = refl;
  valueless = refl;
  dashes = refl;
  zero_in_front = refl;
  too_many = refl;
  file_and_keeper = refl;
  journal_and_keeper = refl;
  file_and_host = refl;
  no_file = refl;
  journal = refl;
  two_files = refl;
  drill_of_two = refl;
  check_of_two = refl;
  no_journal = refl;
}

pub returns : goal.returns
returns c = worked
