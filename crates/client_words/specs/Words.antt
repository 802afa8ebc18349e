-- What the words of the client say.
use Rattle.std.specs.Prelude.{◌≡◌, ◌≤◌, ℕ, true, List, Option, Some, None, codes}
use Rattle.std.specs.Option.{option_and_then}
use Rattle.clap.specs.Words.{Row, first_of}
use Rattle.size_values.specs.declared.kinds.ObjectKind.TheVariants.{Instance, Project}
use Rattle.estate_rules.specs.Names.{good_name_of}
use Rattle.client_replies.specs.Forms.{is_id}
use Rattle.client_words.specs.Program.{asked_in, commands, parsed_command}
use Rattle.client_words.specs.Values.{door_said, format_said, is_socket_path, project_said}
use Rattle.client_words.specs.declared.words.Asks.{Asks}
use Rattle.client_words.specs.declared.words.Asks.TheVariants as asks
use Rattle.client_words.specs.declared.words.ClientWords.{ClientWords}
use Rattle.client_words.specs.declared.words.Door.{Door}
use Rattle.client_words.specs.declared.words.Door.TheVariants.{Port, Socket}
use Rattle.client_words.specs.declared.words.Format.{Format}

-- what is asked for and what the options say, where each of them is one that the words may say
abbrev pub words_with : Option Asks → Option Door → Option (List ℕ) → Option Format → Option ClientWords
words_with (Some asked) (Some door) (Some project) (Some format) =
    Some (record { asks = asked; project = project; format = format; door = door })
words_with (Some asked) (Some door) (Some project) None = None
words_with (Some asked) (Some door) None format = None
words_with (Some asked) None project format = None
words_with None door project format = None

-- what a command says, by its word
abbrev pub words_of_command : List ℕ → List Row → Option ClientWords
words_of_command word given =
    words_with (asked_in commands word given) (door_said (first_of (codes "port") given) (first_of (codes "socket") given))
    (project_said (first_of (codes "project") given)) (format_said (first_of (codes "format") given))

-- what the words say, where they are read
unfoldable pub client_words_of : List (List ℕ) → Option ClientWords
client_words_of words = option_and_then (λ command. words_of_command command.0 command.1) (parsed_command words)

-- ---- what is known of it

-- the name is a good one, and the id is an id
abbrev pub IsGoodAsks : Asks → Type 0
IsGoodAsks (asks.List filter) = Unit {0}
IsGoodAsks (asks.Launch name) = good_name_of Instance name ≡ true
IsGoodAsks (asks.Start name) = good_name_of Instance name ≡ true
IsGoodAsks (asks.Stop name) = good_name_of Instance name ≡ true
IsGoodAsks (asks.Delete name) = good_name_of Instance name ≡ true
IsGoodAsks (asks.Wait id) = is_id id ≡ true
IsGoodAsks (asks.Cancel id) = is_id id ≡ true
IsGoodAsks asks.Limits = Unit {0}

-- the port is one of TCP, and the path fits the address of a socket
abbrev pub IsGoodDoor : Door → Type 0
IsGoodDoor (Port port) = (1 ≤ port) × (port ≤ 65535)
IsGoodDoor (Socket path) = is_socket_path path ≡ true

pub record AreGood (words : ClientWords) : Type 0 where
  pub asks : IsGoodAsks words.asks
  pub project : good_name_of Project words.project ≡ true
  pub door : IsGoodDoor words.door
