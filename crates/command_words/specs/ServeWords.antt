-- The words of the command line: the options of the program that serves connections.
use Rattle.std.specs.Prelude.{ℕ, ◌+◌, ◌≤◌, ◌&&◌, ◌||◌, true, Bool, false}
use Rattle.std.specs.Prelude.{if◌then◌else◌, List, [], ◌∷◌, length, Option, Some}
use Rattle.std.specs.Prelude.{None, option_map, codes}
use Rattle.std.specs.Option.{option_and_then, option_map_or, unwrap_or}
use Rattle.clap.specs.Simple.{new_shape}
use Rattle.clap.specs.Words.{App, Row, Rule, Shape, first_of, matches_of}
use Rattle.command_words.specs.Commands.{are_taken, flag_of, is_flagged, option_of}
use Rattle.command_words.specs.Numbers.{number_said}
use Rattle.command_words.specs.RowsPaths.{Taking, are_values, is_given, is_one_file, is_path, rows_path, store_options}
use Rattle.command_words.specs.declared.rows_path.RowsPath.{RowsPath}
use Rattle.command_words.specs.declared.rows_path.RowsPath.TheVariants.{Memory}
use Rattle.command_words.specs.declared.serve_setup.ServeSetup.{ServeSetup}
use Rattle.command_words.specs.declared.serve_words.Options.{Options}
use Rattle.command_words.specs.declared.serve_words.ServeWords.{ServeWords}

-- ---- the options

-- the program without its options: there is no help
abbrev pub bare_program : Shape
bare_program = record (new_shape (codes "incusd")) { no_binary_name = true; disable_help_flag = true }

-- the options
abbrev pub serve_options : List Rule
serve_options =
    option_of (codes "port")
    ∷ option_of (codes "socket")
    ∷ option_of (codes "connections")
    ∷ option_of (codes "at-once")
    ∷ option_of (codes "workers")
    ∷ option_of (codes "idle")
    ∷ option_of (codes "db")
    ∷ option_of (codes "journal")
    ∷ flag_of (codes "stop-at-end-of-input")
    ∷ flag_of (codes "log")
    ∷ []

-- the program as `clap` reads it
unfoldable pub serve_program : App
serve_program = record { top = record bare_program { rules = serve_options }; subs = [] }

-- what the words give to the options, where the program takes them
unfoldable pub parsed_options : List (List ℕ) → Option (List Row)
parsed_options words = if are_taken serve_program words then Some (matches_of serve_program words) else None

-- ---- values

-- a port of TCP
abbrev pub port_said : List ℕ → Option ℕ
port_said value = number_said 1 65535 value

-- how many connections are taken in all
abbrev pub connections_said : List ℕ → Option ℕ
connections_said value = number_said 1 1000000 value

-- how many connections are served at once
abbrev pub at_once_said : List ℕ → Option ℕ
at_once_said value = number_said 1 4096 value

-- how many seconds a connection may send nothing
abbrev pub idle_said : List ℕ → Option ℕ
idle_said value = number_said 1 3600 value

-- how many workers make the calls of background operations
abbrev pub workers_said : List ℕ → Option ℕ
workers_said value = number_said 1 8 value

-- ---- what they say

-- two workers, where the words say no number of them
abbrev pub worker_count : List Row → Option ℕ
worker_count given = option_map_or workers_said (first_of (codes "workers") given) (Some 2)

-- 512 connections at once, where the words say no number of them
abbrev pub at_once_count : List Row → Option ℕ
at_once_count given = option_map_or at_once_said (first_of (codes "at-once") given) (Some 512)

-- a minute, where the words say no number of seconds
abbrev pub idle_seconds : List Row → Option ℕ
idle_seconds given = option_map_or idle_said (first_of (codes "idle") given) (Some 60)

-- the port that is listened on: none, where the words say no number of it
abbrev pub port_number : List Row → Option (Option ℕ)
port_number given =
    option_map_or (λ value. option_map (λ n. Some n) (port_said value)) (first_of (codes "port") given) (Some None)

-- how many connections are taken: all that come, where the words say no number of them
abbrev pub connection_count : List Row → Option (Option ℕ)
connection_count given =
    option_map_or (λ value. option_map (λ n. Some n) (connections_said value)) (first_of (codes "connections") given)
    (Some None)

-- the numbers that the options say, where each is one that its option takes
abbrev pub option_numbers : List Row → Option Options
option_numbers given =
    option_and_then (λ port. option_and_then (λ connections. option_and_then (λ at_once. option_and_then (λ workers.
    option_map
    (λ idle. record { port = port; connections = connections; at_once = at_once; workers = workers; idle = idle })
    (idle_seconds given)) (worker_count given)) (at_once_count given)) (connection_count given))
    (port_number given)

-- the options that name a file: the one that is listened on, and that of the rows
abbrev pub path_options : List Taking
path_options = (codes "socket", is_path) ∷ store_options

-- whether they name a door: a port, a socket file, or both
abbrev pub is_some_door : List Row → Bool
is_some_door given = is_given (codes "port") given || is_given (codes "socket") given

-- the same, where each path is one too, rows are in one file at most, and there is a door
abbrev pub options_from : List Row → Option Options
options_from given =
    if are_values path_options given && is_one_file given && is_some_door given then option_numbers given else None

-- what the words say, where they are read
unfoldable pub options_of : List (List ℕ) → Option Options
options_of words = option_and_then options_from (parsed_options words)

-- how many connections and workers the words say, where they are read
abbrev pub serve_words_of : List (List ℕ) → Option ServeWords
serve_words_of words =
    option_map (λ options. record {
      connections = options.connections;
      at_once = options.at_once;
      workers = options.workers;
    }) (options_of words)

-- where the rows are kept
abbrev pub rows_in : List (List ℕ) → RowsPath
rows_in words = option_map_or rows_path (parsed_options words) Memory

-- the socket file that is listened on
abbrev pub socket_in : List (List ℕ) → Option (List ℕ)
socket_in words = option_and_then (first_of (codes "socket")) (parsed_options words)

-- whether the end of standard input stops the server
abbrev pub stops_in : List (List ℕ) → Bool
stops_in words = option_map_or (is_flagged (codes "stop-at-end-of-input")) (parsed_options words) false

-- whether standard error tells of each request
abbrev pub logs_in : List (List ℕ) → Bool
logs_in words = option_map_or (is_flagged (codes "log")) (parsed_options words) false

-- one ticket through the lock for each connection that is served at once, one for each worker, and one to close
abbrev pub setup_with : Option Options → Option (List ℕ) → RowsPath → Bool → Bool → ServeSetup
setup_with (Some options) socket rows stops logs = record {
  port = options.port;
  socket = socket;
  rows = rows;
  idle = options.idle;
  stops = stops;
  logs = logs;
  tickets = options.at_once + options.workers + 1;
}
setup_with None socket rows stops logs = record {
  port = None;
  socket = None;
  rows = Memory;
  idle = 0;
  stops = false;
  logs = false;
  tickets = 0;
}

-- what the words say of the outside: no door, rows in memory and no tickets where they are not read
abbrev pub serve_setup_of : List (List ℕ) → ServeSetup
serve_setup_of words =
    setup_with (options_of words) (socket_in words) (rows_in words) (stops_in words) (logs_in words)
