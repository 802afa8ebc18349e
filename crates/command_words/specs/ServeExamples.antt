-- Lists of words, each with what it says, or with nothing where it is not read.
use Rattle.std.specs.Prelude.{◌≡◌, ℕ, true, false, List, [], ◌∷◌, Option, Some, None, codes}
use Rattle.command_words.specs.ServeWords.{serve_setup_of, serve_words_of}
use Rattle.command_words.specs.declared.rows_path.RowsPath.TheVariants.{Database, Journal, Memory}
use Rattle.command_words.specs.declared.serve_setup.ServeSetup.{ServeSetup}

-- nothing to make a server of
abbrev pub not_read : ServeSetup
not_read = record {
  port = None;
  socket = None;
  rows = Memory;
  idle = 0;
  stops = false;
  logs = false;
  tickets = 0;
}

-- a port, and how many connections are taken
abbrev pub both : List (List ℕ)
both = codes "--port" ∷ codes "8443" ∷ codes "--connections" ∷ codes "4" ∷ []

pub record AreWorked : Type 0 where
  -- a port alone, and all that stand together
  pub plain : serve_words_of (codes "--port" ∷ codes "8443" ∷ [])
      ≡ Some (record { connections = None; at_once = 512; workers = 2 })
  pub counted : serve_words_of both ≡ Some (record { connections = Some 4; at_once = 512; workers = 2 })
  pub plain_setup : serve_setup_of both
      ≡ record { port = Some 8443; socket = None; rows = Memory; idle = 60; stops = false; logs = false; tickets = 515 }
  pub all : serve_setup_of
      (codes "--db=f" ∷ codes "--socket=s" ∷ codes "--workers=8" ∷ codes "--connections=1000000" ∷ codes "--port=1" ∷ codes "--at-once=4096"
      ∷ codes "--idle=3600" ∷ codes "--log" ∷ codes "--stop-at-end-of-input" ∷ [])
      ≡ record {
        port = Some 1;
        socket = Some (codes "s");
        rows = Database (codes "f");
        idle = 3600;
        stops = true;
        logs = true;
        tickets = 4105;
      }
  -- a socket file alone, one without a path, and two
  pub socket : serve_words_of (codes "--socket" ∷ codes "s" ∷ [])
      ≡ Some (record { connections = None; at_once = 512; workers = 2 })
  pub socket_setup : serve_setup_of (codes "--socket" ∷ codes "s" ∷ [])
      ≡ record {
        port = None;
        socket = Some (codes "s");
        rows = Memory;
        idle = 60;
        stops = false;
        logs = false;
        tickets = 515;
      }
  pub no_socket : serve_setup_of (codes "--socket=" ∷ both) ≡ not_read
  pub two_sockets : serve_words_of (codes "--socket=s" ∷ codes "--socket=t" ∷ []) ≡ None
  -- there is no door, a number is out of range, or there is a word more
  pub nothing : serve_setup_of [] ≡ not_read
  pub no_door : serve_words_of (codes "--connections=4" ∷ []) ≡ None
  pub port_0 : serve_setup_of (codes "--port" ∷ codes "0" ∷ codes "--connections" ∷ codes "4" ∷ []) ≡ not_read
  pub connections_0 : serve_words_of (codes "--connections=0" ∷ codes "--port=8443" ∷ []) ≡ None
  pub at_once_0 : serve_words_of (codes "--at-once=0" ∷ both) ≡ None
  pub at_once_4097 : serve_words_of (codes "--at-once=4097" ∷ both) ≡ None
  pub idle_3601 : serve_words_of (codes "--idle=3601" ∷ both) ≡ None
  pub workers_9 : serve_words_of (codes "--workers=9" ∷ both) ≡ None
  pub no_path : serve_setup_of (codes "--db=" ∷ both) ≡ not_read
  -- a journal, one without a path, and one beside a database
  pub journal : serve_setup_of (codes "--journal" ∷ codes "f" ∷ both)
      ≡ record { port = Some 8443; socket = None; rows = Journal (codes "f"); idle = 60; stops = false; logs = false; tickets = 515 }
  pub no_journal : serve_setup_of (codes "--journal=" ∷ both) ≡ not_read
  pub two_files : serve_words_of (codes "--journal=f" ∷ codes "--db=g" ∷ both) ≡ None
  -- each flag says its own; it takes no value, and stands once
  pub log_alone : serve_setup_of (codes "--log" ∷ both)
      ≡ record { port = Some 8443; socket = None; rows = Memory; idle = 60; stops = false; logs = true; tickets = 515 }
  pub stop_alone : serve_setup_of (codes "--stop-at-end-of-input" ∷ both)
      ≡ record { port = Some 8443; socket = None; rows = Memory; idle = 60; stops = true; logs = false; tickets = 515 }
  pub log_value : serve_words_of (codes "--log=true" ∷ both) ≡ None
  pub flag_value : serve_words_of (codes "--stop-at-end-of-input=true" ∷ both) ≡ None
  pub flag_twice : serve_words_of (codes "--stop-at-end-of-input" ∷ codes "--stop-at-end-of-input" ∷ both) ≡ None
  pub twice : serve_words_of (codes "--port=8443" ∷ both) ≡ None
  pub help : serve_words_of (codes "--help" ∷ both) ≡ None
  pub word : serve_words_of (codes "serve" ∷ both) ≡ None
