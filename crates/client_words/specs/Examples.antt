-- Lists of words, each with what it says, or with nothing where it is not read.
use Rattle.std.specs.Prelude.{◌≡◌, ℕ, List, [], ◌∷◌, Option, Some, None, codes, replicate}
use Rattle.std.specs.Str.{byte}
use Rattle.client_words.specs.Words.{client_words_of}
use Rattle.client_words.specs.declared.words.Asks.{Asks}
use Rattle.client_words.specs.declared.words.Asks.TheVariants as asks
use Rattle.client_words.specs.declared.words.ClientWords.{ClientWords}
use Rattle.client_words.specs.declared.words.Door.TheVariants.{Port, Socket}
use Rattle.client_words.specs.declared.words.Format.TheVariants.{Json, Plain, Table}

-- what is asked of the server at port 1, with nothing else said
abbrev pub at_port_1 : Asks → Option ClientWords
at_port_1 asked = Some (record { asks = asked; project = codes "default"; format = Plain; door = Port 1 })

-- an id, and the same in upper case
abbrev pub id : List ℕ
id = codes "0188fb13-9d2b-8000-8000-0000000000af"

abbrev pub upper_id : List ℕ
upper_id = codes "0188FB13-9D2B-8000-8000-0000000000AF"

-- a letter, so many times
abbrev pub letters : ℕ → List ℕ
letters count = replicate count (byte "a")

pub record AreWorked : Type 0 where
  -- each command
  pub list : client_words_of (codes "list" ∷ codes "--port=1" ∷ []) ≡ at_port_1 (asks.List None)
  pub filtered : client_words_of (codes "list" ∷ codes "name eq a" ∷ codes "--port" ∷ codes "1" ∷ [])
      ≡ at_port_1 (asks.List (Some (codes "name eq a")))
  pub empty_filter : client_words_of (codes "list" ∷ codes "--port=1" ∷ [] ∷ []) ≡ at_port_1 (asks.List (Some []))
  pub launch : client_words_of (codes "launch" ∷ codes "a" ∷ codes "--port=1" ∷ []) ≡ at_port_1 (asks.Launch (codes "a"))
  pub start : client_words_of (codes "start" ∷ codes "--port=1" ∷ codes "a" ∷ []) ≡ at_port_1 (asks.Start (codes "a"))
  pub stop : client_words_of (codes "stop" ∷ codes "a-1" ∷ codes "--port=1" ∷ []) ≡ at_port_1 (asks.Stop (codes "a-1"))
  pub delete : client_words_of (codes "delete" ∷ codes "a" ∷ codes "--port=1" ∷ []) ≡ at_port_1 (asks.Delete (codes "a"))
  pub wait : client_words_of (codes "wait" ∷ id ∷ codes "--port=1" ∷ []) ≡ at_port_1 (asks.Wait id)
  pub cancel : client_words_of (codes "cancel" ∷ id ∷ codes "--port=1" ∷ []) ≡ at_port_1 (asks.Cancel id)
  pub limits : client_words_of (codes "limits" ∷ codes "--port=1" ∷ []) ≡ at_port_1 asks.Limits
  -- all options
  pub all : client_words_of
      (codes "limits" ∷ codes "--format" ∷ codes "table" ∷ codes "--socket" ∷ codes "/run/incus" ∷ codes "--project=p.1" ∷ [])
      ≡ Some (record { asks = asks.Limits; project = codes "p.1"; format = Table; door = Socket (codes "/run/incus") })
  pub json : client_words_of (codes "limits" ∷ codes "--format=json" ∷ codes "--port=65535" ∷ [])
      ≡ Some (record { asks = asks.Limits; project = codes "default"; format = Json; door = Port 65535 })
  pub plain : client_words_of (codes "limits" ∷ codes "--port=1" ∷ codes "--format=plain" ∷ []) ≡ at_port_1 asks.Limits
  -- no command, another one, a word too many, and one too few
  pub nothing : client_words_of [] ≡ None
  pub unknown : client_words_of (codes "Launch" ∷ codes "a" ∷ codes "--port=1" ∷ []) ≡ None
  pub more : client_words_of (codes "launch" ∷ codes "a" ∷ codes "b" ∷ codes "--port=1" ∷ []) ≡ None
  pub two_filters : client_words_of (codes "list" ∷ codes "a" ∷ codes "b" ∷ codes "--port=1" ∷ []) ≡ None
  pub no_place : client_words_of (codes "limits" ∷ codes "a" ∷ codes "--port=1" ∷ []) ≡ None
  pub fewer : client_words_of (codes "start" ∷ codes "--port=1" ∷ []) ≡ None
  -- names and ids that are none
  pub dash_at_end : client_words_of (codes "stop" ∷ codes "a-" ∷ codes "--port=1" ∷ []) ≡ None
  pub upper_case : client_words_of (codes "wait" ∷ upper_id ∷ codes "--port=1" ∷ []) ≡ None
  pub no_hyphens : client_words_of (codes "cancel" ∷ codes "0188fb139d2b800080000000000000af" ∷ codes "--port=1" ∷ []) ≡ None
  pub name_of_id : client_words_of (codes "wait" ∷ codes "a" ∷ codes "--port=1" ∷ []) ≡ None
  pub project : client_words_of (codes "limits" ∷ codes "--port=1" ∷ codes "--project=p/1" ∷ []) ≡ None
  pub no_project : client_words_of (codes "limits" ∷ codes "--port=1" ∷ codes "--project=" ∷ []) ≡ None
  -- no door, two, and doors that are none
  pub no_door : client_words_of (codes "limits" ∷ []) ≡ None
  pub two_doors : client_words_of (codes "limits" ∷ codes "--port=1" ∷ codes "--socket=s" ∷ []) ≡ None
  pub port_0 : client_words_of (codes "limits" ∷ codes "--port=0" ∷ []) ≡ None
  pub port_65536 : client_words_of (codes "limits" ∷ codes "--port=65536" ∷ []) ≡ None
  pub no_path : client_words_of (codes "limits" ∷ codes "--socket=" ∷ []) ≡ None
  pub long_path : client_words_of (codes "limits" ∷ codes "--socket" ∷ letters 107 ∷ [])
      ≡ Some (record { asks = asks.Limits; project = codes "default"; format = Plain; door = Socket (letters 107) })
  pub longer_path : client_words_of (codes "limits" ∷ codes "--socket" ∷ letters 108 ∷ []) ≡ None
  -- a format that is none, an option before the command, one given twice, help, and words that are only dashes
  pub format : client_words_of (codes "limits" ∷ codes "--port=1" ∷ codes "--format=yaml" ∷ []) ≡ None
  pub before : client_words_of (codes "--port=1" ∷ codes "limits" ∷ []) ≡ None
  pub twice : client_words_of (codes "limits" ∷ codes "--port=1" ∷ codes "--port=1" ∷ []) ≡ None
  pub help : client_words_of (codes "limits" ∷ codes "--help" ∷ codes "--port=1" ∷ []) ≡ None
  pub dash : client_words_of (codes "list" ∷ codes "-" ∷ codes "--port=1" ∷ []) ≡ None
  pub dashes : client_words_of (codes "list" ∷ codes "--port=1" ∷ codes "--" ∷ codes "a" ∷ []) ≡ None
