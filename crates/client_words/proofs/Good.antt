-- What is known of the words that are read.
use Rattle.std.proofs.Common.{◌≡◌, ◌≤◌, ◌&&◌, ℕ, Bool, true, false, cond, refl, sym, subst, List, [], ◌∷◌, codes, Option, Some, None}
use Rattle.std.proofs.Common.{option_map, IfSome, IfOk, Result, Ok, Err, arith}
use Rattle.std.proofs.lemmas.Bool.Decides.{nat_tests}
use Rattle.std.specs.Option.{option_and_then}
use Rattle.std.specs.Prelude.{nat_le}
use Rattle.std.specs.Str.{bytes_eq}
use Rattle.std.specs.Str.Parse.{digits_value}
use Rattle.clap.specs.Words.{Row, first_of}
use Rattle.size_values.specs.declared.kinds.ObjectKind.TheVariants.{Instance, Project}
use Rattle.size_values.specs.declared.memory.NoMemory.{NoMemory}
use Rattle.estate_rules.specs.Names.{good_name_of, is_project_name}
use Rattle.command_words.specs.Numbers.{is_numeral}
use Rattle.command_words.specs.ServeWords.{port_said}
use Rattle.client_replies.specs.Forms.{is_id}
use Rattle.client_words.specs.Program.{CommandRow, asked_in, commands, parsed_command}
use Rattle.client_words.specs.Values.{door_said, is_socket_path, passed, project_said, socket_said}
use Rattle.client_words.specs.Words.{AreGood, IsGoodAsks, IsGoodDoor, client_words_of, words_with}
use Rattle.client_words.specs.declared.words.Asks.{Asks}
use Rattle.client_words.specs.declared.words.Asks.TheVariants as asks
use Rattle.client_words.specs.declared.words.ClientWords.{ClientWords}
use Rattle.client_words.specs.declared.words.Door.{Door}
use Rattle.client_words.specs.declared.words.Door.TheVariants.{Port, Socket}
use Rattle.client_words.specs.declared.words.Format.{Format}

-- ---- what options hold

-- what a chain comes to comes from something
comes_from : {A B : Type 0} (f : A → Option B) (o : Option A) (b : B) → option_and_then f o ≡ Some b
    → (a : A) × ((o ≡ Some a) × (f a ≡ Some b))
comes_from f None b is = absurd (cc is)
comes_from f (Some a) b is = (a, (refl, is))

mapped_from : {A B : Type 0} (f : A → B) (o : Option A) (b : B) → option_map f o ≡ Some b → (a : A) × ((o ≡ Some a) × (f a ≡ b))
mapped_from f None b is = absurd (cc is)
mapped_from f (Some a) b is = (a, (refl, cc))

-- a choice that comes to something was made
chosen : {A : Type 0} (b : Bool) (x y : A) → cond b (Some x) None ≡ Some y → (b ≡ true) × (x ≡ y)
chosen true x y is = (refl, cc)
chosen false x y is = absurd (cc is)

-- a value that passed a test passes it
passes : (test : List ℕ → Bool) (value said : List ℕ) → passed test value ≡ Some said → test said ≡ true
passes test value said is =
    let found = chosen (test value) value said is in subst (λ v. test v ≡ true) found.1 found.0

-- ---- what is asked

-- a command asks for nothing but what is good
IsGoodRow : CommandRow → Type 0
IsGoodRow command = (given : List Row) (asked : Asks) → command.2 given ≡ Some asked → IsGoodAsks asked

-- so does one whose place takes the values that pass a test
by_test : (test : List ℕ → Bool) (asking : List ℕ → Asks)
    → ((value : List ℕ) → test value ≡ true → IsGoodAsks (asking value))
    → (place : Option (List ℕ)) (asked : Asks) → option_map asking (option_and_then (passed test) place) ≡ Some asked
    → IsGoodAsks asked
by_test test asking good place asked is =
    let made = mapped_from asking (option_and_then (passed test) place) asked is in
    let told = comes_from (passed test) place made.0 made.1.0 in
    subst IsGoodAsks made.1.1 (good made.0 (passes test told.0 made.0 told.1.1))

-- one that asks for a thing whatever the words give
fixed : (thing asked : Asks) → IsGoodAsks thing → Some thing ≡ Some asked → IsGoodAsks asked
fixed thing asked good is = let same : thing ≡ asked = cc is in subst IsGoodAsks same good

-- the commands of a table, one after the other
AreGoodRows : List CommandRow → Type 0
AreGoodRows [] = Unit {0}
AreGoodRows (command ∷ more) = IsGoodRow command × AreGoodRows more

either : (command : CommandRow) (word : List ℕ) (given : List Row) (later : Option Asks) (asked : Asks) → IsGoodRow command
    → (later ≡ Some asked → IsGoodAsks asked) → (test : Bool) → cond test (command.2 given) later ≡ Some asked → IsGoodAsks asked
unfolding IsGoodRow
either command word given later asked here after true is = here given asked is
either command word given later asked here after false is = after is

good_asked : (table : List CommandRow) (word : List ℕ) (given : List Row) (asked : Asks) → AreGoodRows table
    → asked_in table word given ≡ Some asked → IsGoodAsks asked
unfolding AreGoodRows
good_asked [] word given asked good is = absurd (cc is)
good_asked (command ∷ more) word given asked good is =
    either command word given (asked_in more word given) asked good.0 (good_asked more word given asked good.1)
    (bytes_eq word command.0) is

-- and all of them
good_commands : AreGoodRows commands
unfolding AreGoodRows IsGoodRow
good_commands = (
  λ given asked is. fixed (asks.List (first_of (codes "filter") given)) asked tt is,
  (
    λ given asked is. by_test (good_name_of Instance) asks.Launch (λ name good. good) (first_of (codes "name") given) asked is,
    (
      λ given asked is. by_test (good_name_of Instance) asks.Start (λ name good. good) (first_of (codes "name") given) asked is,
      (
        λ given asked is. by_test (good_name_of Instance) asks.Stop (λ name good. good) (first_of (codes "name") given) asked is,
        (
          λ given asked is. by_test (good_name_of Instance) asks.Delete (λ name good. good) (first_of (codes "name") given) asked is,
          (
            λ given asked is. by_test is_id asks.Wait (λ id good. good) (first_of (codes "id") given) asked is,
            (
              λ given asked is. by_test is_id asks.Cancel (λ id good. good) (first_of (codes "id") given) asked is,
              (
                λ given asked is. fixed asks.Limits asked tt is,
                tt,
              ),
            ),
          ),
        ),
      ),
    ),
  ),
)

-- ---- the options

in_range : (numeral : Bool) (value : ℕ) → (numeral && nat_le 1 value && nat_le value 65535) ≡ true → (1 ≤ value) × (value ≤ 65535)
in_range numeral value is = (low numeral value is, high numeral value is) where
  low : (numeral : Bool) (value : ℕ) → (numeral && nat_le 1 value && nat_le value 65535) ≡ true → 1 ≤ value
  low numeral value is = grind (arith, nat_tests)

  high : (numeral : Bool) (value : ℕ) → (numeral && nat_le 1 value && nat_le value 65535) ≡ true → value ≤ 65535
  high numeral value is = grind (arith, nat_tests)

-- a port is one of TCP
good_port : (value : List ℕ) (port : ℕ) → port_said value ≡ Some port → (1 ≤ port) × (port ≤ 65535)
good_port value port is =
    let number : ℕ = digits_value 10 value in
    let found = chosen (is_numeral value && nat_le 1 number && nat_le number 65535) number port is in
    subst (λ n. (1 ≤ n) × (n ≤ 65535)) found.1 (in_range (is_numeral value) number found.0)

at_port : (value : List ℕ) (door : Door) → option_map Port (port_said value) ≡ Some door → IsGoodDoor door
at_port value door is =
    let made = mapped_from Port (port_said value) door is in subst IsGoodDoor made.1.1 (good_port value made.0 made.1.0)

at_path : (value : List ℕ) (door : Door) → socket_said value ≡ Some door → IsGoodDoor door
at_path value door is =
    let made = mapped_from Socket (passed is_socket_path value) door is in
    subst IsGoodDoor made.1.1 (passes is_socket_path value made.0 made.1.0)

good_door : (port socket : Option (List ℕ)) (door : Door) → door_said port socket ≡ Some door → IsGoodDoor door
good_door (Some port) (Some path) door is = absurd (cc is)
good_door (Some port) None door is = at_port port door is
good_door None (Some path) door is = at_path path door is
good_door None None door is = absurd (cc is)

default_is_good : good_name_of Project (codes "default") ≡ true
unfolding is_project_name
default_is_good = refl

good_project : (value : Option (List ℕ)) (project : List ℕ) → project_said value ≡ Some project → good_name_of Project project ≡ true
good_project (Some value) project is = passes (good_name_of Project) value project is
good_project None project is =
    let same : codes "default" ≡ project = cc is in subst (λ name. good_name_of Project name ≡ true) same default_is_good

-- ---- the whole

good_with : (asked : Option Asks) (door : Option Door) (project : Option (List ℕ)) (format : Option Format) (words : ClientWords)
    → ((a : Asks) → asked ≡ Some a → IsGoodAsks a) → ((d : Door) → door ≡ Some d → IsGoodDoor d)
    → ((p : List ℕ) → project ≡ Some p → good_name_of Project p ≡ true)
    → words_with asked door project format ≡ Some words → AreGood words
good_with (Some asked) (Some door) (Some project) (Some format) words asks doors projects is =
    let made : ClientWords = record { asks = asked; project = project; format = format; door = door } in
    let same : made ≡ words = cc is in
    subst AreGood same (record { asks = asks asked refl; project = projects project refl; door = doors door refl })
good_with (Some asked) (Some door) (Some project) None words asks doors projects is = absurd (cc is)
good_with (Some asked) (Some door) None format words asks doors projects is = absurd (cc is)
good_with (Some asked) None project format words asks doors projects is = absurd (cc is)
good_with None door project format words asks doors projects is = absurd (cc is)

good_words : (words : List (List ℕ)) (said : ClientWords) → client_words_of words ≡ Some said → AreGood said
unfolding client_words_of
good_words words said is =
    let command = comes_from _ (parsed_command words) said is in
    let given : List Row = command.0.1 in
    good_with _ _ _ _ said (λ asked is. good_asked commands command.0.0 given asked good_commands is)
    (λ door is. good_door (first_of (codes "port") given) (first_of (codes "socket") given) door is)
    (λ project is. good_project (first_of (codes "project") given) project is) command.1.1

good_if_said : (words : List (List ℕ)) (said : Option ClientWords) → said ≡ client_words_of words → IfSome said AreGood
good_if_said words None is = tt
good_if_said words (Some said) is = good_words words said (sym is)

-- the same of a result
pub good_any : (words : List (List ℕ)) (result : Result (Option ClientWords) NoMemory)
    → IfOk result (λ said. said ≡ client_words_of words) → IfOk result (λ said. IfSome said AreGood)
good_any words (Ok said) is = good_if_said words said is
good_any words (Err m) is = tt
