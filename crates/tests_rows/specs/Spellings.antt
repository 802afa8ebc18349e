-- Rows as entries and entries as rows, and the sizes of bodies: they are written out byte by byte.
use Rattle.std.specs.Prelude.{ℕ, ◌+◌, false, List, [], ◌∷◌, ◌++◌, map, length, take, replicate, codes}
use Rattle.std.specs.Prelude.{Result, Ok, Err}
use Rattle.std.specs.List.{range_with_len}
use Rattle.row_codec.specs.Sizes.{capped}
use Rattle.config_lists.specs.Settings.{Settings}
use Rattle.records.specs.declared.rows.Driver.TheVariants as driver
use Rattle.records.specs.declared.rows.Row.{Row}
use Rattle.records.specs.declared.rows.Row.TheVariants as row
use Rattle.row_codec.specs.Reading.{row_at, mapped}
use Rattle.row_codec.specs.Spelling.{entry_of, body_of}
use Rattle.row_codec.specs.declared.damage.Damaged.{Damaged}
use Rattle.row_codec.specs.declared.damage.Damaged.TheVariants as damaged
use Rattle.size_values.specs.declared.entry.Entry.{Entry}
use Rattle.size_values.specs.declared.kinds.Kind.TheVariants as kind
use Rattle.tests_rows.specs.Tables.{Agree, entry}

-- ---- the pieces of which bodies are made: each is one byte, number, text or count

abbrev pub version : List ℕ
version = 1 ∷ []

abbrev pub none : List ℕ
none = 0 ∷ 0 ∷ 0 ∷ 0 ∷ []

abbrev pub one : List ℕ
one = 0 ∷ 0 ∷ 0 ∷ 1 ∷ []

abbrev pub two : List ℕ
two = 0 ∷ 0 ∷ 0 ∷ 2 ∷ []

abbrev pub first_second : List ℕ
first_second = 0 ∷ 0 ∷ 0 ∷ 0 ∷ 0 ∷ 0 ∷ 0 ∷ 0 ∷ []

-- the second 1700000000
abbrev pub later : List ℕ
later = 0 ∷ 0 ∷ 0 ∷ 0 ∷ 0x65 ∷ 0x53 ∷ 0xf1 ∷ 0 ∷ []

-- the second 253402300799, and the one after it
abbrev pub last_second : List ℕ
last_second = 0 ∷ 0 ∷ 0 ∷ 0x3a ∷ 0xff ∷ 0xf4 ∷ 0x41 ∷ 0x7f ∷ []

abbrev pub after_last : List ℕ
after_last = 0 ∷ 0 ∷ 0 ∷ 0x3a ∷ 0xff ∷ 0xf4 ∷ 0x41 ∷ 0x80 ∷ []

-- the word `café` in UTF-8
abbrev pub cafe_text : List ℕ
cafe_text = codes "cafÃ©"

abbrev pub cafe : List ℕ
cafe = 0 ∷ 0 ∷ 0 ∷ 5 ∷ cafe_text

abbrev pub key : List ℕ
key = 0 ∷ 0 ∷ 0 ∷ 6 ∷ codes "user.a"

abbrev pub next_key : List ℕ
next_key = 0 ∷ 0 ∷ 0 ∷ 6 ∷ codes "user.b"

abbrev pub value : List ℕ
value = 0 ∷ 0 ∷ 0 ∷ 1 ∷ codes "1"

abbrev pub eth0 : List ℕ
eth0 = 0 ∷ 0 ∷ 0 ∷ 4 ∷ codes "eth0"

abbrev pub root : List ℕ
root = 0 ∷ 0 ∷ 0 ∷ 4 ∷ codes "root"

abbrev pub web : List ℕ
web = 0 ∷ 0 ∷ 0 ∷ 3 ∷ codes "web"

-- ---- spellings

-- a kind and a key, and the pieces of a body
abbrev pub Line : Type 0
Line = ℕ × List ℕ × List (List ℕ)

abbrev pub joined : List (List ℕ) → List ℕ
joined [] = []
joined (piece ∷ pieces) = piece ++ joined pieces

abbrev pub entry_at : Line → Entry
entry_at line = record { kind = line.0; key = line.1; body = joined line.2 }

abbrev pub read : Line → Result Row Damaged
read line = row_at line.0 line.1 (joined line.2)

-- rows of each kind, with all parts filled and with all parts empty
abbrev pub spellings : List Line
spellings =
    (1, codes "lab", version ∷ none ∷ one ∷ key ∷ value ∷ [])
    ∷ (1, codes "lab", version ∷ cafe ∷ two ∷ key ∷ value ∷ next_key ∷ cafe ∷ [])
    ∷ (
      2,
      codes "lab/web",
      version ∷ cafe ∷ one ∷ key ∷ value ∷ two ∷ eth0 ∷ one ∷ key ∷ value ∷ root ∷ two ∷ key
          ∷ value ∷ next_key ∷ value ∷ [],
    )
    ∷ (3, codes "lab/br0", version ∷ cafe ∷ two ∷ key ∷ value ∷ next_key ∷ cafe ∷ [])
    ∷ (4, codes "p0", version ∷ (3 ∷ []) ∷ cafe ∷ two ∷ key ∷ value ∷ next_key ∷ cafe ∷ [])
    ∷ (5, codes "lab/p0/v", version ∷ cafe ∷ one ∷ key ∷ value ∷ last_second ∷ [])
    ∷ (
      6,
      codes "lab/c1",
      version ∷ (1 ∷ []) ∷ (1 ∷ []) ∷ cafe ∷ cafe ∷ later ∷ two ∷ root ∷ eth0 ∷ one ∷ key ∷ value
          ∷ one ∷ root ∷ one ∷ key ∷ value ∷ [],
    )
    ∷ (
      7,
      codes "lab/c1/s0",
      version ∷ later ∷ last_second ∷ one ∷ cafe ∷ one ∷ key ∷ value ∷ one ∷ root ∷ one ∷ key
          ∷ value ∷ [],
    )
    ∷ (1, codes "0", version ∷ none ∷ none ∷ [])
    ∷ (2, codes "0/0", version ∷ none ∷ none ∷ none ∷ [])
    ∷ (2, codes "0/1", version ∷ none ∷ none ∷ one ∷ none ∷ none ∷ [])
    ∷ (3, codes "0/00", version ∷ none ∷ none ∷ [])
    ∷ (4, codes "0", version ∷ (0 ∷ []) ∷ none ∷ none ∷ [])
    ∷ (5, codes "0/0/0", version ∷ none ∷ none ∷ first_second ∷ [])
    ∷ (6, codes "0/a", version ∷ (0 ∷ []) ∷ (0 ∷ []) ∷ none ∷ none ∷ first_second ∷ none ∷ none ∷ none ∷ [])
    ∷ (7, codes "0/a/0", version ∷ first_second ∷ first_second ∷ none ∷ none ∷ none ∷ [])
    ∷ []

-- What is read of a body that is cut before each byte of a piece after the pieces that stand before it, and of the
-- whole body with one byte more.
abbrev pub cut : ℕ → List ℕ → List ℕ → List (List ℕ) → List (Result Row Damaged)
cut of name front [] = row_at of name (front ++ 0 ∷ []) ∷ []
cut of name front (piece ∷ pieces) =
    map (λ bytes. row_at of name (front ++ take bytes piece)) (range_with_len 0 (length piece))
    ++ cut of name (front ++ piece) pieces

-- each of these is damaged where the piece begins, or where the whole body ends
abbrev pub damaged_from : ℕ → List (List ℕ) → List (Result Row Damaged)
damaged_from place [] = Err (damaged.Body place) ∷ []
damaged_from place (piece ∷ pieces) =
    replicate (length piece) (Err (damaged.Body place)) ++ damaged_from (place + length piece) pieces

-- ---- damage

-- the body of a project with one setting and no description
abbrev pub lab : List (List ℕ)
lab = version ∷ none ∷ one ∷ key ∷ value ∷ []

-- Entries of no row: a kind and a key, the pieces of a body, and what is damaged there. The kind is judged before the
-- key, and the key before the body, at the place of its first damage.
abbrev pub damages : List (ℕ × List ℕ × List (List ℕ) × Damaged)
damages =
    (1, codes "lab", version ∷ none ∷ one ∷ key ∷ value ∷ (0 ∷ []) ∷ [], damaged.Body 24)
    ∷ (1, codes "lab", (2 ∷ []) ∷ none ∷ one ∷ key ∷ value ∷ [], damaged.Body 0)
    ∷ (9, codes "lab", lab, damaged.Kind)
    ∷ (1, codes "a/b", lab, damaged.Key)
    ∷ (0, codes "lab", [], damaged.Kind)
    ∷ (8, codes "lab", [], damaged.Kind)
    ∷ (255, codes "", [], damaged.Kind)
    ∷ (1, codes "", [], damaged.Key)
    ∷ (1, codes "-lab", [], damaged.Key)
    ∷ (1, codes "lab/", [], damaged.Key)
    ∷ (2, codes "lab", [], damaged.Key)
    ∷ (2, codes "lab/", [], damaged.Key)
    ∷ (2, codes "/web", [], damaged.Key)
    ∷ (2, codes "lab/web/x", [], damaged.Key)
    ∷ (2, codes "a_b/web", [], damaged.Key)
    ∷ (3, codes "lab/b", [], damaged.Key)
    ∷ (4, codes "p0/", [], damaged.Key)
    ∷ (5, codes "lab/p0", [], damaged.Key)
    ∷ (5, codes "lab/p0/", [], damaged.Key)
    ∷ (5, codes "lab/p0/v/w", [], damaged.Key)
    ∷ (6, codes "lab/7a", [], damaged.Key)
    ∷ (6, codes "lab/c1/", [], damaged.Key)
    ∷ (7, codes "lab/c1", [], damaged.Key)
    ∷ (7, codes "lab/7a/s0", [], damaged.Key)
    ∷ (1, codes "lab", [], damaged.Body 0)
    ∷ (1, codes "lab", (0 ∷ []) ∷ none ∷ none ∷ [], damaged.Body 0)
    ∷ (1, codes "lab", version ∷ (0 ∷ 0 ∷ 0 ∷ 1 ∷ 255 ∷ []) ∷ none ∷ [], damaged.Body 1)
    ∷ (1, codes "lab", version ∷ (255 ∷ 255 ∷ 255 ∷ 255 ∷ 97 ∷ 98 ∷ 99 ∷ []) ∷ [], damaged.Body 1)
    ∷ (1, codes "lab", version ∷ none ∷ two ∷ next_key ∷ value ∷ key ∷ value ∷ [], damaged.Body 24)
    ∷ (1, codes "lab", version ∷ none ∷ two ∷ key ∷ value ∷ key ∷ value ∷ [], damaged.Body 24)
    ∷ (1, codes "lab", version ∷ none ∷ one ∷ none ∷ value ∷ [], damaged.Body 9)
    ∷ (1, codes "lab", version ∷ none ∷ one ∷ key ∷ none ∷ [], damaged.Body 19)
    ∷ (1, codes "lab", version ∷ none ∷ one ∷ key ∷ (0 ∷ 0 ∷ 0 ∷ 1 ∷ 128 ∷ []) ∷ [], damaged.Body 19)
    ∷ (1, codes "lab", version ∷ none ∷ two ∷ key ∷ value ∷ [], damaged.Body 24)
    ∷ (1, codes "lab", version ∷ none ∷ none ∷ key ∷ [], damaged.Body 9)
    ∷ (2, codes "lab/web", version ∷ none ∷ none ∷ two ∷ root ∷ none ∷ eth0 ∷ none ∷ [], damaged.Body 25)
    ∷ (2, codes "lab/web", version ∷ none ∷ none ∷ two ∷ root ∷ none ∷ root ∷ none ∷ [], damaged.Body 25)
    ∷ (2, codes "lab/web", version ∷ none ∷ none ∷ one ∷ root ∷ one ∷ none ∷ value ∷ [], damaged.Body 25)
    ∷ (4, codes "p0", version ∷ (4 ∷ []) ∷ none ∷ none ∷ [], damaged.Body 1)
    ∷ (5, codes "lab/p0/v", version ∷ none ∷ none ∷ after_last ∷ [], damaged.Body 9)
    ∷ (6, codes "lab/c1", version ∷ (2 ∷ []) ∷ (0 ∷ []) ∷ [], damaged.Body 1)
    ∷ (6, codes "lab/c1", version ∷ (0 ∷ []) ∷ (2 ∷ []) ∷ [], damaged.Body 2)
    ∷ (6, codes "lab/c1", version ∷ (0 ∷ []) ∷ (0 ∷ []) ∷ none ∷ none ∷ after_last ∷ [], damaged.Body 11)
    ∷ (7, codes "lab/c1/s0", version ∷ after_last ∷ [], damaged.Body 1)
    ∷ (7, codes "lab/c1/s0", version ∷ later ∷ after_last ∷ [], damaged.Body 9)
    ∷ (7, codes "lab/c1/s0", version ∷ later ∷ later ∷ one ∷ (0 ∷ 0 ∷ 0 ∷ 1 ∷ 195 ∷ []) ∷ [], damaged.Body 21)
    ∷ []

-- ---- fields and sizes

-- bodies of a project, a profile and an instance, and their sizes
abbrev pub sizes : List (Line × ℕ)
sizes =
    ((1, codes "lab", lab), 24)
    ∷ ((2, codes "lab/web", version ∷ cafe ∷ none ∷ one ∷ eth0 ∷ none ∷ []), 30)
    ∷ (
      (
        6,
        codes "lab/worker",
        version ∷ (0 ∷ []) ∷ (0 ∷ []) ∷ none ∷ none ∷ later ∷ one ∷ web ∷ none ∷ none ∷ [],
      ),
      38,
    )
    ∷ []

-- what the sizes of rows count
abbrev pub size : Row → ℕ
size row = capped (length (body_of row))

abbrev pub settings_of_key : Settings
settings_of_key = entry "user.a" "1" ∷ []

-- a pool, an instance and a snapshot, with each part in its field
abbrev pub fields : List (Line × Row)
fields = (
  (4, codes "p0", version ∷ (2 ∷ []) ∷ cafe ∷ one ∷ key ∷ value ∷ []),
  row.Pool (record {
    name = codes "p0";
    driver = driver.Lvm;
    description = cafe_text;
    config = settings_of_key;
  }),
)
    ∷ (
      (
        6,
        codes "lab/c1",
        version ∷ (1 ∷ []) ∷ (0 ∷ []) ∷ cafe ∷ root ∷ later ∷ two ∷ eth0 ∷ root ∷ none ∷ none ∷ [],
      ),
      row.Instance (record {
        project = codes "lab";
        name = codes "c1";
        kind = kind.Machine;
        ephemeral = false;
        description = cafe_text;
        origin = codes "root";
        created = 1700000000;
        profiles = codes "eth0" ∷ codes "root" ∷ [];
        config = [];
        devices = [];
      }),
    )
    ∷ (
      (7, codes "lab/c1/s0", version ∷ later ∷ last_second ∷ none ∷ none ∷ one ∷ eth0 ∷ none ∷ []),
      row.Snapshot (record {
        project = codes "lab";
        instance = codes "c1";
        name = codes "s0";
        created = 1700000000;
        expires = 253402300799;
        profiles = [];
        config = [];
        devices = (codes "eth0", []) ∷ [];
      }),
    )
    ∷ []

-- every case
pub record SpellingsHold : Type 0 where
  pub written_again : Agree (λ line. mapped entry_of (read line)) (λ line. Ok (entry_at line)) spellings
  pub each_cut_is_damaged : Agree (λ line. cut line.0 line.1 [] line.2) (λ line. damaged_from 0 line.2) spellings
  pub damages_are_told : Agree (λ line. row_at line.0 line.1 (joined line.2)) (λ line. Err line.3) damages
  pub sizes_are_counted : Agree (λ line. mapped size (read line.0)) (λ line. Ok line.1) sizes
  pub parts_go_to_their_fields : Agree (λ line. read line.0) (λ line. Ok line.1) fields
