-- The first bytes of the file of a journal: its name, and its version with a line feed behind it.
use Rattle.std.specs.Prelude.{ℕ, ◌==◌, nat_lt, Bool, true, false, ◌&&◌, ◌||◌, if◌then◌else◌, List, [], ◌∷◌, ◌++◌, length, take, drop}
use Rattle.std.specs.Prelude.{Result, Ok, Err, codes}
use Rattle.std.specs.Char.{is_ascii_digit}
use Rattle.std.specs.Str.{byte, bytes_eq}
use Rattle.file_disk.specs.declared.refusal.FileRefused.{FileRefused}
use Rattle.file_disk.specs.declared.refusal.FileRefused.TheVariants.{NewerVersion, NotAJournal}

-- the two bytes behind the name are a version above 1: a digit and a line feed, or two digits, of which the first is no 0
abbrev pub is_newer : List ℕ → Bool
is_newer (digit ∷ next ∷ []) =
    if next == byte "\n" then is_ascii_digit digit && nat_lt (byte "1") digit
    else is_ascii_digit digit && nat_lt (byte "0") digit && is_ascii_digit next
is_newer other = false

-- the first 16 bytes of a file name a newer version
abbrev pub names_newer : List ℕ → Bool
names_newer header =
    length header == 16 && bytes_eq (take 14 header) (codes "incus journal ") && is_newer (drop 14 header)

-- what a file is by its first 16 bytes: a journal of version 1, one of a newer version, or none
abbrev pub judged : List ℕ → Result (Unit {0}) FileRefused
judged header =
    if bytes_eq header (codes "incus journal 1\n") then Ok tt
    else if names_newer header then Err NewerVersion else Err NotAJournal

-- the whole file of a journal without commits: the header, and the first gate, which is closed
abbrev pub fresh_file : List ℕ
fresh_file = codes "incus journal 1\n" ++ 0 ∷ []

-- a file is the beginning of another one, of which any bytes may still be zero
abbrev pub is_begun : List ℕ → List ℕ → Bool
is_begun fresh [] = true
is_begun [] (found ∷ bytes) = false
is_begun (due ∷ fresh) (found ∷ bytes) = (found == 0 || found == due) && is_begun fresh bytes
