-- The forms of values: which fault a value has by the form of its key.
use Rattle.std.specs.Prelude.{ℕ, Bool, List, [], ◌∷◌, Option, Some, None, if◌then◌else◌, codes}
use Rattle.std.specs.List.{list_any}
use Rattle.std.specs.Result.{result_err}
use Rattle.std.specs.Str.{bytes_eq}
use Rattle.size_values.specs.declared.fault.ValueFault.{ValueFault}
use Rattle.size_values.specs.declared.fault.ValueFault.TheVariants.{OutOfRange}
use Rattle.size_values.specs.Address.{address_of, cidr_of}
use Rattle.size_values.specs.Count.{count_of}
use Rattle.size_values.specs.Cpu.{cpu_of}
use Rattle.size_values.specs.Expiry.{expiry_of}
use Rattle.size_values.specs.MemorySize.{memory_of}
use Rattle.size_values.specs.Size.{size_of}
use Rattle.size_values.specs.Boolean.{boolean_of}
use Rattle.schedule_texts.specs.Schedules.{schedule_of}
use Rattle.option_tables.specs.declared.form.Form.{Form}
use Rattle.option_tables.specs.declared.form.Form.TheVariants as form
use Rattle.option_tables.specs.declared.form.Words.{Words}
use Rattle.option_tables.specs.declared.form.Words.TheVariants as words
use Rattle.option_tables.specs.Names.{is_pattern, are_network_names}

-- the words of a list
abbrev pub words_of : Words → List (List ℕ)
words_of words.None = codes "none" ∷ []
words_of words.HardSoft = codes "hard" ∷ codes "soft" ∷ []
words_of words.HostInstance = codes "host" ∷ codes "instance" ∷ []
words_of words.BlockAllow = codes "block" ∷ codes "allow" ∷ []
words_of words.BlockAllowFull = codes "block" ∷ codes "allow" ∷ codes "full" ∷ []
words_of words.ManagedBlockAllow = codes "managed" ∷ codes "block" ∷ codes "allow" ∷ []
words_of words.UnprivilegedIsolatedAllow = codes "unprivileged" ∷ codes "isolated" ∷ codes "allow" ∷ []
words_of words.NicType = codes "bridged" ∷ codes "macvlan" ∷ codes "p2p" ∷ codes "physical" ∷ codes "routed"
    ∷ codes "ipvlan" ∷ codes "sriov" ∷ []

-- whether a text is one of these words
abbrev pub is_word : List (List ℕ) → List ℕ → Bool
is_word words value = list_any (λ word. bytes_eq word value) words

-- a text that is none of those that are taken is out of range
abbrev pub unless : Bool → Option ValueFault
unless is_taken = if is_taken then None else Some OutOfRange

-- an address with its length, or the word `none`
abbrev pub cidr_fault : List ℕ → Option ValueFault
cidr_fault value = if bytes_eq value (codes "none") then None else result_err (cidr_of value)

-- the fault of a value by its form, if it has one
unfoldable pub value_fault : Form → List ℕ → Option ValueFault
value_fault form.Text value = None
value_fault form.Boolean value = result_err (boolean_of value)
value_fault (form.Count least most) value = result_err (count_of value least most)
value_fault form.Size value = result_err (size_of value)
value_fault form.Cpu value = result_err (cpu_of value)
value_fault form.Memory value = result_err (memory_of value)
value_fault form.Expiry value = result_err (expiry_of value)
value_fault form.Pattern value = unless (is_pattern value)
value_fault form.Schedule value = result_err (schedule_of value)
value_fault form.Address value = result_err (address_of value)
value_fault form.Cidr value = cidr_fault value
value_fault form.Networks value = unless (are_network_names value)
value_fault (form.One list) value = unless (is_word (words_of list) value)
