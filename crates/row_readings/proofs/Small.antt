-- What counts for limits stays below 2^63, since every size and count does.
use Rattle.std.proofs.Common.{◌≡◌, ℕ, ◌-◌, ◌<◌, ◌≤◌, ◌^◌, Bool, true, false, cond, ◌||◌, nat_lt, nat_le, Option, Some, None, Result, Ok, Err, List, [], ◌∷◌, map, length, take, drop, codes, unwrap_or, refl, subst, arith}
use Rattle.std.specs.Prelude.{nat_eq, ◌==◌, ◌*◌, is_none}
use Rattle.std.specs.Option.{option_map, option_map_or, option_and_then}
use Rattle.std.specs.List.{filter_map, cons_option, ends_with, before_first, list_all, list_any, slice_split}
use Rattle.std.specs.Result.{result_ok, result_map_both}
use Rattle.std.specs.Char.{is_ascii_digit, is_ascii_alphabetic}
use Rattle.std.specs.Str.{bytes_eq}
use Rattle.std.specs.Str.Parse.{digits_value}
use Rattle.std.proofs.lemmas.Bool.{leb-false}
use Rattle.std.proofs.lemmas.Bool.Decides.{nat_tests}
use Rattle.std.proofs.lemmas.List.Elements.{All-nil, All-cons, All-append}
use Rattle.size_values.specs.Amounts.{part, nothing, amount_above, excess_of}
use Rattle.size_values.specs.PoolParts.{no_part, on_pool, part_above}
use Rattle.size_values.specs.Count.{count_of}
use Rattle.size_values.specs.Cpu.{cpu_of, set_of, is_comma, is_dash, may_follow_in_set, is_whole_set, falls}
use Rattle.size_values.specs.MemorySize.{memory_of}
use Rattle.size_values.specs.Reading.{reading, fault_if, stray, is_too_large, is_outside}
use Rattle.size_values.specs.Size.{size_of, factor_of, may_follow_in_size}
use Rattle.size_values.proofs.AmountParts.{part-excess}
use Rattle.size_values.specs.declared.amounts.Amounts.{Amounts}
use Rattle.size_values.specs.declared.amounts.Part.{Part}
use Rattle.size_values.specs.declared.amounts.Part.TheVariants as part_of
use Rattle.size_values.specs.declared.cpu.Cpu.TheVariants as cpu
use Rattle.size_values.specs.declared.fault.ValueFault.{ValueFault}
use Rattle.size_values.specs.declared.fault.ValueFault.TheVariants.{Empty, BadByte, UnknownSuffix, TooLarge, OutOfRange}
use Rattle.size_values.specs.declared.kinds.Kind.{Kind}
use Rattle.size_values.specs.declared.kinds.Kind.TheVariants.{Container, Machine}
use Rattle.size_values.specs.declared.memory_size.Memory.TheVariants as memory
use Rattle.config_lists.specs.Devices.{NamedDevices, root_of}
use Rattle.config_lists.specs.Settings.{Settings, setting}
use Rattle.project_limits.specs.Instance.{processors, bytes, cpu_in, memory_in, processes_in, disk_in, disk_at, instance_amounts, volume_amounts}
use Rattle.project_limits.specs.Limits.{count_in, size_in}
use Rattle.project_limits.specs.Pools.{root_part, root_pool, sized_part}
use Rattle.records.specs.declared.rows.Instance.{Instance}
use Rattle.records.specs.declared.rows.Row.{Row}
use Rattle.records.specs.declared.rows.Row.TheVariants as row
use Rattle.row_machine.specs.machine.Task.{Task}
use Rattle.row_machine.specs.machine.State.{State}
use Rattle.row_machine.specs.machine.Claims.{amounts_of_instance, amounts_of, part_of_instance, part_of_row, part_of_share, part_over, project_of_row, replaced_instance, share_over, share_of}
use Rattle.row_machine.specs.machine.Expansions.{expanded_of}
use Rattle.row_machine.specs.machine.Usage.{Load, loads, instance_load, volume_load, claim_load}
use Rattle.row_readings.specs.Loads.{IsSmall, AreSmall}

-- a number that is absent or below 2^63
abbrev pub IsLow : Option ℕ → Type 0
IsLow o = unwrap_or o 0 < 2 ^ 63

pub low-and_then : {X : Type 0} (f : X → Option ℕ) (o : Option X) → ((x : X) → IsLow (f x)) → IsLow (option_and_then f o)
low-and_then f None h = omega arith
low-and_then f (Some x) h = h x

-- what stands before the or also is false
no_more : (a b : Bool) → (a || b) ≡ false → b ≡ false
no_more true b e = cc
no_more false b e = e

-- ---- readers

-- a value with a fault where it is too large
read_third : (value digits : ℕ) (a b d : Option ValueFault) (long : Bool) (why : ValueFault)
    → IsLow (result_ok (reading value (a ∷ b ∷ fault_if (long || nat_le (2 ^ 63) value) why ∷ d ∷ [])))
read_third value digits (Some x) b d long why = omega arith
read_third value digits None (Some x) d long why = omega arith
read_third value digits None None d long why = at (long || nat_le (2 ^ 63) value) refl d where
  at : (t : Bool) → (long || nat_le (2 ^ 63) value) ≡ t → (d : Option ValueFault) → IsLow (result_ok (reading value (fault_if t why ∷ d ∷ [])))
  at true e d = omega arith
  at false e None = leb-false (2 ^ 63) value (no_more long (nat_le (2 ^ 63) value) e)
  at false e (Some x) = omega arith

read_fourth : (value : ℕ) (a b d : Option ValueFault) (long : Bool) (why : ValueFault)
    → IsLow (result_ok (reading value (a ∷ b ∷ d ∷ fault_if (long || nat_le (2 ^ 63) value) why ∷ [])))
read_fourth value (Some x) b d long why = omega arith
read_fourth value None (Some x) d long why = omega arith
read_fourth value None None (Some x) long why = omega arith
read_fourth value None None None long why = at (long || nat_le (2 ^ 63) value) refl where
  at : (t : Bool) → (long || nat_le (2 ^ 63) value) ≡ t → IsLow (result_ok (reading value (fault_if t why ∷ [])))
  at true e = omega arith
  at false e = leb-false (2 ^ 63) value (no_more long (nat_le (2 ^ 63) value) e)

pub low-count : (text : List ℕ) (least most : ℕ) → IsLow (result_ok (count_of text least most))
unfolding count_of
low-count text least most = read_third (digits_value 10 text) 0 _ _ _ (nat_lt 20 (length text)) _

pub low-size : (text : List ℕ) → IsLow (result_ok (size_of text))
unfolding size_of
low-size text =
    let digits = before_first is_ascii_alphabetic text in
    let factor = factor_of (drop (length digits) text) in
    read_fourth (digits_value 10 digits * unwrap_or factor 0) (fault_if (length text == 0) Empty)
    (option_map BadByte (stray may_follow_in_size (λ _. true) text)) (fault_if (is_none factor) (UnknownSuffix (length digits)))
    (nat_lt 20 (length digits)) TooLarge

no_processors : (faults : List (Option ValueFault)) → IsLow (option_and_then processors (result_ok (reading cpu.Pinned faults)))
no_processors [] = omega arith
no_processors (None ∷ faults) = no_processors faults
no_processors (Some why ∷ faults) = omega arith

low-set : (text : List ℕ) → IsLow (option_and_then processors (result_ok (set_of text)))
unfolding set_of
low-set text =
    let numbers = slice_split (λ b. is_comma b || is_dash b) text in
    let parts = slice_split is_comma text in
    no_processors (
    option_map BadByte (stray may_follow_in_set is_whole_set text)
    ∷ fault_if (list_any is_too_large numbers) TooLarge
    ∷ fault_if (list_any (is_outside 0 1000000) numbers || list_any falls parts) OutOfRange
    ∷ [])

pub low-cpu : (text : List ℕ) → IsLow (option_and_then processors (result_ok (cpu_of text)))
unfolding cpu_of
low-cpu text = at (list_all is_ascii_digit text) where
  counted : (r : Result ℕ ValueFault) → IsLow (result_ok r) → IsLow (option_and_then processors (result_ok (result_map_both cpu.Count (λ e. e) r)))
  counted (Ok n) h = h
  counted (Err why) h = h

  at : (t : Bool) → IsLow (option_and_then processors (result_ok (cond t (result_map_both cpu.Count (λ e. e) (count_of text 1 1000000)) (set_of text))))
  at true = counted (count_of text 1 1000000) (low-count text 1 1000000)
  at false = low-set text

pub low-memory : (text : List ℕ) → IsLow (option_and_then bytes (result_ok (memory_of text)))
unfolding memory_of
low-memory text = at (ends_with nat_eq text (codes "%")) where
  sized : (r : Result ℕ ValueFault) → IsLow (result_ok r) → IsLow (option_and_then bytes (result_ok (result_map_both memory.Bytes (λ e. e) r)))
  sized (Ok n) h = h
  sized (Err why) h = h

  shared : (r : Result ℕ ValueFault) → IsLow (option_and_then bytes (result_ok (result_map_both memory.Percent (λ e. e) r)))
  shared (Ok n) = omega arith
  shared (Err why) = omega arith

  at : (t : Bool) → IsLow (option_and_then bytes (result_ok (cond t (result_map_both memory.Percent (λ e. e) (count_of (take (length text - 1) text) 1 100)) (result_map_both memory.Bytes (λ e. e) (size_of text)))))
  at true = shared (count_of (take (length text - 1) text) 1 100)
  at false = sized (size_of text) (low-size text)

-- ---- settings

low-size_in : (config : Settings) (key : List ℕ) → IsLow (size_in config key)
unfolding size_in
low-size_in config key = low-and_then (λ text. result_ok (size_of text)) (setting config key) low-size

low-count_in : (config : Settings) (key : List ℕ) → IsLow (count_in config key)
unfolding count_in
low-count_in config key = low-and_then (λ text. result_ok (count_of text 0 (2 ^ 63 - 1))) (setting config key) (λ text. low-count text 0 (2 ^ 63 - 1))

low-cpu_in : (config : Settings) → IsLow (cpu_in config)
unfolding cpu_in
low-cpu_in config = low-and_then (λ text. option_and_then processors (result_ok (cpu_of text))) (setting config (codes "limits.cpu")) low-cpu

low-memory_in : (config : Settings) → IsLow (memory_in config)
unfolding memory_in
low-memory_in config = low-and_then (λ text. option_and_then bytes (result_ok (memory_of text))) (setting config (codes "limits.memory")) low-memory

low-disk_in : (devices : NamedDevices) → IsLow (disk_in devices)
unfolding disk_in
low-disk_in devices = low-and_then (λ disk. size_in disk (codes "size")) (disk_at devices (root_of devices)) (λ disk. low-size_in disk (codes "size"))

low-processes_in : (kind : Kind) (config : Settings) → IsLow (processes_in kind config)
low-processes_in Container config = low-count_in config (codes "limits.processes")
low-processes_in Machine config = omega arith

-- ---- amounts

-- no part reaches 2^63
abbrev pub AreLow : Amounts → Type 0
AreLow a = (k : Part) → part k a < 2 ^ 63

pub low-instance : (kind : Kind) (config : Settings) (devices : NamedDevices) → AreLow (instance_amounts kind config devices)
unfolding instance_amounts
low-instance kind config devices part_of.Instances = omega arith
low-instance Container config devices part_of.Containers = omega arith
low-instance Machine config devices part_of.Containers = omega arith
low-instance Container config devices part_of.Machines = omega arith
low-instance Machine config devices part_of.Machines = omega arith
low-instance kind config devices part_of.Cpu = low-cpu_in config
low-instance kind config devices part_of.Memory = low-memory_in config
low-instance kind config devices part_of.Processes = low-processes_in kind config
low-instance kind config devices part_of.Disk = low-disk_in devices

pub low-volume : (config : Settings) → AreLow (volume_amounts config)
unfolding volume_amounts
low-volume config part_of.Instances = omega arith
low-volume config part_of.Containers = omega arith
low-volume config part_of.Machines = omega arith
low-volume config part_of.Cpu = omega arith
low-volume config part_of.Memory = omega arith
low-volume config part_of.Processes = omega arith
low-volume config part_of.Disk = low-size_in config (codes "size")

low-nothing : AreLow nothing
low-nothing part_of.Instances = omega arith
low-nothing part_of.Containers = omega arith
low-nothing part_of.Machines = omega arith
low-nothing part_of.Cpu = omega arith
low-nothing part_of.Memory = omega arith
low-nothing part_of.Processes = omega arith
low-nothing part_of.Disk = omega arith

pub low-of_instance : (s : State) (i : Instance) → AreLow (amounts_of_instance s i)
unfolding amounts_of_instance
low-of_instance s i = low-instance i.kind (expanded_of s.projects s.profiles i).config (expanded_of s.projects s.profiles i).devices

low-of_row : (s : State) (r : Row) → AreLow (amounts_of s r)
low-of_row s (row.Instance i) = low-of_instance s i
low-of_row s (row.Volume v) = low-volume v.config
low-of_row s (row.Project r) = low-nothing
low-of_row s (row.Profile r) = low-nothing
low-of_row s (row.Network r) = low-nothing
low-of_row s (row.Pool r) = low-nothing
low-of_row s (row.Snapshot r) = low-nothing

low-share_over : (s : State) (new : Row) (old : Option Instance) → AreLow (share_over s new old)
low-share_over s new None = low-of_row s new
low-share_over s new (Some old) = at (bytes_eq old.project (project_of_row new)) where
  at : (t : Bool) → AreLow (cond t (excess_of (amounts_of s new) (amounts_of_instance s old)) (amounts_of s new))
  at true k = omega (arith, part-excess k (amounts_of s new) (amounts_of_instance s old), low-of_row s new k)
  at false k = low-of_row s new k

pub low-share_of : (s : State) (task : Task) → AreLow (share_of s task)
unfolding share_of
low-share_of s task = at task.claim where
  at : (claim : Option Row) → AreLow (option_map_or (λ new. share_over s new (replaced_instance s task)) claim nothing)
  at None = low-nothing
  at (Some new) = low-share_over s new (replaced_instance s task)

-- ---- parts on pools

low-root : (devices : NamedDevices) → (root_part devices).disk < 2 ^ 63
unfolding root_part
low-root devices = at (root_pool devices) where
  at : (pool : Option (List ℕ)) → (option_map_or (λ (p : List ℕ). record { pool = p; disk = unwrap_or (disk_in devices) 0 }) pool no_part).disk < 2 ^ 63
  at None = omega arith
  at (Some pool) = low-disk_in devices

pub low-root_of : (s : State) (i : Instance) → (part_of_instance s i).disk < 2 ^ 63
unfolding part_of_instance
low-root_of s i = low-root (expanded_of s.projects s.profiles i).devices

pub low-sized : (pool : List ℕ) (config : Settings) → (sized_part pool config).disk < 2 ^ 63
unfolding sized_part
low-sized pool config = low-size_in config (codes "size")

low-part_of_row : (s : State) (r : Row) → (part_of_row s r).disk < 2 ^ 63
low-part_of_row s (row.Instance i) = low-root_of s i
low-part_of_row s (row.Volume v) = low-sized v.pool v.config
low-part_of_row s (row.Project r) = omega arith
low-part_of_row s (row.Profile r) = omega arith
low-part_of_row s (row.Network r) = omega arith
low-part_of_row s (row.Pool r) = omega arith
low-part_of_row s (row.Snapshot r) = omega arith

low-part_over : (s : State) (new : Row) (old : Option Instance) → (part_over s new old).disk < 2 ^ 63
low-part_over s new None = low-part_of_row s new
low-part_over s new (Some old) = at (bytes_eq old.project (project_of_row new)) where
  at : (t : Bool) → (cond t (part_above (part_of_row s new) (part_of_instance s old)) (part_of_row s new)).disk < 2 ^ 63
  at true =
      let low = low-part_of_row s new in
      let less : amount_above (part_of_row s new).disk (on_pool (part_of_row s new).pool (part_of_instance s old)) ≤ (part_of_row s new).disk = grind (arith, nat_tests) in
      omega (arith, low, less)
  at false = low-part_of_row s new

pub low-part_of_share : (s : State) (task : Task) → (part_of_share s task).disk < 2 ^ 63
unfolding part_of_share
low-part_of_share s task = at task.claim where
  at : (claim : Option Row) → (option_map_or (λ new. part_over s new (replaced_instance s task)) claim no_part).disk < 2 ^ 63
  at None = omega arith
  at (Some new) = low-part_over s new (replaced_instance s task)

-- ---- loads

pub small-mapped : {X : Type 0} (f : X → Load) (xs : List X) → ((x : X) → IsSmall (f x)) → AreSmall (map f xs)
small-mapped f [] h = All-nil IsSmall
small-mapped f (x ∷ xs) h = All-cons IsSmall (f x) (map f xs) (h x) (small-mapped f xs h)

pub small-read : {X : Type 0} (f : X → Option Load) (xs : List X) → ((x : X) (l : Load) → f x ≡ Some l → IsSmall l) → AreSmall (filter_map f xs)
small-read f [] h = All-nil IsSmall
small-read f (x ∷ xs) h = at (f x) refl (small-read f xs h) where
  at : (o : Option Load) → f x ≡ o → AreSmall (filter_map f xs) → AreSmall (cons_option o (filter_map f xs))
  at None is rest = rest
  at (Some l) is rest = All-cons IsSmall l (filter_map f xs) (h x l is) rest

pub small-claim : (s : State) (task : Task) (l : Load) → claim_load s task ≡ Some l → IsSmall l
small-claim s task l = at task.claim where
  load : Row → Load
  load new = record { project = project_of_row new; amounts = share_of s task; on = part_of_share s task }

  at : (claim : Option Row) → option_map load claim ≡ Some l → IsSmall l
  at None e = cc
  at (Some new) e = subst (λ o. IsSmall (unwrap_or o l)) e (record { parts = low-share_of s task; on = low-part_of_share s task })

pub small-loads : (s : State) → AreSmall (loads s)
unfolding loads
small-loads s = All-append IsSmall _ _
    (All-append IsSmall _ _
    (small-mapped (instance_load s) s.instances (λ i. record { parts = low-of_instance s i; on = low-root_of s i }))
    (small-mapped volume_load s.volumes (λ v. record { parts = low-volume v.config; on = low-sized v.pool v.config })))
    (small-read (λ o. claim_load s o.work) s.operations.live (λ o l is. small-claim s o.work l is))
