-- The tables, computed: every definition that is otherwise one word is unfolded here.
use Rattle.std.proofs.Common.{refl}
use Rattle.std.specs.Fmt.{digits}
use Rattle.size_values.specs.Address.{address_of, cidr_of}
use Rattle.size_values.specs.Amounts.{plus_of, minus_of, excess_of, fits_in}
use Rattle.size_values.specs.Boolean.{boolean_of}
use Rattle.size_values.specs.Count.{count_of}
use Rattle.size_values.specs.Cpu.{set_of, cpu_of}
use Rattle.size_values.specs.Expiry.{expiry_of}
use Rattle.size_values.specs.MemorySize.{memory_of}
use Rattle.size_values.specs.Size.{size_of}
use Rattle.record_keeper.specs.Entries.{put_entry, remove_entry}
use Rattle.workload.specs.Summary.{summary_by}
use Rattle.tests_values.specs.Entries.{EntriesHold}
use Rattle.tests_values.specs.Readers.{ReadersGive}
use Rattle.tests_values.specs.Summaries.{SummariesHold}
use Rattle.tests_values.specs.Values.{ValuesHold}

pub readers_give : ReadersGive
unfolding address_of cidr_of boolean_of count_of set_of cpu_of expiry_of memory_of size_of
readers_give = record {
  of_booleans = refl;
  of_cpus = refl;
  of_addresses = refl;
  of_networks = refl;
  of_small_counts = refl;
  of_any_counts = refl;
  of_memories = refl;
  of_sizes = refl;
  of_expiries = refl;
  numbers = refl;
}

pub values_hold : ValuesHold
unfolding plus_of minus_of excess_of fits_in
values_hold = record {
  of_amounts = record {
    zero_is_nothing = refl;
    both = refl;
    rest = refl;
    above_two = refl;
    fits_two = refl;
    two_are_within = refl;
  };
  of_texts = record { ordered = refl; same = refl; empty = refl };
  of_calls = record { first_fails = refl; second_fails = refl; two_of_six_fail = refl };
}

pub entries_hold : EntriesHold
unfolding put_entry remove_entry
entries_hold = record { kept = refl; kept_one_by_one = refl; begun = refl }

pub summaries_hold : SummariesHold
unfolding digits summary_by
summaries_hold = refl
