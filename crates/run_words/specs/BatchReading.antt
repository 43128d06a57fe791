-- How the settings of a batch are read.
use Rattle.std.specs.Prelude.{ℕ, List, Bool, ◌||◌, if◌then◌else◌, Some, None}
use Rattle.std.specs.declared.option.Option.{Option}
use Rattle.std.specs.List.{list_any}
use Rattle.run_words.specs.declared.name.Name.TheVariants as names
use Rattle.run_words.specs.Names.{all_names}
use Rattle.run_words.specs.Switches.{all_switches}
use Rattle.run_words.specs.Settings.{Given}
use Rattle.run_words.specs.Choice.{standard}
use Rattle.run_words.specs.BatchWords.{BatchChoice, is_beside_batch}
use Rattle.run_words.specs.Reading.{number_within, name_of, read_or, read_destination, ◌>>=◌}

abbrev pub has_more_than_batch : Given → Bool
has_more_than_batch given = list_any (is_beside_batch given) all_names || list_any given.stands all_switches

-- by the values of `--batch`, `--workers` and `--matrix`
unfoldable pub read_batch : Option (List ℕ) → Option (List ℕ) → Option (List ℕ) → Option BatchChoice
read_batch None workers matrix = None
read_batch (Some word) workers matrix =
    name_of word >>= (λ name. read_or 4 (number_within 1 64) workers >>= (λ n. read_or standard read_destination matrix >>= (λ destination.
    Some (record { name = name; workers = n; destination = destination }))))

unfoldable pub batch_reading : Given → Option BatchChoice
batch_reading given = if has_more_than_batch given then None else read_batch (given.value names.Batch) (given.value names.Workers) (given.value names.Matrix)
