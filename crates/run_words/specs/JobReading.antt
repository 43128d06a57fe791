-- How the settings of a job are read.
use Rattle.std.specs.Prelude.{Bool, ◌&&◌, not, if◌then◌else◌, Some, None}
use Rattle.std.specs.declared.option.Option.{Option}
use Rattle.std.specs.List.{list_any}
use Rattle.run_words.specs.Names.{all_names}
use Rattle.run_words.specs.Settings.{Given}
use Rattle.run_words.specs.Choice.{Choice}
use Rattle.run_words.specs.Jobs.{is_other, is_job_mode, reads_input}
use Rattle.run_words.specs.Reading.{reading, ◌>>=◌}

abbrev pub has_other : Given → Bool
has_other given = list_any (is_other given) all_names

abbrev pub is_job : Choice → Bool
is_job choice = is_job_mode choice.mode && not (reads_input choice.source)

-- what a job asks for
abbrev pub job_only : Choice → Option Choice
job_only choice = if is_job choice then Some choice else None

unfoldable pub job_reading : Given → Option Choice
job_reading given = if has_other given then None else (reading given >>= job_only)
