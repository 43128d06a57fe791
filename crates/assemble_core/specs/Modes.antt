-- The modes that a top call takes.
use Rattle.std.specs.Prelude.{Bool, true, false}
use Rattle.run_words.specs.Choice.{Mode, of_system, of_mesh, of_vector}
use Rattle.run_words.specs.declared.options.SystemMode.TheVariants as systems

-- those of a run that does not wait
abbrev pub plain_modes : Mode → Bool
plain_modes (of_system systems.Ordered) = false
plain_modes (of_system systems.Serial) = true
plain_modes (of_system systems.Colored) = true
plain_modes (of_system systems.Pattern) = true
plain_modes (of_system systems.Colors) = true
plain_modes of_mesh = true
plain_modes (of_vector name task) = true

-- those of a run that may wait
abbrev pub all_modes : Mode → Bool
all_modes mode = true
