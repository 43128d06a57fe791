-- The options that stand alone.
use Rattle.std.specs.Prelude.{ℕ, List, [], ◌∷◌, codes, Bool, nat_eq}
use Rattle.run_words.specs.declared.switch.Switch.{Switch}
use Rattle.run_words.specs.declared.switch.Switch.TheVariants as switches

-- the word that is such an option
unfoldable pub spelled_alone : Switch → List ℕ
spelled_alone switches.Summary = codes "--summary"
spelled_alone switches.GhostCells = codes "--ghost-cells"

-- the place of an option among them
abbrev pub switch_place : Switch → ℕ
switch_place switches.Summary = 0
switch_place switches.GhostCells = 1

abbrev pub same_switch : Switch → Switch → Bool
same_switch switch other = nat_eq (switch_place switch) (switch_place other)

abbrev pub all_switches : List Switch
all_switches = switches.Summary ∷ switches.GhostCells ∷ []
