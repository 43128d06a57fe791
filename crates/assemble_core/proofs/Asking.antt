-- Words that are refused.
use Rattle.std.proofs.Common.{◌≡◌, ap, ◌∙◌, ℕ, List, Bool, false}
use Rattle.run_words.specs.Choice.{Mode, Choice}
use Rattle.run_words.specs.Words.{AskFor, AskForNothing}
use Rattle.assemble_core.specs.Modes.{plain_modes}
use Rattle.assemble_core.specs.Answer.{AreRefused}

-- they ask for nothing
pub none_refused : (takes : Mode → Bool) (words : List (List ℕ)) → AskForNothing words → AreRefused takes words
none_refused takes words none choice asked = absurd (none choice asked)

-- they ask for a mode that is not taken
pub other_refused : ((words : List (List ℕ)) (first second : Choice) → AskFor words first → AskFor words second → first ≡ second) → (words : List (List ℕ)) (choice : Choice) → AskFor words choice →
    plain_modes choice.mode ≡ false → AreRefused plain_modes words
other_refused one words choice asked other another also = ap (λ (c : Choice). plain_modes c.mode) (one words another choice also asked) ∙ other
