-- The texts that a run writes, and what the outside has after them.
use Rattle.std.specs.Prelude.{ℕ, List, fold, false}
use Rattle.std.specs.declared.option.Option.{Option}
use Rattle.std.specs.Option.{option_map}
use Rattle.fem_text.specs.declared.counts.Counts.{Counts}
use Rattle.fem_text.specs.Counts.{after_call, after_good, pieces}
use Rattle.fem_text.specs.Outside.{Held, appended, written}
use Rattle.run_words.specs.Choice.{Destination, standard, named, seen_destination, Output, summary, both}
use Rattle.diagnostics.specs.declared.ending.Output as kinds
use Rattle.diagnostics.specs.declared.ending.Output.TheVariants.{Matrix}
use Rattle.run_outputs.specs.declared.target.Target as rust

-- a text, where it goes, and what it is
pub record Target : Type 0 where
  pub output : kinds.Output
  pub destination : Destination
  pub text : List ℕ

-- the same, as the program has it
abbrev pub seen_target : rust.Target → Target
seen_target target = record { output = target.output; destination = seen_destination target.destination; text = target.text.items }

-- where the text goes that is written first
abbrev pub first_destination : Output → Destination
first_destination summary = standard
first_destination (both matrix right_side) = matrix

-- the text that is written first: the matrix, or what stands in its place
abbrev pub first_target : Output → List ℕ → Target
first_target output text = record { output = Matrix; destination = first_destination output; text = text }

-- what stands under each name and what standard output took, where they tell it, and what the two count
pub record World : Type 0 where
  pub holds : Option Held
  pub taken : Option (List ℕ)
  pub store : Counts
  pub out : Counts

-- the outside after this text was written there: in puts of 512 bytes, or in one write
abbrev pub after_text : World → Destination → List ℕ → World
after_text world standard text = record { holds = world.holds; taken = appended world.taken text; store = world.store; out = after_good (pieces text) world.out }
after_text world (named name) text = record { holds = option_map (written name text) world.holds; taken = world.taken; store = after_call false world.store; out = world.out }

abbrev pub after_target : World → Target → World
after_target world target = after_text world target.destination target.text

-- one after another
abbrev pub after_targets : World → List Target → World
after_targets world targets = fold after_target world targets
