-- What each call on a pass answers.
use Rattle.std.specs.Prelude.{◌≡◌, ℕ, ◌+◌, ◌<◌, ◌≤◌, None, Some, true}
use Rattle.scratch_pool.specs.Counts.{raised}
use Rattle.ordered_pipeline.specs.declared.pass.Drawn.{Drawn}
use Rattle.ordered_pipeline.specs.declared.pass.Drawn.TheVariants as drawn
use Rattle.ordered_pipeline.specs.declared.pass.Start.{Start}
use Rattle.ordered_pipeline.specs.declared.pass.Start.TheVariants as start
use Rattle.ordered_pipeline.specs.declared.pass.Handed.{Handed}
use Rattle.ordered_pipeline.specs.declared.pass.Handed.TheVariants as handed
use Rattle.ordered_pipeline.specs.declared.pass.Next.{Next}
use Rattle.ordered_pipeline.specs.declared.pass.Next.TheVariants as next
use Rattle.ordered_pipeline.specs.declared.view.Phase.TheVariants as phase
use Rattle.ordered_pipeline.specs.Passes.{PassView}

module _ {C X : Type 0} where
  -- an item above all that the pass drew before, or the number that was found, past the last item
  abbrev pub Drew : ℕ → PassView C X → PassView C X → Drawn → Type 0
  Drew items old new (drawn.Item n) = (n < items) × (old.drawn ≤ n) × (new ≡ record old { phase = phase.Drawn n; drawn = n + 1 })
  Drew items old new (drawn.Over n) = (items ≤ n) × (new ≡ record old { over = true; past = n })

  -- the look found c, which is at least what was seen last: the item starts where it is near enough, else the looks rise
  abbrev pub Looked : (C → Type 0) → ℕ → PassView C X → PassView C X → Start → Type 0
  Looked room queue old new (start.Go n) = (old.phase ≡ phase.Drawn n) × ((c : ℕ) × (x : C) × (old.seen ≤ c) × (n < c + queue) × room x × (new ≡ record old { phase = phase.Started n; seen = c; copy = Some x }))
  Looked room queue old new (start.NotYet c) = (old.seen ≤ c) × ((n : ℕ) × (old.phase ≡ phase.Drawn n) × (c + queue ≤ n)) × (new ≡ record old { seen = c; looks = raised old.looks })

  -- the swap found the baton at this item, or it didn't
  abbrev pub Handing : ℕ → PassView C X → PassView C X → Handed → Type 0
  Handing n old new handed.Left = new ≡ record old { phase = phase.Idle; copy = None }
  Handing n old new handed.Baton = new ≡ record old { phase = phase.Baton n; copy = None }

  -- the swap found the next item ready, or it didn't
  abbrev pub Going : ℕ → ℕ → PassView C X → PassView C X → Next → Type 0
  Going items n old new next.Again = (n + 1 < items) × (new ≡ record old { phase = phase.Baton (n + 1) })
  Going items n old new next.Left = new ≡ record old { phase = phase.Idle }
