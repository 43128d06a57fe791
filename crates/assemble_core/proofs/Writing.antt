-- The writing of one text.
use Rattle.std.proofs.Common.{◌≡◌, ap, sym, subst, suc, ◌+◌, List, [], ◌∷◌, ◌++◌, length, arith, inr}
use Rattle.std.specs.Prelude.{Err}
use Rattle.run_outputs.specs.Targets.{Target, World, after_targets}
use Rattle.run_outputs.specs.Stops.{StopsAt, StopsAmong}
use Rattle.diagnostics.specs.declared.ending.Ending as endings
use Rattle.diagnostics.specs.declared.ending.Ending.TheVariants as ends
use Rattle.batch_sources.specs.declared.ending.BatchEnding.{BatchEnding}
use Rattle.assemble_core.specs.Writing.{IsOfWriting, EndsWriting, Writing}

abbrev head_or : Target → List Target → Target
head_or d [] = d
head_or d (t ∷ ts) = t

-- the writing of one text stops at that one
alone : (target : Target) (before now : World) (e : endings.Ending) (whole : List Target) (at : Target) (left : List Target) → target ∷ [] ≡ whole ++ at ∷ left → StopsAt at (after_targets before whole) now e →
    StopsAt target before now e
alone target before now e [] at left are stops = subst (λ t. StopsAt t before now e) (sym (ap (head_or target) are)) stops
alone target before now e (first ∷ whole) at left are stops = absurd (too_many whole (ap length are))
  where
    more : (whole : List Target) → length (whole ++ at ∷ left) ≡ suc (length whole + length left)
    more [] = omega arith
    more (t ∷ ts) = omega (arith, more ts)

    too_many : (whole : List Target) → 1 ≡ suc (length (whole ++ at ∷ left)) → ⊥
    too_many whole e = let m = more whole in omega arith

pub stops_alone : (target : Target) (before now : World) (e : endings.Ending) → StopsAmong (target ∷ []) before now e → StopsAt target before now e
stops_alone target before now e among = alone target before now e among.whole among.target among.left among.targets_are among.stops

-- such an end is one that a write may have
pub of_writing : (target : Target) (before now : World) (e : endings.Ending) → StopsAt target before now e → IsOfWriting e
of_writing target before now (ends.Refused refusal) stops = absurd stops
of_writing target before now (ends.ReadFault role) stops = absurd stops
of_writing target before now (ends.WriteFault output) stops = tt
of_writing target before now ends.NoMemory stops = tt

pub writing_stopped : (target : Target) (before now : World) (e : endings.Ending) (ending : BatchEnding) → StopsAt target before now e → EndsWriting e ending → Writing target before now (Err ending)
writing_stopped target before now (ends.Refused refusal) ending stops is = absurd stops
writing_stopped target before now (ends.ReadFault role) ending stops is = absurd stops
writing_stopped target before now (ends.WriteFault output) ending stops is =
    subst (λ end. Writing target before now (Err end)) (sym is) (subst (λ o. StopsAt target before now (ends.WriteFault o)) stops.0 stops)
writing_stopped target before now ends.NoMemory ending stops is = subst (λ end. Writing target before now (Err end)) (sym is) (inr stops)
