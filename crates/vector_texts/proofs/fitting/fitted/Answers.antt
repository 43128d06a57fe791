use Rattle.std.proofs.Common.{◌∙◌, ap, sym, subst, refl, arith, ℤ, pos, slice_index_or, ◌++◌, ◌∷◌, [], w64, FitsSigned}
use Rattle.std.proofs.lemmas.Int.{to_z-of_z}
use Rattle.diagnostics.specs.Stages.{EndsIn}
use Rattle.vector_texts.specs.Fitting.{FittedTo}
use Rattle.vector_texts.proofs.Small.{fits_word}
use Rattle.vector_texts.proofs.Fit.{small_so_far, taken_so_far, fit, too_large}
use Rattle.vector_texts.proofs.fitting.fitted.Goals as goal

pub returns-in-None-clause-ends : goal.returns-in-None-clause-ends
returns-in-None-clause-ends c =
    subst (EndsIn (FittedTo c.args.size c.args.limit c.args.values.now)) (sym c.refused-in-None.ensures)
    (too_large c.args.size c.args.limit c.args.values.now c.loop-place.place (slice_index_or c.args.values.now c.loop-place.place (pos 0)) (omega arith) (omega arith) refl
    c.in-None.ensures.none c.loop-place.invariant.small)

pub loop-place-preserved : goal.loop-place-preserved
loop-place-preserved c =
    let value : ℤ = slice_index_or c.args.values.now c.loop-place.place (pos 0) in
    let fits : FitsSigned w64 c.in-Some.value = fits_word c.in-Some.value c.args.limit c.in-Some.ensures.fits (omega arith) in
    record {
      taken = c.in_ok-push-in-Some.ensures ∙ ap (λ (v : ℤ). c.loop-place.x.items ++ v ∷ []) (to_z-of_z w64 c.in-Some.value fits)
          ∙ taken_so_far c.loop-place.x.items c.args.values.now c.loop-place.place value c.in-Some.value (omega arith) c.loop-place.invariant.taken refl c.in-Some.ensures.some;
      small = small_so_far c.args.limit c.args.values.now c.loop-place.place value c.in-Some.value c.loop-place.invariant.small refl c.in-Some.ensures.some c.in-Some.ensures.fits;
    }

pub returns-clause-ok : goal.returns-clause-ok
returns-clause-ok c =
    fit c.args.size c.args.limit c.args.values.now c.loop-place.x.items c.loop-place.place (omega arith) (omega arith) c.loop-place.invariant.taken c.loop-place.invariant.small
