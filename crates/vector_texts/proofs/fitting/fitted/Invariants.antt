use Rattle.std.proofs.Common.{◌≡◌, take}
use Rattle.vector_texts.proofs.Fit.{AreSmallBefore}
use Rattle.vector_texts.proofs.fitting.fitted.Given as goal

-- the values before this one are small, and were taken
abbrev pub invariant-loop-place : goal.invariant-loop-place
invariant-loop-place l = record {
  taken : l.x.items ≡ take l.place l.values;
  small : AreSmallBefore l.limit l.values l.place;
}
