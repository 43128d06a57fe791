-- Texts that are written one after another.
use Rattle.std.proofs.Common.{◌≡◌, ◌∙◌, ap, sym, refl, subst, ℕ, ◌<◌, ◌+◌, List, [], ◌∷◌, ◌++◌, map, fold, take, drop, length, arith}
use Rattle.std.specs.Prelude.{slice_index_or}
use Rattle.std.proofs.lemmas.Grind.{common_steps}
use Rattle.diagnostics.specs.declared.ending.Ending.{Ending}
use Rattle.run_outputs.specs.declared.target.Target as rust
use Rattle.run_outputs.specs.Targets.{Target, World, seen_target, after_target, after_targets}
use Rattle.run_outputs.specs.Stops.{StopsAt, StopsAmong}

cut_at : (k : ℕ) (targets : List rust.Target) (t : rust.Target) → k < length targets → slice_index_or targets k t ≡ t → targets ≡ take k targets ++ t ∷ drop (k + 1) targets
cut_at k targets t h is = grind (arith, common_steps)

map_split : (xs ys : List rust.Target) (t : rust.Target) → map seen_target (xs ++ t ∷ ys) ≡ map seen_target xs ++ seen_target t ∷ map seen_target ys
map_split [] ys t = refl
map_split (x ∷ xs) ys t = ap (λ rest. seen_target x ∷ rest) (map_split xs ys t)

-- the writing stops at target k
pub stops_at : (targets : List rust.Target) (k : ℕ) (t : rust.Target) (before middle now : World) (e : Ending) → k < length targets → slice_index_or targets k t ≡ t →
    middle ≡ after_targets before (map seen_target (take k targets)) → StopsAt (seen_target t) middle now e → StopsAmong (map seen_target targets) before now e
stops_at targets k t before middle now e h is w stop = record {
  whole = map seen_target (take k targets);
  target = seen_target t;
  left = map seen_target (drop (k + 1) targets);
  targets_are = ap (λ ts. map seen_target ts) (cut_at k targets t h is) ∙ map_split (take k targets) (drop (k + 1) targets) t;
  stops = subst (λ world. StopsAt (seen_target t) world now e) w stop;
}

-- one target more was written
pub writes_next : (targets : List rust.Target) (k : ℕ) (t : rust.Target) (before middle now : World) → k < length targets → slice_index_or targets k t ≡ t →
    middle ≡ after_targets before (map seen_target (take k targets)) → now ≡ after_target middle (seen_target t) → now ≡ after_targets before (map seen_target (take (k + 1) targets))
writes_next targets k t before middle now h is w e =
    let taken : take (k + 1) targets ≡ take k targets ++ t ∷ [] = grind (arith, common_steps) in
    e ∙ ap (λ world. after_target world (seen_target t)) w ∙ sym (ap (λ ts. after_targets before (map seen_target ts)) taken ∙ ap (after_targets before) (map_split (take k targets) [] t) ∙ folded (map seen_target (take k targets)) (seen_target t) before)
  where
    folded : (ts : List Target) (u : Target) (world : World) → after_targets world (ts ++ u ∷ []) ≡ after_target (after_targets world ts) u
    folded [] u world = refl
    folded (x ∷ ts) u world = folded ts u (after_target world x)
