use Rattle.std.proofs.Common.{◌≡◌, ◌∙◌, ap, map, string_bytes, subst, sym, List, ℕ, ◌∷◌, length, take, drop, ◌-◌}
use Rattle.run_words.specs.Held.{HoldsSoFar, Takes, seen_settings}
use Rattle.run_words.proofs.Cuts.{holds_none, holds_more, holds_fails}
use Rattle.run_words.proofs.Taking.{map-front}
use Rattle.run_words.proofs.settings.Settings.read.Goals as goal

pub loop-left-init : goal.loop-left-init
loop-left-init c = holds_none (map string_bytes c.args.words.now)

pub loop-left-preserved : goal.loop-left-preserved
loop-left-preserved c =
    let P : List (List ℕ) → Type 0 = λ left. Takes (seen_settings c.loop-left.settings) left (seen_settings c.take.new.self) (map string_bytes c.in_ok-left.left.now) in
    let behind : List (List ℕ) = map string_bytes (take (length c.loop-left.left.now - 1) (drop 1 c.loop-left.left.now)) in
    let whole : c.as_str.result.now ∷ behind ≡ map string_bytes c.loop-left.left.now =
    ap (λ word. word ∷ behind) c.as_str.ensures.value ∙ sym (map-front string_bytes c.loop-left.left.now c.word-item.result c.in-len1-up.len_at_least c.word-item.is) in
    holds_more (map string_bytes c.args.words.now) (seen_settings c.loop-left.settings) (seen_settings c.take.new.self) (map string_bytes c.loop-left.left.now)
    (map string_bytes c.in_ok-left.left.now) c.loop-left.invariant (subst P whole c.in_ok-left.ensures.some)

pub returns-in_err-left-clause-none : goal.returns-in_err-left-clause-none
returns-in_err-left-clause-none c =
    let P : List (List ℕ) → Type 0 = λ left. HoldsSoFar (map string_bytes c.args.words.now) (seen_settings c.loop-left.settings) left in
    let behind : List (List ℕ) = map string_bytes (take (length c.loop-left.left.now - 1) (drop 1 c.loop-left.left.now)) in
    let whole : c.as_str.result.now ∷ behind ≡ map string_bytes c.loop-left.left.now =
    ap (λ word. word ∷ behind) c.as_str.ensures.value ∙ sym (map-front string_bytes c.loop-left.left.now c.word-item.result c.in-len1-up.len_at_least c.word-item.is) in
    rw c.from_residual.ensures
    (holds_fails (map string_bytes c.args.words.now) (seen_settings c.loop-left.settings) c.as_str.result.now behind
    (subst P (sym whole) c.loop-left.invariant) c.in_err-left.ensures.none)
