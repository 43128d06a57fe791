use Rattle.std.proofs.Common.{◌∙◌, ap, sym, map, string_bytes, length, take, drop, ◌-◌, ◌||◌, List, ℕ}
use Rattle.run_words.specs.Waits.{waits, waits_at}
use Rattle.run_words.proofs.Waits.{tells_waits, none_waits}
use Rattle.run_words.proofs.Taking.{map-front}
use Rattle.run_words.proofs.wait.wants_wait.Goals as goal

pub returns : goal.returns
returns c = tells_waits (map string_bytes c.args.words.now) _ (c.loop-left.invariant ∙ none_waits string_bytes c.loop-left.left.now c.in_default.len_below)

pub returns-then-waits_at : goal.returns-then-waits_at
returns-then-waits_at c =
    let behind : List (List ℕ) = map string_bytes (take (length c.loop-left.left.now - 1) (drop 1 c.loop-left.left.now)) in
    tells_waits (map string_bytes c.args.words.now) _
    (c.loop-left.invariant ∙ ap waits (map-front string_bytes c.loop-left.left.now c.word-item.result c.in-len1-up.len_at_least c.word-item.is)
    ∙ ap (λ word. waits_at word behind || waits behind) (sym c.as_str.ensures.value)
    ∙ ap (λ here. here || waits behind) (sym c.if-waits_at.ensures))
