use Rattle.std.proofs.Common.{◌≡◌, ◌∙◌, sym, ap, subst, ◌<◌, ◌∷◌, ◌++◌, Bor, List, ℕ, length, map, take, arith}
use Rattle.fem_text.specs.Lines.{words_of}
use Rattle.std.proofs.lemmas.Grind.{common_steps}
use Rattle.fem_text.proofs.FirstWords.{word_first, blank_first, kept_more}
use Rattle.fem_text.proofs.line_words.LineWords.of.Goals as goal

pub loop-count-preserved-then-not-is_empty-2 : goal.loop-count-preserved-then-not-is_empty-2
loop-count-preserved-then-not-is_empty-2 c =
    let (room, few, same) = c.loop-count.invariant in
    let front = c.split_at_blank.ensures.front in
    let back = c.split_at_blank.ensures.back in
    let some : 0 < length c.split_at_blank.result.0.now = grind arith in
    let P : List ℕ → Type 0 = λ part. 0 < length part in
    let next : words_of c.loop-count.left.now ≡ c.split_at_blank.result.0.now ∷ words_of c.split_at_blank.result.1.now =
    word_first c.loop-count.left.now (subst P front some) ∙ (λ i. sym front i ∷ words_of (sym back i)) in (
      grind (arith, common_steps),
      grind arith,
      kept_more (words_of c.args.line.now.bytes.now) (words_of c.loop-count.left.now) (words_of c.split_at_blank.result.1.now) c.loop-count.first c.loop-count.count c.split_at_blank.result.0
          (grind arith) same next,
    )

pub loop-count-preserved : goal.loop-count-preserved
loop-count-preserved c =
    let (room, few, same) = c.loop-count.invariant in
    let front = c.split_at_blank.ensures.front in
    let back = c.split_at_blank.ensures.back in
    let none : length c.split_at_blank.result.0.now ≡ 0 = grind arith in
    let P : List ℕ → Type 0 = λ part. length part ≡ 0 in
    let next : words_of c.loop-count.left.now ≡ words_of c.split_at_blank.result.1.now = blank_first c.loop-count.left.now (subst P front none) ∙ ap words_of (sym back) in
    let before : List (List ℕ) = map (λ (word : Bor (List ℕ)). word.now) (take c.loop-count.count c.loop-count.first) in
    (room, few, same ∙ ap (λ more. before ++ more) next)
