use Rattle.std.proofs.Common.{◌∙◌, sym, arith, length, ◌<◌, ◌∷◌}
use Rattle.fem_text.specs.Lines.{words_of}
use Rattle.fem_text.proofs.FirstWords.{first_of}
use Rattle.fem_text.proofs.words_left.WordsLeft.next_word.Goals as goal

pub returns : goal.returns
returns c =
    let some : 0 < length c.without_blanks-line.result.now = grind arith in
    let word = sym c.split_at_blank.ensures.front in
    let left = sym c.split_at_blank.ensures.back in
    sym c.self.view_is ∙ sym c.without_blanks-line.ensures.words ∙ first_of c.without_blanks-line.result.now some (c.without_blanks-line.ensures.front some) ∙ (λ i. word i ∷ words_of (left i))
