use Rattle.std.proofs.Common.{◌∙◌, ap, subst}
use Rattle.fem_fixed.specs.Ticks.{is_number}
use Rattle.fem_fixed.specs.NumberWords.{IsNumberWord}
use Rattle.fem_fixed.proofs.Grammar.{parts_found, form_found, word_found}
use Rattle.fem_fixed.proofs.ticks.number_words_have_one_form.Goals as goal

pub returns : goal.returns
returns c = λ word parts. (
  λ h. (parts_found word parts h, form_found word parts h),
  λ h. subst (IsNumberWord word) h.0 (word_found word (ap is_number h.0 ∙ h.1)),
)
