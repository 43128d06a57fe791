-- Texts that are known, and the answers over them.
use Rattle.std.proofs.Common.{◌≡◌, ◌∙◌, sym, subst, ℕ, List}
use Rattle.std.specs.Prelude.{Some, None}
use Rattle.std.specs.declared.option.Option.{Option}
use Rattle.fem_text.specs.Outside.{Held}
use Rattle.run_words.specs.Choice.{vector_in, Source, texts, generated}
use Rattle.run_texts.specs.Texts.{Texts, ProblemStands}
use Rattle.answer_laws.specs.Parts.{AreKnown, IsKnown, HaveOneAnswerWhereKnown}
use Rattle.answer_laws.specs.Laws.{IsGenerated, HaveOneAnswer, HaveOneAnswerWithoutTexts}

one_problem_known : (held : Held) (name : Option (List ℕ)) (a b : Option (List ℕ)) → ProblemStands (Some held) name a → ProblemStands (Some held) name b → a ≡ b
one_problem_known held (Some name) a b h k = h ∙ sym k
one_problem_known held None a b h k = h ∙ sym k

same_texts : (a b : Texts) → a.mesh ≡ b.mesh → a.problem ≡ b.problem → a ≡ b
same_texts a b mesh problem = λ i. record { mesh = mesh i; problem = problem i }

held_known : (held : Held) (source : Source) → AreKnown (Some held) source
held_known held (texts mesh format problem) a b h k = same_texts a b (h.0 ∙ sym k.0) (one_problem_known held problem a.problem b.problem h.1 k.1)
held_known held (generated n seed) a b h k = same_texts a b (h.0 ∙ sym k.0) (h.1 ∙ sym k.1)

generated_known : (holds : Option Held) (source : Source) → IsGenerated source → AreKnown holds source
generated_known holds (texts mesh format problem) is a b h k = absurd is
generated_known holds (generated n seed) is a b h k = same_texts a b (h.0 ∙ sym k.0) (h.1 ∙ sym k.1)

held_vector : (held : Held) (name : Option (List ℕ)) → IsKnown (Some held) name
held_vector held None = tt
held_vector held (Some name) = λ a b h k. h ∙ sym k

no_vector : (holds : Option Held) (name : Option (List ℕ)) → name ≡ None → IsKnown holds name
no_vector holds name none = subst (IsKnown holds) (sym none) tt

pub held_answer : HaveOneAnswerWhereKnown → HaveOneAnswer
held_answer one takes words held = one takes words (Some held) (λ choice is. record { source = held_known held choice.source; vector = held_vector held (vector_in choice.mode) })

pub generated_answer : HaveOneAnswerWhereKnown → HaveOneAnswerWithoutTexts
generated_answer one takes words holds nothing =
    one takes words holds (λ choice is. record { source = generated_known holds choice.source (nothing choice is).0; vector = no_vector holds (vector_in choice.mode) (nothing choice is).1 })
