-- Each text has one reading.
use Rattle.std.proofs.Common.{◌≡◌, ◌∙◌, ◌⊎◌, inl, inr, ⊎_elim, ◌≤◌, ◌<◌, ap, sym, subst, refl, ℕ, zero, suc, List, [], ◌∷◌, ◌++◌, map, length, arith, All, append_assoc, append-nil, length-append, true, false}
use Rattle.std.specs.Prelude.{IsUtf8}
use Rattle.std.proofs.lemmas.List.{map-append, length-map}
use Rattle.std.specs.Str.{is_utf8}
use Rattle.std.proofs.lemmas.Str.{IsUtf8-from_is_utf8, is_utf8-from_IsUtf8}
use mathlib.Core.Logic.{dite}
use native.Mathlib.Decide.{ℕ_discrete}
use Rattle.fem_text.specs.WordLines.{Line}
use Rattle.run_words.specs.Choice.{Choice}
use Rattle.run_words.specs.Jobs.{AskForJob, AskForNoJob, AskForJobOrNot}
use Rattle.batch_read.specs.declared.fault.BatchKind.{BatchKind}
use Rattle.batch_read.specs.declared.fault.BatchKind.TheVariants.{Words, Count, NoMemory}
use Rattle.batch_read.specs.Batch.{job_lines, words_on, IsJob, IsLineFault, BatchText, BatchFaultAt}
use Rattle.batch_read.proofs.SoFar.{all_none, all_more, at_middle}

-- ---- a line is a job or none
text_or_not : (word : List ℕ) → IsUtf8 word ⊎ (IsUtf8 word → ⊥)
text_or_not word = elim (is_utf8 word) as (λ b. is_utf8 word ≡ b → IsUtf8 word ⊎ (IsUtf8 word → ⊥)) [
  | true ↦ λ e. inl (IsUtf8-from_is_utf8 word e)
  | false ↦ λ e. inr (λ utf8. let f = sym e ∙ is_utf8-from_IsUtf8 word utf8 in cc)
] refl

all_first : (word : List ℕ) (words : List (List ℕ)) → IsUtf8 word → All IsUtf8 words → All IsUtf8 (word ∷ words)
all_first word words h all zero d lt = h
all_first word words h all (suc k) d lt = all k d (omega (arith, lt))

texts_or_not : (words : List (List ℕ)) → All IsUtf8 words ⊎ (All IsUtf8 words → ⊥)
texts_or_not [] = inl (all_none IsUtf8)
texts_or_not (word ∷ words) = ⊎_elim
    (λ (h : IsUtf8 word). ⊎_elim (λ (all : All IsUtf8 words). inl (all_first word words h all)) (λ (none : All IsUtf8 words → ⊥). inr (λ all. none (λ k d lt. all (suc k) d (omega (arith, lt))))) (texts_or_not words))
    (λ (none : IsUtf8 word → ⊥). inr (λ all. none (all 0 word (omega arith)))) (text_or_not word)

module _ (asked : (words : List (List ℕ)) → AskForJobOrNot words) where
  job_or_not : (words : List (List ℕ)) → IsJob words ⊎ (IsJob words → ⊥)
  job_or_not words = ⊎_elim
      (λ (all : All IsUtf8 words). ⊎_elim (λ (c : (choice : Choice) × AskForJob words choice). inl (record { texts = record { each = all }; choice = c.0; asks = c.1 })) (λ (none : AskForNoJob words). inr (λ (job : IsJob words). none job.choice job.asks)) (asked words))
      (λ (none : All IsUtf8 words → ⊥). inr (λ (job : IsJob words). none job.texts.each)) (texts_or_not words)

  abbrev Reading : List ℕ → Type 0
  Reading text = ((jobs : List (List (List ℕ))) × BatchText text jobs) ⊎ ((kind : BatchKind) × (line : ℕ) × BatchFaultAt text kind line)

  fault_at : (text : List ℕ) (kind : BatchKind) (front : List Line) (here : Line) (behind : List Line) → job_lines text ≡ front ++ here ∷ behind → All (λ words. IsJob words) (map words_on front) → length front ≤ 65536 → IsLineFault kind (length front) (words_on here) → Reading text
  fault_at text kind front here behind are before few fault = inr (kind, here.number, record { front = front; here = here; behind = behind; lines_are = are; before = before; few = few; fault = fault; line_is = refl })

  reads_from : (text : List ℕ) (front rest : List Line) → job_lines text ≡ front ++ rest → All (λ words. IsJob words) (map words_on front) → length front ≤ 65536 → Reading text
  reads_from text front [] are before few =
      let all : job_lines text ≡ front = are ∙ append-nil front in
      inl (map words_on front, record { jobs_are = ap (map words_on) (sym all); each = before; few = omega (arith, few, length-map front words_on) })
  reads_from text front (line ∷ rest) are before few = ⊎_elim
      (λ (job : IsJob (words_on line)). dite (ℕ_discrete (length front) 65536)
      (λ full. fault_at text Count front line rest are before few (job, full))
      (λ ne. reads_from text (front ++ line ∷ []) rest (are ∙ sym (append_assoc front (line ∷ []) rest))
      (subst (All (λ words. IsJob words)) (sym (map-append words_on front (line ∷ []))) (all_more (λ words. IsJob words) (map words_on front) (words_on line) before job))
      (omega (arith, few, ne, length-append front (line ∷ [])))))
      (λ (none : IsJob (words_on line) → ⊥). fault_at text Words front line rest are before few none) (job_or_not (words_on line))

  pub reads : (text : List ℕ) → Reading text
  reads text = reads_from text [] (job_lines text) refl (all_none (λ words. IsJob words)) (omega arith)

-- ---- and only one
pub one_list : (text : List ℕ) (first second : List (List (List ℕ))) → BatchText text first → BatchText text second → first ≡ second
one_list text first second a b = a.jobs_are ∙ sym b.jobs_are

-- behind jobs of which there are fewer than the most, a job is no fault
no_fault : (kind : BatchKind) (before : ℕ) (words : List (List ℕ)) → IsJob words → before < 65536 → IsLineFault kind before words → ⊥
no_fault Words before words job few fault = fault job
no_fault Count before words job few fault = omega (arith, few, fault.1)
no_fault NoMemory before words job few fault = fault

one_kind : (kind other : BatchKind) (before : ℕ) (words : List (List ℕ)) → IsLineFault kind before words → IsLineFault other before words → kind ≡ other
one_kind Words Words before words a b = refl
one_kind Words Count before words a b = absurd (a b.0)
one_kind Words NoMemory before words a b = absurd b
one_kind Count Words before words a b = absurd (b a.0)
one_kind Count Count before words a b = refl
one_kind Count NoMemory before words a b = absurd b
one_kind NoMemory other before words a b = absurd a

pub not_both : (text : List ℕ) (jobs : List (List (List ℕ))) (kind : BatchKind) (line : ℕ) → BatchText text jobs → BatchFaultAt text kind line → ⊥
not_both text jobs kind line a b =
    let are : jobs ≡ map words_on b.front ++ words_on b.here ∷ map words_on b.behind = a.jobs_are ∙ (ap (map words_on) b.lines_are ∙ map-append words_on b.front (b.here ∷ b.behind)) in
    let job = at_middle (λ words. IsJob words) (map words_on b.front) (words_on b.here) (map words_on b.behind) (subst (All (λ words. IsJob words)) are a.each) in
    no_fault kind (length b.front) (words_on b.here) job (omega (arith, a.few, ap length are, length-append (map words_on b.front) (words_on b.here ∷ map words_on b.behind), length-map b.front words_on)) b.fault

-- two places of a list: the same, or one is before the other
data TwoPlaces (P : List (List ℕ) → Type 0) (l m : List Line) (x y : Line) : Type 0 where
  same : length l ≡ length m → x ≡ y → TwoPlaces P l m x y
  sooner : length l < length m → P (words_on x) → TwoPlaces P l m x y
  later : length m < length l → P (words_on y) → TwoPlaces P l m x y

module _ (P : List (List ℕ) → Type 0) where
  tail_all : (w : List (List ℕ)) (ws : List (List (List ℕ))) → All P (w ∷ ws) → All P ws
  tail_all w ws all k d lt = all (suc k) d (omega (arith, lt))

  further : (l m : List Line) (a b x y : Line) → TwoPlaces P l m x y → TwoPlaces P (a ∷ l) (b ∷ m) x y
  further l m a b x y (same e f) = same (omega (arith, e)) f
  further l m a b x y (sooner lt h) = sooner (omega (arith, lt)) h
  further l m a b x y (later lt h) = later (omega (arith, lt)) h

  two_places : (l m : List Line) (x y : Line) (back other : List Line) → l ++ x ∷ back ≡ m ++ y ∷ other → All P (map words_on l) → All P (map words_on m) → TwoPlaces P l m x y
  two_places [] [] x y back other e all all' = let f : x ≡ y = cc in same refl f
  two_places [] (b ∷ m) x y back other e all all' = let f : b ≡ x = cc in sooner (omega arith) (subst (λ z. P (words_on z)) f (all' 0 (words_on b) (omega arith)))
  two_places (a ∷ l) [] x y back other e all all' = let f : a ≡ y = cc in later (omega arith) (subst (λ z. P (words_on z)) f (all 0 (words_on a) (omega arith)))
  two_places (a ∷ l) (b ∷ m) x y back other e all all' =
      let f : l ++ x ∷ back ≡ m ++ y ∷ other = cc in
      further l m a b x y (two_places l m x y back other f (tail_all (words_on a) (map words_on l) all) (tail_all (words_on b) (map words_on m) all'))

module _ (text : List ℕ) (kind other : BatchKind) (line another : ℕ) (a : BatchFaultAt text kind line) (b : BatchFaultAt text other another) where
  decide : TwoPlaces (λ words. IsJob words) a.front b.front a.here b.here → (kind ≡ other) × (line ≡ another)
  decide (same e f) = (
    one_kind kind other (length b.front) (words_on b.here) (subst (λ n. IsLineFault kind n (words_on b.here)) e (subst (λ z. IsLineFault kind (length a.front) (words_on z)) f a.fault)) b.fault,
    a.line_is ∙ (ap (λ (z : Line). z.number) f ∙ sym b.line_is),
  )
  decide (sooner lt job) = absurd (no_fault kind (length a.front) (words_on a.here) job (omega (arith, lt, b.few)) a.fault)
  decide (later lt job) = absurd (no_fault other (length b.front) (words_on b.here) job (omega (arith, lt, a.few)) b.fault)

  pub one_fault : (kind ≡ other) × (line ≡ another)
  one_fault = decide (two_places (λ words. IsJob words) a.front b.front a.here b.here a.behind b.behind (sym a.lines_are ∙ b.lines_are) a.before b.before)
