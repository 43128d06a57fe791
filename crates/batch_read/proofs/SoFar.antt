-- Jobs and words that are taken one after another.
use Rattle.std.proofs.Common.{◌≡◌, ◌∙◌, ◌≤◌, ap, sym, subst, ℕ, zero, suc, List, [], ◌∷◌, ◌++◌, map, length, arith, All, append_assoc, append-nil, false, inl, inr}
use Rattle.std.specs.Prelude.{Some, None, IsUtf8, IfNone, is_some, MatchOption}
use Rattle.std.specs.declared.option.Option.{Option}
use Rattle.fem_text.specs.declared.fault.TextFault.{TextFault}
use Rattle.std.proofs.lemmas.List.{map-append, length-map}
use Rattle.std.proofs.lemmas.List.Elements.{All-append}
use Rattle.fem_text.specs.WordLines.{Line, Lines, text_lines}
use Rattle.fem_text.specs.LineSteps.{TakesFirst, line_seen}
use Rattle.fem_text.specs.declared.lines.TextLine.{TextLine}
use Rattle.batch_read.specs.declared.fault.BatchKind.{BatchKind}
use Rattle.batch_read.specs.Batch.{job_lines, words_on, AreTexts, IsJob, IsLineFault, BatchText, BatchFaultAt, NoMemoryOr}
use Rattle.batch_read.specs.SoFar.{HoldsSoFar, HoldsTexts}

module _ {A : Type 0} (P : A → Type 0) where
  pub all_none : All P []
  all_none k d lt = absurd (omega (arith, lt))

  all_one : (x : A) → P x → All P (x ∷ [])
  all_one x h zero d lt = h
  all_one x h (suc k) d lt = absurd (omega (arith, lt))

  pub all_more : (l : List A) (x : A) → All P l → P x → All P (l ++ x ∷ [])
  all_more l x all h = All-append P l (x ∷ []) all (all_one x h)

  pub at_middle : (front : List A) (x : A) (back : List A) → All P (front ++ x ∷ back) → P x
  at_middle [] x back all = all 0 x (omega arith)
  at_middle (y ∷ ys) x back all = at_middle ys x back (λ k d lt. all (suc k) d (omega (arith, lt)))

-- ---- words
pub no_texts : (words left : List (List ℕ)) → left ≡ words → HoldsTexts words [] left
no_texts words left is = record { words_are = sym is; each = record { each = all_none IsUtf8 } }

pub one_text : (words texts left left' : List (List ℕ)) (word : List ℕ) → HoldsTexts words texts left → left ≡ word ∷ left' → IsUtf8 word → HoldsTexts words (texts ++ word ∷ []) left'
one_text words texts left left' word o is utf8 = record {
  words_are = o.words_are ∙ (ap (λ l. texts ++ l) is ∙ sym (append_assoc texts (word ∷ []) left'));
  each = record { each = all_more IsUtf8 texts word o.each.each utf8 };
}

pub all_texts : (words texts left : List (List ℕ)) → HoldsTexts words texts left → left ≡ [] → (texts ≡ words) × AreTexts words
all_texts words texts left o none =
    let same : texts ≡ words = sym (o.words_are ∙ (ap (λ l. texts ++ l) none ∙ append-nil texts)) in
    (same, subst AreTexts same o.each)

pub no_text : (words texts left left' : List (List ℕ)) (word : List ℕ) → HoldsTexts words texts left → left ≡ word ∷ left' → (IsUtf8 word → ⊥) → AreTexts words → ⊥
no_text words texts left left' word o is not_utf8 all = not_utf8 (at_middle IsUtf8 texts word left' (subst (All IsUtf8) (o.words_are ∙ ap (λ l. texts ++ l) is) all.each))

module _ {S : Type 0} (bytes : S → List ℕ) (word : List ℕ) where
  abbrev Found : Option S → Type 0
  Found found = MatchOption found (IsUtf8 word → ⊥) (λ text. (bytes text ≡ word) × IsUtf8 word)

  found_text : (found : Option S) (text : S) → Found found → found ≡ Some text → (bytes text ≡ word) × IsUtf8 word
  found_text None text h is = cc
  found_text (Some t) text h is = let same : t ≡ text = cc in (ap bytes (sym same) ∙ h.0, h.1)

  pub none_found : (found : Option S) → Found found → found ≡ None → IsUtf8 word → ⊥
  none_found None h is = h
  none_found (Some t) h is = cc

  pub text_more : (words left left' : List (List ℕ)) (texts texts' : List S) (text : S) (found : Option S) → HoldsTexts words (map bytes texts) left → left ≡ word ∷ left' → Found found → found ≡ Some text → texts' ≡ texts ++ text ∷ []
      → HoldsTexts words (map bytes texts') left'
  text_more words left left' texts texts' text found o is h some more =
      let t = found_text found text h some in
      let all : map bytes texts' ≡ map bytes texts ++ word ∷ [] = ap (map bytes) more ∙ (map-append bytes texts (text ∷ []) ∙ ap (λ w. map bytes texts ++ w ∷ []) t.0) in
      subst (λ l. HoldsTexts words l left') (sym all) (one_text words (map bytes texts) left left' word o is t.1)

pub none_of : {X : Type 0} (o : Option X) (N : Type 0) → IfNone o N → is_some o ≡ false → N
none_of None N h is = h
none_of (Some x) N h is = cc

-- ---- jobs
abbrev Jobs : Type 0
Jobs = List (List (List ℕ))

pub no_jobs : (text : List ℕ) (jobs : Jobs) (rest : Lines) → jobs ≡ [] → rest ≡ text_lines (Some 35) text → HoldsSoFar (job_lines text) jobs rest
no_jobs text jobs rest none all = record {
  front = [];
  lines_are = sym (ap (λ (l : Lines). l.ahead) all);
  jobs_are = none;
  each = subst (All (λ words. IsJob words)) (sym none) (all_none (λ words. IsJob words));
  few = omega (arith, ap length none);
}

pub one_job : (lines : List Line) (jobs jobs' : Jobs) (rest rest' : Lines) (line : TextLine) → HoldsSoFar lines jobs rest → TakesFirst rest line rest' → jobs' ≡ jobs ++ words_on (line_seen line) ∷ [] → IsJob (words_on (line_seen line)) → length jobs' ≤ 65536
    → HoldsSoFar lines jobs' rest'
one_job lines jobs jobs' rest rest' line o first is job few = record {
  front = o.front ++ line_seen line ∷ [];
  lines_are = o.lines_are ∙ (ap (λ l. o.front ++ l) first.ahead ∙ sym (append_assoc o.front (line_seen line ∷ []) rest'.ahead));
  jobs_are = is ∙ (ap (λ l. l ++ words_on (line_seen line) ∷ []) o.jobs_are ∙ sym (map-append words_on o.front (line_seen line ∷ [])));
  each = subst (All (λ words. IsJob words)) (sym is) (all_more (λ words. IsJob words) jobs (words_on (line_seen line)) o.each job);
  few = few;
}

pub all_jobs : (text : List ℕ) (jobs : Jobs) (rest : Lines) → HoldsSoFar (job_lines text) jobs rest → rest.ahead ≡ [] → BatchText text jobs
all_jobs text jobs rest o none = record {
  jobs_are = o.jobs_are ∙ ap (map words_on) (sym (o.lines_are ∙ (ap (λ l. o.front ++ l) none ∙ append-nil o.front)));
  each = o.each;
  few = o.few;
}

fails_here : (text : List ℕ) (jobs : Jobs) (rest rest' : Lines) (line : TextLine) (kind : BatchKind) (number : ℕ) → HoldsSoFar (job_lines text) jobs rest → TakesFirst rest line rest' → IsLineFault kind (length jobs) (words_on (line_seen line)) → number ≡ line.number
    → BatchFaultAt text kind number
fails_here text jobs rest rest' line kind number o first fault is =
    let long : length jobs ≡ length o.front = ap length o.jobs_are ∙ length-map o.front words_on in record {
      front = o.front;
      here = line_seen line;
      behind = rest'.ahead;
      lines_are = o.lines_are ∙ ap (λ l. o.front ++ l) first.ahead;
      before = subst (All (λ words. IsJob words)) o.jobs_are o.each;
      few = omega (arith, long, o.few);
      fault = subst (λ n. IsLineFault kind n (words_on (line_seen line))) long fault;
      line_is = is;
    }

pub fails_or_memory : (text : List ℕ) (jobs : Jobs) (rest rest' : Lines) (line : TextLine) (fault : TextFault BatchKind) → HoldsSoFar (job_lines text) jobs rest → TakesFirst rest line rest'
    → NoMemoryOr fault (IsLineFault fault.kind (length jobs) (words_on (line_seen line)) × (fault.line ≡ line.number)) → NoMemoryOr fault (BatchFaultAt text fault.kind fault.line)
fails_or_memory text jobs rest rest' line fault o first found = elim found [
  | inl memory ↦ inl memory
  | inr fails ↦ inr (fails_here text jobs rest rest' line fault.kind fault.line o first fails.0 fails.1)
]
