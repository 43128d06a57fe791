-- What one more line adds.
use Rattle.std.proofs.Common.{◌≡◌, ◌∙◌, sym, ap, refl, ℕ, List, [], ◌∷◌, ◌++◌, Bool, true, false, length, drop, inl, inr}
use Rattle.std.specs.Prelude.{ℤ, Ok, Err, OnOk, IfErr, not, nat_lt, is_some}
use Rattle.std.specs.declared.option.Option.{Option}
use Rattle.std.specs.declared.result.Result.{Result}
use Rattle.fem_fixed.specs.Numbers.{id_of}
use Rattle.fem_text.specs.declared.fault.TextFault.{TextFault}
use Rattle.fem_text.specs.Faults.{at_line}
use Rattle.fem_text.proofs.OneReading.{err_same}
use Rattle.fem_text.specs.Words.{◌>>=◌, or_fault, unless, all_of}
use Rattle.problem_read.specs.declared.fault.ProblemKind.{ProblemKind}
use Rattle.problem_read.specs.declared.fault.ProblemKind.TheVariants as kinds
use Rattle.problem_read.specs.declared.keyword.Keyword.{Keyword}
use Rattle.problem_read.specs.declared.keyword.Keyword.TheVariants as keywords
use Rattle.problem_read.specs.Entries.{Tie, Entry, ProblemParts, diffusion, source, robin, dirichlet, penalty, refine, constraint, subdomain}
use Rattle.problem_read.specs.Shapes.{keyword_at}
use Rattle.problem_read.specs.EntryLine.{value_at, setting_of, two_settings_of, two_ids_of, tie_at, numbers_of, is_listed, checked, entry_behind}
use Rattle.problem_read.specs.Ties.{tie_fits, tie_line, AddsTie}
use Rattle.problem_read.specs.Problem.{NoMemoryOr}
use Rattle.problem_read.specs.Steps.{AddsEntry, IsLineFault, setting_line, AddsSetting, penalty_line, AddsPenalty, step_line, AddsStep}

-- what is tested of an entry, as of its value
tested : {X : Type 0} (con : X → Entry) (x : X) (repeated room : Bool) →
    (unless kinds.Repeated (not repeated) >>= (λ new. unless kinds.Limit room >>= (λ few. Ok (con x)))) ≡
    ((unless kinds.Repeated (not repeated) >>= (λ new. unless kinds.Limit room >>= (λ few. Ok x))) >>= (λ y. Ok (con y)))
tested con x true room = refl
tested con x false true = refl
tested con x false false = refl

-- a line of a known word, by its numbers
by_keyword : (before : ProblemParts) (words : List (List ℕ)) (keyword : Keyword) → keyword_at words ≡ Ok keyword → entry_behind before words ≡ (numbers_of keyword words >>= checked before)
unfolding entry_behind
by_keyword before words keyword h = ap (λ k. k >>= (λ word. numbers_of word words >>= checked before)) h

pub of_diffusion : (before : ProblemParts) (words : List (List ℕ)) (given : Result (ℕ × ℤ) ProblemKind) → given ≡ setting_of words → keyword_at words ≡ Ok keywords.Diffusion →
    entry_behind before words ≡ (setting_line given before.diffusion >>= (λ pair. Ok (diffusion pair)))
of_diffusion before words given is h = by_keyword before words keywords.Diffusion h ∙ ap (λ r. (r >>= (λ pair. Ok (diffusion pair))) >>= checked before) (sym is) ∙ by given
  where
    by : (r : Result (ℕ × ℤ) ProblemKind) → ((r >>= (λ pair. Ok (diffusion pair))) >>= checked before) ≡ (setting_line r before.diffusion >>= (λ pair. Ok (diffusion pair)))
    by (Ok pair) = tested diffusion pair (is_listed before.diffusion pair.0) true
    by (Err kind) = refl

pub of_source : (before : ProblemParts) (words : List (List ℕ)) (given : Result (ℕ × ℤ) ProblemKind) → given ≡ setting_of words → keyword_at words ≡ Ok keywords.Source →
    entry_behind before words ≡ (setting_line given before.source >>= (λ pair. Ok (source pair)))
of_source before words given is h = by_keyword before words keywords.Source h ∙ ap (λ r. (r >>= (λ pair. Ok (source pair))) >>= checked before) (sym is) ∙ by given
  where
    by : (r : Result (ℕ × ℤ) ProblemKind) → ((r >>= (λ pair. Ok (source pair))) >>= checked before) ≡ (setting_line r before.source >>= (λ pair. Ok (source pair)))
    by (Ok pair) = tested source pair (is_listed before.source pair.0) true
    by (Err kind) = refl

pub of_robin : (before : ProblemParts) (words : List (List ℕ)) (given : Result (ℕ × (ℤ × ℤ)) ProblemKind) → given ≡ two_settings_of words → keyword_at words ≡ Ok keywords.Robin →
    entry_behind before words ≡ (setting_line given before.robin >>= (λ pair. Ok (robin pair)))
of_robin before words given is h = by_keyword before words keywords.Robin h ∙ ap (λ r. (r >>= (λ pair. Ok (robin pair))) >>= checked before) (sym is) ∙ by given
  where
    by : (r : Result (ℕ × (ℤ × ℤ)) ProblemKind) → ((r >>= (λ pair. Ok (robin pair))) >>= checked before) ≡ (setting_line r before.robin >>= (λ pair. Ok (robin pair)))
    by (Ok pair) = tested robin pair (is_listed before.robin pair.0) true
    by (Err kind) = refl

pub of_dirichlet : (before : ProblemParts) (words : List (List ℕ)) (given : Result (ℕ × ℤ) ProblemKind) → given ≡ setting_of words → keyword_at words ≡ Ok keywords.Dirichlet →
    entry_behind before words ≡ (setting_line given before.dirichlet >>= (λ pair. Ok (dirichlet pair)))
of_dirichlet before words given is h = by_keyword before words keywords.Dirichlet h ∙ ap (λ r. (r >>= (λ pair. Ok (dirichlet pair))) >>= checked before) (sym is) ∙ by given
  where
    by : (r : Result (ℕ × ℤ) ProblemKind) → ((r >>= (λ pair. Ok (dirichlet pair))) >>= checked before) ≡ (setting_line r before.dirichlet >>= (λ pair. Ok (dirichlet pair)))
    by (Ok pair) = tested dirichlet pair (is_listed before.dirichlet pair.0) true
    by (Err kind) = refl

pub of_subdomain : (before : ProblemParts) (words : List (List ℕ)) (given : Result (ℕ × ℕ) ProblemKind) → given ≡ two_ids_of words → keyword_at words ≡ Ok keywords.Subdomain →
    entry_behind before words ≡ (setting_line given before.subdomain >>= (λ pair. Ok (subdomain pair)))
of_subdomain before words given is h = by_keyword before words keywords.Subdomain h ∙ ap (λ r. (r >>= (λ pair. Ok (subdomain pair))) >>= checked before) (sym is) ∙ by given
  where
    by : (r : Result (ℕ × ℕ) ProblemKind) → ((r >>= (λ pair. Ok (subdomain pair))) >>= checked before) ≡ (setting_line r before.subdomain >>= (λ pair. Ok (subdomain pair)))
    by (Ok pair) = tested subdomain pair (is_listed before.subdomain pair.0) true
    by (Err kind) = refl

pub of_penalty : (before : ProblemParts) (words : List (List ℕ)) → keyword_at words ≡ Ok keywords.Penalty →
    entry_behind before words ≡ (penalty_line words before.penalty >>= (λ value. Ok (penalty value)))
of_penalty before words h = by_keyword before words keywords.Penalty h ∙ by (value_at words 1)
  where
    by : (r : Result ℤ ProblemKind) → ((r >>= (λ value. Ok (penalty value))) >>= checked before) ≡
        ((r >>= (λ value. unless kinds.Repeated (not (is_some before.penalty)) >>= (λ new. Ok value))) >>= (λ value. Ok (penalty value)))
    by (Ok value) = tested penalty value (is_some before.penalty) true
    by (Err kind) = refl

pub of_step : (before : ProblemParts) (words : List (List ℕ)) → keyword_at words ≡ Ok keywords.Refine →
    entry_behind before words ≡ (step_line words before.steps >>= (λ cells. Ok (refine cells)))
of_step before words h = by_keyword before words keywords.Refine h ∙ by (or_fault kinds.Number (all_of id_of (drop 1 words)))
  where
    by : (r : Result (List ℕ) ProblemKind) → ((r >>= (λ cells. Ok (refine cells))) >>= checked before) ≡
        ((r >>= (λ cells. unless kinds.Limit (nat_lt (length before.steps) 32) >>= (λ few. Ok cells))) >>= (λ cells. Ok (refine cells)))
    by (Ok cells) = tested refine cells false (nat_lt (length before.steps) 32)
    by (Err kind) = refl

pub of_tie : (before : ProblemParts) (words : List (List ℕ)) → keyword_at words ≡ Ok keywords.Constraint →
    entry_behind before words ≡ (tie_line before.ties words >>= (λ tie. Ok (constraint tie)))
unfolding tie_line
of_tie before words h = by_keyword before words keywords.Constraint h ∙ by (tie_at words)
  where
    by : (r : Result Tie ProblemKind) → ((r >>= (λ tie. Ok (constraint tie))) >>= checked before) ≡
        ((r >>= (λ tie. unless kinds.Limit (tie_fits before.ties tie) >>= (λ few. Ok tie))) >>= (λ tie. Ok (constraint tie)))
    by (Ok tie) = tested constraint tie false (tie_fits before.ties tie)
    by (Err kind) = refl

then_err : {A B : Type 0} (r : Result A ProblemKind) (next : A → Result B ProblemKind) (kind : ProblemKind) → r ≡ Err kind → (r >>= next) ≡ Err kind
then_err r next kind h = ap (λ s. s >>= next) h

-- a fault of a line of a known word
fails_as : {A : Type 0} (given : Result A ProblemKind) (con : A → Entry) (all : Result Entry ProblemKind) (number : ℕ) (fault : TextFault ProblemKind) → all ≡ (given >>= (λ x. Ok (con x))) →
    NoMemoryOr fault (IsLineFault given number fault) → NoMemoryOr fault (IsLineFault all number fault)
fails_as given con all number fault is found = elim found [
  | inl memory ↦ inl memory
  | inr fails ↦ inr (record { kind_is = is ∙ then_err given (λ x. Ok (con x)) fault.kind fails.kind_is; line_is = fails.line_is })
]

pub on_ok : {A E P Q : Type 0} (r : Result A E) → (P → Q) → OnOk r P → OnOk r Q
on_ok (Ok x) f h = f h
on_ok (Err e) f h = h

pub errs_as : {A : Type 0} (given : Result A ProblemKind) (con : A → Entry) (all : Result Entry ProblemKind) (number : ℕ) (r : Result (Unit {0}) (TextFault ProblemKind)) →
    all ≡ (given >>= (λ x. Ok (con x))) → IfErr r (λ fault. NoMemoryOr fault (IsLineFault given number fault)) → IfErr r (λ fault. NoMemoryOr fault (IsLineFault all number fault))
errs_as given con all number (Ok u) is found = found
errs_as given con all number (Err fault) is found = fails_as given con all number fault is found

read_as : {A : Type 0} (number : ℕ) (given : Result A ProblemKind) (value : A) → at_line number given ≡ Ok value → given ≡ Ok value
read_as number (Ok x) value h = cc
read_as number (Err kind) value h = cc

-- a line sets a pair whose id isn't listed
pub adds_setting : {V : Type 0} (given : Result (ℕ × V) ProblemKind) (before now : List (ℕ × V)) (number : ℕ) (pair : ℕ × V) → at_line number given ≡ Ok pair → is_listed before pair.0 ≡ false →
    now ≡ before ++ pair ∷ [] → AddsSetting given before now
adds_setting given before now number pair read new added =
    record {
      pair = pair;
      is = ap (λ r. setting_line r before) (read_as number given pair read) ∙ ap (λ b. unless kinds.Repeated (not b) >>= (λ u. Ok pair)) new;
      added = added;
    }

pub adds_diffusion : (before now : ProblemParts) (words : List (List ℕ)) (given : Result (ℕ × ℤ) ProblemKind) (list : List (ℕ × ℤ)) → given ≡ setting_of words → keyword_at words ≡ Ok keywords.Diffusion → now ≡ record before { diffusion = list } →
    AddsSetting given before.diffusion list → AddsEntry before words now
adds_diffusion before now words given list read h is adds =
    record {
      entry = diffusion adds.pair;
      given = of_diffusion before words given read h ∙ ap (λ r. r >>= (λ pair. Ok (diffusion pair))) adds.is;
      added = is ∙ ap (λ pairs. record before { diffusion = pairs }) adds.added;
    }

pub adds_source : (before now : ProblemParts) (words : List (List ℕ)) (given : Result (ℕ × ℤ) ProblemKind) (list : List (ℕ × ℤ)) → given ≡ setting_of words → keyword_at words ≡ Ok keywords.Source → now ≡ record before { source = list } →
    AddsSetting given before.source list → AddsEntry before words now
adds_source before now words given list read h is adds =
    record {
      entry = source adds.pair;
      given = of_source before words given read h ∙ ap (λ r. r >>= (λ pair. Ok (source pair))) adds.is;
      added = is ∙ ap (λ pairs. record before { source = pairs }) adds.added;
    }

pub adds_robin : (before now : ProblemParts) (words : List (List ℕ)) (given : Result (ℕ × (ℤ × ℤ)) ProblemKind) (list : List (ℕ × (ℤ × ℤ))) → given ≡ two_settings_of words → keyword_at words ≡ Ok keywords.Robin → now ≡ record before { robin = list } →
    AddsSetting given before.robin list → AddsEntry before words now
adds_robin before now words given list read h is adds =
    record {
      entry = robin adds.pair;
      given = of_robin before words given read h ∙ ap (λ r. r >>= (λ pair. Ok (robin pair))) adds.is;
      added = is ∙ ap (λ pairs. record before { robin = pairs }) adds.added;
    }

pub adds_dirichlet : (before now : ProblemParts) (words : List (List ℕ)) (given : Result (ℕ × ℤ) ProblemKind) (list : List (ℕ × ℤ)) → given ≡ setting_of words → keyword_at words ≡ Ok keywords.Dirichlet → now ≡ record before { dirichlet = list } →
    AddsSetting given before.dirichlet list → AddsEntry before words now
adds_dirichlet before now words given list read h is adds =
    record {
      entry = dirichlet adds.pair;
      given = of_dirichlet before words given read h ∙ ap (λ r. r >>= (λ pair. Ok (dirichlet pair))) adds.is;
      added = is ∙ ap (λ pairs. record before { dirichlet = pairs }) adds.added;
    }

pub adds_subdomain : (before now : ProblemParts) (words : List (List ℕ)) (given : Result (ℕ × ℕ) ProblemKind) (list : List (ℕ × ℕ)) → given ≡ two_ids_of words → keyword_at words ≡ Ok keywords.Subdomain → now ≡ record before { subdomain = list } →
    AddsSetting given before.subdomain list → AddsEntry before words now
adds_subdomain before now words given list read h is adds =
    record {
      entry = subdomain adds.pair;
      given = of_subdomain before words given read h ∙ ap (λ r. r >>= (λ pair. Ok (subdomain pair))) adds.is;
      added = is ∙ ap (λ pairs. record before { subdomain = pairs }) adds.added;
    }

pub adds_penalty : (before now : ProblemParts) (words : List (List ℕ)) (value : Option ℤ) → keyword_at words ≡ Ok keywords.Penalty → now ≡ record before { penalty = value } →
    AddsPenalty words before.penalty value → AddsEntry before words now
adds_penalty before now words value h is adds =
    record {
      entry = penalty adds.value;
      given = of_penalty before words h ∙ ap (λ r. r >>= (λ v. Ok (penalty v))) adds.is;
      added = is ∙ ap (λ v. record before { penalty = v }) adds.added;
    }

pub adds_step : (before now : ProblemParts) (words : List (List ℕ)) (list : List (List ℕ)) → keyword_at words ≡ Ok keywords.Refine → now ≡ record before { steps = list } →
    AddsStep words before.steps list → AddsEntry before words now
adds_step before now words list h is adds =
    record {
      entry = refine adds.cells;
      given = of_step before words h ∙ ap (λ r. r >>= (λ cells. Ok (refine cells))) adds.is;
      added = is ∙ ap (λ steps. record before { steps = steps }) adds.added;
    }

pub adds_tie : (before now : ProblemParts) (words : List (List ℕ)) (list : List Tie) → keyword_at words ≡ Ok keywords.Constraint → now ≡ record before { ties = list } →
    AddsTie before.ties words list → AddsEntry before words now
adds_tie before now words list h is adds =
    record {
      entry = constraint adds.tie;
      given = of_tie before words h ∙ ap (λ r. r >>= (λ tie. Ok (constraint tie))) adds.given;
      added = is ∙ ap (λ ties. record before { ties = ties }) adds.added;
    }

failed : {A : Type 0} (number : ℕ) (r : Result A ProblemKind) (fault : TextFault ProblemKind) → at_line number r ≡ Err fault → (r ≡ Err fault.kind) × (number ≡ fault.line)
failed number (Ok y) fault h = cc
failed {A = A} number (Err k) fault h =
    let made : TextFault ProblemKind = record { kind = k; line = number } in
    let same : made ≡ fault = err_same {A = A} made fault h in
    (ap (λ (f : TextFault ProblemKind). Err f.kind) same, ap (λ (f : TextFault ProblemKind). f.line) same)

-- a line that hasn't the shape of its word
pub fails_first : (before : ProblemParts) (words : List (List ℕ)) (number : ℕ) (given : Result Keyword ProblemKind) (out : Result Keyword (TextFault ProblemKind)) (fault : TextFault ProblemKind) →
    given ≡ keyword_at words → out ≡ at_line number given → out ≡ Err fault → NoMemoryOr fault (IsLineFault (entry_behind before words) number fault)
unfolding entry_behind
fails_first before words number given out fault is seen err =
    let (kind, line) = failed number given fault (sym seen ∙ err) in
    inr (record { kind_is = ap (λ k. k >>= (λ word. numbers_of word words >>= checked before)) (sym is ∙ kind); line_is = sym line })
