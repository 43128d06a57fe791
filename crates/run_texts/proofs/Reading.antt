-- Texts that were read, and what they are of.
use Rattle.std.proofs.Common.{lit≤, ◌≡◌, ◌∙◌, sym, ap, refl, subst, ℕ, ◌+◌, ◌<◌, ◌≤◌, List, [], length, take, arith, false, inl, inr}
use Rattle.std.specs.Prelude.{Some, None, Ok, Err, IfOk, IfErr}
use Rattle.std.specs.declared.option.Option.{Option}
use Rattle.std.specs.declared.result.Result.{Result}
use Rattle.std.specs.Option.{option_map}
use Rattle.std.proofs.lemmas.Grind.{common_steps}
use Rattle.std.proofs.lemmas.Option.{same_Some}
use Rattle.fem_text.specs.Outside.{Held, Reads, IsAbsent}
use Rattle.fem_text.specs.declared.fault.TextFault.{TextFault}
use Rattle.problem_read.specs.declared.fault.ProblemKind.{ProblemKind}
use Rattle.problem_read.specs.declared.fault.ProblemKind.TheVariants as problem
use Rattle.problem_read.specs.Entries.{ProblemParts}
use Rattle.problem_read.specs.Problem.{ProblemFaultAt}
use Rattle.problem_read.specs.Problem as problems
use Rattle.diagnostics.specs.declared.refusal.Refusal.{Refusal}
use Rattle.diagnostics.specs.declared.refusal.Refusal.TheVariants.{Absent, Limit}
use Rattle.diagnostics.specs.declared.ending.Role.{Role}
use Rattle.diagnostics.specs.declared.ending.Role.TheVariants as roles
use Rattle.diagnostics.specs.declared.ending.Ending.{Ending}
use Rattle.diagnostics.specs.declared.ending.Ending.TheVariants.{Refused, ReadFault, WriteFault, NoMemory}
use Rattle.run_texts.specs.Endings.{of_problem_text}
use Rattle.diagnostics.specs.Stages.{Then, stops, goes}
use Rattle.diagnostics.specs.Stages as stages
use Rattle.diagnostics.proofs.StageLaws.{ends_next}
use Rattle.run_texts.specs.Texts.{text_limit, StandsUnder, TextFor, size_limit, ProblemIn, ProblemOf}
use Rattle.run_texts.specs.Read.{TextUnder, ProblemUnder, EndsIn, EndsProblem, is_read_fault}

cut_long : (m : ℕ) (text bytes : List ℕ) → take (m + 1) text ≡ bytes → m < length bytes → m < length text
cut_long m text bytes e h = grind (arith, common_steps)

cut_whole : (m : ℕ) (text bytes : List ℕ) → take (m + 1) text ≡ bytes → length bytes ≤ m → text ≡ bytes
cut_whole m text bytes e h = grind (arith, common_steps)

long_known : (role : Role) (known : Option (List ℕ)) (bytes : List ℕ) → option_map (take (text_limit + 1)) known ≡ Some bytes → text_limit < length bytes →
    TextFor role known (Err (Limit (size_limit role)))
long_known role None bytes e h = cc
long_known role (Some text) bytes e h = (cut_long text_limit text bytes (same_Some (take (text_limit + 1) text) bytes e) h, refl)

whole_known : (role : Role) (known : Option (List ℕ)) (bytes : List ℕ) → option_map (take (text_limit + 1)) known ≡ Some bytes → length bytes ≤ text_limit →
    TextFor role known (Ok bytes)
whole_known role None bytes e h = cc
whole_known role (Some text) bytes e h = (ap Some (cut_whole text_limit text bytes (same_Some (take (text_limit + 1) text) bytes e) h), h)

-- a text above the limit
pub long_read : (role : Role) (holds : Option Held) (name bytes : List ℕ) → Reads holds name text_limit bytes → text_limit < length bytes →
    TextUnder role holds name (Err (Limit (size_limit role)))
long_read role None name bytes r h = (Some bytes, refl, (h, refl))
long_read role (Some held) name bytes r h = (held name, refl, long_known role (held name) bytes r h)

-- a text that was read whole
pub whole_read : (role : Role) (holds : Option Held) (name bytes : List ℕ) → Reads holds name text_limit bytes → length bytes ≤ text_limit →
    TextUnder role holds name (Ok bytes)
whole_read role None name bytes r h = (Some bytes, refl, (refl, h))
whole_read role (Some held) name bytes r h = (held name, refl, whole_known role (held name) bytes r h)

-- a text that isn't held
pub absent_read : (role : Role) (holds : Option Held) (name : List ℕ) → IsAbsent holds name → TextUnder role holds name (Err (Absent role))
absent_read role None name h = absurd h
absent_read role (Some held) name h = (None, sym h, refl)

problem_kind_ends : (text : List ℕ) (kind : ProblemKind) (line : ℕ) → ProblemFaultAt text kind line → stages.EndsIn (ProblemIn text) (of_problem_text kind line)
problem_kind_ends text problem.Word line h = (record { kind = problem.Word; line = line }, h, refl)
problem_kind_ends text problem.Number line h = (record { kind = problem.Number; line = line }, h, refl)
problem_kind_ends text problem.Repeated line h = (record { kind = problem.Repeated; line = line }, h, refl)
problem_kind_ends text problem.Limit line h = (record { kind = problem.Limit; line = line }, h, refl)
problem_kind_ends text problem.NoMemory line h = tt

problem_said : (text : List ℕ) (fault : TextFault ProblemKind) → problems.NoMemoryOr fault (ProblemFaultAt text fault.kind fault.line) →
    stages.EndsIn (ProblemIn text) (of_problem_text fault.kind fault.line)
problem_said text fault (inl e) = subst (λ (f : TextFault ProblemKind). stages.EndsIn (ProblemIn text) (of_problem_text f.kind f.line)) (sym e) tt
problem_said text fault (inr h) = problem_kind_ends text fault.kind fault.line h

-- a fault of a problem text ends its reading
pub problem_ends : (text : List ℕ) (fault : TextFault ProblemKind) (e : Ending) → e ≡ of_problem_text fault.kind fault.line →
    problems.NoMemoryOr fault (ProblemFaultAt text fault.kind fault.line) → stages.EndsIn (ProblemIn text) e
problem_ends text fault e is h = subst (stages.EndsIn (ProblemIn text)) (sym is) (problem_said text fault h)

module _ {X : Type 0} where
  -- what a text that is there is of
  pub of_text : (role : Role) (text : List ℕ) (next : List ℕ → Result X Refusal → Type 0) (value : X) → length text ≤ text_limit → next text (Ok value) →
      Then (TextFor role (Some text)) next (Ok value)
  of_text role text next value short h = goes text (refl, short) h

  pub of_text_result : (role : Role) (text : List ℕ) (next : List ℕ → Result X Refusal → Type 0) (result : Result X Ending) → length text ≤ text_limit →
      IfOk result (λ value. next text (Ok value)) → IfOk result (λ value. Then (TextFor role (Some text)) next (Ok value))
  of_text_result role text next (Ok value) short h = of_text role text next value short h
  of_text_result role text next (Err e) short h = tt

  pub of_text_ends : (role : Role) (text : List ℕ) (next : List ℕ → Result X Refusal → Type 0) (result : Result X Ending) → length text ≤ text_limit →
      IfErr result (stages.EndsIn (next text)) → IfErr result (stages.EndsIn (Then (TextFor role (Some text)) next))
  of_text_ends role text next (Ok value) short h = tt
  of_text_ends role text next (Err e) short h = ends_next (TextFor role (Some text)) next text e (refl, short) h

  -- what a text under a name is of
  abbrev Under : Role → (List ℕ → Result X Refusal → Type 0) → Option Held → List ℕ → Result X Refusal → Type 0
  Under role next holds name outcome = (known : Option (List ℕ)) × StandsUnder holds name known × Then (TextFor role known) next outcome

  pub under_ok : (role : Role) (next : List ℕ → Result X Refusal → Type 0) (holds : Option Held) (name text : List ℕ) (result : Result X Ending) →
      TextUnder role holds name (Ok text) → IfOk result (λ value. next text (Ok value)) → IfOk result (λ value. Under role next holds name (Ok value))
  under_ok role next holds name text (Ok value) (known, stands, is) h = (known, stands, goes text is h)
  under_ok role next holds name text (Err e) read h = tt

  ends_under : (role : Role) (next : List ℕ → Result X Refusal → Type 0) (holds : Option Held) (name text : List ℕ) (e : Ending) →
      TextUnder role holds name (Ok text) → stages.EndsIn (next text) e → EndsIn role (Under role next holds name) e
  ends_under role next holds name text (Refused refusal) (known, stands, is) h = (known, stands, goes text is h)
  ends_under role next holds name text (ReadFault other) read h = absurd h
  ends_under role next holds name text (WriteFault output) read h = h
  ends_under role next holds name text NoMemory read h = h

  pub under_ends : (role : Role) (next : List ℕ → Result X Refusal → Type 0) (holds : Option Held) (name text : List ℕ) (result : Result X Ending) →
      TextUnder role holds name (Ok text) → IfErr result (stages.EndsIn (next text)) → IfErr result (EndsIn role (Under role next holds name))
  under_ends role next holds name text (Ok value) read h = tt
  under_ends role next holds name text (Err e) read h = ends_under role next holds name text e read h

  -- the read itself ends
  pub read_ends : (role : Role) (next : List ℕ → Result X Refusal → Type 0) (holds : Option Held) (name : List ℕ) (e : Ending) →
      EndsIn role (TextUnder role holds name) e → EndsIn role (Under role next holds name) e
  read_ends role next holds name (Refused refusal) (known, stands, is) = (known, stands, stops refusal is refl)
  read_ends role next holds name (ReadFault other) h = h
  read_ends role next holds name (WriteFault output) h = h
  read_ends role next holds name NoMemory h = h

  -- a step without a read has no read fault
  pub no_read_fault : (step : Result X Refusal → Type 0) (result : Result X Ending) → IfErr result (stages.EndsIn step) → is_read_fault result ≡ false
  no_read_fault step (Ok value) h = refl
  no_read_fault step (Err (Refused refusal)) h = refl
  no_read_fault step (Err (ReadFault role)) h = absurd h
  no_read_fault step (Err (WriteFault output)) h = refl
  no_read_fault step (Err NoMemory) h = refl

-- the problem of the text under a name
abbrev NamedProblem : Option Held → List ℕ → Result ProblemParts Refusal → Type 0
NamedProblem holds name outcome = (known : Option (List ℕ)) × StandsUnder holds name known × ProblemOf known outcome

named_ends : (holds : Option Held) (name : List ℕ) (e : Ending) → EndsIn roles.Problem (NamedProblem holds name) e → EndsProblem holds (Some name) e
named_ends holds name (Refused refusal) h = h
named_ends holds name (ReadFault role) h = (h, refl)
named_ends holds name (WriteFault output) h = h
named_ends holds name NoMemory h = h

pub problem_read_ends : (holds : Option Held) (name : List ℕ) (e : Ending) → EndsIn roles.Problem (TextUnder roles.Problem holds name) e → EndsProblem holds (Some name) e
problem_read_ends holds name e h = named_ends holds name e (read_ends roles.Problem ProblemIn holds name e h)

named_result : (holds : Option Held) (name : List ℕ) (result : Result ProblemParts Ending) → IfErr result (EndsIn roles.Problem (NamedProblem holds name)) → IfErr result (EndsProblem holds (Some name))
named_result holds name (Ok value) h = tt
named_result holds name (Err e) h = named_ends holds name e h

pub problem_under_ends : (holds : Option Held) (name text : List ℕ) (result : Result ProblemParts Ending) → TextUnder roles.Problem holds name (Ok text) →
    IfErr result (stages.EndsIn (ProblemIn text)) → IfErr result (EndsProblem holds (Some name))
problem_under_ends holds name text result read h = named_result holds name result (under_ends roles.Problem ProblemIn holds name text result read h)

-- without a name the text is empty
none_short : length {A = ℕ} [] ≤ text_limit
unfolding text_limit
none_short = lit≤ tt

pub no_name_ok : (holds : Option Held) (result : Result ProblemParts Ending) → IfOk result (λ p. ProblemIn [] (Ok p)) → IfOk result (λ p. ProblemUnder holds None (Ok p))
no_name_ok holds (Ok p) h = (Some [], refl, goes [] (refl, none_short) h)
no_name_ok holds (Err e) h = tt

no_name_end : (holds : Option Held) (e : Ending) → stages.EndsIn (ProblemIn []) e → EndsProblem holds None e
no_name_end holds (Refused refusal) h = (Some [], refl, goes [] (refl, none_short) h)
no_name_end holds (ReadFault role) h = absurd h
no_name_end holds (WriteFault output) h = h
no_name_end holds NoMemory h = h

pub no_name_ends : (holds : Option Held) (result : Result ProblemParts Ending) → IfErr result (stages.EndsIn (ProblemIn [])) → IfErr result (EndsProblem holds None)
no_name_ends holds (Ok p) h = tt
no_name_ends holds (Err e) h = no_name_end holds e h
