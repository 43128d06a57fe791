-- No line has the kind of fault that says that memory ran out.
use Rattle.std.proofs.Common.{ℕ, List, length, drop}
use Rattle.std.specs.Prelude.{◌^◌, not, Some}
use Rattle.std.specs.declared.result.Result.{Result}
use Rattle.fem_fixed.specs.Numbers.{id_of}
use Rattle.fem_text.specs.Words.{all_of}
use Rattle.fem_text.specs.WordLines.{text_lines}
use Rattle.fem_text.proofs.NeverKind.{Never, good, bind, of_option, of_test, of_word, of_id, of_number, no_fault}
use Rattle.problem_read.specs.declared.fault.ProblemKind.{ProblemKind}
use Rattle.problem_read.specs.declared.fault.ProblemKind.TheVariants as kinds
use Rattle.problem_read.specs.declared.keyword.Keyword.{Keyword}
use Rattle.problem_read.specs.declared.keyword.Keyword.TheVariants as keywords
use Rattle.problem_read.specs.Entries.{Entry, ProblemParts, parts_of, diffusion, source, robin, dirichlet, penalty, refine, constraint, subdomain}
use Rattle.problem_read.specs.Sums.{sum_of}
use Rattle.problem_read.specs.Shapes.{keyword_of, has_shape, keyword_at}
use Rattle.problem_read.specs.EntryLine.{value_at, setting_of, two_settings_of, two_ids_of, tie_at, numbers_of, repeats, has_room, checked, entry_behind, entry_line}
use Rattle.problem_read.specs.Problem.{ProblemFaultAt}

-- it isn't that memory ran out
abbrev OfText : {A : Type 0} → Result A ProblemKind → Type 0
OfText r = Never kinds.NoMemory r

of_keyword : (words : List (List ℕ)) → OfText (keyword_at words)
unfolding keyword_at
of_keyword words =
    bind _ _ _ (of_word _ kinds.Word words 0 (λ h. cc)) (λ word.
    bind _ _ _ (of_option _ kinds.Word (keyword_of word) (λ h. cc)) (λ keyword.
    bind _ _ _ (of_test _ kinds.Word (has_shape keyword words) (λ h. cc)) (λ shaped. good _ keyword)))

of_value : (words : List (List ℕ)) (place : ℕ) → OfText (value_at words place)
of_value words place = of_number _ kinds.Number (2 ^ 31) words place (λ h. cc)

of_setting : (words : List (List ℕ)) → OfText (setting_of words)
unfolding setting_of
of_setting words = bind _ _ _ (of_id _ kinds.Number words 1 (λ h. cc)) (λ id. bind _ _ _ (of_value words 2) (λ value. good _ (id, value)))

of_two : (words : List (List ℕ)) → OfText (two_settings_of words)
unfolding two_settings_of
of_two words =
    bind _ _ _ (of_id _ kinds.Number words 1 (λ h. cc)) (λ id.
    bind _ _ _ (of_value words 2) (λ first. bind _ _ _ (of_value words 3) (λ second. good _ (id, (first, second)))))

of_ids : (words : List (List ℕ)) → OfText (two_ids_of words)
unfolding two_ids_of
of_ids words = bind _ _ _ (of_id _ kinds.Number words 1 (λ h. cc)) (λ id. bind _ _ _ (of_id _ kinds.Number words 2 (λ h. cc)) (λ other. good _ (id, other)))

of_tie : (words : List (List ℕ)) → OfText (tie_at words)
unfolding tie_at
of_tie words =
    bind _ _ _ (of_id _ kinds.Number words 1 (λ h. cc)) (λ node.
    bind _ _ _ (of_option _ kinds.Number (sum_of (drop 3 words)) (λ h. cc)) (λ sum. good _ (record { node = node; terms = sum.terms; constant = sum.constant })))

of_numbers : (keyword : Keyword) (words : List (List ℕ)) → OfText (numbers_of keyword words)
of_numbers keywords.Diffusion words = bind _ _ _ (of_setting words) (λ pair. good _ (diffusion pair))
of_numbers keywords.Source words = bind _ _ _ (of_setting words) (λ pair. good _ (source pair))
of_numbers keywords.Robin words = bind _ _ _ (of_two words) (λ pair. good _ (robin pair))
of_numbers keywords.Dirichlet words = bind _ _ _ (of_setting words) (λ pair. good _ (dirichlet pair))
of_numbers keywords.Penalty words = bind _ _ _ (of_value words 1) (λ value. good _ (penalty value))
of_numbers keywords.Refine words = bind _ _ _ (of_option _ kinds.Number (all_of id_of (drop 1 words)) (λ h. cc)) (λ cells. good _ (refine cells))
of_numbers keywords.Constraint words = bind _ _ _ (of_tie words) (λ tie. good _ (constraint tie))
of_numbers keywords.Subdomain words = bind _ _ _ (of_ids words) (λ pair. good _ (subdomain pair))

of_checked : (before : ProblemParts) (entry : Entry) → OfText (checked before entry)
of_checked before entry =
    bind _ _ _ (of_test _ kinds.Repeated (not (repeats before entry)) (λ h. cc)) (λ new.
    bind _ _ _ (of_test _ kinds.Limit (has_room before entry) (λ h. cc)) (λ few. good _ entry))

of_entry : (before : ProblemParts) (words : List (List ℕ)) → OfText (entry_behind before words)
unfolding entry_behind
of_entry before words =
    bind _ _ _ (of_keyword words) (λ keyword. bind _ _ _ (of_numbers keyword words) (λ entry. of_checked before entry))

-- what is wrong with a text is never that memory ran out
pub never_memory : (text : List ℕ) (line : ℕ) → ProblemFaultAt text kinds.NoMemory line → ⊥
never_memory text line fails =
    let first = fails kinds.Word in
    no_fault kinds.NoMemory kinds.Word (entry_line first.before) (text_lines (Some 35) text) (length first.before) line (λ h. cc) (of_entry (parts_of first.before)) first.fault
