-- A section is read in one way: it gives rows or a first fault, never both.
use Rattle.std.proofs.Common.{◌≡◌, ◌∙◌, sym, refl, subst, ℕ, List, ◌⊎◌, inl, inr}
use Rattle.std.specs.List.{slice_get}
use Rattle.fem_text.specs.WordLines.{Lines, number_at}
use Rattle.fem_text.specs.Reading.{outcome, IsFault, FailsFirst}
use Rattle.fem_text.proofs.OneReading.{ok_same, ok_err, result_cases, one_list, not_both, fault_at, one_fault_here, read_or_fail}
use Rattle.msh_read.specs.declared.fault.MshKind.{MshKind}
use Rattle.msh_read.specs.declared.fault.MshKind.TheVariants.{TooFew}
use Rattle.msh_read.specs.Others.{ending_of, behind_others}
use Rattle.msh_read.specs.Sections.{first_is, Section, from_head, from_rows, from_end, IsOpened, HasHead, HasRows, HasSection, FaultInSection, in_opening, in_head, in_rows, in_end}

one_head : {X : Type 0} (section : Section X) (lines : Lines) (c d : ℕ) → HasHead section lines c → HasHead section lines d → c ≡ d
one_head section lines c d first second = ok_same c d (sym first.head_is ∙ second.head_is)

one_rows : {X : Type 0} (section : Section X) (lines : Lines) (c d : ℕ) (xs ys : List X) → HasRows section lines c xs → HasRows section lines d ys → (c ≡ d) × (xs ≡ ys)
one_rows section lines c d xs ys first second =
    let same : c ≡ d = one_head section lines c d first.head second.head in
    let moved = subst (λ n. HasRows section lines n ys) (sym same) second in
    (same, one_list TooFew section.row (from_rows lines) c xs ys first.rows_are moved.rows_are)

pub one_section : {X : Type 0} (section : Section X) (lines : Lines) (c d : ℕ) (xs ys : List X) → HasSection section lines c xs → HasSection section lines d ys → (c ≡ d) × (xs ≡ ys)
one_section section lines c d xs ys first second = one_rows section lines c d xs ys first.has second.has

-- no section is read and has a fault
opening_clash : {X P : Type 0} (section : Section X) (lines : Lines) (kind : MshKind) (line : ℕ) → IsOpened section lines →
    IsFault TooFew (first_is section.opening) (behind_others lines) 0 kind line → P
opening_clash section lines kind line is fault = ok_err tt kind (sym is.opened ∙ fault.kind_is)

head_clash : {X P : Type 0} (section : Section X) (lines : Lines) (count : ℕ) (kind : MshKind) (line : ℕ) → HasHead section lines count →
    IsFault TooFew section.head (from_head lines) 0 kind line → P
head_clash section lines count kind line is fault = ok_err count kind (sym is.head_is ∙ fault.kind_is)

rows_clash : {X P : Type 0} (section : Section X) (lines : Lines) (c d : ℕ) (xs : List X) (kind : MshKind) (line : ℕ) → HasRows section lines c xs → HasHead section lines d →
    FailsFirst TooFew section.row (from_rows lines) d kind line → P
rows_clash section lines c d xs kind line has head fails =
    let moved = subst (λ n. FailsFirst TooFew section.row (from_rows lines) n kind line) (one_head section lines d c head has.head) fails in
    not_both TooFew section.row (from_rows lines) c xs kind line has.rows_are moved

end_moved : {X : Type 0} (section : Section X) (lines : Lines) (c d : ℕ) (kind : MshKind) (line : ℕ) → d ≡ c →
    IsFault TooFew (first_is (ending_of section.opening)) (from_end d lines) 0 kind line → IsFault TooFew (first_is (ending_of section.opening)) (from_end c lines) 0 kind line
end_moved section lines c d kind line same fault = subst (λ n. IsFault TooFew (first_is (ending_of section.opening)) (from_end n lines) 0 kind line) same fault

pub section_no_fault : {X P : Type 0} (section : Section X) (lines : Lines) (count : ℕ) (rows : List X) (kind : MshKind) (line : ℕ) → HasSection section lines count rows →
    FaultInSection section lines kind line → P
section_no_fault section lines count rows kind line has (in_opening fault) = opening_clash section lines kind line has.has.head.opens fault
section_no_fault section lines count rows kind line has (in_head opens fault) = head_clash section lines count kind line has.has.head fault
section_no_fault section lines count rows kind line has (in_rows d head fails) = rows_clash section lines count d rows kind line has.has head fails
section_no_fault section lines count rows kind line has (in_end d ys has_rows fault) =
    let same = one_rows section lines d count ys rows has_rows has.has in
    ok_err tt kind (sym has.ends ∙ (end_moved section lines count d kind line same.0 fault).kind_is)

pub one_fault_in_section : {X : Type 0} (section : Section X) (lines : Lines) (k l : MshKind) (m n : ℕ) → FaultInSection section lines k m → FaultInSection section lines l n → (k ≡ l) × (m ≡ n)
one_fault_in_section section lines k l m n (in_opening a) (in_opening b) = fault_at TooFew (first_is section.opening) (behind_others lines) 0 k l m n a b
one_fault_in_section section lines k l m n (in_opening a) (in_head opens b) = opening_clash section lines k m opens a
one_fault_in_section section lines k l m n (in_opening a) (in_rows d head b) = opening_clash section lines k m head.opens a
one_fault_in_section section lines k l m n (in_opening a) (in_end d ys has b) = opening_clash section lines k m has.head.opens a
one_fault_in_section section lines k l m n (in_head opens a) (in_opening b) = opening_clash section lines l n opens b
one_fault_in_section section lines k l m n (in_head opens a) (in_head also b) = fault_at TooFew section.head (from_head lines) 0 k l m n a b
one_fault_in_section section lines k l m n (in_head opens a) (in_rows d head b) = head_clash section lines d k m head a
one_fault_in_section section lines k l m n (in_head opens a) (in_end d ys has b) = head_clash section lines d k m has.head a
one_fault_in_section section lines k l m n (in_rows c head a) (in_opening b) = opening_clash section lines l n head.opens b
one_fault_in_section section lines k l m n (in_rows c head a) (in_head also b) = head_clash section lines c l n head b
one_fault_in_section section lines k l m n (in_rows c head a) (in_rows d also b) =
    let moved = subst (λ count. FailsFirst TooFew section.row (from_rows lines) count l n) (one_head section lines d c also head) b in
    one_fault_here TooFew section.row (from_rows lines) c k l m n a moved
one_fault_in_section section lines k l m n (in_rows c head a) (in_end d ys has b) = rows_clash section lines d c ys k m has head a
one_fault_in_section section lines k l m n (in_end c xs has a) (in_opening b) = opening_clash section lines l n has.head.opens b
one_fault_in_section section lines k l m n (in_end c xs has a) (in_head opens b) = head_clash section lines c l n has.head b
one_fault_in_section section lines k l m n (in_end c xs has a) (in_rows d head b) = rows_clash section lines c d xs l n has head b
one_fault_in_section section lines k l m n (in_end c xs has a) (in_end d ys also b) =
    let same = one_rows section lines d c ys xs also has in
    fault_at TooFew (first_is (ending_of section.opening)) (from_end c lines) 0 k l m n a (end_moved section lines c d l n same.0 b)

-- a section is read, or it has a fault
abbrev pub SectionOrFault : {X : Type 0} (section : Section X) (lines : Lines) → Type 0
SectionOrFault {X} section lines =
    ((count : ℕ) × (rows : List X) × HasSection section lines count rows) ⊎ ((kind : MshKind) × (line : ℕ) × FaultInSection section lines kind line)

end_or_fault : {X : Type 0} (section : Section X) (lines : Lines) (count : ℕ) (rows : List X) → HasRows section lines count rows → SectionOrFault section lines
end_or_fault section lines count rows has = elim (result_cases (outcome TooFew (first_is (ending_of section.opening)) (slice_get (from_end count lines).ahead 0))) [
  | inl good ↦ inl (count, rows, record { has = has; ends = good.1 })
  | inr bad ↦ inr (bad.0, number_at (from_end count lines) 0, in_end count rows has (record { kind_is = bad.1; line_is = refl }))
]

rows_or_fault : {X : Type 0} (section : Section X) (lines : Lines) (count : ℕ) → HasHead section lines count → SectionOrFault section lines
rows_or_fault section lines count head = elim (read_or_fail TooFew section.row (from_rows lines) count) [
  | inl rows ↦ end_or_fault section lines count rows.0 (record { head = head; rows_are = rows.1 })
  | inr fails ↦ inr (fails.0, fails.1, in_rows count head fails.2)
]

head_or_fault : {X : Type 0} (section : Section X) (lines : Lines) → IsOpened section lines → SectionOrFault section lines
head_or_fault section lines opens = elim (result_cases (outcome TooFew section.head (slice_get (from_head lines).ahead 0))) [
  | inl good ↦ rows_or_fault section lines good.0 (record { opens = opens; head_is = good.1 })
  | inr bad ↦ inr (bad.0, number_at (from_head lines) 0, in_head opens (record { kind_is = bad.1; line_is = refl }))
]

pub section_or_fault : {X : Type 0} (section : Section X) (lines : Lines) → SectionOrFault section lines
section_or_fault section lines = elim (result_cases (outcome TooFew (first_is section.opening) (slice_get (behind_others lines).ahead 0))) [
  | inl good ↦ head_or_fault section lines (record { opened = good.1 })
  | inr bad ↦ inr (bad.0, number_at (behind_others lines) 0, in_opening (record { kind_is = bad.1; line_is = refl }))
]
