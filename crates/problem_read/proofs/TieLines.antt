-- What a constraint line adds to those that are held.
use Rattle.std.proofs.Common.{◌≡◌, ◌∙◌, sym, ap, refl, ℕ, ◌+◌, ◌-◌, ◌≤◌, ◌^◌, suc, List, [], ◌∷◌, ◌++◌, true, length, take, drop, arith, length-append}
use Rattle.std.specs.Prelude.{◌&&◌, ℤ, nat_lt, nat_le, Ok, Err}
use Rattle.std.specs.declared.result.Result.{Result}
use Rattle.std.proofs.lemmas.List.{map-append, length-map, length-drop, take-append-le, drop-append-le}
use Rattle.std.proofs.Math.Seq.{drop-append_seam, take-length}
use Rattle.fem_text.specs.Faults.{at_line}
use Rattle.fem_text.specs.Words.{◌>>=◌, or_fault, unless, id_at}
use Rattle.fem_text.proofs.OneReading.{ok_same}
use Rattle.problem_read.specs.declared.fault.ProblemKind.{ProblemKind}
use Rattle.problem_read.specs.declared.fault.ProblemKind.TheVariants as kinds
use Rattle.problem_read.specs.declared.ties.TieTerm.{TieTerm}
use Rattle.problem_read.specs.declared.ties.TieLine.{TieLine}
use Rattle.problem_read.specs.Entries.{Tie}
use Rattle.problem_read.specs.Sums.{sum_of}
use Rattle.problem_read.specs.EntryLine.{tie_at}
use Rattle.problem_read.specs.Ties.{tie_in, ties_in, tie_line_of, AreThere, tie_fits, tie_line, AddsTie, HasSum}

-- a value that a line gave
pub gave : {A : Type 0} (number : ℕ) (r : Result A ProblemKind) (x : A) → at_line number r ≡ Ok x → r ≡ Ok x
gave number (Ok y) x h = (let same : y ≡ x = ok_same y x h in ap (λ z. Ok z) same)
gave number (Err k) x h = cc

-- terms that are there stay where they are
same_terms : (terms more : List TieTerm) (start count : ℕ) → start + count ≤ length terms → take count (drop start (terms ++ more)) ≡ take count (drop start terms)
same_terms terms more start count there =
    let within : start ≤ length terms = omega arith in
    let left : count ≤ length (drop start terms) = simp length-drop (omega arith) in
    ap (take count) (drop-append-le start terms more within) ∙ take-append-le count (drop start terms) more left

same_ties : (lines : List TieLine) (terms more : List TieTerm) → AreThere lines (length terms) → ties_in lines (terms ++ more) ≡ ties_in lines terms
same_ties [] terms more there = refl
same_ties (line ∷ lines) terms more there =
    let head : take line.count (drop line.start (terms ++ more)) ≡ take line.count (drop line.start terms) = same_terms terms more line.start line.count (there 0 line (omega arith)) in
    let tail : ties_in lines (terms ++ more) ≡ ties_in lines terms = same_ties lines terms more (λ k d below. there (suc k) d (omega arith)) in
    λ i. record { node = line.node; terms = head i; constant = line.constant } ∷ tail i

pub adds_line : (lines lines_now : List TieLine) (terms now : List TieTerm) (words : List (List ℕ)) (node count held start : ℕ) (constant : ℤ) → AreThere lines (length terms) →
    id_at kinds.Number words 1 ≡ Ok node → HasSum (drop 3 words) terms now constant → held ≡ length lines → count ≡ length now - length terms → start ≡ length terms →
    (nat_lt held (2 ^ 20) && nat_le count 16) ≡ true → lines_now ≡ lines ++ tie_line_of node count start constant ∷ [] → AddsTie (ties_in lines terms) words (ties_in lines_now now)
unfolding tie_at tie_line
adds_line lines lines_now terms now words node count held start constant there id has many few first room added =
    let tie : Tie = record { node = node; terms = has.terms; constant = constant } in
    let counted : count ≡ length has.terms = omega (arith, length-append terms has.terms, ap length has.added) in
    let numbers : tie_at words ≡ Ok tie = ap (λ r. r >>= (λ n. or_fault kinds.Number (sum_of (drop 3 words)) >>= (λ sum. Ok (record { node = n; terms = sum.terms; constant = sum.constant })))) id
    ∙ ap (λ s. or_fault kinds.Number s >>= (λ sum. Ok (record { node = node; terms = sum.terms; constant = sum.constant }))) has.sum in
    let lengths : held ≡ length (ties_in lines terms) = many ∙ sym (length-map lines (tie_in terms)) in
    let fits : tie_fits (ties_in lines terms) tie ≡ true = (λ i. nat_lt (sym lengths i) (2 ^ 20) && nat_le (sym counted i) 16) ∙ room in
    let cut : take count (drop start now) ≡ take (length has.terms) (drop (length terms) (terms ++ has.terms)) = (λ i. take (counted i) (drop (first i) (has.added i))) in
    let part : take count (drop start now) ≡ has.terms = cut ∙ ap (take (length has.terms)) (drop-append_seam terms has.terms) ∙ take-length has.terms in
    let before : ties_in lines now ≡ ties_in lines terms = ap (ties_in lines) has.added ∙ same_ties lines terms has.terms there in
    let last : tie_in now (tie_line_of node count start constant) ≡ tie = (λ i. record { node = node; terms = part i; constant = constant }) in
    record {
      tie = tie;
      given = ap (λ r. r >>= (λ t. unless kinds.Limit (tie_fits (ties_in lines terms) t) >>= (λ few. Ok t))) numbers ∙ ap (λ b. unless kinds.Limit b >>= (λ few. Ok tie)) fits;
      added = ap (λ ls. ties_in ls now) added ∙ map-append (tie_in now) lines (tie_line_of node count start constant ∷ []) ∙ (λ i. before i ++ last i ∷ []);
    }
