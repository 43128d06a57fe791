-- What the lines so far say.
use Rattle.std.proofs.Common.{◌≡◌, ◌∙◌, sym, ap, refl, subst, ℕ, List, [], ◌∷◌, ◌++◌, Bool, true, false, append-nil, inl, inr}
use Rattle.std.specs.Prelude.{Some, Ok, not, is_some, slice_get}
use Rattle.std.specs.List.{filter_map}
use Rattle.std.proofs.lemmas.List.Elements.{filter_map-append}
use Rattle.fem_text.specs.declared.fault.TextFault.{TextFault}
use Rattle.fem_text.specs.declared.lines.TextLine.{TextLine}
use Rattle.fem_text.specs.Lines.{words_of}
use Rattle.fem_text.specs.LineSteps.{TakesFirst}
use Rattle.fem_text.specs.WordLines.{Lines, text_lines}
use Rattle.fem_text.specs.Words.{◌>>=◌, unless}
use Rattle.fem_text.specs.ReadingEvery.{FailsSomewhere}
use Rattle.fem_text.proofs.OneReading.{ok_same}
use Rattle.fem_text.proofs.Values.{then_ok, passed}
use Rattle.fem_text.proofs.ReadingEvery.{so_far_none, so_far_more, so_far_fails, so_far_every}
use Rattle.problem_read.specs.declared.fault.ProblemKind.{ProblemKind}
use Rattle.problem_read.specs.declared.fault.ProblemKind.TheVariants as kinds
use Rattle.problem_read.specs.Entries.{Entry, ProblemParts, parts_of, diffusion, source, robin, dirichlet, penalty, refine, constraint, subdomain, diffusion_of, source_of, robin_of, dirichlet_of, penalty_of, step_of, tie_of, subdomain_of}
use Rattle.problem_read.specs.Shapes.{keyword_at}
use Rattle.problem_read.specs.EntryLine.{numbers_of, repeats, has_room, checked, entry_behind, entry_line}
use Rattle.problem_read.specs.Problem.{ProblemText, NoMemoryOr}
use Rattle.problem_read.specs.Limits.{AreWithinLimits}
use Rattle.problem_read.proofs.Limits.{no_lines_keep, line_keeps, adds_keep}
use Rattle.problem_read.specs.Steps.{with_entry, AddsEntry, IsLineFault, HoldsSoFar}

isnt : (b : Bool) → not b ≡ true → b ≡ false
isnt false h = refl
isnt true h = cc

-- an entry that a line gives repeats none of the earlier ones
fresh : (before : ProblemParts) (words : List (List ℕ)) (entry : Entry) → entry_behind before words ≡ Ok entry → repeats before entry ≡ false
unfolding entry_behind
fresh before words entry h =
    let (keyword, e1, h1) = then_ok (keyword_at words) (λ k. numbers_of k words >>= checked before) entry h in
    let (given, e2, h2) = then_ok (numbers_of keyword words) (checked before) entry h1 in
    let (new, e3, h3) = then_ok (unless kinds.Repeated (not (repeats before given))) (λ u. unless kinds.Limit (has_room before given) >>= (λ few. Ok given)) entry h2 in
    let (few, e4, h4) = then_ok (unless kinds.Limit (has_room before given)) (λ u. Ok given) entry h3 in
    let same : given ≡ entry = ok_same given entry h4 in
    let P : Entry → Type 0 = λ e. repeats before e ≡ false in
    subst P same (isnt (repeats before given) (passed kinds.Repeated (not (repeats before given)) new e3))

last_first : {A : Type 0} (xs : List A) (x : A) → is_some (slice_get xs 0) ≡ false → Some x ≡ slice_get (xs ++ x ∷ []) 0
last_first [] x h = refl
last_first (y ∷ ys) x h = cc

abbrev joined : List Entry → Entry → ProblemParts
joined entries entry =
    record {
      diffusion = filter_map diffusion_of entries ++ filter_map diffusion_of (entry ∷ []);
      source = filter_map source_of entries ++ filter_map source_of (entry ∷ []);
      robin = filter_map robin_of entries ++ filter_map robin_of (entry ∷ []);
      dirichlet = filter_map dirichlet_of entries ++ filter_map dirichlet_of (entry ∷ []);
      penalty = slice_get (filter_map penalty_of entries ++ filter_map penalty_of (entry ∷ [])) 0;
      steps = filter_map step_of entries ++ filter_map step_of (entry ∷ []);
      ties = filter_map tie_of entries ++ filter_map tie_of (entry ∷ []);
      subdomain = filter_map subdomain_of entries ++ filter_map subdomain_of (entry ∷ []);
    }

join : (entries : List Entry) (entry : Entry) → joined entries entry ≡ parts_of (entries ++ entry ∷ [])
join entries entry =
    let d = sym (filter_map-append diffusion_of entries (entry ∷ [])) in
    let s = sym (filter_map-append source_of entries (entry ∷ [])) in
    let r = sym (filter_map-append robin_of entries (entry ∷ [])) in
    let b = sym (filter_map-append dirichlet_of entries (entry ∷ [])) in
    let p = sym (filter_map-append penalty_of entries (entry ∷ [])) in
    let t = sym (filter_map-append step_of entries (entry ∷ [])) in
    let c = sym (filter_map-append tie_of entries (entry ∷ [])) in
    let o = sym (filter_map-append subdomain_of entries (entry ∷ [])) in
    λ i. record { diffusion = d i; source = s i; robin = r i; dirichlet = b i; penalty = slice_get (p i) 0; steps = t i; ties = c i; subdomain = o i }

same_parts : (x y : ProblemParts) → x.diffusion ≡ y.diffusion → x.source ≡ y.source → x.robin ≡ y.robin → x.dirichlet ≡ y.dirichlet → x.penalty ≡ y.penalty → x.steps ≡ y.steps → x.ties ≡ y.ties → x.subdomain ≡ y.subdomain → x ≡ y
same_parts x y d s r b p t c o = λ i. record { diffusion = d i; source = s i; robin = r i; dirichlet = b i; penalty = p i; steps = t i; ties = c i; subdomain = o i }

-- a list that gets no more
none : {A : Type 0} (xs : List A) → xs ≡ xs ++ []
none xs = sym (append-nil xs)

by_entry : (entries : List Entry) (entry : Entry) → repeats (parts_of entries) entry ≡ false → with_entry (parts_of entries) entry ≡ joined entries entry
by_entry entries (diffusion pair) new =
    let p = parts_of entries in
    same_parts (with_entry p (diffusion pair)) (joined entries (diffusion pair)) refl (none p.source) (none p.robin) (none p.dirichlet) (ap (λ xs. slice_get xs 0) (none (filter_map penalty_of entries))) (none p.steps) (none p.ties) (none p.subdomain)
by_entry entries (source pair) new =
    let p = parts_of entries in
    same_parts (with_entry p (source pair)) (joined entries (source pair)) (none p.diffusion) refl (none p.robin) (none p.dirichlet) (ap (λ xs. slice_get xs 0) (none (filter_map penalty_of entries))) (none p.steps) (none p.ties) (none p.subdomain)
by_entry entries (robin pair) new =
    let p = parts_of entries in
    same_parts (with_entry p (robin pair)) (joined entries (robin pair)) (none p.diffusion) (none p.source) refl (none p.dirichlet) (ap (λ xs. slice_get xs 0) (none (filter_map penalty_of entries))) (none p.steps) (none p.ties) (none p.subdomain)
by_entry entries (dirichlet pair) new =
    let p = parts_of entries in
    same_parts (with_entry p (dirichlet pair)) (joined entries (dirichlet pair)) (none p.diffusion) (none p.source) (none p.robin) refl (ap (λ xs. slice_get xs 0) (none (filter_map penalty_of entries))) (none p.steps) (none p.ties) (none p.subdomain)
by_entry entries (penalty value) new =
    let p = parts_of entries in
    same_parts (with_entry p (penalty value)) (joined entries (penalty value)) (none p.diffusion) (none p.source) (none p.robin) (none p.dirichlet) (last_first (filter_map penalty_of entries) value new) (none p.steps) (none p.ties) (none p.subdomain)
by_entry entries (refine cells) new =
    let p = parts_of entries in
    same_parts (with_entry p (refine cells)) (joined entries (refine cells)) (none p.diffusion) (none p.source) (none p.robin) (none p.dirichlet) (ap (λ xs. slice_get xs 0) (none (filter_map penalty_of entries))) refl (none p.ties) (none p.subdomain)
by_entry entries (constraint tie) new =
    let p = parts_of entries in
    same_parts (with_entry p (constraint tie)) (joined entries (constraint tie)) (none p.diffusion) (none p.source) (none p.robin) (none p.dirichlet) (ap (λ xs. slice_get xs 0) (none (filter_map penalty_of entries))) (none p.steps) refl (none p.subdomain)
by_entry entries (subdomain pair) new =
    let p = parts_of entries in
    same_parts (with_entry p (subdomain pair)) (joined entries (subdomain pair)) (none p.diffusion) (none p.source) (none p.robin) (none p.dirichlet) (ap (λ xs. slice_get xs 0) (none (filter_map penalty_of entries))) (none p.steps) (none p.ties) refl

pub holds_none : (lines rest : Lines) (parts : ProblemParts) → rest ≡ lines → parts ≡ parts_of [] → HoldsSoFar lines parts rest
holds_none lines rest parts new empty =
    let P : Lines → Type 0 = λ l. HoldsSoFar lines parts l in
    subst P (sym new) (record { entries = []; reads = so_far_none entry_line lines; parts_are = empty; limits = subst AreWithinLimits (sym empty) no_lines_keep })

given_behind : (lines rest : Lines) (parts : ProblemParts) (words : List (List ℕ)) (has : HoldsSoFar lines parts rest) → entry_line has.entries words ≡ entry_behind parts words
given_behind lines rest parts words has = ap (λ p. entry_behind p words) (sym has.parts_are)

pub holds_more : (lines rest now : Lines) (parts parts_now : ProblemParts) (line : TextLine) → HoldsSoFar lines parts rest → TakesFirst rest line now → AddsEntry parts (words_of line.bytes.now) parts_now →
    HoldsSoFar lines parts_now now
holds_more lines rest now parts parts_now line has takes adds =
    let given : entry_line has.entries (words_of line.bytes.now) ≡ Ok adds.entry = given_behind lines rest parts (words_of line.bytes.now) has ∙ adds.given in
    let new = fresh (parts_of has.entries) (words_of line.bytes.now) adds.entry given in
    record {
      entries = has.entries ++ adds.entry ∷ [];
      reads = so_far_more entry_line lines rest now has.entries (has.entries ++ adds.entry ∷ []) adds.entry line has.reads takes given refl;
      parts_are = adds.added ∙ ap (λ p. with_entry p adds.entry) has.parts_are ∙ by_entry has.entries adds.entry new ∙ join has.entries adds.entry;
      limits = (let (keeps, room) = line_keeps parts (words_of line.bytes.now) adds.entry adds.given in
          subst AreWithinLimits (sym adds.added) (adds_keep parts adds.entry has.limits keeps room));
    }

pub holds_fails : (lines rest now : Lines) (parts : ProblemParts) (line : TextLine) (fault : TextFault ProblemKind) → HoldsSoFar lines parts rest → TakesFirst rest line now →
    NoMemoryOr fault (IsLineFault (entry_behind parts (words_of line.bytes.now)) line.number fault) → NoMemoryOr fault (FailsSomewhere entry_line lines fault.kind fault.line)
holds_fails lines rest now parts line fault has takes found = elim found [
  | inl memory ↦ inl memory
  | inr fails ↦ (let given = given_behind lines rest parts (words_of line.bytes.now) has ∙ fails.kind_is in
      let P : ℕ → Type 0 = λ n. FailsSomewhere entry_line lines fault.kind n in
      inr (subst P (sym fails.line_is) (so_far_fails entry_line lines rest now has.entries line fault.kind has.reads takes given)))
]

pub holds_all : (text : List ℕ) (rest : Lines) (parts : ProblemParts) → HoldsSoFar (text_lines (Some 35) text) parts rest → rest.ahead ≡ [] → ProblemText text parts
holds_all text rest parts has none = record { entries = has.entries; reads = so_far_every entry_line (text_lines (Some 35) text) rest has.entries has.reads none; parts_are = has.parts_are }
