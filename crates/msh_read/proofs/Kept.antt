-- What is kept of the ids behind the front of a row.
use Rattle.std.proofs.Common.{◌≡◌, ◌∙◌, sym, ap, refl, ℕ, zero, suc, ◌+◌, ◌-◌, ◌^◌, ◌<◌, ◌≤◌, min, List, [], ◌∷◌, ◌++◌, length, drop, fold, arith, true, false}
use Rattle.std.specs.Prelude.{Some, None, Ok, Err, slice_index, ◌==◌, if◌then◌else◌}
use Rattle.std.specs.declared.option.Option.{Option}
use Rattle.std.specs.Option.{option_map}
use Rattle.std.proofs.lemmas.Bool.Decides.{nat_tests}
use Rattle.fem_fixed.specs.Numbers.{id_of}
use Rattle.fem_text.specs.Words.{or_fault, all_of}
use Rattle.msh_read.specs.declared.fault.MshKind.{MshKind}
use Rattle.msh_read.specs.declared.fault.MshKind.TheVariants as kinds
use Rattle.msh_read.specs.declared.numbers.Numbers.{Numbers}
use Rattle.msh_read.specs.declared.shape.Shape.{Shape}
use Rattle.msh_read.specs.declared.shape.Shape.TheVariants as shapes
use Rattle.msh_read.specs.declared.element_line.Front.{Front}
use Rattle.msh_read.specs.Numbers.{no_numbers, with_number, kept_of, last_of}
use Rattle.msh_read.specs.Shapes.{corner_count}
use Rattle.msh_read.specs.Elements.{front_of, tag_of, placed_element, element_line}

-- the ids behind a first one
pub kept_more : (before : Numbers) (id : ℕ) (ids : Option (List ℕ)) (kept : Option Numbers) → option_map (fold with_number (with_number before id)) ids ≡ kept →
    (all : Option (List ℕ)) → all ≡ option_map (λ more. id ∷ more) ids → option_map (fold with_number before) all ≡ kept
kept_more before id (Some more) kept h all is = ap (option_map (fold with_number before)) is ∙ h
kept_more before id None kept h all is = ap (option_map (fold with_number before)) is ∙ h

kept_count : (ids : List ℕ) (before : Numbers) → before.count ≤ 2 ^ 64 - 1 → (fold with_number before ids).count ≡ min (before.count + length ids) (2 ^ 64 - 1)
kept_count [] before h = omega arith
kept_count (id ∷ ids) before h = (let rest = kept_count ids (with_number before id) (omega arith) in omega (arith, rest))

one_more : (last : List ℕ) (id n : ℕ) (ids : List ℕ) → length last ≡ 4 →
    drop n ((slice_index last 1 ∷ slice_index last 2 ∷ slice_index last 3 ∷ id ∷ []) ++ ids) ≡ drop (suc n) (last ++ id ∷ ids)
one_more [] id n ids h = absurd (omega arith)
one_more (a ∷ []) id n ids h = absurd (omega arith)
one_more (a ∷ b ∷ []) id n ids h = absurd (omega arith)
one_more (a ∷ b ∷ c ∷ []) id n ids h = absurd (omega arith)
one_more (a ∷ b ∷ c ∷ d ∷ []) id n ids h = refl
one_more (a ∷ b ∷ c ∷ d ∷ e ∷ more) id n ids h = absurd (omega arith)

none_more : (last : List ℕ) → last ≡ drop 0 (last ++ [])
none_more [] = refl
none_more (x ∷ xs) = ap (λ ys. x ∷ ys) (nothing_more xs)
  where
    nothing_more : (xs : List ℕ) → xs ≡ xs ++ []
    nothing_more [] = refl
    nothing_more (x ∷ xs) = ap (λ ys. x ∷ ys) (nothing_more xs)

kept_last : (ids : List ℕ) (before : Numbers) → length before.last ≡ 4 → (fold with_number before ids).last ≡ drop (length ids) (before.last ++ ids)
kept_last [] before h = none_more before.last
kept_last (id ∷ ids) before h = kept_last ids (with_number before id) refl ∙ one_more before.last id (length ids) ids h

kept_first : (ids : List ℕ) (before : Numbers) → 0 < before.count → (fold with_number before ids).first ≡ before.first
kept_first [] before h = refl
kept_first (id ∷ ids) before h =
    let some : (before.count == 0) ≡ false = grind (arith, nat_tests) in
    kept_first ids (with_number before id) (omega arith) ∙ ap (λ test. if test then id else before.first) some

first_kept : (ids : List ℕ) → 0 < length ids → (kept_of ids).first ≡ slice_index ids 0
first_kept [] h = absurd (omega arith)
first_kept (id ∷ ids) h = kept_first ids (with_number no_numbers id) (omega arith)

no_drop : (m : ℕ) → ◌≡◌ {A = List ℕ} (drop m []) []
no_drop zero = refl
no_drop (suc m) = refl

drops : (n m k : ℕ) (xs : List ℕ) → n + m ≡ k → drop m (drop n xs) ≡ drop k xs
drops zero m k [] h = (let same : m ≡ k = omega arith in ap (λ j. drop j []) same)
drops zero m k (x ∷ xs) h = (let same : m ≡ k = omega arith in ap (λ j. drop j (x ∷ xs)) same)
drops (suc n) m zero xs h = absurd (omega arith)
drops (suc n) m (suc k) [] h = no_drop m
drops (suc n) m (suc k) (x ∷ xs) h = drops n m k xs (omega arith)

few_corners : (shape : Shape) → (1 ≤ corner_count shape) × (corner_count shape ≤ 4)
few_corners shapes.Quad = (omega arith, omega arith)
few_corners shapes.Line = (omega arith, omega arith)
few_corners shapes.Point = (omega arith, omega arith)

last_dropped : (shape : Shape) (last : List ℕ) → length last ≡ 4 → last_of shape last ≡ drop (4 - corner_count shape) last
last_dropped shape [] h = absurd (omega arith)
last_dropped shape (a ∷ []) h = absurd (omega arith)
last_dropped shape (a ∷ b ∷ []) h = absurd (omega arith)
last_dropped shape (a ∷ b ∷ c ∷ []) h = absurd (omega arith)
last_dropped shapes.Quad (a ∷ b ∷ c ∷ d ∷ []) h = refl
last_dropped shapes.Line (a ∷ b ∷ c ∷ d ∷ []) h = refl
last_dropped shapes.Point (a ∷ b ∷ c ∷ d ∷ []) h = refl
last_dropped shape (a ∷ b ∷ c ∷ d ∷ e ∷ more) h = absurd (omega arith)

kept_four : (ids : List ℕ) (before : Numbers) → length before.last ≡ 4 → length (fold with_number before ids).last ≡ 4
kept_four [] before h = h
kept_four (id ∷ ids) before h = kept_four ids (with_number before id) refl

-- the nodes are the last of the ids
last_kept : (ids : List ℕ) (tags corners : ℕ) → length ids ≡ tags + corners → corners ≤ 4 → drop (4 - corners) (kept_of ids).last ≡ drop tags ids
last_kept ids tags corners h few =
    let sum : length ids + (4 - corners) ≡ suc (suc (suc (suc tags))) = omega arith in
    ap (drop (4 - corners)) (kept_last ids no_numbers refl)
    ∙ drops (length ids) (4 - corners) (suc (suc (suc (suc tags)))) (0 ∷ 0 ∷ 0 ∷ 0 ∷ ids) sum

some_kept : (all : Option (List ℕ)) (kept : Numbers) → Some kept ≡ option_map kept_of all → (ids : List ℕ) × (all ≡ Some ids) × (kept ≡ kept_of ids)
some_kept (Some ids) kept h = (ids, refl, cc)
some_kept None kept h = cc

none_kept : (all : Option (List ℕ)) → None ≡ option_map kept_of all → all ≡ None
none_kept (Some ids) h = cc
none_kept None h = refl

count_is : (ids : List ℕ) (wanted : ℕ) → wanted < 2 ^ 33 → (kept_of ids).count ≡ wanted → length ids ≡ wanted
count_is ids wanted small h = (let count = kept_count ids no_numbers (omega arith) in omega (arith, count))

count_is_not : (ids : List ℕ) (wanted : ℕ) → wanted < 2 ^ 33 → ((kept_of ids).count ≡ wanted → ⊥) → length ids ≡ wanted → ⊥
count_is_not ids wanted small differs h = (let count = kept_count ids no_numbers (omega arith) in differs (omega (arith, count)))

same_test : (m n : ℕ) → m ≡ n → (m == n) ≡ true
same_test m n h = grind (arith, nat_tests)

other_test : (m n : ℕ) → (m ≡ n → ⊥) → (m == n) ≡ false
other_test m n h = grind (arith, nat_tests)

some_number : (all : Option (List ℕ)) (ids : List ℕ) → all ≡ Some ids → or_fault kinds.ElementLine all ≡ Ok ids
some_number all ids h = ap (or_fault kinds.ElementLine) h

-- the row of a front and of ids, as many as there have to be
row_of : (ids : List ℕ) (quads : ℕ) (words : List (List ℕ)) (front : Front) (numbers : List ℕ) → front_of words ≡ Ok front → all_of id_of (drop 3 words) ≡ Some numbers →
    length numbers ≡ front.tags + corner_count front.shape →
    element_line ids quads words ≡ placed_element ids front.shape (tag_of front.tags numbers) quads (drop front.tags numbers)
unfolding element_line
row_of ids quads words front numbers f all whole =
    let test : (length numbers == front.tags + corner_count front.shape) ≡ true = same_test (length numbers) (front.tags + corner_count front.shape) whole in
    rw (f, all, test) refl

tag_is : (tags first : ℕ) (numbers : List ℕ) → first ≡ slice_index numbers 0 → (if tags == 0 then 0 else first) ≡ tag_of tags numbers
tag_is tags first numbers h = ap (λ n. if tags == 0 then 0 else n) h

pub placed_row : (ids : List ℕ) (quads : ℕ) (words rest : List (List ℕ)) (front : Front) (kept : Numbers) → front_of words ≡ Ok front → rest ≡ drop 3 words →
    Some kept ≡ option_map kept_of (all_of id_of rest) → front.tags < 2 ^ 32 → kept.count ≡ front.tags + corner_count front.shape →
    placed_element ids front.shape (if front.tags == 0 then 0 else kept.first) quads (last_of front.shape kept.last) ≡ element_line ids quads words
placed_row ids quads words rest front kept f at read small count =
    let (numbers, all, is) = some_kept (all_of id_of rest) kept read in
    let few = few_corners front.shape in
    let whole : length numbers ≡ front.tags + corner_count front.shape = count_is numbers (front.tags + corner_count front.shape) (omega (arith, few)) (ap (λ (k : Numbers). k.count) (sym is) ∙ count) in
    let first : kept.first ≡ slice_index numbers 0 = ap (λ (k : Numbers). k.first) is ∙ first_kept numbers (omega (arith, few, whole)) in
    let corners : last_of front.shape kept.last ≡ drop front.tags numbers =
    ap (λ (k : Numbers). last_of front.shape k.last) is ∙ last_dropped front.shape (kept_of numbers).last (kept_four numbers no_numbers refl) ∙ last_kept numbers front.tags (corner_count front.shape) whole few.1 in
    (λ i. placed_element ids front.shape (tag_is front.tags kept.first numbers first i) quads (corners i))
    ∙ sym (row_of ids quads words front numbers f (ap (all_of id_of) (sym at) ∙ all) whole)

pub other_count : (ids : List ℕ) (quads : ℕ) (words rest : List (List ℕ)) (front : Front) (kept : Numbers) → front_of words ≡ Ok front → rest ≡ drop 3 words →
    Some kept ≡ option_map kept_of (all_of id_of rest) → front.tags < 2 ^ 32 → (kept.count ≡ front.tags + corner_count front.shape → ⊥) → Err kinds.ElementLine ≡ element_line ids quads words
unfolding element_line
other_count ids quads words rest front kept f at read small differs =
    let (numbers, all, is) = some_kept (all_of id_of rest) kept read in
    let few = few_corners front.shape in
    let given : all_of id_of (drop 3 words) ≡ Some numbers = ap (all_of id_of) (sym at) ∙ all in
    let other : length numbers ≡ front.tags + corner_count front.shape → ⊥ =
    count_is_not numbers (front.tags + corner_count front.shape) (omega (arith, few)) (λ h. differs (ap (λ (k : Numbers). k.count) is ∙ h)) in
    let test : (length numbers == front.tags + corner_count front.shape) ≡ false = other_test (length numbers) (front.tags + corner_count front.shape) other in
    rw (f, given, test) refl

pub no_ids : (ids : List ℕ) (quads : ℕ) (words rest : List (List ℕ)) (front : Front) → front_of words ≡ Ok front → rest ≡ drop 3 words → None ≡ option_map kept_of (all_of id_of rest) →
    Err kinds.ElementLine ≡ element_line ids quads words
unfolding element_line
no_ids ids quads words rest front f at read =
    let none : all_of id_of (drop 3 words) ≡ None = ap (all_of id_of) (sym at) ∙ none_kept (all_of id_of rest) read in
    rw (f, none) refl

pub no_front : (ids : List ℕ) (quads : ℕ) (words : List (List ℕ)) (kind : MshKind) → front_of words ≡ Err kind → Err kind ≡ element_line ids quads words
unfolding element_line
no_front ids quads words kind f = rw f refl
