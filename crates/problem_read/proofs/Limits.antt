-- Each line keeps the limits.
use Rattle.std.proofs.Common.{◌≡◌, ◌∙◌, sym, ap, refl, subst, ℕ, zero, suc, ◌+◌, ◌≤◌, ◌^◌, List, [], ◌∷◌, ◌++◌, Bool, true, false, length, drop, filter, nat_eq, arith, length-append, inl, inr}
use Rattle.std.specs.Prelude.{ℤ, pos, unsigned_abs, All, IfSome, Some, None, Ok, Err, ◌&&◌, not, nat_lt, nat_le, if◌then◌else◌, unwrap_or}
use Rattle.std.specs.declared.option.Option.{Option}
use Rattle.std.specs.declared.result.Result.{Result}
use Rattle.std.specs.Map.{lookup}
use Rattle.std.specs.List.{before_first, after_first, slice_get}
use Rattle.std.proofs.lemmas.Bool.{cases_Bool}
use Rattle.std.proofs.lemmas.List.Elements.{All-push}
use Rattle.fem_fixed.specs.Numbers.{id_of}
use Rattle.fem_fixed.specs.Ticks.{number_of}
use Rattle.fem_fixed.specs.declared.ticks.NumberFault.{NumberFault}
use Rattle.fem_text.specs.Words.{◌>>=◌, or_fault, unless, id_at, with_first, all_of}
use Rattle.fem_text.proofs.OneReading.{ok_same}
use Rattle.fem_text.proofs.Values.{then_ok, passed, given, number_within}
use Rattle.problem_read.specs.declared.fault.ProblemKind.{ProblemKind}
use Rattle.problem_read.specs.declared.fault.ProblemKind.TheVariants as kinds
use Rattle.problem_read.specs.declared.keyword.Keyword.{Keyword}
use Rattle.problem_read.specs.declared.keyword.Keyword.TheVariants as keywords
use Rattle.problem_read.specs.declared.ties.TieTerm.{TieTerm}
use Rattle.problem_read.specs.Entries.{Tie, Entry, ProblemParts, parts_of, diffusion, source, robin, dirichlet, penalty, refine, constraint, subdomain}
use Rattle.problem_read.specs.Sums.{is_star, is_term, is_constant, within, term_with, term_of, constant_of, last_or, Sum, sum_with, sum_of}
use Rattle.problem_read.specs.Shapes.{keyword_at}
use Rattle.problem_read.specs.EntryLine.{value_at, setting_of, two_settings_of, two_ids_of, tie_at, numbers_of, listed, repeats, has_room, checked, entry_behind}
use Rattle.problem_read.specs.Limits.{IsSmall, IsLight, IsTieWithin, AreWithinLimits}
use Rattle.problem_read.specs.Steps.{with_entry}

-- what an entry keeps
abbrev pub Keeps : Entry → Type 0
Keeps (diffusion pair) = IsSmall pair.1
Keeps (source pair) = IsSmall pair.1
Keeps (robin pair) = IsSmall pair.1.0 × IsSmall pair.1.1
Keeps (dirichlet pair) = IsSmall pair.1
Keeps (penalty value) = IsSmall value
Keeps (refine cells) = Unit {0}
Keeps (constraint tie) = All IsLight tie.terms × IsSmall tie.constant
Keeps (subdomain pair) = Unit {0}

value_small : (words : List (List ℕ)) (place : ℕ) (value : ℤ) → value_at words place ≡ Ok value → IsSmall value
value_small words place value h = number_within kinds.Number (2 ^ 31) words place value h

setting_small : (words : List (List ℕ)) (pair : ℕ × ℤ) → setting_of words ≡ Ok pair → IsSmall pair.1
unfolding setting_of
setting_small words pair h =
    let (id, e1, h1) = then_ok (id_at kinds.Number words 1) (λ id. value_at words 2 >>= (λ value. Ok (id, value))) pair h in
    let (value, e2, h2) = then_ok (value_at words 2) (λ value. Ok (id, value)) pair h1 in
    let made : ℕ × ℤ = (id, value) in
    let same : made ≡ pair = ok_same made pair h2 in
    let P : ℕ × ℤ → Type 0 = λ p. IsSmall p.1 in
    subst P same (value_small words 2 value e2)

settings_small : (words : List (List ℕ)) (pair : ℕ × (ℤ × ℤ)) → two_settings_of words ≡ Ok pair → IsSmall pair.1.0 × IsSmall pair.1.1
unfolding two_settings_of
settings_small words pair h =
    let (id, e1, h1) = then_ok (id_at kinds.Number words 1) (λ id. value_at words 2 >>= (λ first. value_at words 3 >>= (λ second. Ok (id, (first, second))))) pair h in
    let (first, e2, h2) = then_ok (value_at words 2) (λ first. value_at words 3 >>= (λ second. Ok (id, (first, second)))) pair h1 in
    let (second, e3, h3) = then_ok (value_at words 3) (λ second. Ok (id, (first, second))) pair h2 in
    let made : ℕ × (ℤ × ℤ) = (id, (first, second)) in
    let same : made ≡ pair = ok_same made pair h3 in
    let P : ℕ × (ℤ × ℤ) → Type 0 = λ p. IsSmall p.1.0 × IsSmall p.1.1 in
    subst P same (value_small words 2 first e2, value_small words 3 second e3)

within_limit : (limit : ℕ) (r : Result ℤ NumberFault) (value : ℤ) → within limit r ≡ Some value → unsigned_abs value ≤ limit
within_limit limit (Ok ticks) value h = elim (cases_Bool (nat_le (unsigned_abs ticks) limit)) [
  | inl e ↦ (let most : unsigned_abs ticks ≤ limit = at_most (unsigned_abs ticks) limit e in
      let found : ◌≡◌ {A = Option ℤ} (Some ticks) (Some value) = sym (ap (λ b. if b then Some ticks else None) e) ∙ h in
      let same : ticks ≡ value = cc in
      subst (λ z. unsigned_abs z ≤ limit) same most)
  | inr e ↦ absurd (none (sym (ap (λ b. if b then Some ticks else None) e) ∙ h))
]
  where
    at_most : (m n : ℕ) → nat_le m n ≡ true → m ≤ n
    at_most m n e = grind arith

    none : ◌≡◌ {A = Option ℤ} None (Some value) → ⊥
    none e = cc
within_limit limit (Err fault) value h = cc

term_light : (weight : Option ℤ) (node : Option ℕ) (term : TieTerm) → ((w : ℤ) → weight ≡ Some w → unsigned_abs w ≤ 2 ^ 20) → term_with weight node ≡ Some term → IsLight term
term_light (Some w) (Some n) term small h =
    let made : TieTerm = record { node = n; weight = w } in
    let same : made ≡ term = cc in
    subst IsLight same (small w refl)
term_light (Some w) None term small h = cc
term_light None (Some n) term small h = cc
term_light None None term small h = cc

of_term : (word : List ℕ) (term : TieTerm) → term_of word ≡ Some term → IsLight term
unfolding term_of
of_term word term h =
    term_light (within (2 ^ 20) (number_of (before_first is_star word))) (id_of (after_first is_star word)) term (λ w e. within_limit (2 ^ 20) (number_of (before_first is_star word)) w e) h

of_constant : (word : List ℕ) (value : ℤ) → constant_of word ≡ Some value → IsSmall value
unfolding constant_of
of_constant word value h = within_limit (2 ^ 31) (number_of word) value h

all_none : {B : Type 0} (P : B → Type 0) → All P []
all_none P = λ k d below. absurd (omega (arith, below))

pub all_first : {B : Type 0} (P : B → Type 0) (x : B) (xs : List B) → P x → All P xs → All P (x ∷ xs)
all_first P x xs first rest zero d below = first
all_first P x xs first rest (suc k) d below = rest k d (omega (arith, below))

one_given : {B : Type 0} (P : B → Type 0) (value : Option B) (more : Option (List B)) (ys : List B) → ((y : B) → value ≡ Some y → P y) → ((vs : List B) → more ≡ Some vs → All P vs) →
    with_first value more ≡ Some ys → All P ys
one_given P (Some v) (Some vs) ys first rest h = (let same : v ∷ vs ≡ ys = cc in subst (All P) same (all_first P v vs (first v refl) (rest vs refl)))
one_given P (Some v) None ys first rest h = cc
one_given P None (Some vs) ys first rest h = cc
one_given P None None ys first rest h = cc

-- what each item gives has this
all_given : {A B : Type 0} (f : A → Option B) (P : B → Type 0) (xs : List A) (ys : List B) → ((x : A) (y : B) → f x ≡ Some y → P y) → all_of f xs ≡ Some ys → All P ys
all_given f P [] ys each h = (let none : [] ≡ ys = cc in subst (All P) none (all_none P))
all_given f P (x ∷ xs) ys each h = one_given P (f x) (all_of f xs) ys (each x) (λ vs e. all_given f P xs vs each e) h

last_small : (other : ℤ) (values : List ℤ) → IsSmall other → All IsSmall values → IsSmall (last_or other values)
last_small other [] small all = small
last_small other (x ∷ xs) small all = last_small x xs (all 0 x (omega arith)) (λ k d below. all (suc k) d (omega (arith, below)))

sum_small : (terms : Option (List TieTerm)) (constants : Option (List ℤ)) (sum : Sum) → ((ts : List TieTerm) → terms ≡ Some ts → All IsLight ts) → ((cs : List ℤ) → constants ≡ Some cs → All IsSmall cs) →
    sum_with terms constants ≡ Some sum → All IsLight sum.terms × IsSmall sum.constant
sum_small (Some terms) (Some constants) sum light small h =
    let made : Sum = record { terms = terms; constant = last_or (pos 0) constants } in
    let same : made ≡ sum = cc in
    let P : Sum → Type 0 = λ s. All IsLight s.terms × IsSmall s.constant in
    subst P same (light terms refl, last_small (pos 0) constants (omega arith) (small constants refl))
sum_small (Some terms) None sum light small h = cc
sum_small None (Some constants) sum light small h = cc
sum_small None None sum light small h = cc

of_sum : (words : List (List ℕ)) (sum : Sum) → sum_of words ≡ Some sum → All IsLight sum.terms × IsSmall sum.constant
unfolding sum_of
of_sum words sum h =
    sum_small (all_of term_of (filter is_term words)) (all_of constant_of (filter is_constant words)) sum
    (λ ts e. all_given term_of IsLight (filter is_term words) ts of_term e) (λ cs e. all_given constant_of IsSmall (filter is_constant words) cs of_constant e) h

tie_small : (words : List (List ℕ)) (tie : Tie) → tie_at words ≡ Ok tie → All IsLight tie.terms × IsSmall tie.constant
unfolding tie_at
tie_small words tie h =
    let (node, e1, h1) = then_ok (id_at kinds.Number words 1) (λ node. or_fault kinds.Number (sum_of (drop 3 words)) >>= (λ sum. Ok (record { node = node; terms = sum.terms; constant = sum.constant }))) tie h in
    let (sum, e2, h2) = then_ok (or_fault kinds.Number (sum_of (drop 3 words))) (λ sum. Ok (record { node = node; terms = sum.terms; constant = sum.constant })) tie h1 in
    let made : Tie = record { node = node; terms = sum.terms; constant = sum.constant } in
    let same : made ≡ tie = ok_same made tie h2 in
    let P : Tie → Type 0 = λ t. All IsLight t.terms × IsSmall t.constant in
    subst P same (of_sum (drop 3 words) sum (given kinds.Number (sum_of (drop 3 words)) sum e2))

-- an entry of numbers that a line has
through : {X : Type 0} (r : Result X ProblemKind) (con : X → Entry) (entry : Entry) → ((x : X) → r ≡ Ok x → Keeps (con x)) → (r >>= (λ x. Ok (con x))) ≡ Ok entry → Keeps entry
through r con entry each h =
    let (x, e, h1) = then_ok r (λ x. Ok (con x)) entry h in
    let same : con x ≡ entry = ok_same (con x) entry h1 in
    subst Keeps same (each x e)

numbers_keep : (keyword : Keyword) (words : List (List ℕ)) (entry : Entry) → numbers_of keyword words ≡ Ok entry → Keeps entry
numbers_keep keywords.Diffusion words entry h = through (setting_of words) diffusion entry (setting_small words) h
numbers_keep keywords.Source words entry h = through (setting_of words) source entry (setting_small words) h
numbers_keep keywords.Robin words entry h = through (two_settings_of words) robin entry (settings_small words) h
numbers_keep keywords.Dirichlet words entry h = through (setting_of words) dirichlet entry (setting_small words) h
numbers_keep keywords.Penalty words entry h = through (value_at words 1) penalty entry (value_small words 1) h
numbers_keep keywords.Refine words entry h = through (or_fault kinds.Number (all_of id_of (drop 1 words))) refine entry (λ x e. tt) h
numbers_keep keywords.Constraint words entry h = through (tie_at words) constraint entry (tie_small words) h
numbers_keep keywords.Subdomain words entry h = through (two_ids_of words) subdomain entry (λ x e. tt) h

-- what a line gives keeps its limits, and there is room for it
pub line_keeps : (before : ProblemParts) (words : List (List ℕ)) (entry : Entry) → entry_behind before words ≡ Ok entry → Keeps entry × (has_room before entry ≡ true)
unfolding entry_behind
line_keeps before words entry h =
    let (keyword, e1, h1) = then_ok (keyword_at words) (λ k. numbers_of k words >>= checked before) entry h in
    let (made, e2, h2) = then_ok (numbers_of keyword words) (checked before) entry h1 in
    let (new, e3, h3) = then_ok (unless kinds.Repeated (not (repeats before made))) (λ u. unless kinds.Limit (has_room before made) >>= (λ few. Ok made)) entry h2 in
    let (few, e4, h4) = then_ok (unless kinds.Limit (has_room before made)) (λ u. Ok made) entry h3 in
    let same : made ≡ entry = ok_same made entry h4 in
    let P : Entry → Type 0 = λ e. Keeps e × (has_room before e ≡ true) in
    subst P same (numbers_keep keyword words made e2, passed kinds.Limit (has_room before made) few e4)

below : (m n : ℕ) → nat_lt m n ≡ true → m + 1 ≤ n
below m n h = grind arith

fits : (m n : ℕ) → nat_le m n ≡ true → m ≤ n
fits m n h = grind arith

both : (a b : Bool) → (a && b) ≡ true → (a ≡ true) × (b ≡ true)
both true true h = (refl, refl)
both true false h = cc
both false b h = cc

one_more : {A : Type 0} (xs : List A) (x : A) (limit : ℕ) → nat_lt (length xs) limit ≡ true → length (xs ++ x ∷ []) ≤ limit
one_more xs x limit room = omega (arith, length-append xs (x ∷ []), below (length xs) limit room)

pub adds_keep : (parts : ProblemParts) (entry : Entry) → AreWithinLimits parts → Keeps entry → has_room parts entry ≡ true → AreWithinLimits (with_entry parts entry)
adds_keep parts (diffusion pair) has keeps room =
    record {
      diffusion = All-push (λ (p : ℕ × ℤ). IsSmall p.1) parts.diffusion pair has.diffusion keeps;
      source = has.source;
      robin = has.robin;
      dirichlet = has.dirichlet;
      penalty = has.penalty;
      steps = has.steps;
      ties = has.ties;
      each_tie = has.each_tie;
    }
adds_keep parts (source pair) has keeps room =
    record {
      diffusion = has.diffusion;
      source = All-push (λ (p : ℕ × ℤ). IsSmall p.1) parts.source pair has.source keeps;
      robin = has.robin;
      dirichlet = has.dirichlet;
      penalty = has.penalty;
      steps = has.steps;
      ties = has.ties;
      each_tie = has.each_tie;
    }
adds_keep parts (dirichlet pair) has keeps room =
    record {
      diffusion = has.diffusion;
      source = has.source;
      robin = has.robin;
      dirichlet = All-push (λ (p : ℕ × ℤ). IsSmall p.1) parts.dirichlet pair has.dirichlet keeps;
      penalty = has.penalty;
      steps = has.steps;
      ties = has.ties;
      each_tie = has.each_tie;
    }
adds_keep parts (robin pair) has keeps room =
    record {
      diffusion = has.diffusion;
      source = has.source;
      robin = All-push (λ (p : ℕ × (ℤ × ℤ)). IsSmall p.1.0 × IsSmall p.1.1) parts.robin pair has.robin keeps;
      dirichlet = has.dirichlet;
      penalty = has.penalty;
      steps = has.steps;
      ties = has.ties;
      each_tie = has.each_tie;
    }
adds_keep parts (penalty value) has keeps room =
    record {
      diffusion = has.diffusion;
      source = has.source;
      robin = has.robin;
      dirichlet = has.dirichlet;
      penalty = keeps;
      steps = has.steps;
      ties = has.ties;
      each_tie = has.each_tie;
    }
adds_keep parts (refine cells) has keeps room =
    record {
      diffusion = has.diffusion;
      source = has.source;
      robin = has.robin;
      dirichlet = has.dirichlet;
      penalty = has.penalty;
      steps = one_more parts.steps cells 32 room;
      ties = has.ties;
      each_tie = has.each_tie;
    }
adds_keep parts (constraint tie) has keeps room =
    let (lines, terms) = both (nat_lt (length parts.ties) (2 ^ 20)) (nat_le (length tie.terms) 16) room in
    record {
      diffusion = has.diffusion;
      source = has.source;
      robin = has.robin;
      dirichlet = has.dirichlet;
      penalty = has.penalty;
      steps = has.steps;
      ties = one_more parts.ties tie (2 ^ 20) lines;
      each_tie = All-push (λ (t : Tie). IsTieWithin t.terms t.constant) parts.ties tie has.each_tie (record { few = fits (length tie.terms) 16 terms; light = keeps.0; small = keeps.1 });
    }
adds_keep parts (subdomain pair) has keeps room =
    record {
      diffusion = has.diffusion;
      source = has.source;
      robin = has.robin;
      dirichlet = has.dirichlet;
      penalty = has.penalty;
      steps = has.steps;
      ties = has.ties;
      each_tie = has.each_tie;
    }

pub no_lines_keep : AreWithinLimits (parts_of [])
no_lines_keep =
    record {
      diffusion = all_none (λ (p : ℕ × ℤ). IsSmall p.1);
      source = all_none (λ (p : ℕ × ℤ). IsSmall p.1);
      robin = all_none (λ (p : ℕ × (ℤ × ℤ)). IsSmall p.1.0 × IsSmall p.1.1);
      dirichlet = all_none (λ (p : ℕ × ℤ). IsSmall p.1);
      penalty = tt;
      steps = omega arith;
      ties = omega arith;
      each_tie = all_none (λ (t : Tie). IsTieWithin t.terms t.constant);
    }

first_or : {V : Type 0} (P : V → Type 0) (here : Bool) (value : V) (more : Option V) → P value → IfSome more P → IfSome (if here then Some value else more) P
first_or P true value more first rest = first
first_or P false value more first rest = rest

-- what is looked up
pub listed_has : {V : Type 0} (P : V → Type 0) (pairs : List (ℕ × V)) (id : ℕ) → All (λ (pair : ℕ × V). P pair.1) pairs → IfSome (listed pairs id) P
listed_has P [] id all = tt
listed_has P (pair ∷ pairs) id all =
    first_or P (nat_eq id pair.0) pair.1 (lookup (nat_eq id) pairs) (all 0 pair (omega arith)) (listed_has P pairs id (λ k d below. all (suc k) d (omega (arith, below))))

pub small_or : (found : Option ℤ) (other : ℤ) → IfSome found IsSmall → IsSmall other → IsSmall (unwrap_or found other)
small_or (Some value) other small default = small
small_or None other small default = default

-- the constraint at a place
pub tie_within : (ties : List Tie) (k : ℕ) (tie : Tie) → All (λ (t : Tie). IsTieWithin t.terms t.constant) ties → slice_get ties k ≡ Some tie → IsTieWithin tie.terms tie.constant
tie_within [] k tie all h = cc
tie_within (first ∷ ties) zero tie all h = (let same : first ≡ tie = cc in
    let P : Tie → Type 0 = λ t. IsTieWithin t.terms t.constant in
    subst P same (all 0 first (omega arith)))
tie_within (first ∷ ties) (suc k) tie all h = tie_within ties k tie (λ n d below. all (suc n) d (omega (arith, below))) h
