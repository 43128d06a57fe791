-- Steps of work that have one outcome.
use Rattle.std.proofs.Common.{◌≡◌, ◌∙◌, sym, ap, refl, subst}
use Rattle.std.specs.Prelude.{Ok, Err}
use Rattle.std.specs.declared.result.Result.{Result}
use Rattle.fem_text.proofs.OneReading.{ok_same, err_same, ok_err}
use Rattle.diagnostics.specs.declared.refusal.Refusal.{Refusal}
use Rattle.diagnostics.specs.declared.ending.Ending.{Ending}
use Rattle.diagnostics.specs.declared.ending.Ending.TheVariants.{Refused}
use Rattle.diagnostics.specs.Stages.{Then, stops, goes, Says}

-- two steps have one outcome
abbrev pub Agree : {X : Type 0} → (Result X Refusal → Type 0) → (Result X Refusal → Type 0) → Type 0
Agree {X = X} step other = (a b : Result X Refusal) → step a → other b → a ≡ b

-- steps after steps with one outcome
pub one_after : {X Y : Type 0} (first other : Result X Refusal → Type 0) (next more : X → Result Y Refusal → Type 0) → Agree first other → ((value : X) → other (Ok value) → Agree (next value) (more value)) →
    Agree (Then first next) (Then other more)
one_after {X = X} first other next more one each a b (stops r w e) (stops q v f) = e ∙ ap Err (err_same {A = X} r q (one (Err r) (Err q) w v)) ∙ sym f
one_after first other next more one each a b (stops r w e) (goes y v k) = ok_err y r (sym (one (Err r) (Ok y) w v))
one_after first other next more one each a b (goes x w h) (stops q v f) = ok_err x q (one (Ok x) (Err q) w v)
one_after {X = X} first other next more one each a b (goes x w h) (goes y v k) =
    let P : X → Type 0 = λ value. next value a in
    each y v a b (subst P (ok_same {K = Refusal} x y (one (Ok x) (Ok y) w v)) h) k

one_told : (e f : Ending) (r q : Refusal) → e ≡ f → e ≡ Refused r → f ≡ Refused q → r ≡ q
one_told e f r q s h k = (let t : Refused r ≡ Refused q = sym h ∙ s ∙ k in cc)

-- a step has an outcome
abbrev pub HasAnOutcome : {X : Type 0} → (Result X Refusal → Type 0) → Type 0
HasAnOutcome {X = X} step = (outcome : Result X Refusal) × step outcome

-- steps after steps with an outcome
pub some_after : {X Y : Type 0} (first : Result X Refusal → Type 0) (next : X → Result Y Refusal → Type 0) → HasAnOutcome first → ((value : X) → first (Ok value) → HasAnOutcome (next value)) →
    HasAnOutcome (Then first next)
some_after first next (Ok value, is) more = (let n = more value is in (n.0, goes value is n.1))
some_after first next (Err refusal, is) more = (Err refusal, stops refusal is refl)

-- steps of which the first goes well, and the next has an outcome there
pub some_behind : {X Y : Type 0} (first : Result X Refusal → Type 0) (next : X → Result Y Refusal → Type 0) (value : X) → first (Ok value) → HasAnOutcome (next value) → HasAnOutcome (Then first next)
some_behind first next value is more = (more.0, goes value is more.1)

-- steps of which the first stops
pub some_stopped : {X Y : Type 0} (first : Result X Refusal → Type 0) (next : X → Result Y Refusal → Type 0) (refusal : Refusal) → first (Err refusal) → HasAnOutcome (Then first next)
some_stopped first next refusal is = (Err refusal, stops refusal is refl)

-- faults with one ending have one refusal
pub one_said : {F : Type 0} (ending_of : F → Ending) (has : F → Type 0) → ((f g : F) → has f → has g → ending_of f ≡ ending_of g) → (r q : Refusal) → Says ending_of has r →
    Says ending_of has q → r ≡ q
one_said ending_of has one r q a b = one_told (ending_of a.0) (ending_of b.0) r q (one a.0 b.0 a.1 b.1) a.2 b.2
