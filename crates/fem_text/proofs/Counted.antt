-- Counts after several calls.
use Rattle.std.proofs.Common.{◌≡◌, ◌∙◌, ap, refl, ℕ, zero, suc, ◌+◌, true, false, arith, rules}
use Rattle.std.specs.Prelude.{IsOk, Ok, Err}
use Rattle.std.specs.declared.result.Result.{Result}
use Rattle.fem_text.specs.declared.counts.Counts.{Counts}
use Rattle.fem_text.specs.Counts.{after_call, after_good, none_failed, AllWell, EndsInFault, Rose, HasCause}

-- calls that went well leave the count of faults
pub good_faults : (many : ℕ) (before : Counts) → (after_good many before).faults ≡ before.faults
good_faults zero before = refl
good_faults (suc more) before = good_faults more before

pub well_faults : (before now : Counts) → AllWell before now → now.faults ≡ before.faults
well_faults before now (many, e) = ap (λ (c : Counts). c.faults) e ∙ good_faults many before

pub fault_rose : (before now : Counts) → EndsInFault before now → Rose before now
fault_rose before now (many, e) = ap (λ (c : Counts). c.faults) e ∙ ap (λ n. (after_call true (record before { faults = n })).faults) (good_faults many before)

good_twice : (many more : ℕ) (before : Counts) → after_good more (after_good many before) ≡ after_good (more + many) before
good_twice many zero before = (let same : many ≡ 0 + many = omega arith in ap (λ n. after_good n before) same)
good_twice many (suc more) before =
    let next : suc (more + many) ≡ suc more + many = omega arith in
    ap (after_call false) (good_twice many more before) ∙ ap (λ n. after_good n before) next

-- one call after another
pub well_well : (before middle now : Counts) → AllWell before middle → AllWell middle now → AllWell before now
well_well before middle now (many, e) (more, f) = (more + many, f ∙ ap (after_good more) e ∙ good_twice many more before)

pub well_fault : (before middle now : Counts) → AllWell before middle → EndsInFault middle now → EndsInFault before now
well_fault before middle now (many, e) (more, f) = (more + many, f ∙ ap (λ c. after_call true (after_good more c)) e ∙ ap (after_call true) (good_twice many more before))

pub none_well : (before : Counts) → AllWell before before
none_well before = (0, refl)

pub one_well : (before now : Counts) → now ≡ after_call false before → AllWell before now
one_well before now e = (1, e)

pub one_fault : (before now : Counts) → now ≡ after_call true before → EndsInFault before now
one_fault before now e = (0, e)

-- counts that never tell a fault
pub none_rise : (before now : ℕ) → Rose (none_failed before) (none_failed now) → ⊥
none_rise before now rose = (let e : 0 ≡ 1 = rose in absurd (omega (arith, e)))

pub none_ends : (before now : ℕ) → EndsInFault (none_failed before) (none_failed now) → ⊥
none_ends before now (many, e) = (let told : false ≡ true = ap (λ (c : Counts). c.failed_last) e in search (rules, told))

pub no_cause : {X E : Type 0} (before now : ℕ) (result : Result X E) → HasCause (none_failed before) (none_failed now) result → IsOk result
no_cause before now (Ok value) cause = search rules
no_cause before now (Err kind) cause = absurd (none_ends before now cause.failed)
