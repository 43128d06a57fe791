-- Values that are read, and what they give.
use Rattle.std.proofs.Common.{◌≡◌, sym, ℕ, List, Bool, true, false, cond, refl, ◌≤◌, arith}
use Rattle.std.specs.Prelude.{Some, None, is_some, unwrap_or}
use Rattle.std.specs.declared.option.Option.{Option}
use Rattle.std.specs.Option.{option_and_then}
use Rattle.std.proofs.lemmas.Option.{cond_some}
use Rattle.std.proofs.lemmas.Grind.{common_steps}
use Rattle.fem_fixed.specs.Numbers.{digits_value}
use Rattle.run_words.specs.Values.{is_number_within}
use Rattle.run_words.specs.Choice.{number_or, named_or}
use Rattle.run_words.specs.Words.{passes}
use Rattle.run_words.specs.Reading.{number_within, read_or}

pub injected : {X : Type 0} (x y : X) → Some x ≡ Some y → x ≡ y
injected x y is = cc

-- a number

pub number_read : (least greatest default n : ℕ) (value : Option (List ℕ)) → read_or default (number_within least greatest) value ≡ Some n →
    (passes (is_number_within least greatest) value ≡ true) × (n ≡ number_or default value)
number_read least greatest default n None read = (refl, (cc))
number_read least greatest default n (Some word) read =
    let found = cond_some (is_number_within least greatest word) (digits_value word) n read in
    (found.0, sym found.1)

pub number_given : (least greatest default : ℕ) (value : Option (List ℕ)) → passes (is_number_within least greatest) value ≡ true →
    read_or default (number_within least greatest) value ≡ Some (number_or default value)
number_given least greatest default None in_set = refl
number_given least greatest default (Some word) in_set = rw in_set refl

pub number_bounds : (least greatest : ℕ) (word : List ℕ) → is_number_within least greatest word ≡ true → (least ≤ digits_value word) × (digits_value word ≤ greatest)
number_bounds least greatest word is = grind (arith, common_steps)

pub value_within : (default least greatest : ℕ) (value : Option (List ℕ)) → least ≤ default → default ≤ greatest → passes (is_number_within least greatest) value ≡ true →
    (least ≤ number_or default value) × (number_or default value ≤ greatest)
value_within default least greatest None low high is = (low, high)
value_within default least greatest (Some word) low high is = number_bounds least greatest word is

-- what a value names

pub named_read : {X : Type 0} (find : List ℕ → Option X) (default x : X) (value : Option (List ℕ)) → read_or default find value ≡ Some x →
    (passes (λ word. is_some (find word)) value ≡ true) × (x ≡ named_or default find value)
named_read find default x None read = (refl, (cc))
named_read find default x (Some word) read = rw read (refl, refl)

found_is : {X : Type 0} (found : Option X) (default : X) → is_some found ≡ true → found ≡ Some (unwrap_or found default)
found_is None default some = cc
found_is (Some x) default some = refl

pub named_given : {X : Type 0} (find : List ℕ → Option X) (default : X) (value : Option (List ℕ)) → passes (λ word. is_some (find word)) value ≡ true →
    read_or default find value ≡ Some (named_or default find value)
named_given find default None in_set = refl
named_given find default (Some word) in_set = found_is (find word) default in_set

pub cond_then : {X Y : Type 0} (b : Bool) (x : X) (f : X → Option Y) (y : Y) → option_and_then f (cond b (Some x) None) ≡ Some y → (b ≡ true) × (f x ≡ Some y)
cond_then true x f y is = (refl, is)
cond_then false x f y is = cc
