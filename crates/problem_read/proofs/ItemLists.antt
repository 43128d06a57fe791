-- Items that aren't there.
use Rattle.std.proofs.Common.{◌≡◌, ◌∙◌, ap, refl, Bool, true, false, true≢false}
use Rattle.std.specs.Prelude.{Some, None, is_some, not}
use Rattle.std.specs.declared.option.Option.{Option}

pub none_of : {A : Type 0} (o : Option A) → is_some o ≡ false → o ≡ None
none_of (Some x) h = cc
none_of None h = refl

pub none_when : {A : Type 0} (o : Option A) (b : Bool) → is_some o ≡ not b → b ≡ true → o ≡ None
none_when (Some x) b h e = absurd (true≢false (h ∙ ap not e))
none_when None b h e = refl

pub some_when : {A : Type 0} (o : Option A) (b : Bool) → is_some o ≡ not b → b ≡ false → is_some o ≡ true
some_when o b h e = h ∙ ap not e
