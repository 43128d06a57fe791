-- How a pass's fields tie to its seat, before and after each call.
use Rattle.std.proofs.Common.{◌≡◌, ℕ, ◌+◌, ◌%◌, ◌<◌, [], ◌∷◌, sym, refl, ap, ◌∙◌, subst, arith, Option, None, Some, Bool, true, false}
use Rattle.scratch_pool.specs.Counts.{raised}
use Rattle.ordered_pipeline.specs.declared.view.Known.{Known}
use Rattle.ordered_pipeline.specs.declared.view.Cargo.TheVariants as cargo
use Rattle.ordered_pipeline.specs.declared.view.Phase.{Phase}
use Rattle.ordered_pipeline.specs.declared.view.Phase.TheVariants.{Idle, Drawn, Started, Baton}
use Rattle.ordered_pipeline.specs.declared.rule.Key.{Key}
use Rattle.ordered_pipeline.specs.Machine.{view, known, phased, dealt, drawn_view, over_view, started_view, waiting_view}
use Rattle.ordered_pipeline.specs.Plays.{Holder, Carries}
use Rattle.ordered_pipeline.specs.Passes.{Unstarted, Ties, over_of}

some_same : {A : Type 0} (a b : A) → Some a ≡ Some b → a ≡ b
some_same a b e = cc

drawn_same : (a b : ℕ) → Drawn a ≡ Drawn b → a ≡ b
drawn_same a b e = cc

started_same : (a b : ℕ) → Started a ≡ Started b → a ≡ b
started_same a b e = cc

baton_same : (a b : ℕ) → Baton a ≡ Baton b → a ≡ b
baton_same a b e = cc

idle_started : (n : ℕ) → Idle ≡ Started n → ⊥
idle_started n e = cc

drawn_started : (m n : ℕ) → Drawn m ≡ Started n → ⊥
drawn_started m n e = cc

baton_started : (m n : ℕ) → Baton m ≡ Started n → ⊥
baton_started m n e = cc

drawn_idle : (n : ℕ) → Drawn n ≡ Idle → ⊥
drawn_idle n e = cc

started_idle : (n : ℕ) → Started n ≡ Idle → ⊥
started_idle n e = cc

baton_idle : (n : ℕ) → Baton n ≡ Idle → ⊥
baton_idle n e = cc

false_true : (b : Bool) → b ≡ false → b ≡ true → ⊥
false_true b f t = cc

module _ {J S C : Type 0} where
  pub dealt_me : (m m' : Holder J S C) (key : Key J S) → ◌≡◌ {A = Holder J S C} m' (dealt m.0, []) → m.0.key ≡ known key → ◌≡◌ {A = Holder J S C} m' (view 1 0 m'.0.number Idle 0 0 0 (known key), [])
  dealt_me m m' key e k = e ∙ (ap (λ (o : Known (Key J S)). (view 1 0 m.0.number Idle 0 0 0 o, [])) k ∙ ap (λ (n : ℕ). (view 1 0 n Idle 0 0 0 (known key), [])) (sym (ap (λ (x : Holder J S C). x.0.number) e)))

not_over : (over : Bool) (p : Phase) → (over ≡ true → p ≡ Idle) → (p ≡ Idle → ⊥) → (q : Phase) → over ≡ true → q ≡ Idle
not_over over p f busy q h = absurd (busy (f h))

module _ {J S C : Type 0} (room : J → C → Type 0) (stands : J → ℕ → C → Type 0) (work : J → S → ℕ → S) where
  abbrev Tied : Option C → Bool → ℕ → ℕ → Holder J S C → Type 0
  Tied = Ties room stands work

  pub fresh_tie : (m : Holder J S C) (key : Key J S) (number : ℕ) → ◌≡◌ {A = Holder J S C} m (view 1 0 number Idle 0 0 0 (known key), []) → Tied None false 0 0 m
  fresh_tie m key number e = subst (Tied None false 0 0) (sym e) (refl, refl, refl, (λ h. absurd (false_true false refl h)), refl)

  pub idle_empty : (copy : Option C) (over : Bool) (item looks : ℕ) (m : Holder J S C) → Tied copy over item looks m → m.0.phase ≡ Idle → m.1 ≡ []
  idle_empty None over item looks m t ph = subst (λ p. Unstarted room stands work item p m) ph t.4
  idle_empty (Some x) over item looks m t ph = absurd (idle_started item (sym ph ∙ t.4.0))

  pub drawn_here : (copy : Option C) (over : Bool) (item looks n : ℕ) (m : Holder J S C) → Tied copy over item looks m → m.0.phase ≡ Drawn n → (copy ≡ None) × (m.1 ≡ []) × (n ≡ item)
  drawn_here None over item looks n m t ph = let u = subst (λ p. Unstarted room stands work item p m) ph t.4 in (refl, u.0, u.1)
  drawn_here (Some x) over item looks n m t ph = absurd (drawn_started n item (sym ph ∙ t.4.0))

  pub drawn_tie : (copy : Option C) (over : Bool) (item looks n : ℕ) (m m' : Holder J S C) (key : Key J S) → Tied copy over item looks m → m.0.key.key ≡ Some key → over ≡ false → m.0.phase ≡ Idle → n < key.items
      → ◌≡◌ {A = Holder J S C} m' (drawn_view m.0 n, []) → Tied copy over n looks m'
  drawn_tie None over item looks n m m' key t is-key none-over ph lt e =
      subst (Tied None over n looks) (sym e) (t.0, t.1, t.2, (λ h. absurd (false_true over none-over h)), (refl, refl, λ k f. subst (λ (i : Key J S). n < i.items) (some_same key k (sym is-key ∙ f)) lt))
  drawn_tie (Some x) over item looks n m m' key t is-key none-over ph lt e = absurd (idle_started item (sym ph ∙ t.4.0))

  pub over_tie : (copy : Option C) (over : Bool) (item looks r : ℕ) (m m' : Holder J S C) → Tied copy over item looks m → over ≡ false → m.0.phase ≡ Idle → ◌≡◌ {A = Holder J S C} m' (over_view m.0 r, []) → Tied copy true item looks m'
  over_tie None over item looks r m m' t none-over ph e =
      subst (Tied None true item looks) (sym e)
      (t.0, omega (arith, t.1, ap over_of none-over), t.2, (λ _. ph), subst (λ p. Unstarted room stands work item p (over_view m.0 r, [])) (sym ph) refl)
  over_tie (Some x) over item looks r m m' t none-over ph e = absurd (idle_started item (sym ph ∙ t.4.0))

  pub waiting_tie : (copy : Option C) (over : Bool) (item looks looks' n c : ℕ) (m m' : Holder J S C) → Tied copy over item looks m → m.0.phase ≡ Drawn n → looks' ≡ raised looks → ◌≡◌ {A = Holder J S C} m' (waiting_view m.0 n c, []) → Tied copy over item looks' m'
  waiting_tie None over item looks looks' n c m m' t ph bump e =
      let u = subst (λ p. Unstarted room stands work item p m) ph t.4 in
      subst (Tied None over item looks') (sym e)
      (t.0, t.1, ap raised t.2 ∙ sym bump, not_over over m.0.phase t.3 (λ z. drawn_idle n (sym ph ∙ z)) (Drawn n), (refl, u.1, u.2))
  waiting_tie (Some x) over item looks looks' n c m m' t ph bump e = absurd (drawn_started n item (sym ph ∙ t.4.0))

  pub started_tie : (copy : Option C) (over : Bool) (item looks n c q : ℕ) (m m' : Holder J S C) (key : Key J S) (x : C) → Tied copy over item looks m → m.0.key.key ≡ Some key → m.0.phase ≡ Drawn n → key.queue ≡ q
      → ◌≡◌ {A = Holder J S C} m' (started_view m.0 n c, (n % q, cargo.Out) ∷ []) → Tied (Some x) over item looks m'
  started_tie None over item looks n c q m m' key x t is-key ph same-queue e =
      let u = subst (λ p. Unstarted room stands work item p m) ph t.4 in
      subst (Tied (Some x) over item looks) (sym e) (
        t.0,
        t.1,
        t.2,
        not_over over m.0.phase t.3 (λ z. drawn_idle n (sym ph ∙ z)) (Started n),
        (ap Started u.1, λ k f. (ap (λ (i : ℕ). (i, cargo.Out) ∷ []) (ap (λ (i : ℕ). i % q) u.1 ∙ ap (λ (i : ℕ). item % i) (sym same-queue ∙ ap (λ (i : Key J S). i.queue) (some_same key k (sym is-key ∙ f)))), subst (λ (i : ℕ). i < k.items) u.1 (u.2 k f))),
      )
  started_tie (Some y) over item looks n c q m m' key x t is-key ph same-queue e = absurd (drawn_started n item (sym ph ∙ t.4.0))

  pub started_here : (copy : Option C) (over : Bool) (item looks n : ℕ) (m : Holder J S C) (key : Key J S) → Tied copy over item looks m → m.0.key.key ≡ Some key → m.0.phase ≡ Started n → (m.1 ≡ (n % key.queue, cargo.Out) ∷ []) × (n < key.items)
  started_here None over item looks n m key t is-key ph = absurd (subst (λ p. Unstarted room stands work item p m) ph t.4)
  started_here (Some x) over item looks n m key t is-key ph =
      let a = t.4.1 key is-key in let same : n ≡ item = started_same n item (sym ph ∙ t.4.0) in
      (a.0 ∙ ap (λ (i : ℕ). (i % key.queue, cargo.Out) ∷ []) (sym same), subst (λ (i : ℕ). i < key.items) (sym same) a.1)

  pub finished_tie : (copy : Option C) (over : Bool) (item looks n : ℕ) (m m' : Holder J S C) (key : Key J S) → Tied copy over item looks m → m.0.key.key ≡ Some key → m.0.phase ≡ Started n → Carries room stands work key n m' × (m'.0 ≡ phased m.0 (Baton n)) → Tied None over item looks m'
  finished_tie None over item looks n m m' key t is-key ph h = absurd (subst (λ p. Unstarted room stands work item p m) ph t.4)
  finished_tie (Some x) over item looks n m m' key t is-key ph h =
      let same : n ≡ item = started_same n item (sym ph ∙ t.4.0) in
      let lt : n < key.items = subst (λ (i : ℕ). i < key.items) (sym same) (t.4.1 key is-key).1 in (
        ap (λ v. v.parts) h.1 ∙ t.0,
        ap (λ v. v.overs) h.1 ∙ t.1,
        ap (λ v. v.looks) h.1 ∙ t.2,
        not_over over m.0.phase t.3 (λ z. started_idle n (sym ph ∙ z)) m'.0.phase,
        subst (λ p. Unstarted room stands work item p m') (sym h.0.0) (same, λ k f. subst (λ (i : Key J S). Carries room stands work i n m' × (n < i.items)) (some_same key k (sym h.0.1 ∙ f)) (h.0, lt)),
      )

  pub left_tie : (copy : Option C) (over : Bool) (item looks : ℕ) (m m' : Holder J S C) → Tied copy over item looks m → ◌≡◌ {A = Holder J S C} m' (phased m.0 Idle, []) → Tied None over item looks m'
  left_tie copy over item looks m m' t e = subst (Tied None over item looks) (sym e) (t.0, t.1, t.2, (λ _. refl), refl)

  pub baton_here : (copy : Option C) (over : Bool) (item looks n : ℕ) (m : Holder J S C) (key : Key J S) → Tied copy over item looks m → m.0.key.key ≡ Some key → m.0.phase ≡ Baton n → (copy ≡ None) × Carries room stands work key n m × (n ≡ item) × (n < key.items)
  baton_here None over item looks n m key t is-key ph = let u = subst (λ p. Unstarted room stands work item p m) ph t.4 in let a = u.1 key is-key in (refl, a.0, u.0, a.1)
  baton_here (Some x) over item looks n m key t is-key ph = absurd (baton_started n item (sym ph ∙ t.4.0))

  pub rested_tie : (copy : Option C) (over : Bool) (item looks n : ℕ) (m m' : Holder J S C) → Tied copy over item looks m → m.0.phase ≡ Baton n → ◌≡◌ {A = Holder J S C} m' (phased m.0 Idle, []) → Tied copy over item looks m'
  rested_tie None over item looks n m m' t ph e = left_tie None over item looks m m' t e
  rested_tie (Some x) over item looks n m m' t ph e = absurd (baton_started n item (sym ph ∙ t.4.0))

  pub next_tie : (copy : Option C) (over : Bool) (item looks n : ℕ) (m m' : Holder J S C) (key : Key J S) → Tied copy over item looks m → m.0.phase ≡ Baton n
      → Carries room stands work key (item + 1) m' × (item + 1 < key.items) × (m'.0 ≡ phased m.0 (Baton (item + 1))) → Tied copy over (item + 1) looks m'
  next_tie None over item looks n m m' key t ph h = (
    ap (λ v. v.parts) h.2 ∙ t.0,
    ap (λ v. v.overs) h.2 ∙ t.1,
    ap (λ v. v.looks) h.2 ∙ t.2,
    not_over over m.0.phase t.3 (λ z. baton_idle n (sym ph ∙ z)) m'.0.phase,
    subst (λ p. Unstarted room stands work (item + 1) p m') (sym h.0.0) (refl, λ k f. subst (λ (i : Key J S). Carries room stands work i (item + 1) m' × (item + 1 < i.items)) (some_same key k (sym h.0.1 ∙ f)) (h.0, h.1)),
  )
  next_tie (Some x) over item looks n m m' key t ph h = absurd (baton_started n item (sym ph ∙ t.4.0))
