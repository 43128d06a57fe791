-- Each step is an event of the machine, and each event keeps the rule.
use Rattle.std.proofs.Common.{◌≡◌, ℕ, List, [], ◌∷◌, ◌++◌, set, sym, refl, ap, ◌∙◌, subst, arith}
use mathlib.Core.Option.{some}
use lib.ListN.{get_elem?}
use Rattle.crossbeam_deque.proofs.Lists.{set_else}
use Rattle.batch_pool.specs.declared.view.View.{View}
use Rattle.batch_pool.specs.declared.view.Taken.{Taken}
use Rattle.batch_pool.specs.declared.view.Taken.TheVariants.{Task, Empty}
use Rattle.batch_pool.specs.Views.{joined}
use Rattle.batch_pool.specs.Machine.{Machine, machine, MayTake, after, pushes, pops, steals, splits, joins}
use Rattle.batch_pool.specs.Rule.{Shared}
use Rattle.batch_pool.specs.Laws.{PushesAreEvents, TakesAreEvents, SplitsAreEvents, JoinsAreEvents, StepsAreEvents, EventsKeepRule}
use Rattle.batch_pool.proofs.Moves as moves

pushes_are_events : PushesAreEvents
pushes_are_events items views port v w x at may e = (v, at, may, ap (λ u. machine (items ++ x ∷ []) (set views port u)) e)

takes_are_events : TakesAreEvents
takes_are_events items views port v w (Task n) at may told =
    let e = ap (λ u. set views port u) told.0 in ((λ own. (v, at, own, may, refl, e)), (λ other. (v, at, other, may, refl, e)))
takes_are_events items views port v w Empty at may told =
    let e = ap (λ u. set views port u) told.0 in ((λ own. (v, at, own, may, refl, e)), (λ other. (v, at, other, may, refl, e)))

splits_are_events : SplitsAreEvents
splits_are_events items views port v at may = (v, at, may, refl)

joins_are_events : JoinsAreEvents
joins_are_events items views port other v w at at-w ne own = (v, w, at, at-w, ne, own, refl)

pub steps_are_events : StepsAreEvents
steps_are_events = (pushes_are_events, takes_are_events, splits_are_events, joins_are_events)

-- ---- the rule stays
took_keeps : (p : ℕ) (v : View) (x : Taken) (items items' : List Taken) (views views' : List View) → MayTake v → get_elem? views p ≡ some v → items ≡ x ∷ items' → views' ≡ set views p (after x v) → Shared items views → Shared items' views'
took_keeps p v (Task n) items items' views views' may at e f o =
    let r = moves.takes p v may.0 may.1 (Task n ∷ []) items' views (omega arith) (omega arith) (subst (λ l. Shared l views) e o) at in
    subst (λ l. Shared items' l) (sym f) (subst (λ u. Shared items' (set views p u)) r.2.0 r.1)
took_keeps p v Empty items items' views views' may at e f o =
    let r = moves.takes p v may.0 may.1 (Empty ∷ []) items' views (omega arith) (omega arith) (subst (λ l. Shared l views) e o) at in
    subst (λ l. Shared items' l) (sym f) (subst (λ u. Shared items' (set views p u)) r.2.0 r.1)

abbrev Keeps : Machine → Type 0
Keeps m = Shared m.items m.passes

pub events_keep_rule : EventsKeepRule
events_keep_rule (pushes p (Task n)) m m' o h =
    let r = moves.fills p h.0 n h.2.0 h.2.1 h.2.2 h.2.3 m.items m.passes o h.1 in
    subst Keeps (sym h.3) (subst (λ u. Shared (m.items ++ Task n ∷ []) (set m.passes p u)) r.2 r.1)
events_keep_rule (pushes p Empty) m m' o h =
    let r = moves.ends_back p h.0 h.2.0 h.2.1 m.items m.passes o h.1 in
    subst Keeps (sym h.3) (subst (λ u. Shared (m.items ++ Empty ∷ []) (set m.passes p u)) r.2 r.1)
events_keep_rule (pops p x) m m' o h = took_keeps p h.0 x m.items m'.items m.passes m'.passes h.3 h.1 h.4 h.5 o
events_keep_rule (steals p x) m m' o h = took_keeps p h.0 x m.items m'.items m.passes m'.passes h.3 h.1 h.4 h.5 o
events_keep_rule (splits p) m m' o h = subst Keeps (sym h.3) (moves.deals p h.0 h.2.0 h.2.1 h.2.2 m.items m.passes o h.1)
events_keep_rule (joins p q) m m' o h =
    let b = joined h.0 h.1 in
    subst Keeps (sym h.6) (moves.joins p h.0 q h.1 h.5 m.items m.passes o h.2 (λ e. h.4 (sym e)) (set_else m.passes p q b (λ e. h.4 (sym e)) ∙ h.3))
