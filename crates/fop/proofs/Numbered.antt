-- The event with a number is the one at its place, or none.
use mathlib.Core.Path.{◌≡◌, ap, ◌∙◌}
use mathlib.Core.List.{◌∷◌, map}
use mathlib.Core.Option.{none, some}
use Prim.Native.Nat.{ℕ, suc, ◌<◌}
use lib.ListN.{get_or}
use Rattle.std.specs.Prelude.{None, Some}
use Rattle.std.proofs.lemmas.List.{get_or-map}
use Rattle.fop.specs.declared.Event.TheVariants.{E1}
use Rattle.fop.specs.Table.{place_numbered, events, event_of, as_code}

pub some_at : (k p : ℕ) → place_numbered k ≡ suc p → p < 50 → as_code (event_of k) ≡ Some (get_or events p E1)
unfolding event_of
some_at k p e h = ap (λ (q : ℕ). as_code (get_or (none ∷ map some events) q none)) e ∙ ap as_code (get_or-map some events p E1 none h)

pub none_at : (k : ℕ) → place_numbered k ≡ 0 → as_code (event_of k) ≡ None
unfolding event_of
none_at k e = ap (λ (q : ℕ). as_code (get_or (none ∷ map some events) q none)) e
