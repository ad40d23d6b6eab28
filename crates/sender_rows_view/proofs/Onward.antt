-- From what is known before an action to what is known after it: by the mode, and for an action that keeps the lengths and the store.
use Prim.Native.Nat.{ℕ, zero, suc}
use mathlib.Core.Path.{◌≡◌, refl, ap, ◌∙◌}
use mathlib.Core.Bool.{Bool, true, false}
use mathlib.Core.List.{List}
use Rattle.fop.specs.Units.{Fdu}
use Rattle.fop.specs.declared.Action.{Action}
use Rattle.fop.specs.Variables as machine
use Rattle.fop.specs.Machine.{perform}
use Rattle.sender_values.specs.declared.Work.{Work}
use Rattle.sender_values.specs.Limits.{largest_responses}
use Rattle.sender_view.specs.View.{WellFormed}
use Rattle.sender_rows_view.proofs.Mode.{Stored, kept, Idle, Mode, fresh, going, half, over, bad, on_fresh, on_going, on_half, only_if, taking}
use Rattle.sender_rows_view.proofs.Known.{Case, seen, EndedOf, GoingOf, Fresh, Open, Half, Shut, At, opened}

-- By the mode.
module _ (x : Case) (w v : Work) (m k : machine.Work) where
  pub on_fresh_lem : (F : Bool → Idle → Mode) → ((f : Bool) (z : Idle) → Fresh x f z w m → At x (F f z) v k) → (mode : Mode) → At x mode w m → At x (on_fresh F mode) v k
  on_fresh_lem F step (fresh f z) h = step f z h
  on_fresh_lem F step (going p f z u l) h = tt
  on_fresh_lem F step (half p z u l) h = tt
  on_fresh_lem F step (over p z) h = tt
  on_fresh_lem F step bad h = tt

  pub on_going_lem : (F : Stored → Bool → Idle → Bool → ℕ → Mode) → ((p : Stored) (f : Bool) (z : Idle) (u : Bool) (l : ℕ) → Open x p f z u l w m → At x (F p f z u l) v k)
      → (mode : Mode) → At x mode w m → At x (on_going F mode) v k
  on_going_lem F step (fresh f z) h = step kept f z true largest_responses (opened x f z w m h)
  on_going_lem F step (going p f z u l) h = step p f z u l h
  on_going_lem F step (half p z u l) h = tt
  on_going_lem F step (over p z) h = tt
  on_going_lem F step bad h = tt

  pub on_half_lem : (F : Stored → Idle → Bool → ℕ → Mode) → ((p : Stored) (z : Idle) (u : Bool) (l : ℕ) → Half x p z u l w m → At x (F p z u l) v k) → (mode : Mode) → At x mode w m
      → At x (on_half F mode) v k
  on_half_lem F step (fresh f z) h = tt
  on_half_lem F step (going p f z u l) h = tt
  on_half_lem F step (half p z u l) h = step p z u l h
  on_half_lem F step (over p z) h = tt
  on_half_lem F step bad h = tt

  pub only_if_lem : (t : Bool) (mode : Mode) → (t ≡ true → At x mode v k) → At x (only_if t mode) v k
  only_if_lem true mode step = step refl
  only_if_lem false mode step = tt

  pub takes : (P : ℕ → Type 0) (l : ℕ) (F : ℕ → Mode) → P l → ((j : ℕ) → P (suc j) → At x (F j) v k) → At x (taking l F) v k
  takes P zero F h step = tt
  takes P (suc l) F h step = step l h

-- The action a leads from the work w to v, and denies the units d'.
module _ {x : Case} {p : Stored} {f : Bool} {z : Idle} {u : Bool} {l : ℕ} {w : Work} {m : machine.Work} (h : Open x p f z u l w m) (a : Action) (v : Work) where
  pub goes_on : {f' : Bool} {z' : Idle} {u' : Bool} {l' : ℕ} (d' : List Fdu) → perform a (seen x h.c h.d w h.lengths h.store) ≡ seen x h.c d' v h.lengths h.store
      → WellFormed v h.lengths h.store → EndedOf x p z' h.lengths h.store h.c d' v → GoingOf f' u' l' d' v → Open x p f' z' u' l' v (perform a m)
  goes_on d' law well ended free = record {
    lengths = h.lengths;
    store = h.store;
    c = h.c;
    d = d';
    is = ap (perform a) h.is ∙ law;
    formed = well;
    ended = ended;
    going = free;
  }

  pub shuts : {z' : Idle} → perform a (seen x h.c h.d w h.lengths h.store) ≡ seen x h.c h.d v h.lengths h.store → WellFormed v h.lengths h.store
      → EndedOf x p z' h.lengths h.store h.c h.d v → Shut x p z' v (perform a m)
  shuts law well ended = record { lengths = h.lengths; store = h.store; c = h.c; d = h.d; is = ap (perform a) h.is ∙ law; formed = well; ended = ended }
