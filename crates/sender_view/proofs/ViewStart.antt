-- A sender at its start, and the work on an event at its start, are the machine's; that work has room for every response.
use mathlib.Core.Path.{◌≡◌, refl}
use mathlib.Core.List.{List, []}
use mathlib.Core.Option.{Option}
use Prim.Native.Nat.{ℕ}
use native.Mathlib.Omega.{arith}
use Rattle.fop.specs.declared.Event.{Event as FopEvent}
use Rattle.fop.specs.Variables as machine
use Rattle.sender_values.specs.declared.SenderState.{SenderState}
use Rattle.sender_values.specs.declared.Settings.{Settings}
use Rattle.sender_values.specs.Limits.{largest_responses}
use Rattle.sender_values.specs.Start.{start_of, none_told, begun}
use Rattle.sender_view.specs.View.{fop_of, view}
use Rattle.sender_view.proofs.ViewAnswers.{Room}

pub started : (s : Settings) (vs nnr : ℕ) (lengths store : List ℕ)
    → fop_of (begun (start_of s vs nnr)) lengths store
    ≡ machine.at_start vs nnr (record { k = s.k; transmission_limit = s.transmission_limit; t1_initial = s.t1_initial; timeout_type = s.timeout_type })
unfolding start_of begun
started s vs nnr lengths store = refl

pub begins : (e : Option FopEvent) (o : List ℕ) (n : ℕ) (s : SenderState) (lengths store : List ℕ)
    → view e o n [] [] (begun s) lengths store ≡ machine.begin e o n (fop_of (begun s) lengths store)
unfolding begun none_told
begins e o n s lengths store = refl

pub room_begun : (s : SenderState) → Room largest_responses (begun s).told.responses
unfolding begun none_told
room_begun s = record { few = omega arith; all_numbers = refl }
