-- A sender at its start: document 01's limits judged with 12, then the lent store with 11; and a sender from a state that was kept.
use Rattle.std.specs.Prelude.{ℕ, Result, Ok, Err, leb}
use Rattle.base.specs.Choice.{pick, must}
use Rattle.base.specs.declared.Refusal.{Refusal}
use Rattle.base.specs.declared.Refusal.TheVariants.{Room, Setting}
use Rattle.sender_values.specs.declared.SenderState.{SenderState}
use Rattle.sender_values.specs.declared.Settings.{Settings}
use Rattle.sender_values.specs.Start.{start_of}
use Rattle.fop.specs.Store.{store_need}
use Rattle.sender_state.specs.State.{settings_hold, well_formed}
use Rattle.sender.specs.declared.Sender.{Sender}

-- "A sender starts Initial, .. with the numbers and settings given": any two numbers; lent is the length of the store
unfoldable pub starting_of : Settings → ℕ → ℕ → ℕ → Result Sender Refusal
starting_of g vs nnr lent =
    must (settings_hold g) (Err Setting)
    (must (leb (store_need g.k 0) lent) (Err Room) (Ok (record { fop = start_of g vs nnr })))

-- a sender from a state that was kept; 12 where it is none
unfoldable pub restored_of : SenderState → Result Sender Refusal
restored_of s = pick (well_formed s) (Ok (record { fop = s })) (Err Setting)
