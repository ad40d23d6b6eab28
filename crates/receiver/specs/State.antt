-- The well-formed states of the receiver, as a test: what every event keeps (proofs/Kept), so that a state that was kept over a reset can be told from
-- one that no receiver has.
use Rattle.std.specs.Prelude.{◌%◌, Bool, true, not, leb, ltb, eqb, Result, Ok, Err}
use Rattle.base.specs.Choice.{pick, both}
use Rattle.base.specs.Limits.{largest_spacecraft, largest_channel}
use Rattle.farm.specs.declared.State.{State}
use Rattle.farm.specs.declared.State.TheVariants.{Open, Wait, Lockout}
use Rattle.receiver.specs.declared.ReceiverState.{ReceiverState}
use Rattle.base.specs.declared.Refusal.{Refusal}
use Rattle.base.specs.declared.Refusal.TheVariants.{Setting}
use Rattle.receiver.specs.declared.Receiver.{Receiver}
use Rattle.receiver.specs.Receiver.{largest_buffers}

-- the flags by the state: lockout in Lockout and only there; otherwise wait in Wait and only there; whoever waits wants a retransmission
abbrev pub flags_hold : State → Bool → Bool → Bool → Bool
flags_hold Open lockout wait retransmit = both (not lockout) (not wait)
flags_hold Wait lockout wait retransmit = both (not lockout) (both wait retransmit)
flags_hold Lockout lockout wait retransmit = both lockout (pick wait retransmit true)

-- what every event keeps (proofs/Kept): the settings within document 01's limits, the flags by the state, the counter below 4, no more buffers
-- taken than set, and all of them taken where the wait flag is set
unfoldable pub well_formed : ReceiverState → Bool
well_formed s =
    both (leb s.spacecraft largest_spacecraft)
    (both (leb s.channel.number largest_channel)
    (both (eqb (s.channel.window % 2) 0)
    (both (leb 2 s.channel.window)
    (both (leb s.channel.window 254)
    (both (leb 1 s.buffers)
    (both (leb s.buffers largest_buffers)
    (both (flags_hold s.channel.variables.state s.channel.variables.lockout s.channel.variables.wait s.channel.variables.retransmit)
    (both (ltb s.channel.variables.counter 4) (both (leb s.channel.held s.buffers) (pick s.channel.variables.wait (eqb s.channel.held s.buffers) true))))))))))

-- a receiver from a state that was kept; 12 where it is none
unfoldable pub restored_of : ReceiverState → Result Receiver Refusal
restored_of s = pick (well_formed s) (Ok (record { farm = s })) (Err Setting)
