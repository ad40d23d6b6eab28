-- The premise of demand 3 can be met: what `pondreszi_sender_new` and `pondreszi_receiver_new` give is the start of a session.
use Rattle.std.specs.Prelude.{ℕ, ◌≤◌, ◌≡◌, List, length}
use Rattle.fop.specs.Events.{directive}
use Rattle.receiver_octets.specs.Kept as farm
use Rattle.session.specs.Ends.{Settings, Within, start_receiver}
use Rattle.fop.specs.Store.{store_need}
use Rattle.sender_octets.specs.Kept.{state_octets}
use Rattle.pondreszi_sender.specs.Senders as sender
use Rattle.pondreszi_receiver.specs.Receivers as receiver
use Rattle.our_session.specs.Ours.{lent_output}
use Rattle.called_session.specs.Called.{Kept, call_of, kept_after, BeginsKept}

-- a new sender with the settings of a session, one number for V(S) and NN(R)
abbrev pub new_sender : Settings → List ℕ → List ℕ → sender.New
new_sender set store buffer =
    sender.new_call set.k set.t1 set.limit set.timeout_type set.own.spacecraft set.own.channel set.n set.n store buffer

-- what its caller keeps
abbrev pub new_kept : Settings → List ℕ → List ℕ → Kept
new_kept set store buffer = record { state = (new_sender set store buffer).state; store = store }

-- and keeps after it is told to initiate without check (directive 1)
abbrev pub start_kept : Settings → List ℕ → List ℕ → Kept
start_kept set store buffer = kept_after (call_of (directive 1 0) (lent_output 0) (new_kept set store buffer))

-- the new sender is no refusal, and after directive 1 it begins the session
pub record Fresh (set : Settings) (store buffer : List ℕ) : Type 0 where
  pub number : (new_sender set store buffer).number ≡ 0
  pub begins : BeginsKept set (start_kept set store buffer)

-- with every store that suffices for its K, whatever store and buffer hold; Transmission_Count is then 1
abbrev pub FreshSender : Type 0
FreshSender =
    (set : Settings) → Within set → set.count ≡ 1 → (store : List ℕ) → store_need set.k 0 ≤ length store → (buffer : List ℕ)
    → length buffer ≡ state_octets → Fresh set store buffer

-- a new receiver is no refusal, and its octets are those of the session's receiver; its FARM-B counter is 0
abbrev pub FreshReceiver : Type 0
FreshReceiver =
    (set : Settings) → Within set → set.counter ≡ 0 → (buffer : List ℕ) → length buffer ≡ farm.state_octets
    → receiver.new_call set.own.spacecraft set.own.channel set.w set.n set.buffers buffer
    ≡ record { number = 0; state = farm.octets_of (start_receiver set) }
