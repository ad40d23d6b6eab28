-- Document 02, order 11, of the functions that C and Rust call (crate ledger): from what `pondreszi_sender_new` gives, over any sequence of calls, each
-- given what the last left.
use Rattle.std.specs.Prelude.{ℕ, ◌≤◌, ◌≡◌, List, eqb, length}
use Rattle.base.specs.Choice.{pick}
use Rattle.fop.specs.Store.{store_need}
use Rattle.fop.specs.Events.{SenderEvent}
use Rattle.ledger.specs.Accounted.{Fresh, Within, Sender, AllAccounted}
use Rattle.sender_octets.specs.Kept.{state_octets}
use Rattle.pondreszi_sender.specs.Senders as sender
use Rattle.our_session.specs.Ours.{lent_output, reads}
use Rattle.our_session.specs.Ledger.{Lent, Fits}
use Rattle.called_session.specs.Called.{Kept, call_of, kept_after, answer_called, held_in}

-- a call with the store that it is lent
abbrev pub call_lent : SenderEvent → Lent → Kept → sender.Called
call_lent e l x = call_of e (lent_output l.room) (record { state = x.state; store = l.store })

-- what it leaves: a refused call changes nothing, so the caller still has what it had
abbrev pub next_called : SenderEvent → Lent → Kept → Kept
next_called e l x = pick (eqb (call_lent e l x).number 0) (kept_after (call_lent e l x)) x

-- a new sender, its state in a buffer of a state's length
abbrev pub fresh_kept : Fresh → List ℕ → List ℕ → Kept
fresh_kept s store buffer = record {
  state = (sender.new_call s.preset.k s.preset.t1_initial s.preset.transmission_limit s.preset.timeout_type s.own.spacecraft s.own.channel
      s.vs s.nnr store buffer).state;
  store = store;
}

-- what a caller has
abbrev pub called_ledger : Fresh → List ℕ → List ℕ → Sender
called_ledger s store buffer = record {
  Held = Kept;
  Lent = Lent;
  Fits = λ l x. Fits l (held_in x);
  stored = λ l. length l.store;
  room = λ l. l.room;
  fresh = fresh_kept s store buffer;
  next = next_called;
  answer = λ e l x. answer_called (call_lent e l x);
  reads = λ x. reads (held_in x);
}

-- with every store that suffices for its K at the start, whatever store and buffer hold
abbrev pub AccountedCalled : Type 0
AccountedCalled =
    (s : Fresh) → Within s → (store : List ℕ) → store_need s.preset.k 0 ≤ length store → (buffer : List ℕ) → length buffer ≡ state_octets
    → AllAccounted s (called_ledger s store buffer)
