-- Document 02, order 11, of our own sender (crate ledger): from a fresh sender with any settings within limits and any two numbers, over any sequence of
-- events, "each given what the last left".
use Rattle.std.specs.Prelude.{ℕ, ◌≤◌, ◌<◌, ◌⊎◌, ◌≡◌, List, ◌++◌, eqb, length, take}
use Rattle.base.specs.Choice.{pick}
use Rattle.fop.specs.Store.{store_need}
use Rattle.fop.specs.Events.{SenderEvent}
use Rattle.ledger.specs.Accounted.{Fresh, Within, Sender, AllAccounted}
use Rattle.sender_values.specs.declared.Settings.{Settings as SenderSettings}
use Rattle.sender.specs.Answers.{Step}
use Rattle.sender.specs.Start.{starting_of}
use Rattle.our_session.specs.Ours.{Held, step_of, held_after, answer_by, lent_output, sender_started, reads}

-- what is lent at an event: a store, and room for a frame
pub record Lent : Type 0 where
  pub store : List ℕ
  pub room : ℕ

-- the octets of the store that can hold units in this state, whatever K is: places for those outstanding and for one waiting
abbrev pub units_need : Held → ℕ
units_need x = store_need 0 x.sender.fop.queues.sent

-- "the store lent any first part of what the last event left with any octets behind it": a first part that has the units, or a store that is too
-- short to have them, which is 11
pub record Fits (l : Lent) (x : Held) : Type 0 where
  pub count : ℕ
  pub behind : List ℕ
  pub part : l.store ≡ take count x.store ++ behind
  pub has : (units_need x ≤ count) ⊎ (length l.store < units_need x)

-- a step with that store
abbrev pub step_lent : SenderEvent → Lent → Held → Step
step_lent e l x = step_of e (lent_output l.room) (record { sender = x.sender; store = l.store })

-- what it leaves: a refused event changes nothing, so the host still has what it had
abbrev pub next_lent : SenderEvent → Lent → Held → Held
next_lent e l x = pick (eqb (step_lent e l x).answer.refusal 0) (held_after (step_lent e l x)) x

-- the sender's part of the settings
abbrev pub settings_of : Fresh → SenderSettings
settings_of s = record {
  k = s.preset.k;
  t1_initial = s.preset.t1_initial;
  transmission_limit = s.preset.transmission_limit;
  timeout_type = s.preset.timeout_type;
  spacecraft = s.own.spacecraft;
  channel = s.own.channel;
}

-- our sender from its start, with the store that it is lent there
abbrev pub our_ledger : Fresh → List ℕ → Sender
our_ledger s store = record {
  Held = Held;
  Lent = Lent;
  Fits = Fits;
  stored = λ l. length l.store;
  room = λ l. l.room;
  fresh = record { sender = sender_started (starting_of (settings_of s) s.vs s.nnr (length store)); store = store };
  next = next_lent;
  answer = λ e l x. answer_by (step_lent e l x);
  reads = reads;
}

-- with every store that suffices for its K at the start
abbrev pub AccountedOurs : Type 0
AccountedOurs = (s : Fresh) → Within s → (store : List ℕ) → store_need s.preset.k 0 ≤ length store → AllAccounted s (our_ledger s store)
