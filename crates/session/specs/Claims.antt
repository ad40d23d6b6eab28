-- Demand 3, field by field, of any pair of ends. σ is the ends' session, known by its answers; γ is the session of the table machines over
-- the same list of events, with channels of its own. States, flags, marks, the wait queue, the timer and Transmission_Count are γ's ("what
-- tables 7-8 and 7-9, with this paper's ticks, give over the list, not the program's fields"); K and the buffers are the settings'.
--
-- Document 01's terms: sent, accepted, confirmed, denied and releases done are fields of σ.history (specs/Session). Outstanding, next to send,
-- expected and buffer free are below. Legal is `legal` of crate fop, specs/Units. Active is S1, resending without wait S2. The lower layer is
-- ready where γ.sender.out.ad is true (AD_Out_Flag Ready), and comes ready by AD_Accept. A unit is marked where its
-- To_Be_Retransmitted_Flag is set. A word is clear where none of its three flags is set. Synchronised and active is the start (specs/Ends).
use Rattle.std.specs.Prelude.{◌≡◌, ◌⊎◌, ◌↔◌, ◌≢◌, Bool, true, false, ◌||◌, List, [], ◌∷◌, ◌++◌, map, ℕ, zero, suc, ◌+◌, ◌%◌, ◌≤◌, ◌<◌, eqb, length, get_or}
use Rattle.std.proofs.Math.Option.{Option, none, some}
use Rattle.base.specs.Choice.{pick}
use Rattle.base.specs.Modulo.{advanced}
use Rattle.fop.specs.Units.{Fdu, AD, Word, valid, legal, written, read_word}
use Rattle.fop.specs.declared.State.{State}
use Rattle.fop.specs.declared.State.TheVariants.{S1, S2, S3, S4, S5, S6}
use Rattle.fop.specs.Variables.{Fop}
use Rattle.fop.specs.Machine.{first_marked}
use Rattle.fop.specs.declared.Lower.TheVariants.{AdAccept}
use Rattle.fop.specs.Events.{SenderEvent, request_ad, lower, word_arrives}
use Rattle.fop.specs.Events as fop
use Rattle.fop.specs.Answers.{needed}
use Rattle.farm.specs.declared.State.TheVariants.{Open, Lockout}
use Rattle.farm.specs.declared.Variables.{Variables}
use Rattle.session.specs.Frames.{read}
use Rattle.session.specs.Receiver.{word_length}
use Rattle.session.specs.Ends.{Settings, Ends, tables}
use Rattle.session.specs.Session.{ad_request, ticks, lower_says, word_in, word_made, frame_in, Linked, History, step, no_unit}

-- "a first part, in order"
abbrev pub Prefix : {A : Type 0} → List A → List A → Type 0
Prefix a b = (c : List _) × (a ++ c ≡ b)

-- the units at places of s
abbrev pub units_at : List Fdu → List (Option ℕ) → List (Option Fdu)
units_at s [] = []
units_at s (some i ∷ is) = some (get_or s i no_unit) ∷ units_at s is
units_at s (none ∷ is) = none ∷ units_at s is

-- the place x is among these
abbrev pub member : ℕ → List (Option ℕ) → Bool
member x [] = false
member x (some y ∷ ys) = eqb x y || member x ys
member x (none ∷ ys) = member x ys

-- Outstanding: "those sent, told apart by place, neither confirmed nor denied". The unit at place i is one.
abbrev pub IsOutstanding : History → ℕ → Type 0
IsOutstanding h i = (i < length h.sent) × (member i h.confirmed ≡ false) × (member i h.denied ≡ false)

-- of c places from j on, those neither in a nor in b
abbrev pub remaining : List (Option ℕ) → List (Option ℕ) → ℕ → ℕ → List ℕ
remaining a b j zero = []
remaining a b j (suc c) = pick (member j a || member j b) (remaining a b (suc j) c) (j ∷ remaining a b (suc j) c)

-- the places of all outstanding units, the oldest first
unfoldable pub outstanding : History → List ℕ
outstanding h = remaining h.confirmed h.denied 0 (length h.sent)

-- "Next to send is n plus the count sent"
abbrev pub next_number : Settings → History → ℕ
next_number set h = advanced set.n (length h.sent)

-- "expected n plus the count accepted"
abbrev pub expected : Settings → History → ℕ
expected set h = advanced set.n (length h.accepted)

-- "A buffer is free while fewer units are accepted than buffers set plus releases done"
abbrev pub BufferFree : Settings → History → Type 0
BufferFree set h = length h.accepted < set.buffers + h.released

-- the control word of a receiver with these flags: "the FARM-B counter modulo 4", counted on from the start by the BD units accepted, and the
-- number expected
abbrev pub reported : Settings → Variables → History → Word
reported set v h = record {
  lockout = v.lockout;
  wait = v.wait;
  retransmit = v.retransmit;
  counter = (set.counter + length h.accepted_bd) % 4;
  nr = expected set h;
}

-- the unit o, with the next number to send
abbrev pub next_unit : Settings → History → List ℕ → Fdu
next_unit set h o = record { ns = next_number set h; octets = o }

-- "a sender active or resending without wait"
abbrev pub serves : State → Bool
serves S1 = true
serves S2 = true
serves S3 = false
serves S4 = false
serves S5 = false
serves S6 = false

module _ (set : Settings) {m : Ends} where
  -- u is sent, for the first time
  pub record Sends (u : Fdu) (σ τ : Linked m) : Type 0 where
    pub down : τ.frames ≡ σ.frames ++ (written set.own (AD u) ∷ [])
    pub counted : τ.history.sent ≡ σ.history.sent ++ (u ∷ [])

  -- u is sent again: an outstanding unit, its octets unchanged, and not counted anew
  pub record Resends (u : Fdu) (σ τ : Linked m) : Type 0 where
    pub down : τ.frames ≡ σ.frames ++ (written set.own (AD u) ∷ [])
    pub counted : τ.history.sent ≡ σ.history.sent
    pub place : ℕ
    pub out : IsOutstanding σ.history place
    pub is : u ≡ get_or σ.history.sent place no_unit

-- u is on the Sent_Queue, marked
pub record Marked (u : Fdu) (f : Fop) : Type 0 where
  pub place : ℕ
  pub on : place < length f.queues.sent_queue
  pub is : get_or f.queues.sent_queue place (record { fdu = no_unit; marked = false }) ≡ record { fdu = u; marked = true }

-- "What demand 3 says of the sender at the next event supposes that the room it needs there is lent"
abbrev pub Lent : Settings → SenderEvent → ℕ → Fop → Type 0
Lent set e lent f = needed set.own e f ≤ lent

-- demand 3, sentence by sentence, with what "a buffer free" means
pub record ClaimsWhen (set : Settings) (m : Ends) (σ : Linked m) (γ : Linked (tables set)) (free : Type 0) : Type 0 where
  -- "accepted AD units are a first part, in order, of those sent,"
  pub in_order : Prefix σ.history.accepted σ.history.sent
  -- "and confirmed units of those accepted;"
  pub truly : Prefix (units_at σ.history.sent σ.history.confirmed) (map some σ.history.accepted)
  -- "the receiver has never locked out."
  pub never : (σ.history.locked_out ≡ false) × (γ.history.locked_out ≡ false) × (γ.receiver.farm.channel.variables.lockout ≡ false)
      × (γ.receiver.farm.channel.variables.state ≢ Lockout)
  -- "And at whatever event comes next, each of these holds. The receiver accepts an AD frame exactly when the receiver is Open, the frame
  -- expected and a buffer free."
  pub accepts : (s : List ℕ) (fs : List (List ℕ)) (u : Fdu) → σ.frames ≡ s ∷ fs → read set.own s ≡ AD u
      → ((step set m frame_in σ).history.accepted ≡ σ.history.accepted ++ (u ∷ []))
      ↔ ((γ.receiver.farm.channel.variables.state ≡ Open) × (u.ns ≡ expected set σ.history) × free)
  -- "An active sender with a ready lower layer, an empty wait queue, nothing marked and fewer than K outstanding sends at once a legal unit
  -- offered to it."
  pub offered : (o : List ℕ) (lent : ℕ) → legal o ≡ true → Lent set (request_ad o) lent γ.sender
      → γ.sender.state ≡ S1 → γ.sender.out.ad ≡ true → γ.sender.queues.wait_queue ≡ none → first_marked γ.sender.queues.sent_queue ≡ none
      → length (outstanding σ.history) < set.k
      → Sends set (next_unit set σ.history o) σ (step set m (ad_request o lent) σ)
  -- "When the lower layer comes ready, a sender active or resending without wait first sends its oldest marked unit again;"
  pub ready_again : (u : Fdu) (lent : ℕ) → Lent set (lower AdAccept) lent γ.sender
      → serves γ.sender.state ≡ true → first_marked γ.sender.queues.sent_queue ≡ some u
      → Resends set u σ (step set m (lower_says AdAccept lent) σ)
  -- "with none marked and fewer than K outstanding, it sends the unit waiting, if any."
  pub ready_new : (o : List ℕ) (lent : ℕ) → Lent set (lower AdAccept) lent γ.sender
      → serves γ.sender.state ≡ true → first_marked γ.sender.queues.sent_queue ≡ none → length (outstanding σ.history) < set.k
      → γ.sender.queues.wait_queue ≡ some o
      → Sends set (next_unit set σ.history o) σ (step set m (lower_says AdAccept lent) σ)
  -- "To either, a timer expiry short of the transmission limit resends or marks every outstanding unit,"
  pub expires : (i lent : ℕ) → Lent set fop.tick lent γ.sender
      → serves γ.sender.state ≡ true → γ.sender.clock.timer ≡ 1 → γ.sender.clock.transmission_count < set.limit → IsOutstanding σ.history i
      → Resends set (get_or σ.history.sent i no_unit) σ (step set m (ticks lent) σ)
      ⊎ Marked (get_or σ.history.sent i no_unit) (step set (tables set) (ticks lent) γ).sender
  -- "and a clear control word reporting the next number to send confirms them all and, if there were any and the lower layer is ready,
  -- sends the unit waiting, if any."
  pub clears : (s : List ℕ) (ws : List (List ℕ)) (w : Word) (lent : ℕ) → σ.words ≡ s ∷ ws → read_word set.own s ≡ valid w
      → Lent set (word_arrives s) lent γ.sender → serves γ.sender.state ≡ true
      → w.lockout ≡ false → w.wait ≡ false → w.retransmit ≡ false → w.nr ≡ next_number set σ.history
      → ((i : ℕ) → IsOutstanding σ.history i → member i (step set m (word_in lent) σ).history.confirmed ≡ true)
      × ((o : List ℕ) → 0 < length (outstanding σ.history) → γ.sender.out.ad ≡ true → γ.sender.queues.wait_queue ≡ some o
      → Sends set (next_unit set σ.history o) σ (step set m (word_in lent) σ))
  -- "the receiver's control word, with V(R), flags and counter as table 7-9 gives them, enters its channel", where its room is lent
  pub words : (lent : ℕ) → word_length ≤ lent
      → (s : List ℕ) × ((step set m (word_made lent) σ).words ≡ σ.words ++ (s ∷ []))
      × (read_word set.own s ≡ valid (reported set γ.receiver.farm.channel.variables σ.history))

-- of a receiver that has its buffers for itself
abbrev pub Claims : (set : Settings) (m : Ends) → Linked m → Linked (tables set) → Type 0
Claims set m σ γ = ClaimsWhen set m σ γ (BufferFree set σ.history)
