-- What holds besides demand 3, of any pair of ends, and of the table machines: the stronger claims.
use Rattle.std.specs.Prelude.{◌≡◌, ◌⊎◌, ◌≢◌, Bool, true, false, List, [], ◌∷◌, ◌++◌, map, ℕ, ◌≤◌, ◌<◌, length, get_or, None, Some}
use Rattle.std.specs.Prelude as code
use Rattle.std.proofs.Math.Option.{Option, none, some}
use Rattle.base.specs.Modulo.{advanced}
use Rattle.fop.specs.Units.{Fdu, AD, BD, Word, valid, Own, legal, written, read_word}
use Rattle.fop.specs.declared.Alert.{Alert}
use Rattle.fop.specs.declared.Alert.TheVariants.{Limit, T1, Term, Llif}
use Rattle.fop.specs.declared.State.{State}
use Rattle.fop.specs.declared.State.TheVariants.{S1, S2, S3, S4, S5, S6}
use Rattle.fop.specs.declared.Response.TheVariants.{AcceptAdUnit}
use Rattle.fop.specs.Variables.{Fop}
pub use Rattle.fop.specs.Effective.{in_service}
use Rattle.fop.specs.Effective.{effective, is_suspended}
use Rattle.fop.specs.Machine.{fdus, first_marked}
use Rattle.fop.specs.Events.{SenderEvent, request_ad, request_bd, lower, directive, word_arrives}
use Rattle.fop.specs.Events as fop
use Rattle.fop.specs.Answers.{sender_next, sender_answer}
use Rattle.suspension.specs.Suspension.{suspends_at}
use Rattle.farm.specs.declared.State.TheVariants.{Open}
use Rattle.receiver.specs.declared.Receiver.{Receiver}
use Rattle.session.specs.Frames.{read}
use Rattle.session.specs.Receiver.{ReceiverEvent, frame_arrives, release_buffer, word_length, receiver_next, receiver_answer}
use Rattle.session.specs.Ends.{Settings, Ends, tables, SessionDirective}
use Rattle.session.specs.Session.{ad_request, bd_request, word_in, word_made, frame_in, Linked, step, no_unit}
use Rattle.session.specs.Claims.{units_at, IsOutstanding, outstanding, next_number, BufferFree, serves, Lent, Resends, Marked}

-- active, or resending with wait
abbrev pub asking : State → Bool
asking S1 = true
asking S2 = false
asking S3 = true
asking S4 = false
asking S5 = false
asking S6 = false

-- places as the histories have them
abbrev pub somes : List ℕ → List (Option ℕ)
somes [] = []
somes (i ∷ is) = some i ∷ somes is

-- the units at places of s
abbrev pub units_of : List Fdu → List ℕ → List Fdu
units_of s [] = []
units_of s (i ∷ is) = get_or s i no_unit ∷ units_of s is

-- a is b with some elements left out
pub data Sub {A : Type 0} : List A → List A → Type 0 where
  none_left : Sub [] []
  skips : {x : A} {a b : List A} → Sub a b → Sub a (x ∷ b)
  takes : {x : A} {a b : List A} → Sub a b → Sub (x ∷ a) (x ∷ b)

-- no alert, or at a transmission limit of 1 that of the limit
abbrev pub LimitOnly : ℕ → code.Option Alert → Type 0
LimitOnly l r = (r ≡ None) ⊎ ((r ≡ Some Limit) × (l ≡ 1))

-- no alert, or term or LLIF, or at Timeout_Type 0 T1, or at a transmission limit of 1 that of the limit
abbrev pub KnownAlert : Settings → code.Option Alert → Type 0
KnownAlert set r =
    (r ≡ None) ⊎ ((r ≡ Some Term) ⊎ (((r ≡ Some T1) × (set.timeout_type ≡ 0)) ⊎ ((r ≡ Some Llif) ⊎ ((r ≡ Some Limit) × (set.limit ≡ 1)))))

-- an event that demand 3's session can bring to the sender
abbrev pub InSession : List (List ℕ) → SenderEvent → Type 0
InSession ws (request_ad o) = Unit {0}
InSession ws (request_bd o) = Unit {0}
InSession ws fop.tick = Unit {0}
InSession ws (lower l) = Unit {0}
InSession ws (directive d v) = SessionDirective d
InSession ws (word_arrives s) = (more : List (List ℕ)) × (ws ≡ s ∷ more)

-- the stronger claims, after every list of events and at whatever event comes next
pub record Stronger (set : Settings) (m : Ends) (σ : Linked m) (γ : Linked (tables set)) : Type 0 where
  -- at most K outstanding
  pub at_most_k : length (outstanding σ.history) ≤ set.k
  -- in service, or suspended there, Sent is Confirmed and then Outstanding; the Sent_Queue is exactly Outstanding; nothing is denied
  pub standing : in_service (effective γ.sender) ≡ true
      → units_at σ.history.sent (σ.history.confirmed ++ somes (outstanding σ.history)) ≡ map some σ.history.sent
  pub queue : in_service (effective γ.sender) ≡ true → fdus γ.sender.queues.sent_queue ≡ units_of σ.history.sent (outstanding σ.history)
  pub undenied : in_service (effective γ.sender) ≡ true → σ.history.denied ≡ []
  -- in Initial and not suspended, Sent is Confirmed and then Denied
  pub initial : γ.sender.state ≡ S6 → γ.sender.suspend_state ≡ 0
      → units_at σ.history.sent (σ.history.confirmed ++ σ.history.denied) ≡ map some σ.history.sent
  -- no state but S1, S2, S3 and S6; suspended only in S6, and only from S1, S2 and S3; at Timeout_Type 0 never
  pub states : (in_service γ.sender.state ≡ true) ⊎ (γ.sender.state ≡ S6)
  pub suspends : is_suspended γ.sender ≡ true → (γ.sender.state ≡ S6) × (in_service (effective γ.sender) ≡ true)
  pub unsuspended : set.timeout_type ≡ 0 → γ.sender.suspend_state ≡ 0
  -- a unit that is sent at once is accepted, and starts the timer
  pub responds : (o : List ℕ) (lent : ℕ) → legal o ≡ true → Lent set (request_ad o) lent γ.sender
      → γ.sender.state ≡ S1 → γ.sender.out.ad ≡ true → γ.sender.queues.wait_queue ≡ none → first_marked γ.sender.queues.sent_queue ≡ none
      → length (outstanding σ.history) < set.k → (m.answer (request_ad o) lent σ.sender).responses ≡ AcceptAdUnit ∷ []
  pub starts : (o : List ℕ) (lent : ℕ) → legal o ≡ true → Lent set (request_ad o) lent γ.sender
      → γ.sender.state ≡ S1 → γ.sender.out.ad ≡ true → γ.sender.queues.wait_queue ≡ none → first_marked γ.sender.queues.sent_queue ≡ none
      → length (outstanding σ.history) < set.k → (step set (tables set) (ad_request o lent) γ).sender.clock.timer ≡ set.t1
  -- a control word that asks for retransmission without wait and reports nothing new resends or marks every outstanding unit: to a sender
  -- active or resending with wait, short of the transmission limit
  pub asks : (s : List ℕ) (ws : List (List ℕ)) (w : Word) (i lent : ℕ) → σ.words ≡ s ∷ ws → read_word set.own s ≡ valid w
      → Lent set (word_arrives s) lent γ.sender → asking γ.sender.state ≡ true → γ.sender.clock.transmission_count < set.limit → 1 < set.limit
      → w.lockout ≡ false → w.wait ≡ false → w.retransmit ≡ true → w.nr ≡ advanced set.n (length σ.history.confirmed) → IsOutstanding σ.history i
      → Resends set (get_or σ.history.sent i no_unit) σ (step set m (word_in lent) σ)
      ⊎ Marked (get_or σ.history.sent i no_unit) (step set (tables set) (word_in lent) γ).sender
  -- every AD frame handed down carries the next new number, or is an outstanding unit, its octets unchanged
  pub handed : (e : SenderEvent) (lent : ℕ) → InSession σ.words e → (o : List ℕ) (u : Fdu)
      → (m.answer e lent σ.sender).down ≡ some o → read set.own o ≡ AD u
      → (u.ns ≡ next_number set σ.history) ⊎ ((i : ℕ) × IsOutstanding σ.history i × (u ≡ get_or σ.history.sent i no_unit))
  -- at a transmission limit of 1 it carries the next new number: nothing is handed down twice
  pub once : set.limit ≡ 1 → (e : SenderEvent) (lent : ℕ) → InSession σ.words e → (o : List ℕ) (u : Fdu)
      → (m.answer e lent σ.sender).down ≡ some o → read set.own o ≡ AD u → u.ns ≡ next_number set σ.history
  -- and is handed down only by an event that leaves the sender active or resending without wait
  pub serving_only : (e : SenderEvent) (lent : ℕ) → InSession σ.words e → (o : List ℕ) (u : Fdu)
      → (m.answer e lent σ.sender).down ≡ some o → read set.own o ≡ AD u → serves (m.answer e lent σ.sender).state ≡ true
  -- a control word that reaches a sender in service makes the count of confirmed units what it reports
  pub exact : (s : List ℕ) (ws : List (List ℕ)) (w : Word) (lent : ℕ) → σ.words ≡ s ∷ ws → read_word set.own s ≡ valid w
      → Lent set (word_arrives s) lent γ.sender → in_service γ.sender.state ≡ true
      → w.nr ≡ advanced set.n (length (step set m (word_in lent) σ).history.confirmed)
  -- a receiver with a free buffer is Open
  pub opens : BufferFree set σ.history → γ.receiver.farm.channel.variables.state ≡ Open
  -- BD units accepted are those handed down, in order, but for those lost
  pub in_order_bd : Sub σ.history.accepted_bd σ.history.sent_bd
  -- with BD_Out ready, a legal BD unit offered is handed down at once, in every state; a BD unit that arrives is accepted
  pub expedited : (o : List ℕ) (lent : ℕ) → legal o ≡ true → Lent set (request_bd o) lent γ.sender → γ.sender.out.bd ≡ true
      → ((step set m (bd_request o lent) σ).frames ≡ σ.frames ++ (written set.own (BD o) ∷ []))
      × ((step set m (bd_request o lent) σ).history.sent_bd ≡ σ.history.sent_bd ++ (o ∷ []))
  pub accepts_bd : (s : List ℕ) (fs : List (List ℕ)) (o : List ℕ) → σ.frames ≡ s ∷ fs → read set.own s ≡ BD o
      → (step set m frame_in σ).history.accepted_bd ≡ σ.history.accepted_bd ++ (o ∷ [])
  -- to the next control word no synch, NN(R), CLCW or lockout alert, and that of the limit only at a limit of 1
  pub word_alert : (s : List ℕ) (ws : List (List ℕ)) (lent : ℕ) → σ.words ≡ s ∷ ws → LimitOnly set.limit (m.answer (word_arrives s) lent σ.sender).alert
  -- and to whatever event no alert but term, LLIF, T1 (at Timeout_Type 0) and that of the limit
  pub alerts : (e : SenderEvent) (lent : ℕ) → InSession σ.words e → KnownAlert set (m.answer e lent σ.sender).alert
  -- a Suspend notification is given exactly by the expiry of the timer that suspends (crate suspension, `suspends_at`)
  pub notified : (e : SenderEvent) (lent : ℕ) → InSession σ.words e → (m.answer e lent σ.sender).suspended ≡ true
      → (e ≡ fop.tick) × (suspends_at γ.sender ≡ true)
  pub notifies : (lent : ℕ) → suspends_at γ.sender ≡ true → (m.answer fop.tick lent σ.sender).suspended ≡ true
  -- the refusals of demand 3's session are 10 and 11 (sender), 11 and 13 (receiver)
  pub refusals : (e : SenderEvent) (lent : ℕ) → InSession σ.words e
      → ((m.answer e lent σ.sender).refusal ≡ 0) ⊎ (((m.answer e lent σ.sender).refusal ≡ 10) ⊎ ((m.answer e lent σ.sender).refusal ≡ 11))
  pub frame_refusal : (s : List ℕ) (fs : List (List ℕ)) → σ.frames ≡ s ∷ fs → (m.answer_receiver (frame_arrives s) σ.receiver).refusal ≡ 0
  -- a release is refused exactly where every unit accepted has been released
  pub release_refusal :
      (((m.answer_receiver release_buffer σ.receiver).refusal ≡ 0) × (σ.history.released < length σ.history.accepted))
      ⊎ (((m.answer_receiver release_buffer σ.receiver).refusal ≡ 13) × (σ.history.released ≡ length σ.history.accepted))
  -- a control word is refused exactly where its room is not lent; then the words under way stay
  pub word_refusal : (lent : ℕ)
      → (((m.word lent σ.receiver).refusal ≡ 0) × (word_length ≤ lent))
      ⊎ (((m.word lent σ.receiver).refusal ≡ 11) × (lent < word_length) × ((step set m (word_made lent) σ).words ≡ σ.words))

-- of the table machines: what is refused keeps the state (a refused frame is E9, which keeps it by table 7-9)
pub record RefusedKeeps (own : Own) : Type 0 where
  pub sender : (e : SenderEvent) (lent : ℕ) (f : Fop) → (sender_answer own e lent f).refusal ≢ 0 → sender_next own e lent f ≡ f
  pub receiver : (e : ReceiverEvent) (r : Receiver) → (receiver_answer e r).refusal ≢ 0 → receiver_next e r ≡ r
