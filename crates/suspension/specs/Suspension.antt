-- Document 02, order 9: "Prove that without such a reject no AD unit is sent, confirmed or denied from a suspension to its Resume, and that Resume brings
-- back the state left, units outstanding and waiting, marks and V(S)." Of any sender, over any list of its events, all directives included, not only
-- in a session.
use Rattle.std.specs.Prelude.{◌≡◌, ◌⊎◌, Bool, true, false, not, ◌&&◌, ◌||◌, List, [], ◌∷◌, ◌++◌, ℕ, ◌≤◌, leb, eqb, None}
use Rattle.std.proofs.Math.Option.{none, some}
use Rattle.fop.specs.Units.{BD, Own, written}
use Rattle.fop.specs.declared.State.{State}
use Rattle.fop.specs.declared.State.TheVariants.{S1, S2, S3, S4, S5, S6}
use Rattle.fop.specs.declared.Response.{Response}
use Rattle.fop.specs.declared.Response.TheVariants.{AcceptAdUnit, RejectAdUnit, AcceptBdUnit, RejectBdUnit, AcceptDirective, RejectDirective, ConfirmDirective, DenyDirective}
use Rattle.fop.specs.Variables.{Fop, set_state, set_suspend, set_clock}
use Rattle.fop.specs.Effective.{effective, is_suspended}
use Rattle.fop.specs.Events.{SenderEvent, request_ad, request_bd, tick, lower, directive, word_arrives, is_reject}
use Rattle.fop.specs.Answers.{Answer, run_of}
use Rattle.fop.specs.Store.{need_at, lent_answer, lent_next}

-- A sender, whatever it is: its well-formed states, the variables of table 7-8 that a state reads as, the length of the store that it is lent, and the
-- next state and the answer that it gives at an event. The number is the room lent for a frame.
pub record Sender : Type 1 where
  pub Held : Type 0
  pub Well : Held → Type 0
  pub reads : Held → Fop
  pub stored : Held → ℕ
  pub next : SenderEvent → ℕ → Held → Held
  pub answer : SenderEvent → ℕ → Held → Answer

-- it does as table 7-8 says (crate fop, specs/Store), and stays well-formed
pub record ByTable (own : Own) (m : Sender) : Type 0 where
  pub well : (e : SenderEvent) (lent : ℕ) (x : m.Held) → m.Well x → m.Well (m.next e lent x)
  pub next : (e : SenderEvent) (lent : ℕ) (x : m.Held) → m.Well x → m.reads (m.next e lent x) ≡ lent_next own e (m.stored x) lent (m.reads x)
  pub answer : (e : SenderEvent) (lent : ℕ) (x : m.Held) → m.Well x → m.answer e lent x ≡ lent_answer own e (m.stored x) lent (m.reads x)

-- the table machine itself, with a store of so many octets lent
abbrev pub table_machine : Own → ℕ → Sender
table_machine own stored = record {
  Held = Fop;
  Well = λ f. Unit {0};
  reads = λ f. f;
  stored = λ f. stored;
  next = λ e lent f. lent_next own e stored lent f;
  answer = λ e lent f. lent_answer own e stored lent f;
}

-- clause 7.4.2.6: "When the AD service is suspended, FOP-1 enters Initial state (S6)"
pub record Suspended (f : Fop) : Type 0 where
  pub initial : f.state ≡ S6
  pub suspended : is_suspended f ≡ true

-- Initiate AD Service: directives 1 to 4
abbrev pub is_initiate : ℕ → Bool
is_initiate d = leb 1 d && leb d 4

-- the directive is accepted
abbrev pub is_accept : Response → Bool
is_accept AcceptAdUnit = false
is_accept RejectAdUnit = false
is_accept AcceptBdUnit = false
is_accept RejectBdUnit = false
is_accept AcceptDirective = true
is_accept RejectDirective = false
is_accept ConfirmDirective = false
is_accept DenyDirective = false

abbrev pub accepts : List Response → Bool
accepts [] = false
accepts (r ∷ rs) = is_accept r || accepts rs

-- what ends a suspension or empties its queues, where it is not refused: a lower-layer reject, a Resume (directive 6), an Initiate that is accepted
abbrev pub ends : SenderEvent → Answer → Bool
ends (request_ad o) a = false
ends (request_bd o) a = false
ends tick a = false
ends (lower l) a = eqb a.refusal 0 && is_reject l
ends (directive d v) a = eqb a.refusal 0 && (eqb d 6 || (is_initiate d && accepts a.responses))
ends (word_arrives s) a = false

-- an AD unit is accepted
abbrev pub is_unit_accept : Response → Bool
is_unit_accept AcceptAdUnit = true
is_unit_accept RejectAdUnit = false
is_unit_accept AcceptBdUnit = false
is_unit_accept RejectBdUnit = false
is_unit_accept AcceptDirective = false
is_unit_accept RejectDirective = false
is_unit_accept ConfirmDirective = false
is_unit_accept DenyDirective = false

abbrev pub takes : List Response → Bool
takes [] = false
takes (r ∷ rs) = is_unit_accept r || takes rs

-- no AD unit is accepted, sent, confirmed or denied: no frame is handed down but that of a BD unit offered, and both runs are empty; and there is no alert,
-- and no abort to the lower layer
pub record NoAdUnit (own : Own) (e : SenderEvent) (a : Answer) : Type 0 where
  pub down : (a.down ≡ none) ⊎ ((o : List ℕ) × (e ≡ request_bd o) × (a.down ≡ some (written own (BD o))))
  pub confirmed : a.confirmed ≡ run_of []
  pub denied : a.denied ≡ run_of []
  pub accepted : takes a.responses ≡ false
  pub alert : a.alert ≡ None
  pub abort : a.abort ≡ false

-- units outstanding and waiting, marks, V(S), NN(R) and Transmission_Count stay
pub record UnitsKept (f g : Fop) : Type 0 where
  pub numbers : g.numbers ≡ f.numbers
  pub queues : g.queues ≡ f.queues
  pub count : g.clock.transmission_count ≡ f.clock.transmission_count

-- and so do the state and Suspend_State, and with them the effective state
pub record Kept (f g : Fop) : Type 0 where
  pub units : UnitsKept f g
  pub state : g.state ≡ f.state
  pub suspend_state : g.suspend_state ≡ f.suspend_state

-- rows E18 and E104, by the state: in S1 to S3 an expiry suspends at the transmission limit, in S4 at once, in S5 never; in S6 none comes
abbrev pub suspends_in : State → Bool → Bool
suspends_in S1 limit = limit
suspends_in S2 limit = limit
suspends_in S3 limit = limit
suspends_in S4 limit = true
suspends_in S5 limit = false
suspends_in S6 limit = false

-- the timer expires at the next tick, at Timeout_Type 1, and suspends; the limit: Transmission_Count >= Transmission_Limit
abbrev pub suspends_at : Fop → Bool
suspends_at f =
    eqb f.clock.timer 1 && (not (eqb f.preset.timeout_type 0)
    && suspends_in f.state (leb f.preset.transmission_limit f.clock.transmission_count))

-- Suspend_State (clause 7.2.2) "records the state that FOP-1 was in when the AD service was suspended"
abbrev pub recorded : State → ℕ
recorded S1 = 1
recorded S2 = 2
recorded S3 = 3
recorded S4 = 4
recorded S5 = 0
recorded S6 = 0

-- clause 7.4.2.6: "The Sent_Queue and other FOP-1 variables are not cleared or reset": Initial, Suspend_State, the timer stopped, all else as it was
abbrev pub suspended_from : Fop → Fop
suspended_from f = set_state S6 (set_suspend (recorded f.state) (set_clock 0 f.clock.transmission_count f))

-- a suspension begins: these variables, and so the state left is the effective state, and units, marks and numbers stay
pub record Begun (f g : Fop) : Type 0 where
  pub is : g ≡ suspended_from f
  pub suspended : Suspended g
  pub left : effective g ≡ f.state
  pub units : UnitsKept f g

-- after Resume (clause 7.9.2.19): the state left, not suspended, the timer started; all else stays
abbrev pub resumed : Fop → Fop
resumed f = set_state (effective f) (set_suspend 0 (set_clock f.preset.t1_initial f.clock.transmission_count f))

-- from the state before a suspension to the one after its Resume: the state left, units outstanding and waiting, marks, V(S), and NN(R) and
-- Transmission_Count besides; not suspended, the timer started
pub record Back (f g : Fop) : Type 0 where
  pub state : g.state ≡ f.state
  pub suspend_state : g.suspend_state ≡ 0
  pub started : g.clock.timer ≡ g.preset.t1_initial
  pub units : UnitsKept f g

module _ (own : Own) (m : Sender) where
  -- the sender after events, each with the room lent
  unfoldable pub after_all : List (SenderEvent × ℕ) → m.Held → m.Held
  after_all [] x = x
  after_all (e ∷ es) x = after_all es (m.next e.0 e.1 x)

  -- none of them ends the suspension
  unfoldable pub none_ends : List (SenderEvent × ℕ) → m.Held → Bool
  none_ends [] x = true
  none_ends (e ∷ es) x = not (ends e.0 (m.answer e.0 e.1 x)) && none_ends es (m.next e.0 e.1 x)

  -- at none of them an AD unit is sent, confirmed or denied
  unfoldable pub NoneAd : List (SenderEvent × ℕ) → m.Held → Type 0
  NoneAd [] x = Unit {0}
  NoneAd (e ∷ es) x = NoAdUnit own e.0 (m.answer e.0 e.1 x) × NoneAd es (m.next e.0 e.1 x)

  -- the suspension law
  pub record SuspensionLaw : Type 0 where
    -- a tick suspends exactly where E18 or E104 says so, and no other event does; the Suspend notification tells it, and no suspension begins without it
    pub notified : (e : SenderEvent) (lent : ℕ) (x : m.Held) → m.Well x → (m.answer e lent x).suspended ≡ true
        → (e ≡ tick) × (suspends_at (m.reads x) ≡ true)
    pub suspends : (lent : ℕ) (x : m.Held) → m.Well x → need_at tick (m.reads x) ≤ m.stored x → suspends_at (m.reads x) ≡ true
        → (m.answer tick lent x).suspended ≡ true
    pub told : (e : SenderEvent) (lent : ℕ) (x : m.Held) → m.Well x → is_suspended (m.reads x) ≡ false → is_suspended (m.reads (m.next e lent x)) ≡ true
        → (m.answer e lent x).suspended ≡ true
    pub begins : (e : SenderEvent) (lent : ℕ) (x : m.Held) → m.Well x → (m.answer e lent x).suspended ≡ true
        → Begun (m.reads x) (m.reads (m.next e lent x)) × NoAdUnit own e (m.answer e lent x)
    -- while suspended, each event but a lower-layer reject, an accepted Initiate or a Resume
    pub keeps : (e : SenderEvent) (lent : ℕ) (x : m.Held) → m.Well x → Suspended (m.reads x) → ends e (m.answer e lent x) ≡ false
        → Kept (m.reads x) (m.reads (m.next e lent x)) × NoAdUnit own e (m.answer e lent x)
    -- "Terminate while suspended follows the standard: it is accepted and changes nothing"
    pub terminates : (v lent : ℕ) (x : m.Held) → m.Well x → Suspended (m.reads x) → need_at (directive 5 v) (m.reads x) ≤ m.stored x
        → (m.reads (m.next (directive 5 v) lent x) ≡ m.reads x) × ((m.answer (directive 5 v) lent x).responses ≡ AcceptDirective ∷ ConfirmDirective ∷ [])
        × ((m.answer (directive 5 v) lent x).alert ≡ None)
    pub resumes : (v lent : ℕ) (x : m.Held) → m.Well x → Suspended (m.reads x) → need_at (directive 6 v) (m.reads x) ≤ m.stored x
        → (m.reads (m.next (directive 6 v) lent x) ≡ resumed (m.reads x))
        × ((m.answer (directive 6 v) lent x).responses ≡ AcceptDirective ∷ ConfirmDirective ∷ []) × NoAdUnit own (directive 6 v) (m.answer (directive 6 v) lent x)
    -- "no AD unit is sent, confirmed or denied from a suspension to its Resume, and .. Resume brings back the state left, units outstanding and
    -- waiting, marks and V(S)": x before the suspension, which the event e begins, es the events up to Resume
    pub whole : (e : SenderEvent) (lent : ℕ) (es : List (SenderEvent × ℕ)) (v room : ℕ) (x : m.Held) → m.Well x
        → (m.answer e lent x).suspended ≡ true → none_ends es (m.next e lent x) ≡ true → need_at (directive 6 v) (m.reads (after_all es (m.next e lent x))) ≤ m.stored (after_all es (m.next e lent x))
        → NoneAd ((e, lent) ∷ (es ++ ((directive 6 v, room) ∷ []))) x
        × Back (m.reads x) (m.reads (m.next (directive 6 v) room (after_all es (m.next e lent x))))
