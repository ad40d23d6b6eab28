-- What is known while an event's actions are done, as a mode, and that a mode at the end gives the flow law of the event. A mode says whether the unit
-- offered is still unanswered, whether nothing is denied and no frame handed down yet, and whether both queues are empty.
use mathlib.Core.Path.{◌≡◌, refl, sym, ap, subst, ◌∙◌}
use mathlib.Core.Bool.{Bool, true, false}
use mathlib.Core.List.{List, [], ◌∷◌, ◌++◌, append-nil}
use mathlib.Core.Option.{Option, none, some}
use Prim.Native.Nat.{ℕ, ◌≤◌}
use lib.Dec.{T}
use Rattle.base.specs.Modulo.{offset}
use Rattle.base.proofs.Computed.{is_true}
use Rattle.fop.specs.Limits.{largest_k, largest_number}
use Rattle.fop.specs.Units.{Fdu, Frame, legal}
use Rattle.fop.specs.declared.State.{State}
use Rattle.fop.specs.declared.Response.{Response}
use Rattle.fop.specs.declared.Event.{Event as FopEvent}
use Rattle.fop.specs.Variables.{Entry, Fop, Work, on_fop, set_state, begin}
use Rattle.fop.specs.Effective.{effective_of, effective, in_service}
use Rattle.fop.specs.Machine.{fdus}
use Rattle.fop.specs.Events.{SenderEvent, request_ad}
use Rattle.fop.proofs.Choices.{never, none_some}
use Rattle.session.proofs.Suspended.{unsuspended}
use Rattle.ledger.specs.Accounted.{is_request}
use Rattle.ledger.proofs.Flow.{Well, Quiet, Asks, silent, waits, Flow}
use Rattle.ledger.proofs.Numbers.{Kept, well_kept, kept_well}

-- what an event brings
pub data Given : Type 0 where
  -- an AD unit, with the Wait_Queue empty, or not
  unit surplus : Given
  -- an N(R) from NN(R) up to V(S)
  word : Given
  -- a directive's V*, or its K
  number width : Given
  -- nothing that the flow law looks at
  nothing : Given

pub data Mode : Type 0 where
  -- at an AD request: nothing is done yet; true: both queues are empty
  offered : Bool → Mode
  -- its unit is on the Wait_Queue, and no more is done
  queued : Mode
  -- at another event: nothing is denied, handed down, or said of AD units
  serving : Mode
  -- what becomes of the units offered and waiting is settled; true: both queues are empty, and no AD unit is new
  answered : Bool → Mode
  -- not covered
  bad : Mode

-- what the flow law looks at of the work on an event: the units on the Sent_Queue, V(S), NN(R), K, the Wait_Queue, what is answered, what is asked
pub record View : Type 0 where
  pub units : List Fdu
  pub vs : ℕ
  pub nnr : ℕ
  pub k : ℕ
  pub wait : Option (List ℕ)
  pub frames : List Frame
  pub confirmed : List Fdu
  pub denied : List Fdu
  pub responses : List Response
  pub value : ℕ
  pub octets : List ℕ

abbrev pub view : Work → View
view w = record {
  units = fdus w.fop.queues.sent_queue;
  vs = w.fop.numbers.vs;
  nnr = w.fop.numbers.nnr;
  k = w.fop.preset.k;
  wait = w.fop.queues.wait_queue;
  frames = w.frames;
  confirmed = w.confirmed;
  denied = w.denied;
  responses = w.responses;
  value = w.asked.value;
  octets = w.asked.octets;
}

abbrev pub KeptIn : View → Type 0
KeptIn x = Kept x.units x.vs x.nnr x.k x.wait

-- the mode at the start, in service or not: of an AD request, and of another event
abbrev start_offered : Bool → Mode
start_offered true = offered false
start_offered false = offered true

abbrev start_other : Bool → Mode
start_other true = serving
start_other false = answered true

abbrev pub start : Given → Bool → Mode
start unit b = start_offered b
start surplus b = start_offered b
start word b = start_other b
start number b = start_other b
start width b = start_other b
start nothing b = start_other b

-- the mode at the end, by the next effective state
abbrev pub fits : Mode → State → Bool
fits (offered b) s = false
fits queued s = in_service s
fits serving s = in_service s
fits (answered true) s = true
fits (answered false) s = in_service s
fits bad s = false

no_units : (q : List Entry) → fdus q ≡ [] → q ≡ []
no_units [] h = refl
no_units (x ∷ q) h = absurd (none_some {x = x.fdu} (sym (ap first h)))
  where
    first : List Fdu → Option Fdu
    first [] = none
    first (u ∷ us) = some u

-- the queues before the event
abbrev pub before : Fop → List Fdu
before f = fdus f.queues.sent_queue

abbrev pub waited : Fop → Option (List ℕ)
waited f = f.queues.wait_queue

module _ (e : SenderEvent) (f : Fop) where
  -- Of the units on the Sent_Queue, those confirmed and denied, the Wait_Queue, the frames and the responses: nothing is denied, handed down, or said of AD
  -- units, and this waits.
  pub record Still (awaited : Option (List ℕ)) (us confirmed denied : List Fdu) (wait : Option (List ℕ)) (fs : List Frame) (rs : List Response) : Type 0 where
    pub units : before f ≡ confirmed ++ us
    pub undenied : denied ≡ []
    pub no_frame : fs ≡ []
    pub waiting : wait ≡ awaited
    pub quiet : Quiet rs

  -- what becomes of the units is settled
  pub record Told (us confirmed denied : List Fdu) (wait : Option (List ℕ)) (fs : List Frame) (rs : List Response) : Type 0 where
    pub new : List Fdu
    pub units : before f ++ new ≡ (confirmed ++ denied) ++ us
    pub asks : Asks e (waited f) wait rs fs new

  -- and no unit is held, or new, whatever frame is handed down
  pub record Emptied (us confirmed denied : List Fdu) (wait : Option (List ℕ)) (rs : List Response) : Type 0 where
    pub none_sent : us ≡ []
    pub none_waits : wait ≡ none
    pub units : before f ≡ confirmed ++ denied
    pub asks : (fs : List Frame) → Asks e (waited f) none rs fs []

  pub still_told : {awaited : Option (List ℕ)} {us confirmed denied : List Fdu} {wait : Option (List ℕ)} {fs : List Frame} {rs : List Response}
      → Still awaited us confirmed denied wait fs rs → (gs : List Frame) (qs : List Response) → Asks e (waited f) awaited qs gs [] → Told us confirmed denied wait gs qs
  still_told {us = us} {confirmed = confirmed} h gs qs a = record {
    new = [];
    units =
        append-nil (before f) ∙ h.units ∙ ap (λ (vs : List Fdu). vs ++ us) (sym (append-nil confirmed) ∙ ap (◌++◌ confirmed) (sym h.undenied));
    asks = subst (λ (u : Option (List ℕ)). Asks e (waited f) u qs gs []) (sym h.waiting) a;
  }

  -- the unit offered waits
  pub queued_asks : (o : List ℕ) → e ≡ request_ad o → waited f ≡ none → (rs : List Response) → Quiet rs → (fs : List Frame) → Asks e (waited f) (some o) rs fs []
  queued_asks o q n rs h fs =
      subst (λ (x : SenderEvent). Asks x (waited f) (some o) rs fs []) (sym q)
      (subst (λ (u : Option (List ℕ)). Asks (request_ad o) u (some o) rs fs []) (sym n) (waits h))

  -- the queues are known to be empty
  abbrev pub Unheld : Bool → List Fdu → Option (List ℕ) → Type 0
  Unheld true us wait = (us ≡ []) × (wait ≡ none)
  Unheld false us wait = Unit {0}

  -- what is brought, a value or a unit, is within its limits, by V(S) and NN(R)
  abbrev pub Brings : Given → ℕ → List ℕ → ℕ → ℕ → Type 0
  Brings unit v o vs nnr = (waited f ≡ none) × (legal o ≡ true)
  Brings surplus v o vs nnr = Unit {0}
  Brings word v o vs nnr = (v ≤ largest_number) × (offset v nnr ≤ offset vs nnr)
  Brings number v o vs nnr = v ≤ largest_number
  Brings width v o vs nnr = v ≤ largest_k
  Brings nothing v o vs nnr = Unit {0}

  -- the same in a view
  abbrev pub StillIn : Option (List ℕ) → View → Type 0
  StillIn awaited x = Still awaited x.units x.confirmed x.denied x.wait x.frames x.responses

  abbrev pub ToldIn : View → Type 0
  ToldIn x = Told x.units x.confirmed x.denied x.wait x.frames x.responses

  abbrev pub EmptiedIn : View → Type 0
  EmptiedIn x = Emptied x.units x.confirmed x.denied x.wait x.responses

  abbrev pub BringsIn : Given → View → Type 0
  BringsIn g x = Brings g x.value x.octets x.vs x.nnr

  -- what holds in a mode
  abbrev pub Holding : Given → Mode → View → Type 0
  Holding g (offered b) x = KeptIn x × BringsIn g x × (e ≡ request_ad x.octets) × StillIn (waited f) x × Unheld b x.units x.wait
  Holding g queued x = KeptIn x × BringsIn g x × (e ≡ request_ad x.octets) × StillIn (some x.octets) x × (waited f ≡ none)
  Holding g serving x = KeptIn x × BringsIn g x × (is_request e ≡ false) × StillIn (waited f) x
  Holding g (answered true) x = KeptIn x × BringsIn g x × EmptiedIn x
  Holding g (answered false) x = KeptIn x × ToldIn x
  Holding g bad x = Unit {0}

  -- the event that brings it
  abbrev pub Asked : Given → List ℕ → Type 0
  Asked unit o = e ≡ request_ad o
  Asked surplus o = e ≡ request_ad o
  Asked word o = is_request e ≡ false
  Asked number o = is_request e ≡ false
  Asked width o = is_request e ≡ false
  Asked nothing o = is_request e ≡ false

  -- At the start.
  module _ (well : Well f) (x : Option FopEvent) (o : List ℕ) (v : ℕ) where
    abbrev begun : View
    begun = view (begin x o v f)

    still : StillIn (waited f) begun
    still = record { units = refl; undenied = refl; no_frame = refl; waiting = refl; quiet = λ is. refl }

    begins_offered : (g : Given) (b : Bool) → in_service (effective f) ≡ b → BringsIn g begun → e ≡ request_ad o → Holding g (start_offered b) begun
    begins_offered g true s h q = (well_kept f well, h, q, still, tt)
    begins_offered g false s h q = (well_kept f well, h, q, still, (ap fdus (well.none_sent s), well.none_waits s))

    begins_other : (g : Given) (b : Bool) → in_service (effective f) ≡ b → BringsIn g begun → is_request e ≡ false → Holding g (start_other b) begun
    begins_other g true s h q = (well_kept f well, h, q, still)
    begins_other g false s h q = (
      well_kept f well,
      h,
      record {
        none_sent = ap fdus (well.none_sent s);
        none_waits = well.none_waits s;
        units = ap fdus (well.none_sent s);
        asks = λ fs. subst (λ (u : Option (List ℕ)). Asks e u none [] fs []) (sym (well.none_waits s)) (silent q (λ is. refl));
      },
    )

    pub begins : (g : Given) → Asked g o → BringsIn g begun → Holding g (start g (in_service (effective f))) begun
    begins unit q h = begins_offered unit (in_service (effective f)) refl h q
    begins surplus q h = begins_offered surplus (in_service (effective f)) refl h q
    begins word q h = begins_other word (in_service (effective f)) refl h q
    begins number q h = begins_other number (in_service (effective f)) refl h q
    begins width q h = begins_other width (in_service (effective f)) refl h q
    begins nothing q h = begins_other nothing (in_service (effective f)) refl h q

  -- At the end, in the next state.
  module _ (g : Given) (w : Work) (s : State) (outside : T (unsuspended s w.fop.suspend_state)) where
    abbrev next : State
    next = effective_of s w.fop.suspend_state

    abbrev ended : Work
    ended = on_fop (set_state s w.fop) w

    -- in service
    serves : KeptIn (view w) → T (in_service next) → ToldIn (view w) → Flow e f ended
    serves h t k = record { well = kept_well ended.fop h outside no no; new = k.new; units = k.units; asks = k.asks }
      where
        no : {A : Type 0} → in_service next ≡ false → A
        no q = never (sym (is_true (in_service next) t) ∙ q)

    pub ends : (m : Mode) → T (fits m next) → Holding g m (view w) → Flow e f ended
    ends (offered b) t h = absurd t
    ends queued t h = serves h.0 t (still_told h.3 w.frames w.responses (queued_asks w.asked.octets h.2 h.4 w.responses h.3.quiet w.frames))
    ends serving t h = serves h.0 t (still_told h.3 w.frames w.responses (silent h.2 h.3.quiet))
    ends (answered true) t h = record {
      well = kept_well ended.fop h.0 outside (λ q. no_units w.fop.queues.sent_queue h.2.none_sent) (λ q. h.2.none_waits);
      new = [];
      units = append-nil (before f) ∙ h.2.units ∙ sym (append-nil (w.confirmed ++ w.denied)) ∙ ap (◌++◌ (w.confirmed ++ w.denied)) (sym h.2.none_sent);
      asks = subst (λ (u : Option (List ℕ)). Asks e (waited f) u w.responses w.frames []) (sym h.2.none_waits) (h.2.asks w.frames);
    }
    ends (answered false) t h = serves h.0 t h.1
    ends bad t h = absurd t
