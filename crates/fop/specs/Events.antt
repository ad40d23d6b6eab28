-- Which event of table 7-8 it is: its conditions as lists of (condition, event), of which the first that holds counts.
use Rattle.std.specs.Prelude.{Bool, true, false, not, ◌&&◌, ◌||◌, List, [], ◌∷◌, ℕ, ◌-◌, leb, ltb, eqb}
use Rattle.std.proofs.Math.Option.{Option, none, some}
use Rattle.base.specs.Choice.{pick}
use Rattle.base.specs.Modulo.{offset}
use Rattle.fop.specs.declared.Lower.{Lower}
use Rattle.fop.specs.declared.Lower.TheVariants.{AdAccept, AdReject, BcAccept, BcReject, BdAccept, BdReject}
use Rattle.fop.specs.Limits.{largest_k, largest_transmission_limit, largest_timer, largest_number, largest_timeout_type}
use Rattle.fop.specs.Units.{Own, Word, WordReceived, valid, invalid, other, read_word}
use Rattle.fop.specs.declared.Event.{Event as FopEvent}
use Rattle.fop.specs.declared.Event.TheVariants.{E1, E2, E3, E4, E5, E6, E7, E8, E9, E10, E11, E12, E13, E14, E15, E16, E17, E18, E19, E20, E21, E22, E23, E24, E25, E26, E27, E28, E29, E30, E31, E32, E33, E34}
use Rattle.fop.specs.declared.Event.TheVariants.{E35, E36, E37, E38, E39, E40, E41, E42, E43, E44, E45, E46, E101, E102, E103, E104}
use Rattle.fop.specs.Variables.{Fop, Work, set_clock, begin}
use Rattle.fop.specs.Machine.{fop_do}

-- a condition of the table, and its event
pub data Line : Type 0 where
  when : Bool → FopEvent → Line

-- the event of the first line that holds, else e
abbrev pub first : List Line → FopEvent → FopEvent
first [] e = e
first (when c x ∷ more) e = pick c x (first more e)

-- what the table asks of a valid control word, with x = N(R) - NN(R) and q = V(S) - NN(R) modulo 256: its flags; N(R) not from NN(R) to V(S)
-- (x > q); N(R) = V(S) (x = q); N(R) <> NN(R) (x not 0); and of the sender: Transmission_Limit = 1, Transmission_Count < Transmission_Limit
pub record Seen : Type 0 where
  pub lockout : Bool
  pub retransmit : Bool
  pub wait : Bool
  pub invalid : Bool
  pub all : Bool
  pub new : Bool
  pub once : Bool
  pub short : Bool

-- clauses 7.9.2.2 and 7.9.2.3: what a word is to a sender, numbers compared modulo 256
abbrev pub seen : Word → Fop → Seen
seen w f = record {
  lockout = w.lockout;
  retransmit = w.retransmit;
  wait = w.wait;
  invalid = ltb (offset f.numbers.vs f.numbers.nnr) (offset w.nr f.numbers.nnr);
  all = eqb (offset w.nr f.numbers.nnr) (offset f.numbers.vs f.numbers.nnr);
  new = not (eqb (offset w.nr f.numbers.nnr) 0);
  once = eqb f.preset.transmission_limit 1;
  short = ltb f.clock.transmission_count f.preset.transmission_limit;
}

-- the rows of a valid control word, in the table's order but for E14 and E13, which come first; each line has passed those above it
abbrev pub word_lines : Seen → List Line
word_lines s =
    when s.lockout E14
    ∷ when s.invalid E13
    ∷ when (s.all && not s.retransmit && not s.wait && not s.new) E1
    ∷ when (s.all && not s.retransmit && not s.wait) E2
    ∷ when (s.all && not s.retransmit) E3
    ∷ when s.all E4
    ∷ when (not s.retransmit && not s.wait && not s.new) E5
    ∷ when (not s.retransmit && not s.wait) E6
    ∷ when (not s.retransmit) E7
    ∷ when (s.once && s.new) E101
    ∷ when s.once E102
    ∷ when (s.new && not s.wait) E8
    ∷ when s.new E9
    ∷ when (s.short && not s.wait) E10
    ∷ when s.short E11
    ∷ when (not s.wait) E12
    ∷ []

-- the event of a valid control word
unfoldable pub word_event : Seen → FopEvent
word_event s = first (word_lines s) E103

-- a valid control word, with its N(R)
unfoldable pub fop_word : Word → Fop → Work
fop_word w f = fop_do (word_event (seen w f)) [] w.nr f

-- an AD request, by the Wait_Queue
abbrev pub is_empty : Option (List ℕ) → Bool
is_empty none = true
is_empty (some o) = false

-- E19 or E20
unfoldable pub fop_ad : List ℕ → Fop → Work
fop_ad o f = fop_do (first (when (is_empty f.queues.wait_queue) E19 ∷ []) E20) o 0 f

-- a BD request, by the BD_Out_Flag
unfoldable pub fop_bd : List ℕ → Fop → Work
fop_bd o f = fop_do (first (when f.out.bd E21 ∷ []) E22) o 0 f

-- the timer expires: Transmission_Count < Transmission_Limit or not, Timeout_Type 0 or 1
abbrev pub expiry_lines : Bool → Bool → List Line
expiry_lines short alerting = when (short && alerting) E16 ∷ when short E104 ∷ when alerting E17 ∷ []

-- E16 and E17, or E104 and E18
unfoldable pub fop_expiry : Fop → Work
fop_expiry f =
    fop_do (first (expiry_lines (ltb f.clock.transmission_count f.preset.transmission_limit) (eqb f.preset.timeout_type 0)) E18) [] 0 f

-- "A tick lowers a running timer by one; the tick that makes it zero is the expiry."
unfoldable pub fop_tick : Fop → Work
fop_tick f =
    let g : Fop = set_clock (f.clock.timer - 1) f.clock.transmission_count f in
    pick (eqb f.clock.timer 1) (fop_expiry g) (begin none [] 0 g)

-- Receive Response from Lower Layer
abbrev pub lower_event : Lower → FopEvent
lower_event AdAccept = E41
lower_event AdReject = E42
lower_event BcAccept = E43
lower_event BcReject = E44
lower_event BdAccept = E45
lower_event BdReject = E46

-- a reject of the lower layer: of an AD, a BC or a BD frame alike
abbrev pub is_reject : Lower → Bool
is_reject AdAccept = false
is_reject AdReject = true
is_reject BcAccept = false
is_reject BcReject = true
is_reject BdAccept = false
is_reject BdReject = true

-- E41 to E46
unfoldable pub fop_lower : Lower → Fop → Work
fop_lower l f = fop_do (lower_event l) [] 0 f

-- document 01: "Directives by number of the directive, 1 to 11: Initiate without check, with CLCW check, with Unlock, with Set V(R);
-- Terminate; Resume; Set V(S); Set K; Set timer; Set transmission limit; Set Timeout_Type. Any other number, or a value outside its limit,
-- is the invalid directive". A value that a directive has no use for is not looked at.
abbrev pub valid_directive : ℕ → ℕ → Bool
valid_directive d v =
    leb 1 d && leb d 11
    && pick (eqb d 4 || eqb d 7) (leb v largest_number)
    (pick (eqb d 8) (leb 1 v && leb v largest_k)
    (pick (eqb d 9) (leb 1 v && leb v largest_timer)
    (pick (eqb d 10) (leb 1 v && leb v largest_transmission_limit) (pick (eqb d 11) (leb v largest_timeout_type) true))))

-- Unlock and Set V(R) by the BC_Out_Flag, Resume by Suspend_State
abbrev pub directive_lines : ℕ → ℕ → Fop → List Line
directive_lines d v f =
    when (not (valid_directive d v)) E40
    ∷ when (eqb d 1) E23
    ∷ when (eqb d 2) E24
    ∷ when (eqb d 3 && f.out.bc) E25
    ∷ when (eqb d 3) E26
    ∷ when (eqb d 4 && f.out.bc) E27
    ∷ when (eqb d 4) E28
    ∷ when (eqb d 5) E29
    ∷ when (eqb d 6 && eqb f.suspend_state 0) E30
    ∷ when (eqb d 6 && eqb f.suspend_state 1) E31
    ∷ when (eqb d 6 && eqb f.suspend_state 2) E32
    ∷ when (eqb d 6 && eqb f.suspend_state 3) E33
    ∷ when (eqb d 6) E34
    ∷ when (eqb d 7) E35
    ∷ when (eqb d 8) E36
    ∷ when (eqb d 9) E37
    ∷ when (eqb d 10) E38
    ∷ []

-- the event of a directive by its number and value
unfoldable pub directive_event : ℕ → ℕ → Fop → FopEvent
directive_event d v f = first (directive_lines d v f) E39

-- E23 to E40
unfoldable pub fop_directive : ℕ → ℕ → Fop → Work
fop_directive d v f = fop_do (directive_event d v f) [] v f

-- a word of another channel is no event
unfoldable pub fop_received : WordReceived → Fop → Work
fop_received (valid w) f = fop_word w f
fop_received invalid f = fop_do E15 [] 0 f
fop_received (other r) f = begin none [] 0 f

-- what the sender is asked; a directive by its number and value, a control word by its octets
pub data SenderEvent : Type 0 where
  request_ad request_bd : List ℕ → SenderEvent
  tick : SenderEvent
  lower : Lower → SenderEvent
  directive : ℕ → ℕ → SenderEvent
  word_arrives : List ℕ → SenderEvent

-- what the table does, whether or not the event is then refused
unfoldable pub work : Own → SenderEvent → Fop → Work
work own (request_ad o) f = fop_ad o f
work own (request_bd o) f = fop_bd o f
work own tick f = fop_tick f
work own (lower l) f = fop_lower l f
work own (directive d v) f = fop_directive d v f
work own (word_arrives s) f = fop_received (read_word own s) f
