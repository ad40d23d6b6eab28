-- The rows of table 7-8 that lie together, as choices by one condition after the other, with the event at the end of each way. x is
-- N(R) - NN(R), and zero where N(R) = NN(R).
use Rattle.std.specs.Prelude.{ℕ, Bool, leb, ltb, eqb}
use Rattle.base.specs.Choice.{pick, must}
use Rattle.clcw.specs.declared.Clcw.{Clcw}
use Rattle.fop.specs.declared.Event.{Event as FopEvent}
use Rattle.fop.specs.declared.Event.TheVariants.{E1, E2, E3, E4, E5, E6, E7, E8, E9, E10, E11, E12, E25, E26, E27, E28, E30, E31, E32, E33, E34, E35, E36, E37, E38, E39, E40, E101, E102, E103}
use Rattle.fop.specs.Limits.{largest_k, largest_transmission_limit, largest_number, largest_timeout_type}
use Rattle.sender_values.specs.declared.SenderState.{SenderState}

-- N(R) = V(S): E1 to E4
unfoldable pub all_acknowledged : Clcw → ℕ → FopEvent
all_acknowledged w x = pick w.retransmit E4 (pick w.wait E3 (pick (eqb x 0) E1 E2))

-- N(R) before V(S), no retransmission asked: E5 to E7
unfoldable pub some_acknowledged : Clcw → ℕ → FopEvent
some_acknowledged w x = pick w.wait E7 (pick (eqb x 0) E5 E6)

-- N(R) = NN(R), retransmission asked, Transmission_Limit not 1: E10 to E12 and E103, by Transmission_Count < Transmission_Limit
unfoldable pub none_acknowledged : Clcw → Bool → FopEvent
none_acknowledged w short = pick short (pick w.wait E11 E10) (pick w.wait E103 E12)

-- N(R) before V(S), retransmission asked: E8 to E12 and E101 to E103
unfoldable pub retransmission_asked : SenderState → Clcw → ℕ → FopEvent
retransmission_asked s w x =
    pick (eqb s.settings.transmission_limit 1) (pick (eqb x 0) E102 E101)
    (pick (eqb x 0) (none_acknowledged w (ltb s.variables.transmission_count s.settings.transmission_limit))
    (pick w.wait E9 E8))

-- Initiate AD service with Unlock (3): E25, E26; with Set V(R) (4): E27, E28, E40
unfoldable pub initiate : ℕ → ℕ → Bool → FopEvent
initiate d v ready = pick (eqb d 3) (pick ready E25 E26) (must (leb v largest_number) E40 (pick ready E27 E28))

-- Resume AD service: E30 to E34
unfoldable pub resume : ℕ → FopEvent
resume suspended = pick (eqb suspended 0) E30 (pick (eqb suspended 1) E31 (pick (eqb suspended 2) E32 (pick (eqb suspended 3) E33 E34)))

-- Set V(S) (7): E35, E40; Set K (8): E36, E40
unfoldable pub set_number : ℕ → ℕ → FopEvent
set_number d v = pick (eqb d 7) (must (leb v largest_number) E40 E35) (must (leb 1 v) E40 (must (leb v largest_k) E40 E36))

-- Set timer (9): E37, E40; Set transmission limit (10): E38, E40; Set Timeout_Type (11): E39, E40. v is at most 65535, the largest timer.
unfoldable pub set_limit : ℕ → ℕ → FopEvent
set_limit d v = pick (eqb d 11) (must (leb v largest_timeout_type) E40 E39) (must (leb 1 v) E40 (pick (eqb d 9) E37 (must (leb v largest_transmission_limit) E40 E38)))
