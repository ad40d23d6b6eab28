-- Where what holds beyond demand 3 stops, by witnesses of the table machines. A recorder that keeps one unit more than NW locks the receiver out: by a witness at K 1 and W 2
-- (`locked_out_lem`; at every setting: Replayed). An invalid control word is no noise but E15, an alert; a control word that was altered into another valid one confirms what was never accepted;
-- a type-B frame that stays is accepted twice.
use mathlib.Core.Logic.{inl, inr}
use mathlib.Core.Path.{◌≡◌, refl, ap, sym, subst, ◌∙◌}
use mathlib.Core.Bool.{true, false, true≢false}
use mathlib.Core.List.{List, [], ◌∷◌}
use mathlib.Core.Option.{some}
use Prim.Native.Nat.{ℕ, ◌+◌, ◌≤◌}
use native.Mathlib.Omega.{arith}
use lib.ListN.{length}
use Rattle.fop.specs.Units.{invalid, read_word, word_octets}
use Rattle.fop.specs.declared.Event.{Event as FopEvent}
use Rattle.fop.specs.declared.Alert.TheVariants.{Clcw}
use Rattle.std.specs.Prelude.{Some}
use Rattle.fop.specs.declared.State.TheVariants.{S6}
use Rattle.fop.specs.declared.Lower.TheVariants.{AdAccept}
use Rattle.fop.specs.Events.{word_arrives}
use Rattle.fop.specs.Answers.{sender_answer}
use Rattle.session.specs.Ends.{Settings, tables}
use Rattle.session.specs.Session.{Linked, begins, ad_request, bd_request, lower_says, word_made, word_in, frame_in, to_sender, frame_come, run}
use Rattle.session.specs.Claims.{Claims}
use Rattle.session.specs.Stronger.{Sub, none_left, skips, takes, LimitOnly}
use Rattle.session.specs.Channels.{LinkEvent, demanded, frame_again, negative_window, stays, link_step, link_run}
use Rattle.session.proofs.Trace.{computing, settings, after}

-- K 1 and W 2, so NW is 1, and a recorder of two units
abbrev narrow : Settings
narrow = record {
  n = 254;
  k = 1;
  w = 2;
  buffers = 2;
  t1 = 9;
  limit = 3;
  timeout_type = 0;
  own = record { spacecraft = 5; channel = 9 };
  count = 1;
  counter = 0;
}

-- two units are accepted one after the other; then the recorder repeats the first, which is two before the number expected
abbrev replay : List LinkEvent
replay =
    demanded (ad_request (1 ∷ []) 256) ∷ demanded (ad_request (2 ∷ []) 256) ∷ demanded (lower_says AdAccept 256) ∷ demanded frame_in ∷ demanded (word_made 4)
    ∷ demanded (word_in 256) ∷ demanded frame_in ∷ frame_again 0 ∷ demanded frame_in ∷ []

abbrev replayed : ℕ → Linked (tables narrow)
replayed kept = link_run narrow kept (tables narrow) replay (begins (tables narrow))

pub locked_out_lem : (replayed (negative_window narrow + 1)).history.locked_out ≡ true
unfolding computing link_run link_step
locked_out_lem = refl

pub refuted_recorder : Claims narrow (tables narrow) (replayed (negative_window narrow + 1)) (replayed (negative_window narrow + 1)) → ⊥
refuted_recorder c = true≢false (sym locked_out_lem ∙ c.never.0)

-- the other witnesses
abbrev set : Settings
set = settings 3 2 9 3

-- an invalid control word: of type 1 (its first bit)
abbrev invalid_word : List ℕ
invalid_word = 128 ∷ 0 ∷ 0 ∷ 0 ∷ []

abbrev start : Linked (tables set)
start = begins (tables set)

-- octets that arrive at the sender in place of a word
abbrev word_comes : List ℕ → Linked (tables set) → Linked (tables set)
word_comes o σ = to_sender set (tables set) (word_arrives o) 256 σ.words σ

pub invalid_alerts : (read_word set.own invalid_word ≡ invalid)
    × ((sender_answer set.own (word_arrives invalid_word) 256 start.sender).event ≡ some FopEvent.E15)
    × ((sender_answer set.own (word_arrives invalid_word) 256 start.sender).alert ≡ Some Clcw)
    × ((word_comes invalid_word start).sender.state ≡ S6)
unfolding computing
invalid_alerts = (refl, refl, refl, refl)

pub refuted_invalid : LimitOnly set.limit (sender_answer set.own (word_arrives invalid_word) 256 start.sender).alert → ⊥
refuted_invalid h = no_clcw (subst (LimitOnly set.limit) invalid_alerts.2 h)
  where
    no_clcw : LimitOnly set.limit (Some Clcw) → ⊥
    no_clcw (inl e) = let z : ◌≡◌ {A = ℕ} 0 1 = cc in omega arith
    no_clcw (inr h) = omega (arith, h.1)

-- a unit is sent and has not arrived; a word that reports the next number arrives
abbrev altered : Linked (tables set)
altered = word_comes (word_octets set.own (record { lockout = false; wait = false; retransmit = false; counter = 0; nr = 255 })) (after set (tables set) (ad_request (1 ∷ []) 256 ∷ []))

pub refuted_altered : Claims set (tables set) altered altered → ⊥
unfolding computing
refuted_altered c = omega (arith, ap length c.truly.1)

-- a BD frame that stays
abbrev sent_bd_lem : Linked (tables set)
sent_bd_lem = after set (tables set) (bd_request (1 ∷ []) 256 ∷ [])

abbrev bd_again : Linked (tables set)
bd_again = run set (tables set) (frame_in ∷ []) (frame_come set (tables set) (stays sent_bd_lem.frames) sent_bd_lem)

sub_length : {A : Type 0} {a b : List A} → Sub a b → length a ≤ length b
sub_length none_left = omega arith
sub_length (skips p) = omega (arith, sub_length p)
sub_length (takes p) = omega (arith, sub_length p)

pub refuted_bd : Sub bd_again.history.accepted_bd bd_again.history.sent_bd → ⊥
unfolding computing
refuted_bd h = omega (arith, sub_length h)
