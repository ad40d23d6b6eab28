-- What the readers refuse, at the tables: a refused frame is E9, which keeps the receiver and hands no unit out; octets refused as a control word
-- keep the sender, with nothing but the refusal in its answer.
use mathlib.Core.Logic.{◌⊎◌, inl, inr}
use mathlib.Core.Path.{◌≡◌, refl, sym, ap, ◌∙◌}
use mathlib.Core.Bool.{Bool, true, false, false≢true}
use mathlib.Core.List.{List}
use mathlib.Core.Option.{none, some}
use Prim.Native.Nat.{ℕ}
use native.Mathlib.Omega.{arith}
use lib.Dec.{eqb}
use Rattle.base.specs.Choice.{pick}
use Rattle.frame.specs.Answers.{FrameReading, reading_of, part_of}
use Rattle.frame.specs.declared.Kind.{Kind}
use Rattle.frame.specs.declared.Kind.TheVariants as kind
use Rattle.std.specs.Prelude.{Some, None, Ok, Err}
use Rattle.std.specs.Prelude as code
use Rattle.base.specs.Refusals.{refusal_number}
use Rattle.base.specs.declared.Refusal.{Refusal}
use Rattle.base.specs.declared.Refusal.TheVariants.{Length}
use Rattle.clcw.specs.Answers as clcw
use Rattle.clcw.proofs.Back.{Case, Case.not_four, Case.invalid, Case.address, Case.ours, reading_cases}
use Rattle.fop.specs.Units.{Own, Refused, other, are_octets, word_received, read_word}
use Rattle.fop.specs.Variables.{Fop}
use Rattle.fop.specs.Events.{word_arrives}
use Rattle.fop.specs.Answers.{refused, judged, sender_refusal, sender_answer, sender_next}
use Rattle.farm.proofs.Units.{no_unit_lem}
use Rattle.farm.specs.declared.AcceptedUnit.{AcceptedUnit}
use Rattle.farm.specs.declared.Event.TheVariants.{E9}
use Rattle.receiver.specs.Channel as channel
use Rattle.receiver.specs.Receiver as farm
use Rattle.receiver.specs.declared.Receiver.{Receiver}
use Rattle.receiver.specs.declared.Received.{Received}
use Rattle.session.specs.Frames.{carried, by_reading, read}
use Rattle.session.specs.Receiver.{frame_arrives, ReceiverAnswer, handed_out, frame_answer, receiver_next, receiver_answer}
use Rattle.session.specs.Channels.{is_refused}
use Rattle.session.proofs.Refusals.{e9}

-- a reading that the histories see as refused
carries : (k : Kind) (o : List ℕ) → is_refused (carried k o) ≡ false
carries (kind.Ad ns) o = refl
carries kind.Bd o = refl
carries kind.Unlock o = refl
carries (kind.SetVr v) o = refl

refusing : (x : FrameReading) (o : List ℕ) → is_refused (by_reading x o) ≡ true → (refusal : Refusal) × (x ≡ Err refusal)
refusing (Ok fields) o h = absurd (false≢true (sym (carries fields.kind o) ∙ h))
refusing (Err refusal) o h = (refusal, refl)

pub refused_reading : (own : Own) (s : List ℕ) → is_refused (read own s) ≡ true
    → (refusal : Refusal) × (reading_of s own.spacecraft own.channel ≡ Err refusal)
unfolding read
refused_reading own s h = refusing (reading_of s own.spacecraft own.channel) _ h

-- with its number
number_kept : (x : FrameReading) (o : List ℕ) (n : ℕ) → by_reading x o ≡ Refused n → (refusal : Refusal) × ((x ≡ Err refusal) × (refusal_number refusal ≡ n))
number_kept (Ok fields) o n h = absurd (false≢true (sym (carries fields.kind o) ∙ ap is_refused h))
number_kept (Err refusal) o n h = let z : refusal_number refusal ≡ n = cc in (refusal, (refl, z))

pub refused_number : (own : Own) (s : List ℕ) (n : ℕ) → read own s ≡ Refused n
    → (refusal : Refusal) × ((reading_of s own.spacecraft own.channel ≡ Err refusal) × (refusal_number refusal ≡ n))
unfolding read
refused_number own s n h = number_kept (reading_of s own.spacecraft own.channel) _ n h

-- the receiver's answer to it
abbrev pub discarded : ℕ → ReceiverAnswer
discarded n = record { refusal = n; event = some E9; unit = none }

module _ (r : Receiver) (s : List ℕ) (refusal : Refusal) (e : reading_of s r.farm.spacecraft r.farm.channel.number ≡ Err refusal) where
  abbrev n : ℕ
  n = refusal_number refusal

  received : farm.receive_of r s ≡ farm.answered (Some refusal) E9 0 r
  unfolding farm.receive_of farm.by_reading
  received = ap (farm.by_reading r) e

  pub frame_next_lem : receiver_next (frame_arrives s) r ≡ r
  unfolding receiver_next
  frame_next_lem = ap (λ (x : Received). x.next) received ∙ e9 (Some refusal) r

  pub frame_answer_lem : receiver_answer (frame_arrives s) r ≡ discarded n
  unfolding receiver_answer farm.unit_part farm.answered channel.answered
  frame_answer_lem =
      let part : List ℕ = part_of s r.farm.spacecraft r.farm.channel.number in
      ap (λ (x : Received). frame_answer x (farm.part_for x.unit part)) received
      ∙ ap (λ (u : code.Option AcceptedUnit). record { refusal = n; event = some E9; unit = handed_out u (farm.part_for u part) })
      (no_unit_lem E9 r.farm.channel.variables.state refl refl)

-- a word that is refused, is so with 7 or 10
number_of : (t : Bool) (s : List ℕ) (channel r : ℕ) → word_received (pick t (clcw.reading_of s channel) (Err Length)) ≡ other r → (r ≡ 7) ⊎ (r ≡ 10)
number_of false s channel r h = let z : 10 ≡ r = cc in inr (sym z)
number_of true s channel r h = by (reading_cases s channel)
  where
    by : Case s channel → (r ≡ 7) ⊎ (r ≡ 10)
    by (not_four four e) = let z : 10 ≡ r = cc (ap word_received e, h) in inr (sym z)
    by (invalid four v e) = let z : ◌≡◌ {A = ℕ} 0 1 = cc (ap word_received e, h) in absurd (omega arith)
    by (address four v c e) = let z : 7 ≡ r = cc (ap word_received e, h) in inl (sym z)
    by (ours four v c e) = let z : ◌≡◌ {A = ℕ} 0 1 = cc (ap word_received e, h) in absurd (omega arith)

module _ (own : Own) (s : List ℕ) (r : ℕ) (e : read_word own s ≡ other r) (lent : ℕ) (f : Fop) where
  pub word_number : (r ≡ 7) ⊎ (r ≡ 10)
  unfolding read_word
  word_number = number_of (are_octets s) s own.channel r e

  not_zero : (r ≡ 7) ⊎ (r ≡ 10) → eqb r 0 ≡ false
  not_zero (inl h) = rw h
  not_zero (inr h) = rw h

  pub word_refused : sender_refusal own (word_arrives s) lent f ≡ r
  unfolding sender_refusal judged
  word_refused = rw (e, not_zero word_number)

  pub refuses : eqb (sender_refusal own (word_arrives s) lent f) 0 ≡ false
  refuses = rw word_refused (not_zero word_number)

  pub word_next : sender_next own (word_arrives s) lent f ≡ f
  unfolding sender_next
  word_next = rw refuses

  pub word_answer_lem : sender_answer own (word_arrives s) lent f ≡ refused r f
  unfolding sender_answer
  word_answer_lem = rw (refuses, word_refused)
