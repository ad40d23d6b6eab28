-- The octets of an answer lose nothing: what they tell is what the answer tells (`answer_back`). Each number has its inverse, and the frame
-- handed down is never larger than the two octets of its length can tell (`down_fits`).
use Rattle.std.specs.Prelude.{Option, None, Some}
use mathlib.Core.Path.{◌≡◌, refl, ap}
use mathlib.Core.Bool.{Bool, true, false}
use mathlib.Core.List.{List, [], ◌∷◌}
use Prim.Native.Nat.{ℕ, ◌+◌, ◌*◌, ◌/◌, ◌%◌, ◌≤◌}
use native.Mathlib.Omega.{arith}
use borrow.Author.Tests.{leb-true}
use lib.Dec.{leb}
use lib.ListN.{length, get_or}
use Rattle.base.specs.Choice.{must}
use Rattle.base.specs.Flags.{bit_of, is_set}
use Rattle.base.specs.Limits.{largest_frame, largest_unit, largest_spacecraft, largest_channel}
use Rattle.base.specs.Outcome.{Outcome, Outcome.done, Outcome.refused, answer, count_of}
use Rattle.base.specs.Outcome as outcome
use Rattle.frame.specs.Frame.{raw_frame, raw_writing, unlock_command, set_vr_command}
use Rattle.frame.proofs.Lengths.{length_frame}
use Rattle.sender_values.specs.Limits.{largest_responses}
use Rattle.fop.specs.Table.{event_of, as_code}
use Rattle.fop.specs.declared.Event.{Event as FopEvent}
use Rattle.fop.specs.declared.Alert.{Alert}
use Rattle.fop.specs.declared.Alert.TheVariants as alert
use Rattle.fop.proofs.Numbers.{number_event}
use Rattle.sender_values.specs.declared.Handed.{Handed}
use Rattle.sender_values.specs.declared.Handed.TheVariants as handed
use Rattle.sender_values.specs.declared.SenderState.{SenderState}
use Rattle.sender_values.specs.declared.Settings.{Settings}
use Rattle.sender_values.specs.declared.Work.{Work}
use Rattle.sender.specs.Answers.{answered, refusing, concluded}
use Rattle.sender_frames.specs.Frames.{handed_writing}
use Rattle.sender.specs.declared.Answer.{Answer}
use Rattle.sender.specs.declared.FrameKind.{FrameKind}
use Rattle.sender.specs.declared.FrameKind.TheVariants as kind
use Rattle.sender_octets.specs.Answer.{alert_number, alert_numbered, kind_number, kind_numbered, number_if, event_numbered, octets_of_answer, told_by, answer_in}
use Rattle.sender_octets.proofs.Back.{state_back}

-- what the answer's struct and the frame's limit see to: four responses, and a frame of largest_frame octets at the most. That the other numbers
-- fit their octets is not needed: none is cut on the way, which the contract of `octets_of_answer` says
pub record Fits (a : Answer) : Type 0 where
  pub numbers : length a.responses.numbers ≡ largest_responses
  pub down : a.down ≤ largest_frame

alert_back : (x : Option Alert) → alert_numbered (alert_number x) ≡ x
alert_back None = refl
alert_back (Some alert.Synch) = refl
alert_back (Some alert.Clcw) = refl
alert_back (Some alert.Limit) = refl
alert_back (Some alert.Nnr) = refl
alert_back (Some alert.Lockout) = refl
alert_back (Some alert.T1) = refl
alert_back (Some alert.Term) = refl
alert_back (Some alert.Llif) = refl

kind_back : (x : Option FrameKind) → kind_numbered (kind_number x) ≡ x
kind_back None = refl
kind_back (Some kind.Ad) = refl
kind_back (Some kind.Bd) = refl
kind_back (Some kind.Unlock) = refl
kind_back (Some kind.SetVr) = refl

event_back : (x : Option FopEvent) → event_numbered (number_if x) ≡ x
unfolding event_of
event_back None = refl
event_back (Some e) = ap as_code (number_event e)

bit_back : (b : Bool) → is_set (bit_of b) 1 ≡ b
bit_back true = refl
bit_back false = refl

down_back : (n : ℕ) → n ≤ largest_frame → n / 256 % 256 * 256 + n % 256 ≡ n
down_back n h = omega arith

-- a list of four is its four elements
four : (s : List ℕ) → length s ≡ largest_responses → get_or s 0 0 ∷ get_or s 1 0 ∷ get_or s 2 0 ∷ get_or s 3 0 ∷ [] ≡ s
four [] e = absurd (omega arith)
four (a ∷ []) e = absurd (omega arith)
four (a ∷ b ∷ []) e = absurd (omega arith)
four (a ∷ b ∷ c ∷ []) e = absurd (omega arith)
four (a ∷ b ∷ c ∷ d ∷ []) e = refl
four (a ∷ b ∷ c ∷ d ∷ x ∷ s) e = absurd (omega arith)

pub answer_back : (a : Answer) → Fits a → answer_in (octets_of_answer a) ≡ told_by a
unfolding octets_of_answer answer_in
answer_back a h =
    simp (
      event_back a.event,
      state_back a.state,
      down_back a.down h.down,
      bit_back a.abort,
      alert_back a.alert,
      bit_back a.suspended,
      four a.responses.numbers h.numbers,
      kind_back a.kind,
    )

-- what is written is a frame within its limit: a check that fails writes nothing
checked : (b : Bool) (number : ℕ) (on : Outcome (Unit {0})) → (b ≡ true → count_of (answer on) ≤ largest_frame)
    → count_of (answer (must b (refused number 0) on)) ≤ largest_frame
checked true number on h = h refl
checked false number on h = omega arith

written_fits : (bypass control number spacecraft channel : ℕ) (field : List ℕ) (room : ℕ)
    → count_of (answer (raw_writing bypass control number spacecraft channel field room)) ≤ largest_frame
unfolding raw_writing
written_fits bypass control number spacecraft channel field room =
    checked (leb 1 (length field)) 10 _
    (λ a. checked (leb (length field) largest_unit) 10 _
    (λ l. checked (leb spacecraft largest_spacecraft) 12 _
    (λ b. checked (leb channel largest_channel) 12 _
    (λ c. checked (leb (length field + 7) room) 11 (done (raw_frame bypass control number spacecraft channel field) tt)
    (λ d. omega (arith, leb-true (length field) largest_unit l, length_frame bypass control number spacecraft channel field))))))

handed_fits : (g : Settings) (h : Option Handed) (u : List ℕ) (lent : ℕ) → count_of (answer (handed_writing g h u lent)) ≤ largest_frame
unfolding handed_writing
handed_fits g None u lent = omega arith
handed_fits g (Some (handed.Ad n i)) u lent = written_fits 0 0 n g.spacecraft g.channel u lent
handed_fits g (Some handed.Bd) u lent = written_fits 1 0 0 g.spacecraft g.channel u lent
handed_fits g (Some handed.Unlock) u lent = written_fits 1 1 0 g.spacecraft g.channel unlock_command lent
handed_fits g (Some (handed.SetVr n)) u lent = written_fits 1 1 0 g.spacecraft g.channel (set_vr_command n) lent

-- an answer tells the count of octets written, none where it refuses
module _ (event : Option FopEvent) (s : SenderState) (w : Work) (lengths : List ℕ) where
  down_written : (x : outcome.Answer (Unit {0})) → (concluded event s w lengths x).down ≡ count_of x
  unfolding answered refusing
  down_written (outcome.Answer.done count more) = refl
  down_written (outcome.Answer.refused number place) = refl

  pub down_fits : (g : Settings) (h : Option Handed) (u : List ℕ) (lent : ℕ) → (concluded event s w lengths (answer (handed_writing g h u lent))).down ≤ largest_frame
  down_fits g h u lent = omega (arith, down_written (answer (handed_writing g h u lent)), handed_fits g h u lent)
