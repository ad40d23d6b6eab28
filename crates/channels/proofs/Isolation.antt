-- Isolation: an event leaves every other channel's record, the count and the numbers (`isolated`), each refusal is told whole and changes no record
-- (`refusals`). By the cases of proofs/Turns: one record is changed for another of its number, and what the channel answers is a function of its record,
-- the kind and the room.
use Rattle.std.specs.Prelude.{None}
use mathlib.Core.Path.{◌≡◌, refl, sym, ap, ◌∙◌}
use mathlib.Core.Bool.{Bool, true, false}
use mathlib.Core.List.{List, []}
use Prim.Native.Nat.{ℕ}
use native.Mathlib.Omega.{arith}
use lib.ListN.{length, length-set}
use Rattle.base.specs.Octets.{Octets}
use Rattle.base.proofs.Tests.{apart}
use Rattle.farm.specs.declared.Event.TheVariants.{E10}
use Rattle.frame.specs.Answers.{part_of}
use Rattle.frame.specs.Frame.{refusal_of, kind_of}
use Rattle.frame.specs.declared.Kind.{Kind}
use Rattle.receiver.specs.declared.Channel.{Channel}
use Rattle.receiver.specs.declared.ChannelAnswer.{ChannelAnswer}
use Rattle.receiver.specs.Channel.{answered, arrived}
use Rattle.receiver.specs.Receiver.{part_for}
use Rattle.channels.specs.Table.{is_in, place_of, table_holds, has_room, no_channel, record_of, Turn, nothing, turned, records_after, addressed, frame_turn, unit_part, release_turn, word_writing}
use Rattle.channels.specs.Isolation.{ours, Event, frame_arrives, release_buffer, report_word, named, channel_of, Told, turn, told_of, refusal, after, numbers, Isolated, Refusals}
use Rattle.channels.proofs.RecordLaws.{others_set, numbers_set}
use Rattle.channels.proofs.Addresses.{addressed_there, absent_seven, addressed_absent}
use Rattle.channels.proofs.Turns.{nothing_after, given_back, FrameCase, ReleaseCase, frame_case, release_case}

-- a channel's answer has its number
pub arrived_number : (room : Bool) (c : Channel) (kind : Kind) → (arrived room c kind).next.number ≡ c.number
unfolding arrived answered
arrived_number room c kind = refl

pub given_number : (c : Channel) → (given_back c).next.number ≡ c.number
unfolding answered
given_number c = refl

pub given_event : (c : Channel) → (given_back c).event ≡ E10
unfolding answered
given_event c = refl

-- what one turn leaves: nothing changed, or the record of n changed for another of its number
pub record Leaves (n : ℕ) (t : Turn) (cs : List Channel) : Type 0 where
  pub others : (m : ℕ) → (m ≡ n → ⊥) → record_of m (records_after t cs) ≡ record_of m cs
  pub count : length (records_after t cs) ≡ length cs
  pub channels : numbers (records_after t cs) ≡ numbers cs
  pub refused : (t.refusal ≡ 0 → ⊥) → records_after t cs ≡ cs
  pub told : t.refusal ≡ 0 → t.channel ≡ n

leaves_nothing : (n refusal event : ℕ) (cs : List Channel) → (refusal ≡ 0 → ⊥) → Leaves n (nothing refusal event cs) cs
leaves_nothing n refusal event cs d =
    let k = nothing_after refusal event cs in record {
      others = λ m other. ap (record_of m) k;
      count = ap length k;
      channels = ap numbers k;
      refused = λ z. k;
      told = λ z. absurd (d z);
    }

leaves_turned : (n : ℕ) (a : ChannelAnswer) (cs : List Channel) → is_in n cs ≡ true → a.next.number ≡ (record_of n cs).number → Leaves n (turned n a cs) cs
leaves_turned n a cs here number = record {
  others = others_set n cs here a.next number;
  count = length-set cs (place_of n cs) a.next;
  channels = numbers_set n cs here a.next number;
  refused = λ z. absurd (z refl);
  told = λ z. refl;
}

module _ (spacecraft pool : ℕ) (cs : List Channel) where
  frame_leaves_lem : (octets : List ℕ) → Octets octets → Leaves (named octets) (frame_turn spacecraft pool cs octets) cs
  frame_leaves_lem octets lent = go (frame_case spacecraft pool cs octets lent)
    where
      go : {t : Turn} → FrameCase spacecraft pool cs octets t → Leaves (named octets) t cs
      go (FrameCase.unheld h) = leaves_nothing (named octets) 12 0 cs (λ z. omega arith)
      go (FrameCase.refused h d) = leaves_nothing (named octets) (refusal_of octets spacecraft (addressed cs octets)) 9 cs d
      go (FrameCase.arrives h here z) =
          leaves_turned (named octets) (arrived (has_room pool cs) (record_of (named octets) cs) (kind_of octets)) cs here
          (arrived_number (has_room pool cs) (record_of (named octets) cs) (kind_of octets))

  release_leaves_lem : (n : ℕ) → Leaves n (release_turn spacecraft pool cs n) cs
  release_leaves_lem n = go (release_case spacecraft pool cs n)
    where
      go : {t : Turn} → ReleaseCase spacecraft pool cs n t → Leaves n t cs
      go (ReleaseCase.unheld h) = leaves_nothing n 12 0 cs (λ z. omega arith)
      go (ReleaseCase.absent h e) = leaves_nothing n 7 0 cs (λ z. omega arith)
      go (ReleaseCase.none h here b) = leaves_nothing n 13 0 cs (λ z. omega arith)
      go (ReleaseCase.done h here b) = leaves_turned n (given_back (record_of n cs)) cs here (given_number (record_of n cs))

  pub isolated : Isolated ours spacecraft pool cs
  isolated = record {
    others = others;
    count = count;
    channels = channels;
    refused = refused;
    frame_channel = λ octets lent. (frame_leaves_lem octets lent).told;
    release_channel = λ n. (release_leaves_lem n).told;
  }
    where
      others : (e : Event) (n : ℕ) → (n ≡ channel_of e → ⊥) → record_of n (after ours spacecraft pool cs e) ≡ record_of n cs
      others (frame_arrives octets lent) = (frame_leaves_lem octets lent).others
      others (release_buffer n) = (release_leaves_lem n).others
      others (report_word n room) = λ m other. refl

      count : (e : Event) → length (after ours spacecraft pool cs e) ≡ length cs
      count (frame_arrives octets lent) = (frame_leaves_lem octets lent).count
      count (release_buffer n) = (release_leaves_lem n).count
      count (report_word n room) = refl

      channels : (e : Event) → numbers (after ours spacecraft pool cs e) ≡ numbers cs
      channels (frame_arrives octets lent) = (frame_leaves_lem octets lent).channels
      channels (release_buffer n) = (release_leaves_lem n).channels
      channels (report_word n room) = refl

      refused : (e : Event) → (refusal ours spacecraft pool cs e ≡ 0 → ⊥) → after ours spacecraft pool cs e ≡ cs
      refused (frame_arrives octets lent) = (frame_leaves_lem octets lent).refused
      refused (release_buffer n) = (release_leaves_lem n).refused
      refused (report_word n room) = λ d. refl

  -- what a frame is told, of its turn
  abbrev pub frame_told : List ℕ → Turn → Told
  frame_told octets t = told_of t (part_for t.unit (part_of octets spacecraft (addressed cs octets)))

  frame_refused_lem : (octets : List ℕ) → table_holds spacecraft pool cs ≡ true → {t : Turn} → FrameCase spacecraft pool cs octets t → (t.refusal ≡ 0 → ⊥)
      → frame_told octets t ≡ turn t.refusal 9 0 None []
  frame_refused_lem octets f (FrameCase.unheld h) d = absurd (apart (sym h ∙ f))
  frame_refused_lem octets f (FrameCase.refused h z) d = refl
  frame_refused_lem octets f (FrameCase.arrives h here z) d = absurd (d refl)

  frame_number_lem : (octets : List ℕ) → table_holds spacecraft pool cs ≡ true → {t : Turn} → FrameCase spacecraft pool cs octets t
      → t.refusal ≡ refusal_of octets spacecraft (addressed cs octets)
  frame_number_lem octets f (FrameCase.unheld h) = absurd (apart (sym h ∙ f))
  frame_number_lem octets f (FrameCase.refused h d) = refl
  frame_number_lem octets f (FrameCase.arrives h here z) = sym (ap (refusal_of octets spacecraft) (addressed_there cs octets here) ∙ z)

  -- whatever else is wrong with a frame of a channel that is not there, it is read as one of no channel of ours
  pub absent_number : table_holds spacecraft pool cs ≡ true → (octets : List ℕ) → Octets octets → is_in (named octets) cs ≡ false
      → (frame_turn spacecraft pool cs octets).refusal ≡ refusal_of octets spacecraft no_channel
  absent_number h octets lent e = frame_number_lem octets h (frame_case spacecraft pool cs octets lent)
      ∙ ap (refusal_of octets spacecraft) (addressed_absent cs octets e)

  pub refusals : Refusals ours spacecraft pool cs
  unfolding unit_part frame_turn release_turn word_writing
  refusals = record {
    frame12 = λ h octets lent. rw h;
    release12 = λ h n. rw h;
    word12 = λ h n room. rw h;
    frame_refused = λ h octets lent. frame_refused_lem octets h (frame_case spacecraft pool cs octets lent);
    frame7 = λ h octets lent e z. frame_number_lem octets h (frame_case spacecraft pool cs octets lent)
        ∙ absent_seven cs octets spacecraft lent e z;
    release7 = λ h n e. rw (h, e);
    word7 = λ h n room e. rw (h, e);
    frame_there = λ h octets lent e. frame_number_lem octets h (frame_case spacecraft pool cs octets lent)
        ∙ ap (refusal_of octets spacecraft) (addressed_there cs octets e);
  }
