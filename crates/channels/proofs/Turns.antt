-- What an event comes to, by cases (`frame_case`, `release_case`), so that each law goes over the cases and unfolds no definition again: 12; a
-- frame refused, with its number; a frame of a channel that is there, as that channel answers it; a release with 7, 13 or done. The address of no channel is
-- never a frame's, so what is not refused names a channel that is there.
use Rattle.std.specs.Prelude.{Ok, Err}
use mathlib.Core.Path.{◌≡◌, refl, sym, ap, subst, ◌∙◌}
use mathlib.Core.Bool.{Bool, true, false}
use mathlib.Core.List.{List}
use Prim.Native.Nat.{ℕ, ◌-◌}
use native.Mathlib.Nat.{le_refl}
use borrow.Author.Tests.{eqb-true, eqb-false}
use lib.Dec.{eqb}
use lib.ListN.{length}
use lib.Seq.{set_out}
use Rattle.base.specs.Choice.{must}
use Rattle.base.specs.Octets.{Octets}
use Rattle.base.specs.Outcome.{Outcome}
use Rattle.farm.specs.declared.Event.TheVariants.{E10}
use Rattle.frame.specs.Answers.{fields_of, reading_of}
use Rattle.frame.specs.Frame.{refusal_of, kind_of}
use Rattle.frame.proofs.Accepted.{reading_frame, reading_refused}
use Rattle.receiver.specs.declared.Channel.{Channel}
use Rattle.receiver.specs.declared.ChannelAnswer.{ChannelAnswer}
use Rattle.base.specs.declared.Refusal.TheVariants.{Release}
use Rattle.receiver.specs.Channel.{become, answered, arrived, may_release, release_of}
use Rattle.channels.specs.Table.{is_in, table_holds, has_room, record_of, Turn, nothing, turned, records_after, addressed, by_reading, frame_turn, by_release, release_turn, word_writing}
use Rattle.channels.specs.Isolation.{named}
use Rattle.channels.proofs.Addresses.{addressed_there, absent_refused}

-- nothing changes
pub nothing_after : (refusal event : ℕ) (cs : List Channel) → records_after (nothing refusal event cs) cs ≡ cs
nothing_after refusal event cs = set_out cs (length cs) (nothing refusal event cs).next (le_refl (length cs))

-- the channel that a release gives one back to, or that goes on from Wait
abbrev pub given_back : Channel → ChannelAnswer
given_back c = answered E10 0 (become (c.held - 1) c.variables c)

-- a release that names n, by whether n is there and may release
abbrev pub released_by : ℕ → Bool → Bool → Channel → List Channel → Turn
released_by n there may c cs = must there (nothing 7 0 cs) (by_release n cs (must may (Err Release) (Ok (given_back c))))

module _ (spacecraft pool : ℕ) (cs : List Channel) where
  -- 12 is judged first
  pub frame_12 : table_holds spacecraft pool cs ≡ false → (octets : List ℕ) → frame_turn spacecraft pool cs octets ≡ nothing 12 0 cs
  unfolding frame_turn
  frame_12 h octets = rw h

  pub release_12 : table_holds spacecraft pool cs ≡ false → (n : ℕ) → release_turn spacecraft pool cs n ≡ nothing 12 0 cs
  unfolding release_turn
  release_12 h n = rw h

  pub word_12 : table_holds spacecraft pool cs ≡ false → (n room : ℕ) → word_writing spacecraft pool cs n room ≡ Outcome.refused 12 0
  unfolding word_writing
  word_12 h n room = rw h

  pub release_by : table_holds spacecraft pool cs ≡ true → (n : ℕ) → release_turn spacecraft pool cs n
      ≡ released_by n (is_in n cs) (may_release (record_of n cs).held (record_of n cs).variables.state (has_room pool cs)) (record_of n cs) cs
  unfolding release_turn release_of
  release_by h n = rw h

  pub data FrameCase (octets : List ℕ) : Turn → Type 0 where
    unheld : table_holds spacecraft pool cs ≡ false → FrameCase octets (nothing 12 0 cs)
    refused : table_holds spacecraft pool cs ≡ true → (refusal_of octets spacecraft (addressed cs octets) ≡ 0 → ⊥)
        → FrameCase octets (nothing (refusal_of octets spacecraft (addressed cs octets)) 9 cs)
    arrives : table_holds spacecraft pool cs ≡ true → is_in (named octets) cs ≡ true → refusal_of octets spacecraft (named octets) ≡ 0
        → FrameCase octets (turned (named octets) (arrived (has_room pool cs) (record_of (named octets) cs) (kind_of octets)) cs)

  pub frame_case : (octets : List ℕ) → Octets octets → FrameCase octets (frame_turn spacecraft pool cs octets)
  unfolding frame_turn fields_of
  frame_case octets lent = judged (table_holds spacecraft pool cs) refl
    where
      read : table_holds spacecraft pool cs ≡ true → (b there : Bool) → eqb (refusal_of octets spacecraft (addressed cs octets)) 0 ≡ b → is_in (named octets) cs ≡ there
          → FrameCase octets (by_reading pool cs (addressed cs octets) (reading_of octets spacecraft (addressed cs octets)))
      read h true true z e =
          let a = addressed_there cs octets e in
          let y : refusal_of octets spacecraft (named octets) ≡ 0 = sym (ap (refusal_of octets spacecraft) a) ∙ eqb-true (refusal_of octets spacecraft (addressed cs octets)) 0 z in
          rw (a, reading_frame octets spacecraft (named octets) y) (arrives h e y)
      read h true false z e = absurd (absent_refused cs octets spacecraft lent e (eqb-true (refusal_of octets spacecraft (addressed cs octets)) 0 z))
      read h false there z e =
          let d = eqb-false (refusal_of octets spacecraft (addressed cs octets)) 0 z in
          let e = reading_refused octets spacecraft (addressed cs octets) d in
          rw e.0 (subst (λ (n : ℕ). FrameCase octets (nothing n 9 cs)) (sym e.1) (refused h d))

      judged : (b : Bool) → table_holds spacecraft pool cs ≡ b
          → FrameCase octets (must b (nothing 12 0 cs) (by_reading pool cs (addressed cs octets) (reading_of octets spacecraft (addressed cs octets))))
      judged true h = read h (eqb (refusal_of octets spacecraft (addressed cs octets)) 0) (is_in (named octets) cs) refl refl
      judged false h = unheld h

  pub data ReleaseCase (n : ℕ) : Turn → Type 0 where
    unheld : table_holds spacecraft pool cs ≡ false → ReleaseCase n (nothing 12 0 cs)
    absent : table_holds spacecraft pool cs ≡ true → is_in n cs ≡ false → ReleaseCase n (nothing 7 0 cs)
    none : table_holds spacecraft pool cs ≡ true → is_in n cs ≡ true
        → may_release (record_of n cs).held (record_of n cs).variables.state (has_room pool cs) ≡ false → ReleaseCase n (nothing 13 0 cs)
    done : table_holds spacecraft pool cs ≡ true → is_in n cs ≡ true
        → may_release (record_of n cs).held (record_of n cs).variables.state (has_room pool cs) ≡ true → ReleaseCase n (turned n (given_back (record_of n cs)) cs)

  pub release_case : (n : ℕ) → ReleaseCase n (release_turn spacecraft pool cs n)
  unfolding release_turn release_of
  release_case n = judged (table_holds spacecraft pool cs) (is_in n cs) (may_release (record_of n cs).held (record_of n cs).variables.state (has_room pool cs)) refl refl refl
    where
      judged : (h i b : Bool) → table_holds spacecraft pool cs ≡ h → is_in n cs ≡ i
          → may_release (record_of n cs).held (record_of n cs).variables.state (has_room pool cs) ≡ b
          → ReleaseCase n (must h (nothing 12 0 cs) (released_by n i b (record_of n cs) cs))
      judged true true true p q r = done p q r
      judged true true false p q r = none p q r
      judged true false b p q r = absent p q
      judged false i b p q r = unheld p
