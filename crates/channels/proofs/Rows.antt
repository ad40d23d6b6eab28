-- What an event that is done makes of its channel's record is table 7-9's row (`rows`): by the cases of Turns, the record that is put is the channel's answer.
use Rattle.std.specs.Prelude.{None, Option}
use Prim.Native.Nat.{ℕ, ◌+◌, ◌-◌}
use mathlib.Core.Path.{◌≡◌, refl, sym, ap, ◌∙◌}
use mathlib.Core.Bool.{true}
use mathlib.Core.List.{List, []}
use native.Mathlib.Nat.{add-zero}
use native.Mathlib.Omega.{arith}
use lib.Dec.{eqb}
use Rattle.base.specs.Choice.{pick}
use Rattle.base.specs.Octets.{Octets}
use Rattle.base.proofs.Tests.{apart}
use Rattle.farm.specs.Table.{event_number, step_of, unit_of}
use Rattle.farm.specs.declared.State.{State}
use Rattle.farm.specs.declared.Event.TheVariants.{E10}
use Rattle.farm.specs.declared.AcceptedUnit.{AcceptedUnit}
use Rattle.farm.proofs.Cells.{by_state}
use Rattle.frame.specs.Frame.{refusal_of, kind_of, data_field, total_of}
use Rattle.frame.specs.Answers.{part_of}
use Rattle.receiver.specs.declared.Channel.{Channel}
use Rattle.receiver.specs.Channel.{become, answered, arrived, star_of, takes}
use Rattle.receiver.specs.Receiver.{part_for}
use Rattle.channels.specs.Table.{is_in, table_holds, has_room, record_of, Turn, turned, records_after, addressed, frame_turn, unit_part, release_turn, word_writing}
use Rattle.channels.specs.Isolation.{ours, frame_arrives, release_buffer, named, turn, told, after}
use Rattle.channels.specs.Rows.{own_of, row_of, handed, Rows}
use Rattle.channels.proofs.Addresses.{addressed_there}
use Rattle.channels.proofs.RecordLaws.{own_set}
use Rattle.channels.proofs.Turns.{given_back, FrameCase, ReleaseCase, frame_case, release_case}
use Rattle.channels.proofs.Isolation.{arrived_number, given_number, frame_told, absent_number}

module _ (spacecraft pool : ℕ) (cs : List Channel) where
  -- a frame that is taken is the row's turn
  frame_turned : table_holds spacecraft pool cs ≡ true → (octets : List ℕ) → Octets octets → is_in (named octets) cs ≡ true → refusal_of octets spacecraft (named octets) ≡ 0
      → frame_turn spacecraft pool cs octets ≡ turned (named octets) (arrived (has_room pool cs) (own_of cs octets) (kind_of octets)) cs
  frame_turned h octets lent there z = by (frame_case spacecraft pool cs octets lent)
    where
      by : {t : Turn} → FrameCase spacecraft pool cs octets t → t ≡ turned (named octets) (arrived (has_room pool cs) (own_of cs octets) (kind_of octets)) cs
      by (FrameCase.unheld f) = absurd (apart (sym f ∙ h))
      by (FrameCase.refused f d) = absurd (d (ap (refusal_of octets spacecraft) (addressed_there cs octets there) ∙ z))
      by (FrameCase.arrives f here y) = refl

  -- its part is the data field
  whole_part : (octets : List ℕ) → is_in (named octets) cs ≡ true → refusal_of octets spacecraft (named octets) ≡ 0
      → part_of octets spacecraft (addressed cs octets) ≡ data_field octets (total_of octets)
  unfolding part_of
  whole_part octets there z =
      ap (λ (n : ℕ). pick (eqb n 0) (data_field octets (total_of octets)) []) (ap (refusal_of octets spacecraft) (addressed_there cs octets there) ∙ z)

  frame_told_lem : table_holds spacecraft pool cs ≡ true → (octets : List ℕ) (lent : Octets octets) → is_in (named octets) cs ≡ true
      → refusal_of octets spacecraft (named octets) ≡ 0
      → told ours spacecraft pool cs (frame_arrives octets lent)
      ≡ turn 0 (event_number (row_of pool cs octets)) (named octets) (handed pool cs octets) (part_for (handed pool cs octets) (data_field octets (total_of octets)))
  unfolding unit_part arrived answered
  frame_told_lem h octets lent there z =
      ap (frame_told spacecraft pool cs octets) (frame_turned h octets lent there z)
      ∙ ap (λ (p : List ℕ). turn 0 (event_number (row_of pool cs octets)) (named octets) (handed pool cs octets) (part_for (handed pool cs octets) p)) (whole_part octets there z)

  frame_next_lem : table_holds spacecraft pool cs ≡ true → (octets : List ℕ) (lent : Octets octets) → is_in (named octets) cs ≡ true
      → refusal_of octets spacecraft (named octets) ≡ 0
      → record_of (named octets) (after ours spacecraft pool cs (frame_arrives octets lent))
      ≡ become ((own_of cs octets).held + takes (handed pool cs octets)) (step_of (row_of pool cs octets) (star_of (kind_of octets)) (own_of cs octets).variables) (own_of cs octets)
  unfolding arrived answered
  frame_next_lem h octets lent there z =
      let a = arrived (has_room pool cs) (own_of cs octets) (kind_of octets) in
      ap (λ (t : Turn). record_of (named octets) (records_after t cs)) (frame_turned h octets lent there z)
      ∙ own_set (named octets) cs there a.next (arrived_number (has_room pool cs) (own_of cs octets) (kind_of octets))

  -- E10 hands no unit out
  none_handed : (s : State) → unit_of E10 s ≡ None
  none_handed = by_state (λ (s : State). unit_of E10 s ≡ None) refl refl refl

  given_next : (c : Channel) → (given_back c).next ≡ become (c.held - 1) (step_of E10 0 c.variables) c
  unfolding answered
  given_next c =
      ap (λ (u : Option AcceptedUnit). become (c.held - 1 + takes u) (step_of E10 0 c.variables) c) (none_handed c.variables.state)
      ∙ ap (λ (n : ℕ). become n (step_of E10 0 c.variables) c) (add-zero (c.held - 1))

  release_next_lem : (n : ℕ) → (release_turn spacecraft pool cs n).refusal ≡ 0
      → record_of n (after ours spacecraft pool cs (release_buffer n)) ≡ become ((record_of n cs).held - 1) (step_of E10 0 (record_of n cs).variables) (record_of n cs)
  release_next_lem n z = by (release_case spacecraft pool cs n) z
    where
      by : {t : Turn} → ReleaseCase spacecraft pool cs n t → t.refusal ≡ 0
          → record_of n (records_after t cs) ≡ become ((record_of n cs).held - 1) (step_of E10 0 (record_of n cs).variables) (record_of n cs)
      by (ReleaseCase.unheld h) y = absurd (omega arith)
      by (ReleaseCase.absent h e) y = absurd (omega arith)
      by (ReleaseCase.none h here b) y = absurd (omega arith)
      by (ReleaseCase.done h here b) y =
          own_set n cs here (given_back (record_of n cs)).next (given_number (record_of n cs)) ∙ given_next (record_of n cs)

  pub rows : Rows ours spacecraft pool cs
  unfolding word_writing
  rows = record { frame_told = frame_told_lem; frame_next = frame_next_lem; release_next = release_next_lem; words = λ h n room there. rw (h, there); frame_absent = absent_number spacecraft pool cs }
