-- Each event by what the code judges, in its order: the table first, then the channel, then the frame (`frame_..`), the record (`release_..`) or the
-- room of the output (`word_..`). A frame of a
-- channel that has no record is read at a channel that no frame has, and so refused.
use mathlib.Core.Path.{◌≡◌, refl, sym, ap, ap₂, ◌∙◌}
use mathlib.Core.Bool.{Bool, true, false}
use mathlib.Core.List.{List}
use Prim.Native.Nat.{ℕ}
use native.Mathlib.Omega.{arith}
use borrow.Author.Tests.{ne_eqb}
use lib.Dec.{ltb, eqb}
use lib.ListN.{length, get_or}
use Rattle.std.specs.Prelude.{Some, None, Result, Ok, Err, is_some}
use Rattle.base.specs.Choice.{pick, both}
use Rattle.base.specs.Fields.{field_at}
use Rattle.base.specs.Octets.{Octets}
use Rattle.base.specs.Outcome.{Outcome.refused}
use Rattle.base.specs.Refusals.{refusal_number}
use Rattle.base.specs.declared.Refusal.{Refusal}
use Rattle.clcw.specs.Clcw.{writing}
use Rattle.clcw.specs.declared.Clcw.{Clcw}
use Rattle.frame_header.specs.Header.{virtual_channel_identifier}
use Rattle.frame.specs.declared.Fields.{Fields}
use Rattle.frame.specs.Frame.{refusal_of}
use Rattle.frame.specs.Answers.{reading_of}
use Rattle.frame.proofs.Back.{own_beyond}
use Rattle.receiver.specs.declared.Channel.{Channel}
use Rattle.receiver.specs.declared.ChannelAnswer.{ChannelAnswer}
use Rattle.receiver.specs.Channel.{arrived, release_of}
use Rattle.receiver.specs.Shared.{largest_held}
use Rattle.channels.specs.Table.{is_in, table_holds, has_room, record_of, nothing_of, turned_at, no_channel, addressed, frame_turn, release_turn, word_of, word_writing}
use Rattle.channels.proofs.Told.{room_counts}
use Rattle.channels.proofs.Found.{found, is_found, missing, there, place, within, blank, record_found}

module _ (spacecraft pool : ℕ) (cs : List Channel) (holds : table_holds spacecraft pool cs ≡ true) where
  -- Lent octets, which name the channel n.
  module _ (octets : List ℕ) (n : ℕ) (named : n ≡ field_at virtual_channel_identifier octets) where
    pub address : (b : Bool) → b ≡ is_some (found n cs) → pick b n no_channel ≡ addressed cs octets
    address b e = ap (λ (t : Bool). pick t n no_channel) (e ∙ is_found n cs) ∙ ap (λ (f : ℕ). pick (is_in f cs) f no_channel) named

    pub frame_refused : (at : ℕ) → at ≡ addressed cs octets → (refusal : Refusal) → reading_of octets spacecraft at ≡ Err refusal
        → nothing_of (refusal_number refusal) 9 (length cs) ≡ frame_turn spacecraft pool cs octets
    unfolding frame_turn
    frame_refused at e refusal r = rw (holds, sym e, r) refl

    pub frame_done : (p : ℕ) → found n cs ≡ Some p → (fields : Fields) → reading_of octets spacecraft n ≡ Ok fields → (room : Bool) → room ≡ has_room pool cs → (a : ChannelAnswer)
        → a ≡ arrived (both room (ltb (get_or cs p blank).held largest_held)) (get_or cs p blank) fields.kind
        → turned_at p n a ≡ frame_turn spacecraft pool cs octets
    unfolding frame_turn
    frame_done p e fields r room q a h =
        let at : addressed cs octets ≡ n = sym (address true (ap is_some (sym e))) in
        let b : a ≡ arrived (has_room pool cs) (record_of n cs) fields.kind =
        h
        ∙ ap (λ (x : Bool). arrived x (get_or cs p blank) fields.kind)
        (ap (λ (x : Bool). both x (ltb (get_or cs p blank).held largest_held)) q ∙ room_counts spacecraft pool cs p blank holds (within n cs p e))
        ∙ ap (λ (c : Channel). arrived (has_room pool cs) c fields.kind) (record_found n cs p e) in
        rw (holds, at, r, b, place n cs p e) refl

  pub no_frame : (octets : List ℕ) → Octets octets → (fields : Fields) → reading_of octets spacecraft no_channel ≡ Ok fields → ⊥
  unfolding reading_of
  no_frame octets o fields e =
      let none : eqb (refusal_of octets spacecraft no_channel) 0 ≡ false = ne_eqb (refusal_of octets spacecraft no_channel) 0 ((own_beyond octets spacecraft no_channel o).1 (omega arith)) in
      let z : ◌≡◌ {A = ℕ} 0 1 = cc (rw none at e) in
      absurd (omega arith)

  -- A release that names the channel n.
  module _ (n : ℕ) where
    pub release_absent : found n cs ≡ None → nothing_of 7 0 (length cs) ≡ release_turn spacecraft pool cs n
    unfolding release_turn
    release_absent e = rw (holds, missing n cs e) refl

    module _ (p : ℕ) (e : found n cs ≡ Some p) (room : Bool) (q : room ≡ has_room pool cs) (x : Result ChannelAnswer Refusal)
        (r : x ≡ release_of room (get_or cs p blank)) where
      answer : release_of (has_room pool cs) (record_of n cs) ≡ x
      answer = sym (r ∙ ap₂ release_of q (record_found n cs p e))

      pub release_refused : (refusal : Refusal) → x ≡ Err refusal → nothing_of (refusal_number refusal) 0 (length cs) ≡ release_turn spacecraft pool cs n
      unfolding release_turn
      release_refused refusal h = rw (holds, there n cs p e, answer, h) refl

      pub release_done : (a : ChannelAnswer) → x ≡ Ok a → turned_at p n a ≡ release_turn spacecraft pool cs n
      unfolding release_turn
      release_done a h = rw (holds, there n cs p e, answer, h, place n cs p e) refl

    -- A control word asked of the channel n.
    pub word_absent : (lent : ℕ) → found n cs ≡ None → word_writing spacecraft pool cs n lent ≡ refused 7 0
    unfolding word_writing
    word_absent lent e = rw (holds, missing n cs e) refl

    pub word_found : (lent p : ℕ) → found n cs ≡ Some p → (word : Clcw) → word ≡ word_of (get_or cs p blank) → word_writing spacecraft pool cs n lent ≡ writing word lent
    unfolding word_writing
    word_found lent p e word h = rw (holds, there n cs p e, h, record_found n cs p e) refl
