-- What an event reads: of the other channels whether the pool has room and nothing else (`reads`), and that only where order 8 says, by which it answers there
-- (`reads_there`). One argument for both: with the same record of its own an event is answered alike where the channel answers alike with both rooms, and a
-- channel does so unless an expected frame meets it in Open or Lockout, or a release in Wait while it holds none (`frame_unread`, `release_unread`).
use Rattle.std.specs.Prelude.{None}
use mathlib.Core.Path.{◌≡◌, refl, sym, ap, ◌∙◌}
use mathlib.Core.Bool.{Bool, true, false, not}
use mathlib.Core.List.{List, []}
use Prim.Native.Nat.{ℕ}
use native.Mathlib.Omega.{arith}
use borrow.Author.Tests.{eqb-true, eqb-false, ltb-false}
use lib.Dec.{ltb, eqb}
use Rattle.base.specs.Choice.{pick, must, both}
use Rattle.base.specs.Modulo.{offset}
use Rattle.base.specs.Octets.{Octets}
use Rattle.base.specs.Outcome.{Outcome, answer, number_of}
use Rattle.base.proofs.Tests.{apart, both_left, both_right, both_true, both_false}
use Rattle.farm.specs.Table.{event_number}
use Rattle.farm.specs.Window.{not_wait, ad_event}
use Rattle.farm.specs.declared.State.{State}
use Rattle.farm.specs.declared.Event.{Event as FarmEvent}
use Rattle.farm.specs.declared.Event.TheVariants.{E1, E2}
use Rattle.frame.specs.Answers.{part_of}
use Rattle.frame.specs.Frame.{refusal_of, kind_of}
use Rattle.frame.specs.declared.Kind.{Kind}
use Rattle.frame.specs.declared.Kind.TheVariants.{Ad, Bd, Unlock, SetVr}
use Rattle.receiver.specs.declared.Channel.{Channel}
use Rattle.receiver.specs.declared.ChannelAnswer.{ChannelAnswer}
use Rattle.receiver.specs.Channel.{event_of, answered, arrived, may_release}
use Rattle.receiver.specs.Receiver.{part_for}
use Rattle.channels.specs.Table.{is_in, table_holds, has_room, record_of, Turn, records_after, addressed, unit_part, release_turn, word_writing}
use Rattle.channels.specs.Isolation.{ours, Event, frame_arrives, release_buffer, report_word, named, channel_of, Told, turn, told_of, refusal, SameOwn, Alike, is_expected, reads_pool, Reads, ReadsThere}
use Rattle.channels.proofs.RecordLaws.{record_none, own_set}
use Rattle.channels.proofs.Addresses.{addressed_there}
use Rattle.channels.proofs.Turns.{nothing_after, given_back, frame_12, release_12, word_12, released_by, release_by, FrameCase, frame_case}
use Rattle.channels.proofs.Isolation.{arrived_number, given_number, given_event, frame_told}

-- Of one channel.

-- a frame that is not expected, or comes in Wait, is answered alike with room and without
ad_unread : (window : ℕ) (s : State) (d : ℕ) (room room' : Bool) → both (not_wait s) (eqb d 0) ≡ false → ad_event window s room d ≡ ad_event window s room' d
unfolding ad_event
ad_unread window s d room room' e = go _ (not_wait s) (eqb d 0) e
  where
    go : (other : FarmEvent) (b z : Bool) → both b z ≡ false → pick z (pick (both room b) E1 E2) other ≡ pick z (pick (both room' b) E1 E2) other
    go other true true f = absurd (apart (sym f))
    go other false true f = rw (both_false room, both_false room')
    go other b false f = refl

frame_unread : (c : Channel) (kind : Kind) (room room' : Bool) → is_expected c kind ≡ false → arrived room c kind ≡ arrived room' c kind
unfolding arrived event_of
frame_unread c (Ad number) room room' e = ap (λ (x : FarmEvent). answered x 0 c) (ad_unread c.window c.variables.state (offset number c.variables.vr) room room' e)
frame_unread c Bd room room' e = refl
frame_unread c Unlock room room' e = refl
frame_unread c (SetVr value) room room' e = refl

-- a release of a channel that holds a unit, or is not in Wait
release_unread : (c : Channel) (room room' : Bool) → both (eqb c.held 0) (not (not_wait c.variables.state)) ≡ false
    → may_release c.held c.variables.state room ≡ may_release c.held c.variables.state room'
release_unread c room room' e = go (ltb 0 c.held) (not_wait c.variables.state) refl e
  where
    go : (some runs : Bool) → ltb 0 c.held ≡ some → both (eqb c.held 0) (not runs) ≡ false → pick some true (pick runs false room) ≡ pick some true (pick runs false room')
    go true runs p f = refl
    go false true p f = refl
    go false false p f = absurd (eqb-false c.held 0 (sym (both_true (eqb c.held 0)) ∙ f) (omega (arith, ltb-false 0 c.held p)))

-- and where they are read
expected_event : (c : Channel) (kind : Kind) (room : Bool) → is_expected c kind ≡ true → event_number (arrived room c kind).event ≡ pick room 1 2
unfolding arrived answered event_of ad_event
expected_event c (Ad number) room e =
    rw (
      both_left (not_wait c.variables.state) (eqb (offset number c.variables.vr) 0) e,
      both_right (not_wait c.variables.state) (eqb (offset number c.variables.vr) 0) e,
    )
    (go room)
  where
    go : (b : Bool) → event_number (pick (both b true) E1 E2) ≡ pick b 1 2
    go true = refl
    go false = refl
expected_event c Bd room e = absurd (apart e)
expected_event c Unlock room e = absurd (apart e)
expected_event c (SetVr value) room e = absurd (apart e)

-- a channel that holds none is released in Wait with room
pub none_may : (c : Channel) (room : Bool) → c.held ≡ 0 → may_release c.held c.variables.state room ≡ both (not (not_wait c.variables.state)) room
none_may c room z = rw z (go (not_wait c.variables.state))
  where
    go : (b : Bool) → pick b false room ≡ both (not b) room
    go true = refl
    go false = refl

-- Of the table.

-- what a frame that arrives is told, read at an address
abbrev arrived_told : ℕ → List ℕ → ℕ → ChannelAnswer → Told
arrived_told spacecraft octets k a = turn 0 (event_number a.event) (named octets) a.unit (part_for a.unit (part_of octets spacecraft k))

-- what is not refused with 12 is a table that holds
module _ (spacecraft pool : ℕ) (cs : List Channel) where
  is_12 : table_holds spacecraft pool cs ≡ false → (e : Event) → refusal ours spacecraft pool cs e ≡ 12
  is_12 h (frame_arrives octets lent) = ap (λ (t : Turn). t.refusal) (frame_12 spacecraft pool cs h octets)
  is_12 h (release_buffer n) = ap (λ (t : Turn). t.refusal) (release_12 spacecraft pool cs h n)
  is_12 h (report_word n room) = ap (λ (o : Outcome (Unit {0})). number_of (answer o)) (word_12 spacecraft pool cs h n room)

  not_12 : (e : Event) → (refusal ours spacecraft pool cs e ≡ 12 → ⊥) → table_holds spacecraft pool cs ≡ true
  not_12 e d = go (table_holds spacecraft pool cs) refl
    where
      go : (b : Bool) → table_holds spacecraft pool cs ≡ b → table_holds spacecraft pool cs ≡ true
      go true h = h
      go false h = absurd (d (is_12 h e))

-- of two tables that hold and have the same record for a channel
module _ (spacecraft pool pool' : ℕ) (cs cs' : List Channel) (f : table_holds spacecraft pool cs ≡ true) (f' : table_holds spacecraft pool' cs' ≡ true) where
  -- two turns of a frame: the answers, with the part handed out, and the channel's next record
  abbrev AlikeTurns : List ℕ → Turn → Turn → Type 0
  AlikeTurns octets t t' =
      (frame_told spacecraft pool cs octets t ≡ frame_told spacecraft pool' cs' octets t')
      × (record_of (named octets) (records_after t cs) ≡ record_of (named octets) (records_after t' cs'))

  -- alike where the channel answers alike with both rooms
  module _ (octets : List ℕ) (s : SameOwn (named octets) cs cs') (alike : is_in (named octets) cs ≡ true → refusal_of octets spacecraft (named octets) ≡ 0
      → arrived (has_room pool cs) (record_of (named octets) cs) (kind_of octets) ≡ arrived (has_room pool' cs') (record_of (named octets) cs) (kind_of octets)) where
    address : addressed cs octets ≡ addressed cs' octets
    address = rw s.there

    turns_alike : {t t' : Turn} → FrameCase spacecraft pool cs octets t → FrameCase spacecraft pool' cs' octets t' → AlikeTurns octets t t'
    turns_alike (FrameCase.unheld h) y = absurd (apart (sym h ∙ f))
    turns_alike (FrameCase.refused h d) (FrameCase.unheld h') = absurd (apart (sym h' ∙ f'))
    turns_alike (FrameCase.refused h d) (FrameCase.refused h' d') = (
      ap (λ (k : ℕ). turn (refusal_of octets spacecraft k) 9 0 None []) address,
      ap (record_of (named octets)) (nothing_after (refusal_of octets spacecraft (addressed cs octets)) 9 cs)
          ∙ s.own
          ∙ ap (record_of (named octets)) (sym (nothing_after (refusal_of octets spacecraft (addressed cs' octets)) 9 cs')),
    )
    turns_alike (FrameCase.refused h d) (FrameCase.arrives h' here' z') =
        absurd (d (ap (refusal_of octets spacecraft) (addressed_there cs octets (s.there ∙ here')) ∙ z'))
    turns_alike (FrameCase.arrives h here z) (FrameCase.unheld h') = absurd (apart (sym h' ∙ f'))
    turns_alike (FrameCase.arrives h here z) (FrameCase.refused h' d') =
        absurd (d' (ap (refusal_of octets spacecraft) (addressed_there cs' octets (sym s.there ∙ here)) ∙ z))
    turns_alike (FrameCase.arrives h here z) (FrameCase.arrives h' here' z') =
        let n = named octets in
        let kind = kind_of octets in
        let same : arrived (has_room pool cs) (record_of n cs) kind ≡ arrived (has_room pool' cs') (record_of n cs') kind =
        alike here z ∙ ap (λ (c : Channel). arrived (has_room pool' cs') c kind) s.own in (
          ap (λ (k : ℕ). arrived_told spacecraft octets k (arrived (has_room pool cs) (record_of n cs) kind)) address ∙ ap (arrived_told spacecraft octets (addressed cs' octets)) same,
          own_set n cs here (arrived (has_room pool cs) (record_of n cs) kind).next (arrived_number (has_room pool cs) (record_of n cs) kind)
              ∙ ap (λ (a : ChannelAnswer). a.next) same
              ∙ sym (own_set n cs' here' (arrived (has_room pool' cs') (record_of n cs') kind).next (arrived_number (has_room pool' cs') (record_of n cs') kind)),
        )

    frames_alike : (lent : Octets octets) → Alike ours spacecraft pool pool' cs cs' (frame_arrives octets lent)
    unfolding unit_part
    frames_alike lent =
        let a = turns_alike (frame_case spacecraft pool cs octets lent) (frame_case spacecraft pool' cs' octets lent) in
        record { same = a.0; next = a.1 }

  module _ (n : ℕ) (s : SameOwn n cs cs') where
    abbrev AlikeReleases : Turn → Turn → Type 0
    AlikeReleases t t' =
        (◌≡◌ {A = Told} (told_of t []) (told_of t' []))
        × (record_of n (records_after t cs) ≡ record_of n (records_after t' cs'))

    by_alike : (there may : Bool) → is_in n cs ≡ there → is_in n cs' ≡ there → AlikeReleases (released_by n there may (record_of n cs) cs) (released_by n there may (record_of n cs) cs')
    by_alike true true p p' = (
      refl,
      own_set n cs p (given_back (record_of n cs)).next (given_number (record_of n cs))
          ∙ sym (own_set n cs' p' (given_back (record_of n cs)).next (given_number (record_of n cs) ∙ ap (λ (c : Channel). c.number) s.own)),
    )
    by_alike true false p p' = (refl, ap (record_of n) (nothing_after 13 0 cs) ∙ s.own ∙ ap (record_of n) (sym (nothing_after 13 0 cs')))
    by_alike false may p p' = (refl, ap (record_of n) (nothing_after 7 0 cs) ∙ s.own ∙ ap (record_of n) (sym (nothing_after 7 0 cs')))

    releases_alike : may_release (record_of n cs).held (record_of n cs).variables.state (has_room pool cs)
        ≡ may_release (record_of n cs).held (record_of n cs).variables.state (has_room pool' cs')
        → Alike ours spacecraft pool pool' cs cs' (release_buffer n)
    releases_alike e =
        let b = may_release (record_of n cs).held (record_of n cs).variables.state (has_room pool cs) in
        let a = by_alike (is_in n cs) b refl (sym s.there) in
        let p = release_by spacecraft pool cs f n in
        let p' : release_turn spacecraft pool' cs' n ≡ released_by n (is_in n cs) b (record_of n cs) cs' =
        release_by spacecraft pool' cs' f' n ∙ rw (e, s.there, s.own) in record {
          same = ap (λ (t : Turn). told_of t []) p ∙ a.0 ∙ sym (ap (λ (t : Turn). told_of t []) p');
          next = ap (λ (t : Turn). record_of n (records_after t cs)) p ∙ a.1 ∙ sym (ap (λ (t : Turn). record_of n (records_after t cs')) p');
        }

    words_alike : (room : ℕ) → Alike ours spacecraft pool pool' cs cs' (report_word n room)
    unfolding word_writing
    words_alike room = record { same = rw (f, f', s.there, s.own); next = s.own }

-- an event of two tables that hold and have the same record of its channel: with the same room, and elsewhere with any
module _ (spacecraft pool pool' : ℕ) (cs cs' : List Channel) (f : table_holds spacecraft pool cs ≡ true) (f' : table_holds spacecraft pool' cs' ≡ true) where
  pub own_alike : (e : Event) → SameOwn (channel_of e) cs cs' → has_room pool cs ≡ has_room pool' cs' → Alike ours spacecraft pool pool' cs cs' e
  own_alike (frame_arrives octets lent) s r =
      frames_alike spacecraft pool pool' cs cs' f f' octets s (λ here z. ap (λ (b : Bool). arrived b (record_of (named octets) cs) (kind_of octets)) r) lent
  own_alike (release_buffer n) s r = releases_alike spacecraft pool pool' cs cs' f f' n s (ap (may_release (record_of n cs).held (record_of n cs).variables.state) r)
  own_alike (report_word n room) s r = words_alike spacecraft pool pool' cs cs' f f' n s room

  unread : (n : ℕ) (there : Bool) → is_in n cs ≡ there → both there (both (eqb (record_of n cs).held 0) (not (not_wait (record_of n cs).variables.state))) ≡ false
      → may_release (record_of n cs).held (record_of n cs).variables.state (has_room pool cs)
      ≡ may_release (record_of n cs).held (record_of n cs).variables.state (has_room pool' cs')
  unread n true here r = release_unread (record_of n cs) (has_room pool cs) (has_room pool' cs') r
  unread n false here r = rw (record_none n cs here)

  elsewhere_alike : (e : Event) → SameOwn (channel_of e) cs cs' → reads_pool spacecraft cs e ≡ false → Alike ours spacecraft pool pool' cs cs' e
  elsewhere_alike (frame_arrives octets lent) s r =
      frames_alike spacecraft pool pool' cs cs' f f' octets s
      (λ here z. frame_unread (record_of (named octets) cs) (kind_of octets) (has_room pool cs) (has_room pool' cs') (rw (here, z) at r)) lent
  elsewhere_alike (release_buffer n) s r = releases_alike spacecraft pool pool' cs cs' f f' n s (unread n (is_in n cs) refl r)
  elsewhere_alike (report_word n room) s r = words_alike spacecraft pool pool' cs cs' f f' n s room

pub reads : (spacecraft pool pool' : ℕ) (cs cs' : List Channel) → Reads ours spacecraft pool pool' cs cs'
reads spacecraft pool pool' cs cs' = record {
  own = λ e d d'. own_alike spacecraft pool pool' cs cs' (not_12 spacecraft pool cs e d) (not_12 spacecraft pool' cs' e d') e;
  elsewhere = λ e d d'. elsewhere_alike spacecraft pool pool' cs cs' (not_12 spacecraft pool cs e d) (not_12 spacecraft pool' cs' e d') e;
}

pub reads_there : (spacecraft pool : ℕ) (cs : List Channel) → ReadsThere ours spacecraft pool cs
reads_there spacecraft pool cs = record {
  expected = λ f octets lent r. expected octets f r (frame_case spacecraft pool cs octets lent);
  waiting = λ f n r. waiting n f r;
}
  where
    expected : (octets : List ℕ) → table_holds spacecraft pool cs ≡ true
        → both (is_in (named octets) cs) (both (eqb (refusal_of octets spacecraft (named octets)) 0) (is_expected (record_of (named octets) cs) (kind_of octets))) ≡ true
        → {t : Turn} → FrameCase spacecraft pool cs octets t → (t.refusal ≡ 0) × (t.event ≡ pick (has_room pool cs) 1 2)
    expected octets f r (FrameCase.unheld h) = absurd (apart (sym h ∙ f))
    expected octets f r (FrameCase.refused h d) =
        let here = both_left (is_in (named octets) cs) _ r in
        let z = both_left (eqb (refusal_of octets spacecraft (named octets)) 0) _ (both_right (is_in (named octets) cs) _ r) in
        absurd (d (ap (refusal_of octets spacecraft) (addressed_there cs octets here) ∙ eqb-true (refusal_of octets spacecraft (named octets)) 0 z))
    expected octets f r (FrameCase.arrives h here z) = (refl, expected_event (record_of (named octets) cs) (kind_of octets) (has_room pool cs) (rw (here, z) at r))

    waiting : (n : ℕ) → table_holds spacecraft pool cs ≡ true → reads_pool spacecraft cs (release_buffer n) ≡ true
        → ((release_turn spacecraft pool cs n).refusal ≡ must (has_room pool cs) 13 0) × ((release_turn spacecraft pool cs n).event ≡ must (has_room pool cs) 0 10)
    waiting n f r =
        let here = both_left (is_in n cs) _ r in
        let w = both_right (is_in n cs) _ r in
        let z = eqb-true (record_of n cs).held 0 (both_left (eqb (record_of n cs).held 0) _ w) in
        let runs = both_right (eqb (record_of n cs).held 0) (not (not_wait (record_of n cs).variables.state)) w in
        rw (release_by spacecraft pool cs f n, here, none_may (record_of n cs) (has_room pool cs) z, runs) (go (has_room pool cs))
      where
        go : (b : Bool) → ((released_by n true b (record_of n cs) cs).refusal ≡ must b 13 0) × ((released_by n true b (record_of n cs) cs).event ≡ must b 0 10)
        go true = (refl, ap event_number (given_event (record_of n cs)))
        go false = (refl, refl)
