-- The single receiver is a case: a table of one record answers frames, releases and control words as the receiver of that channel does, where it never waits with
-- room (`single`), and every well-formed receiver is such (`single_well`). A frame of another channel is refused with the same number at both addresses; in a release
-- both rules agree where Wait means no room.
use Rattle.std.specs.Prelude.{None, Result, Ok, Err}
use mathlib.Core.Path.{◌≡◌, refl, sym, ap, ◌∙◌}
use mathlib.Core.Bool.{Bool, true, false, not, ◌||◌}
use mathlib.Core.List.{List, [], ◌∷◌}
use Prim.Native.Nat.{ℕ, ◌+◌, ◌-◌, ◌%◌}
use native.Mathlib.Omega.{arith}
use native.Mathlib.Nat.{add-zero}
use borrow.Author.Tests.{leb-true, eqb-true, le-leb, le-ltb, eq-eqb, ne_eqb}
use lib.Dec.{leb, ltb, eqb}
use lib.ListN.{get_or, set}
use Rattle.base.specs.Choice.{pick, must, both}
use Rattle.base.specs.Octets.{Octets}
use Rattle.base.specs.Limits.{largest_spacecraft, largest_channel}
use Rattle.base.proofs.Tests.{apart, both_left, both_right}
use Rattle.clcw.specs.Clcw.{writing}
use Rattle.farm.specs.Table.{event_number}
use Rattle.farm.specs.Window.{not_wait}
use Rattle.farm.specs.declared.State.{State}
use Rattle.farm.specs.declared.State.TheVariants.{Open, Wait, Lockout}
use Rattle.farm.specs.declared.Event.TheVariants.{E10}
use Rattle.frame.specs.Answers.{part_of}
use Rattle.frame.specs.Frame.{refusal_of, kind_of}
use Rattle.frame.proofs.Accepted.{reading_frame}
use Rattle.receiver.specs.declared.Channel.{Channel}
use Rattle.receiver.specs.declared.ChannelAnswer.{ChannelAnswer}
use Rattle.receiver.specs.declared.Receiver.{Receiver}
use Rattle.receiver.specs.declared.Received.{Received}
use Rattle.base.specs.declared.Refusal.{Refusal}
use Rattle.base.specs.declared.Refusal.TheVariants.{Release}
use Rattle.receiver.specs.Channel.{arrived, may_release}
use Rattle.receiver.specs.Receiver as receiver
use Rattle.base.specs.Refusals.{optional_number}
use Rattle.receiver.specs.Receiver.{largest_buffers, told_by, part_for}
use Rattle.receiver.specs.State.{flags_hold, well_formed}
use Rattle.receiver.proofs.Facts.{refused_changes_nothing}
use Rattle.channels.specs.Limits.{largest_pool}
use Rattle.channels.specs.Table.{is_in, table_holds, has_room, no_record, record_of, Turn, records_after, addressed, unit_part, release_turn, word_writing}
use Rattle.channels.specs.Isolation.{ours, release_buffer, named, Told, turn, told_of, word, release_told, release_next, alone, alone_after, Single}
use Rattle.channels.proofs.Addresses.{addressed_there, addressed_absent, elsewhere_alike}
use Rattle.channels.proofs.Turns.{given_back, released_by, release_by, FrameCase, frame_case}
use Rattle.channels.proofs.Isolation.{frame_told}

-- what the single receiver tells of what it received
abbrev single_told : Receiver → List ℕ → Received → Told
single_told r octets x =
    turn (optional_number x.refusal) (event_number x.event) (must (eqb (optional_number x.refusal) 0) 0 r.farm.channel.number) x.unit (part_for x.unit (part_of octets r.farm.spacecraft r.farm.channel.number))

module _ (r : Receiver) where
  -- its channel, as the one record
  abbrev one : List Channel
  one = r.farm.channel ∷ []

  room_same : has_room r.farm.buffers one ≡ receiver.has_room r
  room_same = ap (λ (k : ℕ). ltb k r.farm.buffers) (add-zero r.farm.channel.held)

  -- a channel that is there is this one
  there_is : (n : ℕ) → is_in n one ≡ true → r.farm.channel.number ≡ n
  there_is n e = go (eqb r.farm.channel.number n) refl e
    where
      go : (b : Bool) → eqb r.farm.channel.number n ≡ b → (b || false) ≡ true → r.farm.channel.number ≡ n
      go true p f = eqb-true r.farm.channel.number n p
      go false p f = absurd (apart f)

  absent_is : (n : ℕ) → is_in n one ≡ false → n ≡ r.farm.channel.number → ⊥
  absent_is n e p = apart (sym e ∙ ap (λ (b : Bool). b || false) (eq-eqb r.farm.channel.number n (sym p)))

  -- octets that its channel takes
  receive_is : (octets : List ℕ) → refusal_of octets r.farm.spacecraft r.farm.channel.number ≡ 0
      → receiver.receive_of r octets ≡ told_by None (arrived (receiver.has_room r) r.farm.channel (kind_of octets)) r
  unfolding receiver.receive_of receiver.by_reading receiver.arrived
  receive_is octets z = rw (reading_frame octets r.farm.spacecraft r.farm.channel.number z)

  -- its channel's address and the one at which the table reads refuse alike
  address_same : (octets : List ℕ) → Octets octets → refusal_of octets r.farm.spacecraft (addressed one octets) ≡ refusal_of octets r.farm.spacecraft r.farm.channel.number
  address_same octets lent = go (is_in (named octets) one) refl
    where
      go : (b : Bool) → is_in (named octets) one ≡ b
          → refusal_of octets r.farm.spacecraft (addressed one octets) ≡ refusal_of octets r.farm.spacecraft r.farm.channel.number
      go true e = ap (refusal_of octets r.farm.spacecraft) (addressed_there one octets e ∙ sym (there_is (named octets) e))
      go false e =
          ap (refusal_of octets r.farm.spacecraft) (addressed_absent one octets e)
          ∙ elsewhere_alike one octets r.farm.spacecraft lent r.farm.channel.number (absent_is (named octets) e)

  -- an answer of the channel n, its octets read at k
  abbrev told_at : List ℕ → ChannelAnswer → ℕ → ℕ → Told
  told_at octets a n k = turn 0 (event_number a.event) n a.unit (part_for a.unit (part_of octets r.farm.spacecraft k))

  module _ (h : table_holds r.farm.spacecraft r.farm.buffers one ≡ true) where
    frame_single : (octets : List ℕ) → Octets octets → {t : Turn} → FrameCase r.farm.spacecraft r.farm.buffers one octets t
        → (frame_told r.farm.spacecraft r.farm.buffers one octets t ≡ single_told r octets (receiver.receive_of r octets))
        × (records_after t one ≡ (receiver.receive_of r octets).next.farm.channel ∷ [])
    frame_single octets lent (FrameCase.unheld f) = absurd (apart (sym f ∙ h))
    frame_single octets lent (FrameCase.refused f d) =
        let number = refusal_of octets r.farm.spacecraft r.farm.channel.number in
        let e : number ≡ 0 → ⊥ = λ z. d (address_same octets lent ∙ z) in
        let x = refused_changes_nothing r octets number refl e in
        let none : must (eqb number 0) 0 r.farm.channel.number ≡ 0 = rw (ne_eqb number 0 e) in (
          ap (λ (k : ℕ). turn k 9 0 None []) (address_same octets lent) ∙ ap (λ (k : ℕ). turn number 9 k None []) (sym none)
              ∙ ap (λ (k : ℕ). turn k 9 (must (eqb k 0) 0 r.farm.channel.number) None []) (sym x.1)
              ∙ sym (ap (single_told r octets) x.0),
          sym (ap (λ (y : Received). y.next.farm.channel ∷ []) x.0),
        )
    frame_single octets lent (FrameCase.arrives f here z) =
        let c = r.farm.channel in
        let n = named octets in
        let kind = kind_of octets in
        let p = there_is n here in
        let q = eq-eqb c.number n p in
        let x = receive_is octets (ap (refusal_of octets r.farm.spacecraft) p ∙ z) in
        let own : record_of n one ≡ c = ap (λ (b : Bool). get_or one (pick b 0 1) no_record) q in
        let same : arrived (has_room r.farm.buffers one) (record_of n one) kind ≡ arrived (receiver.has_room r) c kind =
        ap (λ (b : Bool). arrived b (record_of n one) kind) room_same ∙ ap (λ (y : Channel). arrived (receiver.has_room r) y kind) own in (
          ap (λ (a : ChannelAnswer). told_at octets a n (addressed one octets)) same
              ∙ ap (λ (k : ℕ). told_at octets (arrived (receiver.has_room r) c kind) k (addressed one octets)) (sym p)
              ∙ ap (told_at octets (arrived (receiver.has_room r) c kind) c.number) (addressed_there one octets here ∙ sym p)
              ∙ sym (ap (single_told r octets) x),
          ap (λ (b : Bool). set one (pick b 0 1) (arrived (has_room r.farm.buffers one) (record_of n one) kind).next) q
              ∙ ap (λ (a : ChannelAnswer). a.next ∷ []) same
              ∙ sym (ap (λ (y : Received). y.next.farm.channel ∷ []) x),
        )

    -- its own channel is there
    here : is_in r.farm.channel.number one ≡ true
    here = ap (λ (b : Bool). b || false) (eq-eqb r.farm.channel.number r.farm.channel.number refl)

    own : record_of r.farm.channel.number one ≡ r.farm.channel
    own = ap (λ (b : Bool). get_or one (pick b 0 1) no_record) (eq-eqb r.farm.channel.number r.farm.channel.number refl)

    word_single : (room : ℕ) → word_writing r.farm.spacecraft r.farm.buffers one r.farm.channel.number room ≡ writing (receiver.word_of r) room
    unfolding word_writing receiver.word_of
    word_single room = rw (h, here, own)

    -- with Wait no room both rules of a release are one
    module _ (w : r.farm.channel.variables.state ≡ Wait → has_room r.farm.buffers one ≡ false) where
      may : may_release r.farm.channel.held r.farm.channel.variables.state (has_room r.farm.buffers one) ≡ ltb 0 r.farm.channel.held
      may = go (ltb 0 r.farm.channel.held) r.farm.channel.variables.state refl
        where
          go : (b : Bool) (s : State) → r.farm.channel.variables.state ≡ s → pick b true (pick (not_wait s) false (has_room r.farm.buffers one)) ≡ b
          go true s e = refl
          go false Open e = refl
          go false Wait e = w e
          go false Lockout e = refl

      released : release_turn r.farm.spacecraft r.farm.buffers one r.farm.channel.number
          ≡ released_by r.farm.channel.number true (ltb 0 r.farm.channel.held) r.farm.channel one
      released = release_by r.farm.spacecraft r.farm.buffers one h r.farm.channel.number ∙ rw (here, own, may)

      -- a turn, and what the receiver answers
      abbrev Alike : Turn → Result Received Refusal → Type 0
      Alike t x = (told_of t [] ≡ release_told r x) × (records_after t one ≡ release_next r x ∷ [])

      release_single : (alone ours r (release_buffer r.farm.channel.number) ≡ release_told r (receiver.release_of r))
          × (alone_after ours r (release_buffer r.farm.channel.number) ≡ release_next r (receiver.release_of r) ∷ [])
      unfolding receiver.release_of receiver.answered
      release_single =
          let a = go (ltb 0 r.farm.channel.held) in
          (ap (λ (t : Turn). told_of t []) released ∙ a.0, ap (λ (t : Turn). records_after t one) released ∙ a.1)
        where
          left : Received
          left = receiver.answered None E10 0 (receiver.become (r.farm.channel.held - 1) r.farm.channel.variables r)

          go : (b : Bool) → Alike (released_by r.farm.channel.number true b r.farm.channel one) (must b (Err Release) (Ok left))
          go true = (
            refl,
            ap (λ (b : Bool). set one (pick b 0 1) (given_back r.farm.channel).next) (eq-eqb r.farm.channel.number r.farm.channel.number refl),
          )
          go false = (refl, refl)

      pub single : Single ours r
      unfolding unit_part receiver.unit_part
      single = record {
        frames = λ octets lent. (frame_single octets lent (frame_case r.farm.spacecraft r.farm.buffers one octets lent)).0;
        frames_after = λ octets lent. (frame_single octets lent (frame_case r.farm.spacecraft r.farm.buffers one octets lent)).1;
        releases = release_single.0;
        releases_after = release_single.1;
        words = λ room. ap word (word_single room);
      }

-- a well-formed receiver is a table that holds, and never waits with room
module _ (r : Receiver) (e : well_formed r.farm ≡ true) where
  -- its buffers are a pool, and what it holds is within them; in Wait all of them are taken
  pub holds_well : (table_holds r.farm.spacecraft r.farm.buffers (r.farm.channel ∷ []) ≡ true)
      × (r.farm.channel.variables.state ≡ Wait → has_room r.farm.buffers (r.farm.channel ∷ []) ≡ false)
  unfolding well_formed table_holds
  holds_well =
      let c = r.farm.channel in
      let v = c.variables in
      let flags = flags_hold v.state v.lockout v.wait v.retransmit in
      let e1 = both_right (leb r.farm.spacecraft largest_spacecraft) _ e in
      let e2 = both_right (leb c.number largest_channel) _ e1 in
      let e3 = both_right (eqb (c.window % 2) 0) _ e2 in
      let e4 = both_right (leb 2 c.window) _ e3 in
      let e5 = both_right (leb c.window 254) _ e4 in
      let e6 = both_right (leb 1 r.farm.buffers) _ e5 in
      let e7 = both_right (leb r.farm.buffers largest_buffers) _ e6 in
      let e8 = both_right flags _ e7 in
      let e9 = both_right (ltb v.counter 4) _ e8 in
      let few = leb-true r.farm.buffers largest_buffers (both_left (leb r.farm.buffers largest_buffers) _ e6) in
      let most = leb-true c.held r.farm.buffers (both_left (leb c.held r.farm.buffers) _ e9) in (
        rw (
          both_left (leb r.farm.spacecraft largest_spacecraft) _ e,
          both_left (leb 1 r.farm.buffers) _ e5,
          le-leb r.farm.buffers largest_pool (omega arith),
          both_left (leb c.number largest_channel) _ e1,
          both_left (eqb (c.window % 2) 0) _ e2,
          both_left (leb 2 c.window) _ e3,
          both_left (leb c.window 254) _ e4,
          both_left flags _ e7,
          both_left (ltb v.counter 4) _ e8,
          le-leb (c.held + 0) r.farm.buffers (omega arith),
        ),
        (λ s.
            let f : both (not v.lockout) (both v.wait v.retransmit) ≡ true = rw s at (both_left flags _ e7) in
            let w = both_left v.wait v.retransmit (both_right (not v.lockout) _ f) in
            let full = eqb-true c.held r.farm.buffers (rw w at (both_right (leb c.held r.farm.buffers) _ e9)) in
            le-ltb (c.held + 0) r.farm.buffers (omega arith)),
      )

pub single_well : (r : Receiver) → well_formed r.farm ≡ true → Single ours r
single_well r e = single r (holds_well r e).0 (holds_well r e).1
