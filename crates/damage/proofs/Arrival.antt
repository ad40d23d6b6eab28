-- What the session sees of a damaged CLTU (`arrival`; in either mode `arrival_in_mode`): where its reading hands octets out and these arrive at the
-- receiver in the frame's place, that is the frame with its fill, or noise and the frame's loss; both are events of session/specs/Channels, so all
-- that holds beyond demand 3 holds. Where the reading is refused nothing arrives: the frame is lost. So it is of the oldest frame under way after every
-- list of events (`session_arrival`, `session_arrival_in_mode`).
use mathlib.Core.Path.{◌≡◌, refl, sym, ap, ◌∙◌}
use mathlib.Core.Logic.{◌⊎◌, inl, inr, ⊎_elim}
use mathlib.Core.Bool.{true}
use mathlib.Core.List.{List, [], ◌∷◌, ◌++◌, map}
use Prim.Native.Nat.{ℕ, zero, suc, ◌-◌, ◌*◌, ◌≤◌}
use native.Mathlib.Omega.{arith}
use borrow.Author.Tests.{le-leb}
use lib.ListN.{length, replicate, length-replicate}
use Rattle.base.specs.Outcome.{Outcome.done}
use Rattle.codeblock.specs.declared.Mode.{Mode}
use Rattle.codeblock.specs.declared.Mode.TheVariants.{Detecting}
use Rattle.start_sequence.specs.StartSequence.{start_of, Received}
use Rattle.cltu.specs.Cltu.{codeblocks, fill_octet, filled, cltu_of, Found, reading}
use Rattle.fop.specs.Units.{Frame, AD, BD, Unlock, SetVR, Refused, are_octets, written}
use Rattle.session.specs.Frames.{read}
use Rattle.session.specs.Ends.{Settings, Within, Ends, Tied, tables}
use Rattle.session.specs.Session.{Linked, begins, frame_lost, frame_come}
use Rattle.session.specs.Suspension.{link_unrejected}
use Rattle.session.specs.Channels.{LinkEvent, demanded, negative_window, frame_filled, noise, is_fill, largest_fill, is_refused, link_step, link_run}
use Rattle.session.proofs.Octets.{legal_is}
use Rattle.session.proofs.Received.{Readable}
use Rattle.session.proofs.Link.{Reads, fly_reads}
use Rattle.session.proofs.Linked.{from_start}
use Rattle.session.proofs.Harmless.{damaged_frame}
use Rattle.damage.specs.Damage.{Damaged, WholeFrame, Sendable, TooShort}
use Rattle.damage.specs.Few.{FewWrong}
use Rattle.damage.proofs.Refused.{damage_refused_or_sent}
use Rattle.damage.proofs.Mended.{two_refused_or_sent}
use Rattle.damage.proofs.Written.{written_whole}

-- the fill of the last codeblock
fill_octets : (c : ℕ) → are_octets (replicate c fill_octet) ≡ true
fill_octets zero = refl
fill_octets (suc c) = fill_octets c

is_fill_lem : (c : ℕ) → c ≤ largest_fill → is_fill (replicate c fill_octet) ≡ true
is_fill_lem c l = rw (length-replicate c fill_octet, le-leb c largest_fill l, fill_octets c)

-- octets too short for their header are refused
short_refused : (set : Settings) (octets : List ℕ) → TooShort octets → is_refused (read set.own octets) ≡ true
unfolding read
short_refused set octets h = rw (h set.own.spacecraft set.own.channel)

module _ (set : Settings) (vw : Within set) (kept : ℕ) (m : Ends) (σ : Linked m) (x : Frame) (h : Sendable x) (fs : List (List ℕ))
    (under_way : σ.frames ≡ written set.own x ∷ fs) where
  abbrev frame : List ℕ
  frame = written set.own x

  -- with its fill
  sent : (fill : List ℕ) × (frame_come set m (filled frame ∷ fs) σ ≡ link_step set kept m (frame_filled fill) σ)
  unfolding filled link_step
  sent =
      let c : ℕ = 7 * codeblocks (length frame) - length frame in
      (replicate c fill_octet, rw (under_way, is_fill_lem c (omega arith)))

  -- as the frame with its fill, or as noise and the frame's loss
  abbrev pub Arrives : List ℕ → Type 0
  Arrives octets =
      ((fill : List ℕ) × (frame_come set m (octets ∷ fs) σ ≡ link_step set kept m (frame_filled fill) σ))
      ⊎ (frame_come set m (octets ∷ fs) σ ≡ link_run set kept m (noise octets ∷ demanded frame_lost ∷ []) σ)

  handed : (octets : List ℕ) → (octets ≡ filled frame) ⊎ TooShort octets → Arrives octets
  handed octets =
      ⊎_elim (λ z. inl (sent.0, ap (λ (o : List ℕ). frame_come set m (o ∷ fs) σ) z ∙ sent.1))
      (λ z. inr (damaged_frame set kept m σ octets frame fs (short_refused set octets z) under_way))

  whole : WholeFrame frame
  whole = (written_whole set.own vw.spacecraft vw.channel x h).0

  pub arrival : (received octets : List ℕ) (room : ℕ) (found : Found) → Damaged (cltu_of frame) received → reading Detecting received room ≡ done octets found
      → Arrives octets
  arrival received octets room found d e = handed octets (damage_refused_or_sent whole received d room octets found e)

  -- in either mode, with at most two wrong bits in each codeblock and in the tail, behind octets that hold no near place
  pub arrival_in_mode : (before start body octets : List ℕ) → Received start → start_of before ≡ length before → FewWrong 2 frame body
      → (mode : Mode) (room : ℕ) (found : Found) → reading mode (before ++ (start ++ body)) room ≡ done octets found → Arrives octets
  arrival_in_mode before start body octets r none few mode room found e =
      handed octets (two_refused_or_sent frame body whole.octets whole.high before start r none whole few mode room octets found e)

-- So it is of the oldest frame under way in every session: of all ends that do as the tables say, after every list of events in which no lower-layer
-- reject comes while suspended.
sendable : (x : Frame) → Readable x → Sendable x
sendable (AD u) h = let l = legal_is u.octets h.0 in (h.1, l.0, l.1, l.2)
sendable (BD o) h = legal_is o h
sendable Unlock h = absurd h
sendable (SetVR v) h = absurd h
sendable (Refused r) h = absurd h

module _ (set : Settings) (vw : Within set) (m : Ends) (t : Tied set m) (kept : ℕ) (most : kept ≤ negative_window set) (es : List LinkEvent)
    (unrejected : link_unrejected set kept es (begins (tables set)) ≡ true) where
  abbrev come : Linked m
  come = link_run set kept m es (begins m)

  -- it is a frame as a sender hands it down
  oldest : (l : List Frame) → Reads l → (s : List ℕ) (fs : List (List ℕ)) → s ∷ fs ≡ map (written set.own) l
      → (x : Frame) × (Sendable x) × (s ≡ written set.own x)
  oldest [] h s fs e = absurd (omega (arith, ap length e))
  oldest (x ∷ l) h s fs e = (x, sendable x h.0, let z : s ≡ written set.own x = cc in z)

  under_way : (s : List ℕ) (fs : List (List ℕ)) → come.frames ≡ s ∷ fs → (x : Frame) × (Sendable x) × (s ≡ written set.own x)
  under_way s fs e =
      let k = from_start set vw m t kept most (λ κ. Unit {0}) (λ e κ a I x. tt) tt es unrejected in
      let κ = k.session in
      oldest κ.frames (fly_reads set.n _ κ.sent k.inv.base.num _ _ κ.frames k.inv.base.fly) s fs (sym e ∙ k.ends.frames)

  -- octets in its place, with fs behind it, are the frame with its fill, or noise and the frame's loss
  abbrev pub OldestArrives : List (List ℕ) → List ℕ → Type 0
  OldestArrives fs octets =
      ((fill : List ℕ) × (frame_come set m (octets ∷ fs) come ≡ link_step set kept m (frame_filled fill) come))
      ⊎ (frame_come set m (octets ∷ fs) come ≡ link_run set kept m (noise octets ∷ demanded frame_lost ∷ []) come)

  pub session_arrival : (s : List ℕ) (fs : List (List ℕ)) → come.frames ≡ s ∷ fs → (received octets : List ℕ) (room : ℕ) (found : Found)
      → Damaged (cltu_of s) received → reading Detecting received room ≡ done octets found → OldestArrives fs octets
  session_arrival s fs e received octets room found d r =
      let w = under_way s fs e in
      arrival set vw kept m come w.0 w.1 fs (e ∙ ap (λ (o : List ℕ). o ∷ fs) w.2) received octets room found (rw w.2 at d) r

  pub session_arrival_in_mode : (s : List ℕ) (fs : List (List ℕ)) → come.frames ≡ s ∷ fs → (before start body octets : List ℕ) → Received start
      → start_of before ≡ length before → FewWrong 2 s body → (mode : Mode) (room : ℕ) (found : Found)
      → reading mode (before ++ (start ++ body)) room ≡ done octets found → OldestArrives fs octets
  session_arrival_in_mode s fs e before start body octets r none few mode room found q =
      let w = under_way s fs e in
      arrival_in_mode set vw kept m come w.0 w.1 fs (e ∙ ap (λ (o : List ℕ). o ∷ fs) w.2) before start body octets r none (rw w.2 at few) mode room found q
