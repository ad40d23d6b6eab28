-- A recorder that keeps too much, at every setting and of all ends that do as the tables say. After a pass of as many units as it keeps (Pass) it
-- repeats the first of them. One more than NW: the receiver is locked out (`locked_out_always`), so NW is tight. 256: the frame has the number
-- expected, and an old unit is accepted over a new one (`old_over_new`).
use mathlib.Core.Path.{◌≡◌, refl, ap, sym, ◌∙◌}
use mathlib.Core.Bool.{Bool, true, true≢false}
use mathlib.Core.List.{List, [], ◌∷◌, ◌++◌, map}
use Prim.Native.Nat.{ℕ, zero, suc, ◌+◌, ◌-◌, ◌/◌}
use native.Mathlib.Omega.{arith}
use borrow.Author.Tests.{lt-ltb, le-ltb, le-leb, lt-leb, ne_eqb}
use lib.Dec.{ltb}
use lib.ListN.{length, replicate}
use Rattle.base.specs.Modulo.{advanced, offset}
use Rattle.base.proofs.Modulo.{offset_back}
use Rattle.fop.specs.Units.{Fdu, AD, legal, written}
use Rattle.farm.specs.Table.{table, accepts}
use Rattle.farm.specs.Window.{ad_event}
use Rattle.farm.specs.declared.State.{State as FarmState}
use Rattle.farm.specs.declared.State.TheVariants.{Open}
use Rattle.farm.specs.declared.Event.{Event as FarmEvent}
use Rattle.farm.specs.declared.Event.TheVariants.{E1, E5}
use Rattle.receiver.specs.Channel as channel
use Rattle.receiver.specs.Receiver as receiver
use Rattle.receiver.specs.declared.Receiver.{Receiver}
use Rattle.session.specs.Frames.{read}
use Rattle.session.specs.Receiver.{frame_arrives, receiver_answer}
use Rattle.session.specs.Ends.{Settings, Within, Ends, Tied, tables}
use Rattle.session.specs.Session.{Linked, History, begins, frame_in, enters, frame_come, after_frame, step, run}
use Rattle.session.specs.Claims.{Claims, BufferFree}
use Rattle.session.specs.Channels.{LinkEvent, demanded, frame_again, negative_window, is_kept, repeated, link_step, link_run}
use Rattle.session.specs.Beyond.{pass, numbered, all_legal, Passed}
use Rattle.session.proofs.Core.{Session, used, frame_event}
use Rattle.session.proofs.Received.{received_is, part_is, answer_by}
use Rattle.session.proofs.Receiver.{begun, start_inv}
use Rattle.session.proofs.Buffers.{start_stock}
use Rattle.session.proofs.Next.{history_of}
use Rattle.session.proofs.Link.{Rel, reads, at_start_lem, tables_tied}
use Rattle.session.proofs.Linked.{run_demanded}
use Rattle.session.proofs.Round as core
use Rattle.session.proofs.Pass.{none_rejects, keeps, through, passes_from_start}

-- legal units
seven_legal : (c : ℕ) → all_legal (replicate c (7 ∷ [])) ≡ true
unfolding legal
seven_legal zero = refl
seven_legal (suc c) = seven_legal c

seven_length : (c x : ℕ) → length (numbered x (replicate c (7 ∷ []))) ≡ c
seven_length zero x = refl
seven_length (suc c) x = ap suc (seven_length c (advanced x 1))

link_append : (set : Settings) (kept : ℕ) (m : Ends) (es fs : List LinkEvent) (σ : Linked m)
    → link_run set kept m (es ++ fs) σ ≡ link_run set kept m fs (link_run set kept m es σ)
unfolding link_run
link_append set kept m [] fs σ = refl
link_append set kept m (e ∷ es) fs σ = link_append set kept m es fs (link_step set kept m e σ)

-- a pass of age units, one or more, and a recorder that keeps as many
module _ (set : Settings) (vw : Within set) (m : Ends) (t : Tied set m) (before : ℕ) where
  abbrev age : ℕ
  age = suc before

  -- the oldest of them, and the others
  abbrev units : List (List ℕ)
  units = (1 ∷ []) ∷ replicate before (7 ∷ [])

  all_legal_lem : all_legal units ≡ true
  unfolding legal
  all_legal_lem = seven_legal before

  abbrev passed : Linked m
  passed = run set m (pass units) (begins m)

  all_pass : Passed set units (begins m) passed (run set (tables set) (pass units) (begins (tables set)))
  all_pass = passes_from_start set vw m t units all_legal_lem

  -- the oldest as it is sent, with the number of the start, and its frame
  abbrev first : Fdu
  first = record { ns = advanced set.n 0; octets = 1 ∷ [] }

  abbrev its_frame : List ℕ
  its_frame = written set.own (AD first)

  sent_is : passed.history.sent ≡ first ∷ numbered (advanced (advanced set.n 0) 1) (replicate before (7 ∷ []))
  unfolding begins
  sent_is = all_pass.sent

  accepted_length : length passed.history.accepted ≡ age
  unfolding begins
  accepted_length = ap length all_pass.accepted ∙ ap suc (seven_length before _)

  kept_still : is_kept age passed.history.sent 0 ≡ true
  kept_still =
      let l : length passed.history.sent ≡ age = ap length sent_is ∙ ap suc (seven_length before _) in
      rw (l, lt-ltb 0 age (omega arith), le-leb age (0 + age) (omega arith))

  under_way : enters passed.frames (repeated set.own age passed.history.sent 0) ≡ its_frame ∷ []
  under_way = rw (kept_still, all_pass.rest.frames, sent_is)

  -- the receiver, which has accepted all of them
  abbrev κ : Session
  κ = core.run set (pass units) (begun set)

  rel : Rel set vw m t passed κ
  rel = through set vw m t (pass units) (begins m) (begun set) (none_rejects units) (at_start_lem set vw m t) (start_inv set vw)

  vr_is : κ.farm.vr ≡ advanced set.n age
  vr_is =
      (keeps set vw (pass units) (begun set) (none_rejects units) (start_inv set vw) (start_stock set)).0.receiver.is_vr
      ∙ ap (advanced set.n) (ap (λ (h : History). length h.accepted) (sym rel.history) ∙ accepted_length)

  -- judges the frame by how far it is behind
  abbrev event : FarmEvent
  event = ad_event set.w κ.farm.state (ltb (used κ) set.buffers) (offset (advanced set.n 0) (advanced set.n age))

  answer_is : m.answer_receiver (frame_arrives its_frame) passed.receiver ≡ answer_by event κ.farm.state (AD first)
  unfolding receiver_answer receiver.answered channel.answered frame_event legal
  answer_is =
      t.answer_receiver (frame_arrives its_frame) passed.receiver rel.good_receiver ∙ ap (receiver_answer (frame_arrives its_frame)) rel.farm
      ∙ rw (received_is set vw (used κ) κ.farm (AD first) (refl, omega arith), part_is set vw (used κ) κ.farm (AD first) (refl, omega arith), vr_is)

  -- the pass, then the recorder repeats the first unit's frame, and it arrives
  abbrev replay : List LinkEvent
  replay = map demanded (pass units) ++ (frame_again 0 ∷ demanded frame_in ∷ [])

  abbrev replayed : Linked m
  replayed = link_run set age m replay (begins m)

  reads_back : read set.own its_frame ≡ AD first
  unfolding legal
  reads_back = reads set vw (AD first) (refl, omega arith)

  history_is : replayed.history ≡ after_frame (AD first) (answer_by event κ.farm.state (AD first)) passed.history
  unfolding link_run link_step step frame_come
  history_is =
      ap (λ (σ : Linked m). σ.history)
      (link_append set age m (map demanded (pass units)) (frame_again 0 ∷ demanded frame_in ∷ []) (begins m)
      ∙ ap (link_run set age m (frame_again 0 ∷ demanded frame_in ∷ [])) (run_demanded set age m (pass units) (begins m)))
      ∙ rw (under_way, answer_is, reads_back)

module _ (set : Settings) (vw : Within set) (m : Ends) (t : Tied set m) where
  -- NW + 1 units: E5
  far : (s : FarmState) (room : Bool)
      → ad_event set.w s room (offset (advanced set.n 0) (advanced set.n (suc (negative_window set)))) ≡ E5
  unfolding ad_event
  far s room =
      let d : ℕ = offset (advanced set.n 0) (advanced set.n (suc (negative_window set))) in
      let e : offset (advanced set.n 0) (advanced set.n (suc (negative_window set))) ≡ 256 - (suc (negative_window set) - 0) =
      offset_back set.n 0 (suc (negative_window set)) (omega arith) (omega (arith, vw.farm_most)) in
      rw (
        ne_eqb d 0 (λ q. omega (arith, e, q, vw.farm_most)),
        le-ltb d (set.w / 2) (omega (arith, e, vw.farm_most)),
        lt-leb 256 (d + set.w / 2) (omega (arith, e, vw.farm_most)),
      )

  pub locked_out_always : (replayed set vw m t (negative_window set)).history.locked_out ≡ true
  unfolding after_frame
  locked_out_always =
      ap (λ (h : History). h.locked_out) (history_is set vw m t (negative_window set))
      ∙ rw (far (κ set vw m t (negative_window set)).farm.state (ltb (used (κ set vw m t (negative_window set))) set.buffers), (rel set vw m t (negative_window set)).history)

  pub refuted_more : ((es : List LinkEvent)
      → Claims set m (link_run set (suc (negative_window set)) m es (begins m)) (link_run set (suc (negative_window set)) (tables set) es (begins (tables set)))) → ⊥
  refuted_more c = true≢false (sym locked_out_always ∙ (c _).never.0)

  -- 256 units: the frame carries the number that is expected. This is the accident: an old unit is accepted over a new one.
  abbrev full : ℕ
  full = 255

  tables_rel : Rel set vw (tables set) (tables_tied set) (run set (tables set) (pass (units set vw m t full)) (begins (tables set))) (κ set vw m t full)
  tables_rel =
      through set vw (tables set) (tables_tied set) (pass (units set vw m t full)) (begins (tables set)) (begun set) (none_rejects (units set vw m t full))
      (at_start_lem set vw (tables set) (tables_tied set)) (start_inv set vw)

  opened : (κ set vw m t full).farm.state ≡ Open
  opened = ap (λ (r : Receiver). r.farm.channel.variables.state) (sym tables_rel.farm) ∙ (all_pass set vw m t full).rest.opened

  free : ltb (used (κ set vw m t full)) set.buffers ≡ true
  free =
      let b : BufferFree set (history_of (κ set vw m t full)) = rw (rel set vw m t full).history at (all_pass set vw m t full).rest.free in
      lt-ltb (used (κ set vw m t full)) set.buffers (omega (arith, b, vw.buffers_least))

  round_again : event set vw m t full ≡ E1
  unfolding ad_event
  round_again =
      let d : offset (advanced set.n 0) (advanced set.n 256) ≡ 0 = omega arith in
      rw (d, free, opened)

  pub old_over_new : (replayed set vw m t full).history.accepted ≡ (passed set vw m t full).history.accepted ++ (first set vw m t full ∷ [])
  unfolding after_frame table accepts
  old_over_new = ap (λ (h : History). h.accepted) (history_is set vw m t full) ∙ rw (round_again, opened)
