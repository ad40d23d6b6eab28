-- Clause 8.7: what reading a damaged CLTU comes to, detecting mode: Front's law, where also a good codeblock is as sent. A damaged codeblock is
-- bad, and the tail is bad whatever its up to three wrong bits are, so reading ends at the first damaged codeblock or at the tail
-- (`damaged_reading`). Damage in the tail alone changes nothing (`tail_damaged`), and damage in the first codeblock is refused with 2 (`first_damaged`).
use mathlib.Core.Path.{◌≡◌, refl, sym, ap, ◌∙◌}
use mathlib.Core.List.{List, []}
use Prim.Native.Nat.{ℕ, ◌+◌, ◌/◌, ◌<◌, ◌≤◌}
use native.Mathlib.Omega.{arith}
use borrow.Author.Tests.{le-leb, ltb-true, ltb-false}
use lib.Dec.{ltb}
use lib.ListN.{length, take, drop, length-drop, take-append-drop}
use Rattle.base.specs.Limits.{largest_frame, largest_input}
use Rattle.base.specs.Octets.{Octets}
use Rattle.base.specs.Outcome.{Outcome.refused}
use Rattle.base.proofs.Lists.{below_drop}
use Rattle.base.proofs.Tests.{apart, not_so}
use Rattle.codeblock.specs.Codeblock.{judged, is_good}
use Rattle.codeblock.specs.declared.Mode.TheVariants.{Detecting}
use Rattle.codeblock.proofs.Codeblock.{judged_codeblock}
use Rattle.codeblock.proofs.Bits.{self_wrong}
use Rattle.start_sequence.specs.StartSequence.{start_of}
use Rattle.start_sequence.proofs.Search.{sequence_received}
use Rattle.encoded_data.proofs.Scan.{run_good}
use Rattle.cltu.specs.Cltu.{codeblocks, cltu_of, reading}
use Rattle.cltu.proofs.Judge.{corrected_none}
use Rattle.cltu.proofs.Places.{length_seven, length_cltu}
use Rattle.damage.specs.Damage.{eight_at, Damaged, reading_front, ReadToDamage}
use Rattle.damage.specs.Few.{FewWrong}
use Rattle.damage.proofs.Front.{information_at, Known, run, run_within, run_bad, front_read}
use Rattle.damage.proofs.Parts.{codeblock_sent, good_intact, known, octets_cltu}

-- reading ends at a damaged codeblock at the latest, and where none is damaged it ends at the tail
module _ {frame received : List ℕ} (r : ReadToDamage frame received) where
  pub ends_before : (b : ℕ) → (eight_at b received ≡ eight_at b (cltu_of frame) → ⊥) → r.blocks ≤ b
  ends_before b d = ltb-false b r.blocks (not_so (ltb b r.blocks) (λ e. d (r.intact b (ltb-true b r.blocks e))))

  ends_behind : ((b : ℕ) → b < codeblocks (length frame) → eight_at b received ≡ eight_at b (cltu_of frame)) → r.blocks ≡ codeblocks (length frame)
  ends_behind all =
      let n = codeblocks (length frame) in
      let last = not_so (ltb r.blocks n) (λ e. let l = ltb-true r.blocks n e in r.damaged l (all r.blocks l)) in
      omega (arith, r.within, ltb-false r.blocks n last)

module _ (frame : List ℕ) (h : Octets frame) (high : length frame ≤ largest_frame) where
  module _ (received : List ℕ) (damaged : Damaged (cltu_of frame) received) where
    abbrev body : List ℕ
    body = drop 2 received

    wrong : FewWrong 3 frame body
    wrong = record {
      whole = simp length-drop (omega (arith, damaged.same_length, length_cltu frame));
      octets = below_drop 256 2 received damaged.octets;
      few = λ b l. damaged.few b;
    }

    detected : Known (judged Detecting) frame body
    detected = known frame h high body wrong Detecting (omega arith)

    run_damaged : run detected < codeblocks (length frame) → eight_at (run detected) received ≡ eight_at (run detected) (cltu_of frame) → ⊥
    run_damaged l e =
        apart (sym (run_bad detected)
        ∙ ap is_good (ap (judged Detecting) (e ∙ codeblock_sent frame h high (run detected) l)
        ∙ judged_codeblock Detecting (information_at frame (run detected)) (length_seven frame (run detected) l)))

    reads : (room : ℕ) → reading Detecting received room ≡ reading_front frame (run detected) room
    unfolding reading_front start_of
    reads room =
        ap (λ (s : List ℕ). reading Detecting s room) (sym (take-append-drop 2 received))
        ∙ front_read detected [] (take 2 received) damaged.start refl room
        ∙ rw (le-leb (0 + (2 + length body)) largest_input (simp length-drop (omega (arith, damaged.same_length, length_cltu frame))), corrected_none (run detected) body)

    pub damaged_reading : ReadToDamage frame received
    damaged_reading = record {
      blocks = run detected;
      within = run_within detected;
      intact = λ b l.
          let k : b < codeblocks (length frame) = omega (arith, run_within detected) in
          good_intact frame h high body wrong (omega arith) b k (run_good (judged Detecting) (length body / 8) body b l) ∙ sym (codeblock_sent frame h high b k);
      damaged = run_damaged;
      read = reads;
    }

    -- where the first codeblock is damaged, reading is refused with 2
    pub first_damaged : (room : ℕ) → (eight_at 0 received ≡ eight_at 0 (cltu_of frame) → ⊥) → reading Detecting received room ≡ refused 2 2
    unfolding reading_front
    first_damaged room d =
        let z : damaged_reading.blocks ≡ 0 = omega (arith, ends_before damaged_reading 0 d) in
        damaged_reading.read room ∙ ap (λ (j : ℕ). reading_front frame j room) z

  undamaged : Damaged (cltu_of frame) (cltu_of frame)
  unfolding cltu_of
  undamaged = record { same_length = refl; octets = octets_cltu frame h high; start = sequence_received; few = λ b. omega (arith, self_wrong (eight_at b (cltu_of frame))) }

  -- where no codeblock is damaged, the tail alone, reading is as of what was sent
  pub tail_damaged : (received : List ℕ) → Damaged (cltu_of frame) received
      → ((b : ℕ) → b < codeblocks (length frame) → eight_at b received ≡ eight_at b (cltu_of frame)) → (room : ℕ) → reading Detecting received room ≡ reading Detecting (cltu_of frame) room
  tail_damaged received damaged all room =
      let r = damaged_reading received damaged in
      let s = damaged_reading (cltu_of frame) undamaged in
      r.read room ∙ ap (λ (j : ℕ). reading_front frame j room) (ends_behind r all ∙ sym (ends_behind s (λ b l. refl))) ∙ sym (s.read room)
