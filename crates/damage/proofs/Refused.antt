-- Damage and the frame reader: codeblocks before a damaged one hold less than the frame, so the frame's length field says more than is
-- there and the octets are refused with 4 (`front_refused`). So whatever reading a damaged CLTU hands out is refused as a frame, or it is
-- the frame as sent (`refused_or_sent`, by any judge; `damage_refused_or_sent`).
use mathlib.Core.Path.{◌≡◌, refl, sym, ap, ap₂, ◌∙◌, subst}
use mathlib.Core.Bool.{Bool, true, false}
use mathlib.Core.Logic.{◌⊎◌, inl, inr}
use mathlib.Core.List.{List, ◌++◌}
use Prim.Native.Nat.{ℕ, ◌+◌, ◌*◌, ◌%◌, ◌<◌, ◌≤◌}
use native.Mathlib.Omega.{arith}
use borrow.Author.Tests.{le-leb, lt-leb, leb-true, leb-false, ltb-true, ltb-false}
use lib.Dec.{leb, ltb}
use lib.ListN.{length, take, get_or, length-take}
use lib.Seq.{get_or-take, take_all}
use Rattle.base.specs.Choice.{must}
use Rattle.base.specs.Limits.{largest_input}
use Rattle.base.specs.Outcome.{Outcome.done, Outcome.refused}
use Rattle.base.proofs.Lists.{octets_at_lem, below_take}
use Rattle.std.specs.Prelude.{Option}
use Rattle.codeblock.specs.declared.Judged.{Judged}
use Rattle.codeblock.specs.declared.Mode.TheVariants.{Detecting}
use Rattle.start_sequence.specs.StartSequence.{start_of, Received}
use Rattle.cltu.specs.Cltu.{codeblocks, filled, cltu_of, Found, reading_by, reading}
use Rattle.cltu.proofs.Places.{length_filled, filled_frame, octets_filled}
use Rattle.frame.specs.Frame.{total_of, refusal_of}
use Rattle.std.specs.Prelude.{Err}
use Rattle.base.specs.Refusals.{frame_refusal}
use Rattle.frame.proofs.Octets.{total_is, length_checks_lem}
use Rattle.frame.proofs.Accepted.{reading_refused}
use Rattle.damage.specs.Damage.{eight_at, Damaged, reading_front, ReadToDamage, WholeFrame, TooShort}
use Rattle.damage.proofs.Front.{Known, front_at, run, run_within, front_read}
use Rattle.damage.proofs.Reading.{damaged_reading, ends_before}

-- a frame whose length field says its length
module _ {frame : List ℕ} (w : WholeFrame frame) where
  module _ (m : ℕ) (few : m < codeblocks (length frame)) where
    abbrev front : List ℕ
    front = take (7 * m) (filled frame)

    front_length : length front ≡ 7 * m
    front_length = simp length-take (omega (arith, length_filled frame))

    front_octets : (i : ℕ) → get_or front i 0 < 256
    front_octets = octets_at_lem front (below_take 256 (7 * m) (filled frame) (octets_filled frame w.octets))

    front_at_lem : (i : ℕ) → i < 7 * m → i < length frame → get_or front i 0 ≡ get_or frame i 0
    front_at_lem i l k = get_or-take (7 * m) (filled frame) i 0 l ∙ filled_frame frame i k

    front_says : 8 ≤ 7 * m → length frame ≡ total_of front
    front_says l =
        sym w.says
        ∙ total_is frame (octets_at_lem frame w.octets) w.low
        ∙ ap₂ (λ (x y : ℕ). x % 4 * 256 + y + 1) (sym (front_at_lem 2 (omega arith) (omega (arith, w.low)))) (sym (front_at_lem 3 (omega arith) (omega (arith, w.low))))
        ∙ sym (total_is front front_octets (omega (arith, front_length)))

    refusal_front : (spacecraft channel : ℕ) → refusal_of front spacecraft channel ≡ 4
    unfolding refusal_of
    refusal_front spacecraft channel = go (leb 8 (7 * m)) refl
      where
        go : (b : Bool) → leb 8 (7 * m) ≡ b → refusal_of front spacecraft channel ≡ 4
        go true e =
            let l : 8 ≤ 7 * m = leb-true 8 (7 * m) e in
            length_checks_lem front (length frame) spacecraft channel (front_says l)
            ∙ rw (front_length, le-leb 8 (7 * m) l, le-leb 8 (length frame) w.low, lt-leb (length frame) (7 * m) (omega arith))
        go false e =
            let l : 7 * m < 8 = leb-false 8 (7 * m) e in
            rw (front_length, lt-leb 8 (7 * m) l)

    pub front_refused : TooShort (take (7 * m) (filled frame))
    front_refused spacecraft channel =
        let e = refusal_front spacecraft channel in
        (reading_refused front spacecraft channel (λ z. omega arith)).0 ∙ ap (λ (n : ℕ). Err (frame_refusal n)) e

  -- what a reading hands out is the front of the frame: all of it, or too short
  handed : (fits : Bool) (offset m corrected room : ℕ) (octets : List ℕ) (found : Found)
      → must fits (refused 10 0) (front_at frame offset m corrected room) ≡ done octets found → take (7 * m) (filled frame) ≡ octets
  handed fits offset m corrected room octets found e = go fits (ltb 0 m) (leb (7 * m) room) _ e
    where
      go : (a b c : Bool) (f : Found) → must a (refused 10 0) (must b (refused 2 offset) (must c (refused 11 0) (done (take (7 * m) (filled frame)) f))) ≡ done octets found
          → take (7 * m) (filled frame) ≡ octets
      go true true true f e = cc
      go true true false f e = absurd (let z : ◌≡◌ {A = ℕ} 0 1 = cc in omega arith)
      go true false c f e = absurd (let z : ◌≡◌ {A = ℕ} 0 1 = cc in omega arith)
      go false b c f e = absurd (let z : ◌≡◌ {A = ℕ} 0 1 = cc in omega arith)

  sent_or_short : (m : ℕ) {octets : List ℕ} → m ≤ codeblocks (length frame) → take (7 * m) (filled frame) ≡ octets → (octets ≡ filled frame) ⊎ TooShort octets
  sent_or_short m {octets} l e = go (ltb m (codeblocks (length frame))) refl
    where
      go : (b : Bool) → ltb m (codeblocks (length frame)) ≡ b → (octets ≡ filled frame) ⊎ TooShort octets
      go true t = inr (subst TooShort e (front_refused m (ltb-true m (codeblocks (length frame)) t)))
      go false t =
          let k : codeblocks (length frame) ≤ m = ltb-false m (codeblocks (length frame)) t in
          inl (sym e ∙ take_all (7 * m) (filled frame) (omega (arith, length_filled frame)))

  -- by any judge, where it is known of each codeblock that it is bad or has the information sent, and of the tail that it is bad
  pub refused_or_sent : {judge : List ℕ → Option Judged} {body : List ℕ} → Known judge frame body → (before start : List ℕ) → Received start → start_of before ≡ length before
      → (room : ℕ) (octets : List ℕ) (found : Found) → reading_by judge (before ++ (start ++ body)) room ≡ done octets found → (octets ≡ filled frame) ⊎ TooShort octets
  refused_or_sent {judge} {body} known before start received none room octets found e =
      sent_or_short (run known) (run_within known)
      (handed (leb (length before + (2 + length body)) largest_input) (length before + 2) (run known) _ room octets found (sym (front_read known before start received none room) ∙ e))

  -- whatever is handed out of a damaged CLTU
  module _ (received : List ℕ) (damaged : Damaged (cltu_of frame) received) (room : ℕ) (octets : List ℕ) (found : Found) (e : reading Detecting received room ≡ done octets found) where
    abbrev r : ReadToDamage frame received
    r = damaged_reading frame w.octets w.high received damaged

    front_handed : take (7 * r.blocks) (filled frame) ≡ octets
    unfolding reading_front
    front_handed = handed true 2 r.blocks 0 room octets found (sym (r.read room) ∙ e)

    -- where a codeblock of the frame is damaged
    pub damage_refused : (b : ℕ) → b < codeblocks (length frame) → (eight_at b received ≡ eight_at b (cltu_of frame) → ⊥) → TooShort octets
    damage_refused b l d = subst TooShort front_handed (front_refused r.blocks (omega (arith, ends_before r b d)))

    -- and in every case
    pub damage_refused_or_sent : (octets ≡ filled frame) ⊎ TooShort octets
    damage_refused_or_sent = sent_or_short r.blocks r.within front_handed
