-- Document 02, order 3: a CLTU received with few wrong bits, behind octets that hold no near place, whatever follows it. With at most one wrong bit
-- in its start sequence, in the 63 bits of each codeblock and in its tail, reading in the correcting mode hands out the frame, and tells exactly
-- how many codeblocks had one (`mended_reading`). With at most two in each codeblock and in the tail, what reading in either mode hands out is the
-- frame as sent, or the frame reader refuses it (`two_refused_or_sent`). Where nothing is wrong both modes read the same (`unchanged_alike`).
use mathlib.Core.Path.{◌≡◌, refl, sym, ap, ◌∙◌}
use mathlib.Core.Bool.{Bool, true, false}
use mathlib.Core.Logic.{◌⊎◌}
use mathlib.Core.List.{List, ◌++◌}
use Prim.Native.Nat.{ℕ, zero, suc, ◌+◌, ◌*◌, ◌<◌, ◌≤◌}
use native.Mathlib.Omega.{arith}
use borrow.Author.Tests.{lt-ltb, le-leb}
use lib.ListN.{length, take, drop}
use lib.Seq.{take_all}
use Rattle.base.specs.Choice.{pick}
use Rattle.base.specs.Limits.{largest_frame, largest_input}
use Rattle.base.specs.Octets.{Octets, same}
use Rattle.base.specs.Outcome.{Outcome.done}
use Rattle.base.specs.Distance.{wrong_bits}
use Rattle.base.proofs.Lists.{same_equal, same_self}
use Rattle.base.proofs.Tests.{apart}
use Rattle.codeblock.specs.Codeblock.{codeblock_of, good, judged, is_good, corrected_of}
use Rattle.codeblock.specs.declared.Mode.{Mode}
use Rattle.codeblock.specs.declared.Mode.TheVariants.{Detecting, Correcting}
use Rattle.codeblock.proofs.Bits.{none_wrong_lem, self_wrong}
use Rattle.codeblock.proofs.Codeblock.{is_encoding_lem, length_codeblock, octets_codeblock}
use Rattle.codeblock.proofs.Received.{one_at_most}
use Rattle.start_sequence.specs.StartSequence.{start_of, Received}
use Rattle.cltu.specs.Cltu.{codeblocks, filled, cltu_of, Found, reading}
use Rattle.cltu.proofs.Judge.{judges}
use Rattle.cltu.proofs.Outcomes.{length_started}
use Rattle.cltu.proofs.Places.{length_seven, length_filled}
use Rattle.cltu.proofs.RoundTrip.{read_back}
use Rattle.damage.specs.Damage.{WholeFrame, TooShort}
use Rattle.damage.specs.Few.{eight, FewWrong, FillerKept, changed_in}
use Rattle.damage.proofs.Blocks.{corrected_sent}
use Rattle.damage.proofs.Front.{information_at, run_all, front_read}
use Rattle.damage.proofs.Parts.{most_wrong, octets_seven, codeblock_sent, eight_length, eight_octets, few_sent, known}
use Rattle.damage.proofs.Refused.{refused_or_sent}

-- "correcting never makes an unchanged CLTU worse": both modes read the same, whatever the room and whatever follows; that nothing is then
-- corrected: cltu/proofs/RoundTrip, `round_trip`
pub unchanged_alike : (before frame behind : List ℕ) (room : ℕ) → start_of before ≡ length before → 1 ≤ length frame
    → reading Correcting (before ++ (cltu_of frame ++ behind)) room ≡ reading Detecting (before ++ (cltu_of frame ++ behind)) room
unchanged_alike before frame behind room none low =
    read_back before frame behind room (judges Correcting) none low ∙ sym (read_back before frame behind room (judges Detecting) none low)

-- of two blocks that differ in at most one bit, the count of wrong bits tells whether they differ
changed_one : (s t : List ℕ) → length s ≡ length t → Octets s → Octets t → wrong_bits s t ≤ 1 → wrong_bits s t ≡ pick (same s t) 0 1
changed_one s t l hs ht few = go (same s t) refl (wrong_bits s t) refl
  where
    go : (b : Bool) → same s t ≡ b → (n : ℕ) → wrong_bits s t ≡ n → wrong_bits s t ≡ pick b 0 1
    go true e n w = ap (wrong_bits s) (sym (same_equal s t e)) ∙ self_wrong s
    go false e zero w = absurd (apart (sym e ∙ ap (same s) (sym (none_wrong_lem s t l hs ht w)) ∙ same_self s))
    go false e (suc n) w = omega arith

-- either mode sees two
two_seen : (mode : Mode) → 2 ≤ most_wrong mode
two_seen Detecting = omega arith
two_seen Correcting = omega arith

module _ (frame body : List ℕ) (h : Octets frame) (high : length frame ≤ largest_frame) where
  abbrev n : ℕ
  n = codeblocks (length frame)

  abbrev information : ℕ → List ℕ
  information = information_at frame

  module _ (before start : List ℕ) (received : Received start) (none : start_of before ≡ length before) where
    -- "at most one wrong bit in the start sequence, in the 63 bits of each codeblock and in the tail reads back the frame with the exact count of
    -- blocks that had one"
    pub mended_reading : FewWrong 1 frame body → FillerKept frame body → (room : ℕ) → 1 ≤ length frame → length (before ++ (start ++ body)) ≤ largest_input
        → 7 * codeblocks (length frame) ≤ room
        → reading Correcting (before ++ (start ++ body)) room
        ≡ done (filled frame) (record {
          place = length before + 2 + 8 * codeblocks (length frame);
          corrected = changed_in (codeblocks (length frame)) (drop 2 (cltu_of frame)) body;
        })
    mended_reading w kept room low limit r =
        let mended = known frame h high body w Correcting (omega arith) in
        let near : (b : ℕ) → b < n → judged Correcting (eight b body) ≡ good (take 7 (codeblock_of (information b))) (wrong_bits (codeblock_of (information b)) (eight b body)) =
        (λ b l. one_at_most (codeblock_of (information b)) (eight b body) (is_encoding_lem (information b) (length_seven frame b l)) (eight_length frame h high body w b (omega arith))
        (octets_codeblock (information b) (octets_seven frame h high b)) (eight_octets frame h high body w b) (few_sent frame h high body w b l) (kept b l)) in
        let all = run_all mended (λ b l. ap is_good (near b l)) in
        let counted = corrected_sent (judged Correcting) n (drop 2 (cltu_of frame)) body (λ b l.
        ap corrected_of (near b l)
        ∙ changed_one (codeblock_of (information b)) (eight b body)
        (omega (arith, length_codeblock (information b), length_seven frame b l, eight_length frame h high body w b (omega arith)))
        (octets_codeblock (information b) (octets_seven frame h high b)) (eight_octets frame h high body w b) (few_sent frame h high body w b l)
        ∙ ap (λ (s : List ℕ). pick (same s (eight b body)) 0 1) (sym (codeblock_sent frame h high b l))) in
        let c : length (before ++ (start ++ body)) ≡ length before + (2 + length body) = length_started before start body received in
        front_read mended before start received none room
        ∙ rw (
          le-leb (length before + (2 + length body)) largest_input (omega arith),
          all,
          lt-ltb 0 n (omega arith),
          le-leb (7 * n) room r,
          take_all (7 * n) (filled frame) (omega (arith, length_filled frame)),
          counted,
        )

    -- "start with at most one wrong bit, every codeblock and the tail with at most two of their 64: what comes out is the frame as sent, or a refusal"
    pub two_refused_or_sent : WholeFrame frame → FewWrong 2 frame body → (mode : Mode) (room : ℕ) (octets : List ℕ) (f : Found)
        → reading mode (before ++ (start ++ body)) room ≡ done octets f → (octets ≡ filled frame) ⊎ TooShort octets
    two_refused_or_sent whole w mode room octets f e =
        refused_or_sent whole (known frame h high body w mode (two_seen mode)) before start received none room octets f e
