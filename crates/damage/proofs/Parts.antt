-- The parts of a frame's CLTU: its codeblocks and its tail as they are sent (`codeblock_sent`, `tail_sent`), and what is known of them, in either mode,
-- where few bits of each are received wrong (`known`).
use mathlib.Core.Path.{◌≡◌, refl, sym, ap, ◌∙◌, subst}
use mathlib.Core.Bool.{true}
use mathlib.Core.Logic.{⊎_elim}
use mathlib.Core.List.{List, [], ◌∷◌, ◌++◌}
use Prim.Native.Nat.{ℕ, zero, suc, ◌*◌, ◌<◌, ◌≤◌}
use native.Mathlib.Nat.{mul-suc}
use native.Mathlib.Omega.{arith}
use lib.ListN.{length, take, drop, length-take, length-drop}
use lib.Seq.{take_at, drop_at}
use Rattle.base.specs.Limits.{largest_frame}
use Rattle.base.specs.Octets.{Octets}
use Rattle.base.specs.Distance.{wrong_bits}
use Rattle.base.proofs.Lists.{below_append, below_take, below_drop}
use Rattle.base.proofs.Tests.{apart}
use Rattle.codeblock.specs.Codeblock.{error_control, codeblock_of, bad, judged, is_good, information_of}
use Rattle.codeblock.specs.declared.Mode.{Mode}
use Rattle.codeblock.specs.declared.Mode.TheVariants.{Detecting, Correcting}
use Rattle.codeblock.proofs.Codeblock.{is_encoding_lem, judged_codeblock, length_codeblock, octets_codeblock}
use Rattle.codeblock.proofs.Bits.{none_wrong_lem}
use Rattle.codeblock.proofs.Received.{two_at_most}
use Rattle.randomizer.proofs.Randomized.{octets_randomized}
use Rattle.encoded_data.specs.EncodedData.{encoded}
use Rattle.encoded_data.proofs.Encoded.{length_encoded}
use Rattle.cltu.specs.Cltu.{codeblocks, filled, information_for, cltu_of, tail_sequence}
use Rattle.cltu.proofs.Tail.{octets_tail, tail_wrong_bad}
use Rattle.cltu.proofs.Places.{length_information, length_seven, octets_filled}
use Rattle.cltu.proofs.RoundTrip.{first_block, other_blocks}
use Rattle.damage.specs.Damage.{eight_at}
use Rattle.damage.specs.Few.{eight, FewWrong}
use Rattle.damage.proofs.Blocks.{later}
use Rattle.damage.proofs.Detected.{codeblock_detected, tail_detected}
use Rattle.damage.proofs.Front.{information_at, Known}

-- codeblock b of those sent
sent_at : (n b : ℕ) (information t : List ℕ) → 7 * n ≤ length information → b < n
    → take 8 (drop (8 * b) (encoded n information ++ t)) ≡ codeblock_of (take 7 (drop (7 * b) information))
sent_at zero b information t h l = absurd (omega arith)
sent_at (suc n) zero information t h l = first_block n information t h
sent_at (suc n) (suc b) information t h l =
    sym (later (8 * b) 8 (8 * suc b) (encoded (suc n) information ++ t) (omega (arith, mul-suc 8 b)))
    ∙ ap (λ (s : List ℕ). take 8 (drop (8 * b) s)) (other_blocks n information t h)
    ∙ sent_at n b (drop 7 information) t (simp length-drop (omega (arith, mul-suc 7 n))) (omega arith)
    ∙ ap codeblock_of (later (7 * b) 7 (7 * suc b) information (omega (arith, mul-suc 7 b)))

-- so many wrong bits in a codeblock or in the tail are seen for what they are
abbrev pub most_wrong : Mode → ℕ
most_wrong Detecting = 3
most_wrong Correcting = 2

-- the information of an encoding
front_seven : (information : List ℕ) → length information ≡ 7 → take 7 (codeblock_of information) ≡ information
unfolding codeblock_of
front_seven information l = take_at information (error_control information ∷ []) 7 l

octets_encoded : (n : ℕ) (information : List ℕ) → Octets information → Octets (encoded n information)
unfolding encoded
octets_encoded zero information h = tt
octets_encoded (suc n) information h =
    below_append 256 (codeblock_of (take 7 information)) (encoded n (drop 7 information))
    (octets_codeblock (take 7 information) (below_take 256 7 information h)) (octets_encoded n (drop 7 information) (below_drop 256 7 information h))

module _ (frame : List ℕ) (h : Octets frame) (high : length frame ≤ largest_frame) where
  abbrev n : ℕ
  n = codeblocks (length frame)

  abbrev information : ℕ → List ℕ
  information = information_at frame

  octets_information : Octets (information_for frame)
  unfolding information_for
  octets_information = octets_randomized 0 (filled frame) (octets_filled frame h)

  pub octets_seven : (b : ℕ) → Octets (information_at frame b)
  octets_seven b = below_take 256 7 (drop (7 * b) (information_for frame)) (below_drop 256 (7 * b) (information_for frame) octets_information)

  length_body : length (encoded n (information_for frame)) ≡ 8 * n
  length_body = length_encoded n (information_for frame) (omega (arith, length_information frame))

  pub codeblock_sent : (b : ℕ) → b < codeblocks (length frame) → eight_at b (cltu_of frame) ≡ codeblock_of (information_at frame b)
  unfolding cltu_of
  codeblock_sent b l = sent_at n b (information_for frame) tail_sequence (omega (arith, length_information frame)) l

  tail_sent : eight_at n (cltu_of frame) ≡ tail_sequence
  unfolding cltu_of
  tail_sent = ap (take 8) (drop_at (encoded n (information_for frame)) tail_sequence (8 * n) length_body)

  pub octets_cltu : Octets (cltu_of frame)
  unfolding cltu_of
  octets_cltu =
      (omega arith, (omega arith, below_append 256 (encoded n (information_for frame)) tail_sequence (octets_encoded n (information_for frame) octets_information) octets_tail))

  -- with few wrong bits in each part
  module _ (body : List ℕ) {most : ℕ} (w : FewWrong most frame body) where
    pub eight_length : (b : ℕ) → b ≤ codeblocks (length frame) → length (eight b body) ≡ 8
    eight_length b l = simp (length-take, length-drop) (omega (arith, w.whole))

    pub eight_octets : (b : ℕ) → Octets (eight b body)
    eight_octets b = below_take 256 8 (drop (8 * b) body) (below_drop 256 (8 * b) body w.octets)

    pub few_sent : (b : ℕ) → b < codeblocks (length frame) → wrong_bits (codeblock_of (information_at frame b)) (eight b body) ≤ most
    few_sent b l = subst (λ (s : List ℕ). wrong_bits s (eight b body) ≤ most) (codeblock_sent b l) (w.few b (omega arith))

    few_tail : wrong_bits tail_sequence (eight n body) ≤ most
    few_tail = subst (λ (s : List ℕ). wrong_bits s (eight n body) ≤ most) tail_sent (w.few n (omega arith))

    -- detecting, a codeblock that is good is as sent
    pub good_intact : most ≤ most_wrong Detecting → (b : ℕ) → b < codeblocks (length frame) → is_good (judged Detecting (eight b body)) ≡ true
        → eight b body ≡ codeblock_of (information_at frame b)
    good_intact m b l g = go (wrong_bits (codeblock_of (information b)) (eight b body)) refl
      where
        go : (k : ℕ) → wrong_bits (codeblock_of (information b)) (eight b body) ≡ k → eight b body ≡ codeblock_of (information b)
        go zero e =
            sym (none_wrong_lem (codeblock_of (information b)) (eight b body) (omega (arith, length_codeblock (information b), length_seven frame b l, eight_length b (omega arith)))
            (octets_codeblock (information b) (octets_seven b)) (eight_octets b) e)
        go (suc k) e =
            let bad = codeblock_detected (information b) (eight b body) (length_seven frame b l) (octets_seven b) (eight_length b (omega arith)) (eight_octets b) (omega arith) (omega (arith, few_sent b l)) in
            absurd (apart (sym (ap is_good bad) ∙ g))

    -- in either mode a codeblock that is good has the information sent, and the tail is bad
    good_sent : (mode : Mode) → most ≤ most_wrong mode → (b : ℕ) → b < n → is_good (judged mode (eight b body)) ≡ true
        → information_of (judged mode (eight b body)) ≡ information b
    good_sent Detecting m b l g =
        ap (λ (x : List ℕ). information_of (judged Detecting x)) (good_intact m b l g)
        ∙ ap information_of (judged_codeblock Detecting (information b) (length_seven frame b l))
    good_sent Correcting m b l g =
        ⊎_elim (λ e. absurd (apart (sym (ap is_good e) ∙ g))) (λ e. ap information_of e ∙ front_seven (information b) (length_seven frame b l))
        (two_at_most (codeblock_of (information b)) (eight b body) (is_encoding_lem (information b) (length_seven frame b l)) (eight_length b (omega arith))
        (octets_codeblock (information b) (octets_seven b)) (eight_octets b) Correcting (omega (arith, few_sent b l)))

    tail_seen : (mode : Mode) → most ≤ most_wrong mode → judged mode (eight n body) ≡ bad
    tail_seen Detecting m = tail_detected (eight n body) (eight_length n (omega arith)) (eight_octets n) (omega (arith, few_tail))
    tail_seen Correcting m = tail_wrong_bad Correcting (eight n body) (eight_length n (omega arith)) (eight_octets n) (omega (arith, few_tail))

    pub known : (mode : Mode) → most ≤ most_wrong mode → Known (judged mode) frame body
    known mode m = record { whole = w.whole; sent = good_sent mode m; tail = ap is_good (tail_seen mode m) }
