-- What stands at each place of a written CLTU: the start sequence, the information randomized, the error control octet of each
-- codeblock, which is not, and the tail sequence (`places`).
use mathlib.Core.Path.{◌≡◌, sym, ap, ◌∙◌}
use mathlib.Core.List.{List, [], ◌++◌}
use Prim.Native.Nat.{ℕ, zero, suc, ◌+◌, ◌-◌, ◌*◌, ◌<◌, ◌≤◌}
use native.Mathlib.Nat.{zero-add}
use native.Mathlib.Omega.{arith}
use lib.Bits.{bit_xor}
use lib.ListN.{length, take, drop, get_or, replicate, length-append, length-take, length-drop, length-replicate, get_or-replicate, get_or-append}
use lib.Seq.{get_or-append-add, get_or-take, get_or-drop, get_or_at}
use Rattle.base.specs.Octets.{Octets}
use Rattle.base.proofs.Lists.{below_append}
use Rattle.codeblock.specs.Codeblock.{codeblock_of, error_control}
use Rattle.encoded_data.specs.EncodedData.{encoded}
use Rattle.encoded_data.proofs.Encoded.{length_encoded, encoded_at}
use Rattle.randomizer.specs.Randomizer.{octet, randomized}
use Rattle.randomizer.proofs.Randomized.{randomized_at, length_randomized}
use Rattle.start_sequence.specs.StartSequence.{start_sequence}
use Rattle.cltu.specs.Cltu.{codeblocks, need, fill_octet, filled, information_for, cltu_of, tail_sequence}

pub length_filled : (frame : List ℕ) → length (filled frame) ≡ 7 * codeblocks (length frame)
unfolding filled
length_filled frame = simp (length-append, length-replicate) (omega arith)

pub length_information : (frame : List ℕ) → length (information_for frame) ≡ 7 * codeblocks (length frame)
unfolding information_for
length_information frame = length_randomized 0 (filled frame) ∙ length_filled frame

-- an octet of the information: of the frame, or the fill
pub information_at_lem : (frame : List ℕ) (k : ℕ) → k < 7 * codeblocks (length frame) → get_or (information_for frame) k 0 ≡ bit_xor (get_or (filled frame) k 0) (octet k)
unfolding information_for
information_at_lem frame k h =
    let l : k < length (filled frame) = omega (arith, length_filled frame) in
    randomized_at 0 (filled frame) k l ∙ ap (λ (j : ℕ). bit_xor (get_or (filled frame) k 0) (octet j)) (zero-add k)

pub filled_frame : (frame : List ℕ) (k : ℕ) → k < length frame → get_or (filled frame) k 0 ≡ get_or frame k 0
unfolding filled
filled_frame frame k h = get_or-append frame _ 0 k h

pub filled_fill : (frame : List ℕ) (k : ℕ) → k < 7 * codeblocks (length frame) → length frame ≤ k → get_or (filled frame) k 0 ≡ fill_octet
unfolding filled
filled_fill frame k h l =
    let e : k ≡ length frame + (k - length frame) = omega arith in
    let r : k - length frame < 7 * codeblocks (length frame) - length frame = omega arith in
    ap (λ (j : ℕ). get_or (filled frame) j 0) e
    ∙ get_or-append-add frame (replicate (7 * codeblocks (length frame) - length frame) fill_octet) (k - length frame) 0
    ∙ get_or-replicate (7 * codeblocks (length frame) - length frame) (k - length frame) fill_octet 0 r

pub octets_fill : (n : ℕ) → Octets (replicate n fill_octet)
octets_fill zero = tt
octets_fill (suc n) = (omega arith, octets_fill n)

pub octets_filled : (frame : List ℕ) → Octets frame → Octets (filled frame)
unfolding filled
octets_filled frame h =
    let n = 7 * codeblocks (length frame) - length frame in
    below_append 256 frame (replicate n fill_octet) h (octets_fill n)

-- the octets of a codeblock
block_information : (s : List ℕ) (k i : ℕ) → k + 7 ≤ length s → i < 7 → get_or (codeblock_of (take 7 (drop k s))) i 0 ≡ get_or s (k + i) 0
unfolding codeblock_of
block_information s k i h hi =
    let l : i < length (take 7 (drop k s)) = simp (length-take, length-drop) (omega arith) in
    get_or-append (take 7 (drop k s)) _ 0 i l ∙ get_or-take 7 (drop k s) i 0 hi ∙ get_or-drop k s i 0

block_control : (s : List ℕ) (k : ℕ) → k + 7 ≤ length s → get_or (codeblock_of (take 7 (drop k s))) 7 0 ≡ error_control (take 7 (drop k s))
unfolding codeblock_of
block_control s k h = get_or_at (take 7 (drop k s)) _ [] 0 7 (simp (length-take, length-drop) (omega arith))

-- the octets of a CLTU
module _ (frame : List ℕ) where
  enough : 7 * codeblocks (length frame) ≤ length (information_for frame)
  enough = omega (arith, length_information frame)

  abbrev body : List ℕ
  body = encoded (codeblocks (length frame)) (information_for frame)

  length_body : length body ≡ 8 * codeblocks (length frame)
  length_body = length_encoded (codeblocks (length frame)) (information_for frame) enough

  pub length_cltu : length (cltu_of frame) ≡ need (length frame)
  unfolding cltu_of
  length_cltu = simp length-append (omega (arith, length_body))

  -- the information of codeblock b
  pub length_seven : (b : ℕ) → b < codeblocks (length frame) → length (take 7 (drop (7 * b) (information_for frame))) ≡ 7
  length_seven b h = simp (length-take, length-drop) (omega (arith, length_information frame))

  -- past the start sequence, codeblock b
  cltu_block : (b i : ℕ) → b < codeblocks (length frame) → i < 8
      → get_or (cltu_of frame) (2 + (8 * b + i)) 0 ≡ get_or (codeblock_of (take 7 (drop (7 * b) (information_for frame)))) i 0
  unfolding cltu_of
  cltu_block b i hb hi =
      let l : 8 * b + i < length body = omega (arith, length_body) in
      get_or-append-add start_sequence (body ++ tail_sequence) (8 * b + i) 0
      ∙ get_or-append body tail_sequence 0 (8 * b + i) l
      ∙ encoded_at (codeblocks (length frame)) (information_for frame) b i enough hb hi

  pub cltu_information : (b i : ℕ) → b < codeblocks (length frame) → i < 7 → get_or (cltu_of frame) (2 + (8 * b + i)) 0 ≡ get_or (information_for frame) (7 * b + i) 0
  cltu_information b i hb hi =
      cltu_block b i hb (omega arith) ∙ block_information (information_for frame) (7 * b) i (omega (arith, length_information frame)) hi

  pub cltu_control : (b : ℕ) → b < codeblocks (length frame) → get_or (cltu_of frame) (2 + (8 * b + 7)) 0 ≡ error_control (take 7 (drop (7 * b) (information_for frame)))
  cltu_control b hb = cltu_block b 7 hb (omega arith) ∙ block_control (information_for frame) (7 * b) (omega (arith, length_information frame))

  pub cltu_tail : (i : ℕ) → get_or (cltu_of frame) (2 + (8 * codeblocks (length frame) + i)) 0 ≡ get_or tail_sequence i 0
  unfolding cltu_of
  cltu_tail i =
      get_or-append-add start_sequence (body ++ tail_sequence) (8 * codeblocks (length frame) + i) 0
      ∙ ap (λ (j : ℕ). get_or (body ++ tail_sequence) (j + i) 0) (sym length_body)
      ∙ get_or-append-add body tail_sequence i 0

  pub cltu_start : (i : ℕ) → i < 2 → get_or (cltu_of frame) i 0 ≡ get_or start_sequence i 0
  unfolding cltu_of
  cltu_start i h = get_or-append start_sequence (body ++ tail_sequence) 0 i h

  -- what stands at each place
  pub record Placed : Type 0 where
    pub length_is : length (cltu_of frame) ≡ need (length frame)
    pub start : (i : ℕ) → i < 2 → get_or (cltu_of frame) i 0 ≡ get_or start_sequence i 0
    pub information : (b i : ℕ) → b < codeblocks (length frame) → i < 7
        → get_or (cltu_of frame) (2 + (8 * b + i)) 0 ≡ bit_xor (get_or (filled frame) (7 * b + i) 0) (octet (7 * b + i))
    pub control : (b : ℕ) → b < codeblocks (length frame)
        → get_or (cltu_of frame) (2 + (8 * b + 7)) 0 ≡ error_control (take 7 (drop (7 * b) (randomized 0 (filled frame))))
    pub tail : (i : ℕ) → i < 8 → get_or (cltu_of frame) (2 + (8 * codeblocks (length frame) + i)) 0 ≡ get_or tail_sequence i 0

  pub places : Placed
  unfolding information_for
  places = record {
    length_is = length_cltu;
    start = cltu_start;
    information = λ b i hb hi. cltu_information b i hb hi ∙ information_at_lem frame (7 * b + i) (omega arith);
    control = cltu_control;
    tail = λ i h. cltu_tail i;
  }
