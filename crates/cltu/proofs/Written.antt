-- What the writer's parts come to in lent memory: the frame with its fill, and the codeblocks between start and tail sequence.
use mathlib.Core.Path.{◌≡◌, refl, sym, ap, ap₂, ◌∙◌}
use mathlib.Core.List.{List, ◌++◌, append_assoc, append-nil}
use Prim.Native.Nat.{ℕ, ◌+◌, ◌-◌, ◌*◌, ◌/◌, ◌≤◌}
use native.Mathlib.Omega.{arith}
use borrow.Rule.Slice.PartMut.{mid_of, put_mid}
use lib.ListN.{length, take, drop, replicate, length-append, length-drop, length-replicate, replicate-append-replicate, drop_of_length-le}
use lib.Seq.{drop_at, drop-drop, length-take-le}
use Rattle.memory.specs.Placed.{placed}
use Rattle.memory.proofs.Laws.{placed_fits, placed_behind}
use Rattle.memory.proofs.Parts.{placed_length}
use Rattle.start_sequence.specs.StartSequence.{start_sequence}
use Rattle.encoded_data.specs.EncodedData.{encoded}
use Rattle.memory.proofs.Laws.{placed_front}
use Rattle.cltu.specs.Cltu.{codeblocks, fill_octet, filled, information_for, cltu_of, tail_sequence}
use Rattle.cltu.proofs.Places.{length_information}

-- the frame put at the front of memory that is all fill
pub filled_front : (frame : List ℕ) (room : ℕ) → 7 * codeblocks (length frame) ≤ room
    → placed (replicate room fill_octet) 0 frame ≡ filled frame ++ replicate (room - 7 * codeblocks (length frame)) fill_octet
unfolding filled
filled_front frame room h =
    let n = length frame in
    let k = 7 * codeblocks n in
    let fill = replicate (k - n) fill_octet in
    let behind = replicate (room - k) fill_octet in
    let parts : room ≡ n + (k - n + (room - k)) = omega arith in
    let cut : replicate room fill_octet ≡ replicate n fill_octet ++ (fill ++ behind) =
    ap (λ (j : ℕ). replicate j fill_octet) parts
    ∙ sym (replicate-append-replicate n (k - n + (room - k)) fill_octet)
    ∙ ap (λ (l : List ℕ). replicate n fill_octet ++ l) (sym (replicate-append-replicate (k - n) (room - k) fill_octet)) in
    placed_front (replicate room fill_octet) frame (omega (arith, length-replicate room fill_octet))
    ∙ ap (λ (l : List ℕ). frame ++ drop n l) cut
    ∙ ap (λ (l : List ℕ). frame ++ l) (drop_at (replicate n fill_octet) (fill ++ behind) n (length-replicate n fill_octet))
    ∙ sym (append_assoc frame fill behind)

-- octets placed into a part of memory that they fill
part_placed : (memory octets : List ℕ) (a k : ℕ) → k ≡ length octets → a + k ≤ length memory
    → put_mid a k memory (placed (mid_of a k memory) 0 octets) ≡ placed memory a octets
part_placed memory octets a k e h =
    let part = mid_of a k memory in
    let l : length part ≡ k = length-take-le k (drop a memory) (omega (arith, length-drop a memory)) in
    let all : placed part 0 octets ≡ octets =
    placed_front part octets (omega arith) ∙ ap (λ (x : List ℕ). octets ++ x) (drop_of_length-le part {i = length octets} (omega arith)) ∙ append-nil octets in
    let behind : drop k (drop a memory) ≡ drop (a + length octets) memory = drop-drop k a memory ∙ ap (λ (j : ℕ). drop (a + j) memory) e in
    ap₂ (λ (x y : List ℕ). take a memory ++ (x ++ y)) all behind
    ∙ sym (append_assoc (take a memory) octets (drop (a + length octets) memory))
    ∙ sym (placed_fits memory a octets (omega arith))

-- start sequence, codeblocks and tail sequence, each put behind the other: the codeblocks into the part that they fill
pub put_parts : (old started part body : List ℕ) (end : ℕ) → started ≡ placed old 0 start_sequence → part ≡ placed (mid_of 2 (end - 2) started) 0 body
    → end ≡ 2 + length body → end + 8 ≤ length old
    → placed (put_mid 2 (end - 2) started part) end tail_sequence ≡ placed old 0 (start_sequence ++ body ++ tail_sequence)
put_parts old started part body end s p e h =
    let k : end - 2 ≡ length body = omega arith in
    let one : started ≡ start_sequence ++ drop 2 old = s ∙ placed_front old start_sequence (omega arith) in
    let l : length started ≡ length old = ap length s ∙ placed_length old 0 start_sequence in
    let two : put_mid 2 (end - 2) started part ≡ (start_sequence ++ body) ++ drop (length (start_sequence ++ body)) old =
    ap (put_mid 2 (end - 2) started) p
    ∙ part_placed started body 2 (end - 2) k (omega arith)
    ∙ placed_behind old start_sequence body started 2 one refl (omega arith) in
    placed_behind old (start_sequence ++ body) tail_sequence (put_mid 2 (end - 2) started part) end two (omega arith) (omega arith)
    ∙ sym (placed_front old (start_sequence ++ body ++ tail_sequence) (omega (arith, length-append body tail_sequence)))

-- with the information of a frame it is the CLTU
pub cltu_parts : (frame : List ℕ) → start_sequence ++ encoded (length (information_for frame) / 7) (information_for frame) ++ tail_sequence ≡ cltu_of frame
unfolding cltu_of
cltu_parts frame =
    let n : length (information_for frame) / 7 ≡ codeblocks (length frame) = omega (arith, length_information frame) in
    ap (λ (k : ℕ). start_sequence ++ encoded k (information_for frame) ++ tail_sequence) n
