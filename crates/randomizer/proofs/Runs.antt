-- The runs of 255 octets, each randomized from the sequence's beginning, one behind the other at the front of the output; and a list filled part by part.
use mathlib.Core.Path.{◌≡◌, refl, sym, ap, ap₂, ◌∙◌}
use mathlib.Core.List.{List, ◌++◌, append_assoc}
use Prim.Native.Nat.{ℕ, ◌+◌, ◌-◌, ◌*◌, ◌%◌, ◌<◌, ◌≤◌, min}
use native.Mathlib.Omega.{arith}
use borrow.Rule.Slice.PartMut.{post_of, put_mid}
use lib.ListN.{length, take, drop, take-append-drop}
use lib.Seq.{take_at, drop_at, take-add, drop-drop, take_all, length-take-le}
use Rattle.std.proofs.lemmas.List.{take_min, length-drop}
use Rattle.memory.specs.Placed.{placed}
use Rattle.memory.proofs.Laws.{placed_mid, placed_behind, placed_front}
use Rattle.randomizer.specs.Randomizer.{randomized}
use Rattle.randomizer.proofs.Randomized.{length_randomized, randomized_part}

-- so many runs of the octets are in the output, old at the beginning; the rest of the octets is left, to be cut by the size
pub record RunsDone (octets old out rest : List ℕ) (size count : ℕ) : Type 0 where
  pub by_period : size ≡ 255
  pub left : rest ≡ drop (count * 255) octets
  pub front : out ≡ take (count * 255) (randomized 0 octets) ++ drop (length (take (count * 255) (randomized 0 octets))) old

-- a run cut from the rest, and what is left behind it
run_cut : (rest run more : List ℕ) (n : ℕ) → rest ≡ run ++ more → length run ≡ min n (length rest) → (run ≡ take n rest) × (more ≡ drop n rest)
run_cut rest run more n e l =
    let t : run ≡ take n rest =
    sym (take_at run more (length run) refl) ∙ sym (ap (take (length run)) e) ∙ ap (λ (j : ℕ). take j rest) l ∙ take_min n rest in
    let d : more ≡ drop n rest =
    sym (drop_at run more (length run) refl)
    ∙ ap (drop (length run)) (sym e ∙ sym (take-append-drop n rest))
    ∙ drop_at (take n rest) (drop n rest) (length run) (ap length (sym t)) in
    (t, d)

module _ {octets old out rest : List ℕ} {size count : ℕ} (h : RunsDone octets old out rest size count) (fits : length octets ≤ length old) (same : length out ≡ length old) where
  -- one run more
  pub run_more : (run more part : List ℕ) (at n size' count' : ℕ) → size' ≡ size → (rest ≡ run ++ more) × (length run ≡ min size (length rest)) × (0 < length rest)
      → at ≡ count * 255 → count' ≡ count + 1 → n ≡ length run → part ≡ randomized 0 run → RunsDone octets old (put_mid at n out part) more size' count'
  run_more run more part at n size' count' z s i k l p =
      let r = randomized 0 octets in
      let lr : length r ≡ length octets = length_randomized 0 octets in
      let left : rest ≡ drop at octets = h.left ∙ ap (λ (j : ℕ). drop j octets) (sym i) in
      let lrest : length rest ≡ length (drop at octets) = ap length left in
      let ld = length-drop at octets in
      let lp : length part ≡ length run = ap length p ∙ length_randomized 0 run in
      let lf : length (take at r) ≡ at = length-take-le at r (omega arith) in
      let e : count' * 255 ≡ at + 255 = omega arith in
      let cut = run_cut rest run more 255 s.0 (s.1 ∙ ap (λ (j : ℕ). min j (length rest)) h.by_period) in
      let run_is : part ≡ take 255 (drop at r) =
      p ∙ ap (randomized 0) (cut.0 ∙ ap (take 255) left) ∙ sym (randomized_part at 255 octets (omega arith)) in
      let whole : take at r ++ part ≡ take (count' * 255) r =
      ap (λ (x : List ℕ). take at r ++ x) run_is ∙ sym (take-add at 255 r) ∙ ap (λ (j : ℕ). take j r) (sym e) in record {
        by_period = z ∙ h.by_period;
        left = cut.1 ∙ ap (drop 255) left ∙ drop-drop 255 at octets ∙ ap (λ (j : ℕ). drop j octets) (sym e);
        front =
            placed_mid out at n part part refl (l ∙ sym lp) (omega arith)
            ∙ placed_behind old (take at r) part out at (h.front ∙ ap (λ (j : ℕ). take j r ++ drop (length (take j r)) old) (sym i)) (sym lf) (omega arith)
            ∙ ap (λ (x : List ℕ). x ++ drop (length x) old) whole;
      }

  -- no octet is left
  pub runs_end : length rest ≡ 0 → out ≡ placed old 0 (randomized 0 octets)
  runs_end z =
      let r = randomized 0 octets in
      let lr : length r ≡ length octets = length_randomized 0 octets in
      let lrest : length rest ≡ length (drop (count * 255) octets) = ap length h.left in
      let ld = length-drop (count * 255) octets in
      let all : take (count * 255) r ≡ r = take_all (count * 255) r (omega arith) in
      h.front ∙ ap (λ (x : List ℕ). x ++ drop (length x) old) all ∙ sym (placed_front old r (omega arith))

-- a part takes the list that is c's up to a, and d's from there, on to e
pub store_part : (c d o part : List ℕ) (a e : ℕ) → o ≡ take a c ++ drop a d → part ≡ take (e - a) (drop a c) → a ≤ e → e ≤ length c
    → put_mid a (e - a) o part ≡ take e c ++ drop e d
store_part c d o part a e eo ep h k =
    let w : a + (e - a) ≡ e = omega arith in
    let l : length (take a c) ≡ a = length-take-le a c (omega arith) in
    let f : take a o ≡ take a c = ap (take a) eo ∙ take_at (take a c) (drop a d) a l in
    let b : post_of a (e - a) o ≡ drop e d =
    ap (λ (t : List ℕ). drop (e - a) (drop a t)) eo
    ∙ ap (drop (e - a)) (drop_at (take a c) (drop a d) a l)
    ∙ drop-drop (e - a) a d
    ∙ ap (λ (j : ℕ). drop j d) w in
    ap₂ (λ (x y : List ℕ). x ++ (part ++ y)) f b
    ∙ ap (λ (x : List ℕ). take a c ++ (x ++ drop e d)) ep
    ∙ sym (append_assoc (take a c) (take (e - a) (drop a c)) (drop e d))
    ∙ ap (λ (x : List ℕ). x ++ drop e d) (sym (take-add a (e - a) c) ∙ ap (λ (j : ℕ). take j c) w)

-- a run of the information s from a multiple of 255 on
pub store_run : (s d o part : List ℕ) (a e : ℕ) → o ≡ take a (randomized 0 s) ++ drop a d → part ≡ randomized 0 (take (e - a) (drop a s)) → a % 255 ≡ 0
    → a ≤ e → e ≤ length s → put_mid a (e - a) o part ≡ take e (randomized 0 s) ++ drop e d
store_run s d o part a e eo ep m h k =
    store_part (randomized 0 s) d o part a e eo (ep ∙ sym (randomized_part a (e - a) s m)) h (omega (arith, length_randomized 0 s))
