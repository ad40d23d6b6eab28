-- What a list that was moved down holds: at each place what stood `count` places further on.
use mathlib.Core.Path.{◌≡◌, ap, ◌∙◌}
use mathlib.Core.List.{List, ◌++◌, append-nil}
use Prim.Native.Nat.{ℕ, ◌+◌, ◌-◌, ◌<◌}
use native.Mathlib.Omega.{arith}
use lib.ListN.{length, get_or, drop, length-drop, length-append, get_or-append}
use lib.Seq.{get_or-drop, drop-length}
use Rattle.store.specs.Slid.{slid}

pub slid_at : (count i : ℕ) (s : List ℕ) → count + i < length s → get_or (slid count s) i 0 ≡ get_or s (count + i) 0
unfolding slid
slid_at count i s h =
    let k : length (drop count s) ≡ length s - count = length-drop count s in
    let b : i < length (drop count s) = omega arith in
    get_or-append (drop count s) (drop (length s - count) s) 0 i b ∙ get_or-drop count s i 0

pub slid_none : (s : List ℕ) → slid 0 s ≡ s
unfolding slid
slid_none s =
    let a : length s - 0 ≡ length s = omega arith in
    ap (λ (n : ℕ). s ++ drop n s) a ∙ ap (λ (x : List ℕ). s ++ x) (drop-length s) ∙ append-nil s

pub slid_length : (count : ℕ) (s : List ℕ) → length (slid count s) ≡ length s
unfolding slid
slid_length count s =
    let a : length (drop count s) ≡ length s - count = length-drop count s in
    let b : length (drop (length s - count) s) ≡ length s - (length s - count) = length-drop (length s - count) s in
    length-append (drop count s) (drop (length s - count) s) ∙ (let q : length (drop count s) + length (drop (length s - count) s) ≡ length s = omega arith in q)
