-- A table of the sequence: its first octet is all ones and each next one stands eight bits later, by one computed test over the whole table.
use mathlib.Core.Path.{◌≡◌, sym, ap, ◌∙◌}
use mathlib.Core.List.{List}
use Prim.Native.Nat.{ℕ, zero, suc, ◌<◌}
use native.Mathlib.Nat.{zero-add}
use native.Mathlib.Numerals.{add-one}
use native.Mathlib.Omega.{arith}
use lib.Dec.{T}
use lib.ListN.{length, get_or}
use lib.Seq.{ext_get_or}
use Rattle.base.proofs.Computed.{follows, table_follows}
use Rattle.randomizer.specs.Randomizer.{later, all_ones, octet, sequence_of}
use Rattle.randomizer.proofs.Randomized.{octet_next_lem, sequence_at, length_sequence}

-- the octet at a place, by the one before it in the table
abbrev pub following : List ℕ → ℕ → ℕ
following table zero = all_ones
following table (suc k) = later 8 (get_or table k 0)

-- the octets that follow so are the sequence's
entry : (table : List ℕ) → T (follows (following table) 0 table) → (k : ℕ) → k < length table → get_or table k 0 ≡ octet k
unfolding octet later
entry table t zero h = table_follows table (following table) t 0 h
entry table t (suc k) h =
    table_follows table (following table) t (suc k) h
    ∙ ap (later 8) (entry table t k (omega arith))
    ∙ sym (octet_next_lem k)
    ∙ ap octet (add-one k)

pub sequence_by_test : (table : List ℕ) (n : ℕ) → length table ≡ n → T (follows (following table) 0 table) → table ≡ sequence_of n 0
sequence_by_test table n l t =
    ext_get_or 0 table (sequence_of n 0) (l ∙ sym (length_sequence n 0))
    (λ k h. entry table t k h ∙ sym (sequence_at n 0 k (omega arith) ∙ ap octet (zero-add k)))
