-- A table of 256 entries: its rule by one computed test over the whole table (`rule_by_test`), and an octet that goes through a table with this
-- rule (`through`).
use mathlib.Core.Path.{◌≡◌, refl, sym, ap, ◌∙◌}
use mathlib.Core.List.{List}
use Prim.Native.Nat.{ℕ, ◌*◌, ◌/◌, ◌%◌, ◌<◌}
use native.Mathlib.Omega.{arith}
use lib.Bits.{bit_xor, xor_lt}
use lib.Dec.{T}
use lib.ListN.{length, get_or}
use Rattle.base.specs.Register.{register}
use Rattle.base.proofs.Computed.{follows, table_follows}
use Rattle.fecf.specs.Table.{entry_of, Rule}
use Rattle.fecf.proofs.Table.{octet, entry, by_table_lem}

pub rule_by_test : (table : List ℕ) → length table ≡ 256 → T (follows entry_of 0 table) → Rule table
rule_by_test table l t = record { rule = λ i h. table_follows table entry_of t i (omega arith) }

-- the upper octet and the octet added tell a place in the table
pub place_lt : (r o : ℕ) → r < 65536 → o < 256 → bit_xor (r / 256) o < 256
place_lt r o hr ho = xor_lt 8 (r / 256) o (omega arith) ho

entry_is : (i : ℕ) → entry_of i ≡ entry i
unfolding entry_of register
entry_is i = refl

-- eight bits into the register, by a table with the rule
pub through : (table : List ℕ) (r o : ℕ) → Rule table → r < 65536 → o < 256 → bit_xor (r % 256 * 256) (get_or table (bit_xor (r / 256) o) 0) ≡ octet r o
through table r o h hr ho =
    let place = bit_xor (r / 256) o in
    ap (bit_xor (r % 256 * 256)) (h.rule place (place_lt r o hr ho) ∙ entry_is place) ∙ sym (by_table_lem r o hr ho)
