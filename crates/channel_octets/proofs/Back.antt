-- What is kept over a reset comes back: the octets of every record hold that record (`octets_back`), those of records are a table and hold those records
-- (`table_back`), and a table is the octets of the records that it holds, and of no others (`table_only`).
use mathlib.Core.Path.{◌≡◌, refl, sym, ap, ap₂, ◌∙◌}
use mathlib.Core.Bool.{true}
use mathlib.Core.List.{List, [], ◌∷◌, ◌++◌}
use Prim.Native.Nat.{ℕ, ◌*◌, ◌/◌, ◌%◌}
use native.Mathlib.Omega.{arith}
use lib.Dec.{eqb}
use lib.ListN.{length}
use Rattle.base.specs.Octets.{same}
use Rattle.base.proofs.Lists.{same_equal, same_self}
use Rattle.base.proofs.Tests.{both_right}
use Rattle.receiver.specs.declared.Channel.{Channel}
use Rattle.receiver_octets.proofs.Restored.{numbered_back, flags_back}
use Rattle.channel_octets.specs.Kept.{record_octets, octets_of, record_in, table_octets, records_from, records_in, is_table}
use Rattle.channel_octets.proofs.Table.{whole_table}

-- every record is the one that its octets hold, whatever stands behind them
pub octets_back : (c : Channel) (behind : List ℕ) → record_in (octets_of c ++ behind) ≡ c
octets_back c behind =
    let v = c.variables in
    let f = flags_back v.lockout v.wait v.retransmit in
    rw (numbered_back v.state, f.0, f.1, f.2)

pub length_table : (cs : List Channel) → length (table_octets cs) ≡ length cs * record_octets
length_table [] = refl
length_table (c ∷ cs) = omega (arith, length_table cs)

records_back : (cs : List Channel) → records_from (length cs) (table_octets cs) ≡ cs
records_back [] = refl
records_back (c ∷ cs) = ap₂ (λ (x : Channel) (xs : List Channel). x ∷ xs) (octets_back c (table_octets cs)) (records_back cs)

-- the octets of records are a table, and hold those records
pub table_back : (cs : List Channel) → (is_table (table_octets cs) ≡ true) × (records_in (table_octets cs) ≡ cs)
table_back cs =
    let o = table_octets cs in
    let n : length o / record_octets ≡ length cs = omega (arith, length_table cs) in
    let whole : length o % record_octets ≡ 0 = omega (arith, length_table cs) in
    let back : records_in o ≡ cs = ap (λ (m : ℕ). records_from m o) n ∙ records_back cs in
    (whole_table o whole ∙ ap (λ (xs : List Channel). same o (table_octets xs)) back ∙ same_self o, back)

-- a table is the octets of the records that it holds
pub table_only : (o : List ℕ) → is_table o ≡ true → table_octets (records_in o) ≡ o
unfolding is_table
table_only o e = sym (same_equal o (table_octets (records_in o)) (both_right (eqb (length o % record_octets) 0) _ e))
