-- A record put at its place in a table, as octets and as records: what `put_record` leaves is the table of the records with that one replaced.
use mathlib.Core.Path.{◌≡◌, refl, sym, ap, ◌∙◌}
use mathlib.Core.Bool.{Bool, true, false}
use mathlib.Core.List.{List, [], ◌∷◌, ◌++◌}
use Prim.Native.Nat.{ℕ, zero, suc, ◌+◌, ◌*◌, ◌≤◌}
use native.Mathlib.Omega.{arith}
use borrow.Author.Tests.{leb-true, leb-false}
use lib.Dec.{leb}
use lib.ListN.{length, take, drop, set}
use Rattle.memory.specs.Placed.{placed}
use Rattle.memory.proofs.Laws.{placed_fits, placed_not}
use Rattle.receiver.specs.declared.Channel.{Channel}
use Rattle.channel_octets.specs.Kept.{record_octets, octets_of, table_octets, records_in, is_table}
use Rattle.channel_octets.proofs.Back.{table_only}

-- octets placed behind the first one
placed_next : (x : ℕ) (memory : List ℕ) (place : ℕ) (octets : List ℕ) → placed (x ∷ memory) (suc place) octets ≡ x ∷ placed memory place octets
placed_next x memory place octets = go (leb (place + length octets) (length memory)) refl
  where
    go : (b : Bool) → leb (place + length octets) (length memory) ≡ b → placed (x ∷ memory) (suc place) octets ≡ x ∷ placed memory place octets
    go true e =
        let h : place + length octets ≤ length memory = leb-true (place + length octets) (length memory) e in
        let n : suc place + length octets ≡ suc (place + length octets) = omega arith in
        placed_fits (x ∷ memory) (suc place) octets (omega arith)
        ∙ ap (λ (k : ℕ). x ∷ (take place memory ++ octets ++ drop k (x ∷ memory))) n
        ∙ ap (λ (l : List ℕ). x ∷ l) (sym (placed_fits memory place octets h))
    go false e =
        let h = leb-false (place + length octets) (length memory) e in
        placed_not (x ∷ memory) (suc place) octets (omega arith) ∙ ap (λ (l : List ℕ). x ∷ l) (sym (placed_not memory place octets h))

-- octets placed behind the first ones
placed_after : (front memory : List ℕ) (place : ℕ) (octets : List ℕ) → placed (front ++ memory) (length front + place) octets ≡ front ++ placed memory place octets
placed_after [] memory place octets =
    let e : 0 + place ≡ place = omega arith in
    ap (λ (k : ℕ). placed memory k octets) e
placed_after (x ∷ front) memory place octets =
    let e : suc (length front) + place ≡ suc (length front + place) = omega arith in
    ap (λ (k : ℕ). placed (x ∷ (front ++ memory)) k octets) e
    ∙ placed_next x (front ++ memory) (length front + place) octets
    ∙ ap (λ (l : List ℕ). x ∷ l) (placed_after front memory place octets)

-- of the octets of records
put_table : (cs : List Channel) (place : ℕ) (c : Channel) → placed (table_octets cs) (place * record_octets) (octets_of c) ≡ table_octets (set cs place c)
put_table [] place c = placed_not [] (place * record_octets) (octets_of c) (omega arith)
put_table (d ∷ ds) zero c = placed_fits (octets_of d ++ table_octets ds) 0 (octets_of c) (omega arith)
put_table (d ∷ ds) (suc place) c =
    let e : suc place * record_octets ≡ length (octets_of d) + place * record_octets = omega arith in
    ap (λ (k : ℕ). placed (octets_of d ++ table_octets ds) k (octets_of c)) e
    ∙ placed_after (octets_of d) (table_octets ds) (place * record_octets) (octets_of c)
    ∙ ap (λ (l : List ℕ). octets_of d ++ l) (put_table ds place c)

-- of a table
pub put_record : (o : List ℕ) (place : ℕ) (c : Channel) → is_table o ≡ true → placed o (place * record_octets) (octets_of c) ≡ table_octets (set (records_in o) place c)
put_record o place c e = ap (λ (l : List ℕ). placed l (place * record_octets) (octets_of c)) (sym (table_only o e)) ∙ put_table (records_in o) place c
