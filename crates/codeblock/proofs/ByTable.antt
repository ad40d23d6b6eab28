-- The tables by which a codeblock goes. Each has its rule by one computed test over the whole table (`share_table`, `bit_table`). The first
-- holds the shares of octets, which add up to the error control octet (`next_parity`, `next_two`); the second the search for the wrong
-- bit (`bit_found`), which tells the judgement in either mode (`none_judged`, `detecting_judged`, `correcting_judged`).
use mathlib.Core.Path.{◌≡◌, refl, sym, ap, ap₂, ◌∙◌}
use mathlib.Core.Bool.{Bool, true, false}
use mathlib.Core.List.{List, [], ◌∷◌}
use mathlib.Core.Logic.{◌⊎◌, inl, inr, ⊎_elim}
use Prim.Native.Nat.{ℕ, zero, suc, ◌+◌, ◌*◌, ◌/◌, ◌%◌, ◌<◌, ◌≤◌}
use native.Mathlib.Nat.{mul-one}
use native.Mathlib.Omega.{arith}
use lib.Bits.{bit_xor, xor_lt, xor_comm, xor_zero_r}
use lib.Dec.{T, eqb}
use lib.ListN.{length, take, get_or, replicate}
use Rattle.std.specs.Prelude.{Option, Some, None}
use Rattle.std.specs.Option.{option_map}
use Rattle.base.specs.Choice.{pick}
use Rattle.base.specs.Octets.{Octets}
use Rattle.base.specs.Register.{shift_bit, shift_bits, register}
use Rattle.base.proofs.Computed.{follows, tabulate, table_follows}
use Rattle.base.proofs.Register.{shift_bits_lt}
use Rattle.base.proofs.Table.{shifts, shifts_xor, eight}
use Rattle.codeblock.specs.declared.Mode.{Mode}
use Rattle.codeblock.specs.declared.Mode.TheVariants.{Detecting, Correcting}
use Rattle.codeblock.specs.Codeblock.{generator, parity, error_control, codeblock_of, syndrome_of, flipped, good, bad, otherwise, judged}
use Rattle.codeblock.specs.Table.{share_of, ShareTable, single_syndrome, no_bit, bit_for, BitTable, numbered, righted, judged_by}
use Rattle.codeblock.proofs.Codeblock.{take_flipped, length_flipped}
use Rattle.codeblock.proofs.Sums.{moved_by, control_is}
use Rattle.codeblock.proofs.SingleBits.{column_of, columns63, place_in}
use Rattle.codeblock.proofs.Syndrome.{syndrome_flipped, mended_at, mended_search, none_found, odd_none, judged_zero, judged_other}

-- the share at each place of the two tables
abbrev pub share_at : ℕ → ℕ
share_at i = share_of (i / 256) (i % 256)

pub share_table : (table : List ℕ) → length table ≡ 512 → T (follows share_at 0 table) → ShareTable table
share_table table l t = record { rule = λ i h. table_follows table share_at t i (omega arith) }

-- entry o of table n
pub share : (table : List ℕ) (n o : ℕ) → ShareTable table → n < 2 → o < 256 → get_or table (256 * n + o) 0 ≡ share_of n o
share table n o t hn ho =
    let q : (256 * n + o) / 256 ≡ n = omega arith in
    let r : (256 * n + o) % 256 ≡ o = omega arith in
    t.rule (256 * n + o) (omega arith) ∙ ap₂ share_of q r

-- zeros move what the register holds, a place up
zeros_moved : (n r : ℕ) → register 6 generator r (replicate n 0) * 2 ≡ moved_by n (r * 2)
unfolding register
zeros_moved zero r = refl
zeros_moved (suc n) r =
    zeros_moved n (shift_bits 6 generator 8 r 0)
    ∙ ap (moved_by n) (sym (eight 6 generator 1 0 refl r 0 (omega arith)) ∙ ap (shifts 7 (generator * 2) 8) (xor_zero_r (r * 2)))

-- octets go through the register, a place up, by exclusive or
octet_moved : (r o : ℕ) → o < 256 → shift_bits 6 generator 8 r o * 2 ≡ shifts 7 (generator * 2) 8 (bit_xor (r * 2) o)
octet_moved r o h = sym (eight 6 generator 1 0 refl r o h) ∙ ap (λ (x : ℕ). shifts 7 (generator * 2) 8 (bit_xor (r * 2) x)) (mul-one o)

share_moved : (n o : ℕ) → o < 256 → share_of n o ≡ moved_by (suc n) o
unfolding share_of parity register
share_moved n o h = zeros_moved n (shift_bits 6 generator 8 0 o) ∙ ap (moved_by n) (octet_moved 0 o h)

even : (p : ℕ) → p % 2 ≡ 0 → p / 2 * 2 ≡ p
even p e = omega (arith, e)

-- an octet more: the register stands a place up
pub next_parity : (p o : ℕ) → p % 2 ≡ 0 → p < 256 → o < 256 → share_of 0 (bit_xor p o) ≡ shift_bits 6 generator 8 (p / 2) o * 2
next_parity p o e hp ho =
    share_moved 0 (bit_xor p o) (xor_lt 8 p o hp ho)
    ∙ ap (λ (x : ℕ). shifts 7 (generator * 2) 8 (bit_xor x o)) (sym (even p e))
    ∙ sym (octet_moved (p / 2) o ho)

-- and two octets more: the share of the first, added to what the register held, and that of the second
pub next_two : (p o q : ℕ) → p % 2 ≡ 0 → p < 256 → o < 256 → q < 256
    → bit_xor (share_of 1 (bit_xor p o)) (share_of 0 q) ≡ shift_bits 6 generator 8 (shift_bits 6 generator 8 (p / 2) o) q * 2
next_two p o q e hp ho hq =
    let m = shifts 7 (generator * 2) 8 in
    let r = shift_bits 6 generator 8 (p / 2) o in
    let l : r < 128 = shift_bits_lt 6 generator (omega arith) 8 (p / 2) o (omega arith) ho in
    let d : m (bit_xor p o) ≡ r * 2 = ap (λ (x : ℕ). m (bit_xor x o)) (sym (even p e)) ∙ sym (octet_moved (p / 2) o ho) in
    ap₂ bit_xor (share_moved 1 (bit_xor p o) (xor_lt 8 p o hp ho) ∙ ap m d) (share_moved 0 q hq)
    ∙ sym (shifts_xor 7 (generator * 2) (omega arith) 8 (r * 2) q (omega arith) hq)
    ∙ sym (octet_moved r q hq)

-- seven octets, two and two and two and one: the error control octet
pub seven_octets : (a b c d e f g : ℕ)
    → (let next : ℕ → ℕ → ℕ = shift_bits 6 generator 8 in bit_xor (next (next (next (next (next (next (next 0 a) b) c) d) e) f) g * 2) 0b1111_1110)
    ≡ error_control (a ∷ b ∷ c ∷ d ∷ e ∷ f ∷ g ∷ [])
unfolding parity register
seven_octets a b c d e f g =
    let s = a ∷ b ∷ c ∷ d ∷ e ∷ f ∷ g ∷ [] in
    xor_comm (parity s * 2) 0b1111_1110 ∙ sym (control_is s)

-- the syndrome of a single wrong bit is its column
zeros : List ℕ
zeros = codeblock_of (replicate 7 0)

single_column : (i : ℕ) → i < 64 → single_syndrome i ≡ column_of i
unfolding single_syndrome zeros codeblock_of error_control parity register shift_bits shift_bit syndrome_of
single_column i h = syndrome_flipped zeros refl (omega arith) i h

-- so the bit is found among the columns
bit_place : (n i v : ℕ) → i + n ≤ 63 → bit_for n i v ≡ place_in i (tabulate column_of n i) v
unfolding bit_for
bit_place zero i v k = refl
bit_place (suc n) i v k =
    ap (λ (c : ℕ). pick (eqb c v) i (bit_for n (suc i) v)) (single_column i (omega arith))
    ∙ ap (λ (x : ℕ). pick (eqb (column_of i) v) i x) (bit_place n (suc i) v (omega arith))

-- the bit for a syndrome by its seven parity bits, among these columns
abbrev pub bit_in : List ℕ → ℕ → ℕ
bit_in columns i = place_in 0 columns (i * 2)

pub bit_table : (table : List ℕ) → length table ≡ 128 → T (follows (bit_in columns63) 0 table) → BitTable table
bit_table table l t = record { rule = λ i h. table_follows table (bit_in columns63) t i (omega arith) ∙ sym (bit_place 63 0 (i * 2) (omega arith)) }

-- it is one of the first 63, or none
pub bit_found : (n i v : ℕ) → i + n ≤ 63 → (bit_for n i v < 63) ⊎ (bit_for n i v ≡ no_bit)
unfolding bit_for
bit_found zero i v k = inr refl
bit_found (suc n) i v k = go (eqb (single_syndrome i) v) (bit_found n (suc i) v (omega arith))
  where
    go : (b : Bool) → (bit_for n (suc i) v < 63) ⊎ (bit_for n (suc i) v ≡ no_bit)
        → (pick b i (bit_for n (suc i) v) < 63) ⊎ (pick b i (bit_for n (suc i) v) ≡ no_bit)
    go true later = inl (omega arith)
    go false later = later

pub bit_most : (v : ℕ) → bit_for 63 0 v ≤ no_bit
bit_most v = ⊎_elim (λ h. omega arith) (λ e. omega arith) (bit_found 63 0 v (omega arith))

-- by the table, where the filler bit of the syndrome is zero; no bit gives another syndrome
pub bit_even : (table : List ℕ) (v : ℕ) → BitTable table → v < 256 → v % 2 ≡ 0 → get_or table (v / 2) 0 ≡ bit_for 63 0 v
bit_even table v t h e =
    let d : v / 2 * 2 ≡ v = omega (arith, e) in
    t.rule (v / 2) (omega arith) ∙ ap (bit_for 63 0) d

pub bit_odd : (v : ℕ) → v % 2 ≡ 1 → bit_for 63 0 v ≡ no_bit
bit_odd v o = bit_place 63 0 v (omega arith) ∙ none_found v (odd_none v o)

-- the information of a good codeblock, and its length
pub righted_seven : (wrong : Option ℕ) (block : List ℕ) → take 7 (righted wrong block) ≡ righted wrong (take 7 block)
righted_seven None block = refl
righted_seven (Some bit) block = sym (take_flipped 7 bit block)

pub length_righted : (wrong : Option ℕ) (octets : List ℕ) → length (righted wrong octets) ≡ length octets
length_righted None octets = refl
length_righted (Some bit) octets = length_flipped bit octets

module _ (block : List ℕ) (l : length block ≡ 8) {v : ℕ} (e : v ≡ syndrome_of block) where
  pub none_judged : (mode : Mode) → v ≡ 0 → judged mode block ≡ judged_by (Some None) block
  none_judged mode z = judged_zero block l e mode z

  pub detecting_judged : (v ≡ 0 → ⊥) → judged Detecting block ≡ judged_by None block
  unfolding otherwise
  detecting_judged n = judged_other block l e Detecting n

  pub correcting_judged : Octets block → (v ≡ 0 → ⊥) → judged Correcting block ≡ judged_by (option_map Some (numbered (bit_for 63 0 v))) block
  unfolding otherwise
  correcting_judged h n =
      judged_other block l e Correcting n
      ∙ mended_search block l h
      ∙ ap (λ (i : ℕ). mended_at i block) (ap (place_in 0 columns63) (sym e) ∙ sym (bit_place 63 0 v (omega arith)))
      ∙ by_number (eqb (bit_for 63 0 v) no_bit)
    where
      by_number : (b : Bool) → pick b bad (good (take 7 (flipped (bit_for 63 0 v) block)) 1)
          ≡ judged_by (option_map Some (pick b None (Some (bit_for 63 0 v)))) block
      by_number true = refl
      by_number false = refl
