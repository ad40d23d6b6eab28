-- What writing and reading come to, a law for each of their checks; and the four stores that write a word.
use mathlib.Core.Path.{◌≡◌, refl, ap, ◌∙◌}
use mathlib.Core.Bool.{Bool, true, false}
use mathlib.Core.List.{List, [], ◌∷◌, ◌++◌}
use Prim.Native.Nat.{ℕ, ◌<◌, ◌≤◌}
use native.Mathlib.Omega.{arith}
use borrow.Author.Tests.{le-leb, lt-leb, eq-eqb, ne_eqb}
use lib.Dec.{eqb}
use lib.ListN.{length, drop, get_or, set}
use lib.Seq.{sets-eq}
use Rattle.base.specs.Choice.{must}
use Rattle.base.specs.Fields.{field_at, octets_of}
use Rattle.base.specs.Outcome.{Outcome.done, Outcome.refused}
use Rattle.base.specs.Limits.{largest_channel}
use Rattle.clcw.specs.declared.Clcw.{Clcw}
use Rattle.clcw.specs.Clcw.{virtual_channel, clcw_of, writing, is_valid}
use Rattle.std.specs.Prelude.{Some, None, Ok, Err}
use Rattle.base.specs.Refusals.{result_number}
use Rattle.base.specs.declared.Refusal.TheVariants.{Address, Length}
use Rattle.clcw.specs.declared.ReceivedWord.{ReceivedWord}
use Rattle.clcw.specs.Answers.{WordReading, received_of, reading_of, refusal_of}

-- a word, as reading answers it
abbrev pub a_word : ReceivedWord → WordReading
a_word received = Ok (Some received)

module _ (word : Clcw) (room : ℕ) where
  pub writing_channel : largest_channel < word.channel → writing word room ≡ refused 12 0
  unfolding writing
  writing_channel h = simp (lt-leb word.channel largest_channel h)

  pub writing_counter : word.channel ≤ largest_channel → 3 < word.counter → writing word room ≡ refused 12 0
  unfolding writing
  writing_counter h k = simp (le-leb word.channel largest_channel h, lt-leb word.counter 3 k)

  pub writing_room : word.channel ≤ largest_channel → word.counter ≤ 3 → room < 4 → writing word room ≡ refused 11 0
  unfolding writing
  writing_room h k r = simp (le-leb word.channel largest_channel h, le-leb word.counter 3 k, lt-leb 4 room r)

  pub writing_done : word.channel ≤ largest_channel → word.counter ≤ 3 → 4 ≤ room → writing word room ≡ done (clcw_of word) tt
  unfolding writing
  writing_done h k r = simp (le-leb word.channel largest_channel h, le-leb word.counter 3 k, le-leb 4 room r)

module _ (octets : List ℕ) (channel : ℕ) where
  pub reading_length : (length octets ≡ 4 → ⊥) → reading_of octets channel ≡ Err Length
  unfolding reading_of
  reading_length h = simp (ne_eqb (length octets) 4 h)

  module _ (four : length octets ≡ 4) where
    pub reading_invalid : is_valid octets ≡ false → reading_of octets channel ≡ Ok None
    unfolding reading_of
    reading_invalid v = simp (eq-eqb (length octets) 4 four, v)

    pub reading_address : is_valid octets ≡ true → (field_at virtual_channel octets ≡ channel → ⊥) → reading_of octets channel ≡ Err Address
    unfolding reading_of
    reading_address v h = simp (eq-eqb (length octets) 4 four, v, ne_eqb (field_at virtual_channel octets) channel h)

    pub reading_word : is_valid octets ≡ true → field_at virtual_channel octets ≡ channel → reading_of octets channel ≡ Ok (Some (received_of octets))
    unfolding reading_of
    reading_word v h = simp (eq-eqb (length octets) 4 four, v, eq-eqb (field_at virtual_channel octets) channel h)

-- the number of what reading answers
pub reading_number_lem : (octets : List ℕ) (channel : ℕ) (reading : WordReading) → reading ≡ reading_of octets channel
    → result_number reading ≡ refusal_of octets channel
unfolding reading_of refusal_of
reading_number_lem octets channel reading e =
    ap result_number e ∙ by_checks (eqb (length octets) 4) (is_valid octets) (eqb (field_at virtual_channel octets) channel)
  where
    by_checks : (a b c : Bool)
        → result_number (must a (Err Length) (must b (Ok None) (must c (Err Address) (Ok (Some (received_of octets)))))) ≡ must a 10 (must b 0 (must c 7 0))
    by_checks false b c = refl
    by_checks true false c = refl
    by_checks true true false = refl
    by_checks true true true = refl

-- octet by octet
pub stored : (word : Clcw) (octets out : List ℕ) → octets ≡ clcw_of word → 4 ≤ length out
    → set (set (set (set out 0 (get_or octets 0 0)) 1 (get_or octets 1 0)) 2 (get_or octets 2 0)) 3 (get_or octets 3 0) ≡ clcw_of word ++ drop 4 out
unfolding clcw_of octets_of
stored word octets out e h = sets-eq (get_or octets 0 0 ∷ get_or octets 1 0 ∷ get_or octets 2 0 ∷ get_or octets 3 0 ∷ []) out 0 (omega arith) ∙ rw e
