-- What reading in a mode given as a number, and the judge of a codeblock, come to, a law for each of their checks. Where the mode is 0 or 1
-- reading is the definition's in that mode (`reading_mode`): it gives 10 itself.
use mathlib.Core.Path.{◌≡◌, refl, ap, sym}
use mathlib.Core.Bool.{Bool, true, false}
use mathlib.Core.List.{List}
use Prim.Native.Nat.{ℕ, ◌<◌, ◌≤◌}
use borrow.Author.Tests.{le-leb, lt-leb, eq-eqb, ne_eqb, leb-false}
use lib.Dec.{leb}
use lib.ListN.{length}
use Rattle.base.specs.Choice.{must}
use Rattle.base.specs.Limits.{largest_input}
use Rattle.base.specs.Outcome.{Outcome, Outcome.done, Outcome.refused, answer, after, number_of}
use Rattle.std.specs.Prelude.{Some, None}
use Rattle.codeblock.specs.Codeblock.{judged}
use Rattle.codeblock.specs.declared.Judged.{Judged}
use Rattle.cltu.specs.Cltu.{reading}
use Rattle.cltu.proofs.Outcomes.{reading_long}
use Rattle.pondreszi_numbers.specs.Numbers.{largest_mode, mode_of, cltu_reading, information_put, codeblock_judging, bits_corrected}

module _ (mode : ℕ) (input : List ℕ) (room : ℕ) where
  pub mode_long : largest_input < length input → cltu_reading mode input room ≡ refused 10 0
  unfolding cltu_reading
  mode_long h = rw (lt-leb (length input) largest_input h)

  pub mode_other : length input ≤ largest_input → largest_mode < mode → cltu_reading mode input room ≡ refused 12 0
  unfolding cltu_reading
  mode_other h m = rw (le-leb (length input) largest_input h, lt-leb mode largest_mode m)

  pub reading_mode : mode ≤ largest_mode → cltu_reading mode input room ≡ reading (mode_of mode) input room
  unfolding cltu_reading
  reading_mode m = rw (le-leb mode largest_mode m) (go (leb (length input) largest_input) refl)
    where
      go : (b : Bool) → leb (length input) largest_input ≡ b → must b (refused 10 0) (reading (mode_of mode) input room) ≡ reading (mode_of mode) input room
      go true e = refl
      go false e = sym (reading_long (judged (mode_of mode)) input room (leb-false (length input) largest_input e))

pub put_bad : (room : ℕ) → information_put None room ≡ refused 2 0
unfolding information_put
put_bad room = refl

module _ (block : Judged) (room : ℕ) where
  pub put_room : room < 7 → information_put (Some block) room ≡ refused 11 0
  unfolding information_put
  put_room h = rw (lt-leb 7 room h)

  pub put_done : 7 ≤ room → information_put (Some block) room ≡ done block.information block.corrected
  unfolding information_put
  put_done h = rw (le-leb 7 room h)

module _ (mode : ℕ) (block : List ℕ) (room : ℕ) where
  pub judging_length : (length block ≡ 8 → ⊥) → codeblock_judging mode block room ≡ refused 10 0
  unfolding codeblock_judging
  judging_length h = rw (ne_eqb (length block) 8 h)

  pub judging_other : length block ≡ 8 → largest_mode < mode → codeblock_judging mode block room ≡ refused 12 0
  unfolding codeblock_judging
  judging_other h m = rw (eq-eqb (length block) 8 h, lt-leb mode largest_mode m)

  pub judging_mode : length block ≡ 8 → mode ≤ largest_mode → codeblock_judging mode block room ≡ information_put (judged (mode_of mode) block) room
  unfolding codeblock_judging
  judging_mode h m = rw (eq-eqb (length block) 8 h, le-leb mode largest_mode m)

-- what the judge's outcome says of the number, the lent output and the count of corrected bits
pub told_block : {o p : Outcome ℕ} → o ≡ p → (old : List ℕ)
    → (number_of (answer p) ≡ number_of (answer o)) × ((after p old ≡ after o old) × (bits_corrected (answer p) ≡ bits_corrected (answer o)))
told_block e old =
    let f = sym e in
    (ap (λ x. number_of (answer x)) f, (ap (λ x. after x old) f, ap (λ x. bits_corrected (answer x)) f))
