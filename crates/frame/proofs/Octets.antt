-- The frame's length, the checks of its header and its command, by the octets that hold them.
use mathlib.Core.Path.{◌≡◌, refl, sym, ap, ◌∙◌}
use mathlib.Core.Bool.{Bool, true, false}
use mathlib.Core.List.{List, ◌∷◌}
use Prim.Native.Nat.{ℕ, ◌+◌, ◌-◌, ◌*◌, ◌/◌, ◌%◌, ◌<◌, ◌≤◌}
use native.Mathlib.Omega.{arith}
use borrow.Author.Tests.{eq-eqb}
use lib.Dec.{leb, eqb}
use lib.ListN.{length, get_or, length-take, length-drop}
use Rattle.base.specs.Choice.{pick, must, both}
use Rattle.base.specs.Limits.{smallest_frame, largest_frame}
use Rattle.base.specs.Octets.{same}
use Rattle.base.proofs.Lists.{same_length_not, take_next}
use Rattle.base.proofs.Tests.{both_false, both_true}
use Rattle.frame_header.specs.Header.{valid_header}
use Rattle.frame_header.proofs.Octets.{o, control_is, spacecraft_is, channel_is, length_is}
use Rattle.frame.specs.Frame.{unlock_command, set_vr_command, total_of, data_field, is_command, command_held, header_refusal, content_refusal, refusal_of}

-- the checks of the header by octets, once its fixed fields are judged
abbrev pub checks : List ℕ → ℕ → ℕ → ℕ → ℕ
checks s n spacecraft channel =
    must (valid_header s) 6
    (must (eqb (o s 0 % 4 * 256 + o s 1) spacecraft) 7
    (must (eqb (o s 2 / 4) channel) 7
    (must (pick (eqb (o s 0 / 16 % 2) 1) (is_command (data_field s n)) true) 9 0)))

-- of octets s, of which eight are there and each is below 256
module _ (s : List ℕ) (octets : (i : ℕ) → get_or s i 0 < 256) (enough : 8 ≤ length s) where
  pub total_is : total_of s ≡ o s 2 % 4 * 256 + o s 3 + 1
  unfolding total_of
  total_is = ap (λ (x : ℕ). x + 1) (length_is s octets (omega arith))

  -- ten bits of length
  pub total_most : total_of s ≤ largest_frame
  total_most = omega (arith, total_is, octets 3)

  pub header_checks : (n spacecraft channel : ℕ) → header_refusal s n spacecraft channel ≡ checks s n spacecraft channel
  unfolding header_refusal command_held
  header_checks n spacecraft channel =
      rw (control_is s octets (omega arith), spacecraft_is s octets (omega arith), channel_is s octets (omega arith))

-- the checks of lengths by the number n that the header says, and then those of the content
abbrev pub length_checks : List ℕ → ℕ → ℕ → ℕ → ℕ
length_checks s n spacecraft channel =
    must (leb smallest_frame (length s)) 4
    (must (leb smallest_frame n) 4
    (must (leb n (length s)) 4
    (must (leb (length s) (n + 6)) 5
    (content_refusal s n spacecraft channel))))

pub length_checks_lem : (s : List ℕ) (n spacecraft channel : ℕ) → n ≡ total_of s → refusal_of s spacecraft channel ≡ length_checks s n spacecraft channel
unfolding refusal_of
length_checks_lem s n spacecraft channel e = ap (λ (m : ℕ). length_checks s m spacecraft channel) (sym e)

-- the data field of a frame of n octets
pub length_data : (s : List ℕ) (n : ℕ) → 8 ≤ n → n ≤ length s → length (data_field s n) ≡ n - 7
unfolding data_field
length_data s n h k = simp (length-take, length-drop) (omega arith)

-- a command of one octet, of three, and none of any other length
pub command_one : (s : List ℕ) → 8 ≤ length s → is_command (data_field s 8) ≡ eqb (o s 5) 0x00
unfolding is_command data_field
command_one s h =
    ap (λ (f : List ℕ). pick (same f unlock_command) true (same f (set_vr_command (get_or f 2 0)))) (take_next s 0 5 (omega arith))
    ∙ go (eqb (o s 5) 0) (eqb (o s 5) 0x82)
  where
    go : (a b : Bool) → pick (both a true) true (both b false) ≡ a
    go true b = refl
    go false b = both_false b

pub command_three : (s : List ℕ) → 10 ≤ length s → is_command (data_field s 10) ≡ both (eqb (o s 5) 0x82) (eqb (o s 6) 0x00)
unfolding is_command data_field
command_three s h =
    ap (λ (f : List ℕ). pick (same f unlock_command) true (same f (set_vr_command (get_or f 2 0))))
    (take_next s 2 5 (omega arith) ∙ ap (λ (l : List ℕ). o s 5 ∷ l) (take_next s 1 6 (omega arith) ∙ ap (λ (l : List ℕ). o s 6 ∷ l) (take_next s 0 7 (omega arith))))
    ∙ go (eqb (o s 5) 0) (eqb (o s 5) 0x82) (eqb (o s 6) 0) (eqb (o s 7) (o s 7)) (eq-eqb (o s 7) (o s 7) refl)
  where
    go : (a b c d : Bool) → d ≡ true → pick (both a false) true (both b (both c (both d true))) ≡ both b c
    go true true c d e = ap (λ (x : Bool). both c (both x true)) e ∙ both_true c
    go true false c d e = refl
    go false true c d e = ap (λ (x : Bool). both c (both x true)) e ∙ both_true c
    go false false c d e = refl

pub command_other : (s : List ℕ) (n : ℕ) → 8 ≤ n → n ≤ length s → (n ≡ 8 → ⊥) → (n ≡ 10 → ⊥) → is_command (data_field s n) ≡ false
unfolding is_command
command_other s n h k a b =
    let l = length_data s n h k in
    rw (same_length_not (data_field s n) unlock_command (λ e. a (omega arith)), same_length_not (data_field s n) (set_vr_command (get_or (data_field s n) 2 0)) (λ e. b (omega arith)))
