-- One numbering of the kinds of frames: reading tells a frame by the number that octet 17 of the sender's answer has where it was handed down.
use Rattle.std.specs.Prelude.{Some}
use mathlib.Core.Path.{◌≡◌, refl}
use Prim.Native.Nat.{ℕ}
use Rattle.frame.specs.declared.Kind.TheVariants as frame
use Rattle.sender_values.specs.declared.Handed.TheVariants as handed
use Rattle.sender.specs.Answers.{kind_handed}
use Rattle.sender_octets.specs.Answer.{kind_number as answer_kind}
use Rattle.pondreszi_numbers.specs.Numbers.{kind_number}

pub kinds_alike : (n i : ℕ)
    → (kind_number (frame.Ad n) ≡ answer_kind (kind_handed (Some (handed.Ad n i))))
    × ((kind_number frame.Bd ≡ answer_kind (kind_handed (Some handed.Bd)))
    × ((kind_number frame.Unlock ≡ answer_kind (kind_handed (Some handed.Unlock))) × (kind_number (frame.SetVr n) ≡ answer_kind (kind_handed (Some (handed.SetVr n))))))
kinds_alike n i = (refl, (refl, (refl, refl)))
