-- The field by the octet that holds it; where that octet is missing, so are the field's bits.
use mathlib.Core.Path.{◌≡◌, refl, sym, ap, ◌∙◌}
use mathlib.Core.List.{List}
use Prim.Native.Nat.{ℕ, ◌<◌}
use native.Mathlib.Omega.{arith}
use lib.ListN.{length, take, drop_of_length-le}
use Rattle.base.specs.Fields.{value_of, field_at}
use Rattle.base.specs.Octets.{octet_bits}
use Rattle.base.proofs.Fields.{field_in_octet, length_bits}
use Rattle.frame_header.specs.Header.{virtual_channel_identifier}
use Rattle.channels.proofs.frames.channel_of.Goals as goal

missing : (s : List ℕ) → length s < 3 → 0 ≡ field_at virtual_channel_identifier s
unfolding field_at value_of
missing s h = sym (ap (λ (bits : List ℕ). value_of 0 (take 6 bits)) (drop_of_length-le (octet_bits s) {i = 16} (omega (arith, length_bits s))))

pub returns-in_default : goal.returns-in_default
returns-in_default c = missing c.args.octets.now c.in_default.len_below

pub returns-in-len3-up : goal.returns-in-len3-up
returns-in-len3-up c =
    let s = c.args.octets.now in
    let o = c.type_inv.octets 2 in
    sym (field_in_octet s 2 0 6 2 refl (omega (arith, c.in-len3-up.len_at_least)) o.fits ∙ omega (arith, o.fits))
