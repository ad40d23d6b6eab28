-- Clause 6.2.4: the Frame Error Control Field.
use Rattle.std.specs.Prelude.{ℕ, ◌/◌, ◌%◌, List, [], ◌∷◌}
use Rattle.base.specs.Register.{register}

-- clause 6.2.4.2: G(X) = X^16 + X^12 + X^5 + 1, less its highest term
abbrev pub generator : ℕ
generator = 0x1021

-- clause 6.2.4.2: the presetting polynomial L(X), all ones
abbrev pub preset : ℕ
preset = 0xFFFF

-- clause 6.2.4.2, note 1: the shift register preset to ones. What it holds is FECF = [X^16 M(X) + X^(n-16) L(X)] modulo G(X):
-- proofs/Remainder, `fecf_remainder` and `fecf_only`.
unfoldable pub fecf_of : List ℕ → ℕ
fecf_of message = register 15 generator preset message

-- clause 6.2.4.3: the syndrome S(X) = [X^16 C*(X) + X^n L(X)] modulo G(X) of a received block with its FECF: by the same register
unfoldable pub syndrome_of : List ℕ → ℕ
syndrome_of block = register 15 generator preset block

-- clause 6.2.4.1: the field's two octets, the most significant bit first
abbrev pub field_octets : ℕ → List ℕ
field_octets value = (value / 256) ∷ (value % 256) ∷ []
