-- Clause 6.2.4: the FECF and the syndrome are remainders by X^16 + X^12 + X^5 + 1, the register preset to ones as L(X) asks; no other number is the FECF.
use mathlib.Core.Path.{◌≡◌}
use mathlib.Core.List.{List}
use Prim.Native.Nat.{ℕ}
use native.Mathlib.Omega.{arith}
use Rattle.base.specs.Octets.{Octets, octet_bits}
use Rattle.base.specs.Polynomial.{horner, Remainder}
use Rattle.base.proofs.Division.{register_remainder, one_remainder}
use Rattle.fecf.specs.Fecf.{generator, preset, fecf_of, syndrome_of}

-- X^16, and G(X) whole
abbrev pub x¹⁶ : ℕ
x¹⁶ = 0x1_0000

abbrev pub g : ℕ
g = 0x1_1021

-- clause 6.2.4.2: FECF = [X^16 M(X) + X^(n-16) L(X)] modulo G(X)
pub fecf_remainder : (message : List ℕ) → Octets message → Remainder 16 g (horner x¹⁶ preset (octet_bits message)) (fecf_of message)
unfolding fecf_of
fecf_remainder message h = register_remainder 15 generator (omega arith) message preset (omega arith) h

pub fecf_only : (message : List ℕ) (r : ℕ) → Octets message → Remainder 16 g (horner x¹⁶ preset (octet_bits message)) r → r ≡ fecf_of message
fecf_only message r h m = one_remainder 16 g (omega arith) (omega arith) (horner x¹⁶ preset (octet_bits message)) r (fecf_of message) m (fecf_remainder message h)

-- clause 6.2.4.3: S(X) = [X^16 C*(X) + X^n L(X)] modulo G(X)
pub syndrome_remainder : (block : List ℕ) → Octets block → Remainder 16 g (horner x¹⁶ preset (octet_bits block)) (syndrome_of block)
unfolding syndrome_of
syndrome_remainder block h = register_remainder 15 generator (omega arith) block preset (omega arith) h
