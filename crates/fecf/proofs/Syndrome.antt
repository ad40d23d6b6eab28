-- Clause 6.2.4.3: the syndrome of a block is zero exactly when its last two octets are the FECF of those before them.
use mathlib.Core.Path.{◌≡◌, refl, sym, ap, ◌∙◌}
use mathlib.Core.Bool.{Bool, true, false}
use mathlib.Core.List.{List, [], ◌∷◌, ◌++◌}
use Prim.Native.Nat.{ℕ, ◌/◌, ◌%◌, ◌<◌}
use native.Mathlib.Omega.{arith}
use borrow.Author.Tests.{eq-eqb, ne_eqb, eqb-true, eqb-false}
use lib.Dec.{eqb}
use Rattle.base.specs.Octets.{Octets}
use Rattle.base.specs.Register.{register}
use Rattle.base.proofs.Register.{register_lt}
use Rattle.fecf.specs.Fecf.{generator, preset, fecf_of, syndrome_of, field_octets}
use Rattle.fecf.proofs.Table.{octet, pair_same, own_pair}

pub fecf_lt : (message : List ℕ) → Octets message → fecf_of message < 65536
unfolding fecf_of
fecf_lt message h = register_lt 15 generator (omega arith) message preset (omega arith) h

-- octets behind others go into the register that the others leave
pub register_append : (xs ys : List ℕ) (r : ℕ) → register 15 generator r (xs ++ ys) ≡ register 15 generator (register 15 generator r xs) ys
unfolding register
register_append [] ys r = refl
register_append (x ∷ xs) ys r = register_append xs ys (octet r x)

-- the syndrome of a message with a field: the field's two octets into the message's register
behind : (message : List ℕ) (value : ℕ) → syndrome_of (message ++ field_octets value) ≡ octet (octet (fecf_of message) (value / 256)) (value % 256)
unfolding syndrome_of fecf_of register
behind message value = register_append message (field_octets value) preset

pub syndrome_zero : (message : List ℕ) → Octets message → syndrome_of (message ++ field_octets (fecf_of message)) ≡ 0
syndrome_zero message h = behind message (fecf_of message) ∙ own_pair (fecf_of message) (fecf_lt message h)

pub syndrome_only : (message : List ℕ) (value : ℕ) → Octets message → value < 65536 → syndrome_of (message ++ field_octets value) ≡ 0 → value ≡ fecf_of message
syndrome_only message value h hv e =
    let f = fecf_of message in
    let hf : fecf_of message < 65536 = fecf_lt message h in
    let s : (value / 256 ≡ f / 256) × (value % 256 ≡ f % 256) =
    pair_same f (value / 256) (value % 256) (f / 256) (f % 256) hf (omega arith) (omega arith) (omega arith) (omega arith)
    (sym (behind message value) ∙ e ∙ sym (own_pair f hf)) in
    omega arith

pub syndrome_test : (message : List ℕ) (value : ℕ) → Octets message → value < 65536 → eqb (syndrome_of (message ++ field_octets value)) 0 ≡ eqb value (fecf_of message)
syndrome_test message value h hv = go (eqb value (fecf_of message)) refl
  where
    go : (b : Bool) → eqb value (fecf_of message) ≡ b → eqb (syndrome_of (message ++ field_octets value)) 0 ≡ b
    go true t =
        eq-eqb (syndrome_of (message ++ field_octets value)) 0
        (ap (λ (x : ℕ). syndrome_of (message ++ field_octets x)) (eqb-true value (fecf_of message) t) ∙ syndrome_zero message h)
    go false t =
        ne_eqb (syndrome_of (message ++ field_octets value)) 0
        (λ e. eqb-false value (fecf_of message) t (syndrome_only message value h hv e))
