-- The seven octets, two and two and two and one: codeblock/proofs/ByTable, `seven_octets`.
use borrow.Author.Rules.{rules}
use mathlib.Core.Path.{◌≡◌, sym, ap, ◌∙◌}
use Prim.Native.Nat.{ℕ, ◌*◌, ◌/◌}
use native.Mathlib.Omega.{arith}
use lib.Bits.{bit_xor}
use lib.ListN.{get_or}
use Rattle.base.specs.Register.{shift_bits}
use Rattle.codeblock.specs.Codeblock.{generator, error_control}
use Rattle.codeblock.proofs.Codeblock.{first_seven}
use Rattle.codeblock.proofs.ByTable.{seven_octets}
use Rattle.encoded_data.proofs.table.Tables.control_of.Goals as goal

halved : (x y : ℕ) → x ≡ y * 2 → x / 2 ≡ y
halved x y e = omega (arith, e)

pub returns : goal.returns
returns c =
    let s = c.args.information.now in
    let next : ℕ → ℕ → ℕ = shift_bits 6 generator 8 in
    let two = next (next 0 (get_or s 0 0)) (get_or s 1 0) in
    let four = next (next two (get_or s 2 0)) (get_or s 3 0) in
    let six = next (next four (get_or s 4 0)) (get_or s 5 0) in
    let a : c.next_two-two.result / 2 ≡ two = halved _ two c.next_two-two.ensures in
    let b : c.next_two-four.result / 2 ≡ four =
    halved _ four (c.next_two-four.ensures ∙ ap (λ (r : ℕ). next (next r (get_or s 2 0)) (get_or s 3 0) * 2) a) in
    let d : c.next_two-six.result / 2 ≡ six =
    halved _ six (c.next_two-six.ensures ∙ ap (λ (r : ℕ). next (next r (get_or s 4 0)) (get_or s 5 0) * 2) b) in
    ap (λ (x : ℕ). bit_xor x 0b1111_1110) (c.next_parity.ensures ∙ ap (λ (r : ℕ). next r (get_or s 6 0) * 2) d)
    ∙ seven_octets (get_or s 0 0) (get_or s 1 0) (get_or s 2 0) (get_or s 3 0) (get_or s 4 0) (get_or s 5 0) (get_or s 6 0)
    ∙ ap error_control (sym (first_seven s (search rules)))
